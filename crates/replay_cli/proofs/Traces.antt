-- A trace that was read, whole or up to its limit.
use Rattle.std.proofs.Common.{◌≡◌, ℕ, ◌<◌, ◌≤◌, ◌++◌, Bool, true, false, List, [], length, take, Option, Some, None, Ok, IfSome, refl, sym, ap, ◌∙◌, arith}
use Rattle.std.specs.Prelude.{nat_lt}
use Rattle.std.proofs.lemmas.Bool.{cond-true, cond-false}
use Rattle.std.proofs.lemmas.Bool.Decides.{nat_tests}
use Rattle.edit_base.specs.declared.bounds.TheConstants.Limits.{TRACE_BYTES}
use Rattle.edit_model.specs.Machine.{Setup}
use Rattle.edit_model.specs.Minds.{Mind}
use Rattle.trace_model.specs.TraceLines.{trace_lines, ended_lines, open_line}
use Rattle.trace_model.specs.Output.{Played, first_session, run_lines, check_lines, ended, overrun, checked, overrun_check, within_limit, play, check}
use Rattle.replay_io.specs.declared.whole_files.ReadEnd.TheVariants.{Whole, Over}
use Rattle.replay_io.specs.Outside.{Gains, TookMore}
use Rattle.replay_cli.specs.declared.status.Status.{Status}
use Rattle.replay_cli.specs.declared.status.Status.TheVariants as status
use Rattle.replay_cli.specs.declared.requests.Task.{Task}
use Rattle.replay_cli.specs.declared.requests.Task.TheVariants.{Play, Check}
use Rattle.replay_cli.specs.Steps.{lines_in, close_check}
use Rattle.replay_cli.specs.SetUps.{given_lines}
use Rattle.replay_cli.specs.Runs.{given, told_by, Ends, Takes, LeavesTrace, IsSet, Leaves}

given-within : (r : Setup) (minds : List Mind) (task : Task) (trace : List ℕ) → length trace ≤ TRACE_BYTES
    → given r minds task trace ≡ given_lines r minds task false trace
unfolding play check
given-within r minds Play trace within =
    cond-false (nat_lt TRACE_BYTES (length trace))
    (run_lines r (overrun (open_line (within_limit trace))) 1 (first_session minds) (ended_lines (within_limit trace)))
    (run_lines r ended 1 (first_session minds) (trace_lines trace)) (grind (arith, nat_tests))
given-within r minds Check trace within =
    cond-false (nat_lt TRACE_BYTES (length trace))
    (check_lines minds (overrun_check minds (open_line (within_limit trace))) 1 0 (ended_lines (within_limit trace)))
    (check_lines minds (checked minds) 1 0 (trace_lines trace)) (grind (arith, nat_tests))

given-over : (r : Setup) (minds : List Mind) (task : Task) (trace : List ℕ) → TRACE_BYTES < length trace
    → given r minds task trace ≡ given_lines r minds task true (take TRACE_BYTES trace)
unfolding play check
given-over r minds Play trace over =
    cond-true (nat_lt TRACE_BYTES (length trace))
    (run_lines r (overrun (open_line (within_limit trace))) 1 (first_session minds) (ended_lines (within_limit trace)))
    (run_lines r ended 1 (first_session minds) (trace_lines trace)) (grind (arith, nat_tests))
given-over r minds Check trace over =
    cond-true (nat_lt TRACE_BYTES (length trace))
    (check_lines minds (overrun_check minds (open_line (within_limit trace))) 1 0 (ended_lines (within_limit trace)))
    (check_lines minds (checked minds) 1 0 (trace_lines trace)) (grind (arith, nat_tests))

-- what was taken of a trace within its limit, and of one over it
takes-whole : (trace : List ℕ) (answer : Status) (left : Option (List ℕ)) → length trace ≤ TRACE_BYTES → left ≡ Some []
    → (answer ≡ status.TraceTooLong → false ≡ true) → Takes trace answer left
takes-whole trace status.Done left within none uncut = none
takes-whole trace status.TraceTooLong left within none uncut = let no : false ≡ true = uncut refl in absurd (cc)
takes-whole trace status.NoMemory left within none uncut = tt
takes-whole trace answer left within none uncut = (λ short. none, λ long. absurd (omega (arith, within, long)))

takes-more : (trace : List ℕ) (answer : Status) (left : Option (List ℕ)) → TRACE_BYTES < length trace → TookMore TRACE_BYTES trace left
    → (answer ≡ status.Done → true ≡ false) → Takes trace answer left
takes-more trace status.Done left over more undone = let no : true ≡ false = undone refl in absurd (cc)
takes-more trace status.TraceTooLong left over more undone = more
takes-more trace status.NoMemory left over more undone = tt
takes-more trace answer left over more undone = (λ short. absurd (omega (arith, over, short)), λ long. more)

leaves-taken : (trace : List ℕ) (played : Played) (answer : Status) (left old new : Option (List ℕ)) (minds : List Mind) → Takes trace answer left
    → Ends played answer old new minds → LeavesTrace trace played answer left old new minds
leaves-taken trace played status.ReadFault left old new minds takes ends = absurd ends
leaves-taken trace played answer left old new minds takes ends = (takes, ends)

-- a run that came to an end was set up
set-ends : (played : Played) (answer : Status) (old new : Option (List ℕ)) (minds : List Mind) → Ends played answer old new minds → IsSet answer
set-ends played status.Usage old new minds ends = ends
set-ends played (status.SettingsFault kind) old new minds ends = ends
set-ends played answer old new minds ends = tt

-- read whole, and run or checked
pub leaves-whole : (r : Setup) (minds : List Mind) (task : Task) (told : Option (List ℕ)) (gained trace : List ℕ) (answer : Status)
    (left old new : Option (List ℕ)) (after : List Mind)
    → length gained ≤ TRACE_BYTES → trace ≡ gained
    → Gains (Ok Whole) told TRACE_BYTES gained left → (answer ≡ status.TraceTooLong → false ≡ true)
    → Ends (given_lines r minds task false trace) answer old new after
    → Leaves (told_by task minds (Ok r) told) answer left old new after
leaves-whole r minds task None gained trace answer left old new after within is gains uncut ends =
    set-ends (given_lines r minds task false trace) answer old new after ends
leaves-whole r minds task (Some bytes) gained trace answer left old new after within is gains uncut ends =
    let short : length bytes ≤ TRACE_BYTES = omega (arith, within, ap length gains.0) in
    let e = ap (given_lines r minds task false) (is ∙ gains.0) ∙ sym (given-within r minds task bytes short) in
    leaves-taken bytes (given r minds task bytes) answer left old new after (takes-whole bytes answer left short gains.1 uncut) (rw e at ends)

-- more than the limit, and its front run or checked
pub leaves-over : (r : Setup) (minds : List Mind) (task : Task) (told : Option (List ℕ)) (gained trace : List ℕ) (answer : Status)
    (left old new : Option (List ℕ)) (after : List Mind)
    → trace ≡ gained
    → Gains (Ok Over) told TRACE_BYTES gained left → (answer ≡ status.Done → true ≡ false)
    → Ends (given_lines r minds task true trace) answer old new after
    → Leaves (told_by task minds (Ok r) told) answer left old new after
leaves-over r minds task None gained trace answer left old new after is gains undone ends =
    set-ends (given_lines r minds task true trace) answer old new after ends
leaves-over r minds task (Some bytes) gained trace answer left old new after is gains undone ends =
    let long : TRACE_BYTES < length bytes = omega (arith, gains.1.1, gains.1.2) in
    let e = ap (given_lines r minds task true) (is ∙ gains.0) ∙ sym (given-over r minds task bytes long) in
    leaves-taken bytes (given r minds task bytes) answer left old new after (takes-more bytes answer left long gains.1 undone) (rw e at ends)

-- what stands in a vector that was empty before is what was gained
pub gained-alone : (seen now before gained : List ℕ) → seen ≡ now → now ≡ before ++ gained → before ≡ [] → seen ≡ gained
gained-alone seen now before gained is more none = is ∙ more ∙ ap (λ front. front ++ gained) none

-- lines that are read and not run are those that `check` is given
pub given-check : (r : Setup) (minds : List Mind) (task : Task) (is_cut : Bool) (bytes : List ℕ) (answer : Status) (old new : Option (List ℕ))
    (after : List Mind) → task ≡ Check
    → Ends (check_lines minds (close_check minds is_cut bytes) 1 0 (lines_in is_cut bytes)) answer old new after
    → Ends (given_lines r minds task is_cut bytes) answer old new after
given-check r minds Play is_cut bytes answer old new after is ends = absurd (cc)
given-check r minds Check is_cut bytes answer old new after is ends = ends

pub unread-ends : (played : Played) (answer : Status) (old new : Option (List ℕ)) (minds : List Mind) → Ends played answer old new minds
    → answer ≡ status.ReadFault → ⊥
unread-ends played answer old new minds ends is = rw is at ends
