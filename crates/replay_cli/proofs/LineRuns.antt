-- How the runs of lines join.
use Rattle.std.proofs.Common.{◌≡◌, ℕ, ◌+◌, List, [], ◌∷◌, ◌++◌, length, take, Option, Result, Ok, Err, IfOk, Bool, true, false, cond, refl, sym, ap, ◌∙◌, append_assoc}
use Rattle.std.specs.List.{concat}
use Rattle.std.proofs.lemmas.List.{append-nil}
use Rattle.std.proofs.Math.Seq.{take-append-add}
use Rattle.edit_model.specs.Machine.{Setup}
use Rattle.edit_model.specs.Minds.{Mind}
use Rattle.trace_model.specs.declared.commands.Command.{Command}
use Rattle.trace_model.specs.TraceLines.{is_blank, open_line}
use Rattle.trace_model.specs.Reading.{read_command, IsFitting}
use Rattle.trace_model.specs.declared.faults.TraceFault.{TraceFault}
use Rattle.trace_model.specs.Output.{LineKind, blank, command, faulty, as_kind, line_kind, line_run, run_lines, Played, Session, Ending, finished, faulty_line, too_long, stopped, ended, cut_off, behind, bytes_of, command_bytes, session_behind}
use Rattle.trace_model.proofs.Readings.{fits-read_command}
use Rattle.replay_io.specs.Outside.{with_more}
use Rattle.replay_cli.specs.declared.player.LineOutcome.{LineOutcome}
use Rattle.replay_cli.specs.declared.player.LineOutcome.TheVariants.{Next, Stop}
use Rattle.replay_cli.specs.declared.status.Status.{Status}
use Rattle.replay_cli.specs.declared.status.Status.TheVariants as status
use Rattle.replay_cli.specs.Runs.{EndsAt, Ends}
use Rattle.replay_cli.specs.Steps.{lines_in, close_of, behind_all, Reached, LineGives, CommandGives}
use Rattle.replay_cli.proofs.Known.{with_more-none, with_more-twice, concat-append, take-before}

-- ---- one line

pub run-line : (r : Setup) (close : ℕ → Session → Played) (number : ℕ) (session : Session) (line : List ℕ) (lines : List (List ℕ)) (it : LineKind)
    → it ≡ line_kind line
    → run_lines r close number session (line ∷ lines) ≡ line_run r number session it (λ next. run_lines r close (number + 1) next lines)
unfolding run_lines
run-line r close number session line lines it is = ap (λ l. line_run r number session l (λ next. run_lines r close (number + 1) next lines))
    (sym is)

pub run-nothing : (r : Setup) (close : ℕ → Session → Played) (number : ℕ) (session : Session)
    → run_lines r close number session [] ≡ close number session
unfolding run_lines
run-nothing r close number session = refl

-- nothing was written yet
pub reached-itself : (whole left : Played) (known : Option (List ℕ)) → whole ≡ left → Reached whole left known known
reached-itself whole left known is = record { pieces = []; is = is; written = with_more-none known }

-- ---- a command that was read

fitting : (asked : Command) (found : Result Command TraceFault) → IfOk found IsFitting → command asked ≡ as_kind found → IsFitting asked
fitting asked (Err it) fits is = absurd (cc)
fitting asked (Ok other) fits is = let e : asked ≡ other = cc in rw e fits

fitting_unless_blank : (asked : Command) (test : Bool) (found : Result Command TraceFault) → IfOk found IsFitting
    → command asked ≡ cond test blank (as_kind found) → IsFitting asked
fitting_unless_blank asked true found fits is = absurd (cc)
fitting_unless_blank asked false found fits is = fitting asked found fits is

pub fits-line_kind : (asked : Command) (line : List ℕ) → command asked ≡ line_kind line → IsFitting asked
unfolding line_kind
fits-line_kind asked line is = fitting_unless_blank asked (is_blank line) (read_command line) (fits-read_command line) is

-- ---- what was written before

bytes-behind_all : (pieces : List (List ℕ)) (left : Played) → concat pieces ++ bytes_of left ≡ bytes_of (behind_all pieces left)
bytes-behind_all pieces left =
    sym (append_assoc (concat pieces) (concat left.commands) left.last) ∙ ap (λ front. front ++ left.last) (sym (concat-append pieces left.commands))

-- what is written behind the pieces is written behind all that was known before
carried : (pieces : List (List ℕ)) (old now new : Option (List ℕ)) (more : List ℕ) → now ≡ with_more old (concat pieces) → new ≡ with_more now more
    → new ≡ with_more old (concat pieces ++ more)
carried pieces old now new more before after =
    after ∙ ap (λ known. with_more known more) before ∙ with_more-twice old (concat pieces) more

all_written : (whole left : Played) (old now new : Option (List ℕ)) → Reached whole left old now → new ≡ with_more now (bytes_of left)
    → new ≡ with_more old (bytes_of whole)
all_written whole left old now new reached writes =
    carried reached.pieces old now new (bytes_of left) reached.written writes
    ∙ ap (with_more old) (bytes-behind_all reached.pieces left ∙ ap bytes_of (sym reached.is))

some_written : (whole left : Played) (old now new : Option (List ℕ)) (count : ℕ) → Reached whole left old now → new ≡ with_more now (take count (bytes_of left))
    → (n : ℕ) × (new ≡ with_more old (take n (bytes_of whole)))
some_written whole left old now new count reached writes =
    let pieces = reached.pieces in (
      length (concat pieces) + count,
      carried pieces old now new (take count (bytes_of left)) reached.written writes
          ∙ ap (with_more old) (sym (take-append-add (concat pieces) (bytes_of left) count)
          ∙ ap (take (length (concat pieces) + count)) (bytes-behind_all pieces left ∙ ap bytes_of (sym reached.is))),
    )

some_commands : (whole left : Played) (old now new : Option (List ℕ)) (count : ℕ) → Reached whole left old now
    → new ≡ with_more now (concat (take count left.commands))
    → (n : ℕ) × (new ≡ with_more old (concat (take n whole.commands)))
some_commands whole left old now new count reached writes =
    let pieces = reached.pieces in (
      length pieces + count,
      carried pieces old now new (concat (take count left.commands)) reached.written writes
          ∙ ap (with_more old) (sym (concat-append pieces (take count left.commands))
          ∙ ap concat (sym (take-append-add pieces left.commands count) ∙ ap (λ played. take (length pieces + count) played.commands) (sym reached.is))),
    )

same_ending : (whole left : Played) (old now : Option (List ℕ)) (ending : Ending) → Reached whole left old now → left.ending ≡ ending → whole.ending ≡ ending
same_ending whole left old now ending reached is = ap (λ played. played.ending) reached.is ∙ is

all_behind : (whole left : Played) (ending : Ending) (old now new : Option (List ℕ)) (minds : List Mind) → Reached whole left old now
    → EndsAt ending left now new minds → EndsAt ending whole old new minds
all_behind whole left ending old now new minds reached ends = (
  same_ending whole left old now ending reached ends.0,
  all_written whole left old now new reached ends.1,
  ends.2 ∙ ap (λ played. played.minds) (sym reached.is),
)

-- the rest of a run ends as the whole run does
pub ends_behind : (whole left : Played) (answer : Status) (old now new : Option (List ℕ)) (minds : List Mind) → Reached whole left old now
    → Ends left answer now new minds → Ends whole answer old new minds
ends_behind whole left status.Done old now new minds reached ends = all_behind whole left finished old now new minds reached ends
ends_behind whole left (status.TraceFault line kind) old now new minds reached ends =
    all_behind whole left (faulty_line line kind) old now new minds reached ends
ends_behind whole left status.TraceTooLong old now new minds reached ends = all_behind whole left too_long old now new minds reached ends
ends_behind whole left status.WriteFault old now new minds reached ends = some_written whole left old now new ends.0 reached ends.1
ends_behind whole left status.NoMemory old now new minds reached ends = some_commands whole left old now new ends.0 reached ends.1
ends_behind whole left answer old now new minds reached ends = absurd ends

-- the runs join
pub reached-twice : (whole left last : Played) (old now new : Option (List ℕ)) → Reached whole left old now → Reached left last now new
    → Reached whole last old new
reached-twice whole left last old now new first second = record {
  pieces = first.pieces ++ second.pieces;
  is = first.is ∙ ap (behind_all first.pieces) second.is ∙ joined first.pieces second.pieces last;
  written = carried first.pieces old now new (concat second.pieces) first.written second.written
      ∙ ap (with_more old) (sym (concat-append first.pieces second.pieces));
}
  where
    joined : (xs ys : List (List ℕ)) (played : Played) → behind_all xs (behind_all ys played) ≡ behind_all (xs ++ ys) played
    joined xs ys played =
        ap (λ commands. record { commands = commands; last = played.last; ending = played.ending; minds = played.minds })
        (sym (append_assoc xs ys played.commands))

-- ---- a command that was written, or wasn't

-- the run behind a command
pub command-goes : (r : Setup) (number : ℕ) (session : Session) (line : List ℕ) (asked : Command) (after : Session) (end : LineOutcome)
    (old new : Option (List ℕ)) → command asked ≡ line_kind line
    → CommandGives (command_bytes r number session asked) (session_behind r session asked) after end old new
    → LineGives r number session line after end old new
command-goes r number session line asked after Next old new is gives = λ close lines. record {
  pieces = command_bytes r number session asked ∷ [];
  is = run-line r close number session line lines (command asked) is
      ∙ ap (λ next. behind (command_bytes r number session asked) (run_lines r close (number + 1) next lines)) (sym gives.0);
  written = gives.1 ∙ ap (with_more old) (sym (append-nil (command_bytes r number session asked)));
}
command-goes r number session line asked after (Stop status.WriteFault) old new is gives = λ close lines.
    let bytes = command_bytes r number session asked in
    let rest = run_lines r close (number + 1) (session_behind r session asked) lines in
    let t = take-before bytes (concat rest.commands ++ rest.last) gives.0 in (
      t.0,
      gives.1 ∙ ap (with_more old) (t.1 ∙ ap (take t.0)
          (sym (append_assoc bytes (concat rest.commands) rest.last) ∙ ap bytes_of (sym (run-line r close number session line lines (command asked) is)))),
    )
command-goes r number session line asked after (Stop status.NoMemory) old new is gives = λ close lines. (0, gives ∙ with_more-none old)
command-goes r number session line asked after (Stop answer) old new is gives = absurd gives

-- ---- lines without output

pub blank-goes : (r : Setup) (number : ℕ) (session : Session) (line : List ℕ) (known : Option (List ℕ)) → blank ≡ line_kind line
    → LineGives r number session line session Next known known
blank-goes r number session line known is = λ close lines.
    reached-itself (run_lines r close number session (line ∷ lines)) (run_lines r close (number + 1) session lines) known
    (run-line r close number session line lines blank is)

pub faulty-stops : (r : Setup) (number : ℕ) (session : Session) (line : List ℕ) (known : Option (List ℕ)) (kind : TraceFault) → faulty kind ≡ line_kind line
    → LineGives r number session line session (Stop (status.TraceFault number kind)) known known
faulty-stops r number session line known kind is = λ close lines.
    let e = run-line r close number session line lines (faulty kind) is in (
      ap (λ played. played.ending) e,
      with_more-none known ∙ ap (λ played. with_more known (bytes_of played)) (sym e),
      sym (ap (λ played. played.minds) e),
    )

-- ---- the end of the trace

reached-end : (r : Setup) (whole : Played) (close : ℕ → Session → Played) (number : ℕ) (session : Session) (lines : List (List ℕ))
    (old now : Option (List ℕ)) → lines ≡ []
    → Reached whole (run_lines r close number session lines) old now → Reached whole (close number session) old now
reached-end r whole close number session lines old now none reached =
    let e = ap (run_lines r close number session) none ∙ run-nothing r close number session in rw e at reached

cut-close : (is_cut : Bool) (trace rest : List ℕ) (number : ℕ) (session : Session) → is_cut ≡ true → (is_cut ≡ true → open_line trace ≡ open_line rest)
    → (is_cut ≡ true → open_line rest ≡ rest) → close_of is_cut trace number session ≡ stopped (cut_off rest too_long number) session.minds
cut-close true trace rest number session cut same tail = ap (λ t. stopped (cut_off t too_long number) session.minds) (same cut ∙ tail cut)
cut-close false trace rest number session cut same tail = absurd (cc)

whole-close : (is_cut : Bool) (trace : List ℕ) (number : ℕ) (session : Session) → is_cut ≡ false → close_of is_cut trace number session ≡ ended number session
whole-close true trace number session cut = absurd (cc)
whole-close false trace number session cut = refl

-- behind the lines of a trace that was cut off
pub reached-cut : (r : Setup) (whole : Played) (is_cut : Bool) (trace rest : List ℕ) (number : ℕ) (session : Session) (old now : Option (List ℕ))
    → is_cut ≡ true
    → (is_cut ≡ true → open_line trace ≡ open_line rest) → (is_cut ≡ true → open_line rest ≡ rest) → lines_in is_cut rest ≡ []
    → Reached whole (run_lines r (close_of is_cut trace) number session (lines_in is_cut rest)) old now
    → Reached whole (stopped (cut_off rest too_long number) session.minds) old now
reached-cut r whole is_cut trace rest number session old now cut same tail none reached =
    let end = reached-end r whole (close_of is_cut trace) number session (lines_in is_cut rest) old now none reached in
    let e = cut-close is_cut trace rest number session cut same tail in rw e at end

-- behind the lines of a whole trace
pub reached-whole : (r : Setup) (whole : Played) (is_cut : Bool) (trace rest : List ℕ) (number : ℕ) (session : Session) (old now : Option (List ℕ))
    → is_cut ≡ false → lines_in is_cut rest ≡ []
    → Reached whole (run_lines r (close_of is_cut trace) number session (lines_in is_cut rest)) old now → Reached whole (ended number session) old now
reached-whole r whole is_cut trace rest number session old now cut none reached =
    let end = reached-end r whole (close_of is_cut trace) number session (lines_in is_cut rest) old now none reached in
    let e = whole-close is_cut trace number session cut in rw e at end
