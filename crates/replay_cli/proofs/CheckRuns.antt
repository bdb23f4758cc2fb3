-- Lines that are read alone.
use Rattle.std.proofs.Common.{◌≡◌, ℕ, ◌+◌, Bool, true, false, List, [], ◌∷◌, Option, refl, sym, ap, ◌∙◌, add-zero}
use Rattle.trace_model.specs.declared.commands.Command.{Command}
use Rattle.trace_model.specs.declared.faults.TraceFault.{TraceFault}
use Rattle.trace_model.specs.TraceLines.{open_line}
use Rattle.edit_model.specs.Minds.{Mind}
use Rattle.trace_model.specs.Output.{LineKind, blank, command, faulty, line_kind, line_check, check_lines, checked, cut_off, too_long, Played, stopped, bytes_of}
use Rattle.replay_io.specs.Outside.{with_more}
use Rattle.replay_cli.specs.declared.status.Status.{Status}
use Rattle.replay_cli.specs.declared.status.Status.TheVariants as status
use Rattle.replay_cli.specs.Steps.{lines_in, close_check}
use Rattle.replay_cli.specs.Runs.{Ends}
use Rattle.replay_cli.proofs.Known.{with_more-none}

pub check-line : (minds : List Mind) (close : ℕ → ℕ → Played) (number count : ℕ) (line : List ℕ) (lines : List (List ℕ)) (it : LineKind) → it ≡ line_kind line
    → check_lines minds close number count (line ∷ lines) ≡ line_check minds number count it (λ next. check_lines minds close (number + 1) next lines)
unfolding check_lines
check-line minds close number count line lines it is =
    ap (λ l. line_check minds number count l (λ next. check_lines minds close (number + 1) next lines)) (sym is)

check-nothing : (minds : List Mind) (close : ℕ → ℕ → Played) (number count : ℕ) → check_lines minds close number count [] ≡ close number count
unfolding check_lines
check-nothing minds close number count = refl

pub blank-none : (number : ℕ) (line : List ℕ) → blank ≡ line_kind line → (minds : List Mind) (close : ℕ → ℕ → Played) (count : ℕ) (lines : List (List ℕ))
    → check_lines minds close number count (line ∷ lines) ≡ check_lines minds close (number + 1) (count + 0) lines
blank-none number line is minds close count lines = check-line minds close number count line lines blank is
    ∙ ap (λ n. check_lines minds close (number + 1) n lines) (sym (add-zero count))

pub command-one : (number : ℕ) (line : List ℕ) (asked : Command) → command asked ≡ line_kind line
    → (minds : List Mind) (close : ℕ → ℕ → Played) (count : ℕ) (lines : List (List ℕ))
    → check_lines minds close number count (line ∷ lines) ≡ check_lines minds close (number + 1) (count + 1) lines
command-one number line asked is minds close count lines = check-line minds close number count line lines (command asked) is

pub faulty-ends : (number : ℕ) (line : List ℕ) (kind : TraceFault) → faulty kind ≡ line_kind line
    → (minds : List Mind) (close : ℕ → ℕ → Played) (count : ℕ) (lines : List (List ℕ)) (known : Option (List ℕ))
    → Ends (check_lines minds close number count (line ∷ lines)) (status.TraceFault number kind) known known minds
faulty-ends number line kind is minds close count lines known =
    let e = check-line minds close number count line lines (faulty kind) is in (
      ap (λ played. played.ending) e,
      with_more-none known ∙ ap (λ played. with_more known (bytes_of played)) (sym e),
      ap (λ played. played.minds) (sym e),
    )

-- behind the last line
check-end : (minds : List Mind) (whole : Played) (close : ℕ → ℕ → Played) (number count : ℕ) (lines : List (List ℕ)) → lines ≡ []
    → whole ≡ check_lines minds close number count lines
    → whole ≡ close number count
check-end minds whole close number count lines none is = is ∙ ap (check_lines minds close number count) none ∙ check-nothing minds close number count

cut-close : (minds : List Mind) (is_cut : Bool) (trace rest : List ℕ) (number count : ℕ) → is_cut ≡ true → (is_cut ≡ true → open_line trace ≡ open_line rest)
    → (is_cut ≡ true → open_line rest ≡ rest) → close_check minds is_cut trace number count ≡ stopped (cut_off rest too_long number) minds
cut-close minds true trace rest number count cut same tail = ap (λ t. stopped (cut_off t too_long number) minds) (same cut ∙ tail cut)
cut-close minds false trace rest number count cut same tail = absurd (cc)

whole-close : (minds : List Mind) (is_cut : Bool) (trace : List ℕ) (number count : ℕ) → is_cut ≡ false
    → close_check minds is_cut trace number count ≡ checked minds number count
whole-close minds true trace number count cut = absurd (cc)
whole-close minds false trace number count cut = refl

-- behind the lines of a trace that was cut off
pub check-cut : (minds : List Mind) (whole : Played) (is_cut : Bool) (trace rest : List ℕ) (number count : ℕ) → is_cut ≡ true
    → (is_cut ≡ true → open_line trace ≡ open_line rest)
    → (is_cut ≡ true → open_line rest ≡ rest) → lines_in is_cut rest ≡ []
    → whole ≡ check_lines minds (close_check minds is_cut trace) number count (lines_in is_cut rest)
    → whole ≡ stopped (cut_off rest too_long number) minds
check-cut minds whole is_cut trace rest number count cut same tail none is =
    check-end minds whole (close_check minds is_cut trace) number count (lines_in is_cut rest) none is
    ∙ cut-close minds is_cut trace rest number count cut same tail

-- behind the lines of a whole trace
pub check-whole : (minds : List Mind) (whole : Played) (is_cut : Bool) (trace rest : List ℕ) (number count : ℕ) → is_cut ≡ false → lines_in is_cut rest ≡ []
    → whole ≡ check_lines minds (close_check minds is_cut trace) number count (lines_in is_cut rest) → whole ≡ checked minds number count
check-whole minds whole is_cut trace rest number count cut none is =
    check-end minds whole (close_check minds is_cut trace) number count (lines_in is_cut rest) none is ∙ whole-close minds is_cut trace number count cut

pub ends-same : (whole left : Played) (answer : Status) (old new : Option (List ℕ)) (minds : List Mind) → whole ≡ left → Ends left answer old new minds
    → Ends whole answer old new minds
ends-same whole left answer old new minds is ends = let e = sym is in rw e at ends
