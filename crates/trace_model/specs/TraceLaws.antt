-- What a trace is cut into, what a command brings and plans, and what is counted of a text, as laws.
use Rattle.std.specs.Prelude.{ℕ, ◌≡◌, ◌≢◌, ◌≤◌, ◌++◌, ◌⊎◌, List, [], length, IfOk, IfSome}
use Rattle.std.specs.List.{All, AllByRecursion}
use Rattle.edit_model.specs.State.{State}
use Rattle.edit_model.specs.Fitting.{IsFittingItem}
use Rattle.trace_model.specs.declared.commands.Command.{Command}
use Rattle.trace_model.specs.TraceLines.{with_newline, joined, trace_lines, ended_lines, open_line}
use Rattle.trace_model.specs.Reading.{read_command, IsFitting}
use Rattle.trace_model.specs.Items.{items_of, items_in, counted_back, counted_on}

-- ---- traces

-- no byte of a line is `\n`
abbrev pub IsOneLine : List ℕ → Type 0
IsOneLine line = AllByRecursion (λ byte. byte ≢ 10) line

-- the trace isn't empty, and `\n` isn't its last byte
abbrev pub EndsOpen : List ℕ → Type 0
EndsOpen trace = trace ≢ [] × ((front : List ℕ) → trace ≢ with_newline front)

-- the lines, each with `\n` behind it, are the trace, or where its last line has no `\n`, the trace with one more
abbrev pub AreLinesOf : List ℕ → List (List ℕ) → Type 0
AreLinesOf trace lines = (joined lines ≡ trace) ⊎ (EndsOpen trace × (joined lines ≡ with_newline trace))

-- the lines of a trace
abbrev pub CutsAtNewlines : Type 0
CutsAtNewlines = (trace : List ℕ) → AllByRecursion IsOneLine (trace_lines trace) × AreLinesOf trace (trace_lines trace)

-- the lines, each with `\n` behind it, and what is left behind them are the bytes, and neither a line nor what is left has a `\n`
abbrev pub AreEndedLinesOf : List ℕ → List (List ℕ) → List ℕ → Type 0
AreEndedLinesOf bytes lines left = AllByRecursion IsOneLine lines × IsOneLine left × (joined lines ++ left ≡ bytes)

-- of a trace over its limit: the lines whose `\n` stands in the bytes that are read, and the one that is cut off
abbrev pub LeavesOneOpen : Type 0
LeavesOneOpen = (bytes : List ℕ) → AreEndedLinesOf bytes (ended_lines bytes) (open_line bytes)

-- a command that was read brings no more than a replacement may
abbrev pub ReadsFittingCommands : Type 0
ReadsFittingCommands = (line : List ℕ) → IfOk (read_command line) IsFitting

-- ---- items

-- a command that brings no more than a replacement may asks for items that bring no more
abbrev pub PlansFittingItems : Type 0
PlansFittingItems = (state : State) (asked : Command) → IsFitting asked → All IsFittingItem (items_in (items_of state asked))

-- counted back, a place isn't behind where the count begins, and counted on it lies in the text and not before
abbrev pub CountsWithin : Type 0
CountsWithin = (units : List ℕ) (count at : ℕ) → at ≤ length units
    → IfSome (counted_back units count at) (λ first. first ≤ at) × IfSome (counted_on units count at) (λ last. (at ≤ last) × (last ≤ length units))
