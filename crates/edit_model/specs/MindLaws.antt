-- What holds of every watcher's mind and answers, as laws.
use Rattle.std.specs.Prelude.{ℕ, ◌≡◌, ◌≤◌, ◌<◌, false, List, [], length, None}
use Rattle.std.specs.List.{AllByRecursion}
use Rattle.edit_base.specs.declared.bounds.TheConstants.Limits.{ANSWER_EDITS, ANSWER_UNITS}
use Rattle.edit_base.specs.declared.edits.Edit.{Edit}
use Rattle.edit_base.specs.declared.edits.Edit.TheVariants.{Replace, SetSpan, RemoveSpan, Select}
use Rattle.edit_model.specs.declared.events.TextEvent.{TextEvent}
use Rattle.edit_model.specs.declared.events.SpanEvent.{SpanEvent}
use Rattle.edit_model.specs.Minds.{Mind, loaded_mind, mind_before, mind_changed, mind_after, answer_after, mind_span, answer_span}

-- ---- answers

-- a replacement brings no more units than an answer may
abbrev pub IsBrief : Edit → Type 0
IsBrief (Replace start end text) = length text.items ≤ ANSWER_UNITS
IsBrief (SetSpan id start end flags what) = Unit {0}
IsBrief (RemoveSpan id) = Unit {0}
IsBrief (Select start end) = Unit {0}

-- no more edits than an answer may have, each of them brief
pub record IsAnswer (edits : List Edit) : Type 0 where
  pub few : length edits ≤ ANSWER_EDITS
  pub brief : AllByRecursion IsBrief edits

abbrev pub AnswersBriefly : Type 0
AnswersBriefly = (mind : Mind) (event : TextEvent) (units : List ℕ) → IsAnswer (answer_after mind event units)

abbrev pub AnswersSpansBriefly : Type 0
AnswersSpansBriefly = (mind : Mind) (event : SpanEvent) (units : List ℕ) → IsAnswer (answer_span mind event units)

-- ---- minds

-- the kind, whether it was loaded, and the numbers are the same
pub record IsOfOne (old new : Mind) : Type 0 where
  pub kind : new.kind ≡ old.kind
  pub loaded : new.loaded ≡ old.loaded
  pub numbers : new.numbers ≡ old.numbers

-- callbacks change how often it was called, and the place, alone
abbrev pub CountsAndKeeps : Type 0
CountsAndKeeps = (mind : Mind) (units : List ℕ)
    → ((event : TextEvent) → IsOfOne mind (mind_before mind event units) × IsOfOne mind (mind_changed mind event units)
    × IsOfOne mind (mind_after mind event units))
    × ((event : SpanEvent) → IsOfOne mind (mind_span mind event units))

-- a blank mind stays as it is, and answers nothing
abbrev pub StaysBlank : Type 0
StaysBlank = (mind : Mind) (units : List ℕ) → mind.loaded ≡ false
    → ((event : TextEvent) → (mind_before mind event units ≡ mind) × (mind_changed mind event units ≡ mind) × (mind_after mind event units ≡ mind)
    × (answer_after mind event units ≡ []))
    × ((event : SpanEvent) → (mind_span mind event units ≡ mind) × (answer_span mind event units ≡ []))

-- the last kind of the table
abbrev pub last_kind : ℕ
last_kind = 7

-- behind the last kind no numbers fit, and nothing is answered
abbrev pub HasNoOthers : Type 0
HasNoOthers = (mind : Mind) (units : List ℕ) → last_kind < mind.kind
    → ((numbers : List ℕ) → loaded_mind mind numbers ≡ None)
    × ((event : TextEvent) → answer_after mind event units ≡ [])
    × ((event : SpanEvent) → answer_span mind event units ≡ [])
