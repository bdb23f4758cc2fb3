-- What the agenda machine means, as laws.
use Rattle.std.specs.Prelude.{ℕ, ◌≡◌, ◌≢◌, ◌++◌, ◌⊎◌, List, [], ◌∷◌, map}
use Rattle.edit_base.specs.declared.edits.Edit.{Edit}
use Rattle.edit_base.specs.declared.verdicts.Verdict.TheVariants.{Done}
use Rattle.edit_model.specs.declared.entries.LogEntry.{LogEntry}
use Rattle.edit_model.specs.declared.items.Item.{Item}
use Rattle.edit_model.specs.Machine.{Setup, Scene, Task, at, do_rest, rest_of, resolved_edit, resolved, verdict_at, edit_entry, step, run_item, Reaches, Ends}
use Rattle.edit_model.specs.Outcome.{outcome, outcomes}

-- the run of an item ends, from every scene
abbrev pub EveryRunEnds : Type 0
EveryRunEnds = (r : Setup) (it : Item) (old : Scene) → (new : Scene) × Ends r it old new

-- and comes to its outcome
abbrev pub ComesToItsOutcome : Type 0
ComesToItsOutcome = (r : Setup) (it : Item) (old : Scene) → Ends r it old (outcome r it old)

-- so do the items of a command, one behind the other
abbrev pub ComeToTheirOutcomes : Type 0
ComeToTheirOutcomes = (r : Setup) (items : List Item) (old : Scene) → Reaches r (at old (map run_item items)) (at (outcomes r items old) [])

-- in one way
abbrev pub EndsOnce : Type 0
EndsOnce = (r : Setup) (it : Item) (old new other : Scene) → Ends r it old new → Ends r it old other → new ≡ other

-- one entry was logged, and neither text, spans nor minds are others
pub record OnlyLogs (it : LogEntry) (old new : Scene) : Type 0 where
  pub state : new.state ≡ old.state
  pub minds : new.minds ≡ old.minds
  pub effects : new.effects ≡ old.effects
  pub log : new.log ≡ old.log ++ it ∷ []

-- an edit of a command that isn't done is logged, and its run is at its end: there is no callback
abbrev pub OthersEndAtOnce : Type 0
OthersEndAtOnce = (r : Setup) (it : Item) (old new : Scene) → verdict_at r 0 (resolved old.state it) old.state old.begun ≢ Done → Ends r it old new
    → OnlyLogs (edit_entry r 0 (resolved old.state it) old.state old.begun) old new

-- what stands behind the first edit of an answer: the rest of the answer, or nothing of it
abbrev pub AreLeft : List Edit → ℕ → List Task → List Task → Type 0
AreLeft others depth rest left = (left ≡ rest_of others depth ++ rest) ⊎ (left ≡ rest)

-- a nested edit that isn't done is logged, and makes no callback
abbrev pub NestedOnlyLog : Type 0
NestedOnlyLog = (r : Setup) (first : Edit) (others : List Edit) (depth : ℕ) (old : Scene) (rest : List Task)
    → verdict_at r depth (resolved_edit first) old.state old.begun ≢ Done
    → OnlyLogs (edit_entry r depth (resolved_edit first) old.state old.begun) old (step r (at old (do_rest first others depth ∷ rest))).scene
    × AreLeft others depth rest (step r (at old (do_rest first others depth ∷ rest))).agenda
