-- What holds of every text with spans holds after an edit.
use Rattle.std.proofs.Common.{◌≡◌, ℕ, ◌+◌, ◌-◌, ◌≤◌, ◌∷◌, Bool, true, false, if◌then◌else◌, List, [], length, sym, ap, ◌∙◌, arith, inl, inr, length-append}
use Rattle.span_changes.specs.declared.changes.Change.{Change}
use Rattle.edit_model.specs.State.{Span, State}
use Rattle.edit_model.specs.WellFormed.{IsWellFormed, IsSeated}
use Rattle.edit_model.specs.Attached.{is_attached, with_span}
use Rattle.std.proofs.lemmas.Bool.{cases_Bool}
use Rattle.std.proofs.lemmas.List.{length-map}
use Rattle.edit_model.specs.Changed.{selected_spans}
use Rattle.edit_model.specs.Selection.{selection_end, selection_start, with_ends}
use Rattle.edit_model.specs.Verdicts.{span_count_after_set}
use Rattle.edit_model.proofs.AttachedSpans.{length-with_span}
use Rattle.span_table.specs.Table.{Rows, spans_of}
use Rattle.moved_rows.specs.Moves.{IsStill}
use Rattle.span_changes.specs.Rows.{HasRoom, IsTold, KeepsRoom, span_room, state_with}
use Rattle.replace_engine.specs.Rows.{appended_by_select, appended_by_set}
use Rattle.span_changes.proofs.Lists.{length-spans_of}
use Rattle.span_changes.proofs.MovedLaws.{all_placed}

-- a state by its units and rows
pub formed_as : (state : State) (units : List ℕ) (rows : Rows) → units ≡ state.units → spans_of rows ≡ state.spans → IsWellFormed state
    → IsWellFormed (state_with units rows)
formed_as state units rows same_units same_spans formed = rw (same_units, same_spans) formed

pub seated_as : (slots : ℕ) (spans others : List Span) → others ≡ spans → IsSeated slots spans → IsSeated slots others
seated_as slots spans others same seated = rw same seated

-- no more rows have room where no list has less
pub room_kept : (old new : Change) (count fewer old_touched new_touched : ℕ) → fewer ≤ count → old_touched ≤ new_touched → KeepsRoom old new
    → HasRoom count old_touched old → HasRoom fewer new_touched new
room_kept old new count fewer old_touched new_touched few grows keeps room = record {
  rows = omega (arith, grows, few, room.rows);
  removed = omega (arith, few, keeps.removed, room.removed);
  added = omega (arith, few, keeps.added, room.added);
}

-- what was told is told where nothing but room changed
pub told_still : (old new : Change) → new.moved.rows.kept ≡ old.moved.rows.kept → IsStill old.moved new.moved → new.added.items ≡ old.added.items
    → IsTold old → IsTold new
told_still old new kept still added told =
    let stood : length new.moved.before + length new.added.items ≡ length new.moved.rows.kept =
    rw (still.before, added, kept) told.stood in
    record { stood = stood; placed = all_placed new.moved (omega (arith, stood)) }

-- ---- spare spans

pub room_grows : (old_touched new_touched : ℕ) (old new : Change) → old_touched ≤ new_touched
    → length old.moved.rows.kept + old.moved.rows.spare ≤ length new.moved.rows.kept + new.moved.rows.spare → KeepsRoom old new
    → span_room old_touched old ≤ span_room new_touched new
room_grows old_touched new_touched old new grows spare keeps = omega (arith, grows, spare, keeps.removed, keeps.added)

spare_count : (test : Bool) (before after all rows have : ℕ) → before ≤ after → all ≡ rows → have ≡ (if test then all else all + 1)
    → before - rows ≤ after - have + (if test then 0 else 1)
spare_count true before after all rows have grows same count = omega arith
spare_count false before after all rows have grows same count = omega arith

-- a set takes at most one spare span, and of an attached id none
pub spare_set : (span : Span) (old_touched new_touched : ℕ) (old new : Change) → old_touched ≤ new_touched
    → length old.moved.rows.kept + old.moved.rows.spare ≤ length new.moved.rows.kept + new.moved.rows.spare → KeepsRoom old new
    → spans_of new.moved.rows ≡ with_span span (spans_of old.moved.rows)
    → span_room old_touched old - length old.moved.rows.kept
    ≤ span_room new_touched new - length new.moved.rows.kept + appended_by_set span.id (spans_of old.moved.rows)
spare_set span old_touched new_touched old new grows spare keeps set =
    let count : length new.moved.rows.kept ≡ span_count_after_set (state_with [] old.moved.rows) span.id =
    sym (length-spans_of new.moved.rows) ∙ ap length set ∙ length-with_span [] span (spans_of old.moved.rows) in
    spare_count (is_attached span.id (spans_of old.moved.rows)) _ _ (length (spans_of old.moved.rows)) (length old.moved.rows.kept) (length new.moved.rows.kept)
    (room_grows old_touched new_touched old new grows spare keeps) (length-spans_of old.moved.rows) count

-- spans that come behind the others take no more spare spans than they are
pub spare_more : (n old_touched new_touched : ℕ) (old new : Change) → old_touched ≤ new_touched
    → length old.moved.rows.kept + old.moved.rows.spare ≤ length new.moved.rows.kept + new.moved.rows.spare → KeepsRoom old new
    → length (spans_of new.moved.rows) ≡ length (spans_of old.moved.rows) + n
    → span_room old_touched old - length old.moved.rows.kept ≤ span_room new_touched new - length new.moved.rows.kept + n
spare_more n old_touched new_touched old new grows spare keeps more =
    let room = room_grows old_touched new_touched old new grows spare keeps in
    let before = length-spans_of old.moved.rows in
    let after = length-spans_of new.moved.rows in
    omega (arith, room, before, after, more)

-- a select appends both ends, or none
pub length-selected : (start end : ℕ) (spans : List Span) → length (selected_spans start end spans) ≡ length spans + appended_by_select spans
length-selected start end spans = elim (cases_Bool (is_attached 0 spans)) [
  | inl is ↦ (let same = length-map spans (with_ends start end) in rw is (omega (arith, same)))
  | inr is ↦ (let more = length-append spans (selection_start start ∷ selection_end end ∷ []) in rw is (omega (arith, more)))
]
