-- What a command asks the text for: items, one behind the other, with their numbers as they are when the command starts.
use Rattle.std.specs.Prelude.{ℕ, zero, suc, ℤ, pos, ◌+◌, ◌-◌, ◌+ℤ◌, ◌-ℤ◌, ◌==◌, ◌&&◌, ◌||◌, Bool, true, false, not, List, [], ◌∷◌, ◌++◌, length, min, max, nat_lt, nat_le, int_lt, slice_index, if◌then◌else◌, Option, Some, None}
use Rattle.std.specs.Option.{option_and_then}
use Rattle.edit_base.specs.declared.edits.Edit.TheVariants as edit
use Rattle.edit_base.specs.declared.rows.Incoming.{Incoming}
use Rattle.trace_model.specs.declared.commands.Command.{Command}
use Rattle.trace_model.specs.declared.commands.Command.TheVariants as commands
use Rattle.edit_model.specs.declared.items.Item.{Item}
use Rattle.edit_model.specs.declared.items.Item.TheVariants as item
use Rattle.edit_model.specs.declared.items.Planned.{Planned}
use Rattle.edit_model.specs.declared.items.Planned.TheVariants.{Items, Absent, Ignored}
use Rattle.edit_model.specs.State.{State}
use Rattle.edit_model.specs.Filtered.{is_high, is_low}
use Rattle.edit_model.specs.Verdicts.{goes_beyond, goes_below}
use Rattle.edit_model.specs.Selection.{selection, region, has_region, lesser, greater, or_zeros}

-- ---- texts that come

-- what a connection's text replaces: the composing region where there is one, else the selection
abbrev pub region_or : Option (ℕ × ℕ) → Option (ℕ × ℕ) → ℕ × ℕ
region_or None chosen = or_zeros chosen
region_or (Some range) chosen = range

abbrev pub composed : State → ℕ × ℕ
composed state = region_or (region state.spans) (selection state.spans)

-- where a cursor goes that counts from a replaced range: from its end where it counts up from 1, and else from its start
abbrev pub cursor_place : ℕ → ℕ → ℤ → ℤ
cursor_place a b cursor = if int_lt (pos 0) cursor then (pos b -ℤ pos 1) +ℤ cursor else pos a +ℤ cursor

-- the composing text goes, where there is a region
abbrev pub drop_first : State → List Item
drop_first state = if has_region state.spans then item.Drop ∷ [] else []

-- the cursor is placed in the old text, and then the text comes
abbrev pub text_items : State → Incoming → ℤ → List Item
text_items state incoming cursor =
    drop_first state
    ++ item.Cursor (cursor_place (lesser (composed state)) (greater (composed state)) cursor)
    ∷ item.Write (pos (lesser (composed state))) (pos (greater (composed state))) incoming
    ∷ []

-- what comes, with a composing region over it or without one
abbrev pub with_region : Bool → Incoming → Incoming
with_region composing incoming = record { units = incoming.units; spans = incoming.spans; composing = composing }

-- the text becomes the composing text
unfoldable pub compose_items : State → Incoming → ℤ → List Item
compose_items state incoming cursor = text_items state (with_region true incoming) cursor

-- the text comes, and nothing is composed any more
unfoldable pub commit_items : State → Incoming → ℤ → List Item
commit_items state incoming cursor = text_items state (with_region false incoming) cursor

-- ---- the composing region

abbrev pub finish_items : List Item
finish_items = item.Drop ∷ []

-- the range becomes the region, whatever its order
abbrev pub region_items : ℤ → ℤ → List Item
region_items start end = item.Drop ∷ item.Mark start end ∷ []

-- ---- deletions

abbrev pub no_incoming : Incoming
no_incoming = record { units = []; spans = []; composing = false }

-- so many units before a place go, and then so many behind another, which has come as much nearer by then
abbrev pub deletions : ℕ → ℕ → ℕ → ℕ → List Item
deletions first last before after =
    item.Write (pos (first - before)) (pos first) no_incoming
    ∷ item.Write (pos (last - before)) (pos (last - before + after)) no_incoming
    ∷ []

-- what a deletion leaves: all from the first to the last place of selection and region
abbrev pub spared : ℕ × ℕ → Option (ℕ × ℕ) → ℕ × ℕ
spared chosen None = (lesser chosen, greater chosen)
spared chosen (Some range) = (min (lesser chosen) range.0, max (greater chosen) range.1)

-- units are counted, those before the text's start not
abbrev pub around : ℕ × ℕ → ℕ → ℕ → Planned
around kept before after = Items (deletions kept.0 kept.1 (min before kept.0) after)

abbrev pub around_selection : State → Option (ℕ × ℕ) → ℕ → ℕ → Planned
around_selection state None before after = Absent
around_selection state (Some chosen) before after = around (spared chosen (region state.spans)) before after

unfoldable pub delete_around : State → ℕ → ℕ → Planned
delete_around state before after = around_selection state (selection state.spans) before after

-- ---- characters

abbrev pub is_surrogate : ℕ → Bool
is_surrogate unit = is_high unit || is_low unit

-- how many units the character has that ends at a place: none at the start of the text; a surrogate has to have its other half
unfoldable pub width_before : List ℕ → ℕ → Option ℕ
width_before units at =
    if at == 0 then Some 0
    else (if not (is_surrogate (slice_index units (at - 1))) then Some 1
    else (if is_low (slice_index units (at - 1)) && nat_lt 1 at && is_high (slice_index units (at - 2)) then Some 2 else None))

-- how many units the character has that starts at a place: none at the end of the text
unfoldable pub width_at : List ℕ → ℕ → Option ℕ
width_at units at =
    if nat_le (length units) at then Some 0
    else (if not (is_surrogate (slice_index units at)) then Some 1
    else (if is_high (slice_index units at) && nat_lt (at + 1) (length units) && is_low (slice_index units (at + 1)) then Some 2 else None))

-- the place so many characters back, or on; the count stops at an end of the text, and there is none where it meets a lone surrogate
abbrev pub counted_back : List ℕ → ℕ → ℕ → Option ℕ
counted_back units zero at = Some at
counted_back units (suc count) at = option_and_then (λ width. counted_back units count (at - width)) (width_before units at)

abbrev pub counted_on : List ℕ → ℕ → ℕ → Option ℕ
counted_on units zero at = Some at
counted_on units (suc count) at = option_and_then (λ width. counted_on units count (at + width)) (width_at units at)

-- the units between the places that were counted to go
abbrev pub between : ℕ × ℕ → Option ℕ → Option ℕ → Planned
between kept None last = Ignored
between kept (Some first) None = Ignored
between kept (Some first) (Some last) = Items (deletions kept.0 kept.1 (kept.0 - first) (last - kept.1))

-- characters are counted, each of which may be a pair
abbrev pub points_around : List ℕ → ℕ × ℕ → ℕ → ℕ → Planned
points_around units kept before after = between kept (counted_back units before kept.0) (counted_on units after kept.1)

abbrev pub points_selection : State → Option (ℕ × ℕ) → ℕ → ℕ → Planned
points_selection state None before after = Absent
points_selection state (Some chosen) before after = points_around state.units (spared chosen (region state.spans)) before after

unfoldable pub delete_points : State → ℕ → ℕ → Planned
delete_points state before after = points_selection state (selection state.spans) before after

-- ---- commands

-- the edit of a select, and a connection's selection, which is ignored where an end is outside the text
abbrev pub select_item : ℤ → ℤ → Item
select_item start end = item.Edit (edit.Select start end)

abbrev pub selection_planned : State → ℤ → ℤ → Planned
selection_planned state start end = if goes_beyond state start end || goes_below start end then Ignored else Items (select_item start end ∷ [])

-- what a command asks for, as the text stands when it starts; a query, `begin` and `end` ask for nothing
unfoldable pub items_of : State → Command → Planned
items_of state (commands.Replace start end incoming) = Items (item.Replace start end incoming ∷ [])
items_of state (commands.SetSpan id start end flags what) = Items (item.Edit (edit.SetSpan id start end flags what) ∷ [])
items_of state (commands.RemoveSpan id) = Items (item.Edit (edit.RemoveSpan id) ∷ [])
items_of state (commands.SpansOver start end) = Items []
items_of state (commands.NextEdge start limit) = Items []
items_of state (commands.Select start end) = Items (select_item start end ∷ [])
items_of state commands.Deselect = Items (item.Deselect ∷ [])
items_of state (commands.Compose incoming cursor) = Items (compose_items state incoming cursor)
items_of state (commands.Commit incoming cursor) = Items (commit_items state incoming cursor)
items_of state commands.Finish = Items finish_items
items_of state (commands.Region start end) = Items (region_items start end)
items_of state (commands.DeleteAround before after) = delete_around state before after
items_of state (commands.DeletePoints before after) = delete_points state before after
items_of state (commands.SetSelection start end) = selection_planned state start end
items_of state (commands.TextBefore count) = Items []
items_of state (commands.TextAfter count) = Items []
items_of state commands.Selected = Items []
items_of state commands.Begin = Items []
items_of state commands.End = Items []

-- the items that are planned, if there are some
abbrev pub items_in : Planned → List Item
items_in (Items items) = items
items_in Absent = []
items_in Ignored = []
