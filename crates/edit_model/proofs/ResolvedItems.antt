-- What an item is resolved to at its turn, and where ends of a selection scale to.
use Rattle.std.proofs.Common.{ℕ, ◌+◌, ◌-◌, ◌*◌, ◌/◌, ◌<◌, ◌≤◌, [], arith}
use Rattle.std.proofs.Math.Nat.{mul-le-mul_right, div-mul-le_self, div-le_of_le-mul}
use Rattle.std.proofs.lemmas.Nat.{le-div}
use Rattle.std.proofs.lemmas.List.Elements.{All-from_recursion}
use Rattle.edit_model.specs.declared.items.Item.{Item}
use Rattle.edit_model.specs.declared.items.Item.TheVariants as item
use Rattle.edit_model.specs.State.{State}
use Rattle.edit_model.specs.EndTable.{scaled}
use Rattle.edit_model.specs.Brought.{IsOrdered}
use Rattle.edit_model.specs.Fitting.{IsFittingItem, HasTurn}
use Rattle.edit_model.specs.Laws.{BringsOrdered}
use Rattle.edit_model.specs.Machine.{resolved_edit, resolved}
use Rattle.edit_base.specs.declared.edits.Edit.{Edit}
use Rattle.edit_base.specs.declared.edits.Edit.TheVariants as edit

-- ---- turns

resolves_edit_in_order : (state : State) (it : Edit) → BringsOrdered state (resolved_edit it)
unfolding resolved_edit
resolves_edit_in_order state (edit.Replace start end text) = All-from_recursion IsOrdered [] tt
resolves_edit_in_order state (edit.SetSpan id start end flags what) = tt
resolves_edit_in_order state (edit.RemoveSpan id) = tt
resolves_edit_in_order state (edit.Select start end) = tt

pub resolves_in_order : (state : State) (it : Item) → IsFittingItem it → HasTurn state it → BringsOrdered state (resolved state it)
unfolding resolved
resolves_in_order state (item.Edit it) fits ready = resolves_edit_in_order state it
resolves_in_order state (item.Replace start end incoming) fits ready = fits.ordered
resolves_in_order state (item.Write start end incoming) fits ready = fits.ordered
resolves_in_order state (item.Cursor at) fits ready = tt
resolves_in_order state (item.Mark start end) fits ready = (omega arith, ready)
resolves_in_order state item.Drop fits ready = tt
resolves_in_order state item.Deselect fits ready = tt

-- ---- scaled ends

pub parts_in_order : (x y n k : ℕ) → 0 < k → x ≤ y → x * n / k ≤ y * n / k
parts_in_order x y n k some below =
    let product = mul-le-mul_right n below in
    le-div (x * n / k) (y * n) k some (omega (arith, product, div-mul-le_self (x * n) k))

pub scales_inside : (x y s e n : ℕ) → s < x → x ≤ y → y < e → (s ≤ scaled x s e n) × (scaled x s e n ≤ scaled y s e n) × (scaled y s e n ≤ s + n)
scales_inside x y s e n first between last =
    let order : (x - s) * n / (e - s) ≤ (y - s) * n / (e - s) = parts_in_order (x - s) (y - s) n (e - s) (omega (arith, first, between, last)) (omega (arith, between)) in
    let most : (y - s) * n / (e - s) ≤ n = div-le_of_le-mul (e - s) (mul-le-mul_right n (omega (arith, last))) in
    (omega arith, omega (arith, order), omega (arith, most))
