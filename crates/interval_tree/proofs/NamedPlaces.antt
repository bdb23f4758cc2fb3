-- The place of the row with an id, by the slot that is kept beside the id.
use Rattle.std.proofs.Common.{◌≡◌, ℕ, ◌<◌, Bool, eqb, List, [], ◌∷◌, map, length, get_or, refl, sym, ap, ◌∙◌, suc, zero, Option, Some, None, arith}
use Rattle.std.specs.List.{position, position_or_len}
use Rattle.std.specs.Option.{option_map}
use Rattle.std.proofs.lemmas.Bool.Decides.{nat_tests}
use Rattle.std.proofs.lemmas.List.{length-map}
use Rattle.std.proofs.lemmas.List.Quantifiers.{position-Some}
use Rattle.edit_model.specs.Attached.{has_id}
use Rattle.span_table.specs.declared.kept.KeptRow.{KeptRow}
use Rattle.span_table.specs.Table.{row_place, seen}
use Rattle.row_kinds.specs.Kinds.{Climbs}
use Rattle.id_slots.specs.Named.{slot_beside}
use Rattle.interval_tree.specs.Ids.{ids_of}

-- ---- rising slots differ

pub one_place : (slots : List ℕ) (i j : ℕ) → Climbs slots → i < length slots → j < length slots → get_or slots i 0 ≡ get_or slots j 0 → i ≡ j
one_place [] i j up first second same = absurd (omega (arith, first))
one_place (slot ∷ slots) zero zero up first second same = refl
one_place (slot ∷ slots) zero (suc j) up first second same = absurd (omega (arith, up.0 j 0 (omega (arith, second)), same))
one_place (slot ∷ slots) (suc i) zero up first second same = absurd (omega (arith, up.0 i 0 (omega (arith, first)), same))
one_place (slot ∷ slots) (suc i) (suc j) up first second same =
    ap suc (one_place slots i j up.1 (omega (arith, first)) (omega (arith, second)) same)

-- ---- the first place that passes

at_end : {X : Type 0} (p : X → Bool) (xs : List X) → position_or_len p xs ≡ length xs → None ≡ position p xs
at_end p xs is = rw is (grind (arith, nat_tests))

at_place : {X : Type 0} (p : X → Bool) (xs : List X) (i : ℕ) → position_or_len p xs ≡ i → i < length xs → Some i ≡ position p xs
at_place p xs i is within = rw is (grind (arith, nat_tests))

-- ---- ids of spans that are seen

-- a test of ids and one of spans that agree on the rows find the same place
position_seen : (gap room id : ℕ) (kept : List KeptRow) → position_or_len (λ other. eqb id other) (ids_of kept)
    ≡ position_or_len (has_id id) (map (seen gap room) kept)
position_seen gap room id [] = refl
position_seen gap room id (row ∷ kept) =
    let turned : eqb id row.id ≡ eqb row.id id = grind (arith, nat_tests) in
    rw (turned, position_seen gap room id kept) refl

pub place_seen : (gap room id : ℕ) (kept : List KeptRow) → position (λ other. eqb id other) (ids_of kept) ≡ row_place id (map (seen gap room) kept)
place_seen gap room id kept = rw (position_seen gap room id kept, length-map, length-map) refl

slot_some : (slots : List ℕ) (found : Option ℕ) (slot : ℕ) → option_map (λ i. get_or slots i 0) found ≡ Some slot
    → (i : ℕ) × (found ≡ Some i) × (get_or slots i 0 ≡ slot)
slot_some slots (Some i) slot is = (i, refl, (let same = is in cc))
slot_some slots None slot is = absurd (let no = is in cc)

slot_none : (slots : List ℕ) (found : Option ℕ) → option_map (λ i. get_or slots i 0) found ≡ None → found ≡ None
slot_none slots (Some i) is = absurd (let no = is in cc)
slot_none slots None is = refl

module _ (gap room id : ℕ) (kept : List KeptRow) (slots : List ℕ) (long : length slots ≡ length kept) (up : Climbs slots) where
  -- the row's place is that of its slot
  pub named_place : (slot place : ℕ) → slot_beside (ids_of kept) slots id ≡ Some slot → place < length slots → get_or slots place 0 ≡ slot
      → Some place ≡ row_place id (map (seen gap room) kept)
  named_place slot place is within here =
      let found = slot_some slots (position (λ other. eqb id other) (ids_of kept)) slot is in
      let inside = position-Some (λ other. eqb id other) (ids_of kept) found.0 0 found.1 in
      let below : found.0 < length slots = omega (arith, inside.0, long, length-map kept (λ row. row.id)) in
      let same : place ≡ found.0 = one_place slots place found.0 up within below (here ∙ sym found.2) in
      ap Some same ∙ sym found.1 ∙ place_seen gap room id kept

  pub named_nowhere : slot_beside (ids_of kept) slots id ≡ None → None ≡ row_place id (map (seen gap room) kept)
  named_nowhere is = sym (slot_none slots (position (λ other. eqb id other) (ids_of kept)) is) ∙ place_seen gap room id kept
