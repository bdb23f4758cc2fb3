-- All that is kept beside rows stays where the gap goes elsewhere.
use Rattle.std.proofs.Common.{◌≡◌, ℕ, ◌+◌, ◌*◌, ◌<◌, ◌≤◌, Bool, true, false, cond, List, [], ◌∷◌, suc, map, length, get_or, refl, sym, subst, ap, ◌∙◌, arith}
use Rattle.std.specs.List.{All, Contains, filter}
use Rattle.std.proofs.lemmas.List.{get_or-map, get_or_default, length-map}
use Rattle.span_order.specs.Ranked.{rank_in}
use Rattle.row_kinds.specs.Kinds.{IsTally, is_composing_row, is_paragraph_row, is_seat_row, slots_where}
use Rattle.span_table.specs.declared.kept.KeptRow.{KeptRow}
use Rattle.span_table.specs.Numbers.{IsNumber, number_at, place_of}
use Rattle.span_table.specs.Table.{AreNumbers, kept_at, kept_span, no_row, no_span, seen}
use Rattle.interval_tree.specs.Orders.{IsOrder}
use Rattle.interval_tree.proofs.NumberMoves.{ranks_stay}
use Rattle.interval_tree.proofs.OrderLaws.{order_carried}

-- kinds depend on flags and on what a row is
anew_where : (test : KeptRow → Bool) (old_gap old_room gap room : ℕ) → ((row : KeptRow) → test (kept_span gap room (seen old_gap old_room row)) ≡ test row)
    → (kept : List KeptRow) (slots : List ℕ)
    → slots_where test (map (kept_span gap room) (map (seen old_gap old_room) kept)) slots ≡ slots_where test kept slots
unfolding slots_where
anew_where test old_gap old_room gap room alike [] slots = refl
anew_where test old_gap old_room gap room alike (row ∷ kept) [] = refl
anew_where test old_gap old_room gap room alike (row ∷ kept) (slot ∷ slots) =
    rw (alike row, anew_where test old_gap old_room gap room alike kept slots) refl

anew_count : (test : KeptRow → Bool) (old_gap old_room gap room : ℕ) → ((row : KeptRow) → test (kept_span gap room (seen old_gap old_room row)) ≡ test row)
    → (kept : List KeptRow)
    → length (filter test (map (kept_span gap room) (map (seen old_gap old_room) kept))) ≡ length (filter test kept)
anew_count test old_gap old_room gap room alike [] = refl
anew_count test old_gap old_room gap room alike (row ∷ kept) =
    ap (λ b. length (cond b (kept_span gap room (seen old_gap old_room row) ∷ rest) rest)) (alike row)
    ∙ step (test row) (anew_count test old_gap old_room gap room alike kept)
  where
    rest : List KeptRow
    rest = filter test (map (kept_span gap room) (map (seen old_gap old_room) kept))

    step : (passes : Bool) → length rest ≡ length (filter test kept)
        → length (cond passes (kept_span gap room (seen old_gap old_room row) ∷ rest) rest) ≡ length (cond passes (row ∷ filter test kept) (filter test kept))
    step true same = ap suc same
    step false same = same

pub tally_anew : (old_gap old_room gap room : ℕ) (kept : List KeptRow) (slots : List ℕ) (paragraphs : ℕ) (composing seats : List ℕ)
    → IsTally kept slots paragraphs composing seats → IsTally (map (kept_span gap room) (map (seen old_gap old_room) kept)) slots paragraphs composing seats
tally_anew old_gap old_room gap room kept slots paragraphs composing seats tally = record {
  counted = tally.counted ∙ sym (anew_count is_paragraph_row old_gap old_room gap room (λ row. refl) kept);
  composed = tally.composed ∙ sym (anew_where is_composing_row old_gap old_room gap room (λ row. refl) kept slots);
  seated = tally.seated ∙ sym (anew_where is_seat_row old_gap old_room gap room (λ row. refl) kept slots);
}

kept_anew : (old_gap old_room gap room : ℕ) (kept : List KeptRow) (i : ℕ) → i < length kept
    → kept_at (map (kept_span gap room) (map (seen old_gap old_room) kept)) i ≡ kept_span gap room (seen old_gap old_room (kept_at kept i))
kept_anew old_gap old_room gap room kept i within =
    let spans = map (seen old_gap old_room) kept in
    get_or-map (kept_span gap room) spans i no_span no_row (simp length-map within)
    ∙ ap (kept_span gap room) (get_or-map (seen old_gap old_room) kept i no_row no_span within)

-- a number of each row, by its slot
module _ (key : KeptRow → ℕ) (behind : ℕ → Bool) (old_gap old_room gap room : ℕ) (kept more : List KeptRow) (slots keys others order : List ℕ)
    (new : (row : KeptRow) → key (kept_span gap room (seen old_gap old_room row)) ≡ number_at gap room (behind row.flags) (place_of old_gap old_room (key row)))
    (valid : (row : KeptRow) → AreNumbers old_gap old_room row → IsNumber old_gap old_room (behind row.flags) (key row))
    (numbers : All (AreNumbers old_gap old_room) kept) (placed : length slots ≡ length kept)
    (is : more ≡ map (kept_span gap room) (map (seen old_gap old_room) kept))
    (old_keys : (i : ℕ) → i < length kept → key (kept_at kept i) ≡ get_or keys (get_or slots i 0) 0)
    (new_keys : (i : ℕ) → i < length more → key (kept_at more i) ≡ get_or others (get_or slots i 0) 0)
    (fits : (i : ℕ) → i < length slots → get_or slots i 0 < 4294967296) where
  same_long : length more ≡ length kept
  same_long = ap length is ∙ length-map (map (seen old_gap old_room) kept) (kept_span gap room) ∙ length-map kept (seen old_gap old_room)

  carried : (i : ℕ) → i < length kept
      → get_or others (get_or slots i 0) 0 ≡ number_at gap room (behind (kept_at kept i).flags) (place_of old_gap old_room (get_or keys (get_or slots i 0) 0))
  carried i within =
      sym (new_keys i (omega (arith, within, same_long))) ∙ ap (λ rows. key (kept_at rows i)) is ∙ ap key (kept_anew old_gap old_room gap room kept i within)
      ∙ new (kept_at kept i) ∙ ap (λ n. number_at gap room (behind (kept_at kept i).flags) (place_of old_gap old_room n)) (old_keys i within)

  number : (i : ℕ) → i < length kept → IsNumber old_gap old_room (behind (kept_at kept i).flags) (get_or keys (get_or slots i 0) 0)
  number i within = subst (λ n. IsNumber old_gap old_room (behind (kept_at kept i).flags) n) (old_keys i within) (valid (kept_at kept i) (numbers i no_row within))

  at_places : (i j : ℕ) → i < length kept → j < length kept → rank_in keys (get_or slots i 0) ≤ rank_in keys (get_or slots j 0)
      → rank_in others (get_or slots i 0) ≤ rank_in others (get_or slots j 0)
  at_places i j first second below =
      subst (λ m. m * 4294967296 + get_or slots i 0 ≤ rank_in others (get_or slots j 0)) (sym (carried i first))
      (subst (λ n. number_at gap room (behind (kept_at kept i).flags) (place_of old_gap old_room (get_or keys (get_or slots i 0) 0)) * 4294967296 + get_or slots i 0
      ≤ n * 4294967296 + get_or slots j 0) (sym (carried j second))
      (ranks_stay old_gap old_room gap room (behind (kept_at kept i).flags) (behind (kept_at kept j).flags) _ _ (number i first) (number j second)
      (get_or slots i 0) (get_or slots j 0) (fits i (omega (arith, first, placed))) (fits j (omega (arith, second, placed))) below))

  place_is : (s : ℕ) (has : Contains slots s) → get_or slots has.0 0 ≡ s
  place_is s has = get_or_default slots has.0 0 s has.1 ∙ has.2

  pub order_anew : IsOrder keys slots order → IsOrder others slots order
  order_anew old = order_carried keys others slots order old (λ s t first second below.
      subst (λ x. rank_in others x ≤ rank_in others t) (place_is s first) (subst (λ y. rank_in others (get_or slots first.0 0) ≤ rank_in others y) (place_is t second)
      (at_places first.0 second.0 (omega (arith, first.1, placed)) (omega (arith, second.1, placed))
      (subst (λ x. rank_in keys x ≤ rank_in keys (get_or slots second.0 0)) (sym (place_is s first))
      (subst (λ y. rank_in keys s ≤ rank_in keys y) (sym (place_is t second)) below)))))
