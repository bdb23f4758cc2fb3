-- Orders and lists of live slots that go by the number of live slots before them.
use Rattle.std.proofs.Common.{◌≡◌, ℕ, ◌+◌, ◌<◌, Bool, List, [], ◌∷◌, suc, zero, map, length, get_or, refl, sym, subst, ap, ◌∙◌, arith}
use Rattle.std.specs.List.{All, Contains, range_with_len}
use Rattle.std.specs.List.Sorted.{IsStrictlyIncreasing}
use Rattle.std.proofs.lemmas.List.{get_or-map}
use Rattle.slot_ranks.specs.Slots.{line, rank}
use Rattle.slot_ranks.proofs.Below.{rank-zero, ranks_rise}
use Rattle.slot_ranks.proofs.Laws.{line_of, rank_within_line, slot_at_rank}
use Rattle.row_kinds.specs.Kinds.{Climbs, slots_where}
use Rattle.row_kinds.proofs.KindSlots.{among_all, climbs_from, slots_climb}
use Rattle.span_table.specs.declared.kept.KeptRow.{KeptRow}
use Rattle.interval_tree.specs.Orders.{IsOrder}
use Rattle.interval_tree.proofs.OrderLaws.{order_renamed}
use Rattle.interval_tree.proofs.Renamed.{rank_order, ranks_all, ranks_climb}

pub increasing_of : (xs : List ℕ) → Climbs xs → IsStrictlyIncreasing xs
increasing_of [] up = λ k within. absurd (omega (arith, within))
increasing_of (x ∷ []) up = λ k within. absurd (omega (arith, within))
increasing_of (x ∷ y ∷ xs) up = step (increasing_of (y ∷ xs) up.1)
  where
    step : IsStrictlyIncreasing (y ∷ xs) → (k : ℕ) → k + 1 < length (x ∷ y ∷ xs) → get_or (x ∷ y ∷ xs) k 0 < get_or (x ∷ y ∷ xs) (k + 1) 0
    step rest zero within = up.0 0 0 (omega arith)
    step rest (suc k) within =
        let next : suc k + 1 ≡ suc (k + 1) = omega arith in
        omega (arith, rest k (omega (arith, within)), ap (λ n. get_or (x ∷ y ∷ xs) n 0) next)

module _ (live : List Bool) (slots : List ℕ) (is : line live ≡ slots) (rising : IsStrictlyIncreasing slots) where
  -- the slots of a kind keep rising
  pub kind_renamed : (test : KeptRow → Bool) (kept : List KeptRow) (listed : List ℕ) → listed ≡ slots_where test kept slots
      → IsStrictlyIncreasing (map (rank live) listed)
  kind_renamed test kept listed same =
      subst (λ xs. IsStrictlyIncreasing (map (rank live) xs)) (sym same)
      (ranks_climb live (slots_where test kept slots) (increasing_of (slots_where test kept slots) (slots_climb test kept slots (climbs_from slots rising)))
      (subst (λ all. All (Contains all) (slots_where test kept slots)) (sym is) (among_all test kept slots)))

  pub slots_renamed_all : (n : ℕ) → length slots ≡ n → map (rank live) slots ≡ range_with_len 0 n
  slots_renamed_all n long =
      subst (λ xs. map (rank live) xs ≡ range_with_len 0 (length xs)) is (ranks_all live) ∙ ap (range_with_len 0) long

  along : (keys : List ℕ) (s : ℕ) → Contains slots s → get_or (map (λ t. get_or keys t 0) slots) (rank live s) 0 ≡ get_or keys s 0
  along keys s has =
      let there = line_of live s (subst (λ all. Contains all s) (sym is) has) in
      let within : rank live s < length slots = subst (λ (all : List ℕ). rank live s < length all) is (rank_within_line live s there) in
      get_or-map (λ t. get_or keys t 0) slots (rank live s) 0 0 within
      ∙ ap (λ t. get_or keys t 0) (subst (λ all. get_or all (rank live s) 0 ≡ s) is (slot_at_rank live s there))

  -- an order goes along
  pub order_squeezed : (keys others more_slots order more : List ℕ) → IsOrder keys slots order → others ≡ map (λ t. get_or keys t 0) slots
      → more_slots ≡ range_with_len 0 (length slots) → more ≡ map (rank live) order → ((s : ℕ) → Contains slots s → s < 4294967296)
      → IsOrder others more_slots more
  order_squeezed keys others more_slots order more old numbers named listed fits =
      subst (λ xs. IsOrder others xs more) (slots_renamed_all (length slots) refl ∙ sym named)
      (subst (λ xs. IsOrder others (map (rank live) slots) xs) (sym listed)
      (order_renamed (rank live) keys others slots order old
      (λ s has. ap (λ xs. get_or xs (rank live s) 0) numbers ∙ along keys s has)
      (λ s t first second below. rank_order live s t below) fits
      (λ s has. omega (arith, (ranks_rise live 0 s (omega arith)).bound, rank-zero live))))
