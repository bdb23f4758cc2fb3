-- A rising list is parted at a place by what stands beside it.
use Rattle.std.proofs.Common.{◌≡◌, ℕ, ◌<◌, ◌≤◌, ◌+◌, ◌-◌, inl, inr, List, length, take, drop, get_or, sym, ap, subst, arith, length-drop}
use Rattle.std.specs.List.{concat}
use Rattle.std.specs.List.Sorted.{IsNonDecreasingBy}
use Rattle.std.proofs.lemmas.Bool.{cases_lt}
use Rattle.std.proofs.lemmas.List.{get_or-drop, get_or-take, length-take-le}
use Rattle.std.proofs.lemmas.List.Elements.{All-from_get_or}
use Rattle.span_order.specs.Blocks.{Packed, block_at, start_of}
use Rattle.span_order.specs.Ranked.{IsParted, rank_in}
use Rattle.span_order.proofs.Numbers.{at_end, length_at, slot_in, start_all}
use Rattle.span_order.proofs.Packing.{packed_at}

pub parted_at : (keys xs : List ℕ) (rank at : ℕ) → IsNonDecreasingBy (rank_in keys) xs → at ≤ length xs
    → (0 < at → rank_in keys (get_or xs (at - 1) 0) < rank) → (at < length xs → rank ≤ rank_in keys (get_or xs at 0))
    → IsParted keys xs rank at
parted_at keys xs rank at rises within before behind =
    let Below : ℕ → Type 0 = λ s. rank_in keys s < rank in
    let Above : ℕ → Type 0 = λ s. rank ≤ rank_in keys s in
    let front = length-take-le at xs within in
    let rest = length-drop at xs in
    record {
      before = All-from_get_or Below (take at xs) 0 (λ i h.
          subst Below (sym (get_or-take at xs i 0 (omega arith)))
          (let rise = rises i (at - 1) 0 (omega arith) (omega arith) in let last = before (omega arith) in omega arith));
      behind = All-from_get_or Above (drop at xs) 0 (λ i h.
          subst Above (sym (get_or-drop at xs i 0))
          (let rise = rises at (at + i) 0 (omega arith) (omega arith) in let first = behind (omega arith) in omega arith));
    }

pub seek_first : (keys : List ℕ) (bs : List (List ℕ)) (rank : ℕ) → Packed bs → IsNonDecreasingBy (rank_in keys) (concat bs)
    → (0 < length bs → rank ≤ rank_in keys (get_or (block_at bs 0) 0 0)) → IsParted keys (concat bs) rank 0
seek_first keys bs rank packed rises from =
    parted_at keys (concat bs) rank 0 rises (omega arith) (λ none. absurd (omega arith)) (λ some.
    elim (cases_lt 0 (length bs)) [
      | inl more ↦ (let first = (packed_at bs 0 packed more).some in
          let same = ap (rank_in keys) (slot_in bs 0 0 first) in
          let least = from more in
          omega arith)
      | inr none ↦ (let all = start_all bs 0 none in absurd (omega arith))
    ])

-- where the first slot ranks below, one stands before the place
pub some_below : (keys xs : List ℕ) (rank i : ℕ) → 0 < length xs → rank_in keys (get_or xs 0 0) < rank
    → (i < length xs → rank ≤ rank_in keys (get_or xs i 0)) → 0 < i
some_below keys xs rank i held first from = elim (cases_lt 0 i) [
  | inl is ↦ is
  | inr none ↦ (let e : i ≡ 0 = omega arith in
      let low = from (omega arith) in
      let same = ap (λ k. rank_in keys (get_or xs k 0)) e in
      absurd (omega arith))
]

pub seek_within : (keys : List ℕ) (bs : List (List ℕ)) (rank b i : ℕ) → Packed bs → IsNonDecreasingBy (rank_in keys) (concat bs)
    → b < length bs → i ≤ length (block_at bs b) → rank_in keys (get_or (block_at bs b) 0 0) < rank
    → (0 < i → rank_in keys (get_or (block_at bs b) (i - 1) 0) < rank)
    → (i < length (block_at bs b) → rank ≤ rank_in keys (get_or (block_at bs b) i 0))
    → (b + 1 < length bs → rank ≤ rank_in keys (get_or (block_at bs (b + 1)) 0 0))
    → IsParted keys (concat bs) rank (start_of bs b + i)
seek_within keys bs rank b i packed rises inside within first before from next =
    let held = (packed_at bs b packed inside).some in
    let long = length_at bs b in
    let some = some_below keys (block_at bs b) rank i held first from in
    let back : start_of bs b + (i - 1) ≡ start_of bs b + i - 1 = omega arith in
    parted_at keys (concat bs) rank (start_of bs b + i) rises (omega arith)
    (λ _. let same = ap (rank_in keys) (slot_in bs b (i - 1) (omega arith)) in
    let moved = ap (λ k. rank_in keys (get_or (concat bs) k 0)) back in
    let low = before some in
    omega arith)
    (λ more. elim (cases_lt i (length (block_at bs b))) [
      | inl here ↦ (let same = ap (rank_in keys) (slot_in bs b i here) in let least = from here in omega arith)
      | inr past ↦ (let end = at_end bs b i inside (omega arith) in
          elim (cases_lt (b + 1) (length bs)) [
            | inl last ↦ (let other = (packed_at bs (b + 1) packed last).some in
                let same = ap (rank_in keys) (slot_in bs (b + 1) 0 other) in
                let zero : start_of bs (b + 1) + 0 ≡ start_of bs b + i = omega arith in
                let moved = ap (λ k. rank_in keys (get_or (concat bs) k 0)) zero in
                let least = next last in
                omega arith)
            | inr none ↦ (let all = start_all bs (b + 1) none in absurd (omega arith))
          ])
    ])
