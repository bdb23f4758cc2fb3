-- Live slots that go by the number of live slots before them.
use Rattle.std.proofs.Common.{◌≡◌, ℕ, ◌+◌, ◌<◌, ◌≤◌, true, Bool, List, map, length, get_or, sym, ◌∙◌, arith}
use Rattle.std.specs.List.{All, Contains, range_with_len}
use Rattle.std.specs.List.Sorted.{IsStrictlyIncreasing}
use Rattle.std.proofs.lemmas.List.{ext_get_or, get_or-map, length-map}
use Rattle.std.proofs.lemmas.List.FromFn.{get_or-range_with_len, length-range_with_len}
use Rattle.slot_ranks.specs.Slots.{is_live, line, rank}
use Rattle.slot_ranks.proofs.Below.{rank_live, ranks_rise}
use Rattle.slot_ranks.proofs.Laws.{line_of, ranked_at}

pub rank_up : (live : List Bool) (s t : ℕ) → is_live live s ≡ true → s < t → rank live s < rank live t
rank_up live s t is less = omega (arith, rank_live live s is, ranks_rise live (s + 1) t (omega (arith, less)))

pub rank_order : (live : List Bool) (s t : ℕ) → s ≤ t → rank live s ≤ rank live t
rank_order live s t below = (ranks_rise live s t below).least

-- all of them are the first numbers
pub ranks_all : (live : List Bool) → map (rank live) (line live) ≡ range_with_len 0 (length (line live))
ranks_all live =
    let n = length (line live) in
    let long = length-map (line live) (rank live) in
    ext_get_or 0 (map (rank live) (line live)) (range_with_len 0 n) (long ∙ sym (length-range_with_len 0 n)) (λ k below.
    let within : k < n = omega (arith, below, long) in
    let start : 0 + k ≡ k = omega arith in
    get_or-map (rank live) (line live) k 0 0 within ∙ (ranked_at live k within).at ∙ sym (get_or-range_with_len 0 n k 0 within ∙ start))

pub ranks_climb : (live : List Bool) (xs : List ℕ) → IsStrictlyIncreasing xs → All (Contains (line live)) xs → IsStrictlyIncreasing (map (rank live) xs)
ranks_climb live xs up among = λ k within.
    let long = length-map xs (rank live) in
    let here : k < length xs = omega (arith, within, long) in
    let next : k + 1 < length xs = omega (arith, within, long) in
    let is = line_of live (get_or xs k 0) (among k 0 here) in
    omega (
      arith,
      get_or-map (rank live) xs k 0 0 here,
      get_or-map (rank live) xs (k + 1) 0 0 next,
      rank_up live (get_or xs k 0) (get_or xs (k + 1) 0) is (up k next),
    )
