-- The order of numbers is that of their places, and at one place that of their sides, wherever the gap stands.
use Rattle.std.proofs.Common.{◌≡◌, ℕ, ◌<◌, ◌≤◌, Bool, true, false, subst, arith}
use Rattle.std.proofs.lemmas.Bool.Decides.{nat_tests}
use Rattle.span_table.specs.Numbers.{IsNumber, bare_of, number_at, opened, place_of}
use Rattle.interval_tree.specs.Walk.{IsBound, IsStop}

-- ---- numbers of places

-- a greater number stands at no lower place
climbs : (gap room : ℕ) (first second : Bool) (x y : ℕ) → number_at gap room first x ≤ number_at gap room second y → x ≤ y
climbs gap room true true x y order = grind (arith, nat_tests)
climbs gap room true false x y order = grind (arith, nat_tests)
climbs gap room false true x y order = grind (arith, nat_tests)
climbs gap room false false x y order = grind (arith, nat_tests)

-- one that is less than that of the first side stands at a lower place
climbs_past : (gap room : ℕ) (points : Bool) (x y : ℕ) → number_at gap room points x < number_at gap room false y → x < y
climbs_past gap room true x y order = grind (arith, nat_tests)
climbs_past gap room false x y order = grind (arith, nat_tests)

-- one that is greater than that of the second side stands at a higher place
climbs_over : (gap room : ℕ) (points : Bool) (x y : ℕ) → number_at gap room true y < number_at gap room points x → y < x
climbs_over gap room true x y order = grind (arith, nat_tests)
climbs_over gap room false x y order = grind (arith, nat_tests)

-- ---- numbers

module _ (gap room : ℕ) (first second : Bool) (m n : ℕ) (one : IsNumber gap room first m) (other : IsNumber gap room second n) where
  pub places_rise : m ≤ n → place_of gap room m ≤ place_of gap room n
  places_rise order =
      climbs gap room first second (place_of gap room m) (place_of gap room n)
      (subst (λ k. k ≤ number_at gap room second (place_of gap room n)) one.is (subst (λ k. m ≤ k) other.is order))

-- the number of a place bounds those of lower places
pub place_bounds : (gap room start number : ℕ) → number ≡ number_at gap room false start → IsBound gap room start number
place_bounds gap room start number is = record {
  below = λ points other valid less.
      climbs_past gap room points (place_of gap room other) start
      (subst (λ k. k < number_at gap room false start) valid.is (subst (λ k. other < k) is less));
  above = λ points other valid more.
      climbs gap room false points start (place_of gap room other)
      (subst (λ k. number_at gap room false start ≤ k) valid.is (subst (λ k. k ≤ other) is more));
}

-- and that on the other side those of higher places
pub place_stops : (gap room end number : ℕ) → number ≡ number_at gap room true end → IsStop gap room end number
place_stops gap room end number is = record {
  below = λ points other valid less.
      climbs gap room points true (place_of gap room other) end
      (subst (λ k. k ≤ number_at gap room true end) valid.is (subst (λ k. other ≤ k) is less));
  above = λ points other valid more.
      climbs_over gap room points (place_of gap room other) end
      (subst (λ k. number_at gap room true end < k) valid.is (subst (λ k. k < other) is more));
}

-- ---- another gap

opened_back : (gap room a b : ℕ) → opened gap room a ≤ opened gap room b → a ≤ b
opened_back gap room a b order = grind (arith, nat_tests)

opened_rises : (gap room a b : ℕ) → a ≤ b → opened gap room a ≤ opened gap room b
opened_rises gap room a b order = grind (arith, nat_tests)

-- numbers of the same ends round another gap are in the same order
pub order_stays : (old_gap old_room gap room : ℕ) (first second : Bool) (m n : ℕ) → IsNumber old_gap old_room first m → IsNumber old_gap old_room second n
    → m ≤ n → number_at gap room first (place_of old_gap old_room m) ≤ number_at gap room second (place_of old_gap old_room n)
order_stays old_gap old_room gap room first second m n one other order =
    let x = bare_of first (place_of old_gap old_room m) in
    let y = bare_of second (place_of old_gap old_room n) in
    opened_rises gap room x y
    (opened_back old_gap old_room x y (subst (λ k. k ≤ opened old_gap old_room y) one.is (subst (λ k. m ≤ k) other.is order)))
