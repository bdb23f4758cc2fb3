-- Numbers are in the same order wherever the gap stands.
use Rattle.std.proofs.Common.{ℕ, ◌+◌, ◌*◌, ◌<◌, ◌≤◌, Bool, subst, arith, inl, inr}
use Rattle.std.proofs.lemmas.Bool.{cases_lt}
use Rattle.std.proofs.lemmas.Bool.Decides.{nat_tests}
use Rattle.span_table.specs.Numbers.{IsNumber, bare_of, number_at, opened, place_of}

opened_back : (gap room a b : ℕ) → opened gap room a ≤ opened gap room b → a ≤ b
opened_back gap room a b order = grind (arith, nat_tests)

opened_rises : (gap room a b : ℕ) → a ≤ b → opened gap room a ≤ opened gap room b
opened_rises gap room a b order = grind (arith, nat_tests)

opened_less : (gap room a b : ℕ) → a < b → opened gap room a < opened gap room b
opened_less gap room a b less = grind (arith, nat_tests)

module _ (old_gap old_room gap room : ℕ) (first second : Bool) (m n : ℕ) (one : IsNumber old_gap old_room first m) (other : IsNumber old_gap old_room second n) where
  abbrev x : ℕ
  x = bare_of first (place_of old_gap old_room m)

  abbrev y : ℕ
  y = bare_of second (place_of old_gap old_room n)

  pub order_stays : m ≤ n → number_at gap room first (place_of old_gap old_room m) ≤ number_at gap room second (place_of old_gap old_room n)
  order_stays order =
      opened_rises gap room x y
      (opened_back old_gap old_room x y (subst (λ k. k ≤ opened old_gap old_room y) one.is (subst (λ k. m ≤ k) other.is order)))

  below : m < n → x < y
  below less = elim (cases_lt x y) [
    | inl is ↦ is
    | inr past ↦ (let back : opened old_gap old_room y ≤ opened old_gap old_room x = opened_rises old_gap old_room y x past in
        absurd (omega (arith, less, back, one.is, other.is)))
  ]

  -- so are ranks, which go by number and then by slot
  pub ranks_stay : (s t : ℕ) → s < 4294967296 → t < 4294967296 → m * 4294967296 + s ≤ n * 4294967296 + t
      → number_at gap room first (place_of old_gap old_room m) * 4294967296 + s
      ≤ number_at gap room second (place_of old_gap old_room n) * 4294967296 + t
  ranks_stay s t fits fit ranks = elim (cases_lt m n) [
    | inl less ↦ (let further : opened gap room x < opened gap room y = opened_less gap room x y (below less) in omega (arith, further, fits))
    | inr past ↦ (let same : m ≤ n = omega (arith, ranks, fit) in
        let still = order_stays same in
        let slots : s ≤ t = omega (arith, past, same, ranks) in
        omega (arith, still, slots))
  ]
