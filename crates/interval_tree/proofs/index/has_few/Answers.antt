-- A number's digits are no more than those of a power above it.
use Rattle.std.proofs.Common.{ℕ, ◌+◌, ◌-◌, ◌<◌, ◌≤◌, ◌^◌, leb-true, inl, inr, arith}
use Rattle.std.specs.Int.Count.{count_leading_zeros}
use Rattle.std.proofs.Math.Nat.{pow-le-pow_right}
use Rattle.std.proofs.lemmas.Bool.Decides.{leb_tells, nat_tests}
use Rattle.std.proofs.lemmas.Grind.{pow_more}
use Rattle.std.proofs.lemmas.Nat.{leading_length}
use Rattle.interval_tree.proofs.index.has_few.Goals as goal

few : (seats rows h : ℕ) → rows < 2 ^ 64 → seats ≤ 64 - count_leading_zeros 64 rows + 1 → rows < 2 ^ h → seats ≤ h + 1
few seats rows h fits is below =
    let digits = leading_length 64 rows fits in
    elim (leb_tells (h + 1) digits.0) [
      | inl w ↦ (let more : 2 ^ (h + 1) ≤ 2 ^ digits.0 = pow-le-pow_right (omega arith) w.1 in
          absurd (omega (arith, more, pow_more 2 h, digits.3)))
      | inr w ↦ omega (arith, digits.1)
    ]

all_high : (seats rows : ℕ) → rows < 2 ^ 64 → ((h : ℕ) → rows < 2 ^ h → seats ≤ h + 1) → seats ≤ 64 - count_leading_zeros 64 rows + 1
all_high seats rows fits each =
    let digits = leading_length 64 rows fits in
    let at = each digits.0 digits.2 in
    omega (arith, digits.1)

pub returns : goal.returns
returns c = (
  λ is h below. few c.args.seats c.args.rows h (omega arith) (leb-true _ _ is) below,
  λ each. let fits = all_high c.args.seats c.args.rows (omega arith) each in grind (arith, nat_tests),
)
