-- Seats that are read one by one, where they are few.
use Rattle.std.proofs.Common.{◌≡◌, ℕ, ◌+◌, ◌-◌, ◌*◌, ◌<◌, ◌≤◌, ◌^◌, List, map, length, arith}
use Rattle.std.proofs.Math.Nat.{mul-le-mul_right}
use Rattle.std.proofs.lemmas.Grind.{pow_more}
use Rattle.std.proofs.lemmas.List.{length-map}
use Rattle.span_table.specs.declared.kept.KeptRow.{KeptRow}
use Rattle.span_table.specs.Table.{seen}
use Rattle.interval_tree.specs.Answers.{IsWithin, near_count}

times : (m n k : ℕ) → k ≤ n → k ≤ (m + 1) * n
times m n k few = let more : 1 * n ≤ (m + 1) * n = mul-le-mul_right n (omega arith) in omega (arith, more)

pub seats_within : (start end gap room : ℕ) (kept : List KeptRow) (seats old new : ℕ) → seats ≤ length kept
    → ((h : ℕ) → length kept < 2 ^ h → seats ≤ h + 1) → new ≡ old + seats → IsWithin start end (map (seen gap room) kept) (new - old)
seats_within start end gap room kept seats old new all few ticks =
    let long = length-map kept (seen gap room) in
    record {
      each = omega (arith, all, long, ticks);
      high = λ h below.
          let fits = few h (omega (arith, long, below, pow_more 2 h)) in
          times (near_count start end (map (seen gap room) kept)) (h + 1) (new - old) (omega (arith, fits, ticks));
    }
