-- Rows that go together.
use Rattle.std.specs.Prelude.{ℕ, Bool, List, filter, length}
use Rattle.std.specs.List.{range_with_len}
use Rattle.edit_model.specs.State.{Span}
use Rattle.span_table.specs.Table.{span_at}

-- the places of the spans that pass a test, in order
abbrev pub passing : (Span → Bool) → List Span → List ℕ
passing test spans = filter (λ i. test (span_at spans i)) (range_with_len 0 (length spans))
