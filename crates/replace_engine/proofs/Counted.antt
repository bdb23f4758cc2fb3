-- Spans that are counted one by one, as rows are read.
use Rattle.std.proofs.Common.{◌≡◌, ℕ, ◌+◌, ◌<◌, Bool, true, false, not, cond, List, ◌++◌, take, length, sym, ap, ◌∙◌, arith}
use Rattle.std.specs.List.{filter}
use Rattle.std.proofs.lemmas.List.{length-append, length-map}
use Rattle.std.proofs.lemmas.List.Filters.{length-filter_more}
use Rattle.edit_model.specs.State.{Span}
use Rattle.span_table.specs.Table.{Rows, no_span, seen, span_at, spans_of}
use Rattle.moved_rows.specs.Moves.{IsStill, Moves}

-- one more span that fails the test is counted
module _ (test : Span → Bool) (spans : List Span) (i : ℕ) (below : i < length spans) where
  pub kept-more : (passes : Bool) (count : ℕ) → count ≡ length (filter (λ span. not (test span)) (take i spans))
      → passes ≡ test (span_at spans i)
      → cond (not passes) (count + 1) count ≡ length (filter (λ span. not (test span)) (take (i + 1) spans))
  kept-more passes count so_far is =
      by_test passes count (length (filter (λ span. not (test span)) (take i spans))) so_far
      ∙ ap (λ last. length (filter (λ span. not (test span)) (take i spans)) + cond (not last) 1 0) is
      ∙ sym (length-filter_more (λ span. not (test span)) spans i no_span below)
    where
      by_test : (passes : Bool) (count before : ℕ) → count ≡ before → cond (not passes) (count + 1) count ≡ before + cond (not passes) 1 0
      by_test true count before is = omega (arith, is)
      by_test false count before is = omega (arith, is)

-- as many rows stand as stood, and as came
pub length-behind : (new old : Rows) (came : List Span) → spans_of new ≡ spans_of old ++ came → length new.kept ≡ length old.kept + length came
length-behind new old came is =
    sym (length-map new.kept (seen new.gap new.room)) ∙ ap length is ∙ length-append (spans_of old) came
    ∙ ap (λ n. n + length came) (length-map old.kept (seen old.gap old.room))

-- what stays twice stays
pub still_trans : (old mid new : Moves) → IsStill old mid → IsStill mid new → IsStill old new
still_trans old mid new first second = record {
  before = second.before ∙ first.before;
  told = second.told ∙ first.told;
  gap = second.gap ∙ first.gap;
  room = second.room ∙ first.room;
}
