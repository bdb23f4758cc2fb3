-- The table of verdicts of a replacement, by the units and spans that its body reads.
use Rattle.std.proofs.Common.{◌≡◌, ℕ, ◌++◌, ◌&&◌, pos, Bool, true, false, cond, eqb, ltb, List, map, length, refl, sym, ap, ◌∙◌, inl, inr}
use Rattle.std.specs.Prelude.{nat_lt}
use Rattle.std.specs.Ordering.{int_eq}
use Rattle.std.proofs.lemmas.Bool.{cases_eq, eq-eqb, ne_eqb}
use Rattle.std.proofs.lemmas.Bool.Decides.{Decides-int_eq}
use Rattle.edit_base.specs.declared.bounds.TheConstants.Limits.{TEXT, SPANS}
use Rattle.edit_base.specs.declared.rows.Incoming.{Incoming}
use Rattle.edit_base.specs.declared.rows.NewSpan.{NewSpan}
use Rattle.edit_base.specs.declared.verdicts.Verdict.TheVariants.{Done, NoChange, Refused}
use Rattle.edit_base.specs.declared.verdicts.Refusal.TheVariants.{SpansFull}
use Rattle.edit_model.specs.State.{Span, place}
use Rattle.edit_model.specs.Brought.{coming_spans, newcomers, placed_span}
use Rattle.edit_model.specs.Replaced.{spliced, stayed_spans}
use Rattle.edit_model.specs.Verdicts.{first_of, length_after}
use Rattle.replace_engine.specs.EditVerdicts.{exchange_lines}

-- signed numbers without sign are equal where they are
same_places : (s e : ℕ) → int_eq (pos s) (pos e) ≡ eqb s e
same_places s e = elim (cases_eq s e) [
  | inl is ↦ (Decides-int_eq (pos s) (pos e)).1 (ap pos is) ∙ sym (eq-eqb s e is)
  | inr other ↦ not_equal (int_eq (pos s) (pos e)) (λ is. other (ap place ((Decides-int_eq (pos s) (pos e)).0 is))) ∙ sym (ne_eqb s e other)
]
  where
    not_equal : (test : Bool) → (test ≡ true → ⊥) → test ≡ false
    not_equal true never = absurd (never refl)
    not_equal false _ = refl

module _ (units now : List ℕ) (attached : List Span) (s e n : ℕ) (incoming : Incoming) (brought : List ℕ) (spans : List NewSpan)
    (same : now ≡ units) (brings : brought ≡ incoming.units) (counted : n ≡ length incoming.units) (are : spans ≡ coming_spans incoming) where
  -- where the text isn't too long, the spans decide
  pub verdict-cut : nat_lt TEXT (length_after (record { units = units; spans = attached }) (pos s) (pos e) incoming) ≡ false
      → cond (eqb s e && eqb n 0
      && eqb (length (newcomers (spliced now s e brought) (stayed_spans (record { units = now; spans = attached }) s e n)
      (map (placed_span s (length brought)) spans))) 0) NoChange
      (cond (ltb SPANS (length (stayed_spans (record { units = now; spans = attached }) s e n
      ++ newcomers (spliced now s e brought) (stayed_spans (record { units = now; spans = attached }) s e n)
      (map (placed_span s (length brought)) spans)))) (Refused SpansFull) Done)
      ≡ first_of (exchange_lines (record { units = units; spans = attached }) (pos s) (pos e) incoming)
  verdict-cut short = rw (short, same_places s e, same, brings, counted, are) refl
