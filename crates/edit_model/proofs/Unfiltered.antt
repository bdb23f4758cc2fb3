-- Without filters an edit does what it does with its text as given.
use Rattle.std.proofs.Common.{◌≡◌, ℕ, ℤ, ◌++◌, ◌||◌, Bool, List, [], ◌∷◌, map, min, length, refl, sym, ap, ◌∙◌, arith}
use Rattle.std.specs.List.{list_any}
use Rattle.std.proofs.lemmas.List.{map-append}
use Rattle.std.proofs.lemmas.Bool.{cond_both}
use Rattle.edit_base.specs.declared.rows.Incoming.{Incoming}
use Rattle.edit_base.specs.declared.rows.NewSpan.{NewSpan}
use Rattle.edit_base.specs.declared.verdicts.Verdict.{Verdict}
use Rattle.edit_base.specs.declared.verdicts.Verdict.TheVariants.{Done, NoChange, Ignored, Absent, Refused}
use Rattle.edit_base.specs.declared.verdicts.Refusal.{Refusal}
use Rattle.edit_base.specs.declared.verdicts.Refusal.TheVariants.{Depth, Budget, Reserved, Slot, Order, Beyond, Below, ParagraphStart, ParagraphEnd, TooLong, SpansFull, Flags, NotInBatch, NestingFull}
use Rattle.edit_model.specs.declared.steps.Step.{Step}
use Rattle.edit_model.specs.declared.steps.Step.TheVariants as step
use Rattle.edit_model.specs.State.{State, place}
use Rattle.edit_model.specs.Flags.{is_bad}
use Rattle.edit_model.specs.Brought.{placed_span, region_over, coming_spans}
use Rattle.edit_model.specs.Filtered.{at_places, clipped, filtered, filtered_step, lies_within}
use Rattle.edit_model.specs.Log.{length_of, span_count_of, refusal_number, logged}
use Rattle.edit_model.specs.Verdicts.{judged, is_reserved}
use Rattle.edit_model.specs.Changed.{stepped, change_of}

-- ---- clipped places

twice : (x n : ℕ) → min (min x n) n ≡ min x n
twice x n = omega arith

module _ (s n : ℕ) where
  placed-clipped : (span : NewSpan) → placed_span s n (at_places (λ at. min at n) span) ≡ placed_span s n span
  placed-clipped span = rw (twice span.start n, twice span.end n) refl

  all-clipped : (spans : List NewSpan) → map (placed_span s n) (map (at_places (λ at. min at n)) spans) ≡ map (placed_span s n) spans
  all-clipped [] = refl
  all-clipped (span ∷ spans) =
      ap (λ first. first ∷ map (placed_span s n) (map (at_places (λ at. min at n)) spans)) (placed-clipped span)
      ∙ ap (λ rest. placed_span s n span ∷ rest) (all-clipped spans)

  -- clipped spans come where they come unclipped
  coming-clipped : (spans region : List NewSpan)
      → map (placed_span s n) (map (at_places (λ at. min at n)) spans ++ region) ≡ map (placed_span s n) (spans ++ region)
  coming-clipped spans region =
      map-append (placed_span s n) (map (at_places (λ at. min at n)) spans) region
      ∙ ap (λ front. front ++ map (placed_span s n) region) (all-clipped spans)
      ∙ sym (map-append (placed_span s n) spans region)

-- a test that doesn't look at places
any-at_places : (to : ℕ → ℕ) (test : NewSpan → Bool) → ((span : NewSpan) → test (at_places to span) ≡ test span)
    → (spans : List NewSpan) → list_any test (map (at_places to) spans) ≡ list_any test spans
any-at_places to test same [] = refl
any-at_places to test same (span ∷ spans) =
    ap (λ first. first || list_any test (map (at_places to) spans)) (same span)
    ∙ ap (λ rest. test span || rest) (any-at_places to test same spans)

-- ---- edits

-- two edits of a state do the same
pub record DoesTheSame (state : State) (asked other : Step) : Type 0 where
  pub verdict : (slots : ℕ) → judged state slots asked ≡ judged state slots other
  pub state_is : stepped state asked ≡ stepped state other
  pub effect : change_of state asked ≡ change_of state other
  pub number : (verdict : Verdict) → logged state asked verdict ≡ logged state other verdict

-- edits after which as many units and spans would stand have the same numbers behind their refusals
same_refusal : (state : State) (asked other : Step) → length_of state asked ≡ length_of state other → span_count_of state asked ≡ span_count_of state other
    → (refusal : Refusal) → refusal_number state asked refusal ≡ refusal_number state other refusal
same_refusal state asked other lengths counts Depth = refl
same_refusal state asked other lengths counts Budget = refl
same_refusal state asked other lengths counts Reserved = refl
same_refusal state asked other lengths counts Slot = refl
same_refusal state asked other lengths counts Order = refl
same_refusal state asked other lengths counts Beyond = refl
same_refusal state asked other lengths counts Below = refl
same_refusal state asked other lengths counts ParagraphStart = refl
same_refusal state asked other lengths counts ParagraphEnd = refl
same_refusal state asked other lengths counts TooLong = lengths
same_refusal state asked other lengths counts SpansFull = counts
same_refusal state asked other lengths counts Flags = refl
same_refusal state asked other lengths counts NotInBatch = refl
same_refusal state asked other lengths counts NestingFull = refl

same_logged : (state : State) (asked other : Step) → length_of state asked ≡ length_of state other → span_count_of state asked ≡ span_count_of state other
    → (verdict : Verdict) → logged state asked verdict ≡ logged state other verdict
same_logged state asked other lengths counts Done = refl
same_logged state asked other lengths counts NoChange = refl
same_logged state asked other lengths counts Ignored = refl
same_logged state asked other lengths counts Absent = refl
same_logged state asked other lengths counts (Refused refusal) = rw (same_refusal state asked other lengths counts refusal) refl

same_as_itself : (state : State) (asked : Step) → DoesTheSame state asked asked
same_as_itself state asked = record { verdict = λ slots. refl; state_is = refl; effect = refl; number = λ verdict. refl }

module _ (state : State) (start end : ℤ) (incoming : Incoming) where
  came : map (placed_span (place start) (length incoming.units)) (coming_spans (clipped incoming))
      ≡ map (placed_span (place start) (length incoming.units)) (coming_spans incoming)
  came = coming-clipped (place start) (length incoming.units) incoming.spans (region_over incoming.composing (length incoming.units))

  reserved : list_any is_reserved (clipped incoming).spans ≡ list_any is_reserved incoming.spans
  reserved = any-at_places (λ at. min at (length incoming.units)) is_reserved (λ span. refl) incoming.spans

  bad : list_any (λ span. is_bad span.flags) (clipped incoming).spans ≡ list_any (λ span. is_bad span.flags) incoming.spans
  bad = any-at_places (λ at. min at (length incoming.units)) (λ span. is_bad span.flags) (λ span. refl) incoming.spans

  -- a replacement by the text with its places clipped
  pub does-clipped : DoesTheSame state (step.Replace start end (clipped incoming)) (step.Replace start end incoming)
  unfolding judged stepped change_of
  does-clipped = record {
    verdict = λ slots. rw (reserved, bad, came) refl;
    state_is = rw came refl;
    effect = rw came refl;
    number = same_logged state (step.Replace start end (clipped incoming)) (step.Replace start end incoming) refl (rw came refl);
  }

pub does-unfiltered : (state : State) (asked : Step) → DoesTheSame state (filtered_step [] state asked) asked
unfolding filtered
does-unfiltered state (step.Replace start end incoming) =
    cond_both (lies_within state start end) (clipped incoming) incoming
    (λ one. DoesTheSame state (step.Replace start end one) (step.Replace start end incoming))
    (λ is. does-clipped state start end incoming) (λ is. same_as_itself state (step.Replace start end incoming))
does-unfiltered state (step.Set id start end flags what) = same_as_itself state (step.Set id start end flags what)
does-unfiltered state (step.Remove id) = same_as_itself state (step.Remove id)
does-unfiltered state (step.Select start end) = same_as_itself state (step.Select start end)
does-unfiltered state step.Deselect = same_as_itself state step.Deselect
does-unfiltered state step.Drop = same_as_itself state step.Drop
does-unfiltered state (step.Mark start end) = same_as_itself state (step.Mark start end)
