-- Incoming spans, one by one.
use Rattle.std.proofs.Common.{◌≡◌, ℕ, ◌+◌, ◌<◌, ◌≤◌, ◌&&◌, ◌||◌, Bool, true, false, not, cond, List, [], ◌∷◌, ◌++◌, map, take, drop, length, get_or, refl, sym, ap, ◌∙◌, arith, filter}
use Rattle.std.specs.List.{list_any}
use Rattle.std.proofs.lemmas.List.Filters.{length-filter_both}
use Rattle.std.proofs.lemmas.List.{length-map, length-append, map-append, map_more, take-append-drop}
use Rattle.edit_base.specs.declared.rows.NewSpan.{NewSpan}
use Rattle.edit_base.specs.declared.rows.SpanRow.{SpanRow}
use Rattle.edit_model.specs.State.{Span}
use Rattle.edit_model.specs.Attached.{has_id, is_attached}
use Rattle.edit_model.specs.Brought.{has_place, is_skipped, newcomers}
use Rattle.edit_model.specs.Rows.{span_of}
use Rattle.edit_model.specs.Replaced.{is_emptied, moved_span, kept_spans}
use Rattle.edit_model.proofs.SpanLists.{attached-map}
use Rattle.edit_model.proofs.Newcomers.{newcomers-append, attached-newcomers}
use Rattle.text_cut.specs.Halves.{joined}
use Rattle.text_cut.specs.declared.cut.Cut.{Cut}
use Rattle.edit_model.specs.Rows.{spans_in}
use Rattle.replace_engine.specs.Arrivals.{arrivals, placed, stayed, text_then}

-- ---- tests of what is kept

module _ {X : Type 0} (test keep : X → Bool) where
  any_where : (kept : Bool) (x : X) (others : List X) (rest : Bool) → list_any test others ≡ rest
      → list_any test (cond kept (x ∷ others) others) ≡ ((test x && kept) || rest)
  any_where true x others rest is = both (test x) is
    where
      both : (first : Bool) → list_any test others ≡ rest → (first || list_any test others) ≡ ((first && true) || rest)
      both true is = refl
      both false is = is
  any_where false x others rest is = none (test x) is
    where
      none : (first : Bool) → list_any test others ≡ rest → list_any test others ≡ ((first && false) || rest)
      none true is = is
      none false is = is

  -- some element that is kept passes
  pub list_any-filter : (xs : List X) → list_any test (filter keep xs) ≡ list_any (λ x. test x && keep x) xs
  list_any-filter [] = refl
  list_any-filter (x ∷ xs) = any_where (keep x) x (filter keep xs) (list_any (λ y. test y && keep y) xs) (list_any-filter xs)

-- ---- incoming spans

module _ (cut : Cut) (attached : List Span) where
  -- one more incoming span
  pub arrivals-more : (spans : List NewSpan) (i : ℕ) (d : NewSpan) → i < length spans
      → arrivals cut attached (take (i + 1) spans)
      ≡ arrivals cut attached (take i spans) ++ arrivals cut (attached ++ arrivals cut attached (take i spans)) (get_or spans i d ∷ [])
  arrivals-more spans i d below =
      ap (newcomers (text_then cut) attached) (map_more (placed cut) spans i d below)
      ∙ newcomers-append (text_then cut) attached (map (placed cut) (take i spans)) (placed cut (get_or spans i d) ∷ [])

  -- the first spans bring no more than all
  pub length-arrivals-take : (spans : List NewSpan) (k : ℕ) → length (arrivals cut attached (take k spans)) ≤ length (arrivals cut attached spans)
  length-arrivals-take spans k =
      let front : List Span = map (placed cut) (take k spans) in
      let rest : List Span = map (placed cut) (drop k spans) in
      let all = ap (λ list. newcomers (text_then cut) attached (map (placed cut) list)) (sym (take-append-drop k spans))
      ∙ ap (newcomers (text_then cut) attached) (map-append (placed cut) (take k spans) (drop k spans))
      ∙ newcomers-append (text_then cut) attached front rest in
      omega (
        arith,
        ap length all,
        length-append (newcomers (text_then cut) attached front)
            (newcomers (text_then cut) (attached ++ newcomers (text_then cut) attached front) rest),
      )

-- an id is attached behind arrivals where it was, or one of the incoming spans that has a place brings it
pub attached-arrivals : (cut : Cut) (id : ℕ) (attached : List Span) (spans : List NewSpan) → is_attached id (attached ++ arrivals cut attached spans)
    ≡ (is_attached id attached || list_any (λ span. has_id id span && has_place (text_then cut) span) (map (placed cut) spans))
attached-arrivals cut id attached spans = attached-newcomers (text_then cut) id attached (map (placed cut) spans)

-- no more spans stay than there were
pub length-stayed-le : (cut : Cut) (spans : List Span) → length (stayed cut spans) ≤ length spans
length-stayed-le cut spans =
    omega (
      arith,
      length-map (kept_spans cut.start cut.end cut.grown spans) (moved_span cut.start cut.end cut.grown (joined cut.text)),
      length-filter_both (is_emptied cut.start cut.end cut.grown) (λ span. not (is_emptied cut.start cut.end cut.grown span)) (λ span. refl) spans,
    )

pub ruleset arrived = (attached-arrivals, length-stayed-le)

-- some spans come, and behind them others
pub arrivals-append : (cut : Cut) (attached : List Span) (spans others : List NewSpan)
    → arrivals cut attached (spans ++ others) ≡ arrivals cut attached spans ++ arrivals cut (attached ++ arrivals cut attached spans) others
arrivals-append cut attached spans others =
    ap (newcomers (text_then cut) attached) (map-append (placed cut) spans others)
    ∙ newcomers-append (text_then cut) attached (map (placed cut) spans) (map (placed cut) others)

pub length-arrivals-append : (cut : Cut) (attached : List Span) (spans others : List NewSpan)
    → length (arrivals cut attached (spans ++ others))
    ≡ length (arrivals cut attached spans) + length (arrivals cut (attached ++ arrivals cut attached spans) others)
length-arrivals-append cut attached spans others =
    ap length (arrivals-append cut attached spans others)
    ∙ length-append (arrivals cut attached spans) (arrivals cut (attached ++ arrivals cut attached spans) others)

pub ruleset one_by_one = (arrivals-append, length-arrivals-append)

-- ---- one more span of a list

module _ (cut : Cut) (attached : List Span) (spans : List NewSpan) (i : ℕ) (d : NewSpan) (below : i < length spans) where
  count_one : (skipped arrives : Bool) (span : Span) (now : List Span) (count : ℕ) → arrives ≡ not skipped → count ≡ length now
      → cond arrives (count + 1) count ≡ length (now ++ cond skipped [] (span ∷ []))
  count_one true false span now count opposite is = omega (arith, length-append now [])
  count_one false true span now count opposite is = omega (arith, length-append now (span ∷ []))
  count_one true true span now count opposite is = absurd (cc)
  count_one false false span now count opposite is = absurd (cc)

  -- one more that arrives is counted
  pub count-more : (arrives : Bool) (count : ℕ) → count ≡ length (arrivals cut attached (take i spans))
      → arrives ≡ not (is_skipped (text_then cut) (attached ++ arrivals cut attached (take i spans)) (placed cut (get_or spans i d)))
      → cond arrives (count + 1) count ≡ length (arrivals cut attached (take (i + 1) spans))
  count-more arrives count so_far is =
      count_one (is_skipped (text_then cut) (attached ++ arrivals cut attached (take i spans)) (placed cut (get_or spans i d))) arrives
      (placed cut (get_or spans i d))
      (arrivals cut attached (take i spans)) count is so_far
      ∙ sym (ap length (arrivals-more cut attached spans i d below))

  module _ (now : List Span) (so_far : now ≡ attached ++ arrivals cut attached (take i spans)) where
    -- behind the spans that stand there now, the next one arrives or not
    pub next_arrives : arrivals cut attached (take (i + 1) spans) ≡ arrivals cut attached (take i spans) ++ arrivals cut now (get_or spans i d ∷ [])
    next_arrives = rw so_far (arrivals-more cut attached spans i d below)

    pub next_within : length (arrivals cut attached (take i spans)) + length (arrivals cut now (get_or spans i d ∷ [])) ≤ length (arrivals cut attached spans)
    next_within =
        let all : length (arrivals cut attached (take (i + 1) spans))
        ≡ length (arrivals cut attached (take i spans)) + length (arrivals cut now (get_or spans i d ∷ [])) =
        ap length next_arrives ∙ length-append (arrivals cut attached (take i spans)) (arrivals cut now (get_or spans i d ∷ [])) in
        omega (arith, all, length-arrivals-take cut attached spans (i + 1))

-- an id stays attached where a span of it isn't emptied
pub attached-stayed : (cut : Cut) (id : ℕ) (spans : List Span)
    → list_any (λ span. has_id id span && not (is_emptied cut.start cut.end cut.grown span)) spans ≡ is_attached id (stayed cut spans)
attached-stayed cut id spans =
    sym (attached-map (moved_span cut.start cut.end cut.grown (joined cut.text)) (λ span. refl) id (kept_spans cut.start cut.end cut.grown spans)
    ∙ list_any-filter (has_id id) (λ span. not (is_emptied cut.start cut.end cut.grown span)) spans)

-- as many rows stand as stood, and as came
pub length-came : (new old : List SpanRow) (came : List Span) → spans_in new ≡ spans_in old ++ came → length new ≡ length old + length came
length-came new old came is =
    sym (length-map new span_of) ∙ ap length is ∙ length-append (spans_in old) came ∙ ap (λ n. n + length came) (length-map old span_of)

-- one span comes, or is skipped
pub length-one : (cut : Cut) (attached : List Span) (span : NewSpan)
    → length (arrivals cut attached (span ∷ [])) ≡ cond (not (is_skipped (text_then cut) attached (placed cut span))) 1 0
length-one cut attached span = by_test (is_skipped (text_then cut) attached (placed cut span))
  where
    by_test : (skipped : Bool) → length (cond skipped [] (placed cut span ∷ [])) ≡ cond (not skipped) 1 0
    by_test true = refl
    by_test false = refl
