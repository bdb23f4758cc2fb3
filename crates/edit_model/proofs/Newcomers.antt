-- The incoming spans that are attached.
use Rattle.std.proofs.Common.{◌≡◌, ◌≢◌, ℕ, ◌+◌, ◌<◌, ◌≤◌, ◌&&◌, ◌||◌, Bool, true, false, not, cond, eqb, List, [], ◌∷◌, ◌++◌, map, take, length, refl, sym, ap, ◌∙◌, subst, arith, append_assoc, append-nil}
use Rattle.std.proofs.Math.Bool.{or_assoc, or-false}
use Rattle.std.specs.List.{All, AllByRecursion, filter, list_any}
use Rattle.std.proofs.lemmas.Bool.{cond_both, or_parts, not-false, eqb-true, ne_eqb, ltb-false}
use Rattle.std.proofs.lemmas.Bool.Decides.{nat_tests}
use Rattle.std.proofs.lemmas.List.Elements.{recursion_from_All}
use Rattle.edit_base.specs.declared.kinds.What.{What}
use Rattle.edit_base.specs.declared.kinds.What.TheVariants.{Tag, Face, Margin, Float, Watch, SelStart, SelEnd, Composing}
use Rattle.edit_base.specs.declared.rows.Incoming.{Incoming}
use Rattle.edit_base.specs.declared.rows.NewSpan.{NewSpan}
use Rattle.edit_model.specs.State.{Span}
use Rattle.edit_model.specs.Flags.{kind_of, is_bad, is_point_mark, is_paragraph}
use Rattle.edit_model.specs.Boundaries.{is_boundary}
use Rattle.edit_model.specs.Attached.{has_id, is_attached, spans_of}
use Rattle.edit_model.specs.Over.{is_watch}
use Rattle.edit_model.specs.Brought.{IsOrdered, region_over, coming_spans, placed_span, has_place, is_skipped, newcomers, brought_spans}
use Rattle.edit_model.specs.WellFormed.{IsSpanOver, IsKeptRight, HasDistinctIds, HasSlot, HasOtherSeat, HasDistinctSeats, is_kept_what, composing_id, composing_flags}
use Rattle.edit_model.specs.Verdicts.{is_kept_id, is_reserved, brings_reserved, brings_bad_flags}
use Rattle.edit_model.proofs.SpanLists.{all_fail, all-map, all-append, all-both, all-weaker, distinct-push, other_seat-sym}

-- ---- ids

pub attached-append : (id : ℕ) (spans others : List Span) → is_attached id (spans ++ others) ≡ (is_attached id spans || is_attached id others)
attached-append id [] others = refl
attached-append id (span ∷ spans) others =
    ap (λ rest. has_id id span || rest) (attached-append id spans others) ∙ sym (or_assoc (has_id id span) (is_attached id spans) (is_attached id others))

-- ---- newcomers

-- what holds of each span that has a place holds of each newcomer
module _ (P : Span → Type 0) (units : List ℕ) where
  has_place-unskipped : (attached : List Span) (span : Span) → is_skipped units attached span ≡ false → has_place units span ≡ true
  has_place-unskipped attached span kept = not-false _ (or_parts (is_attached span.id attached) (not (has_place units span)) kept).1

  pub all-newcomers : (attached spans : List Span)
      → AllByRecursion (λ span. has_place units span ≡ true → P span) spans → AllByRecursion P (newcomers units attached spans)
  all-newcomers attached [] each = tt
  all-newcomers attached (span ∷ spans) each =
      cond_both (is_skipped units attached span) (newcomers units attached spans) (span ∷ newcomers units (attached ++ span ∷ []) spans)
      (AllByRecursion P) (λ skipped. all-newcomers attached spans each.1)
      (λ kept. (each.0 (has_place-unskipped attached span kept), all-newcomers (attached ++ span ∷ []) spans each.1))

module _ (units : List ℕ) where
  first_newcomers : (test : Bool) (attached spans : List Span) (span : Span) → is_skipped units attached span ≡ test
      → newcomers units attached (span ∷ spans) ≡ newcomers units attached (span ∷ [])
      ++ newcomers units (attached ++ newcomers units attached (span ∷ [])) spans
  first_newcomers true attached spans span is = rw (is, append-nil attached) refl
  first_newcomers false attached spans span is = rw is refl

  -- newcomers of a list are those of its first span, and those that come behind them
  pub newcomers-cons : (attached : List Span) (span : Span) (spans : List Span)
      → newcomers units attached (span ∷ spans) ≡ newcomers units attached (span ∷ [])
      ++ newcomers units (attached ++ newcomers units attached (span ∷ [])) spans
  newcomers-cons attached span spans = first_newcomers (is_skipped units attached span) attached spans span refl

  pub newcomers-append : (attached spans others : List Span)
      → newcomers units attached (spans ++ others) ≡ newcomers units attached spans ++ newcomers units (attached ++ newcomers units attached spans) others
  newcomers-append attached [] others = rw (append-nil attached) refl
  newcomers-append attached (span ∷ spans) others =
      let one : List Span = newcomers units attached (span ∷ []) in
      let rest : List Span = newcomers units (attached ++ one) spans in
      newcomers-cons attached span (spans ++ others)
      ∙ ap (λ list. one ++ list) (newcomers-append (attached ++ one) spans others)
      ∙ sym (append_assoc one rest (newcomers units ((attached ++ one) ++ rest) others))
      ∙ ap (λ list. list ++ newcomers units ((attached ++ one) ++ rest) others) (sym (newcomers-cons attached span spans))
      ∙ ap (λ list. newcomers units attached (span ∷ spans) ++ newcomers units list others)
      (append_assoc attached one rest ∙ ap (λ list. attached ++ list) (sym (newcomers-cons attached span spans)))

  pub length-newcomers : (attached spans : List Span) → length (newcomers units attached spans) ≤ length spans
  length-newcomers attached [] = omega arith
  length-newcomers attached (span ∷ spans) =
      cond_both (is_skipped units attached span) (newcomers units attached spans) (span ∷ newcomers units (attached ++ span ∷ []) spans)
      (λ list. length list ≤ length (span ∷ spans)) (λ skipped. omega (arith, length-newcomers attached spans))
      (λ kept. omega (arith, length-newcomers (attached ++ span ∷ []) spans))

  skipped_id : (same has here there rest : Bool) → (same ≡ true → here ≡ there) → (there || not has) ≡ true → (here || rest) ≡ (here || ((same && has) || rest))
  skipped_id false has here there rest one skipped = refl
  skipped_id true false here there rest one skipped = refl
  skipped_id true true true there rest one skipped = refl
  skipped_id true true false true rest one skipped = let h = one refl in absurd (cc)
  skipped_id true true false false rest one skipped = absurd (cc)

  kept_id : (same has here rest : Bool) → has ≡ true → ((here || (same || false)) || rest) ≡ (here || ((same && has) || rest))
  kept_id true true true rest is = refl
  kept_id true true false rest is = refl
  kept_id false true true rest is = refl
  kept_id false true false rest is = refl
  kept_id same false here rest is = absurd (cc)

  -- an id is attached behind newcomers where it was, or one of them that has a place brings it
  pub attached-newcomers : (id : ℕ) (attached spans : List Span)
      → is_attached id (attached ++ newcomers units attached spans)
      ≡ (is_attached id attached || list_any (λ span. has_id id span && has_place units span) spans)
  attached-newcomers id attached [] = ap (is_attached id) (append-nil attached) ∙ sym (or-false (is_attached id attached))
  attached-newcomers id attached (span ∷ spans) =
      let rest : Bool = list_any (λ other. has_id id other && has_place units other) spans in
      let came : List Span = newcomers units (attached ++ span ∷ []) spans in
      cond_both (is_skipped units attached span) (newcomers units attached spans) (span ∷ came)
      (λ list. is_attached id (attached ++ list) ≡ (is_attached id attached || ((has_id id span && has_place units span) || rest)))
      (λ skipped. attached-newcomers id attached spans
      ∙ skipped_id (has_id id span) (has_place units span) (is_attached id attached) (is_attached span.id attached) rest
      (λ same. ap (λ one. is_attached one attached) (sym (eqb-true span.id id same))) skipped)
      (λ kept. ap (is_attached id) (sym (append_assoc attached (span ∷ []) came)) ∙ attached-newcomers id (attached ++ span ∷ []) spans
      ∙ ap (λ here. here || rest) (attached-append id attached (span ∷ []))
      ∙ kept_id (has_id id span) (has_place units span) (is_attached id attached) rest
      (not-false _ (or_parts (is_attached span.id attached) (not (has_place units span)) kept).1))

-- ---- the first of an id

abbrev first_one : Bool → List Span → List Span
first_one attached found = cond attached [] (take 1 found)

module _ (units : List ℕ) (id : ℕ) where
  abbrev brings : Span → Bool
  brings span = has_id id span && has_place units span

  -- a span that is skipped isn't the first of its id, or its id is attached
  past_skipped : (same has here there : Bool) (span : Span) (found : List Span) → (same ≡ true → here ≡ there) → (there || not has) ≡ true
      → first_one here found ≡ first_one here (cond (same && has) (span ∷ found) found)
  past_skipped false has here there span found one skipped = refl
  past_skipped true false here there span found one skipped = refl
  past_skipped true true true there span found one skipped = refl
  past_skipped true true false true span found one skipped = let h = one refl in absurd (cc)
  past_skipped true true false false span found one skipped = absurd (cc)

  -- one that isn't is the first of its id
  first_kept_span : (same has here : Bool) (span : Span) (rest found : List Span)
      → (same ≡ true → here ≡ false) → has ≡ true → rest ≡ first_one (here || (same || false)) found
      → cond same (span ∷ rest) rest ≡ first_one here (cond (same && has) (span ∷ found) found)
  first_kept_span true true true span rest found one is rest_is = let h = one refl in absurd (cc)
  first_kept_span true true false span rest found one is rest_is = ap (λ others. span ∷ others) rest_is
  first_kept_span false true true span rest found one is rest_is = rest_is
  first_kept_span false true false span rest found one is rest_is = rest_is
  first_kept_span same false here span rest found one is rest_is = absurd (cc)

  same_attached : (attached : List Span) (span : Span) → has_id id span ≡ true → is_attached id attached ≡ is_attached span.id attached
  same_attached attached span same = ap (λ one. is_attached one attached) (sym (eqb-true span.id id same))

  -- of the spans of an id the first that has a place is attached, where the id isn't
  pub first-newcomers : (attached spans : List Span) → spans_of id (newcomers units attached spans) ≡ first_one (is_attached id attached) (filter brings spans)
  first-newcomers attached [] = none (is_attached id attached)
    where
      none : (test : Bool) → [] ≡ first_one test []
      none true = refl
      none false = refl
  first-newcomers attached (span ∷ spans) =
      cond_both (is_skipped units attached span) (newcomers units attached spans) (span ∷ newcomers units (attached ++ span ∷ []) spans)
      (λ list. spans_of id list ≡ first_one (is_attached id attached) (filter brings (span ∷ spans)))
      (λ skipped. first-newcomers attached spans
      ∙ past_skipped (has_id id span) (has_place units span) (is_attached id attached) (is_attached span.id attached) span (filter brings spans)
      (same_attached attached span) skipped)
      (λ kept. let parts = or_parts (is_attached span.id attached) (not (has_place units span)) kept in
      first_kept_span (has_id id span) (has_place units span) (is_attached id attached) span
      (spans_of id (newcomers units (attached ++ span ∷ []) spans)) (filter brings spans)
      (λ same. same_attached attached span same ∙ parts.0) (not-false _ parts.1)
      (first-newcomers (attached ++ span ∷ []) spans ∙ ap (λ here. first_one here (filter brings spans)) (attached-append id attached (span ∷ []))))

-- attached spans and newcomers have distinct ids
pub distinct-newcomers : (units : List ℕ) (attached spans : List Span) → HasDistinctIds attached → HasDistinctIds (attached ++ newcomers units attached spans)
distinct-newcomers units attached [] distinct = subst HasDistinctIds (sym (append-nil attached)) distinct
distinct-newcomers units attached (span ∷ spans) distinct =
    let came : List Span = newcomers units (attached ++ span ∷ []) spans in
    cond_both (is_skipped units attached span) (newcomers units attached spans) (span ∷ came) (λ list. HasDistinctIds (attached ++ list))
    (λ skipped. distinct-newcomers units attached spans distinct)
    (λ kept. subst HasDistinctIds (append_assoc attached (span ∷ []) came) (distinct-newcomers units (attached ++ span ∷ []) spans
    (distinct-push span attached (or_parts (is_attached span.id attached) (not (has_place units span)) kept).0 distinct)))

-- ---- spans that a replacement may bring

-- what holds of every span that comes with a replacement
pub record MayCome (span : NewSpan) : Type 0 where
  pub ordered : span.start ≤ span.end
  pub free : 1 < span.id
  pub region : span.id ≡ composing_id → (span.flags ≡ composing_flags) × (span.what ≡ Composing)
  pub plain : 2 < span.id → is_kept_what span.what ≡ false
  pub silent : is_watch span.what ≡ false
  pub sound : is_bad span.flags ≡ false

may_come : (span : NewSpan) → IsOrdered span → (is_reserved span ≡ false) × (is_bad span.flags ≡ false) → MayCome span
may_come span ordered free =
    let first = or_parts (is_kept_id span.id || is_kept_what span.what) (is_watch span.what) free.0 in
    let parts = or_parts (is_kept_id span.id) (is_kept_what span.what) first.0 in
    let away : 2 < span.id = ltb-false _ _ parts.0 in
    record {
      ordered = ordered;
      free = omega arith;
      region = λ is. absurd (omega arith);
      plain = λ far. parts.1;
      silent = first.1;
      sound = free.1;
    }

-- so does the composing region, where it comes
region_comes : (composing : Bool) (n : ℕ) → AllByRecursion MayCome (region_over composing n)
region_comes false n = tt
region_comes true n = (
  record {
    ordered = omega arith;
    free = omega arith;
    region = λ is. (refl, refl);
    plain = λ far. absurd (omega arith);
    silent = refl;
    sound = refl;
  },
  tt,
)

pub all_may_come : (incoming : Incoming) → All IsOrdered incoming.spans → brings_reserved incoming ≡ false
    → brings_bad_flags incoming ≡ false → AllByRecursion MayCome (coming_spans incoming)
all_may_come incoming ordered free sound =
    let spans : List NewSpan = incoming.spans in
    all-append MayCome spans (region_over incoming.composing (length incoming.units))
    (all-weaker (λ span. IsOrdered span × ((is_reserved span ≡ false) × (is_bad span.flags ≡ false))) MayCome
    (λ span is. may_come span is.0 is.1) spans
    (all-both IsOrdered (λ span. (is_reserved span ≡ false) × (is_bad span.flags ≡ false)) spans
    (recursion_from_All IsOrdered spans ordered)
    (all-both (λ span. is_reserved span ≡ false) (λ span. is_bad span.flags ≡ false) spans
    (all_fail is_reserved spans free) (all_fail (λ span. is_bad span.flags) spans sound))))
    (region_comes incoming.composing (length incoming.units))

-- ---- as spans of the new text

module _ (point_mark paragraph same starts ends : Bool) (has : (not (point_mark && same) && not (paragraph && not (starts && ends))) ≡ true) where
  filled_if : point_mark ≡ true → same ≡ false
  filled_if is = search_filled point_mark same paragraph starts ends has is
    where
      search_filled : (a b c d e : Bool) → (not (a && b) && not (c && not (d && e))) ≡ true → a ≡ true → b ≡ false
      search_filled true true c d e h is = absurd (cc)
      search_filled true false c d e h is = refl
      search_filled false b c d e h is = absurd (cc)

  bound_if : paragraph ≡ true → (starts ≡ true) × (ends ≡ true)
  bound_if is = search_bound point_mark same paragraph starts ends has is
    where
      search_bound : (a b c d e : Bool) → (not (a && b) && not (c && not (d && e))) ≡ true → c ≡ true → (d ≡ true) × (e ≡ true)
      search_bound a b true true true h is = (refl, refl)
      search_bound true true true true false h is = absurd (cc)
      search_bound true false true true false h is = absurd (cc)
      search_bound false b true true false h is = absurd (cc)
      search_bound true true true false e h is = absurd (cc)
      search_bound true false true false e h is = absurd (cc)
      search_bound false b true false e h is = absurd (cc)
      search_bound a b false d e h is = absurd (cc)

pub kept_right-free : (span : Span) → 2 < span.id → is_kept_what span.what ≡ false → IsKeptRight span
kept_right-free span free other =
    (λ zero. absurd (omega arith), λ one. absurd (omega arith), λ two. absurd (omega arith), λ far. other)

-- a span that may come and has a place lies over the text that stands then
pub span_over-placed : (units : List ℕ) (s n : ℕ) (span : NewSpan) → s + n ≤ length units → MayCome span → has_place units (placed_span s n span) ≡ true
    → IsSpanOver units (placed_span s n span)
span_over-placed units s n span within may has =
    let placed : Span = placed_span s n span in
    let order : placed.start ≤ placed.end = omega (arith, may.ordered) in
    let filled =
    filled_if (is_point_mark (kind_of span.flags)) (is_paragraph (kind_of span.flags))
    (eqb placed.start placed.end) (is_boundary units placed.start) (is_boundary units placed.end) has in
    let bound =
    bound_if (is_point_mark (kind_of span.flags)) (is_paragraph (kind_of span.flags))
    (eqb placed.start placed.end) (is_boundary units placed.start) (is_boundary units placed.end) has in
    record {
      flags = may.sound;
      ordered = order;
      within = omega (arith, within);
      filled = λ is. let other = filled is in grind (arith, nat_tests);
      starts = λ is. (bound is).0;
      ends = λ is. (bound is).1;
      kept = (λ zero. absurd (omega (arith, may.free)), λ one. absurd (omega (arith, may.free)), may.region, may.plain);
    }

module _ (units : List ℕ) (attached : List Span) (s : ℕ) (incoming : Incoming) (may : AllByRecursion MayCome (coming_spans incoming)) where
  -- what a span that may come has, each attached one has, in its place
  pub all-brought : (P : Span → Type 0)
      → ((span : NewSpan) → MayCome span → has_place units (placed_span s (length incoming.units) span) ≡ true → P (placed_span s (length incoming.units) span))
      → AllByRecursion P (brought_spans units attached s incoming)
  all-brought P step =
      all-newcomers P units attached (map (placed_span s (length incoming.units)) (coming_spans incoming))
      (all-map MayCome (λ span. has_place units span ≡ true → P span) (placed_span s (length incoming.units)) step (coming_spans incoming) may)

none_of_id : (id : ℕ) (spans : List Span) → AllByRecursion (λ span. span.id ≢ id) spans → is_attached id spans ≡ false
none_of_id id [] each = refl
none_of_id id (span ∷ spans) each = rw (ne_eqb span.id id each.0) (none_of_id id spans each.1)

-- no newcomer has an id of the selection
pub attached-brought : (id : ℕ) (units : List ℕ) (attached : List Span) (s : ℕ) (incoming : Incoming)
    → AllByRecursion MayCome (coming_spans incoming) → id ≤ 1
    → is_attached id (attached ++ brought_spans units attached s incoming) ≡ is_attached id attached
attached-brought id units attached s incoming may kept =
    attached-append id attached (brought_spans units attached s incoming)
    ∙ ap (λ rest. is_attached id attached || rest)
    (none_of_id id _ (all-brought units attached s incoming may (λ span. span.id ≢ id) (λ span may has same. absurd (omega (arith, may.free)))))
    ∙ or-false (is_attached id attached)

-- none that comes watches, where none is reserved
pub silent-coming : (incoming : Incoming) → brings_reserved incoming ≡ false
    → AllByRecursion (λ span. is_watch span.what ≡ false) (coming_spans incoming)
silent-coming incoming free =
    all-append (λ span. is_watch span.what ≡ false) incoming.spans (region_over incoming.composing (length incoming.units))
    (all-weaker (λ span. is_reserved span ≡ false) (λ span. is_watch span.what ≡ false)
    (λ span is. (or_parts (is_kept_id span.id || is_kept_what span.what) (is_watch span.what) is).1)
    incoming.spans (all_fail is_reserved incoming.spans free))
    (all-weaker MayCome (λ span. is_watch span.what ≡ false) (λ span may. may.silent)
    (region_over incoming.composing (length incoming.units)) (region_comes incoming.composing (length incoming.units)))

-- none that is attached watches, where none that comes does
pub silent-brought : (units : List ℕ) (attached : List Span) (s : ℕ) (incoming : Incoming)
    → AllByRecursion (λ span. is_watch span.what ≡ false) (coming_spans incoming)
    → AllByRecursion (λ span. is_watch span.what ≡ false) (brought_spans units attached s incoming)
silent-brought units attached s incoming silent =
    all-newcomers (λ span. is_watch span.what ≡ false) units attached (map (placed_span s (length incoming.units)) (coming_spans incoming))
    (all-map (λ span. is_watch span.what ≡ false) (λ span. has_place units span ≡ true → is_watch span.what ≡ false)
    (placed_span s (length incoming.units)) (λ span is has. is) (coming_spans incoming) silent)

-- ---- seats

pub slot-silent : (slots : ℕ) (what : What) → is_watch what ≡ false → HasSlot slots what
slot-silent slots (Tag number) silent = tt
slot-silent slots (Face number) silent = tt
slot-silent slots (Margin first rest) silent = tt
slot-silent slots (Float margin lines) silent = tt
slot-silent slots (Watch slot) silent = absurd (cc)
slot-silent slots SelStart silent = tt
slot-silent slots SelEnd silent = tt
slot-silent slots Composing silent = tt

-- who doesn't watch sits nowhere
seat-silent : (what other : What) → is_watch other ≡ false → HasOtherSeat what other
seat-silent what (Tag number) silent = other_seat-sym (Tag number) what tt
seat-silent what (Face number) silent = other_seat-sym (Face number) what tt
seat-silent what (Margin first rest) silent = other_seat-sym (Margin first rest) what tt
seat-silent what (Float margin lines) silent = other_seat-sym (Float margin lines) what tt
seat-silent what (Watch slot) silent = absurd (cc)
seat-silent what SelStart silent = other_seat-sym SelStart what tt
seat-silent what SelEnd silent = other_seat-sym SelEnd what tt
seat-silent what Composing silent = other_seat-sym Composing what tt

seats-none : (spans : List Span) → AllByRecursion (λ span. is_watch span.what ≡ false) spans → HasDistinctSeats spans
seats-none [] silent = tt
seats-none (span ∷ spans) silent = (
  all-weaker (λ other. is_watch other.what ≡ false) (λ other. HasOtherSeat span.what other.what)
      (λ other is. seat-silent span.what other.what is) spans silent.1,
  seats-none spans silent.1,
)

-- spans that don't watch take no seat
pub seats-append : (spans others : List Span)
    → HasDistinctSeats spans → AllByRecursion (λ span. is_watch span.what ≡ false) others → HasDistinctSeats (spans ++ others)
seats-append [] others apart silent = seats-none others silent
seats-append (span ∷ spans) others apart silent = (
  all-append (λ other. HasOtherSeat span.what other.what) spans others apart.0
      (all-weaker (λ other. is_watch other.what ≡ false) (λ other. HasOtherSeat span.what other.what)
      (λ other is. seat-silent span.what other.what is) others silent),
  seats-append spans others apart.1 silent,
)
