-- Rows that are put one after another, each where a function takes the span that it was.
use Rattle.std.proofs.Common.{◌≡◌, ◌⊎◌, ℕ, ◌<◌, ◌+◌, suc, zero, Bool, true, false, cond, List, [], ◌∷◌, map, length, get_or, sym, subst, ap, ◌∙◌, arith, inl, inr}
use Rattle.std.specs.List.{All, Contains, filter, range_with_len, slice_set}
use Rattle.std.specs.List.Sorted.{IsPermutation}
use Rattle.std.proofs.lemmas.Bool.{cases_Bool, cases_eq, cases_lt, false≢true}
use Rattle.std.proofs.lemmas.List.{get_or-map, get_or-set_same, get_or-set_other, get_or_default, length-map, length-set, same_lists}
use Rattle.std.proofs.lemmas.List.Elements.{filter_passes}
use Rattle.std.proofs.lemmas.List.FromFn.{get_or-range_with_len, length-range_with_len}
use Rattle.std.proofs.lemmas.List.Sorted.{All-permutation, Contains-permutation}
use Rattle.std.proofs.lemmas.Option.{slice_get_within, get_or_from_slice_get}
use Rattle.edit_base.specs.declared.kinds.What.TheVariants.{Tag}
use Rattle.edit_base.specs.declared.rows.SpanRow.{SpanRow}
use Rattle.edit_model.specs.State.{Span}
use Rattle.edit_model.specs.Over.{touches}
use Rattle.edit_model.specs.Rows.{IsAtOrder, span_of}
use Rattle.interval_tree.specs.Answers.{IsForward, orders_of, touching}
use Rattle.span_table.specs.Table.{no_span, span_at}
use Rattle.moved_rows.specs.Moving.{AreTouched}

-- ---- the rows that touch

kept_behind : {X : Type 0} (test : Bool) (y : X) (zs : List X) (x : X) → Contains zs x → Contains (cond test (y ∷ zs) zs) x
kept_behind true y zs x has = (suc has.0, omega (arith, has.1), has.2)
kept_behind false y zs x has = has

kept_place : {X : Type 0} (p : X → Bool) (xs : List X) (x : X) (k : ℕ) → k < length xs → get_or xs k x ≡ x → p x ≡ true → Contains (filter p xs) x
kept_place p [] x k within at is = absurd (omega arith)
kept_place p (y ∷ ys) x zero within at is = subst (λ test. Contains (cond test (y ∷ filter p ys) (filter p ys)) x) (sym (ap p at ∙ is)) (0, omega arith, at)
kept_place p (y ∷ ys) x (suc k) within at is = kept_behind (p y) y (filter p ys) x (kept_place p ys x k (omega arith) at is)

-- what stands in a list and passes is kept
contains_kept : {X : Type 0} (p : X → Bool) (xs : List X) (x : X) → Contains xs x → p x ≡ true → Contains (filter p xs) x
contains_kept p xs x has is = kept_place p xs x has.0 has.1 has.2 is

in_range : (n i : ℕ) → i < n → Contains (range_with_len 0 n) i
in_range n i within = (i, rw length-range_with_len within, get_or-range_with_len 0 n i i within ∙ (let e : 0 + i ≡ i = omega arith in e))

-- every order of the rows that are given passes a test that every place does which touches
order_passes : (P : ℕ → Type 0) (rows : List SpanRow) (k : ℕ) (d : SpanRow) → All P (orders_of rows) → k < length rows → P (get_or rows k d).order
order_passes P rows k d all within =
    subst P (get_or-map (λ row. row.order) rows k d d.order within) (all k d.order (simp length-map within))

module _ (s e : ℕ) (spans : List Span) (rows : List SpanRow) where
  pub are_touched : IsPermutation (touching s e spans) (orders_of rows) → All (IsAtOrder spans) rows → AreTouched s e spans rows
  are_touched given at =
      let passes : All (λ i. touches s e (span_at spans i) ≡ true) (orders_of rows) =
      All-permutation (λ i. touches s e (span_at spans i) ≡ true) (touching s e spans) (orders_of rows) given
      (filter_passes (λ i. touches s e (span_at spans i)) (range_with_len 0 (length spans))) in
      record {
        within = λ k d h. slice_get_within spans (get_or rows k d).order (span_of (get_or rows k d)) (at k d h);
        read = λ k d h. get_or_from_slice_get spans (get_or rows k d).order (span_of (get_or rows k d)) no_span (at k d h);
        touch = λ k d h. ap (touches s e) (sym (get_or_from_slice_get spans (get_or rows k d).order (span_of (get_or rows k d)) no_span (at k d h)))
            ∙ order_passes (λ i. touches s e (span_at spans i) ≡ true) rows k d passes h;
        all = λ i h is. Contains-permutation (touching s e spans) (orders_of rows) i given
            (contains_kept (λ j. touches s e (span_at spans j)) (range_with_len 0 (length spans)) i (in_range (length spans) i h) is);
      }

-- ---- rows put one after another

-- what stands past the rows
abbrev pub blank : SpanRow
blank = record { id = 0; start = 0; end = 0; flags = 0; order = 0; what = Tag 0 }

-- the first j of the rows went from where g takes their spans to where f does
pub record Puts (g f : Span → Span) (s e : ℕ) (before now : List Span) (rows : List SpanRow) (j : ℕ) : Type 0 where
  pub long : length now ≡ length before
  pub each : (i : ℕ) → i < length before → (span_at now i ≡ g (span_at before i)) ⊎ (span_at now i ≡ f (span_at before i))
  pub done : (k : ℕ) (d : SpanRow) → k < j → k < length rows → span_at now (get_or rows k d).order ≡ f (span_at before (get_or rows k d).order)
  pub others : (i : ℕ) → i < length before → touches s e (span_at before i) ≡ false → span_at now i ≡ g (span_at before i)

module _ (g f : Span → Span) (s e : ℕ) (before : List Span) (rows : List SpanRow) (touched : AreTouched s e before rows) where
  pub puts_none : (now : List Span) → now ≡ map g before → Puts g f s e before now rows 0
  puts_none now is =
      let at : (i : ℕ) → i < length before → span_at now i ≡ g (span_at before i) =
      λ i h. ap (λ spans. span_at spans i) is ∙ get_or-map g before i no_span no_span h in
      record {
        long = ap length is ∙ length-map before g;
        each = λ i h. inl (at i h);
        done = λ k d low h. absurd (omega arith);
        others = λ i h apart. at i h;
      }

  pub puts_next : (now new : List Span) (j : ℕ) (row : SpanRow) → Puts g f s e before now rows j → j < length rows → ((d : SpanRow) → get_or rows j d ≡ row)
      → new ≡ slice_set now row.order (f (span_of row)) → Puts g f s e before new rows (j + 1)
  puts_next now new j row puts within is next =
      let read : span_at before row.order ≡ span_of row = subst (λ (r : SpanRow). span_at before r.order ≡ span_of r) (is row) (touched.read j row within) in
      let lies : row.order < length now = subst (λ (r : SpanRow). r.order < length now) (is row) (omega (arith, touched.within j row within, puts.long)) in
      let touch : touches s e (span_at before row.order) ≡ true =
      ap (touches s e) read ∙ subst (λ (r : SpanRow). touches s e (span_of r) ≡ true) (is row) (touched.touch j row within) in
      let here : (i : ℕ) → i ≡ row.order → span_at new i ≡ f (span_at before i) =
      λ i same. ap (λ k. span_at new k) same ∙ ap (λ spans. span_at spans row.order) next
      ∙ get_or-set_same now row.order (f (span_of row)) no_span lies ∙ ap f (sym read) ∙ ap (λ k. f (span_at before k)) (sym same) in
      let there : (i : ℕ) → (i ≡ row.order → ⊥) → span_at new i ≡ span_at now i =
      λ i other. ap (λ spans. span_at spans i) next ∙ get_or-set_other now row.order i (f (span_of row)) no_span other in
      record {
        long = ap length next ∙ length-set now row.order (f (span_of row)) ∙ puts.long;
        each = λ i h. elim (cases_eq i row.order) [
          | inl same ↦ inr (here i same)
          | inr other ↦ elim (puts.each i h) [
            | inl old ↦ inl (there i other ∙ old)
            | inr old ↦ inr (there i other ∙ old)
          ]
        ];
        done = λ k d low h. elim (cases_eq (get_or rows k d).order row.order) [
          | inl same ↦ here (get_or rows k d).order same
          | inr other ↦ elim (cases_lt k j) [
            | inl less ↦ there (get_or rows k d).order other ∙ puts.done k d less h
            | inr more ↦
                let at : k ≡ j = omega arith in
                absurd (other (ap (λ (r : SpanRow). r.order) (ap (λ i. get_or rows i d) at ∙ is d)))
          ]
        ];
        others = λ i h apart. elim (cases_eq i row.order) [
          | inl same ↦ absurd (false≢true (sym apart ∙ ap (λ k. touches s e (span_at before k)) same ∙ touch))
          | inr other ↦ there i other ∙ puts.others i h apart
        ];
      }

  pub puts_all : (now : List Span) → Puts g f s e before now rows (length rows) → All IsForward before
      → ((span : Span) → touches s e span ≡ false → IsForward span → g span ≡ f span) → now ≡ map f before
  puts_all now puts ordered agree =
      same_lists now (map f before) (puts.long ∙ sym (length-map before f)) (λ i d h.
      let lies : i < length before = omega (arith, h, puts.long) in
      let image = get_or-map f before i no_span d lies in
      let mine : get_or now i d ≡ span_at now i = get_or_default now i d no_span h in
      elim (cases_Bool (touches s e (span_at before i))) [
        | inl is ↦
            let has = touched.all i lies is in
            let within : has.0 < length rows = omega (arith, has.1, length-map rows (λ (r : SpanRow). r.order)) in
            let at : (get_or rows has.0 blank).order ≡ i = sym (get_or-map (λ (r : SpanRow). r.order) rows has.0 blank i within) ∙ has.2 in
            mine ∙ subst (λ m. span_at now m ≡ f (span_at before m)) at (puts.done has.0 blank within within) ∙ sym image
        | inr apart ↦ mine ∙ puts.others i lies apart ∙ agree (span_at before i) apart (ordered i no_span lies) ∙ sym image
      ])
