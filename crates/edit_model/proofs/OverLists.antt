-- What a query finds: how much, in which order, and how one query answers others.
use Rattle.std.proofs.Common.{◌≡◌, ◌∙◌, ◌≤◌, ◌+◌, ◌&&◌, ℕ, Bool, true, false, not, cond, leb, List, [], ◌∷◌, length, refl, sym, ap, ⊎_elim, arith}
use Rattle.std.specs.Prelude.{filter}
use Rattle.std.specs.List.{AllByRecursion}
use Rattle.std.proofs.lemmas.Bool.{cond_both, cases_Bool}
use Rattle.std.proofs.lemmas.Bool.Decides.{nat_tests}
use Rattle.std.proofs.lemmas.List.Filters.{length-filter_both}
use Rattle.edit_base.specs.declared.rows.Pick.{Pick}
use Rattle.edit_model.specs.State.{Span}
use Rattle.edit_model.specs.Flags.{priority_of}
use Rattle.edit_model.specs.Over.{lies_over, is_picked, into, by_priority, over}
use Rattle.edit_model.specs.WellFormed.{IsSpanOver}
use Rattle.edit_model.proofs.SpanLists.{all-filter, all-weaker}

length-into : (span : Span) (spans : List Span) → length (into span spans) ≡ length spans + 1
length-into span [] = refl
length-into span (other ∷ others) =
    cond_both (leb (priority_of other.flags) (priority_of span.flags)) (span ∷ other ∷ others) (other ∷ into span others)
    (λ spans. length spans ≡ length (other ∷ others) + 1) (λ is. omega arith) (λ is. omega (arith, length-into span others))

length-by_priority : (spans : List Span) → length (by_priority spans) ≡ length spans
length-by_priority [] = refl
length-by_priority (span ∷ spans) = omega (arith, length-into span (by_priority spans), length-by_priority spans)

pub length-over-le : (start end : ℕ) (pick : Pick) (spans : List Span) → length (over start end pick spans) ≤ length spans
unfolding over
length-over-le start end pick spans =
    let test = λ (span : Span). lies_over start end span && is_picked pick span.what in
    omega (arith, length-by_priority (filter test spans), length-filter_both test (λ span. not (test span)) (λ span. refl) spans)

-- ---- in order

pub all-into : (P : Span → Type 0) (span : Span) (spans : List Span) → P span → AllByRecursion P spans → AllByRecursion P (into span spans)
all-into P span [] first each = (first, tt)
all-into P span (other ∷ others) first each =
    cond_both (leb (priority_of other.flags) (priority_of span.flags)) (span ∷ other ∷ others) (other ∷ into span others) (λ spans. AllByRecursion P spans)
    (λ is. (first, each)) (λ is. (each.0, all-into P span others first each.1))

pub all-by_priority : (P : Span → Type 0) (spans : List Span) → AllByRecursion P spans → AllByRecursion P (by_priority spans)
all-by_priority P [] each = tt
all-by_priority P (span ∷ spans) each = all-into P span (by_priority spans) each.0 (all-by_priority P spans each.1)

-- none has a higher priority than this one
abbrev AreUnder : Span → List Span → Type 0
AreUnder span spans = AllByRecursion (λ (other : Span). leb (priority_of other.flags) (priority_of span.flags) ≡ true) spans

abbrev AreInOrder : List Span → Type 0
AreInOrder [] = Unit {0}
AreInOrder (span ∷ spans) = AreUnder span spans × AreInOrder spans

under_on : (a b c : ℕ) → leb a b ≡ true → leb b c ≡ true → leb a c ≡ true
under_on a b c one other = grind (arith, nat_tests)

other_way : (a b : ℕ) → leb a b ≡ false → leb b a ≡ true
other_way a b not = grind (arith, nat_tests)

-- all under one that is under this one
under_first : (span other : Span) (others : List Span) → leb (priority_of other.flags) (priority_of span.flags) ≡ true → AreInOrder (other ∷ others)
    → AreUnder span (other ∷ others)
under_first span other others is ordered =
    let P = λ (lower upper : Span). leb (priority_of lower.flags) (priority_of upper.flags) ≡ true in (
      is,
      all-weaker (λ lower. P lower other) (λ lower. P lower span)
          (λ lower under. under_on (priority_of lower.flags) (priority_of other.flags) (priority_of span.flags) under is) others ordered.0,
    )

in_order-into : (span : Span) (spans : List Span) → AreInOrder spans → AreInOrder (into span spans)
in_order-into span [] ordered = (tt, tt)
in_order-into span (other ∷ others) ordered =
    cond_both (leb (priority_of other.flags) (priority_of span.flags)) (span ∷ other ∷ others) (other ∷ into span others) AreInOrder
    (λ is. (under_first span other others is ordered, ordered))
    (λ is. (
      all-into (λ (lower : Span). leb (priority_of lower.flags) (priority_of other.flags) ≡ true) span others
          (other_way (priority_of other.flags) (priority_of span.flags) is) ordered.0,
      in_order-into span others ordered.1,
    ))

in_order-by_priority : (spans : List Span) → AreInOrder (by_priority spans)
in_order-by_priority [] = tt
in_order-by_priority (span ∷ spans) = in_order-into span (by_priority spans) (in_order-by_priority spans)

kept-by_priority : (span : Span) (spans : List Span) (keeps : Bool)
    → cond keeps (into span (by_priority spans)) (by_priority spans) ≡ by_priority (cond keeps (span ∷ spans) spans)
kept-by_priority span spans true = refl
kept-by_priority span spans false = refl

into-first : (span : Span) (spans : List Span) → AreUnder span spans → into span spans ≡ span ∷ spans
into-first span [] under = refl
into-first span (other ∷ others) under = rw under.0 refl

-- ---- filtered

module _ (keep : Span → Bool) where
  under-filter : (span : Span) (spans : List Span) → AreUnder span spans → AreUnder span (filter keep spans)
  under-filter span spans under = all-filter (λ (other : Span). leb (priority_of other.flags) (priority_of span.flags) ≡ true) keep spans under

  -- behind one of a higher priority
  filter-behind : (span other : Span) (others : List Span) (keeps keeps_other : Bool) → leb (priority_of other.flags) (priority_of span.flags) ≡ false
      → cond keeps_other (other ∷ cond keeps (into span others) others) (cond keeps (into span others) others)
      ≡ cond keeps (into span (cond keeps_other (other ∷ others) others)) (cond keeps_other (other ∷ others) others)
  filter-behind span other others true true is = rw is refl
  filter-behind span other others false true is = refl
  filter-behind span other others true false is = refl
  filter-behind span other others false false is = refl

  filter-into : (span : Span) (spans : List Span) → AreInOrder spans
      → filter keep (into span spans) ≡ cond (keep span) (into span (filter keep spans)) (filter keep spans)
  filter-into span [] ordered = refl
  filter-into span (other ∷ others) ordered =
      ⊎_elim (λ is. ap (λ b. filter keep (cond b (span ∷ other ∷ others) (other ∷ into span others))) is
      ∙ ap (λ list. cond (keep span) list (filter keep (other ∷ others)))
      (sym (into-first span (filter keep (other ∷ others)) (under-filter span (other ∷ others) (under_first span other others is ordered)))))
      (λ is. ap (λ b. filter keep (cond b (span ∷ other ∷ others) (other ∷ into span others))) is
      ∙ (ap (λ list. cond (keep other) (other ∷ list) list) (filter-into span others ordered.1)
      ∙ filter-behind span other (filter keep others) (keep span) (keep other) is))
      (cases_Bool (leb (priority_of other.flags) (priority_of span.flags)))

  -- what a filter keeps of spans in order is in order
  pub filter-by_priority : (spans : List Span) → filter keep (by_priority spans) ≡ by_priority (filter keep spans)
  filter-by_priority [] = refl
  filter-by_priority (span ∷ spans) =
      filter-into span (by_priority spans) (in_order-by_priority spans)
      ∙ (ap (λ list. cond (keep span) (into span list) list) (filter-by_priority spans)
      ∙ kept-by_priority span (filter keep spans) (keep span))

kept_both : {X : Type 0} (x : X) (ys : List X) (one other first : Bool) → (one && other) ≡ first
    → cond one (cond other (x ∷ ys) ys) ys ≡ cond first (x ∷ ys) ys
kept_both x ys true other first is = ap (λ b. cond b (x ∷ ys) ys) is
kept_both x ys false other first is = ap (λ b. cond b (x ∷ ys) ys) is

filter-cond : {X : Type 0} (keep : X → Bool) (x : X) (xs : List X) (one : Bool)
    → filter keep (cond one (x ∷ xs) xs) ≡ cond one (cond (keep x) (x ∷ filter keep xs) (filter keep xs)) (filter keep xs)
filter-cond keep x xs true = refl
filter-cond keep x xs false = refl

-- one filter behind another
pub filter-both : {X : Type 0} (one other both : X → Bool) (xs : List X) → AllByRecursion (λ x. (one x && other x) ≡ both x) xs
    → filter other (filter one xs) ≡ filter both xs
filter-both one other both [] each = refl
filter-both one other both (x ∷ xs) each =
    filter-cond other x (filter one xs) (one x)
    ∙ (ap (λ ys. cond (one x) (cond (other x) (x ∷ ys) ys) ys) (filter-both one other both xs each.1)
    ∙ kept_both x (filter both xs) (one x) (other x) (both x) each.0)

-- ---- one query for all

-- every span of a text lies over the whole of it
pub over_whole : (units : List ℕ) (span : Span) → IsSpanOver units span → lies_over 0 (length units) span ≡ true
over_whole units span formed =
    let ordered = formed.ordered in
    let within = formed.within in
    grind (arith, nat_tests)

first_dropped : (whole picked here : Bool) → whole ≡ true → ((whole && picked) && here) ≡ (here && picked)
first_dropped true true true is = refl
first_dropped true true false is = refl
first_dropped true false true is = refl
first_dropped true false false is = refl
first_dropped false picked here is = absurd (cc)

-- what lies over a range is what lies over it of all
pub over-among : (units : List ℕ) (spans : List Span) (start end : ℕ) (pick : Pick) → AllByRecursion (IsSpanOver units) spans
    → filter (lies_over start end) (over 0 (length units) pick spans) ≡ over start end pick spans
unfolding over
over-among units spans start end pick formed =
    let all = λ (span : Span). lies_over 0 (length units) span && is_picked pick span.what in
    let some = λ (span : Span). lies_over start end span && is_picked pick span.what in
    filter-by_priority (lies_over start end) (filter all spans)
    ∙ ap by_priority (filter-both all (lies_over start end) some spans
    (all-weaker (IsSpanOver units) (λ span. (all span && lies_over start end span) ≡ some span)
    (λ span is. first_dropped (lies_over 0 (length units) span) (is_picked pick span.what) (lies_over start end span) (over_whole units span is)) spans formed))
