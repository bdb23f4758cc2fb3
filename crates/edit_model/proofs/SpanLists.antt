-- Lists of spans that are filtered and changed one by one.
use Rattle.std.proofs.Common.{◌≡◌, ℕ, ◌||◌, Bool, true, false, cond, eqb, List, [], ◌∷◌, ◌++◌, map, refl, sym, ap, ◌∙◌, inl, inr, arith}
use Rattle.std.specs.List.{AllByRecursion, filter, list_any}
use Rattle.std.proofs.lemmas.Bool.{cond_both, or_parts, or_from, cases_Bool}
use Rattle.std.proofs.lemmas.Bool.Decides.{nat_tests}
use Rattle.edit_base.specs.declared.kinds.What.{What}
use Rattle.edit_base.specs.declared.kinds.What.TheVariants.{Tag, Face, Margin, Float, Watch, SelStart, SelEnd, Composing}
use Rattle.edit_model.specs.State.{Span}
use Rattle.edit_model.specs.Attached.{has_id, is_attached}
use Rattle.edit_model.specs.WellFormed.{HasDistinctIds, HasOtherSeat, HasDistinctSeats}

-- ---- what holds of each

module _ {X : Type 0} (P : X → Type 0) where
  pub all-filter : (keep : X → Bool) (xs : List X) → AllByRecursion P xs → AllByRecursion P (filter keep xs)
  all-filter keep [] each = tt
  all-filter keep (x ∷ xs) each =
      let rest = all-filter keep xs each.1 in
      cond_both (keep x) (x ∷ filter keep xs) (filter keep xs) (AllByRecursion P) (λ is. (each.0, rest)) (λ is. rest)

  -- each that a filter keeps passes it
  pub all-filter_passes : (keep : X → Bool) (xs : List X) → AllByRecursion P xs → AllByRecursion (λ y. P y × (keep y ≡ true)) (filter keep xs)
  all-filter_passes keep [] each = tt
  all-filter_passes keep (x ∷ xs) each =
      let rest = all-filter_passes keep xs each.1 in
      cond_both (keep x) (x ∷ filter keep xs) (filter keep xs) (AllByRecursion (λ y. P y × (keep y ≡ true)))
      (λ is. ((each.0, is), rest)) (λ is. rest)

  pub all_each : ((x : X) → P x) → (xs : List X) → AllByRecursion P xs
  all_each every [] = tt
  all_each every (x ∷ xs) = (every x, all_each every xs)

  pub all-push : (x : X) (xs : List X) → P x → AllByRecursion P xs → AllByRecursion P (xs ++ x ∷ [])
  all-push x [] last each = (last, tt)
  all-push x (y ∷ ys) last each = (each.0, all-push x ys last each.1)

module _ {X : Type 0} (P Q : X → Type 0) where
  pub all-both : (xs : List X) → AllByRecursion P xs → AllByRecursion Q xs → AllByRecursion (λ x. P x × Q x) xs
  all-both [] each other = tt
  all-both (x ∷ xs) each other = ((each.0, other.0), all-both xs each.1 other.1)

  pub all-weaker : ((x : X) → P x → Q x) → (xs : List X) → AllByRecursion P xs → AllByRecursion Q xs
  all-weaker step [] each = tt
  all-weaker step (x ∷ xs) each = (step x each.0, all-weaker step xs each.1)

pub all-map : {X Y : Type 0} (P : X → Type 0) (Q : Y → Type 0) (f : X → Y)
    → ((x : X) → P x → Q (f x)) → (xs : List X) → AllByRecursion P xs → AllByRecursion Q (map f xs)
all-map P Q f step [] each = tt
all-map P Q f step (x ∷ xs) each = (step x each.0, all-map P Q f step xs each.1)

pub all-append : {X : Type 0} (P : X → Type 0) (xs ys : List X) → AllByRecursion P xs → AllByRecursion P ys → AllByRecursion P (xs ++ ys)
all-append P [] ys each others = others
all-append P (x ∷ xs) ys each others = (each.0, all-append P xs ys each.1 others)

-- no element passes
pub all_fail : {X : Type 0} (test : X → Bool) (xs : List X) → list_any test xs ≡ false → AllByRecursion (λ x. test x ≡ false) xs
all_fail test [] none = tt
all_fail test (x ∷ xs) none = let parts = or_parts (test x) (list_any test xs) none in (parts.0, all_fail test xs parts.1)

-- ---- ids

-- a filter attaches nothing
pub absent-filter : (id : ℕ) (keep : Span → Bool) (spans : List Span) → is_attached id spans ≡ false → is_attached id (filter keep spans) ≡ false
absent-filter id keep [] none = refl
absent-filter id keep (span ∷ spans) none =
    let parts = or_parts (has_id id span) (is_attached id spans) none in
    let rest = absent-filter id keep spans parts.1 in
    cond_both (keep span) (span ∷ filter keep spans) (filter keep spans) (λ list. is_attached id list ≡ false)
    (λ is. or_from _ _ parts.0 rest) (λ is. rest)

pub distinct-filter : (keep : Span → Bool) (spans : List Span) → HasDistinctIds spans → HasDistinctIds (filter keep spans)
distinct-filter keep [] distinct = tt
distinct-filter keep (span ∷ spans) distinct =
    let rest = distinct-filter keep spans distinct.1 in
    cond_both (keep span) (span ∷ filter keep spans) (filter keep spans) HasDistinctIds
    (λ is. (absent-filter span.id keep spans distinct.0, rest)) (λ is. rest)

kept_step : (id : ℕ) (test : Bool) (span : Span) (spans : List Span)
    → (has_id id span ≡ true → test ≡ true) → is_attached id (cond test (span ∷ spans) spans) ≡ (has_id id span || is_attached id spans)
kept_step id true span spans kept = refl
kept_step id false span spans kept = elim (cases_Bool (has_id id span)) [ inl is ↦ absurd (cc (kept is)) | inr other ↦ rw other ]

-- a filter that keeps each span of an id keeps the id
pub attached-filter : (id : ℕ) (keep : Span → Bool) (spans : List Span) → AllByRecursion (λ span. has_id id span ≡ true → keep span ≡ true) spans
    → is_attached id (filter keep spans) ≡ is_attached id spans
attached-filter id keep [] each = refl
attached-filter id keep (span ∷ spans) each =
    kept_step id (keep span) span (filter keep spans) each.0 ∙ ap (λ rest. has_id id span || rest) (attached-filter id keep spans each.1)

module _ (f : Span → Span) (same : (span : Span) → (f span).id ≡ span.id) where
  pub attached-map : (id : ℕ) (spans : List Span) → is_attached id (map f spans) ≡ is_attached id spans
  attached-map id [] = refl
  attached-map id (span ∷ spans) = rw (same span, attached-map id spans)

  pub distinct-map : (spans : List Span) → HasDistinctIds spans → HasDistinctIds (map f spans)
  distinct-map [] distinct = tt
  distinct-map (span ∷ spans) distinct =
      (ap (λ id. is_attached id (map f spans)) (same span) ∙ attached-map span.id spans ∙ distinct.0, distinct-map spans distinct.1)

pub attached-push : (id : ℕ) (span : Span) (spans : List Span) → has_id id span ≡ false → is_attached id (spans ++ span ∷ []) ≡ is_attached id spans
attached-push id span [] other = rw other
attached-push id span (first ∷ spans) other = ap (λ rest. has_id id first || rest) (attached-push id span spans other)

other_id : (a b : ℕ) → eqb a b ≡ false → eqb b a ≡ false
other_id a b h = grind (arith, nat_tests)

pub distinct-push : (span : Span) (spans : List Span) → is_attached span.id spans ≡ false → HasDistinctIds spans → HasDistinctIds (spans ++ span ∷ [])
distinct-push span [] none distinct = (refl, tt)
distinct-push span (first ∷ spans) none distinct =
    let parts = or_parts (has_id span.id first) (is_attached span.id spans) none in (
      attached-push first.id span spans (other_id first.id span.id parts.0) ∙ distinct.0,
      distinct-push span spans parts.1 distinct.1,
    )

-- ---- seats

pub seats-filter : (keep : Span → Bool) (spans : List Span) → HasDistinctSeats spans → HasDistinctSeats (filter keep spans)
seats-filter keep [] apart = tt
seats-filter keep (span ∷ spans) apart =
    let rest = seats-filter keep spans apart.1 in
    cond_both (keep span) (span ∷ filter keep spans) (filter keep spans) HasDistinctSeats
    (λ is. (all-filter (λ other. HasOtherSeat span.what other.what) keep spans apart.0, rest)) (λ is. rest)

pub seats-map : (f : Span → Span) → ((span : Span) → (f span).what ≡ span.what) → (spans : List Span) → HasDistinctSeats spans → HasDistinctSeats (map f spans)
seats-map f same [] apart = tt
seats-map f same (span ∷ spans) apart = (
  all-map (λ other. HasOtherSeat span.what other.what) (λ other. HasOtherSeat (f span).what other.what) f
      (λ other is. rw (same span, same other) is) spans apart.0,
  seats-map f same spans apart.1,
)

-- two that don't watch for one slot, the other way round
pub other_seat-sym : (what other : What) → HasOtherSeat what other → HasOtherSeat other what
other_seat-sym (Watch slot) (Watch other) apart = λ same. apart (sym same)
other_seat-sym what (Tag number) apart = tt
other_seat-sym what (Face number) apart = tt
other_seat-sym what (Margin first rest) apart = tt
other_seat-sym what (Float margin lines) apart = tt
other_seat-sym what SelStart apart = tt
other_seat-sym what SelEnd apart = tt
other_seat-sym what Composing apart = tt
other_seat-sym what (Watch slot) apart = tt

pub seats-push : (span : Span) (spans : List Span)
    → AllByRecursion (λ other. HasOtherSeat other.what span.what) spans → HasDistinctSeats spans → HasDistinctSeats (spans ++ span ∷ [])
seats-push span [] each apart = (tt, tt)
seats-push span (first ∷ spans) each apart =
    (all-push (λ other. HasOtherSeat first.what other.what) span spans each.0 apart.0, seats-push span spans each.1 apart.1)
