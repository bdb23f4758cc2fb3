-- The slots that a test keeps of a rising list: what they become where a slot comes or goes, where the test turns at one
-- slot, and where all slots get other numbers.
use Rattle.std.proofs.Common.{◌||◌, ◌≡◌, ◌≢◌, ℕ, ◌<◌, ◌+◌, suc, zero, inl, inr, eqb, Bool, true, false, not, cond, ◌&&◌, List, [], ◌∷◌, ◌++◌, length, map, take, drop, get_or, refl, sym, ap, ◌∙◌, arith}
use Rattle.std.specs.Prelude.{slice_index}
use Rattle.std.specs.List.{All, Contains, filter, range_with_len}
use Rattle.std.specs.List.Sorted.{IsStrictlyIncreasing}
use Rattle.std.proofs.lemmas.Bool.{ne_eqb, eq-eqb, cases_Bool, cases_eq, cases_lt, eqb-true, eqb-false}
use Rattle.std.proofs.lemmas.List.{append-nil, get_or_default, get_or-map, length-map, same_lists}
use Rattle.std.proofs.lemmas.List.Elements.{All-contains_itself, All-drop, All-filter, All-head, All-tail, All-take, All-weaker, filter_agree, filter-append}
use Rattle.std.proofs.lemmas.List.Folds.{list_any-append}
use Rattle.std.proofs.lemmas.List.Kept.{IsStrictlyIncreasing-filter}
use Rattle.std.proofs.lemmas.List.FromFn.{get_or-range_with_len, length-range_with_len}
use Rattle.slot_ranks.specs.Slots.{is_among, without}
use Rattle.slot_lists.specs.Rising.{with_slot, without_slot}
use Rattle.slot_lists.proofs.Parts.{filter_all, filter_same, never_falls, stands, with_apart, with_there, without_at}

-- ---- filters

either_way : (a b : ℕ) → eqb a b ≡ eqb b a
either_way a b = elim (cases_eq a b) [
  | inl same ↦ eq-eqb a b same ∙ sym (eq-eqb b a (sym same))
  | inr other ↦ ne_eqb a b other ∙ sym (ne_eqb b a (λ e. other (sym e)))
]

-- two tests at once
pub filter_twice : (p q : ℕ → Bool) (xs : List ℕ) → filter (λ x. p x && q x) xs ≡ filter q (filter p xs)
filter_twice p q [] = refl
filter_twice p q (x ∷ xs) = elim (cases_Bool (p x)) [
  | inl passes ↦ rw (passes, filter_twice p q xs) refl
  | inr fails ↦ rw (fails, filter_twice p q xs) refl
]

-- two tests, in either order
pub filter_swap : (p q : ℕ → Bool) (xs : List ℕ) → filter p (filter q xs) ≡ filter q (filter p xs)
filter_swap p q [] = refl
filter_swap p q (x ∷ xs) = elim (cases_Bool (p x)) [
  | inl p_is ↦ elim (cases_Bool (q x)) [
    | inl q_is ↦ rw (p_is, q_is) (rw p_is (ap (λ ys. x ∷ ys) (filter_swap p q xs)))
    | inr q_no ↦ rw (p_is, q_no) (filter_swap p q xs)
  ]
  | inr p_no ↦ elim (cases_Bool (q x)) [
    | inl q_is ↦ rw (p_no, q_is) (rw p_no (filter_swap p q xs))
    | inr q_no ↦ rw (p_no, q_no) (filter_swap p q xs)
  ]
]

-- two tests that agree on a list
pub kept_same : (p q : ℕ → Bool) (slots : List ℕ) → ((slot : ℕ) → Contains slots slot → p slot ≡ q slot)
    → filter p slots ≡ filter q slots
kept_same p q slots same =
    filter_same p q slots (All-weaker (Contains slots) (λ slot. p slot ≡ q slot) same slots (All-contains_itself slots))

-- whether a slot is kept
pub kept_among : (p : ℕ → Bool) (slots : List ℕ) (slot : ℕ) → is_among (filter p slots) slot ≡ (is_among slots slot && p slot)
kept_among p [] slot = refl
kept_among p (x ∷ slots) slot = elim (cases_Bool (eqb x slot)) [
  | inl is ↦ (let e = eqb-true x slot is in elim (cases_Bool (p x)) [
    | inl passes ↦ (let there : p slot ≡ true = ap p (sym e) ∙ passes in rw (passes, is, there) refl)
    | inr fails ↦ (let there : p slot ≡ false = ap p (sym e) ∙ fails in rw (fails, is, there) (kept_among p slots slot ∙ none (is_among slots slot) (p slot) there))
  ])
  | inr other ↦ elim (cases_Bool (p x)) [
    | inl passes ↦ rw (passes, other) (kept_among p slots slot)
    | inr fails ↦ rw (fails, other) (kept_among p slots slot)
  ]
]
  where
    none : (b d : Bool) → d ≡ false → (b && d) ≡ false
    none true d e = e
    none false d e = refl

-- ---- a slot comes

-- behind all others
pub kept_push : (p : ℕ → Bool) (slots : List ℕ) (slot : ℕ)
    → filter p (slots ++ slot ∷ []) ≡ cond (p slot) (filter p slots ++ slot ∷ []) (filter p slots)
kept_push p slots slot = elim (cases_Bool (p slot)) [
  | inl passes ↦ filter-append p slots (slot ∷ []) ∙ rw passes refl
  | inr fails ↦ filter-append p slots (slot ∷ []) ∙ rw (fails, append-nil (filter p slots)) refl
]

-- what is greater than all is greater than those that are kept
pub kept_below : (p : ℕ → Bool) (slots : List ℕ) (slot : ℕ) → All (λ other. other < slot) slots → All (λ other. other < slot) (filter p slots)
kept_below p slots slot below = All-filter p (λ other. other < slot) slots below

-- ---- a slot goes

-- by its place or by its number
pub without_is : (slots : List ℕ) (place : ℕ) → IsStrictlyIncreasing slots → place < length slots
    → without place slots ≡ without_slot (slice_index slots place) slots
without_is slots place rises within = without_at slots (slice_index slots place) place (stands slots (slice_index slots place) place rises within refl)

-- none goes
pub without_first : (slots : List ℕ) → slots ≡ filter (λ x. not (is_among [] x)) slots
without_first slots = sym (filter_all (λ x. not (is_among [] x)) slots (λ k d h. refl))

-- one slot more goes of those that go
pub without_more : (gone slots : List ℕ) (slot : ℕ)
    → filter (λ x. not (is_among (gone ++ slot ∷ []) x)) slots ≡ without_slot slot (filter (λ x. not (is_among gone x)) slots)
without_more gone slots slot =
    filter_agree (λ x. not (is_among (gone ++ slot ∷ []) x)) (λ x. not (is_among gone x) && not (eqb x slot)) told slots
    ∙ filter_twice (λ x. not (is_among gone x)) (λ x. not (eqb x slot)) slots
  where
    either : (b d : Bool) → not (b || (d || false)) ≡ (not b && not d)
    either true d = refl
    either false true = refl
    either false false = refl

    told : (x : ℕ) → not (is_among (gone ++ slot ∷ []) x) ≡ (not (is_among gone x) && not (eqb x slot))
    told x = ap not (list_any-append (λ other. eqb other x) gone (slot ∷ [])) ∙ either (is_among gone x) (eqb slot x)
        ∙ ap (λ b. not (is_among gone x) && not b) (either_way slot x)

pub kept_without : (p : ℕ → Bool) (slots : List ℕ) (place : ℕ) → IsStrictlyIncreasing slots → place < length slots
    → filter p (without place slots) ≡ without_slot (slice_index slots place) (filter p slots)
kept_without p slots place rises within =
    let slot = slice_index slots place in
    ap (filter p) (without_at slots slot place (stands slots slot place rises within refl))
    ∙ filter_swap p (λ x. not (eqb x slot)) slots

-- one that wasn't kept
pub kept_without_none : (p : ℕ → Bool) (slots : List ℕ) (place : ℕ) → place < length slots
    → p (slice_index slots place) ≡ false → filter p (without place slots) ≡ filter p slots
kept_without_none p [] place within fails = absurd (omega arith)
kept_without_none p (x ∷ slots) zero within fails = rw fails refl
kept_without_none p (x ∷ slots) (suc place) within fails =
    let e : suc place + 1 ≡ suc (place + 1) = omega arith in
    let rest = kept_without_none p slots place (omega arith) fails in
    rw e (elim (cases_Bool (p x)) [
      | inl passes ↦ rw passes (ap (λ xs. x ∷ xs) rest)
      | inr stops ↦ rw stops rest
    ])

-- ---- the test turns at one slot

-- it lets the slot through now
pub kept_on : (p q : ℕ → Bool) (slots : List ℕ) (slot : ℕ) → IsStrictlyIncreasing slots → Contains slots slot → q slot ≡ true
    → ((other : ℕ) → Contains slots other → other ≢ slot → q other ≡ p other) → filter q slots ≡ with_slot slot (filter p slots)
kept_on p q slots slot rises has passes same =
    let at = has.0 in
    let here = stands slots slot at rises has.1 (get_or_default slots at 0 slot has.1 ∙ has.2) in
    let front = take at slots in
    let behind = drop (at + 1) slots in
    let each = All-weaker (Contains slots) (λ other. other ≢ slot → q other ≡ p other) same slots (All-contains_itself slots) in
    let before = All-take (λ other. other ≢ slot → q other ≡ p other) at slots each in
    let after = All-drop (λ other. other ≢ slot → q other ≡ p other) (at + 1) slots each in
    let left = filter_same q p front (λ k d h. before k d h (λ e. (let less = here.below k d h in absurd (omega arith)))) in
    let right = filter_same q p behind (λ k d h. after k d h (λ e. (let more = here.above k d h in absurd (omega arith)))) in
    let below = All-filter p (λ other. other < slot) front here.below in
    let above = All-filter p (λ other. slot < other) behind here.above in
    let new : filter q slots ≡ filter p front ++ slot ∷ filter p behind =
    ap (filter q) here.whole ∙ filter-append q front (slot ∷ behind) ∙ rw (passes, left, right) refl in
    let old = ap (filter p) here.whole ∙ filter-append p front (slot ∷ behind) in
    new ∙ elim (cases_Bool (p slot)) [
      | inl there ↦ sym (with_there slot (filter p front) (filter p behind) below above)
          ∙ ap (with_slot slot) (sym (old ∙ rw there refl))
      | inr absent ↦ sym (with_apart slot (filter p front) (filter p behind) below above)
          ∙ ap (with_slot slot) (sym (old ∙ rw absent refl))
    ]

turned_off : (p q : ℕ → Bool) (slot other : ℕ) → q slot ≡ false → (other ≢ slot → q other ≡ p other)
    → q other ≡ (p other && not (eqb other slot))
turned_off p q slot other fails same = elim (cases_Bool (eqb other slot)) [
  | inl is ↦ (let e = eqb-true other slot is in rw is (ap q e ∙ fails ∙ sym (no_more (p other))))
  | inr apart ↦ rw apart (same (eqb-false other slot apart) ∙ sym (still (p other)))
]
  where
    no_more : (b : Bool) → (b && false) ≡ false
    no_more true = refl
    no_more false = refl

    still : (b : Bool) → (b && true) ≡ b
    still true = refl
    still false = refl

-- it stops the slot now
pub kept_off : (p q : ℕ → Bool) (slots : List ℕ) (slot : ℕ) → q slot ≡ false
    → ((other : ℕ) → Contains slots other → other ≢ slot → q other ≡ p other) → filter q slots ≡ without_slot slot (filter p slots)
kept_off p q slots slot fails same =
    kept_same q (λ other. p other && not (eqb other slot)) slots (λ other has. turned_off p q slot other fails (same other has))
    ∙ filter_twice p (λ other. not (eqb other slot)) slots

-- ---- all slots get other numbers

pub kept_renumbered : (f : ℕ → ℕ) (p q : ℕ → Bool) (slots : List ℕ) → ((slot : ℕ) → Contains slots slot → q (f slot) ≡ p slot)
    → filter q (map f slots) ≡ map f (filter p slots)
kept_renumbered f p q slots same =
    mapped slots (All-weaker (Contains slots) (λ slot. q (f slot) ≡ p slot) same slots (All-contains_itself slots))
  where
    mapped : (xs : List ℕ) → All (λ slot. q (f slot) ≡ p slot) xs → filter q (map f xs) ≡ map f (filter p xs)
    mapped [] all = refl
    mapped (x ∷ xs) all =
        let e = All-head (λ slot. q (f slot) ≡ p slot) x xs all in
        let rest = mapped xs (All-tail (λ slot. q (f slot) ≡ p slot) x xs all) in
        elim (cases_Bool (p x)) [
          | inl passes ↦ rw (e, passes) (ap (λ ys. f x ∷ ys) rest)
          | inr fails ↦ rw (e, fails) rest
        ]

-- numbers that rise with the slots
pub numbers_rise : (f : ℕ → ℕ) (p : ℕ → Bool) (slots : List ℕ) → IsStrictlyIncreasing slots
    → ((low high : ℕ) → Contains slots low → Contains slots high → low < high → f low < f high)
    → IsStrictlyIncreasing (map f (filter p slots))
numbers_rise f p slots rises up k within =
    let xs = filter p slots in
    let long = length-map xs f in
    let inside : k < length xs = omega arith in
    let next : k + 1 < length xs = omega arith in
    let among = All-filter p (Contains slots) slots (All-contains_itself slots) in
    let less = up (get_or xs k 0) (get_or xs (k + 1) 0) (among k 0 inside) (among (k + 1) 0 next) (IsStrictlyIncreasing-filter p slots rises k next) in
    let low = get_or-map f xs k 0 0 inside in
    let high = get_or-map f xs (k + 1) 0 0 next in
    omega arith

-- numbers that are ranks
pub ranks_rise : (f : ℕ → ℕ) (p : ℕ → Bool) (slots : List ℕ) → IsStrictlyIncreasing slots
    → ((place : ℕ) → place < length slots → f (slice_index slots place) ≡ place) → IsStrictlyIncreasing (map f (filter p slots))
ranks_rise f p slots rises is =
    numbers_rise f p slots rises (λ low high has_low has_high less.
    let i = has_low.0 in
    let j = has_high.0 in
    let low_is = get_or_default slots i 0 low has_low.1 ∙ has_low.2 in
    let high_is = get_or_default slots j 0 high has_high.1 ∙ has_high.2 in
    let first : f low ≡ i = ap f (sym low_is) ∙ is i has_low.1 in
    let second : f high ≡ j = ap f (sym high_is) ∙ is j has_high.1 in
    elim (cases_lt i j) [
      | inl before ↦ omega arith
      | inr behind ↦ (let order = never_falls slots rises j i behind has_low.1 in absurd (omega arith))
    ])

pub ranks_are : (f : ℕ → ℕ) (slots : List ℕ) → ((place : ℕ) → place < length slots → f (slice_index slots place) ≡ place)
    → map f slots ≡ range_with_len 0 (length slots)
ranks_are f slots is =
    let n = length slots in
    let long = length-map slots f in
    same_lists (map f slots) (range_with_len 0 n) (long ∙ sym (length-range_with_len 0 n)) (λ k d h.
    let within : k < n = omega arith in
    let e : 0 + k ≡ k = omega arith in
    get_or-map f slots k 0 d within ∙ is k within ∙ sym (get_or-range_with_len 0 n k d within ∙ e))
