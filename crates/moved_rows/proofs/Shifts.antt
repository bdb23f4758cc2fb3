-- What is told of the rows that stood, by how they were moved.
use Rattle.std.proofs.Common.{◌≡◌, ◌≢◌, ℕ, ◌<◌, ◌≤◌, ◌+◌, ◌-◌, ◌==◌, ◌&&◌, ◌||◌, suc, zero, Bool, true, false, cond, Option, Some, None, List, [], ◌∷◌, ◌++◌, map, length, get_or, ltb, lt-ltb, ltb-true, refl, sym, ap, ◌∙◌, arith, eq-eqb, inl, inr, append-nil}
use Rattle.std.specs.List.{filter, filter_map, cons_option, range_with_len, slice_set}
use Rattle.std.proofs.lemmas.Bool.{and_parts, cases_eq, ne_eqb, true≢false, false≢true}
use Rattle.std.proofs.lemmas.List.{get_or-map, length-map, get_or_append_left, get_or-set_same, get_or-set_other}
use Rattle.std.proofs.lemmas.Option.{slice_get-get_or, cond_some}
use Rattle.edit_model.specs.State.{Span}
use Rattle.edit_model.specs.Changed.{Shift, has_moved}
use Rattle.span_table.specs.Table.{no_span, span_at, spans_of}
use Rattle.moved_rows.specs.Moves.{ArePlaced, IsBegun, Moves, is_set, moved_of, moved_shifts, shift_at, told_at, told_from}

-- ---- lists by their places

-- what a function of the places gives is what one of the items does
by_places : {X Y : Type 0} (h : ℕ → Option Y) (g : X → Option Y) (xs : List X) (a : ℕ) (d : X)
    → ((i j : ℕ) → i < length xs → a + i ≡ j → h j ≡ g (get_or xs i d))
    → filter_map h (range_with_len a (length xs)) ≡ filter_map g xs
by_places h g [] a d same = refl
by_places h g (x ∷ xs) a d same =
    let first : h a ≡ g x = same 0 a (omega arith) (omega arith) in
    let rest = by_places h g xs (a + 1) d (λ i j within at. same (suc i) j (omega arith) (omega arith)) in
    rw (first, rest) refl

-- nothing comes of a range
pub none_of : {Y : Type 0} (h : ℕ → Option Y) (a n : ℕ) → ((i : ℕ) → a ≤ i → i < a + n → h i ≡ None) → filter_map h (range_with_len a n) ≡ []
none_of h a zero none = refl
none_of h a (suc n) none =
    let first : h a ≡ None = none a (omega arith) (omega arith) in
    rw first (none_of h (a + 1) n (λ i low high. none i (omega arith) (omega arith)))

-- one thing comes of it
one_of : {Y : Type 0} (h : ℕ → Option Y) (a n at : ℕ) (y : Y) → h at ≡ Some y → a ≤ at → at < a + n
    → ((i : ℕ) → i ≢ at → h i ≡ None) → filter_map h (range_with_len a n) ≡ y ∷ []
one_of h a zero at y is low high others = absurd (omega arith)
one_of h a (suc n) at y is low high others = elim (cases_eq a at) [
  | inl same ↦
      let first : h a ≡ Some y = ap h same ∙ is in
      rw first (ap (λ rest. y ∷ rest) (none_of h (a + 1) n (λ i less more. others i (λ e. omega arith))))
  | inr other ↦ rw (others a other) (one_of h (a + 1) n at y is (omega (arith, other)) (omega arith) others)
]

alone : {Y : Type 0} (p : Bool) (y : Y) (ys : List Y) → cons_option (cond p (Some y) None) ys ≡ cond p (y ∷ ys) ys
alone true y ys = refl
alone false y ys = refl

-- what passes, of what a function gives
kept_alone : {X Y : Type 0} (p : Y → Bool) (f : X → Y) (xs : List X) → filter_map (λ x. cond (p (f x)) (Some (f x)) None) xs ≡ filter p (map f xs)
kept_alone p f [] = refl
kept_alone p f (x ∷ xs) = alone (p (f x)) (f x) _ ∙ ap (λ ys. cond (p (f x)) (f x ∷ ys) ys) (kept_alone p f xs)

-- ---- what is told of one row

told_plain : {X : Type 0} (inside moved set : Bool) (x : X) → inside ≡ true → set ≡ false
    → cond (inside && (moved || set)) (Some x) None ≡ cond moved (Some x) None
told_plain true true false x within none = refl
told_plain true false false x within none = refl
told_plain true moved true x within none = absurd (true≢false none)
told_plain false moved set x within none = absurd (false≢true within)

untold : {X : Type 0} (inside moved set : Bool) (x : X) → moved ≡ false → set ≡ false → cond (inside && (moved || set)) (Some x) None ≡ None
untold true false false x still none = refl
untold true true set x still none = absurd (true≢false still)
untold true false true x still none = absurd (true≢false none)
untold false moved set x still none = refl

told_set : {X : Type 0} (inside moved set : Bool) (x : X) → inside ≡ true → set ≡ true → cond (inside && (moved || set)) (Some x) None ≡ Some x
told_set true true set x within is = refl
told_set true false true x within is = refl
told_set true false false x within is = absurd (false≢true is)
told_set false moved set x within is = absurd (false≢true within)

abbrev shift_by : (Span → Span) → Span → Shift
shift_by move span = record { from = span; to = move span }

told_unset : (m : Moves) (i : ℕ) (shift : Shift) → i < length m.before → is_set m.told i ≡ false → shift_at m i ≡ shift
    → told_at m i ≡ cond (has_moved shift) (Some shift) None
told_unset m i shift within none same =
    told_plain (ltb i (length m.before)) (has_moved (shift_at m i)) (is_set m.told i) (shift_at m i) (lt-ltb i (length m.before) within) none
    ∙ ap (λ s. cond (has_moved s) (Some s) None) same

unmoved : (from to : Span) → from ≡ to → has_moved (record { from = from; to = to }) ≡ false
unmoved from to same =
    let start : (from.start == to.start) ≡ true = eq-eqb _ _ (ap (λ (s : Span). s.start) same) in
    let end : (from.end == to.end) ≡ true = eq-eqb _ _ (ap (λ (s : Span). s.end) same) in
    rw (start, end) refl

-- there is nothing to tell of a row that stands where it stood
told_still : (m : Moves) (i : ℕ) → span_at m.before i ≡ span_at (spans_of m.rows) i → is_set m.told i ≡ false → told_at m i ≡ None
told_still m i same none = untold (ltb i (length m.before)) (has_moved (shift_at m i)) (is_set m.told i) (shift_at m i) (unmoved _ _ same) none

unset : (told : Option ℕ) (i : ℕ) → told ≡ None → is_set told i ≡ false
unset told i none = ap (λ t. is_set t i) none

-- ---- what is told of all

-- the rows that a function moved, where nothing was set; rows that came behind them change nothing
pub moved_all : (m : Moves) (move : Span → Span) (added : List Span) → m.told ≡ None → spans_of m.rows ≡ map move m.before ++ added
    → moved_of m ≡ moved_shifts move m.before
unfolding moved_of
moved_all m move added none is =
    by_places (told_at m) (λ span. cond (has_moved (shift_by move span)) (Some (shift_by move span)) None) m.before 0 no_span
    (λ i j within at.
    let same : i ≡ j = omega arith in
    let there : span_at (spans_of m.rows) j ≡ move (get_or m.before i no_span) =
    ap (λ spans. get_or spans j no_span) is ∙ ap (λ k. get_or (map move m.before ++ added) k no_span) (sym same)
    ∙ get_or_append_left (map move m.before) added no_span i (rw (length-map m.before move) within) ∙ get_or-map move m.before i no_span no_span within in
    told_unset m j (shift_by move (get_or m.before i no_span)) (omega (arith, same)) (unset m.told j none)
    (ap (λ k. record { from = get_or m.before k no_span; to = span_at (spans_of m.rows) j }) (sym same)
    ∙ ap (λ to. record { from = get_or m.before i no_span; to = to }) there))
    ∙ kept_alone has_moved (shift_by move) m.before

-- the same where none came
pub moved_only : (m : Moves) (move : Span → Span) → m.told ≡ None → spans_of m.rows ≡ map move m.before → moved_of m ≡ moved_shifts move m.before
moved_only m move none is = moved_all m move [] none (is ∙ sym (append-nil (map move m.before)))

-- nothing, as an edit begins
pub moved_none : (m : Moves) → IsBegun m → moved_of m ≡ []
unfolding moved_of
moved_none m begun =
    none_of (told_at m) 0 (length m.before) (λ i low high. told_still m i (ap (λ spans. span_at spans i) begun.before) (unset m.told i begun.told))

-- the row that was set
pub moved_set : (m : Moves) (i : ℕ) (span : Span) → i < length m.before → m.told ≡ Some i → spans_of m.rows ≡ slice_set m.before i span
    → moved_of m ≡ (record { from = span_at m.before i; to = span }) ∷ []
unfolding moved_of
moved_set m i span within told is =
    one_of (told_at m) 0 (length m.before) i (record { from = span_at m.before i; to = span })
    (told_set (ltb i (length m.before)) (has_moved (shift_at m i)) (is_set m.told i) (shift_at m i) (lt-ltb i (length m.before) within)
    (ap (λ t. is_set t i) told ∙ eq-eqb i i refl)
    ∙ ap (λ to. Some (record { from = span_at m.before i; to = to }))
    (ap (λ spans. span_at spans i) is ∙ get_or-set_same m.before i span no_span within))
    (omega arith) (omega arith)
    (λ j other. told_still m j (sym (ap (λ spans. span_at spans j) is ∙ get_or-set_other m.before i j span no_span other))
    (ap (λ t. is_set t j) told ∙ ne_eqb i j (λ e. other (sym e))))

-- each row that is told of went to the span at its place
pub placed : (m : Moves) → length m.before ≤ length m.rows.kept → ArePlaced (spans_of m.rows) m
placed m within i shift is =
    let parts = cond_some _ _ _ is in
    let inside = ltb-true i (length m.before) (and_parts _ _ parts.0).0 in
    slice_get-get_or (spans_of m.rows) i no_span (simp length-map (omega (arith, inside))) ∙ ap (λ (s : Shift). Some s.to) parts.1

-- ---- what is told from a place on

told_rest : {Y : Type 0} (h : ℕ → Option Y) (a n m : ℕ) → n ≡ suc m
    → filter_map h (range_with_len a n) ≡ cons_option (h a) (filter_map h (range_with_len (a + 1) m))
told_rest h a n m is = ap (λ k. filter_map h (range_with_len a k)) is

pub told_next : (m : Moves) (i : ℕ) → i < length m.before → told_from m i ≡ cons_option (told_at m i) (told_from m (i + 1))
unfolding told_from
told_next m i within = told_rest (told_at m) i (length m.before - i) (length m.before - (i + 1)) (omega arith)

told_none_left : {Y : Type 0} (h : ℕ → Option Y) (a n : ℕ) → n ≡ 0 → filter_map h (range_with_len a n) ≡ []
told_none_left h a n is = ap (λ k. filter_map h (range_with_len a k)) is

pub told_past : (m : Moves) (i : ℕ) → length m.before ≤ i → told_from m i ≡ []
unfolding told_from
told_past m i past = told_none_left (told_at m) i (length m.before - i) (omega arith)

pub told_whole : (m : Moves) → told_from m 0 ≡ moved_of m
unfolding told_from moved_of
told_whole m = ap (λ n. filter_map (told_at m) (range_with_len 0 n)) (let e : length m.before - 0 ≡ length m.before = omega arith in e)

pub told_passed : (m : Moves) (i : ℕ) → i < length m.before → told_at m i ≡ None → told_from m (i + 1) ≡ told_from m i
told_passed m i within is = sym (told_next m i within ∙ ap (λ found. cons_option found (told_from m (i + 1))) is)

pub told_first : (m : Moves) (i : ℕ) (x : Shift) → i < length m.before → told_at m i ≡ Some x → told_from m i ≡ x ∷ told_from m (i + 1)
told_first m i x within is = told_next m i within ∙ ap (λ found. cons_option found (told_from m (i + 1))) is

-- ---- what leaves it

-- what is told of a place hangs on the spans there
told_alike : (m n : Moves) (i : ℕ) → n.before ≡ m.before → n.told ≡ m.told → span_at (spans_of n.rows) i ≡ span_at (spans_of m.rows) i
    → told_at n i ≡ told_at m i
told_alike m n i befores tolds spans = rw (befores, tolds, spans) refl

agrees : {Y : Type 0} (h g : ℕ → Option Y) (a n : ℕ) → ((i : ℕ) → a ≤ i → i < a + n → h i ≡ g i)
    → filter_map h (range_with_len a n) ≡ filter_map g (range_with_len a n)
agrees h g a zero same = refl
agrees h g a (suc n) same =
    let first : h a ≡ g a = same a (omega arith) (omega arith) in
    let rest = agrees h g (a + 1) n (λ i low high. same i (omega arith) (omega arith)) in
    rw (first, rest) refl

-- rows that come behind change nothing
pub moved_behind : (m n : Moves) (added : List Span) → length m.before ≤ length m.rows.kept → n.before ≡ m.before → n.told ≡ m.told
    → spans_of n.rows ≡ spans_of m.rows ++ added → moved_of n ≡ moved_of m
unfolding moved_of
moved_behind m n added within befores tolds spans =
    ap (λ before. filter_map (told_at n) (range_with_len 0 (length before))) befores
    ∙ agrees (told_at n) (told_at m) 0 (length m.before) (λ i low high.
    told_alike m n i befores tolds
    (ap (λ all. span_at all i) spans ∙ get_or_append_left (spans_of m.rows) added no_span i (simp length-map (omega (arith, high, within)))))

pub moved_same : (m n : Moves) → n.before ≡ m.before → n.told ≡ m.told → spans_of n.rows ≡ spans_of m.rows → moved_of n ≡ moved_of m
unfolding moved_of
moved_same m n befores tolds spans =
    ap (λ before. filter_map (told_at n) (range_with_len 0 (length before))) befores
    ∙ agrees (told_at n) (told_at m) 0 (length m.before) (λ i low high. told_alike m n i befores tolds (ap (λ all. span_at all i) spans))
