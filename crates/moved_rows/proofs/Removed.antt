-- Elements that go by their places, the last one first.
use Rattle.std.proofs.Common.{◌≡◌, ℕ, ◌+◌, ◌<◌, ◌≤◌, zero, suc, Bool, true, false, not, cond, List, [], ◌∷◌, ◌++◌, length, get_or, take, drop, refl, sym, ap, ◌∙◌, arith, inl, inr, length-append}
use Rattle.std.specs.List.{filter, range_with_len}
use Rattle.std.proofs.lemmas.Bool.{cases_Bool, cond-true, cond-false}
use Rattle.std.proofs.lemmas.List.{append-nil, append_assoc, drop_all, drop_at, drop_more, get_or_push, length-drop, length-take-le, length_push, take-append-le, take_all, take_at, take_more}
use Rattle.std.proofs.lemmas.List.Elements.{filter-append}
use Rattle.interval_tree.proofs.Ranges.{range_next}
use Rattle.span_table.specs.Table.{without_at}

-- ---- ends of lists

snoc_long : {X : Type 0} (xs ys : List X) (x y : X) → xs ++ x ∷ [] ≡ ys ++ y ∷ [] → length xs ≡ length ys
snoc_long xs ys x y is = omega (arith, ap length is, length_push xs x, length_push ys y)

snoc_front : {X : Type 0} (xs ys : List X) (x y : X) → xs ++ x ∷ [] ≡ ys ++ y ∷ [] → xs ≡ ys
snoc_front xs ys x y is =
    sym (take_at xs (x ∷ []) (length xs) refl) ∙ ap (take (length xs)) is ∙ take_at ys (y ∷ []) (length xs) (sym (snoc_long xs ys x y is))

snoc_last : {X : Type 0} (xs ys : List X) (x y : X) → xs ++ x ∷ [] ≡ ys ++ y ∷ [] → x ≡ y
snoc_last xs ys x y is =
    sym (get_or_push xs x x (length xs) refl) ∙ ap (λ all. get_or all (length xs) x) is
    ∙ get_or_push ys y x (length xs) (sym (snoc_long xs ys x y is))

snoc_some : {X : Type 0} (xs : List X) (x : X) → xs ++ x ∷ [] ≡ [] → ⊥
snoc_some xs x is = omega (arith, ap length is, length_push xs x)

-- the element between two parts goes
without_between : {X : Type 0} (front back : List X) (x : X) (m : ℕ) → length front ≡ m → without_at m ((front ++ x ∷ []) ++ back) ≡ front ++ back
without_between front back x m long =
    let more : length (front ++ x ∷ []) ≡ m + 1 = omega (arith, long, length_push front x) in
    ap (λ first. first ++ drop (m + 1) ((front ++ x ∷ []) ++ back))
    (take-append-le m (front ++ x ∷ []) back (omega (arith, more)) ∙ take_at front (x ∷ []) m long)
    ∙ ap (λ rest. front ++ rest) (drop_at (front ++ x ∷ []) back (m + 1) more)

-- ---- those that pass a test go

module _ {X : Type 0} (test : X → Bool) (d : X) (xs : List X) where
  -- the places below p of elements that pass
  abbrev pub below : ℕ → List ℕ
  below p = filter (λ i. test (get_or xs i d)) (range_with_len 0 p)

  -- the elements below p, and of the others those that fail
  abbrev pub halved : ℕ → List X
  halved p = take p xs ++ filter (λ x. not (test x)) (drop p xs)

  below_more : (p : ℕ) → below (p + 1) ≡ below p ++ cond (test (get_or xs p d)) (p ∷ []) []
  below_more p =
      ap (filter (λ i. test (get_or xs i d))) (range_next p)
      ∙ filter-append (λ i. test (get_or xs i d)) (range_with_len 0 p) (p ∷ [])

  below_pass : (p : ℕ) → test (get_or xs p d) ≡ true → below (p + 1) ≡ below p ++ p ∷ []
  below_pass p is = below_more p ∙ ap (λ rest. below p ++ rest) (cond-true _ _ _ is)

  below_fail : (p : ℕ) → test (get_or xs p d) ≡ false → below (p + 1) ≡ below p
  below_fail p is = below_more p ∙ ap (λ rest. below p ++ rest) (cond-false _ _ _ is) ∙ append-nil (below p)

  halved_more : (p : ℕ) → p < length xs
      → halved (p + 1) ≡ (take p xs ++ get_or xs p d ∷ []) ++ filter (λ x. not (test x)) (drop (p + 1) xs)
  halved_more p within = ap (λ first. first ++ filter (λ x. not (test x)) (drop (p + 1) xs)) (take_more xs p d within)

  drop_pass : (p : ℕ) → p < length xs → test (get_or xs p d) ≡ true
      → filter (λ x. not (test x)) (drop p xs) ≡ filter (λ x. not (test x)) (drop (p + 1) xs)
  drop_pass p within is =
      ap (filter (λ x. not (test x))) (drop_more xs p d within) ∙ cond-false _ _ _ (ap not is)

  drop_fail : (p : ℕ) → p < length xs → test (get_or xs p d) ≡ false
      → filter (λ x. not (test x)) (drop p xs) ≡ get_or xs p d ∷ filter (λ x. not (test x)) (drop (p + 1) xs)
  drop_fail p within is =
      ap (filter (λ x. not (test x))) (drop_more xs p d within) ∙ cond-true _ _ _ (ap not is)

  -- one that fails stays
  halved_fail : (p : ℕ) → p < length xs → test (get_or xs p d) ≡ false → halved (p + 1) ≡ halved p
  halved_fail p within is =
      halved_more p within
      ∙ append_assoc (take p xs) (get_or xs p d ∷ []) (filter (λ x. not (test x)) (drop (p + 1) xs))
      ∙ ap (λ rest. take p xs ++ rest) (sym (drop_fail p within is))

  -- one that passes goes
  halved_pass : (p : ℕ) → p < length xs → test (get_or xs p d) ≡ true → without_at p (halved (p + 1)) ≡ halved p
  halved_pass p within is =
      ap (without_at p) (halved_more p within)
      ∙ without_between (take p xs) (filter (λ x. not (test x)) (drop (p + 1) xs)) (get_or xs p d) p (length-take-le p xs (omega (arith, within)))
      ∙ ap (λ rest. take p xs ++ rest) (sym (drop_pass p within is))

  -- below p the last that passes is m, and the places before it are these
  record IsLast (p : ℕ) (places : List ℕ) (m : ℕ) : Type 0 where
    pub within : m < p
    pub passes : test (get_or xs m d) ≡ true
    pub before : below m ≡ places
    pub same : halved p ≡ halved (m + 1)

  last_below : (p : ℕ) (places : List ℕ) (m : ℕ) → p ≤ length xs → below p ≡ places ++ m ∷ [] → IsLast p places m
  last_below zero places m within is = absurd (snoc_some places m (sym is))
  last_below (suc p) places m within is =
      let next : suc p ≡ p + 1 = omega arith in
      let here : p < length xs = omega (arith, within) in
      elim (cases_Bool (test (get_or xs p d))) [
        | inl passes ↦ (let both : below p ++ p ∷ [] ≡ places ++ m ∷ [] = sym (below_pass p passes) ∙ ap below (sym next) ∙ is in
            let at : p ≡ m = snoc_last (below p) places p m both in
            let behind : suc p ≡ m + 1 = omega (arith, at) in
            record {
              within = omega (arith, at);
              passes = ap (λ i. test (get_or xs i d)) (sym at) ∙ passes;
              before = ap below (sym at) ∙ snoc_front (below p) places p m both;
              same = ap halved behind;
            })
        | inr fails ↦ (let rest = last_below p places m (omega (arith, here)) (sym (below_fail p fails) ∙ ap below (sym next) ∙ is) in
            record {
              within = omega (arith, rest.within);
              passes = rest.passes;
              before = rest.before;
              same = ap halved next ∙ halved_fail p here fails ∙ rest.same;
            })
      ]

  none_below : (p : ℕ) → p ≤ length xs → below p ≡ [] → halved p ≡ filter (λ x. not (test x)) xs
  none_below zero within is = refl
  none_below (suc p) within is =
      let next : suc p ≡ p + 1 = omega arith in
      let here : p < length xs = omega (arith, within) in
      elim (cases_Bool (test (get_or xs p d))) [
        | inl passes ↦ absurd (snoc_some (below p) p (sym (below_pass p passes) ∙ ap below (sym next) ∙ is))
        | inr fails ↦ ap halved next ∙ halved_fail p here fails
            ∙ none_below p (omega (arith, here)) (sym (below_fail p fails) ∙ ap below (sym next) ∙ is)
      ]

  -- of the places of all that pass, all but the first k are gone
  pub record AreLeft (places : List ℕ) (now : List X) (k : ℕ) : Type 0 where
    pub from : ℕ
    pub within : from ≤ length xs
    pub before : below from ≡ take k places
    pub is : now ≡ halved from

  pub left_whole : (places : List ℕ) (now : List X) → places ≡ below (length xs) → now ≡ xs → AreLeft places now (length places)
  left_whole places now all is = record {
    from = length xs;
    within = omega arith;
    before = sym all ∙ sym (take_all (length places) places (omega arith));
    is = is ∙ sym (ap (λ rest. take (length xs) xs ++ filter (λ x. not (test x)) rest) (drop_all (length xs) xs (omega arith))
        ∙ append-nil (take (length xs) xs) ∙ take_all (length xs) xs (omega arith));
  }

  pub left_less : (places : List ℕ) (now new : List X) (k : ℕ) → AreLeft places now (k + 1) → k < length places
      → new ≡ without_at (get_or places k 0) now → AreLeft places new k
  left_less places now new k left within is =
      let last = last_below left.from (take k places) (get_or places k 0) left.within (left.before ∙ take_more places k 0 within) in
      record {
        from = get_or places k 0;
        within = omega (arith, left.within, last.within);
        before = last.before;
        is = is ∙ ap (without_at (get_or places k 0)) (left.is ∙ last.same)
            ∙ halved_pass (get_or places k 0) (omega (arith, left.within, last.within)) last.passes;
      }

  pub left_none : (places : List ℕ) (now : List X) → AreLeft places now 0 → now ≡ filter (λ x. not (test x)) xs
  left_none places now left = left.is ∙ none_below left.from left.within left.before

-- ---- places that rise

pub without_long : {X : Type 0} (xs new : List X) (i : ℕ) → i < length xs → new ≡ without_at i xs → length new + 1 ≡ length xs
without_long xs new i within is =
    omega (
      arith,
      within,
      ap length is,
      length-append (take i xs) (drop (i + 1) xs),
      length-take-le i xs (omega (arith, within)),
      length-drop (i + 1) xs,
    )
