-- Parts of lists that stand one behind the other, and lists that are changed in place.
use Rattle.std.proofs.Common.{◌≡◌, ℕ, ◌<◌, ◌+◌, ◌-◌, inl, inr, List, [], ◌++◌, length, map, take, drop, get_or, refl, sym, ap, ◌∙◌, arith, length-drop}
use Rattle.std.proofs.Math.ListN.{set}
use Rattle.std.proofs.Math.Seq.{take-append-add, drop-append-add}
use Rattle.std.proofs.lemmas.Bool.{cases_lt}
use Rattle.std.proofs.lemmas.List.{append-nil, drop_all, drop-append-le, get_or-drop, map_more, take_all, take-append-le, take_more_set}

-- so many elements of two lists from a place on
pub two_parts : {X : Type 0} (xs ys : List X) (at n : ℕ)
    → take n (drop at (xs ++ ys)) ≡ take n (drop at xs) ++ take (at + n - length xs - (at - length xs)) (drop (at - length xs) ys)
two_parts {X} xs ys at n = elim (cases_lt (length xs) at) [
  | inl behind ↦ (let r : at ≡ length xs + (at - length xs) = omega arith in
      let m : at + n - length xs - (at - length xs) ≡ n = omega arith in
      let none = drop_all at xs (omega arith) in
      let moved = ap (λ k. drop k (xs ++ ys)) r ∙ drop-append-add xs ys (at - length xs) in
      rw (moved, m, none, take_all {A = X} n [] (omega arith)) refl)
  | inr inside ↦ (let z : at - length xs ≡ 0 = omega arith in
      let short = length-drop at xs in
      let parted = drop-append-le at xs ys inside in
      elim (cases_lt (length (drop at xs)) n) [
        | inl over ↦ (let m : n ≡ length (drop at xs) + (at + n - length xs) = omega arith in
            let whole = take_all n (drop at xs) (omega arith) in
            let minus : at + n - length xs - 0 ≡ at + n - length xs = omega arith in
            let first : take n (drop at xs ++ ys) ≡ drop at xs ++ take (at + n - length xs) ys =
            ap (λ k. take k (drop at xs ++ ys)) m ∙ take-append-add (drop at xs) ys (at + n - length xs) in
            rw (parted, first, whole, z, minus) refl)
        | inr within ↦ (let m : at + n - length xs ≡ 0 = omega arith in
            rw (parted, take-append-le n (drop at xs) ys within, z, m) (sym (append-nil (take n (drop at xs)))))
      ])
]

pub three_parts : {X : Type 0} (xs ys zs : List X) (at n : ℕ)
    → take n (drop at (xs ++ (ys ++ zs))) ≡ take n (drop at xs)
    ++ (take (at + n - length xs - (at - length xs)) (drop (at - length xs) ys)
    ++ take (at + n - (length xs + length ys) - (at - (length xs + length ys))) (drop (at - (length xs + length ys)) zs))
three_parts xs ys zs at n =
    let m = at + n - length xs - (at - length xs) in
    let from : at - length xs - length ys ≡ at - (length xs + length ys) = omega arith in
    let to : at - length xs + m - length ys ≡ at + n - (length xs + length ys) = omega arith in
    two_parts xs (ys ++ zs) at n
    ∙ ap (λ rest. take n (drop at xs) ++ rest)
    (two_parts ys zs (at - length xs) m ∙ rw (to, from) refl)

-- one element more is changed in place
pub map_more_set : {X : Type 0} (f : X → X) (xs ys : List X) (at : ℕ) (d : X) → at < length xs → at < length ys
    → take at ys ≡ map f (take at xs) → drop at ys ≡ drop at xs
    → take (at + 1) (set ys at (f (get_or ys at d))) ≡ map f (take (at + 1) xs)
map_more_set f xs ys at d inside within front rest =
    let z : at + 0 ≡ at = omega arith in
    let here : get_or ys at d ≡ get_or xs at d =
    ap (λ k. get_or ys k d) (sym z) ∙ sym (get_or-drop at ys 0 d) ∙ ap (λ zs. get_or zs 0 d) rest ∙ get_or-drop at xs 0 d ∙ ap (λ k. get_or xs k d) z in
    take_more_set ys at (f (get_or ys at d)) within
    ∙ rw (front, here) (sym (map_more f xs at d inside))
