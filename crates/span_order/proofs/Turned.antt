-- Lists of which a part went behind the others.
use Rattle.std.proofs.Common.{◌≡◌, ℕ, ◌≤◌, ◌+◌, ◌-◌, List, ◌++◌, length, take, drop, sym, ap, subst, ◌∙◌, append_assoc, arith}
use Rattle.std.proofs.Math.Seq.{drop-append_seam, take-append_seam}
use Rattle.std.proofs.lemmas.List.{append-nil, drop_all, drop-append-le, length-append, length-drop, length-take-le, take_all, take-append-le, take-append-drop}

take_at : {X : Type 0} (xs ys : List X) (n : ℕ) → n ≡ length xs → take n (xs ++ ys) ≡ xs
take_at xs ys n e = ap (λ m. take m (xs ++ ys)) e ∙ take-append_seam xs ys

drop_at : {X : Type 0} (xs ys : List X) (n : ℕ) → n ≡ length xs → drop n (xs ++ ys) ≡ ys
drop_at xs ys n e = ap (λ m. drop m (xs ++ ys)) e ∙ drop-append_seam xs ys

drop_two : {X : Type 0} (xs ys zs : List X) (n : ℕ) → n ≡ length xs + length ys → drop n (xs ++ (ys ++ zs)) ≡ zs
drop_two xs ys zs n e =
    ap (drop n) (sym (append_assoc xs ys zs)) ∙ drop_at (xs ++ ys) zs n (omega (arith, length-append xs ys))

take_two : {X : Type 0} (xs ys zs : List X) (n : ℕ) → n ≡ length xs + length ys → take n (xs ++ (ys ++ zs)) ≡ xs ++ ys
take_two xs ys zs n e =
    ap (take n) (sym (append_assoc xs ys zs)) ∙ take_at (xs ++ ys) zs n (omega (arith, length-append xs ys))

-- what is behind a part that went
pub turned_out : {X : Type 0} (xs : List X) (at fewer count : ℕ) → at + fewer ≤ length xs → count ≡ length xs - fewer
    → take count (take at xs ++ (drop (at + fewer) xs ++ take fewer (drop at xs))) ≡ take at xs ++ drop (at + fewer) xs
turned_out xs at fewer count within is =
    take_two (take at xs) (drop (at + fewer) xs) (take fewer (drop at xs)) count
    (omega (arith, length-take-le at xs (omega arith), length-drop (at + fewer) xs))

pub behind_gone : {X : Type 0} (xs ys : List X) (at : ℕ) → at ≤ length xs → drop at (take at xs ++ ys) ≡ ys
behind_gone xs ys at within = drop_at (take at xs) ys at (sym (length-take-le at xs within))

pub front_stays : {X : Type 0} (xs ys : List X) (at : ℕ) → at ≤ length xs → take at (take at xs ++ ys) ≡ take at xs
front_stays xs ys at within = take_at (take at xs) ys at (sym (length-take-le at xs within))

-- a list that grew, and whose end then went before what came
pub grown : {X : Type 0} (xs new : List X) (at more : ℕ) → at ≤ length xs → length new ≡ more
    → drop (at + more) (take at (xs ++ new) ++ (drop (at + (length xs - at)) (xs ++ new) ++ take (length xs - at) (drop at (xs ++ new)))) ≡ drop at xs
grown xs new at more within long =
    let front = take-append-le at xs new within in
    let middle = drop_at xs new (at + (length xs - at)) (omega arith) in
    let back : take (length xs - at) (drop at (xs ++ new)) ≡ drop at xs =
    ap (take (length xs - at)) (drop-append-le at xs new within) ∙ take_at (drop at xs) new (length xs - at) (sym (length-drop at xs)) in
    rw (front, middle, back) (drop_two (take at xs) new (drop at xs) (at + more) (omega (arith, length-take-le at xs within)))

pub written_back : {X : Type 0} (old new : List X) (len : ℕ) → length new ≡ length old → len ≡ length old
    → take len (new ++ drop (length new) old) ≡ new
written_back old new len same is =
    ap (λ rest. take len (new ++ rest)) (drop_all (length new) old (omega arith))
    ∙ ap (take len) (append-nil new) ∙ take_all len new (omega arith)

-- the same where the list is known by its front
pub grown_to : {X : Type 0} (xs all : List X) (at more : ℕ) → at ≤ length xs → take (length xs) all ≡ xs → length all ≡ length xs + more
    → drop (at + more) (take at all ++ (drop (at + (length xs - at)) all ++ take (length xs - at) (drop at all))) ≡ drop at xs
grown_to {X = X} xs all at more within front long =
    let is : all ≡ xs ++ drop (length xs) all = sym (take-append-drop (length xs) all) ∙ ap (λ ys. ys ++ drop (length xs) all) front in
    let new = length-drop (length xs) all in
    subst (λ (zs : List X). drop (at + more) (take at zs ++ (drop (at + (length xs - at)) zs ++ take (length xs - at) (drop at zs))) ≡ drop at xs)
    (sym is) (grown xs (drop (length xs) all) at more within (omega arith))
