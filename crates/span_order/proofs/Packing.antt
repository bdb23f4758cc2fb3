-- Blocks that are packed: none is empty, and neighbours aren't both small.
use Rattle.std.proofs.Common.{◌≡◌, ℕ, ◌<◌, ◌≤◌, ◌+◌, ◌-◌, ◌*◌, eqb, ltb, suc, zero, inl, inr, List, [], ◌∷◌, ◌++◌, length, take, drop, get_or, refl, sym, ap, ◌∙◌, subst, arith, length-append}
use Rattle.std.specs.List.{All, concat}
use Rattle.std.proofs.lemmas.Bool.{cases_lt, cond-true, cond-false, lt-ltb, le-ltb, ne_eqb}
use Rattle.std.proofs.lemmas.List.{drop_all, drop_more, take-append-drop, take_more}
use Rattle.std.proofs.lemmas.List.Elements.{All-head, All-tail}
use Rattle.span_order.specs.Blocks.{Packed, PackedBehind, block_at, size_before, size_behind}
use Rattle.span_order.proofs.Numbers.{block_is}

-- how many slots the last block holds, or the one before all
abbrev pub last_size : ℕ → List (List ℕ) → ℕ
last_size before [] = before
last_size before (b ∷ bs) = last_size (length b) bs

-- how many slots the first block holds; none counts as a large one
abbrev pub first_size : List (List ℕ) → ℕ
first_size [] = 33
first_size (b ∷ bs) = length b

pub packed_parts : (xs ys : List (List ℕ)) (n : ℕ) → PackedBehind n (xs ++ ys) → PackedBehind n xs × PackedBehind (last_size n xs) ys
packed_parts [] ys n packed = (tt, packed)
packed_parts (x ∷ xs) ys n packed =
    let rest = packed_parts xs ys (length x) packed.2 in
    ((packed.0, packed.1, rest.0), rest.1)

pub packed_join : (xs ys : List (List ℕ)) (n : ℕ) → PackedBehind n xs → PackedBehind (last_size n xs) ys → PackedBehind n (xs ++ ys)
packed_join [] ys n front back = back
packed_join (x ∷ xs) ys n front back = (front.0, front.1, packed_join xs ys (length x) front.2 back)

-- blocks behind another one
pub packed_behind : (ys : List (List ℕ)) (n m : ℕ) → PackedBehind n ys → 32 < m + first_size ys → PackedBehind m ys
packed_behind [] n m packed large = tt
packed_behind (y ∷ ys) n m packed large = (packed.0, large, packed.2)

pub packed_alone : (ys : List (List ℕ)) (n : ℕ) → PackedBehind n ys → Packed ys
packed_alone [] n packed = tt
packed_alone (y ∷ ys) n packed = (packed.0, omega arith, packed.2)

pub last_some : (xs : List (List ℕ)) (n : ℕ) → 0 < n → PackedBehind n xs → 0 < last_size n xs
last_some [] n some packed = some
last_some (x ∷ xs) n some packed = last_some xs (length x) packed.0 packed.2

pub first_some : (ys : List (List ℕ)) (n : ℕ) → PackedBehind n ys → 0 < first_size ys
first_some [] n packed = omega arith
first_some (y ∷ ys) n packed = packed.0

-- blocks are few beside their slots
pub blocks_few : (bs : List (List ℕ)) (n : ℕ) → PackedBehind n bs → 33 * length bs ≤ n + 2 * length (concat bs)
blocks_few [] n packed = omega arith
blocks_few (b ∷ bs) n packed =
    let rest = blocks_few bs (length b) packed.2 in
    let long = length-append b (concat bs) in
    let side = packed.1 in
    omega arith

-- pieces, of which two are never both small
pub last_piece : (ps : List (List ℕ)) (least n : ℕ) → All (λ p. least ≤ length p) ps → 0 < length ps → least ≤ last_size n ps
last_piece [] least n sizes some = absurd (omega arith)
last_piece (p ∷ []) least n sizes some = All-head (λ p. least ≤ length p) p [] sizes
last_piece (p ∷ (q ∷ ps)) least n sizes some =
    last_piece (q ∷ ps) least (length p) (All-tail (λ p. least ≤ length p) p (q ∷ ps) sizes) (omega arith)

none_packed : (ps : List (List ℕ)) (n : ℕ) → length ps ≤ 0 → PackedBehind n ps
none_packed [] n none = tt
none_packed (p ∷ ps) n none = absurd (omega arith)

pub pieces_packed : (ps : List (List ℕ)) (least n : ℕ) → All (λ p. least ≤ length p) ps → 0 < least → 32 < n + least
    → (1 < length ps → 32 < least + least) → PackedBehind n ps
pieces_packed [] least n sizes some side two = tt
pieces_packed (p ∷ ps) least n sizes some side two =
    let size = All-head (λ p. least ≤ length p) p ps sizes in
    let rest = All-tail (λ p. least ≤ length p) p ps sizes in
    elim (cases_lt 0 (length ps)) [
      | inl more ↦ (let both = two (omega arith) in
          (omega arith, omega arith, pieces_packed ps least (length p) rest some (omega arith) (λ _. both)))
      | inr none ↦ (omega arith, omega arith, none_packed ps (length p) none)
    ]

pub one_piece : (ps : List (List ℕ)) (least : ℕ) → All (λ p. least ≤ length p) ps → 0 < length ps → least ≤ length (concat ps)
one_piece [] least sizes some = absurd (omega arith)
one_piece (p ∷ ps) least sizes some =
    let first = All-head (λ p. least ≤ length p) p ps sizes in
    let long = length-append p (concat ps) in
    omega arith

-- two pieces hold twice the least
pub two_pieces : (ps : List (List ℕ)) (least : ℕ) → All (λ p. least ≤ length p) ps → 1 < length ps → least + least ≤ length (concat ps)
two_pieces [] least sizes more = absurd (omega arith)
two_pieces (p ∷ []) least sizes more = absurd (omega arith)
two_pieces (p ∷ (q ∷ ps)) least sizes more =
    let first = All-head (λ p. least ≤ length p) p (q ∷ ps) sizes in
    let rest = All-tail (λ p. least ≤ length p) p (q ∷ ps) sizes in
    let second = All-head (λ p. least ≤ length p) q ps rest in
    let long = length-append p (concat (q ∷ ps)) in
    let longer = length-append q (concat ps) in
    omega arith

-- ---- sizes by places

pub last_push : (xs : List (List ℕ)) (x : List ℕ) (n : ℕ) → last_size n (xs ++ x ∷ []) ≡ length x
last_push [] x n = refl
last_push (y ∷ xs) x n = last_push xs x (length y)

pub before_is : (bs : List (List ℕ)) (at : ℕ) → at ≤ length bs → last_size 33 (take at bs) ≡ size_before bs at
before_is bs zero within = refl
before_is bs (suc at) within =
    let one : suc at ≡ at + 1 = omega arith in
    let same : at ≡ suc at - 1 = omega arith in
    ap (λ n. last_size 33 (take n bs)) one
    ∙ ap (last_size 33) (take_more bs at [] (omega arith))
    ∙ last_push (take at bs) (block_at bs at) 33
    ∙ ap (λ k. length (block_at bs k)) same
    ∙ sym (cond-false (eqb (suc at) 0) 33 (length (block_at bs (suc at - 1))) (ne_eqb _ _ (omega arith)))

pub behind_is : (bs : List (List ℕ)) (at : ℕ) → first_size (drop at bs) ≡ size_behind bs at
behind_is bs at = elim (cases_lt at (length bs)) [
  | inl inside ↦ ap first_size (drop_more bs at [] inside) ∙ sym (cond-true (ltb at (length bs)) (length (block_at bs at)) 33 (lt-ltb _ _ inside))
  | inr past ↦ ap first_size (drop_all at bs past) ∙ sym (cond-false (ltb at (length bs)) (length (block_at bs at)) 33 (le-ltb _ _ past))
]

pub packed_front : (bs : List (List ℕ)) (at : ℕ) → Packed bs → PackedBehind 33 (take at bs)
packed_front bs at packed =
    let P : List (List ℕ) → Type 0 = PackedBehind 33 in
    (packed_parts (take at bs) (drop at bs) 33 (subst P (sym (take-append-drop at bs)) packed)).0

pub packed_back : (bs : List (List ℕ)) (at : ℕ) → Packed bs → PackedBehind (last_size 33 (take at bs)) (drop at bs)
packed_back bs at packed =
    let P : List (List ℕ) → Type 0 = PackedBehind 33 in
    (packed_parts (take at bs) (drop at bs) 33 (subst P (sym (take-append-drop at bs)) packed)).1

pub before_some : (bs : List (List ℕ)) (at : ℕ) → Packed bs → at ≤ length bs → 0 < size_before bs at
before_some bs at packed within =
    let P : ℕ → Type 0 = λ n. 0 < n in
    subst P (before_is bs at within) (last_some (take at bs) 33 (omega arith) (packed_front bs at packed))

pub behind_some : (bs : List (List ℕ)) (at : ℕ) → Packed bs → 0 < size_behind bs at
behind_some bs at packed =
    let P : ℕ → Type 0 = λ n. 0 < n in
    subst P (behind_is bs at) (first_some (drop at bs) (last_size 33 (take at bs)) (packed_back bs at packed))

pub record IsPackedAt (bs : List (List ℕ)) (at : ℕ) : Type 0 where
  pub some : 0 < length (block_at bs at)
  pub beside : 32 < size_before bs at + length (block_at bs at)

pub packed_at : (bs : List (List ℕ)) (at : ℕ) → Packed bs → at < length bs → IsPackedAt bs at
packed_at bs at packed inside =
    let P : List (List ℕ) → Type 0 = PackedBehind (last_size 33 (take at bs)) in
    let here = subst P (drop_more bs at [] inside) (packed_back bs at packed) in
    let before = before_is bs at (omega arith) in
    let side = here.1 in
    record { some = here.0; beside = omega arith }

-- ---- blocks that come in the place of others

pub packed_pieces : (bs ps : List (List ℕ)) (first end least : ℕ) → Packed bs → first ≤ end → end ≤ length bs
    → All (λ p. least ≤ length p) ps → 0 < least → 0 < length ps → (1 < length ps → 32 < least + least)
    → 32 < size_before bs first + least → 32 < least + size_behind bs end
    → Packed (take first bs ++ (ps ++ drop end bs))
packed_pieces bs ps first end least packed order within sizes some more two before behind =
    let front = packed_front bs first packed in
    let back = packed_back bs end packed in
    let size = before_is bs first (omega arith) in
    let rest = behind_is bs end in
    let last = last_piece ps least (last_size 33 (take first bs)) sizes more in
    packed_join (take first bs) (ps ++ drop end bs) 33 front
    (packed_join ps (drop end bs) (last_size 33 (take first bs))
    (pieces_packed ps least (last_size 33 (take first bs)) sizes some (omega arith) two)
    (packed_behind (drop end bs) (last_size 33 (take end bs)) (last_size (last_size 33 (take first bs)) ps) back (omega arith)))

pub packed_closed : (bs : List (List ℕ)) (first end : ℕ) → Packed bs → first ≤ end → end ≤ length bs
    → 32 < size_before bs first → Packed (take first bs ++ drop end bs)
packed_closed bs first end packed order within before =
    let front = packed_front bs first packed in
    let back = packed_back bs end packed in
    let size = before_is bs first (omega arith) in
    packed_join (take first bs) (drop end bs) 33 front
    (packed_behind (drop end bs) (last_size 33 (take end bs)) (last_size 33 (take first bs)) back (omega arith))

-- a block that was read holds some slots
pub some_at : (bs : List (List ℕ)) (at : ℕ) (b : List ℕ) → Packed bs → at < length bs → b ≡ get_or bs at b → 0 < length b
some_at bs at b packed inside is =
    let P : List ℕ → Type 0 = λ xs. 0 < length xs in
    subst P (sym (block_is bs at b inside is)) (packed_at bs at packed inside).some

-- a small neighbour is there
pub some_before : (bs : List (List ℕ)) (at size : ℕ) → size ≡ size_before bs at → size ≤ 32 → 0 < at
some_before bs zero size is small = absurd (omega arith)
some_before bs (suc at) size is small = omega arith

pub some_behind : (bs : List (List ℕ)) (at size : ℕ) → size ≡ size_behind bs at → size ≤ 32 → at < length bs
some_behind bs at size is small = elim (cases_lt at (length bs)) [
  | inl inside ↦ inside
  | inr past ↦ (let none = is ∙ cond-false (ltb at (length bs)) (length (block_at bs at)) 33 (le-ltb _ _ past) in absurd (omega arith))
]

-- a block and the one behind it
pub behind_beside : (bs : List (List ℕ)) (at : ℕ) → Packed bs → at < length bs → 32 < length (block_at bs at) + size_behind bs (at + 1)
behind_beside bs at packed inside = elim (cases_lt (at + 1) (length bs)) [
  | inl more ↦ (let beside = (packed_at bs (at + 1) packed more).beside in
      let size = cond-false (eqb (at + 1) 0) 33 (length (block_at bs (at + 1 - 1))) (ne_eqb _ _ (omega arith)) in
      let same : at + 1 - 1 ≡ at = omega arith in
      let back = ap (λ k. length (block_at bs k)) same in
      let next = cond-true (ltb (at + 1) (length bs)) (length (block_at bs (at + 1))) 33 (lt-ltb _ _ more) in
      omega arith)
  | inr last ↦ (let none = cond-false (ltb (at + 1) (length bs)) (length (block_at bs (at + 1))) 33 (le-ltb _ _ last) in omega arith)
]
