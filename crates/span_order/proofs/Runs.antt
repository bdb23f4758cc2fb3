-- Runs of slots in blocks, and slots that get new numbers.
use Rattle.std.proofs.Common.{◌≡◌, ℕ, ◌≤◌, ◌+◌, ◌-◌, List, [], ◌∷◌, ◌++◌, length, map, take, drop, refl, sym, ap, ◌∙◌, subst, arith, length-append, length-drop}
use Rattle.std.specs.List.{concat}
use Rattle.std.proofs.Math.Seq.{take-add}
use Rattle.std.proofs.lemmas.List.{drop-drop, length-map, length-take-le, map-append, take-append-le}
use Rattle.span_order.specs.Blocks.{PackedBehind, block_at, start_of}
use Rattle.span_order.proofs.Numbers.{back_at}

-- some slots more of a block
pub run_more : (bs : List (List ℕ)) (b i j from : ℕ) → from ≤ start_of bs b + i → i ≤ j → j ≤ length (block_at bs b)
    → take (start_of bs b + j - from) (drop from (concat bs))
    ≡ take (start_of bs b + i - from) (drop from (concat bs)) ++ take (j - i) (drop i (block_at bs b))
run_more bs b i j from order up within =
    let n = start_of bs b + i - from in
    let all : start_of bs b + j - from ≡ n + (j - i) = omega arith in
    let place : from + n ≡ start_of bs b + i = omega arith in
    let rest = length-drop i (block_at bs b) in
    ap (λ k. take k (drop from (concat bs))) all
    ∙ take-add n (j - i) (drop from (concat bs))
    ∙ ap (λ xs. take n (drop from (concat bs)) ++ take (j - i) xs) (drop-drop n from (concat bs) ∙ ap (λ k. drop k (concat bs)) place ∙ back_at bs b i (omega arith))
    ∙ ap (λ xs. take n (drop from (concat bs)) ++ xs) (take-append-le (j - i) (drop i (block_at bs b)) (concat (drop (b + 1) bs)) (omega arith))

pub run_long : (xs : List ℕ) (from to : ℕ) → from ≤ to → to ≤ length xs → length (take (to - from) (drop from xs)) ≡ to - from
run_long xs from to order within =
    let rest = length-drop from xs in
    length-take-le (to - from) (drop from xs) (omega arith)

-- how many slots there are where some became others
pub spliced_long : (xs ys s : List ℕ) (from to : ℕ) → ys ≡ take from xs ++ (s ++ drop to xs) → from ≤ to → to ≤ length xs
    → length ys + (to - from) ≡ length xs + length s
spliced_long xs ys s from to is order within =
    let long = ap length is ∙ length-append (take from xs) (s ++ drop to xs) in
    let longer = length-append s (drop to xs) in
    let front = length-take-le from xs (omega arith) in
    let rest = length-drop to xs in
    omega arith

pub concat_map : (f : ℕ → ℕ) (bs : List (List ℕ)) → concat (map (map f) bs) ≡ map f (concat bs)
concat_map f [] = refl
concat_map f (b ∷ bs) = rw (concat_map f bs) (sym (map-append f b (concat bs)))

pub packed_map : (f : ℕ → ℕ) (bs : List (List ℕ)) (n : ℕ) → PackedBehind n bs → PackedBehind n (map (map f) bs)
packed_map f [] n packed = tt
packed_map f (b ∷ bs) n packed =
    let P : ℕ → Type 0 = λ m. PackedBehind m (map (map f) bs) in
    let long = length-map b f in
    let some = packed.0 in
    let side = packed.1 in
    (omega arith, omega arith, subst P (sym long) (packed_map f bs (length b) packed.2))
