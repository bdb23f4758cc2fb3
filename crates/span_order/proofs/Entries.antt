-- Entries of a list in blocks, by their blocks and by their numbers.
use Rattle.std.proofs.Common.{◌≡◌, ℕ, suc, zero, ◌<◌, ◌≤◌, ◌+◌, List, [], ◌∷◌, ◌++◌, length, take, drop, get_or, refl, sym, ap, subst, inl, inr, ◌∙◌, append_assoc, arith}
use Rattle.std.specs.List.{All, concat}
use Rattle.std.proofs.Math.ListN.{get_or-eq_default}
use Rattle.std.proofs.lemmas.Bool.{cases_lt}
use Rattle.std.proofs.lemmas.List.{get_or_append_left, get_or-append-add, length-append, take_all}
use Rattle.std.proofs.lemmas.List.Elements.{All-from_get_or, All-get_or}
use Rattle.span_order.specs.declared.places.Place.{Place}
use Rattle.span_order.specs.Blocks.{IsPlace, block_at, number_of, start_of}

-- what stands before a block, in it, and behind it
pub parted_at : (bs : List (List ℕ)) (b : ℕ) → b < length bs
    → concat bs ≡ concat (take b bs) ++ (block_at bs b ++ concat (drop (suc b) bs))
parted_at [] b within = absurd (omega arith)
parted_at (x ∷ bs) zero within = refl
parted_at (x ∷ bs) (suc b) within =
    ap (λ ys. x ++ ys) (parted_at bs b (omega arith)) ∙ sym (append_assoc x (concat (take b bs)) (block_at bs b ++ concat (drop (suc b) bs)))

-- a block's length, and what stands before the next one
pub number_next : (bs : List (List ℕ)) (b : ℕ) → b < length bs
    → start_of bs (b + 1) ≡ start_of bs b + length (block_at bs b)
number_next [] b within = absurd (omega arith)
number_next (x ∷ bs) zero within = omega (arith, length-append x [])
number_next (x ∷ bs) (suc b) within =
    let e : suc b + 1 ≡ suc (b + 1) = omega arith in
    let more = number_next bs b (omega arith) in
    ap (λ n. length (concat (take n (x ∷ bs)))) e
    ∙ omega (arith, length-append x (concat (take (b + 1) bs)), length-append x (concat (take b bs)))

-- an entry of a block stands at its number
pub entry_at : (bs : List (List ℕ)) (b i : ℕ) → b < length bs → i < length (block_at bs b)
    → get_or (concat bs) (start_of bs b + i) 0 ≡ get_or (block_at bs b) i 0
entry_at bs b i block index =
    ap (λ ys. get_or ys (start_of bs b + i) 0) (parted_at bs b block)
    ∙ get_or-append-add (concat (take b bs)) (block_at bs b ++ concat (drop (suc b) bs)) i 0
    ∙ get_or_append_left (block_at bs b) (concat (drop (suc b) bs)) 0 i index

-- blocks before others are no longer than the list
pub number_within : (bs : List (List ℕ)) (b : ℕ) → b < length bs
    → start_of bs b + length (block_at bs b) ≤ length (concat bs)
number_within bs b block =
    let parts = ap length (parted_at bs b block) in
    omega (
      arith,
      length-append (concat (take b bs)) (block_at bs b ++ concat (drop (suc b) bs)),
      length-append (block_at bs b) (concat (drop (suc b) bs)),
    )

-- the end of the blocks is the end of the list
pub number_end : (bs : List (List ℕ)) (b : ℕ) → length bs ≤ b → start_of bs b ≡ length (concat bs)
number_end bs b past = ap (λ ys. length (concat ys)) (take_all b bs past)

pub place_within : (bs : List (List ℕ)) (at : Place) → IsPlace bs at → number_of bs at ≤ length (concat bs)
place_within bs at place = let b = at.block in elim (cases_lt b (length bs)) [
  | inl within ↦ (let fits = number_within bs b within in let index = place.index in omega arith)
  | inr past ↦ (let all = number_end bs b past in
      let none : length (block_at bs b) ≡ 0 = ap length (get_or-eq_default bs [] past) in
      let index = place.index in omega arith)
]

-- what holds of all entries holds of a block's
pub All-block : (P : ℕ → Type 0) (bs : List (List ℕ)) (b : ℕ) → b < length bs → All P (concat bs) → All P (block_at bs b)
All-block P bs b block all =
    let within = number_within bs b block in
    All-from_get_or P (block_at bs b) 0 (λ i h.
    subst P (entry_at bs b i block h) (All-get_or P (concat bs) (start_of bs b + i) 0 (omega arith) all))
