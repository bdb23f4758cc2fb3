-- Places in a list in blocks, and what stands before them and behind.
use Rattle.std.proofs.Common.{◌≡◌, ℕ, ◌<◌, ◌≤◌, ◌+◌, inl, inr, List, [], ◌∷◌, ◌++◌, length, take, drop, slice_get, Some, None, get_or, sym, ap, ◌∙◌, arith, length-append}
use Rattle.std.specs.List.{concat}
use Rattle.std.proofs.Math.Seq.{take-append-add, drop-append-add}
use Rattle.std.proofs.lemmas.Bool.{cases_lt}
use Rattle.std.proofs.lemmas.List.{append-nil, drop_all, drop_more, get_or-append-add, get_or_append_left, get_or_past, get_or_read, take-append-drop, take-append-le, drop-append-le, take-take, take_all, take_more}
use Rattle.std.proofs.lemmas.List.Folds.{concat-append}
use Rattle.std.proofs.lemmas.Option.{slice_get-get_or, slice_get_past}
use Rattle.span_order.specs.Blocks.{block_at, start_of}

-- a block that was read
pub block_is : (bs : List (List ℕ)) (b : ℕ) (x : List ℕ) → b < length bs → x ≡ get_or bs b x → x ≡ block_at bs b
block_is bs b x inside is = get_or_read bs b x inside is []

pub concat_one : (xs : List ℕ) → concat (xs ∷ []) ≡ xs
concat_one xs = append-nil xs

pub concat_parts : (bs : List (List ℕ)) (b : ℕ) → concat bs ≡ concat (take b bs) ++ concat (drop b bs)
concat_parts bs b = ap concat (sym (take-append-drop b bs)) ∙ concat-append (take b bs) (drop b bs)

-- the slots before a block, its own, and those behind it
pub concat_at : (bs : List (List ℕ)) (b : ℕ) → concat bs ≡ concat (take b bs) ++ (block_at bs b ++ concat (drop (b + 1) bs))
concat_at bs b = elim (cases_lt b (length bs)) [
  | inl inside ↦ concat_parts bs b ∙ ap (λ rest. concat (take b bs) ++ concat rest) (drop_more bs b [] inside)
  | inr past ↦ (let none = get_or_past bs b [] past in
      let all = take_all b bs past in
      let rest = drop_all (b + 1) bs (omega arith) in
      rw (all, none, rest) (sym (append-nil (concat bs))))
]

pub front_at : (bs : List (List ℕ)) (b i : ℕ) → i ≤ length (block_at bs b)
    → take (start_of bs b + i) (concat bs) ≡ concat (take b bs) ++ take i (block_at bs b)
front_at bs b i within =
    let behind = concat (drop (b + 1) bs) in
    ap (take (start_of bs b + i)) (concat_at bs b)
    ∙ take-append-add (concat (take b bs)) (block_at bs b ++ behind) i
    ∙ ap (λ xs. concat (take b bs) ++ xs) (take-append-le i (block_at bs b) behind within)

pub back_at : (bs : List (List ℕ)) (b i : ℕ) → i ≤ length (block_at bs b)
    → drop (start_of bs b + i) (concat bs) ≡ drop i (block_at bs b) ++ concat (drop (b + 1) bs)
back_at bs b i within =
    let behind = concat (drop (b + 1) bs) in
    ap (drop (start_of bs b + i)) (concat_at bs b)
    ∙ drop-append-add (concat (take b bs)) (block_at bs b ++ behind) i
    ∙ drop-append-le i (block_at bs b) behind within

pub length_at : (bs : List (List ℕ)) (b : ℕ)
    → length (concat bs) ≡ start_of bs b + (length (block_at bs b) + length (concat (drop (b + 1) bs)))
length_at bs b =
    let front = concat (take b bs) in
    let behind = concat (drop (b + 1) bs) in
    ap length (concat_at bs b) ∙ length-append front (block_at bs b ++ behind)
    ∙ ap (λ n. length front + n) (length-append (block_at bs b) behind)

-- the slot at a place within a block
pub slot_in : (bs : List (List ℕ)) (b i : ℕ) → i < length (block_at bs b)
    → get_or (concat bs) (start_of bs b + i) 0 ≡ get_or (block_at bs b) i 0
slot_in bs b i within =
    let behind = concat (drop (b + 1) bs) in
    ap (λ xs. get_or xs (start_of bs b + i) 0) (concat_at bs b)
    ∙ get_or-append-add (concat (take b bs)) (block_at bs b ++ behind) i 0
    ∙ get_or_append_left (block_at bs b) behind 0 i within

pub within_at : (bs : List (List ℕ)) (b i : ℕ) → i < length (block_at bs b) → start_of bs b + i < length (concat bs)
within_at bs b i within = omega (arith, length_at bs b)

pub found_in : (bs : List (List ℕ)) (b i : ℕ) → i < length (block_at bs b)
    → slice_get (concat bs) (start_of bs b + i) ≡ slice_get (block_at bs b) i
found_in bs b i within =
    slice_get-get_or (concat bs) (start_of bs b + i) 0 (within_at bs b i within)
    ∙ rw (slot_in bs b i within) (sym (slice_get-get_or (block_at bs b) i 0 within))

-- the next block begins where one ends
pub start_more : (bs : List (List ℕ)) (b : ℕ) → b < length bs → start_of bs (b + 1) ≡ start_of bs b + length (block_at bs b)
start_more bs b inside =
    ap (λ xs. length (concat xs)) (take_more bs b [] inside)
    ∙ ap length (concat-append (take b bs) (block_at bs b ∷ []) ∙ ap (λ xs. concat (take b bs) ++ xs) (concat_one (block_at bs b)))
    ∙ length-append (concat (take b bs)) (block_at bs b)

pub start_all : (bs : List (List ℕ)) (b : ℕ) → length bs ≤ b → start_of bs b ≡ length (concat bs)
start_all bs b past = ap (λ xs. length (concat xs)) (take_all b bs past)

pub start_within : (bs : List (List ℕ)) (b : ℕ) → start_of bs b ≤ length (concat bs)
start_within bs b = omega (arith, length_at bs b)

pub starts_rise : (bs : List (List ℕ)) (b c : ℕ) → b ≤ c → start_of bs b ≤ start_of bs c
starts_rise bs b c order =
    let e = ap (λ xs. length (concat xs)) (take-take b c bs order) in
    let all = start_within (take c bs) b in
    omega arith

-- numbers rise with places
pub numbers_rise : (bs : List (List ℕ)) (b i c j : ℕ) → b ≤ c → (b ≡ c → i ≤ j) → c ≤ length bs → i ≤ length (block_at bs b)
    → start_of bs b + i ≤ start_of bs c + j
numbers_rise bs b i c j order same inside within = elim (cases_lt b c) [
  | inl below ↦ (let more = start_more bs b (omega arith) in
      let rise = starts_rise bs (b + 1) c (omega arith) in
      omega arith)
  | inr not_below ↦ (let one : b ≡ c = omega arith in
      let inner = same one in
      let e = ap (start_of bs) one in
      omega arith)
]

-- ---- the slot behind a place

pub found_read : (bs : List (List ℕ)) (b i : ℕ) (x : List ℕ) → b < length bs → x ≡ get_or bs b x → i < length x
    → Some (get_or x i 0) ≡ slice_get (concat bs) (start_of bs b + i)
found_read bs b i x inside is within =
    let here = block_is bs b x inside is in
    let long = ap length here in
    let low : i < length (block_at bs b) = omega arith in
    sym (found_in bs b i low ∙ slice_get-get_or (block_at bs b) i 0 low ∙ ap (λ xs. Some (get_or xs i 0)) (sym here))

pub at_end : (bs : List (List ℕ)) (b i : ℕ) → b < length bs → i ≡ length (block_at bs b) → start_of bs b + i ≡ start_of bs (b + 1)
at_end bs b i inside is = omega (arith, start_more bs b inside)

pub found_next : (bs : List (List ℕ)) (b i first : ℕ) (x : List ℕ) → b + 1 < length bs → i ≡ length (block_at bs b)
    → x ≡ get_or bs (b + 1) x → 0 < length x → first ≡ get_or x 0 0 → Some first ≡ slice_get (concat bs) (start_of bs b + i)
found_next bs b i first x inside is read some one =
    let before : b < length bs = omega arith in
    let same : start_of bs (b + 1) + 0 ≡ start_of bs b + i = omega (arith, at_end bs b i before is) in
    ap Some one ∙ found_read bs (b + 1) 0 x inside read some ∙ ap (slice_get (concat bs)) same

pub found_none : (bs : List (List ℕ)) (b i : ℕ) → b < length bs → length bs ≤ b + 1 → i ≡ length (block_at bs b)
    → None ≡ slice_get (concat bs) (start_of bs b + i)
found_none bs b i inside last is =
    let end = at_end bs b i inside is in
    let all = start_all bs (b + 1) last in
    sym (slice_get_past (concat bs) (start_of bs b + i) (omega arith))

pub none_behind : (bs : List (List ℕ)) (b i : ℕ) → length bs ≤ b → None ≡ slice_get (concat bs) (start_of bs b + i)
none_behind bs b i past =
    let all = start_all bs b past in
    sym (slice_get_past (concat bs) (start_of bs b + i) (omega arith))

-- where a slot stands behind a place, its block is there
pub inside_where_some : (bs : List (List ℕ)) (b i : ℕ) → i ≤ length (block_at bs b) → start_of bs b + i < length (concat bs) → b < length bs
inside_where_some bs b i within some = elim (cases_lt b (length bs)) [
  | inl inside ↦ inside
  | inr past ↦ (let all = start_all bs b past in
      let none = ap length (get_or_past bs b [] past) in
      absurd (omega arith))
]

-- places rise with their numbers, where the first has a slot before it in its block
pub places_rise : (bs : List (List ℕ)) (b i c j : ℕ) → (0 < b → 0 < i) → c ≤ length bs → j ≤ length (block_at bs c)
    → start_of bs b + i ≤ start_of bs c + j → (b ≤ c) × (b ≡ c → i ≤ j)
places_rise bs b i c j behind inside within order = elim (cases_lt c b) [
  | inl below ↦ (let some = behind (omega arith) in
      let rise = starts_rise bs (c + 1) b (omega arith) in
      elim (cases_lt c (length bs)) [
        | inl block ↦ (let more = start_more bs c block in absurd (omega arith))
        | inr none ↦ (let all = start_all bs c none in
            let far = start_all bs b (omega arith) in
            let empty = ap length (get_or_past bs c [] none) in
            absurd (omega arith))
      ])
  | inr not_below ↦ (omega arith, λ same. let start = ap (start_of bs) same in omega arith)
]
