-- The live slots below a slot, in parts.
use Rattle.std.proofs.Common.{◌≡◌, ◌≢◌, ℕ, ◌<◌, ◌≤◌, ◌+◌, ◌-◌, suc, zero, inl, inr, Bool, true, false, cond, List, [], ◌∷◌, ◌++◌, length, refl, sym, ap, ◌∙◌, subst, arith}
use Rattle.std.specs.Int.{from_bool}
use Rattle.std.specs.List.{filter, range_with_len}
use Rattle.std.proofs.lemmas.Bool.{cases_lt, cond-true, cond-false, cases_Bool, false≢true}
use Rattle.std.proofs.lemmas.List.Elements.{filter-append}
use Rattle.std.proofs.lemmas.List.{length-append, append-nil, get_or_past}
use Rattle.slot_ranks.specs.Slots.{is_live, line_below, line, rank}

-- a range in two parts
pub range_parts : (a m n : ℕ) → range_with_len a (m + n) ≡ range_with_len a m ++ range_with_len (a + m) n
range_parts a zero n =
    let left : 0 + n ≡ n = omega arith in
    let right : a + 0 ≡ a = omega arith in
    rw (left, right) refl
range_parts a (suc m) n =
    let left : suc m + n ≡ suc (m + n) = omega arith in
    let right : a + suc m ≡ a + 1 + m = omega arith in
    rw (left, right) (ap (λ xs. a ∷ xs) (range_parts (a + 1) m n))

-- the live ones among so many slots from one on
unfoldable pub live_among : List Bool → ℕ → ℕ → List ℕ
live_among live from count = filter (is_live live) (range_with_len from count)

pub line-zero : (live : List Bool) → line_below live 0 ≡ []
unfolding line_below
line-zero live = refl

pub among-zero : (live : List Bool) (from : ℕ) → live_among live from 0 ≡ []
unfolding live_among
among-zero live from = refl

pub among-suc : (live : List Bool) (from n : ℕ)
    → live_among live from (suc n) ≡ cond (is_live live from) (from ∷ live_among live (from + 1) n) (live_among live (from + 1) n)
unfolding live_among
among-suc live from n = refl

pub line_parts : (live : List Bool) (m n : ℕ) → line_below live (m + n) ≡ line_below live m ++ live_among live m n
unfolding line_below live_among
line_parts live m n = rw (range_parts 0 m n, filter-append) (let e : 0 + m ≡ m = omega arith in rw e refl)

pub line-suc : (live : List Bool) (n : ℕ) → line_below live (suc n) ≡ line_below live n ++ cond (is_live live n) (n ∷ []) []
line-suc live n =
    let e : suc n ≡ n + 1 = omega arith in
    let last = among-suc live n 0 in
    rw (e, line_parts live n 1, last, among-zero live (n + 1)) refl

-- ---- at a live slot, and at a dead one

pub parted_live : (live : List Bool) (slot n : ℕ) → slot < n → is_live live slot ≡ true
    → line_below live n ≡ line_below live slot ++ slot ∷ live_among live (slot + 1) (n - (slot + 1))
parted_live live slot n before is =
    let e : n ≡ slot + suc (n - (slot + 1)) = omega arith in
    ap (line_below live) e ∙ line_parts live slot (suc (n - (slot + 1)))
    ∙ ap (λ xs. line_below live slot ++ xs) (among-suc live slot (n - (slot + 1)) ∙ cond-true _ _ _ is)

pub parted_dead : (live : List Bool) (slot n : ℕ) → slot < n → is_live live slot ≡ false
    → line_below live n ≡ line_below live slot ++ live_among live (slot + 1) (n - (slot + 1))
parted_dead live slot n before is =
    let e : n ≡ slot + suc (n - (slot + 1)) = omega arith in
    ap (line_below live) e ∙ line_parts live slot (suc (n - (slot + 1)))
    ∙ ap (λ xs. line_below live slot ++ xs) (among-suc live slot (n - (slot + 1)) ∙ cond-false _ _ _ is)

-- ---- what depends on what

pub line_agrees : (xs ys : List Bool) (n : ℕ) → ((k : ℕ) → k < n → is_live xs k ≡ is_live ys k) → line_below xs n ≡ line_below ys n
line_agrees xs ys zero same = line-zero xs ∙ sym (line-zero ys)
line_agrees xs ys (suc n) same =
    let front = line_agrees xs ys n (λ k h. same k (omega arith)) in
    rw (line-suc xs n, line-suc ys n, front, same n (omega arith)) refl

pub among_agrees_to : (xs ys : List Bool) (from n : ℕ) → ((k : ℕ) → from ≤ k → k < from + n → is_live xs k ≡ is_live ys k)
    → live_among xs from n ≡ live_among ys from n
among_agrees_to xs ys from zero same = among-zero xs from ∙ sym (among-zero ys from)
among_agrees_to xs ys from (suc n) same =
    let rest = among_agrees_to xs ys (from + 1) n (λ k low high. same k (omega arith) (omega arith)) in
    rw (among-suc xs from n, among-suc ys from n, rest, same from (omega arith) (omega arith)) refl

pub among_agrees : (xs ys : List Bool) (from n : ℕ) → ((k : ℕ) → from ≤ k → is_live xs k ≡ is_live ys k)
    → live_among xs from n ≡ live_among ys from n
among_agrees xs ys from n same = among_agrees_to xs ys from n (λ k low high. same k low)

pub dead_past : (live : List Bool) (slot : ℕ) → length live ≤ slot → is_live live slot ≡ false
dead_past live slot past = get_or_past live slot false past

pub live_within : (live : List Bool) (slot : ℕ) → is_live live slot ≡ true → slot < length live
live_within live slot is =
    elim (cases_lt slot (length live)) [ inl before ↦ before | inr past ↦ absurd (false≢true (sym (dead_past live slot past) ∙ is)) ]

pub among_past : (live : List Bool) (from n : ℕ) → length live ≤ from → live_among live from n ≡ []
among_past live from zero past = among-zero live from
among_past live from (suc n) past =
    among-suc live from n ∙ cond-false _ _ _ (dead_past live from past) ∙ among_past live (from + 1) n (omega arith)

pub line_past : (live : List Bool) (n : ℕ) → length live ≤ n → line_below live n ≡ line live
line_past live n past =
    let e : n ≡ length live + (n - length live) = omega arith in
    ap (line_below live) e ∙ line_parts live (length live) (n - length live)
    ∙ ap (λ xs. line live ++ xs) (among_past live (length live) (n - length live) (omega arith)) ∙ append-nil (line live)

-- ---- ranks

pub rank-zero : (live : List Bool) → rank live 0 ≡ 0
rank-zero live = ap length (line-zero live)

one_if : (b : Bool) (n : ℕ) → length (cond b (n ∷ []) []) ≡ cond b 1 0
one_if b n = elim b as (λ v. length (cond v (n ∷ []) []) ≡ cond v 1 0) [ true ↦ refl | false ↦ refl ]

pub rank-more : (live : List Bool) (n : ℕ) → rank live (n + 1) ≡ rank live n + cond (is_live live n) 1 0
rank-more live n =
    let e : n + 1 ≡ suc n = omega arith in
    rw (e, line-suc live n, length-append, one_if (is_live live n) n) refl

pub rank_live : (live : List Bool) (n : ℕ) → is_live live n ≡ true → rank live (n + 1) ≡ rank live n + 1
rank_live live n is = rank-more live n ∙ ap (λ m. rank live n + m) (cond-true _ _ _ is)

pub rank_dead : (live : List Bool) (n : ℕ) → is_live live n ≡ false → rank live (n + 1) ≡ rank live n
rank_dead live n is = rank-more live n ∙ ap (λ m. rank live n + m) (cond-false _ _ _ is) ∙ omega arith

pub record IsStep (low high most : ℕ) : Type 0 where
  pub least : low ≤ high
  pub bound : high ≤ low + most

one_step : (live : List Bool) (n : ℕ) → IsStep (rank live n) (rank live (n + 1)) 1
one_step live n = elim (cases_Bool (is_live live n)) [
  | inl is ↦ (let e = rank_live live n is in record { least = omega arith; bound = omega arith })
  | inr is ↦ (let e = rank_dead live n is in record { least = omega arith; bound = omega arith })
]

steps : (live : List Bool) (m n : ℕ) → IsStep (rank live m) (rank live (m + n)) n
steps live m zero = let e : m + 0 ≡ m = omega arith in rw e (record { least = omega arith; bound = omega arith })
steps live m (suc n) =
    let e : m + suc n ≡ m + n + 1 = omega arith in
    let first = steps live m n in
    let last = one_step live (m + n) in
    rw e (record { least = omega arith; bound = omega arith })

pub ranks_rise : (live : List Bool) (m n : ℕ) → m ≤ n → IsStep (rank live m) (rank live n) (n - m)
ranks_rise live m n order = let e : n ≡ m + (n - m) = omega arith in
    let P : ℕ → Type 0 = λ k. IsStep (rank live m) (rank live k) (n - m) in subst P (sym e) (steps live m (n - m))

-- a slot that only the first list has as live
pub rank_fallen : (xs ys : List Bool) (slot n : ℕ) → slot < n → is_live xs slot ≡ true → is_live ys slot ≡ false
    → ((k : ℕ) → k ≢ slot → is_live xs k ≡ is_live ys k) → rank ys n + 1 ≡ rank xs n
rank_fallen xs ys slot n before was is same =
    let front = line_agrees xs ys slot (λ k h. same k (omega arith)) in
    let rest = among_agrees xs ys (slot + 1) (n - (slot + 1)) (λ k h. same k (omega arith)) in
    let long = ap length (parted_live xs slot n before was) ∙ length-append (line_below xs slot) (slot ∷ live_among xs (slot + 1) (n - (slot + 1))) in
    let short = ap length (parted_dead ys slot n before is) ∙ length-append (line_below ys slot) (live_among ys (slot + 1) (n - (slot + 1))) in
    let front_long = ap length front in
    let rest_long = ap length rest in
    omega arith

one_byte : (b : Bool) → cond b 1 0 ≡ from_bool b
one_byte b = elim b as (λ v. cond v 1 0 ≡ from_bool v) [ true ↦ refl | false ↦ refl ]

pub rank_byte : (live : List Bool) (n : ℕ) → rank live (n + 1) ≡ rank live n + from_bool (is_live live n)
rank_byte live n = rank-more live n ∙ ap (λ m. rank live n + m) (one_byte (is_live live n))

pub rank_past : (live : List Bool) (n : ℕ) → length live ≤ n → rank live n ≡ rank live (length live)
rank_past live n past = ap length (line_past live n past)

pub rank_bound : (live : List Bool) (n : ℕ) → rank live n ≤ length live
rank_bound live n = elim (cases_lt n (length live)) [
  | inl within ↦ (let low = rank-zero live in let rise = ranks_rise live 0 n (omega arith) in omega arith)
  | inr past ↦ (let low = rank-zero live in let all = rank_past live n past in let rise = ranks_rise live 0 (length live) (omega arith) in omega arith)
]

-- how many stand between two slots
pub rank_between : (live : List Bool) (from to : ℕ) → from ≤ to → rank live to - rank live from ≡ length (live_among live from (to - from))
rank_between live from to order =
    let e : to ≡ from + (to - from) = omega arith in
    let sum = ap (rank live) e ∙ ap length (line_parts live from (to - from)) ∙ length-append (line_below live from) (live_among live from (to - from)) in
    omega arith
