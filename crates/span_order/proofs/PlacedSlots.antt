-- Slots that come and go by their ranks.
use Rattle.std.proofs.Common.{◌≡◌, ◌≢◌, ℕ, zero, suc, ◌<◌, ◌≤◌, ◌+◌, ◌-◌, ◌==◌, Bool, not, inl, inr, List, [], ◌∷◌, ◌++◌, length, take, drop, get_or, refl, sym, ap, ◌∙◌, arith}
use Rattle.std.specs.List.{All, Contains, concat, filter, insert}
use Rattle.std.specs.List.Sorted.{IsNonDecreasingBy}
use Rattle.std.proofs.lemmas.Bool.{cases_lt, eq-eqb, ne_eqb}
use Rattle.std.proofs.lemmas.List.{drop_more, get_or_default, get_or-drop, get_or-take, length-drop, length-take-le, take-append-drop}
use Rattle.std.proofs.lemmas.List.Elements.{All-append, All-drop, All-take, filter-append}
use Rattle.std.proofs.lemmas.List.Sorted.{IsNonDecreasingBy-insert}
use Rattle.span_order.specs.Blocks.{number_of}
use Rattle.span_order.specs.Ranked.{IsParted, rank_in, rank_of}
use Rattle.span_order.specs.Topped.{AreApart, spliced}
use Rattle.span_order.specs.declared.places.Place.{Place}

-- what holds of all slots and of those that come holds then
pub All-spliced : (P : ℕ → Type 0) (bs : List (List ℕ)) (from to : Place) (slots : List ℕ) → All P (concat bs) → All P slots
    → All P (spliced bs from to slots)
All-spliced P bs from to slots all new =
    All-append P (take (number_of bs from) (concat bs)) (slots ++ drop (number_of bs to) (concat bs)) (All-take P (number_of bs from) (concat bs) all)
    (All-append P slots (drop (number_of bs to) (concat bs)) new (All-drop P (number_of bs to) (concat bs) all))

pub All-one : (P : ℕ → Type 0) (slot : ℕ) → P slot → All P (slot ∷ [])
All-one P slot holds zero d within = holds
All-one P slot holds (suc k) d within = absurd (omega arith)

-- a slot that comes where its rank parts the others
pub placed_rises : (keys slots : List ℕ) (slot at : ℕ) → IsNonDecreasingBy (rank_in keys) slots → at ≤ length slots
    → IsParted keys slots (rank_of (get_or keys slot 0) slot) at → IsNonDecreasingBy (rank_in keys) (insert slots at slot)
placed_rises keys slots slot at rising within parted =
    IsNonDecreasingBy-insert (rank_in keys) slots at slot rising within
    (λ k d low. let below = parted.before k d (omega (arith, length-take-le at slots within)) in
    let is = ap (rank_in keys) (get_or-take at slots k d low) in omega arith)
    (λ k d low high.
    let behind = parted.behind (k - at) d (omega (arith, length-drop at slots)) in
    let e : at + (k - at) ≡ k = omega arith in
    let is = ap (rank_in keys) (get_or-drop at slots (k - at) d ∙ ap (λ n. get_or slots n d) e) in omega arith)

-- a slot that is there stands where its rank parts all
pub record StandsAt (slots : List ℕ) (slot at : ℕ) : Type 0 where
  pub within : at < length slots
  pub is : get_or slots at 0 ≡ slot

pub stands_at : (keys slots : List ℕ) (slot at : ℕ) → IsNonDecreasingBy (rank_in keys) slots → at ≤ length slots → slot < 4294967296
    → length keys ≤ 4294967296 → All (λ other. other < length keys) slots → Contains slots slot
    → IsParted keys slots (rank_of (get_or keys slot 0) slot) at → StandsAt slots slot at
stands_at keys slots slot at rising within small few all there parted =
    let k = there.0 in
    let found : get_or slots k slot ≡ slot = there.2 in
    let behind : at ≤ k = elim (cases_lt k at) [
      | inl before ↦ (let below = parted.before k slot (omega (arith, length-take-le at slots within)) in
          let is = ap (rank_in keys) (get_or-take at slots k slot before ∙ found) in absurd (omega arith))
      | inr after ↦ after
    ] in
    let inside : at < length slots = omega (arith, there.1) in
    let rank = parted.behind 0 slot (omega (arith, length-drop at slots)) in
    let e : at + 0 ≡ at = omega arith in
    let is = ap (rank_in keys) (get_or-drop at slots 0 slot ∙ ap (λ n. get_or slots n slot) e) in
    let last = rising at k slot behind there.1 in
    let same = ap (rank_in keys) found in
    let fits = all at slot inside in
    record {
      within = inside;
      is = get_or_default slots at 0 slot inside ∙ omega arith;
    }

-- where no other is the same
filter_whole : (slot : ℕ) (xs : List ℕ) → All (λ other. other ≢ slot) xs → filter (λ other. not (other == slot)) xs ≡ xs
filter_whole slot [] others = refl
filter_whole slot (x ∷ xs) others =
    let this = ne_eqb x slot (others 0 0 (omega arith)) in
    let rest = filter_whole slot xs (λ k d h. others (suc k) d (omega arith)) in
    rw (this, rest) refl

pub taken : (slots : List ℕ) (slot at : ℕ) → StandsAt slots slot at → AreApart slots
    → take at slots ++ drop (at + 1) slots ≡ filter (λ other. not (other == slot)) slots
taken slots slot at stands apart =
    let test : ℕ → Bool = λ other. not (other == slot) in
    let front = filter_whole slot (take at slots) (λ k d h. λ e.
    let long = length-take-le at slots (omega (arith, stands.within)) in
    let low : k < at = omega arith in
    apart k at low stands.within (get_or_default slots k 0 d (omega (arith, stands.within)) ∙ sym (get_or-take at slots k d low) ∙ e ∙ sym stands.is)) in
    let back = filter_whole slot (drop (at + 1) slots) (λ k d h. λ e.
    let long = length-drop (at + 1) slots in
    apart at (at + 1 + k) (omega arith) (omega arith)
    (stands.is ∙ sym (get_or_default slots (at + 1 + k) 0 d (omega arith) ∙ sym (get_or-drop (at + 1) slots k d) ∙ e))) in
    let parts : slots ≡ take at slots ++ (slot ∷ drop (at + 1) slots) =
    sym (take-append-drop at slots) ∙ ap (λ ys. take at slots ++ ys) (drop_more slots at 0 stands.within ∙ ap (λ x. x ∷ drop (at + 1) slots) stands.is) in
    let same = eq-eqb slot slot refl in
    sym (ap (filter test) parts ∙ filter-append test (take at slots) (slot ∷ drop (at + 1) slots) ∙ rw (front, same, back) refl)
