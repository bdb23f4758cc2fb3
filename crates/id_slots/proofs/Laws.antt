-- Ids in a list, each with the slot at its place in another: what one more, one less and other slots make of it.
use Rattle.std.proofs.Common.{not, ◌≡◌, ◌||◌, is_some, ℕ, ◌<◌, ◌+◌, suc, zero, inl, inr, eqb, Bool, true, false, cond, List, [], ◌∷◌, ◌++◌, length, Option, Some, None, map, refl, sym, ap, ◌∙◌, subst, arith}
use Rattle.std.specs.Prelude.{slice_index, nat_eq, nat_lt}
use Rattle.std.specs.List.{IsDistinct, AllByRecursion, filter, position_or_len}
use Rattle.std.specs.Option.{option_map}
use Rattle.std.proofs.lemmas.Bool.{false≢true, cases_Bool, cond-true, cond-false, cases_eq, eq-eqb, eqb-true, eqb-false, ne_eqb}
use Rattle.std.proofs.lemmas.Option.{none-some, same_Some}
use Rattle.std.proofs.lemmas.List.Elements.{All-from_recursion, All-get_or}
use Rattle.std.proofs.lemmas.Map.Entries.{option_filter}
use Rattle.std.proofs.lemmas.List.{get_or-map, length_push, length-map}
use Rattle.std.proofs.lemmas.Grind.{common_steps}
use Rattle.slot_ranks.specs.Slots.{is_among, without}
use Rattle.id_slots.specs.Named.{AreNamed, Names, slot_beside, slot_in}

same_order : (a b : ℕ) → nat_lt (1 + a) (suc b) ≡ nat_lt a b
same_order a b = grind (arith, common_steps)

some_first : (b : ℕ) → nat_lt 0 (suc b) ≡ true
some_first b = grind (arith, common_steps)

shifted : (s : ℕ) (slots : List ℕ) (n : ℕ) (b : Bool)
    → option_map (slice_index (s ∷ slots)) (cond {A = Option ℕ} b (Some (1 + n)) None) ≡ option_map (slice_index slots) (cond {A = Option ℕ} b (Some n) None)
shifted s slots n true = let e : 1 + n ≡ suc n = omega arith in rw e refl
shifted s slots n false = refl

pub beside-cons : (i s : ℕ) (ids slots : List ℕ) (id : ℕ)
    → slot_beside (i ∷ ids) (s ∷ slots) id ≡ cond (eqb id i) (Some s) (slot_beside ids slots id)
beside-cons i s ids slots id = elim (cases_Bool (eqb id i)) [
  | inl is ↦ rw (is, some_first (length ids)) refl
  | inr other ↦ rw (other, same_order (position_or_len (eqb id) ids) (length ids)) (shifted s slots (position_or_len (eqb id) ids) (nat_lt (position_or_len (eqb id) ids) (length ids)))
]

-- ---- lists

none_beside : (slots : List ℕ) (id : ℕ) → slot_beside [] slots id ≡ None
none_beside slots id = refl

-- an id that isn't in the list
pub beside_absent : (ids slots : List ℕ) (id : ℕ) → length slots ≡ length ids → AllByRecursion (λ other. eqb id other ≡ false) ids
    → slot_beside ids slots id ≡ None
beside_absent [] slots id long absent = refl
beside_absent (i ∷ ids) [] id long absent = absurd (omega arith)
beside_absent (i ∷ ids) (s ∷ slots) id long absent =
    beside-cons i s ids slots id ∙ cond-false _ _ _ absent.0 ∙ beside_absent ids slots id (omega arith) absent.1

in_turn : (x s i t id : ℕ) (rest : Option ℕ) → eqb x i ≡ false
    → cond (eqb id i) (Some t) (cond (eqb id x) (Some s) rest) ≡ cond (eqb id x) (Some s) (cond (eqb id i) (Some t) rest)
in_turn x s i t id rest apart = elim (cases_Bool (eqb id x)) [
  | inl is ↦ (let other : eqb id i ≡ false = ap (λ n. eqb n i) (eqb-true id x is) ∙ apart in rw (is, other) refl)
  | inr other ↦ rw other refl
]

-- one more id, behind all others
pub beside_push : (ids slots : List ℕ) (x s id : ℕ) → length slots ≡ length ids → slot_beside ids slots x ≡ None
    → slot_beside (ids ++ x ∷ []) (slots ++ s ∷ []) id ≡ cond (eqb id x) (Some s) (slot_beside ids slots id)
beside_push [] [] x s id long none = beside-cons x s [] [] id
beside_push [] (t ∷ slots) x s id long none = absurd (omega arith)
beside_push (i ∷ ids) [] x s id long none = absurd (omega arith)
beside_push (i ∷ ids) (t ∷ slots) x s id long none =
    let there = sym (beside-cons i t ids slots x) ∙ none in
    elim (cases_Bool (eqb x i)) [
      | inl is ↦ absurd (some_is_none t (sym (cond-true _ _ _ is) ∙ there))
      | inr other ↦ beside-cons i t (ids ++ x ∷ []) (slots ++ s ∷ []) id
          ∙ ap (cond (eqb id i) (Some t)) (beside_push ids slots x s id (omega arith) (sym (cond-false _ _ _ other) ∙ there))
          ∙ in_turn x s i t id (slot_beside ids slots id) other
          ∙ ap (cond (eqb id x) (Some s)) (sym (beside-cons i t ids slots id))
    ]
  where
    some_is_none : (n : ℕ) → Some n ≡ None → ⊥
    some_is_none n e = grind (arith, common_steps)

kept_none : (b : Bool) (t : ℕ) (rest : Option ℕ) → (b ≡ true → rest ≡ None) → rest ≡ cond b None (cond b (Some t) rest)
kept_none true t rest none = none refl
kept_none false t rest none = refl

both_ways : (b d : Bool) (t : ℕ) (rest : Option ℕ) → (b ≡ true → d ≡ false)
    → cond b (Some t) (cond d None rest) ≡ cond d None (cond b (Some t) rest)
both_ways true d t rest apart = rw (apart refl) refl
both_ways false d t rest apart = refl

apart_at : (i id : ℕ) (ids : List ℕ) (place : ℕ) → place < length ids → AllByRecursion (λ other. eqb i other ≡ false) ids
    → eqb id i ≡ true → eqb id (slice_index ids place) ≡ false
apart_at i id [] place within all is = absurd (omega arith)
apart_at i id (x ∷ ids) zero within all is = ap (λ n. eqb n x) (eqb-true id i is) ∙ all.0
apart_at i id (x ∷ ids) (suc place) within all is = apart_at i id ids place (omega arith) all.1 is

-- one id less, and its slot
pub beside_without : (ids slots : List ℕ) (place id : ℕ) → length slots ≡ length ids → IsDistinct nat_eq ids → place < length ids
    → slot_beside (without place ids) (without place slots) id ≡ cond (eqb id (slice_index ids place)) None (slot_beside ids slots id)
unfolding IsDistinct
beside_without [] slots place id long distinct within = absurd (omega arith)
beside_without (i ∷ ids) [] place id long distinct within = absurd (omega arith)
beside_without (i ∷ ids) (t ∷ slots) zero id long distinct within =
    kept_none (eqb id i) t (slot_beside ids slots id)
    (λ is. ap (slot_beside ids slots) (eqb-true id i is) ∙ beside_absent ids slots i (omega arith) distinct.0)
    ∙ ap (cond (eqb id i) None) (sym (beside-cons i t ids slots id))
beside_without (i ∷ ids) (t ∷ slots) (suc place) id long distinct within =
    let e : suc place + 1 ≡ suc (place + 1) = omega arith in
    let at = slice_index ids place in
    rw e (beside-cons i t (without place ids) (without place slots) id)
    ∙ ap (cond (eqb id i) (Some t)) (beside_without ids slots place id (omega arith) distinct.1 (omega arith))
    ∙ both_ways (eqb id i) (eqb id at) t (slot_beside ids slots id) (apart_at i id ids place (omega arith) distinct.0)
    ∙ ap (cond (eqb id at) None) (sym (beside-cons i t ids slots id))

mapped : (f : ℕ → ℕ) (b : Bool) (t : ℕ) (rest : Option ℕ) → cond b (Some (f t)) (option_map f rest) ≡ option_map f (cond b (Some t) rest)
mapped f true t rest = refl
mapped f false t rest = refl

-- other slots
pub beside_map : (f : ℕ → ℕ) (ids slots : List ℕ) (id : ℕ) → length slots ≡ length ids
    → slot_beside ids (map f slots) id ≡ option_map f (slot_beside ids slots id)
beside_map f [] slots id long = refl
beside_map f (i ∷ ids) [] id long = absurd (omega arith)
beside_map f (i ∷ ids) (t ∷ slots) id long =
    beside-cons i (f t) ids (map f slots) id
    ∙ ap (cond (eqb id i) (Some (f t))) (beside_map f ids slots id (omega arith))
    ∙ mapped f (eqb id i) t (slot_beside ids slots id)
    ∙ ap (option_map f) (sym (beside-cons i t ids slots id))

-- ---- ids with their slots

pub named_insert : (ids slots : List ℕ) (id slot : ℕ) (old new : Names) → slot_in old id ≡ None
    → ((other : ℕ) → slot_in new other ≡ cond (eqb other id) (Some slot) (slot_in old other))
    → length new.entries ≡ length old.entries + 1
    → AreNamed ids slots old → AreNamed (ids ++ id ∷ []) (slots ++ slot ∷ []) new
named_insert ids slots id slot old new absent told more named =
    let n = length_push ids id in
    let m = length_push slots slot in
    let long = named.long in
    let count = named.count in
    record {
      long = omega arith;
      count = omega arith;
      beside = λ other. told other ∙ ap (cond (eqb other id) (Some slot)) (named.beside other)
          ∙ sym (beside_push ids slots id slot other named.long (sym (named.beside id) ∙ absent));
    }

length_without : (xs : List ℕ) (place : ℕ) → place < length xs → length (without place xs) + 1 ≡ length xs
length_without xs place within = grind (arith, common_steps)

pub named_remove : (ids slots : List ℕ) (place : ℕ) (old new : Names) → IsDistinct nat_eq ids → place < length ids
    → ((other : ℕ) → slot_in new other ≡ cond (eqb other (slice_index ids place)) None (slot_in old other))
    → length new.entries + 1 ≡ length old.entries
    → AreNamed ids slots old → AreNamed (without place ids) (without place slots) new
named_remove ids slots place old new distinct within told less named =
    let long = named.long in
    let count = named.count in
    let n = length_without ids place within in
    let m = length_without slots place (omega arith) in
    record {
      long = omega arith;
      count = omega arith;
      beside = λ other. told other ∙ ap (cond (eqb other (slice_index ids place)) None) (named.beside other)
          ∙ sym (beside_without ids slots place other named.long distinct within);
    }

pub named_renumber : (f : ℕ → ℕ) (ids slots : List ℕ) (old new : Names)
    → ((other : ℕ) → slot_in new other ≡ option_map f (slot_in old other))
    → length new.entries ≡ length old.entries
    → AreNamed ids slots old → AreNamed ids (map f slots) new
named_renumber f ids slots old new told same named =
    record {
      long = length-map slots f ∙ named.long;
      count = same ∙ named.count;
      beside = λ other. told other ∙ ap (option_map f) (named.beside other) ∙ sym (beside_map f ids slots other named.long);
    }

-- ---- what a look-up says of the lists

either_way : (a b : ℕ) → eqb a b ≡ eqb b a
either_way a b = elim (cases_eq a b) [
  | inl same ↦ eq-eqb a b same ∙ sym (eq-eqb b a (sym same))
  | inr other ↦ ne_eqb a b other ∙ sym (ne_eqb b a (λ e. other (sym e)))
]

-- whether an id is there
beside_among : (ids slots : List ℕ) (id : ℕ) → length slots ≡ length ids → is_some (slot_beside ids slots id) ≡ is_among ids id
beside_among [] slots id long = refl
beside_among (i ∷ ids) [] id long = absurd (omega arith)
beside_among (i ∷ ids) (s ∷ slots) id long =
    ap is_some (beside-cons i s ids slots id) ∙ turned (eqb id i) (slot_beside ids slots id)
    ∙ ap (λ b. b || is_some (slot_beside ids slots id)) (either_way id i)
    ∙ ap (λ b. eqb i id || b) (beside_among ids slots id (omega arith))
  where
    turned : (b : Bool) (rest : Option ℕ) → is_some (cond b (Some s) rest) ≡ (b || is_some rest)
    turned true rest = refl
    turned false rest = refl

pub named_among : (ids slots : List ℕ) (names : Names) (id : ℕ) → AreNamed ids slots names → is_some (slot_in names id) ≡ is_among ids id
named_among ids slots names id named = ap is_some (named.beside id) ∙ beside_among ids slots id named.long

-- a place of two lists
pub record IsBeside (ids slots : List ℕ) (id slot : ℕ) : Type 0 where
  pub place : ℕ
  pub within : place < length ids
  pub id_is : slice_index ids place ≡ id
  pub slot_is : slice_index slots place ≡ slot

beside_place : (ids slots : List ℕ) (id slot : ℕ) → length slots ≡ length ids → slot_beside ids slots id ≡ Some slot → IsBeside ids slots id slot
beside_place [] slots id slot long found = absurd (none-some slot found)
beside_place (i ∷ ids) [] id slot long found = absurd (omega arith)
beside_place (i ∷ ids) (s ∷ slots) id slot long found =
    let there = sym (beside-cons i s ids slots id) ∙ found in
    elim (cases_Bool (eqb id i)) [
      | inl is ↦ record {
        place = 0;
        within = omega arith;
        id_is = sym (eqb-true id i is);
        slot_is = same_Some s slot (sym (cond-true _ _ _ is) ∙ there);
      }
      | inr other ↦ (let rest = beside_place ids slots id slot (omega arith) (sym (cond-false _ _ _ other) ∙ there) in
          let inside = rest.within in
          record {
            place = suc rest.place;
            within = omega arith;
            id_is = rest.id_is;
            slot_is = rest.slot_is;
          })
    ]

-- what is found stands beside the id
pub named_place : (ids slots : List ℕ) (names : Names) (id slot : ℕ) → AreNamed ids slots names → slot_in names id ≡ Some slot
    → IsBeside ids slots id slot
named_place ids slots names id slot named found = beside_place ids slots id slot named.long (sym (named.beside id) ∙ found)

beside_at : (ids slots : List ℕ) (place : ℕ) → length slots ≡ length ids → IsDistinct nat_eq ids → place < length ids
    → slot_beside ids slots (slice_index ids place) ≡ Some (slice_index slots place)
unfolding IsDistinct
beside_at [] slots place long distinct within = absurd (omega arith)
beside_at (i ∷ ids) [] place long distinct within = absurd (omega arith)
beside_at (i ∷ ids) (s ∷ slots) zero long distinct within = beside-cons i s ids slots i ∙ cond-true _ _ _ (eq-eqb i i refl)
beside_at (i ∷ ids) (s ∷ slots) (suc place) long distinct within =
    let id = slice_index ids place in
    let apart : eqb id i ≡ false = either_way id i ∙ All-get_or (λ other. eqb i other ≡ false) ids place 0 (omega arith)
    (All-from_recursion (λ other. eqb i other ≡ false) ids distinct.0) in
    beside-cons i s ids slots id ∙ cond-false _ _ _ apart ∙ beside_at ids slots place (omega arith) distinct.1 (omega arith)

-- what stands beside an id is found
pub named_at : (ids slots : List ℕ) (names : Names) (place : ℕ) → IsDistinct nat_eq ids → AreNamed ids slots names → place < length ids
    → slot_in names (slice_index ids place) ≡ Some (slice_index slots place)
named_at ids slots names place distinct named within =
    named.beside (slice_index ids place) ∙ beside_at ids slots place named.long distinct within

-- ---- slots that are kept by a test, where f gives the id of a slot

beside_filter : (f : ℕ → ℕ) (test : ℕ → Bool) (slots : List ℕ) (id : ℕ) → IsDistinct nat_eq (map f slots)
    → slot_beside (map f (filter test slots)) (filter test slots) id ≡ option_filter test (slot_beside (map f slots) slots id)
unfolding IsDistinct
beside_filter f test [] id distinct = refl
beside_filter f test (s ∷ slots) id distinct =
    let rest = slot_beside (map f slots) slots id in
    let more = beside_filter f test slots id distinct.1 in
    let whole = ap (option_filter test) (sym (beside-cons (f s) s (map f slots) slots id)) in
    elim (cases_Bool (test s)) [
      | inl kept ↦ rw kept (beside-cons (f s) s (map f (filter test slots)) (filter test slots) id
          ∙ ap (cond (eqb id (f s)) (Some s)) more ∙ stays (eqb id (f s)) rest kept ∙ whole)
      | inr gone ↦ rw gone (more ∙ goes (eqb id (f s)) rest gone
          (λ is. ap (slot_beside (map f slots) slots) (eqb-true id (f s) is) ∙ beside_absent (map f slots) slots (f s) (sym (length-map slots f)) distinct.0) ∙ whole)
    ]
  where
    stays : (b : Bool) (rest : Option ℕ) → test s ≡ true → cond b (Some s) (option_filter test rest) ≡ option_filter test (cond b (Some s) rest)
    stays true rest kept = rw kept refl
    stays false rest kept = refl

    goes : (b : Bool) (rest : Option ℕ) → test s ≡ false → (b ≡ true → rest ≡ None) → option_filter test rest ≡ option_filter test (cond b (Some s) rest)
    goes true rest gone none = rw (gone, none refl) refl
    goes false rest gone none = refl

pub named_filter : (f : ℕ → ℕ) (test : ℕ → Bool) (slots : List ℕ) (old new : Names) → IsDistinct nat_eq (map f slots)
    → ((id : ℕ) → slot_in new id ≡ option_filter test (slot_in old id))
    → length new.entries ≡ length (filter test slots)
    → AreNamed (map f slots) slots old → AreNamed (map f (filter test slots)) (filter test slots) new
named_filter f test slots old new distinct told count named =
    let long = length-map (filter test slots) f in
    record {
      long = sym long;
      count = count ∙ sym long;
      beside = λ id. told id ∙ ap (option_filter test) (named.beside id) ∙ sym (beside_filter f test slots id distinct);
    }

-- what stands beside an id has that id
beside_value : (f : ℕ → ℕ) (slots : List ℕ) (id slot : ℕ) → slot_beside (map f slots) slots id ≡ Some slot → f slot ≡ id
beside_value f slots id slot found =
    let at = beside_place (map f slots) slots id slot (sym (length-map slots f)) found in
    let long = length-map slots f in
    let within = at.within in
    ap f (sym at.slot_is) ∙ sym (get_or-map f slots at.place 0 0 (omega arith)) ∙ at.id_is

-- a slot stands beside its id
beside_own : (f : ℕ → ℕ) (slots : List ℕ) (slot : ℕ) → IsDistinct nat_eq (map f slots) → is_among slots slot ≡ true
    → slot_beside (map f slots) slots (f slot) ≡ Some slot
unfolding IsDistinct
beside_own f [] slot distinct among = absurd (false≢true among)
beside_own f (s ∷ slots) slot distinct among = elim (cases_Bool (eqb s slot)) [
  | inl is ↦ (let e = eqb-true s slot is in
      beside-cons (f s) s (map f slots) slots (f slot) ∙ cond-true _ _ _ (eq-eqb (f slot) (f s) (ap f (sym e))) ∙ ap Some e)
  | inr other ↦ (let rest = beside_own f slots slot distinct.1 (sym (ap (λ b. b || is_among slots slot) other) ∙ among) in
      let at = beside_place (map f slots) slots (f slot) slot (sym (length-map slots f)) rest in
      let each = All-get_or (λ x. eqb (f s) x ≡ false) (map f slots) at.place 0 at.within (All-from_recursion (λ x. eqb (f s) x ≡ false) (map f slots) distinct.0) in
      let apart : eqb (f slot) (f s) ≡ false = either_way (f slot) (f s) ∙ ap (eqb (f s)) (sym at.id_is) ∙ each in
      beside-cons (f s) s (map f slots) slots (f slot) ∙ cond-false _ _ _ apart ∙ rest)
]

dropped : (f : ℕ → ℕ) (slot id : ℕ) (found : Option ℕ) → ((s : ℕ) → found ≡ Some s → f s ≡ id) → (id ≡ f slot → found ≡ Some slot)
    → cond (eqb id (f slot)) None found ≡ option_filter (λ s. not (eqb s slot)) found
dropped f slot id None value own = elim (cases_Bool (eqb id (f slot))) [
  | inl is ↦ cond-true _ _ _ is
  | inr other ↦ cond-false _ _ _ other
]
dropped f slot id (Some s) value own = elim (cases_Bool (eqb id (f slot))) [
  | inl is ↦ (let e = same_Some s slot (own (eqb-true id (f slot) is)) in rw (is, eq-eqb s slot e) refl)
  | inr other ↦ (let apart = ne_eqb s slot (λ e. eqb-false id (f slot) other (sym (value s refl) ∙ ap f e)) in rw (other, apart) refl)
]

length_others : (f : ℕ → ℕ) (slot : ℕ) (slots : List ℕ) → AllByRecursion (λ id. eqb (f slot) id ≡ false) (map f slots)
    → length (filter (λ s. not (eqb s slot)) slots) ≡ length slots
length_others f slot [] apart = refl
length_others f slot (s ∷ slots) apart =
    let other : eqb s slot ≡ false = ne_eqb s slot (λ e. eqb-false (f slot) (f s) apart.0 (ap f (sym e))) in
    rw other (ap suc (length_others f slot slots apart.1))

length_dropped : (f : ℕ → ℕ) (slots : List ℕ) (slot : ℕ) → IsDistinct nat_eq (map f slots) → is_among slots slot ≡ true
    → length (filter (λ s. not (eqb s slot)) slots) + 1 ≡ length slots
unfolding IsDistinct
length_dropped f [] slot distinct among = absurd (false≢true among)
length_dropped f (s ∷ slots) slot distinct among = elim (cases_Bool (eqb s slot)) [
  | inl is ↦ (let e = eqb-true s slot is in
      let whole = length_others f slot slots (subst (λ n. AllByRecursion (λ id. eqb (f n) id ≡ false) (map f slots)) e distinct.0) in
      rw is (omega arith))
  | inr other ↦ (let rest = length_dropped f slots slot distinct.1 (sym (ap (λ b. b || is_among slots slot) other) ∙ among) in
      rw other (omega arith))
]

-- the id of one slot goes
pub named_drop : (f : ℕ → ℕ) (slots : List ℕ) (slot : ℕ) (old new : Names) → IsDistinct nat_eq (map f slots) → is_among slots slot ≡ true
    → ((id : ℕ) → slot_in new id ≡ cond (eqb id (f slot)) None (slot_in old id))
    → length new.entries + 1 ≡ length old.entries
    → AreNamed (map f slots) slots old
    → AreNamed (map f (filter (λ s. not (eqb s slot)) slots)) (filter (λ s. not (eqb s slot)) slots) new
named_drop f slots slot old new distinct among told less named =
    let count = named.count in
    let long = length-map slots f in
    let short = length_dropped f slots slot distinct among in
    named_filter f (λ s. not (eqb s slot)) slots old new distinct
    (λ id. told id ∙ dropped f slot id (slot_in old id)
    (λ s e. beside_value f slots id s (sym (named.beside id) ∙ e))
    (λ is. named.beside id ∙ ap (slot_beside (map f slots) slots) is ∙ beside_own f slots slot distinct among))
    (omega arith) named
