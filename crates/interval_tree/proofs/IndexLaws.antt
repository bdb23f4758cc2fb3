-- What a row that comes, goes or changes leaves of all that is kept beside the rows.
use Rattle.std.proofs.Common.{◌≡◌, ◌≢◌, ℕ, ◌-◌, ◌<◌, ◌≤◌, Bool, true, false, cond, ltb, List, [], ◌∷◌, ◌++◌, length, map, get_or, take, refl, sym, subst, ap, ◌∙◌, suc, zero, None, Result, Ok, Err, IsOk, arith, add-one, append-nil}
use Rattle.std.specs.List.{All, concat, filter, position, position_or_len, remove}
use Rattle.std.specs.Option.{option_map}
use Rattle.std.specs.Result.{OnOk}
use Rattle.std.proofs.Math.ListN.{set}
use Rattle.std.proofs.lemmas.Bool.Decides.{nat_tests}
use Rattle.std.proofs.lemmas.List.{get_or_append_left, get_or_push, get_or-set_other, get_or-take}
use Rattle.std.proofs.lemmas.List.Edits.{length-remove}
use Rattle.std.proofs.lemmas.List.Elements.{filter-append, filter_passes}
use Rattle.std.proofs.lemmas.List.Sorted.{All-permutation}
use Rattle.edit_model.specs.Attached.{has_id, is_attached}
use Rattle.id_slots.specs.Named.{AreNamed, Names, slot_beside}
use Rattle.row_kinds.specs.Kinds.{Climbs, IsTally, is_other, places_of, slots_where}
use Rattle.row_kinds.proofs.KindChanges.{others_before, slots_count}
use Rattle.row_kinds.proofs.KindSlots.{others_all}
use Rattle.slot_lists.specs.Rising.{Rising}
use Rattle.span_order.specs.Blocks.{Row}
use Rattle.span_order.specs.Topped.{ToppedRow}
use Rattle.span_order.proofs.ToppedLaws.{topped_alike}
use Rattle.span_table.specs.declared.kept.KeptRow.{KeptRow}
use Rattle.span_table.specs.Table.{Rows, kept_at, no_row, seen, without_at}
use Rattle.interval_tree.specs.Ids.{HaveDistinctIds, ids_of}
use Rattle.interval_tree.specs.Orders.{AreOrders}
use Rattle.interval_tree.specs.Whole.{IsWhole}
use Rattle.interval_tree.proofs.IdsAttached.{first_within}
use Rattle.interval_tree.proofs.NamedPlaces.{place_seen}
use Rattle.interval_tree.proofs.OrderLaws.{order_same}

pub at_ok : {T E A : Type 0} (result : Result T E) → OnOk result A → IsOk result → A
at_ok (Ok done) there ok = there
at_ok (Err failed) there ok = absurd (let no = ok in cc)

-- ---- a slot behind all others

pub others_left : (slots : List ℕ) (slot : ℕ) → All (λ other. other < slot) slots → filter (is_other slot) (slots ++ slot ∷ []) ≡ slots
others_left slots slot behind =
    let gone : is_other slot slot ≡ false = grind (arith, nat_tests) in
    filter-append (is_other slot) slots (slot ∷ []) ∙ rw (gone, others_before slot slots behind) (append-nil slots)

-- ---- orders of slots whose numbers stay

pub orders_alike : (starts ends more_starts more_ends slots : List ℕ) (by_start : ToppedRow) (by_end : Row) → AreOrders starts ends slots by_start by_end
    → All (λ s. get_or more_starts s 0 ≡ get_or starts s 0) slots → All (λ s. get_or more_ends s 0 ≡ get_or ends s 0) slots
    → AreOrders more_starts more_ends slots by_start by_end
orders_alike starts ends more_starts more_ends slots by_start by_end old same_starts same_ends = record {
  starting = order_same starts more_starts slots (concat by_start.blocks) old.starting same_starts;
  topped = topped_alike ends more_ends by_start.blocks by_start.tops
      (λ at within. All-permutation (λ s. get_or more_ends s 0 ≡ get_or ends s 0) slots (concat by_start.blocks) old.starting.all same_ends at 0 within)
      old.topped;
  ending = order_same ends more_ends slots (concat by_end.blocks) old.ending same_ends;
}

-- numbers behind the others leave theirs
pub numbers_more : (keys : List ℕ) (key : ℕ) (slots : List ℕ) → All (λ s. s < length keys) slots
    → All (λ s. get_or (keys ++ key ∷ []) s 0 ≡ get_or keys s 0) slots
numbers_more keys key slots within = λ k d below. get_or_append_left keys (key ∷ []) 0 (get_or slots k d) (within k d below)

-- another number of one slot leaves those of the others
pub numbers_set : (keys : List ℕ) (slot key : ℕ) (slots : List ℕ)
    → All (λ s. get_or (set keys slot key) s 0 ≡ get_or keys s 0) (filter (is_other slot) slots)
numbers_set keys slot key slots = λ k d below.
    let s = get_or (filter (is_other slot) slots) k d in
    let passes : is_other slot s ≡ true = filter_passes (is_other slot) slots k d below in
    let other : s ≢ slot = λ same. grind (arith, nat_tests) in
    get_or-set_other keys slot s key 0 other

-- numbers that are cut off behind the slots leave theirs
pub numbers_take : (keys : List ℕ) (n : ℕ) (slots : List ℕ) → All (λ s. s < n) slots → All (λ s. get_or (take n keys) s 0 ≡ get_or keys s 0) slots
numbers_take keys n slots within = λ k d below. get_or-take n keys (get_or slots k d) 0 (within k d below)

-- ---- an id that isn't attached

at_end : {X : Type 0} (p : X → Bool) (xs : List X) → ltb (position_or_len p xs) (length xs) ≡ false → position p xs ≡ None
at_end p xs is = rw is refl

pub named_none : (gap room id : ℕ) (kept : List KeptRow) (slots : List ℕ) → is_attached id (map (seen gap room) kept) ≡ false
    → slot_beside (ids_of kept) slots id ≡ None
named_none gap room id kept slots absent =
    ap (option_map (λ i. get_or slots i 0))
    (place_seen gap room id kept ∙ at_end (has_id id) (map (seen gap room) kept) (first_within (has_id id) (map (seen gap room) kept) ∙ absent))

-- ---- how many there are of a kind

count_few : {X : Type 0} (test : X → Bool) (xs : List X) → length (filter test xs) ≤ length xs
count_few {X = X} test [] = omega arith
count_few {X = X} test (x ∷ xs) = step (test x) (filter test xs) (count_few test xs)
  where
    step : (passes : Bool) (rest : List X) → length rest ≤ length xs → length (cond passes (x ∷ rest) rest) ≤ length (x ∷ xs)
    step true rest few = omega (arith, few)
    step false rest few = omega (arith, few)

pub kind_few : (test : KeptRow → Bool) (kept : List KeptRow) → length (filter test kept) ≤ length kept
kind_few test kept = count_few test kept

pub slots_few : (test : KeptRow → Bool) (kept : List KeptRow) (slots : List ℕ) → length slots ≡ length kept
    → length (slots_where test kept slots) ≤ length kept
slots_few test kept slots long = omega (arith, slots_count test kept slots long, count_few test kept)

-- where one isn't of it there are fewer
pub kind_fewer : (test : KeptRow → Bool) (kept : List KeptRow) (i : ℕ) → i < length kept → test (kept_at kept i) ≡ false
    → length (filter test kept) < length kept
kind_fewer test [] i within fails = absurd (omega (arith, within))
kind_fewer test (row ∷ kept) zero within fails = rw fails (omega (arith, count_few test kept))
kind_fewer test (row ∷ kept) (suc i) within fails = step (test row) (filter test kept) (kind_fewer test kept i (omega (arith, within)) fails)
  where
    step : (passes : Bool) (rest : List KeptRow) → length rest < length kept → length (cond passes (row ∷ rest) rest) < length (row ∷ kept)
    step true rest few = omega (arith, few)
    step false rest few = omega (arith, few)

-- where one is of it there is one
pub kind_some : (test : KeptRow → Bool) (kept : List KeptRow) (i : ℕ) → i < length kept → test (kept_at kept i) ≡ true → 0 < length (filter test kept)
kind_some test [] i within is = absurd (omega (arith, within))
kind_some test (row ∷ kept) zero within is = rw is (omega arith)
kind_some test (row ∷ kept) (suc i) within is = step (test row) (filter test kept) (kind_some test kept i (omega (arith, within)) is)
  where
    step : (passes : Bool) (rest : List KeptRow) → 0 < length rest → 0 < length (cond passes (row ∷ rest) rest)
    step true rest some = omega arith
    step false rest some = some

-- ---- the row that came last

-- the row that is read at the end of a longer list
pub row_added : (kept added : List KeptRow) (row read : KeptRow) (place : ℕ) → added ≡ kept ++ row ∷ [] → place ≡ length kept
    → read ≡ kept_at added place → added ≡ kept ++ read ∷ []
row_added kept added row read place is here reads =
    let same : read ≡ row = reads ∙ ap (λ rows. kept_at rows place) is ∙ get_or_push kept row no_row place (sym here) in
    is ∙ ap (λ other. kept ++ other ∷ []) (sym same)

-- ---- all that is kept beside rows

pub whole_of : (rows : Rows) (names : Names) (by_start : ToppedRow) (by_end : Row) (paragraphs : ℕ) (composing seats : Rising)
    (kept : List KeptRow) (slots : List ℕ) → rows.kept ≡ kept → rows.slots ≡ slots → AreOrders rows.starts rows.ends slots by_start by_end
    → AreNamed (ids_of kept) slots names → HaveDistinctIds kept → IsTally kept slots paragraphs composing.slots seats.slots
    → length kept ≤ places_of composing → length kept ≤ places_of seats → IsWhole rows names by_start by_end paragraphs composing seats
whole_of rows names by_start by_end paragraphs composing seats kept slots is_kept is_slots orders named distinct tally composed seated = record {
  orders = subst (λ s. AreOrders rows.starts rows.ends s by_start by_end) (sym is_slots) orders;
  named = subst (λ s. AreNamed (ids_of rows.kept) s names) (sym is_slots) (subst (λ k. AreNamed (ids_of k) slots names) (sym is_kept) named);
  distinct = subst HaveDistinctIds (sym is_kept) distinct;
  tally = subst (λ s. IsTally rows.kept s paragraphs composing.slots seats.slots) (sym is_slots)
      (subst (λ k. IsTally k slots paragraphs composing.slots seats.slots) (sym is_kept) tally);
  composing_places = subst (λ (k : List KeptRow). length k ≤ places_of composing) (sym is_kept) composed;
  seat_places = subst (λ (k : List KeptRow). length k ≤ places_of seats) (sym is_kept) seated;
}

-- ---- a row that goes

pub slots_without : (slots : List ℕ) (i : ℕ) → Climbs slots → i < length slots → filter (is_other (get_or slots i 0)) slots ≡ remove slots i
slots_without [] i up within = absurd (omega (arith, within))
slots_without (slot ∷ slots) zero up within =
    let gone : is_other slot slot ≡ false = grind (arith, nat_tests) in
    rw gone (others_all slot slots up.0)
slots_without (slot ∷ slots) (suc i) up within =
    let inside : i < length slots = omega (arith, within) in
    let less : slot < get_or slots i 0 = up.0 i 0 inside in
    let stays : is_other (get_or slots i 0) slot ≡ true = grind (arith, nat_tests) in
    rw stays (ap (λ rest. slot ∷ rest) (slots_without slots i up.1 inside))

pub removed_at : {X : Type 0} (i : ℕ) (xs : List X) → without_at i xs ≡ remove xs i
removed_at i xs = rw add-one refl

pub length_without : {X : Type 0} (i : ℕ) (xs : List X) → i < length xs → length (without_at i xs) ≡ length xs - 1
length_without i xs within = ap length (removed_at i xs) ∙ omega (arith, length-remove xs i within)
