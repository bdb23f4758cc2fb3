-- Rows that are kept by slots are kept through each change.
use Rattle.std.proofs.Common.{◌≡◌, ℕ, ◌<◌, ◌≤◌, ◌+◌, Bool, true, List, [], ◌∷◌, ◌++◌, length, map, take, drop, get_or, refl, sym, ap, ◌∙◌, subst, arith}
use Rattle.std.specs.List.{All, range_with_len}
use Rattle.std.proofs.Math.ListN.{set}
use Rattle.std.proofs.lemmas.List.{get_or-map, get_or_default, length-map, length-set, length_push, length-take-le, same_lists}
use Rattle.std.proofs.lemmas.List.FromFn.{get_or-range_with_len, length-range_with_len}
use Rattle.std.proofs.lemmas.List.Elements.{All-append, All-drop, All-push, All-set, All-take}
use Rattle.slot_ranks.specs.Slots.{is_live, line, rank}
use Rattle.slot_ranks.proofs.Below.{line-zero}
use Rattle.slot_ranks.proofs.Laws.{line_push, rank_within_line, ranked_at, slot_at_rank}
use Rattle.span_table.specs.declared.slots.Fixed.{Fixed}
use Rattle.span_table.specs.Numbers.{opened, shut}
use Rattle.span_table.specs.Slots.{AreKept, IsPacked, IsShut, row_in, rows_in}
use Rattle.span_table.specs.Table.{AreNumbers, kept_span, no_row, seen, without_at}
use Rattle.span_table.proofs.Ends.{number_shut}
use Rattle.span_table.proofs.Lists.{anew_valid, map_both}
use Rattle.span_table.proofs.Places.{maps_meet, row_carried, row_end, row_same, row_start, row_there, rows_cut, rows_long, rows_pushed, rows_set, rows_without, slot_below}

pub none_live : (live : List Bool) → live ≡ [] → line live ≡ []
none_live live none = ap line none ∙ line-zero []

pub none_kept : (gap room : ℕ) (fixed : List Fixed) (starts ends : List ℕ) (live : List Bool) → fixed ≡ [] → starts ≡ [] → ends ≡ [] → live ≡ []
    → AreKept gap room fixed starts ends live
none_kept gap room fixed starts ends live parts from to none =
    let P : List ℕ → Type 0 = λ slots. All (AreNumbers gap room) (rows_in fixed starts ends slots) in
    record {
      numbers = subst P (sym (none_live live none)) (λ k d h. absurd (omega arith));
      fixed_long = rw (parts, none) refl;
      starts_long = rw (from, none) refl;
      ends_long = rw (to, none) refl;
    }

module _ {gap room : ℕ} {fixed : List Fixed} {starts ends : List ℕ} {live : List Bool} (kept : AreKept gap room fixed starts ends live) where
  -- the row in a slot has numbers
  pub numbers_in : (slot : ℕ) → is_live live slot ≡ true → AreNumbers gap room (row_in fixed starts ends slot)
  numbers_in slot is =
      let within = rank_within_line live slot is in
      let long = rows_long fixed starts ends live in
      let there = row_there fixed starts ends live (rank live slot) no_row within ∙ ap (row_in fixed starts ends) (slot_at_rank live slot is) in
      subst (AreNumbers gap room) there (kept.numbers (rank live slot) no_row (omega arith))

  pub start_shut : (slot : ℕ) → is_live live slot ≡ true → IsShut gap room (get_or starts slot 0)
  start_shut slot is = subst (IsShut gap room) (row_start fixed starts ends slot) (number_shut gap room _ _ (numbers_in slot is).start)

  pub end_shut : (slot : ℕ) → is_live live slot ≡ true → IsShut gap room (get_or ends slot 0)
  end_shut slot is = subst (IsShut gap room) (row_end fixed starts ends slot) (number_shut gap room _ _ (numbers_in slot is).end)

  pub set_kept : (slot : ℕ) (part : Fixed) (start end : ℕ) → is_live live slot ≡ true
      → AreNumbers gap room (record { id = part.id; flags = part.flags; start = start; end = end; what = part.what })
      → AreKept gap room (set fixed slot part) (set starts slot start) (set ends slot end) live
  set_kept slot part start end is valid = record {
    numbers = subst (All (AreNumbers gap room)) (sym (rows_set fixed starts ends live slot part start end is kept.fixed_long kept.starts_long kept.ends_long))
        (All-set (AreNumbers gap room) (rows_in fixed starts ends (line live)) (rank live slot) _ valid kept.numbers);
    fixed_long = length-set fixed slot part ∙ kept.fixed_long;
    starts_long = length-set starts slot start ∙ kept.starts_long;
    ends_long = length-set ends slot end ∙ kept.ends_long;
  }

  pub pushed_kept : (part : Fixed) (start end : ℕ)
      → AreNumbers gap room (record { id = part.id; flags = part.flags; start = start; end = end; what = part.what })
      → AreKept gap room (fixed ++ part ∷ []) (starts ++ start ∷ []) (ends ++ end ∷ []) (live ++ true ∷ [])
  pushed_kept part start end valid =
      let rows = ap (rows_in (fixed ++ part ∷ []) (starts ++ start ∷ []) (ends ++ end ∷ [])) (line_push live)
      ∙ rows_pushed fixed starts ends live part start end kept.fixed_long kept.starts_long kept.ends_long in
      let long = length_push live true in
      record {
        numbers = subst (All (AreNumbers gap room)) (sym rows) (All-push (AreNumbers gap room) _ _ kept.numbers valid);
        fixed_long = length_push fixed part ∙ ap (λ n. n + 1) kept.fixed_long ∙ sym long;
        starts_long = length_push starts start ∙ ap (λ n. n + 1) kept.starts_long ∙ sym long;
        ends_long = length_push ends end ∙ ap (λ n. n + 1) kept.ends_long ∙ sym long;
      }

  -- the rows but one, where what is behind all others is cut
  pub rows_removed : (i n : ℕ) (left : List Bool) → length left ≡ n → line left ≡ without_at i (line live)
      → rows_in (take n fixed) (take n starts) (take n ends) (line left) ≡ without_at i (rows_in fixed starts ends (line live))
  rows_removed i n left long slots =
      rows_cut fixed starts ends left (line left) n (λ k h. let below = slot_below fixed starts ends left k h in omega arith)
      ∙ ap (rows_in fixed starts ends) slots ∙ rows_without fixed starts ends live i

  pub removed_kept : (i n : ℕ) (left : List Bool) → length left ≡ n → n ≤ length live → line left ≡ without_at i (line live)
      → AreKept gap room (take n fixed) (take n starts) (take n ends) left
  removed_kept i n left long within slots =
      let f = kept.fixed_long in
      let s = kept.starts_long in
      let e = kept.ends_long in
      let rows = rows_in fixed starts ends (line live) in
      record {
        numbers = subst (All (AreNumbers gap room)) (sym (rows_removed i n left long slots))
            (All-append (AreNumbers gap room) (take i rows) (drop (i + 1) rows) (All-take (AreNumbers gap room) i rows kept.numbers)
            (All-drop (AreNumbers gap room) (i + 1) rows kept.numbers));
        fixed_long = length-take-le n fixed (omega arith) ∙ sym long;
        starts_long = length-take-le n starts (omega arith) ∙ sym long;
        ends_long = length-take-le n ends (omega arith) ∙ sym long;
      }

  -- ---- another gap

  module _ (new_gap new_room : ℕ) (new_starts new_ends : List ℕ)
      (from : (slot : ℕ) → is_live live slot ≡ true → get_or new_starts slot 0 ≡ opened new_gap new_room (shut gap room (get_or starts slot 0)))
      (to : (slot : ℕ) → is_live live slot ≡ true → get_or new_ends slot 0 ≡ opened new_gap new_room (shut gap room (get_or ends slot 0))) where
    pub rows_carried : rows_in fixed new_starts new_ends (line live)
        ≡ map (kept_span new_gap new_room) (map (seen gap room) (rows_in fixed starts ends (line live)))
    rows_carried =
        maps_meet (λ slot. kept_span new_gap new_room (seen gap room (row_in fixed starts ends slot))) (row_in fixed new_starts new_ends)
        (line live) (line live) refl (λ i h.
        let is = (ranked_at live i h).is in
        row_carried fixed starts ends new_starts new_ends (get_or (line live) i 0) gap room new_gap new_room (numbers_in _ is) (from _ is) (to _ is))
        ∙ map_both (λ row. kept_span new_gap new_room (seen gap room row)) (row_in fixed starts ends) (line live)
        ∙ map_both (kept_span new_gap new_room) (seen gap room) (rows_in fixed starts ends (line live))

    pub carried_kept : length new_starts ≡ length starts → length new_ends ≡ length ends → AreKept new_gap new_room fixed new_starts new_ends live
    carried_kept starts_same ends_same = record {
      numbers = subst (All (AreNumbers new_gap new_room)) (sym rows_carried)
          (anew_valid gap room new_gap new_room (rows_in fixed starts ends (line live)) kept.numbers);
      fixed_long = kept.fixed_long;
      starts_long = starts_same ∙ kept.starts_long;
      ends_long = ends_same ∙ kept.ends_long;
    }

-- ---- rows that are packed

pub picked : (slots old new : List ℕ) → IsPacked slots old new → new ≡ map (λ slot. get_or old slot 0) slots
picked slots old new packed =
    let long = packed.long in
    let longs = length-map slots (λ slot. get_or old slot 0) in
    same_lists new (map (λ slot. get_or old slot 0) slots) (packed.long ∙ sym longs) (λ i d h.
    let within : i < length slots = omega arith in
    get_or_default new i d 0 h ∙ packed.each i 0 within ∙ sym (get_or-map (λ slot. get_or old slot 0) slots i 0 d within))

module _ (fixed new_fixed : List Fixed) (starts ends new_starts new_ends : List ℕ) (slots : List ℕ) (parts : IsPacked slots fixed new_fixed)
    (from : IsPacked slots starts new_starts) (to : IsPacked slots ends new_ends) where
  pub rows_packed : rows_in new_fixed new_starts new_ends (range_with_len 0 (length slots)) ≡ rows_in fixed starts ends slots
  rows_packed =
      maps_meet (row_in fixed starts ends) (row_in new_fixed new_starts new_ends) slots (range_with_len 0 (length slots))
      (length-range_with_len 0 (length slots)) (λ i h.
      let at : get_or (range_with_len 0 (length slots)) i 0 ≡ i = get_or-range_with_len 0 (length slots) i 0 h ∙ (let e : 0 + i ≡ i = omega arith in e) in
      ap (row_in new_fixed new_starts new_ends) at
      ∙ row_same _ _ _ _ _ _ i (get_or slots i 0) (parts.each i _ h) (from.each i 0 h) (to.each i 0 h))

  pub packed_kept : (gap room : ℕ) (live : List Bool) → line live ≡ range_with_len 0 (length slots) → length live ≡ length slots
      → All (AreNumbers gap room) (rows_in fixed starts ends slots) → AreKept gap room new_fixed new_starts new_ends live
  packed_kept gap room live whole long valid = record {
    numbers = subst (All (AreNumbers gap room)) (sym (ap (rows_in new_fixed new_starts new_ends) whole ∙ rows_packed)) valid;
    fixed_long = parts.long ∙ sym long;
    starts_long = from.long ∙ sym long;
    ends_long = to.long ∙ sym long;
  }
