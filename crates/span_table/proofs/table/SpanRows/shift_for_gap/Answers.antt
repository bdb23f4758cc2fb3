-- The numbers of the rows are carried.
use Rattle.std.proofs.Common.{◌≡◌, ℕ, true, length, map, get_or, ap, sym, ◌∙◌, arith}
use Rattle.edit_model.proofs.InPlace.{written_over}
use Rattle.slot_ranks.specs.Slots.{is_live}
use Rattle.span_table.specs.Numbers.{opened, shut}
use Rattle.span_table.specs.Table.{Rows, kept_span, seen, spans_of}
use Rattle.span_table.proofs.Changes.{carried_kept, end_shut, rows_carried, start_shut}
use Rattle.span_table.proofs.Lists.{anew_seen}
use Rattle.span_table.proofs.table.SpanRows.shift_for_gap.Goals as goal

pub carry_live-requires-clause-valid : goal.carry_live-requires-clause-valid
carry_live-requires-clause-valid c = λ slot is.
    let gap : c.args.old_gap ≡ c.self.inside.gap = c.requires.gap ∙ sym (ap (λ (r : Rows). r.gap) c.self.view_is) in
    let room : c.args.old_room ≡ c.self.inside.room = c.requires.room ∙ sym (ap (λ (r : Rows). r.room) c.self.view_is) in
    rw (c.deref_mut.ensures.value, gap, room) (start_shut c.self.invariant.rows slot is)

pub carry_live-requires-2-clause-valid : goal.carry_live-requires-2-clause-valid
carry_live-requires-2-clause-valid c = λ slot is.
    let gap : c.args.old_gap ≡ c.self.inside.gap = c.requires.gap ∙ sym (ap (λ (r : Rows). r.gap) c.self.view_is) in
    let room : c.args.old_room ≡ c.self.inside.room = c.requires.room ∙ sym (ap (λ (r : Rows). r.room) c.self.view_is) in
    rw (c.deref_mut-2.ensures.value, gap, room) (end_shut c.self.invariant.rows slot is)

pub invariant_of-self : goal.invariant_of-self
invariant_of-self c =
    let live = c.self.inside.ranks.live in
    let gap : c.args.old_gap ≡ c.self.inside.gap = c.requires.gap ∙ sym (ap (λ (r : Rows). r.gap) c.self.view_is) in
    let room : c.args.old_room ≡ c.self.inside.room = c.requires.room ∙ sym (ap (λ (r : Rows). r.room) c.self.view_is) in
    let starts_long : length c.carry_live.new.numbers ≡ length c.self.inside.starts.items = c.carry_live.auto.numbers ∙ ap length c.deref_mut.ensures.value in
    let ends_long : length c.carry_live-2.new.numbers ≡ length c.self.inside.ends.items = c.carry_live-2.auto.numbers ∙ ap length c.deref_mut-2.ensures.value in
    let from : (slot : ℕ) → is_live live slot ≡ true → get_or c.carry_live.new.numbers slot 0
    ≡ opened c.args.new_gap c.args.new_room (shut c.self.inside.gap c.self.inside.room (get_or c.self.inside.starts.items slot 0)) =
    rw (← gap, ← room, ← c.deref_mut.ensures.value) c.carry_live.ensures in
    let to : (slot : ℕ) → is_live live slot ≡ true → get_or c.carry_live-2.new.numbers slot 0
    ≡ opened c.args.new_gap c.args.new_room (shut c.self.inside.gap c.self.inside.room (get_or c.self.inside.ends.items slot 0)) =
    rw (← gap, ← room, ← c.deref_mut-2.ensures.value) c.carry_live-2.ensures in
    let back_starts = written_over c.self.inside.starts.len c.carry_live.new.numbers c.self.inside.starts.items (omega arith) in
    let back_ends = written_over c.self.inside.ends.len c.carry_live-2.new.numbers c.self.inside.ends.items (omega arith) in
    record {
      rows = rw (back_starts, back_ends) (carried_kept c.self.invariant.rows c.args.new_gap c.args.new_room _ _ from to starts_long ends_long);
      memory = c.self.invariant.memory;
      few = c.self.invariant.few;
      gap_fits = c.ranges.new_gap.fits;
      room_fits = c.ranges.new_room.fits;
    }

pub returns-clause-kept : goal.returns-clause-kept
returns-clause-kept c =
    let live = c.self.inside.ranks.live in
    let gap : c.args.old_gap ≡ c.self.inside.gap = c.requires.gap ∙ sym (ap (λ (r : Rows). r.gap) c.self.view_is) in
    let room : c.args.old_room ≡ c.self.inside.room = c.requires.room ∙ sym (ap (λ (r : Rows). r.room) c.self.view_is) in
    let starts_long : length c.carry_live.new.numbers ≡ length c.self.inside.starts.items = c.carry_live.auto.numbers ∙ ap length c.deref_mut.ensures.value in
    let ends_long : length c.carry_live-2.new.numbers ≡ length c.self.inside.ends.items = c.carry_live-2.auto.numbers ∙ ap length c.deref_mut-2.ensures.value in
    let from : (slot : ℕ) → is_live live slot ≡ true → get_or c.carry_live.new.numbers slot 0
    ≡ opened c.args.new_gap c.args.new_room (shut c.self.inside.gap c.self.inside.room (get_or c.self.inside.starts.items slot 0)) =
    rw (← gap, ← room, ← c.deref_mut.ensures.value) c.carry_live.ensures in
    let to : (slot : ℕ) → is_live live slot ≡ true → get_or c.carry_live-2.new.numbers slot 0
    ≡ opened c.args.new_gap c.args.new_room (shut c.self.inside.gap c.self.inside.room (get_or c.self.inside.ends.items slot 0)) =
    rw (← gap, ← room, ← c.deref_mut-2.ensures.value) c.carry_live-2.ensures in
    let back_starts = written_over c.self.inside.starts.len c.carry_live.new.numbers c.self.inside.starts.items (omega arith) in
    let back_ends = written_over c.self.inside.ends.len c.carry_live-2.new.numbers c.self.inside.ends.items (omega arith) in
    rw (back_starts, back_ends) (rows_carried c.self.invariant.rows c.args.new_gap c.args.new_room _ _ from to
    ∙ ap (λ (r : Rows). map (kept_span c.args.new_gap c.args.new_room) (spans_of r)) c.self.view_is)

pub returns-clause-spans : goal.returns-clause-spans
returns-clause-spans c =
    ap (map (seen c.args.new_gap c.args.new_room)) (returns-clause-kept c) ∙ anew_seen c.args.new_gap c.args.new_room (spans_of c.args.self.now)
