-- The numbers of the runs are carried, and the others are the same for both places.
use Rattle.std.proofs.Common.{◌≡◌, ℕ, Bool, true, length, map, get_or, ap, sym, subst, ◌∙◌, arith}
use Rattle.std.specs.List.{filter}
use Rattle.std.specs.List.Sorted.{IsPermutation}
use Rattle.edit_model.proofs.InPlace.{written_over}
use Rattle.slot_ranks.specs.Slots.{is_among, line}
use Rattle.slot_ranks.proofs.Below.{live_within}
use Rattle.span_table.specs.Numbers.{crosses, opened, shut}
use Rattle.span_table.specs.Slots.{IsWritten, crossing}
use Rattle.span_table.specs.Table.{Rows, kept_span, seen, spans_of}
use Rattle.span_table.proofs.Changes.{carried_kept, end_shut, rows_carried, start_shut}
use Rattle.span_table.proofs.Lists.{anew_seen}
use Rattle.span_table.proofs.Places.{among_live}
use Rattle.span_table.proofs.Runs.{all_carried, run_live, run_once, run_passes}
use Rattle.span_table.proofs.table.SpanRows.bring_gap.Goals as goal

pub bring_run-requires-clause-within : goal.bring_run-requires-clause-within
bring_run-requires-clause-within c = λ i d h.
    let live = c.self.inside.ranks.live in
    let p : ℕ → Bool = λ slot. crosses c.self.inside.gap c.args.to c.self.inside.room (get_or c.self.inside.starts.items slot 0) in
    let same : IsPermutation (filter p (line live)) c.args.starts_run.now =
    subst (λ (r : Rows). IsPermutation (crossing r.gap c.args.to r.room r.starts r.slots) c.args.starts_run.now) (sym c.self.view_is) c.requires.starts in
    let below = live_within live _ (run_live live p c.args.starts_run.now same i d h) in
    let long = c.self.invariant.rows.starts_long in
    let value = ap length c.deref_mut.ensures.value in
    omega arith

pub bring_run-requires-clause-once : goal.bring_run-requires-clause-once
bring_run-requires-clause-once c =
    let live = c.self.inside.ranks.live in
    let p : ℕ → Bool = λ slot. crosses c.self.inside.gap c.args.to c.self.inside.room (get_or c.self.inside.starts.items slot 0) in
    let same : IsPermutation (filter p (line live)) c.args.starts_run.now =
    subst (λ (r : Rows). IsPermutation (crossing r.gap c.args.to r.room r.starts r.slots) c.args.starts_run.now) (sym c.self.view_is) c.requires.starts in
    run_once live p c.args.starts_run.now same

pub bring_run-requires-clause-valid : goal.bring_run-requires-clause-valid
bring_run-requires-clause-valid c = λ i d h.
    let live = c.self.inside.ranks.live in
    let p : ℕ → Bool = λ slot. crosses c.self.inside.gap c.args.to c.self.inside.room (get_or c.self.inside.starts.items slot 0) in
    let same : IsPermutation (filter p (line live)) c.args.starts_run.now =
    subst (λ (r : Rows). IsPermutation (crossing r.gap c.args.to r.room r.starts r.slots) c.args.starts_run.now) (sym c.self.view_is) c.requires.starts in
    rw c.deref_mut.ensures.value (start_shut c.self.invariant.rows _ (run_live live p c.args.starts_run.now same i d h))

pub bring_run-requires-clause-between : goal.bring_run-requires-clause-between
bring_run-requires-clause-between c = λ i d h.
    let live = c.self.inside.ranks.live in
    let p : ℕ → Bool = λ slot. crosses c.self.inside.gap c.args.to c.self.inside.room (get_or c.self.inside.starts.items slot 0) in
    let same : IsPermutation (filter p (line live)) c.args.starts_run.now =
    subst (λ (r : Rows). IsPermutation (crossing r.gap c.args.to r.room r.starts r.slots) c.args.starts_run.now) (sym c.self.view_is) c.requires.starts in
    rw c.deref_mut.ensures.value (run_passes live p c.args.starts_run.now same i d h)

pub bring_run-requires-2-clause-within : goal.bring_run-requires-2-clause-within
bring_run-requires-2-clause-within c = λ i d h.
    let live = c.self.inside.ranks.live in
    let p : ℕ → Bool = λ slot. crosses c.self.inside.gap c.args.to c.self.inside.room (get_or c.self.inside.ends.items slot 0) in
    let same : IsPermutation (filter p (line live)) c.args.ends_run.now =
    subst (λ (r : Rows). IsPermutation (crossing r.gap c.args.to r.room r.ends r.slots) c.args.ends_run.now) (sym c.self.view_is) c.requires.ends in
    let below = live_within live _ (run_live live p c.args.ends_run.now same i d h) in
    let long = c.self.invariant.rows.ends_long in
    let value = ap length c.deref_mut-2.ensures.value in
    omega arith

pub bring_run-requires-2-clause-once : goal.bring_run-requires-2-clause-once
bring_run-requires-2-clause-once c =
    let live = c.self.inside.ranks.live in
    let p : ℕ → Bool = λ slot. crosses c.self.inside.gap c.args.to c.self.inside.room (get_or c.self.inside.ends.items slot 0) in
    let same : IsPermutation (filter p (line live)) c.args.ends_run.now =
    subst (λ (r : Rows). IsPermutation (crossing r.gap c.args.to r.room r.ends r.slots) c.args.ends_run.now) (sym c.self.view_is) c.requires.ends in
    run_once live p c.args.ends_run.now same

pub bring_run-requires-2-clause-valid : goal.bring_run-requires-2-clause-valid
bring_run-requires-2-clause-valid c = λ i d h.
    let live = c.self.inside.ranks.live in
    let p : ℕ → Bool = λ slot. crosses c.self.inside.gap c.args.to c.self.inside.room (get_or c.self.inside.ends.items slot 0) in
    let same : IsPermutation (filter p (line live)) c.args.ends_run.now =
    subst (λ (r : Rows). IsPermutation (crossing r.gap c.args.to r.room r.ends r.slots) c.args.ends_run.now) (sym c.self.view_is) c.requires.ends in
    rw c.deref_mut-2.ensures.value (end_shut c.self.invariant.rows _ (run_live live p c.args.ends_run.now same i d h))

pub bring_run-requires-2-clause-between : goal.bring_run-requires-2-clause-between
bring_run-requires-2-clause-between c = λ i d h.
    let live = c.self.inside.ranks.live in
    let p : ℕ → Bool = λ slot. crosses c.self.inside.gap c.args.to c.self.inside.room (get_or c.self.inside.ends.items slot 0) in
    let same : IsPermutation (filter p (line live)) c.args.ends_run.now =
    subst (λ (r : Rows). IsPermutation (crossing r.gap c.args.to r.room r.ends r.slots) c.args.ends_run.now) (sym c.self.view_is) c.requires.ends in
    rw c.deref_mut-2.ensures.value (run_passes live p c.args.ends_run.now same i d h)

pub invariant_of-self : goal.invariant_of-self
invariant_of-self c =
    let live = c.self.inside.ranks.live in
    let starts = c.self.inside.starts.items in
    let ends = c.self.inside.ends.items in
    let gap = c.self.inside.gap in
    let room = c.self.inside.room in
    let starts_long : length c.bring_run.new.numbers ≡ length starts = c.bring_run.auto.numbers ∙ ap length c.deref_mut.ensures.value in
    let ends_long : length c.bring_run-2.new.numbers ≡ length ends = c.bring_run-2.auto.numbers ∙ ap length c.deref_mut-2.ensures.value in
    let back_starts = written_over c.self.inside.starts.len c.bring_run.new.numbers starts (omega arith) in
    let back_ends = written_over c.self.inside.ends.len c.bring_run-2.new.numbers ends (omega arith) in
    let same_starts = subst (λ (r : Rows). IsPermutation (crossing r.gap c.args.to r.room r.starts r.slots) c.args.starts_run.now) (sym c.self.view_is) c.requires.starts in
    let same_ends = subst (λ (r : Rows). IsPermutation (crossing r.gap c.args.to r.room r.ends r.slots) c.args.ends_run.now) (sym c.self.view_is) c.requires.ends in
    let starts_written : IsWritten (λ number. opened c.args.to room (shut gap room number)) c.args.starts_run.now starts c.bring_run.new.numbers =
    rw (← c.deref_mut.ensures.value) c.bring_run.ensures in
    let ends_written : IsWritten (λ number. opened c.args.to room (shut gap room number)) c.args.ends_run.now ends c.bring_run-2.new.numbers =
    rw (← c.deref_mut-2.ensures.value) c.bring_run-2.ensures in
    let from = all_carried gap c.args.to room live c.args.starts_run.now starts c.bring_run.new.numbers same_starts starts_written (start_shut c.self.invariant.rows) in
    let to = all_carried gap c.args.to room live c.args.ends_run.now ends c.bring_run-2.new.numbers same_ends ends_written (end_shut c.self.invariant.rows) in
    record {
      rows = rw (back_starts, back_ends) (carried_kept c.self.invariant.rows c.args.to room _ _ from to starts_long ends_long);
      memory = c.self.invariant.memory;
      few = c.self.invariant.few;
      gap_fits = c.ranges.to.fits;
      room_fits = c.self.invariant.room_fits;
    }

pub returns-clause-kept : goal.returns-clause-kept
returns-clause-kept c =
    let live = c.self.inside.ranks.live in
    let starts = c.self.inside.starts.items in
    let ends = c.self.inside.ends.items in
    let gap = c.self.inside.gap in
    let room = c.self.inside.room in
    let starts_long : length c.bring_run.new.numbers ≡ length starts = c.bring_run.auto.numbers ∙ ap length c.deref_mut.ensures.value in
    let ends_long : length c.bring_run-2.new.numbers ≡ length ends = c.bring_run-2.auto.numbers ∙ ap length c.deref_mut-2.ensures.value in
    let back_starts = written_over c.self.inside.starts.len c.bring_run.new.numbers starts (omega arith) in
    let back_ends = written_over c.self.inside.ends.len c.bring_run-2.new.numbers ends (omega arith) in
    let same_starts = subst (λ (r : Rows). IsPermutation (crossing r.gap c.args.to r.room r.starts r.slots) c.args.starts_run.now) (sym c.self.view_is) c.requires.starts in
    let same_ends = subst (λ (r : Rows). IsPermutation (crossing r.gap c.args.to r.room r.ends r.slots) c.args.ends_run.now) (sym c.self.view_is) c.requires.ends in
    let starts_written : IsWritten (λ number. opened c.args.to room (shut gap room number)) c.args.starts_run.now starts c.bring_run.new.numbers =
    rw (← c.deref_mut.ensures.value) c.bring_run.ensures in
    let ends_written : IsWritten (λ number. opened c.args.to room (shut gap room number)) c.args.ends_run.now ends c.bring_run-2.new.numbers =
    rw (← c.deref_mut-2.ensures.value) c.bring_run-2.ensures in
    let from = all_carried gap c.args.to room live c.args.starts_run.now starts c.bring_run.new.numbers same_starts starts_written (start_shut c.self.invariant.rows) in
    let to = all_carried gap c.args.to room live c.args.ends_run.now ends c.bring_run-2.new.numbers same_ends ends_written (end_shut c.self.invariant.rows) in
    rw (back_starts, back_ends) (rows_carried c.self.invariant.rows c.args.to room _ _ from to
    ∙ ap (λ (r : Rows). map (kept_span c.args.to r.room) (spans_of r)) c.self.view_is)

pub returns-clause-spans : goal.returns-clause-spans
returns-clause-spans c =
    let room = ap (λ (r : Rows). r.room) c.self.view_is in
    ap (map (seen c.args.to c.self.inside.room)) (returns-clause-kept c)
    ∙ ap (λ n. map (seen c.args.to n) (map (kept_span c.args.to c.args.self.now.room) (spans_of c.args.self.now))) room
    ∙ anew_seen c.args.to c.args.self.now.room (spans_of c.args.self.now)

pub returns-clause-starts : goal.returns-clause-starts
returns-clause-starts c =
    let live = c.self.inside.ranks.live in
    let starts = c.self.inside.starts.items in
    let ends = c.self.inside.ends.items in
    let gap = c.self.inside.gap in
    let room = c.self.inside.room in
    let starts_long : length c.bring_run.new.numbers ≡ length starts = c.bring_run.auto.numbers ∙ ap length c.deref_mut.ensures.value in
    let ends_long : length c.bring_run-2.new.numbers ≡ length ends = c.bring_run-2.auto.numbers ∙ ap length c.deref_mut-2.ensures.value in
    let back_starts = written_over c.self.inside.starts.len c.bring_run.new.numbers starts (omega arith) in
    let back_ends = written_over c.self.inside.ends.len c.bring_run-2.new.numbers ends (omega arith) in
    let same_starts = subst (λ (r : Rows). IsPermutation (crossing r.gap c.args.to r.room r.starts r.slots) c.args.starts_run.now) (sym c.self.view_is) c.requires.starts in
    let same_ends = subst (λ (r : Rows). IsPermutation (crossing r.gap c.args.to r.room r.ends r.slots) c.args.ends_run.now) (sym c.self.view_is) c.requires.ends in
    let starts_written : IsWritten (λ number. opened c.args.to room (shut gap room number)) c.args.starts_run.now starts c.bring_run.new.numbers =
    rw (← c.deref_mut.ensures.value) c.bring_run.ensures in
    let ends_written : IsWritten (λ number. opened c.args.to room (shut gap room number)) c.args.ends_run.now ends c.bring_run-2.new.numbers =
    rw (← c.deref_mut-2.ensures.value) c.bring_run-2.ensures in
    let from = all_carried gap c.args.to room live c.args.starts_run.now starts c.bring_run.new.numbers same_starts starts_written (start_shut c.self.invariant.rows) in
    let to = all_carried gap c.args.to room live c.args.ends_run.now ends c.bring_run-2.new.numbers same_ends ends_written (end_shut c.self.invariant.rows) in
    rw back_starts (subst (λ (r : Rows). (slot : ℕ) → is_among r.slots slot ≡ true → get_or c.bring_run.new.numbers slot 0
    ≡ opened c.args.to r.room (shut r.gap r.room (get_or r.starts slot 0))) c.self.view_is (λ slot among. from slot (among_live live slot among)))

pub returns-clause-ends : goal.returns-clause-ends
returns-clause-ends c =
    let live = c.self.inside.ranks.live in
    let starts = c.self.inside.starts.items in
    let ends = c.self.inside.ends.items in
    let gap = c.self.inside.gap in
    let room = c.self.inside.room in
    let starts_long : length c.bring_run.new.numbers ≡ length starts = c.bring_run.auto.numbers ∙ ap length c.deref_mut.ensures.value in
    let ends_long : length c.bring_run-2.new.numbers ≡ length ends = c.bring_run-2.auto.numbers ∙ ap length c.deref_mut-2.ensures.value in
    let back_starts = written_over c.self.inside.starts.len c.bring_run.new.numbers starts (omega arith) in
    let back_ends = written_over c.self.inside.ends.len c.bring_run-2.new.numbers ends (omega arith) in
    let same_starts = subst (λ (r : Rows). IsPermutation (crossing r.gap c.args.to r.room r.starts r.slots) c.args.starts_run.now) (sym c.self.view_is) c.requires.starts in
    let same_ends = subst (λ (r : Rows). IsPermutation (crossing r.gap c.args.to r.room r.ends r.slots) c.args.ends_run.now) (sym c.self.view_is) c.requires.ends in
    let starts_written : IsWritten (λ number. opened c.args.to room (shut gap room number)) c.args.starts_run.now starts c.bring_run.new.numbers =
    rw (← c.deref_mut.ensures.value) c.bring_run.ensures in
    let ends_written : IsWritten (λ number. opened c.args.to room (shut gap room number)) c.args.ends_run.now ends c.bring_run-2.new.numbers =
    rw (← c.deref_mut-2.ensures.value) c.bring_run-2.ensures in
    let from = all_carried gap c.args.to room live c.args.starts_run.now starts c.bring_run.new.numbers same_starts starts_written (start_shut c.self.invariant.rows) in
    let to = all_carried gap c.args.to room live c.args.ends_run.now ends c.bring_run-2.new.numbers same_ends ends_written (end_shut c.self.invariant.rows) in
    rw back_ends (subst (λ (r : Rows). (slot : ℕ) → is_among r.slots slot ≡ true → get_or c.bring_run-2.new.numbers slot 0
    ≡ opened c.args.to r.room (shut r.gap r.room (get_or r.ends slot 0))) c.self.view_is (λ slot among. to slot (among_live live slot among)))
