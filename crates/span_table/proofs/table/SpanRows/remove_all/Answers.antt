-- The slots that are left have the rows that they had.
use Rattle.std.proofs.Common.{◌≡◌, ◌≤◌, ◌-◌, ℕ, Bool, true, not, length, map, get_or, ap, sym, subst, ◌∙◌, arith}
use Rattle.std.specs.List.{All, filter}
use Rattle.slot_ranks.specs.Slots.{is_among, line}
use Rattle.slot_ranks.proofs.Below.{live_within}
use Rattle.span_table.specs.Slots.{places, places_without, row_in}
use Rattle.span_table.specs.Table.{Rows, kept_at, no_row, no_span, seen, span_at, spans_of}
use Rattle.span_table.proofs.Lists.{map_both}
use Rattle.span_table.proofs.Places.{among_live}
use Rattle.span_table.proofs.Runs.{filter_short, left_by_places, left_kept}
use Rattle.span_table.proofs.table.SpanRows.remove_all.Goals as goal

pub clear_many-requires : goal.clear_many-requires
clear_many-requires c = λ i d h.
    let live = c.self.inside.ranks.live in
    let all = subst (λ (r : Rows). All (λ slot. is_among r.slots slot ≡ true) c.args.gone.now) (sym c.self.view_is) c.requires in
    live_within live _ (among_live live _ (all i d h))

pub invariant_of-self : goal.invariant_of-self
invariant_of-self c =
    let live = c.self.inside.ranks.live in
    let left = c.clear_many.new.self.live in
    let memory = c.self.invariant.memory in
    let q : ℕ → Bool = λ slot. not (is_among c.args.gone.now slot) in
    let fewer = ap length c.clear_many.ensures.line in
    let short = filter_short q (line live) in
    let long = c.clear_many.ensures.len in
    record {
      rows = left_kept left q c.self.invariant.rows c.clear_many.ensures.len c.clear_many.ensures.line;
      memory = record {
        placed = omega (arith, memory.placed);
        within = omega (arith, memory.within);
        ranked = omega (arith, memory.ranked);
        fixed_room = memory.fixed_room;
        starts_room = memory.starts_room;
        ends_room = memory.ends_room;
      };
      few = c.self.invariant.few;
      gap_fits = c.self.invariant.gap_fits;
      room_fits = c.self.invariant.room_fits;
    }

pub returns-clause-kept : goal.returns-clause-kept
returns-clause-kept c =
    let live = c.self.inside.ranks.live in
    let row = row_in c.self.inside.fixed.items c.self.inside.starts.items c.self.inside.ends.items in
    ap (map row) c.clear_many.ensures.line
    ∙ left_by_places row (λ slot. not (is_among c.args.gone.now slot)) (line live) no_row
    ∙ ap (λ (r : Rows). map (kept_at r.kept) (places_without c.args.gone.now r.slots)) c.self.view_is

pub returns-clause-spans : goal.returns-clause-spans
returns-clause-spans c =
    let live = c.self.inside.ranks.live in
    let row = row_in c.self.inside.fixed.items c.self.inside.starts.items c.self.inside.ends.items in
    let all = seen c.self.inside.gap c.self.inside.room in
    let q : ℕ → Bool = λ slot. not (is_among c.args.gone.now slot) in
    ap (λ slots. map all (map row slots)) c.clear_many.ensures.line
    ∙ sym (map_both all row (filter q (line live)))
    ∙ left_by_places (λ slot. all (row slot)) q (line live) no_span
    ∙ ap (λ spans. map (λ i. get_or spans i no_span) (places_without c.args.gone.now (line live))) (map_both all row (line live))
    ∙ ap (λ (r : Rows). map (span_at (spans_of r)) (places_without c.args.gone.now r.slots)) c.self.view_is

pub returns-clause-spare : goal.returns-clause-spare
returns-clause-spare c =
    let fewer = ap length c.clear_many.ensures.line in
    let short = filter_short (λ slot. not (is_among c.args.gone.now slot)) (line c.self.inside.ranks.live) in
    subst (λ (r : Rows). r.spare ≤ places c.self.inside.reserved - length (line c.clear_many.new.self.live)) c.self.view_is (omega arith)
