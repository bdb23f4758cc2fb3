-- Each number stands for its place drawn back.
use Rattle.std.proofs.Common.{◌≤◌, ap, sym, subst, arith}
use Rattle.std.specs.List.{All}
use Rattle.slot_ranks.specs.Slots.{line}
use Rattle.span_table.specs.Slots.{rows_in}
use Rattle.span_table.specs.Table.{IsClearOf, Rows, spans_of}
use Rattle.span_table.proofs.Lists.{closed_spans, closed_all}
use Rattle.span_table.proofs.table.SpanRows.closed.Goals as goal

pub invariant_of-self : goal.invariant_of-self
invariant_of-self c =
    let seen = sym c.self.view_is in
    let gap = ap (λ (r : Rows). r.gap) c.self.view_is in
    let room = ap (λ (r : Rows). r.room) c.self.view_is in
    record {
      rows = record {
        numbers = closed_all c.args.start _ _ (subst (λ (r : Rows). c.args.start ≤ r.gap) seen c.requires.order) (rows_in c.self.inside.fixed.items c.self.inside.starts.items c.self.inside.ends.items (line c.self.inside.ranks.live))
            c.self.invariant.rows.numbers (subst (λ (r : Rows). All (IsClearOf c.args.start r.gap) (spans_of r)) seen c.requires.clear);
        fixed_long = c.self.invariant.rows.fixed_long;
        starts_long = c.self.invariant.rows.starts_long;
        ends_long = c.self.invariant.rows.ends_long;
      };
      memory = c.self.invariant.memory;
      few = c.self.invariant.few;
      gap_fits = omega (arith, gap);
      room_fits = omega (arith, gap, room);
    }

pub returns-clause-spans : goal.returns-clause-spans
returns-clause-spans c =
    let seen = sym c.self.view_is in
    let order = subst (λ (r : Rows). c.args.start ≤ r.gap) seen c.requires.order in
    let clear = subst (λ (r : Rows). All (IsClearOf c.args.start r.gap) (spans_of r)) seen c.requires.clear in
    rw (← c.self.view_is) (closed_spans c.args.start _ _ order (rows_in c.self.inside.fixed.items c.self.inside.starts.items c.self.inside.ends.items (line c.self.inside.ranks.live)) c.self.invariant.rows.numbers clear)
