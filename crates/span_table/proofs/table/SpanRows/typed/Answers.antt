-- Each number stands for its place pushed.
use Rattle.std.proofs.Common.{◌≤◌, ap, sym, subst, arith}
use Rattle.std.specs.List.{All}
use Rattle.slot_ranks.specs.Slots.{line}
use Rattle.span_table.specs.Slots.{rows_in}
use Rattle.span_table.specs.Table.{HasRoomFor, Rows, spans_of}
use Rattle.span_table.proofs.Lists.{pushed_spans, pushed_all}
use Rattle.span_table.proofs.table.SpanRows.typed.Goals as goal

pub invariant_of-self : goal.invariant_of-self
invariant_of-self c =
    let seen = sym c.self.view_is in
    let gap = ap (λ (r : Rows). r.gap) c.self.view_is in
    let room = ap (λ (r : Rows). r.room) c.self.view_is in
    record {
      rows = record {
        numbers = pushed_all _ _ c.args.units (subst (λ (r : Rows). c.args.units ≤ r.room) seen c.requires.room) (rows_in c.self.inside.fixed.items c.self.inside.starts.items c.self.inside.ends.items (line c.self.inside.ranks.live))
            c.self.invariant.rows.numbers (subst (λ (r : Rows). All (HasRoomFor c.args.units) (spans_of r)) seen c.requires.fits);
        fixed_long = c.self.invariant.rows.fixed_long;
        starts_long = c.self.invariant.rows.starts_long;
        ends_long = c.self.invariant.rows.ends_long;
      };
      memory = c.self.invariant.memory;
      few = c.self.invariant.few;
      gap_fits = omega (arith, gap);
      room_fits = omega (arith, gap, room);
    }

pub returns-clause-spans : goal.returns-clause-spans
returns-clause-spans c =
    let room = subst (λ (r : Rows). c.args.units ≤ r.room) (sym c.self.view_is) c.requires.room in
    rw (← c.self.view_is) (pushed_spans _ _ c.args.units room (rows_in c.self.inside.fixed.items c.self.inside.starts.items c.self.inside.ends.items (line c.self.inside.ranks.live)) c.self.invariant.rows.numbers)
