-- Where the value has room there are places for the tops.
use Rattle.std.proofs.Common.{length, ap, arith}
use Rattle.std.specs.List.{concat}
use Rattle.std.specs.Vec.{vec_capacity}
use Rattle.span_order.specs.Topped.{ToppedRow}
use Rattle.span_order.proofs.topped.ToppedOrder.reserve.Goals as goal

pub returns-in_err-reserve-clause-within : goal.returns-in_err-reserve-clause-within
returns-in_err-reserve-clause-within c = λ h.
    let count = ap (λ (row : ToppedRow). length (concat row.blocks)) c.self.view_is in
    let spare = ap (λ (row : ToppedRow). row.spare) c.self.view_is in
    let room = c.self.invariant.room in
    let full = c.in_err-reserve.ensures.full in
    let least = c.places_for.ensures.least (vec_capacity c.self.inside.tops) (omega arith) in
    absurd (omega arith)
