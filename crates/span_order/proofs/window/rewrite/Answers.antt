-- The pieces stand between the blocks that stay.
use Rattle.std.proofs.Common.{List, ℕ, length, vec_capacity, sym, ap, subst, ◌∙◌, arith}
use Rattle.std.specs.List.{concat}
use Rattle.span_order.specs.Blocks.{Keeps, Packed}
use Rattle.span_order.specs.Window.{all_of, least_piece}
use Rattle.span_order.proofs.Anew.{closed, rewritten_all, rewritten_keeps, rewritten_packed, room_enough}
use Rattle.span_order.proofs.window.rewrite.Goals as goal

pub write_pieces-written-requires-clause-room : goal.write_pieces-written-requires-clause-room
write_pieces-written-requires-clause-room c = λ some.
    omega (
      arith,
      room_enough c.args.blocks.now.items c.args.first c.args.end (length (all_of c.args.run.now)) (vec_capacity c.args.blocks.now)
          c.requires.packed c.requires.order (omega arith) some c.requires.room,
    )

pub returns-clause-all : goal.returns-clause-all
returns-clause-all c =
    let old = c.args.blocks.now.items in
    let all = all_of c.args.run.now in
    let written = c.write_pieces-written.ensures.written in
    let is = c.close.ensures.items
    ∙ closed old c.write_pieces-written.new.blocks.items c.args.first c.args.end all (least_piece (length all)) c.write_pieces-written.result written (omega arith) in
    ap concat is ∙ rewritten_all old written.pieces c.args.first c.args.end all written.are.joined

pub returns-clause-packed : goal.returns-clause-packed
returns-clause-packed c =
    let old = c.args.blocks.now.items in
    let all = all_of c.args.run.now in
    let written = c.write_pieces-written.ensures.written in
    let is = c.close.ensures.items
    ∙ closed old c.write_pieces-written.new.blocks.items c.args.first c.args.end all (least_piece (length all)) c.write_pieces-written.result written (omega arith) in
    subst Packed (sym is)
    (rewritten_packed old written.pieces c.args.first c.args.end all written.are c.requires.packed c.requires.order (omega arith) c.requires.before c.requires.behind)

pub returns-clause-keeps : goal.returns-clause-keeps
returns-clause-keeps c =
    let old = c.args.blocks.now.items in
    let all = all_of c.args.run.now in
    let written = c.write_pieces-written.ensures.written in
    let next = c.write_pieces-written.result.next in
    let is = c.close.ensures.items
    ∙ closed old c.write_pieces-written.new.blocks.items c.args.first c.args.end all (least_piece (length all)) c.write_pieces-written.result written (omega arith) in
    let P : List (List ℕ) → Type 0 = λ new. Keeps old new (record { first = c.args.first; old_end = c.args.end; end = next }) in
    subst P (sym is) (rewritten_keeps old written.pieces c.args.first c.args.end next c.requires.order (omega arith) written.next)
