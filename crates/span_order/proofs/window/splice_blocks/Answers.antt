-- What stands before the window and behind it stays.
use Rattle.std.proofs.Common.{◌++◌, List, ℕ, length, take, drop, ap, subst, ◌∙◌, arith, append_assoc, length-append, length-drop}
use Rattle.std.specs.List.{concat}
use Rattle.std.proofs.lemmas.List.{length-take-le}
use Rattle.span_order.specs.Blocks.{number_of}
use Rattle.span_order.specs.Window.{IsWindow}
use Rattle.span_order.proofs.Numbers.{length_at, numbers_rise}
use Rattle.span_order.proofs.Anew.{window_size}
use Rattle.span_order.proofs.window.splice_blocks.Goals as goal

pub rewrite-requires-clause-room : goal.rewrite-requires-clause-room
rewrite-requires-clause-room c =
    let bs = c.args.blocks.now.items in
    let from = c.args.from in
    let to = c.args.to in
    let last = c.window_around-window.result in
    let P : List (List ℕ) → Type 0 = λ xs. IsWindow xs (take (number_of xs from) (concat xs)) (drop (number_of xs to) (concat xs)) last in
    let w = subst P c.deref-2.ensures.value c.window_around-window.ensures.is in
    let rise = numbers_rise bs from.block from.index to.block to.index c.requires.order c.requires.same c.requires.to.block c.requires.from.index in
    let within = length_at bs to.block in
    let inside = c.requires.to.index in
    let front = length-take-le (number_of bs from) (concat bs) (omega arith) in
    let back = length-drop (number_of bs to) (concat bs) in
    let head = ap length c.as_slice.ensures.slots in
    let tail = ap length c.as_slice-2.ensures.slots in
    let size = window_size bs (take (number_of bs from) (concat bs)) (drop (number_of bs to) (concat bs)) last w in
    let slots = length-append c.args.slots.now c.as_slice-2.result.now in
    let all = length-append c.as_slice.result.now (c.args.slots.now ++ c.as_slice-2.result.now) in
    let room = c.requires.room in
    omega arith

pub returns-clause-all : goal.returns-clause-all
returns-clause-all c =
    let from = c.args.from in
    let to = c.args.to in
    let last = c.window_around-window.result in
    let P : List (List ℕ) → Type 0 = λ xs. IsWindow xs (take (number_of xs from) (concat xs)) (drop (number_of xs to) (concat xs)) last in
    let w = subst P c.deref-2.ensures.value c.window_around-window.ensures.is in
    c.rewrite.ensures.all ∙ rw (c.as_slice.ensures.slots, c.as_slice-2.ensures.slots, w.front, w.back) (simp append_assoc)
