-- The slots from the first place up to one in this block came.
use Rattle.std.proofs.Common.{◌≡◌, ◌+◌, ◌-◌, ◌≤◌, ◌++◌, length, take, drop, vec_capacity}
use Rattle.std.specs.List.{concat}
use Rattle.span_order.specs.Blocks.{block_at, number_of, start_of}
use Rattle.span_order.proofs.walk.push_between.Given as goal

abbrev pub invariant-loop-block : goal.invariant-loop-block
invariant-loop-block l = record {
  within : l.index ≤ length (block_at l.blocks l.block);
  order : number_of l.blocks l.fn.from ≤ start_of l.blocks l.block + l.index;
  last : l.block ≡ l.to.block → l.index ≤ l.to.index;
  items : l.out.items ≡ l.initial.out.items
      ++ take (start_of l.blocks l.block + l.index - number_of l.blocks l.fn.from) (drop (number_of l.blocks l.fn.from) (concat l.blocks));
  capacity : vec_capacity l.initial.out ≤ vec_capacity l.out;
}
