-- What goes gives its room to what comes.
use Rattle.std.proofs.Common.{◌≡◌, ◌+◌, ℕ, List, length, sym, ap, subst, arith}
use Rattle.std.specs.List.{concat}
use Rattle.span_order.specs.Blocks.{IsPlace, number_of}
use Rattle.span_order.proofs.Numbers.{length_at}
use Rattle.span_order.proofs.Runs.{spliced_long}
use Rattle.span_order.proofs.order.Order.splice.Goals as goal

pub overflow_sub-self : goal.overflow_sub-self
overflow_sub-self c =
    let bs = c.self.inside.blocks.items in
    let from = c.args.from in
    let to = c.args.to in
    let gone = c.count_between-gone.result in
    let Gone : List (List ℕ) → Type 0 = λ xs. number_of xs from + gone ≡ number_of xs to in
    let At : List (List ℕ) → Type 0 = λ xs. IsPlace xs to in
    let same = ap (λ row. row.blocks) c.self.view_is in
    let room = ap (λ row. row.spare) c.self.view_is in
    let between = subst Gone c.deref.ensures.value c.count_between-gone.ensures in
    let place = (subst At (sym same) c.requires.to).index in
    let whole = length_at bs to.block in
    let inv = c.self.invariant in
    let count = inv.count in
    let few = inv.few in
    omega arith

pub overflow_add-self-2 : goal.overflow_add-self-2
overflow_add-self-2 c =
    let bs = c.self.inside.blocks.items in
    let from = c.args.from in
    let to = c.args.to in
    let gone = c.count_between-gone.result in
    let Gone : List (List ℕ) → Type 0 = λ xs. number_of xs from + gone ≡ number_of xs to in
    let At : List (List ℕ) → Type 0 = λ xs. IsPlace xs to in
    let same = ap (λ row. row.blocks) c.self.view_is in
    let room = ap (λ row. row.spare) c.self.view_is in
    let between = subst Gone c.deref.ensures.value c.count_between-gone.ensures in
    let place = (subst At (sym same) c.requires.to).index in
    let whole = length_at bs to.block in
    let inv = c.self.invariant in
    let count = inv.count in
    let few = inv.few in
    omega arith

pub invariant_of-self : goal.invariant_of-self
invariant_of-self c =
    let bs = c.self.inside.blocks.items in
    let from = c.args.from in
    let to = c.args.to in
    let gone = c.count_between-gone.result in
    let Gone : List (List ℕ) → Type 0 = λ xs. number_of xs from + gone ≡ number_of xs to in
    let At : List (List ℕ) → Type 0 = λ xs. IsPlace xs to in
    let same = ap (λ row. row.blocks) c.self.view_is in
    let room = ap (λ row. row.spare) c.self.view_is in
    let between = subst Gone c.deref.ensures.value c.count_between-gone.ensures in
    let place = (subst At (sym same) c.requires.to).index in
    let whole = length_at bs to.block in
    let inv = c.self.invariant in
    let count = inv.count in
    let few = inv.few in
    let new = c.splice_blocks-changed.new.blocks.items in
    let long = spliced_long (concat bs) (concat new) c.args.slots.now (number_of bs from) (number_of bs to) c.splice_blocks-changed.ensures.all (omega arith) (omega arith) in
    let enough = inv.room in
    let capacity = c.splice_blocks-changed.ensures.capacity in
    let asked = c.requires.room in
    let first = ap (λ xs. number_of xs from) same in
    let last = ap (λ xs. number_of xs to) same in
    record { packed = c.splice_blocks-changed.ensures.packed; count = omega arith; few = omega arith; room = omega arith }

pub returns-clause-spare : goal.returns-clause-spare
returns-clause-spare c =
    let bs = c.self.inside.blocks.items in
    let from = c.args.from in
    let to = c.args.to in
    let gone = c.count_between-gone.result in
    let Gone : List (List ℕ) → Type 0 = λ xs. number_of xs from + gone ≡ number_of xs to in
    let At : List (List ℕ) → Type 0 = λ xs. IsPlace xs to in
    let same = ap (λ row. row.blocks) c.self.view_is in
    let room = ap (λ row. row.spare) c.self.view_is in
    let between = subst Gone c.deref.ensures.value c.count_between-gone.ensures in
    let place = (subst At (sym same) c.requires.to).index in
    let whole = length_at bs to.block in
    let inv = c.self.invariant in
    let count = inv.count in
    let few = inv.few in
    let new = c.splice_blocks-changed.new.blocks.items in
    let long = spliced_long (concat bs) (concat new) c.args.slots.now (number_of bs from) (number_of bs to) c.splice_blocks-changed.ensures.all (omega arith) (omega arith) in
    let asked = c.requires.room in
    let first = ap (λ xs. number_of xs from) same in
    let last = ap (λ xs. number_of xs to) same in
    let all = ap (λ xs. length (concat xs)) same in
    omega arith
