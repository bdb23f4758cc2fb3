-- One entry's load.
use Rattle.std.proofs.Common.{◌∙◌, refl, ap}
use Rattle.std.proofs.Math.Seq.{map-set_same}
use Rattle.settings_reader.proofs.Loads.{is_loaded, is_refused}
use Rattle.settings_reader.proofs.shelf.load_next.Goals as goal

pub returns-then-load-clause-ok : goal.returns-then-load-clause-ok
returns-then-load-clause-ok g c =
    is_loaded c.args.shelf.now.items (λ b. (goal.Watcher-dyn g (b.vtable, b.value)).mind b.value) c.args.entry.now c.args.slots.now
    c.deref.result.now c.in-Some.place c.index_mut.result.now c.load.new.watcher _ c.as_slice.result.now
    c.deref.ensures.value c.in-Some.ensures.first c.in-Some.ensures.within c.index_mut.ensures.value c.as_slice.ensures
    (c.load.ensures.loaded c.if-load.true)

pub returns-else-load-clause-err : goal.returns-else-load-clause-err
returns-else-load-clause-err g c = (
  refl,
  is_refused c.args.shelf.now.items (λ b. (goal.Watcher-dyn g (b.vtable, b.value)).mind b.value) c.args.entry.now c.args.slots.now
      c.deref.result.now c.in-Some.place c.index_mut.result.now c.load.new.watcher _ c.as_slice.result.now
      c.deref.ensures.value c.in-Some.ensures.first c.in-Some.ensures.within c.index_mut.ensures.value c.as_slice.ensures
      (c.load.ensures.refused c.if-load.false),
  map-set_same (λ b. (goal.Watcher-dyn g (b.vtable, b.value)).mind b.value) c.args.shelf.now.items c.in-Some.place c.load.new.watcher c.index_mut.result.now
      (c.load.ensures.unchanged c.if-load.false ∙ ap (λ b. (goal.Watcher-dyn g (b.vtable, b.value)).mind b.value) c.index_mut.ensures.value),
)
