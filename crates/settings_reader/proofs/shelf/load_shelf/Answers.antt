-- The entries load their watchers one after the other.
use Rattle.std.proofs.Common.{◌∙◌, sym, ap, subst, map, arith}
use Rattle.std.proofs.lemmas.Result.{err_from_is_err_and}
use Rattle.trace_model.specs.Shelves.{loaded_shelf}
use Rattle.settings_reader.proofs.Loads.{IsSoFar, begins, ends, all_seated, goes_on, stops}
use Rattle.settings_reader.proofs.shelf.load_shelf.Goals as goal

pub loop-entry-init : goal.loop-entry-init
loop-entry-init g c =
    let entries = c.as_slice-entry-items.result.now in
    let start = map (λ b. (goal.Watcher-dyn g (b.vtable, b.value)).mind b.value) c.args.shelf.now.items in
    subst (λ slots. IsSoFar entries start slots start 0) (sym c.new-slots.ensures) (begins entries start)

pub returns-in_err-place-clause-minds : goal.returns-in_err-place-clause-minds
returns-in_err-place-clause-minds g c =
    let entries = c.as_slice-entry-items.result.now in
    let start = map (λ b. (goal.Watcher-dyn g (b.vtable, b.value)).mind b.value) c.args.shelf.now.items in
    let minds = map (λ b. (goal.Watcher-dyn g (b.vtable, b.value)).mind b.value) c.loop-entry.shelf.items in
    let stopped = stops entries start c.loop-entry.slots.items minds c.loop-entry.entry-index c.entry-item.result _ c.loop-entry-test.true c.entry-item.is
    c.loop-entry.invariant c.as_slice.result.now c.as_slice.ensures.value (c.in_err-place.ensures.err.1) in
    c.in_err-place.ensures.err.2
    ∙ ap (λ it. it.minds) stopped
    ∙ ap (λ entries. (loaded_shelf entries start).minds) c.as_slice-entry-items.ensures

pub returns-in_err-place-clause-err : goal.returns-in_err-place-clause-err
returns-in_err-place-clause-err g c =
    let entries = c.as_slice-entry-items.result.now in
    let start = map (λ b. (goal.Watcher-dyn g (b.vtable, b.value)).mind b.value) c.args.shelf.now.items in
    let minds = map (λ b. (goal.Watcher-dyn g (b.vtable, b.value)).mind b.value) c.loop-entry.shelf.items in
    let stopped = stops entries start c.loop-entry.slots.items minds c.loop-entry.entry-index c.entry-item.result _ c.loop-entry-test.true c.entry-item.is
    c.loop-entry.invariant c.as_slice.result.now c.as_slice.ensures.value (c.in_err-place.ensures.err.1) in
    let answer = err_from_is_err_and c.from_residual.result c.from_residual.ensures.1 in
    rw answer.1 (
      answer.2 ∙ c.in_err-place.ensures.err.0,
      sym (ap (λ it. it.fits) stopped ∙ ap (λ entries. (loaded_shelf entries start).fits) c.as_slice-entry-items.ensures),
    )

pub loop-entry-preserved : goal.loop-entry-preserved
loop-entry-preserved g c =
    let entries = c.as_slice-entry-items.result.now in
    let start = map (λ b. (goal.Watcher-dyn g (b.vtable, b.value)).mind b.value) c.args.shelf.now.items in
    let minds = map (λ b. (goal.Watcher-dyn g (b.vtable, b.value)).mind b.value) c.loop-entry.shelf.items in
    goes_on entries start c.loop-entry.slots.items minds c.loop-entry.entry-index c.entry-item.result _ c.loop-entry-test.true c.entry-item.is
    c.loop-entry.invariant c.as_slice.result.now c.push.new.self.items c.in_ok-place.place _ c.as_slice.ensures.value c.push.ensures.items
    c.in_ok-place.ensures.ok

pub returns-clause-minds : goal.returns-clause-minds
returns-clause-minds g c =
    let entries = c.as_slice-entry-items.result.now in
    let start = map (λ b. (goal.Watcher-dyn g (b.vtable, b.value)).mind b.value) c.args.shelf.now.items in
    let minds = map (λ b. (goal.Watcher-dyn g (b.vtable, b.value)).mind b.value) c.loop-entry.shelf.items in
    let ended = ends entries start c.loop-entry.slots.items minds c.loop-entry.entry-index (omega (arith, c.loop-entry-test.false)) c.loop-entry.invariant in
    ap (λ it. it.minds) ended ∙ ap (λ entries. (loaded_shelf entries start).minds) c.as_slice-entry-items.ensures

pub returns-clause-ok : goal.returns-clause-ok
returns-clause-ok g c =
    let entries = c.as_slice-entry-items.result.now in
    let start = map (λ b. (goal.Watcher-dyn g (b.vtable, b.value)).mind b.value) c.args.shelf.now.items in
    let minds = map (λ b. (goal.Watcher-dyn g (b.vtable, b.value)).mind b.value) c.loop-entry.shelf.items in
    let ended = ends entries start c.loop-entry.slots.items minds c.loop-entry.entry-index (omega (arith, c.loop-entry-test.false)) c.loop-entry.invariant in (
      sym (ap (λ it. it.fits) ended ∙ ap (λ entries. (loaded_shelf entries start).fits) c.as_slice-entry-items.ensures),
      ap (λ it. it.slots) ended ∙ ap (λ entries. (loaded_shelf entries start).slots) c.as_slice-entry-items.ensures,
    )

pub returns-clause-on_shelf : goal.returns-clause-on_shelf
returns-clause-on_shelf g c =
    let entries = c.as_slice-entry-items.result.now in
    let start = map (λ b. (goal.Watcher-dyn g (b.vtable, b.value)).mind b.value) c.args.shelf.now.items in
    let minds = map (λ b. (goal.Watcher-dyn g (b.vtable, b.value)).mind b.value) c.loop-entry.shelf.items in
    let ended = ends entries start c.loop-entry.slots.items minds c.loop-entry.entry-index (omega (arith, c.loop-entry-test.false)) c.loop-entry.invariant in
    all_seated entries start c.loop-entry.slots.items minds ended
