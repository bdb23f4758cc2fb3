-- The state is the one replaced, which is well formed and seated as before.
use Rattle.std.proofs.Common.{◌≡◌, ◌≤◌, ◌+◌, ◌-◌, rules, ap, refl, ◌∙◌, length, pos, arith}
use Rattle.edit_base.specs.declared.bounds.TheConstants.Limits.{SPANS}
use Rattle.edit_model.specs.declared.steps.Step.TheVariants as step
use Rattle.edit_model.specs.Replaced.{replaced}
use Rattle.edit_model.specs.Verdicts.{judged}
use Rattle.edit_model.specs.Changed.{stepped}
use Rattle.edit_model.specs.Rows.{spans_in}
use Rattle.edit_model.proofs.EditedStates.{well_formed-stepped, seated-stepped}
use Rattle.edit_model.proofs.Splices.{length-spliced}
use Rattle.span_table.specs.Table.{spans_of}
use Rattle.text_cut.specs.Coming.{all_coming}
use Rattle.replace_engine.specs.declared.exchanging.Exchange.{Exchange}
use Rattle.span_changes.specs.Changes.{effect_of}
use Rattle.replace_engine.specs.Exchange.{comes}
use Rattle.span_changes.specs.Rows.{state_with}
use Rattle.replace_engine.proofs.Exchanged.{few_come}
use Rattle.span_changes.proofs.Lists.{on_err, same_seen}
use Rattle.span_changes.proofs.MovedLaws.{still_tells}
use Rattle.replace_engine.proofs.Sound.{formed_as, room_kept, seated_as, told_still}
use Rattle.span_changes.proofs.Spans.{effect_from}
use Rattle.replace_engine.proofs.text.SpannedText.exchange.Given as given
use Rattle.replace_engine.proofs.text.SpannedText.exchange.Goals as goal

-- room for more rows changes neither the state nor what is told
pub returns-in_err-reserve-2-clause-err : goal.returns-in_err-reserve-2-clause-err
returns-in_err-reserve-2-clause-err g c =
    let same = c.reserve-2.ensures in
    let still = same.still in
    let spans = same_seen c.reserve-2.new.self.moved.rows c.self.inside.change.moved.rows same.rows still.gap still.room in
    on_err c.from_residual-in_err-reserve-2.result (
      rw (c.reserve.ensures.units, spans) (ap (λ seen. seen.state) c.self.view_is),
      effect_from _ _ _ (effect_of c.self.inside.change) same.start same.old_end same.grown (ap spans_in same.removed)
          (still_tells c.self.inside.change.moved c.reserve-2.new.self.moved still.before still.told spans) (ap spans_in same.added)
          ∙ ap (λ seen. seen.effect) c.self.view_is,
      c.reserve.ensures.gap ∙ ap (λ seen. seen.gap) c.self.view_is,
    )

-- nor what holds of every text
pub invariant_of-self-in_err-reserve-2 : goal.invariant_of-self-in_err-reserve-2
invariant_of-self-in_err-reserve-2 g c =
    let same = c.reserve-2.ensures in
    let still = same.still in
    let spans = same_seen c.reserve-2.new.self.moved.rows c.self.inside.change.moved.rows same.rows still.gap still.room in
    record {
      formed = rw (c.reserve.ensures.units, spans) c.self.invariant.formed;
      room = room_kept c.self.inside.change c.reserve-2.new.self _ _ _ _ (omega (arith, ap length same.rows)) same.touched same.room c.self.invariant.room;
      told = told_still c.self.inside.change c.reserve-2.new.self same.rows still same.added c.self.invariant.told;
      place = omega (arith, still.gap, c.reserve.ensures.gap, c.self.invariant.place);
      width = omega (arith, still.room, ap length c.reserve.ensures.units, c.self.invariant.width);
    }

-- what is asked for, and that no more spans come than there is room for
module _ (g : given.Over) (c : goal.After-exchange_spans-arg-3-1 g) where
  asked : Exchange
  asked = record { text = c.halves_of.result; start = c.args.start; end = c.args.end; brought = c.as_slice.result; coming = c.coming_with-coming.result }

  spans : spans_of c.reserve-2.new.self.moved.rows ≡ spans_of c.self.inside.change.moved.rows
  spans =
      let still = c.reserve-2.ensures.still in
      same_seen c.reserve-2.new.self.moved.rows c.self.inside.change.moved.rows c.reserve-2.ensures.rows still.gap still.room

  few : (length (comes asked (spans_of c.reserve-2.new.self.moved.rows)) ≤ length (all_coming asked.coming))
      × (length (comes asked (spans_of c.reserve-2.new.self.moved.rows)) ≤ SPANS)
  unfolding asked
  few = few_come c.args.self.now.state c.args.start c.args.end c.args.incoming.now asked (spans_of c.reserve-2.new.self.moved.rows)
      (rw (c.halves_of.ensures.joined, c.reserve.ensures.units, spans) (ap (λ seen. seen.state) c.self.view_is))
      c.as_slice.ensures refl refl c.coming_with-coming.ensures.coming c.requires.few

pub exchange_spans-requires-clause-spare : goal.exchange_spans-requires-clause-spare
unfolding asked
exchange_spans-requires-clause-spare g c =
    let come = few g c in omega (arith, come.0, come.1, c.in_ok-reserve-2.ensures.spare, c.min-most.ensures, c.len-2.ensures)

pub exchange_spans-requires-clause-added : goal.exchange_spans-requires-clause-added
unfolding asked
exchange_spans-requires-clause-added g c =
    let come = few g c in omega (arith, come.0, come.1, c.in_ok-reserve-2.ensures.ok.added, c.min-most.ensures, c.len-2.ensures)

after : (g : given.Over) (c : goal.After-replace g) → state_with c.replace.new.self.units c.exchange_spans.new.change.moved.rows
    ≡ replaced c.args.self.now.state c.args.start c.args.end c.args.incoming.now
after g c = search rules

pub returns-clause-well_formed : goal.returns-clause-well_formed
unfolding stepped
returns-clause-well_formed g c =
    formed_as (replaced c.args.self.now.state c.args.start c.args.end c.args.incoming.now) _ c.exchange_spans.new.change.moved.rows
    (ap (λ state. state.units) (after g c))
    (ap (λ state. state.spans) (after g c))
    (well_formed-stepped c.args.self.now.state 0
    (step.Replace (pos c.args.start) (pos c.args.end) c.args.incoming.now) c.requires.done c.requires.brought.ordered
    (rw (← ap (λ seen. seen.state) c.self.view_is) c.self.invariant.formed))

pub returns-clause-seated : goal.returns-clause-seated
unfolding stepped judged
returns-clause-seated g c = λ slots seated.
    seated_as slots _ _ (ap (λ state. state.spans) (after g c))
    (seated-stepped c.args.self.now.state slots (step.Replace (pos c.args.start) (pos c.args.end) c.args.incoming.now) c.requires.done seated)

module _ (g : given.Over) (c : goal.After-replace g) where
  asked_then : Exchange
  asked_then =
      record { text = c.halves_of.result; start = c.args.start; end = c.args.end; brought = c.as_slice.result; coming = c.coming_with-coming.result }

  -- no more rows stand than stood and as many as there is room for
  within : length c.exchange_spans.new.change.moved.rows.kept ≤ length c.self.inside.change.moved.rows.kept + c.min-most.result
  unfolding asked_then
  within =
      let still = c.reserve-2.ensures.still in
      let spans = same_seen c.reserve-2.new.self.moved.rows c.self.inside.change.moved.rows c.reserve-2.ensures.rows still.gap still.room in
      let come = few_come c.args.self.now.state c.args.start c.args.end c.args.incoming.now asked_then (spans_of c.reserve-2.new.self.moved.rows)
      (rw (c.halves_of.ensures.joined, c.reserve.ensures.units, spans) (ap (λ seen. seen.state) c.self.view_is))
      c.as_slice.ensures refl refl c.coming_with-coming.ensures.coming c.requires.few in
      omega (arith, come.0, come.1, c.exchange_spans.ensures.count, ap length c.reserve-2.ensures.rows, c.min-most.ensures, c.len-2.ensures)

  -- the units that stand then
  long : length c.replace.new.self.units + (c.args.end - c.args.start) ≡ length c.self.inside.units.units + length c.args.incoming.now.units
  long =
      let now = ap (λ seen. length seen.state.units) c.self.view_is in
      omega (
        arith,
        now,
        ap (λ state. length state.units) (after g c),
        length-spliced c.args.self.now.state.units c.args.start c.args.end c.args.incoming.now.units c.requires.order c.requires.within,
        c.requires.order,
        c.requires.within,
      )

pub invariant_of-self-2 : goal.invariant_of-self-2
invariant_of-self-2 g c = record {
  formed = returns-clause-well_formed g c;
  room = room_kept c.reserve-2.new.self c.exchange_spans.new.change _ _ _ _ (within g c) c.exchange_spans.ensures.touched c.exchange_spans.ensures.lists
      c.in_ok-reserve-2.ensures.ok;
  told = c.exchange_spans.ensures.tells;
  place = search rules;
  width = omega (
    arith,
    long g c,
    c.exchange_spans.ensures.gap_room,
    c.reserve-2.ensures.still.room,
    c.self.invariant.width,
    ap length c.as_slice.ensures,
    c.requires.order,
    c.requires.within,
    ap (λ seen. length seen.state.units) c.self.view_is,
  );
}
