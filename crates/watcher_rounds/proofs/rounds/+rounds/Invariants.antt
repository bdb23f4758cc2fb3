-- How much deeper answers may go, and what the loops over watchers and over the edits of an answer have come to.
use Rattle.std.proofs.Common.{ℕ, ◌≡◌, ◌+◌, ◌-◌, ◌*◌, [], map, take, drop}
use Rattle.edit_model.specs.Machine.{tell_after, rest_of}
use Rattle.watcher_rounds.specs.Rounds.{setup_of, stands, tell_one, MayRun, TakesLast, Led}
use Rattle.watcher_rounds.proofs.rounds.+rounds.Given as goal

-- five functions a depth
abbrev deeper : ℕ → ℕ → ℕ → ℕ
deeper limit depth step = 5 * (limit + 1 - depth) + step

abbrev pub decreases-do_answer : goal.decreases-do_answer
decreases-do_answer g l = deeper l.round.now.depth l.depth 4

abbrev pub decreases-do_edit : goal.decreases-do_edit
decreases-do_edit g l = deeper l.round.now.depth l.depth 3

abbrev pub decreases-set_off : goal.decreases-set_off
decreases-set_off g l = deeper l.round.now.depth l.depth 2

abbrev pub decreases-ask_all : goal.decreases-ask_all
decreases-ask_all g l = deeper l.round.now.depth l.event.now.depth 1

abbrev pub decreases-ask_one : goal.decreases-ask_one
decreases-ask_one g l = deeper l.round.now.depth l.event.now.depth 0

abbrev pub decreases-ask_of_spans : goal.decreases-ask_of_spans
decreases-ask_of_spans g l = deeper l.round.now.depth l.depth 1

abbrev pub decreases-ask_of_span : goal.decreases-ask_of_span
decreases-ask_of_span g l = deeper l.round.now.depth l.callback.now.event.depth 0

abbrev pub invariant-ask_all-loop-slot : goal.invariant-ask_all-loop-slot
invariant-ask_all-loop-slot g l = record {
  led : Led (TakesLast g.F.Follower.takes) (setup_of l.round) (map (λ slot. tell_after slot l.event) (take l.slot-index l.slots)) []
      (stands l.initial.text.state (g.S.Shelf.minds l.initial.shelf) l.initial.log.items l.initial.spent)
      (stands l.text.state (g.S.Shelf.minds l.shelf) l.log.items l.spent)
      (l.initial.follower, l.initial.text.effect) (l.follower, l.text.effect);
  ready : MayRun l.round.slots.now.items l.text.state (g.S.Shelf.minds l.shelf) l.spent;
  followed : g.F.Follower.follows l.follower l.text.state;
  layout_ground : g.F.Follower.layout_ground l.follower ≡ g.F.Follower.layout_ground l.initial.follower;
}

abbrev pub invariant-ask_of_spans-loop-callback : goal.invariant-ask_of_spans-loop-callback
invariant-ask_of_spans-loop-callback g l = record {
  led : Led (TakesLast g.F.Follower.takes) (setup_of l.round) (map tell_one (take l.callback-index l.told)) []
      (stands l.initial.text.state (g.S.Shelf.minds l.initial.shelf) l.initial.log.items l.initial.spent)
      (stands l.text.state (g.S.Shelf.minds l.shelf) l.log.items l.spent)
      (l.initial.follower, l.initial.text.effect) (l.follower, l.text.effect);
  ready : MayRun l.round.slots.now.items l.text.state (g.S.Shelf.minds l.shelf) l.spent;
  followed : g.F.Follower.follows l.follower l.text.state;
  layout_ground : g.F.Follower.layout_ground l.follower ≡ g.F.Follower.layout_ground l.initial.follower;
}

abbrev pub invariant-do_answer-loop-edit : goal.invariant-do_answer-loop-edit
invariant-do_answer-loop-edit g l = record {
  led : Led (TakesLast g.F.Follower.takes) (setup_of l.round) (rest_of l.edit-items l.depth) (rest_of (drop l.edit-index l.edit-items) l.depth)
      (stands l.initial.text.state (g.S.Shelf.minds l.initial.shelf) l.initial.log.items l.initial.spent)
      (stands l.text.state (g.S.Shelf.minds l.shelf) l.log.items l.spent)
      (l.initial.follower, l.initial.text.effect) (l.follower, l.text.effect);
  ready : MayRun l.round.slots.now.items l.text.state (g.S.Shelf.minds l.shelf) l.spent;
  followed : g.F.Follower.follows l.follower l.text.state;
  layout_ground : g.F.Follower.layout_ground l.follower ≡ g.F.Follower.layout_ground l.initial.follower;
}
