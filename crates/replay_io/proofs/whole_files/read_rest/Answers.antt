-- What was gained before, and what the last turn left.
use Rattle.std.proofs.lemmas.Result.{err_from_is_err_and}
use Rattle.replay_io.proofs.Turns.{GainsOut-fault, GainsOut-over}
use Rattle.replay_io.proofs.whole_files.read_rest.Goals as goal

pub returns-in_err-count-clause-gains : goal.returns-in_err-count-clause-gains
returns-in_err-count-clause-gains g c =
    let before = c.loop-count.invariant.gained in
    let answer = err_from_is_err_and c.from_residual.result c.from_residual.ensures.1 in
    rw answer.1 (GainsOut-fault answer.0 _ _ _ _ _ _ _ _ before.0 before.1 c.in_err-count.ensures.err before.2 before.3)

pub returns-then-count-room-clause-gains : goal.returns-then-count-room-clause-gains
returns-then-count-room-clause-gains g c =
    let before = c.loop-count.invariant.gained in
    let turn = c.in_ok-count.ensures in
    GainsOut-over _ _ _ _ _ _ _ _ _ before.0 _ before.1 turn.gains before.2 before.3 turn.bytes c.if-count-room.true
