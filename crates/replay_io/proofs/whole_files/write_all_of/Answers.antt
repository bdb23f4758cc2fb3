-- The piece that was put follows the bytes before it.
use Rattle.std.proofs.Common.{◌∙◌}
use Rattle.replay_io.proofs.Turns.{put_more, put_within}
use Rattle.replay_io.proofs.whole_files.write_all_of.Goals as goal

pub loop-done-preserved : goal.loop-done-preserved
loop-done-preserved g c =
    let before = c.loop-done.invariant in
    let turn = c.in_ok-done.ensures in
    record {
      within = put_within _ _ _ before.within turn.within;
      written = put_more _ _ _ _ _ _ before.written turn.written;
      quiet = turn.quiet ∙ before.quiet;
    }
