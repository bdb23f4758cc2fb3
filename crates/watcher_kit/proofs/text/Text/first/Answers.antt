-- A place that passes is the first from itself on, and one that doesn't is left behind.
use Rattle.std.proofs.Common.{◌≡◌, ◌∙◌, ◌<◌, sym, ap, true, false, Some, length, min}
use Rattle.edit_model.specs.Minds.{first_place}
use Rattle.watcher_kit.specs.Texts.{joined}
use Rattle.watcher_kit.proofs.Places.{first_here, first_behind, below_min}
use Rattle.watcher_kit.proofs.text.Text.first.Goals as goal

pub returns-then-test-clause-first : goal.returns-then-test-clause-first
returns-then-test-clause-first g c passes agrees =
    let end : c.min-at-end.result ≡ min c.args.to (length (joined c.args.self.now)) = c.min-at-end.ensures ∙ ap (min c.args.to) c.len.ensures in
    let inside : c.loop-at.at < length (joined c.args.self.now) = below_min c.args.to _ c.loop-at.at c.min-at-end.result end c.loop-at-test.true in
    let here : passes c.loop-at.at ≡ true = sym (agrees c.loop-at.at c.test.result inside c.test.ensures) ∙ c.if-test.true in
    let found : Some c.loop-at.at ≡ first_place passes c.args.from c.min-at-end.result =
    first_here passes c.loop-at.at c.min-at-end.result c.loop-at-test.true here ∙ c.loop-at.invariant passes agrees in
    found ∙ ap (first_place passes c.args.from) end

pub loop-at-preserved : goal.loop-at-preserved
loop-at-preserved g c passes agrees =
    let end : c.min-at-end.result ≡ min c.args.to (length (joined c.args.self.now)) = c.min-at-end.ensures ∙ ap (min c.args.to) c.len.ensures in
    let inside : c.loop-at.at < length (joined c.args.self.now) = below_min c.args.to _ c.loop-at.at c.min-at-end.result end c.loop-at-test.true in
    let here : passes c.loop-at.at ≡ false = sym (agrees c.loop-at.at c.test.result inside c.test.ensures) ∙ c.if-test.false in
    first_behind passes c.loop-at.at c.min-at-end.result c.loop-at-test.true here ∙ c.loop-at.invariant passes agrees
