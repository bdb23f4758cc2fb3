-- Where too many spans would stand, the places lie in the text and the text isn't too long.
use Rattle.std.proofs.Common.{ap, ◌∙◌, w32}
use Rattle.std.proofs.lemmas.Int.{to_z-of_z}
use Rattle.edit_model.specs.State.{place}
use Rattle.edit_model.proofs.FullTables.{full-is_short}
use Rattle.replace_engine.proofs.text.SpannedText.span_count_then.Goals as goal

pub count_spans_behind-requires-clause-order : goal.count_spans_behind-requires-clause-order
count_spans_behind-requires-clause-order c =
    let short = full-is_short c.args.self.now.state 0 c.args.start c.args.end c.args.incoming.now c.requires.full in
    let start_is = c.place_of.ensures.place ∙ ap place (to_z-of_z w32 c.args.start c.ranges.start) in
    let end_is = c.place_of-2.ensures.place ∙ ap place (to_z-of_z w32 c.args.end c.ranges.end) in
    rw (start_is, end_is) short.places.ordered

pub count_spans_behind-requires-clause-within : goal.count_spans_behind-requires-clause-within
count_spans_behind-requires-clause-within c =
    let short = full-is_short c.args.self.now.state 0 c.args.start c.args.end c.args.incoming.now c.requires.full in
    let end_is = c.place_of-2.ensures.place ∙ ap place (to_z-of_z w32 c.args.end c.ranges.end) in
    rw end_is short.places.within

pub count_spans_behind-requires-clause-limit : goal.count_spans_behind-requires-clause-limit
count_spans_behind-requires-clause-limit c =
    let short = full-is_short c.args.self.now.state 0 c.args.start c.args.end c.args.incoming.now c.requires.full in
    let start_is = c.place_of.ensures.place ∙ ap place (to_z-of_z w32 c.args.start c.ranges.start) in
    let end_is = c.place_of-2.ensures.place ∙ ap place (to_z-of_z w32 c.args.end c.ranges.end) in
    rw (start_is, end_is) short.short
