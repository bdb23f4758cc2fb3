-- Each computes.
use Rattle.std.proofs.Common.{refl}
use Rattle.std.specs.Fmt.{digits}
use Rattle.edit_model.specs.Filtered.{filtered}
use Rattle.edit_model.specs.Over.{over}
use Rattle.edit_model.specs.Verdicts.{judged, judged_range}
use Rattle.edit_model.specs.Changed.{stepped, change_of}
use Rattle.edit_model.specs.Events.{listeners, text_event, span_callbacks}
use Rattle.edit_model.specs.Machine.{resolved_edit, resolved, judged_at, is_barred, edit_entry}
use Rattle.edit_model.specs.Outcome.{outcome}
use Rattle.edit_model.specs.Minds.{answer_after, answer_span, mind_before, mind_changed, mind_after, mind_span}
use Rattle.edit_model.specs.Selection.{text_before, text_after, selected}
use Rattle.trace_model.specs.Items.{compose_items, commit_items, delete_around, delete_points, width_before, width_at, items_of}
use Rattle.trace_model.specs.Report.{nesting_behind, report}
use Rattle.trace_model.specs.Output.{scene_behind, session_behind, reply_lines, lines_of}
use Rattle.trace_model.proofs.examples.prints_selections.Goals as goal

pub returns-clause-scales : goal.returns-clause-scales
unfolding digits filtered over judged stepped change_of listeners text_event span_callbacks resolved_edit resolved judged_at is_barred edit_entry outcome answer_after answer_span mind_before mind_changed mind_after mind_span text_before text_after selected compose_items commit_items delete_around delete_points width_before width_at items_of nesting_behind report scene_behind session_behind reply_lines lines_of judged_range
returns-clause-scales c = refl

pub returns-clause-reads : goal.returns-clause-reads
unfolding digits filtered over judged stepped change_of listeners text_event span_callbacks resolved_edit resolved judged_at is_barred edit_entry outcome answer_after answer_span mind_before mind_changed mind_after mind_span text_before text_after selected compose_items commit_items delete_around delete_points width_before width_at items_of nesting_behind report scene_behind session_behind reply_lines lines_of judged_range
returns-clause-reads c = refl
