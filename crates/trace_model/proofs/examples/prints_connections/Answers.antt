-- Each computes.
use Rattle.std.proofs.Common.{refl}
use Rattle.std.specs.Fmt.{digits}
use Rattle.edit_model.specs.Filtered.{filtered}
use Rattle.edit_model.specs.Over.{over}
use Rattle.edit_model.specs.Verdicts.{judged, judged_range}
use Rattle.edit_model.specs.Changed.{stepped, change_of}
use Rattle.edit_model.specs.Events.{listeners, text_event, span_callbacks}
use Rattle.edit_model.specs.Machine.{resolved_edit, resolved, judged_at, is_barred, edit_entry}
use Rattle.edit_model.specs.Outcome.{outcome}
use Rattle.edit_model.specs.Minds.{answer_after, answer_span, mind_before, mind_changed, mind_after, mind_span}
use Rattle.edit_model.specs.Selection.{text_before, text_after, selected}
use Rattle.trace_model.specs.Items.{compose_items, commit_items, delete_around, delete_points, width_before, width_at, items_of}
use Rattle.trace_model.specs.Report.{nesting_behind, report}
use Rattle.trace_model.specs.Output.{scene_behind, session_behind, reply_lines, lines_of}
use Rattle.trace_model.proofs.examples.prints_connections.Goals as goal

pub returns-clause-cursors : goal.returns-clause-cursors
unfolding digits filtered over judged stepped change_of listeners text_event span_callbacks resolved_edit resolved judged_at is_barred edit_entry outcome answer_after answer_span mind_before mind_changed mind_after mind_span text_before text_after selected compose_items commit_items delete_around delete_points width_before width_at items_of nesting_behind report scene_behind session_behind reply_lines lines_of judged_range
returns-clause-cursors c = refl

pub returns-clause-batches : goal.returns-clause-batches
unfolding digits filtered over judged stepped change_of listeners text_event span_callbacks resolved_edit resolved judged_at is_barred edit_entry outcome answer_after answer_span mind_before mind_changed mind_after mind_span text_before text_after selected compose_items commit_items delete_around delete_points width_before width_at items_of nesting_behind report scene_behind session_behind reply_lines lines_of judged_range
returns-clause-batches c = refl

pub returns-clause-regions : goal.returns-clause-regions
unfolding digits filtered over judged stepped change_of listeners text_event span_callbacks resolved_edit resolved judged_at is_barred edit_entry outcome answer_after answer_span mind_before mind_changed mind_after mind_span text_before text_after selected compose_items commit_items delete_around delete_points width_before width_at items_of nesting_behind report scene_behind session_behind reply_lines lines_of judged_range
returns-clause-regions c = refl

pub returns-clause-spares : goal.returns-clause-spares
unfolding digits filtered over judged stepped change_of listeners text_event span_callbacks resolved_edit resolved judged_at is_barred edit_entry outcome answer_after answer_span mind_before mind_changed mind_after mind_span text_before text_after selected compose_items commit_items delete_around delete_points width_before width_at items_of nesting_behind report scene_behind session_behind reply_lines lines_of judged_range
returns-clause-spares c = refl

pub returns-clause-characters : goal.returns-clause-characters
unfolding digits filtered over judged stepped change_of listeners text_event span_callbacks resolved_edit resolved judged_at is_barred edit_entry outcome answer_after answer_span mind_before mind_changed mind_after mind_span text_before text_after selected compose_items commit_items delete_around delete_points width_before width_at items_of nesting_behind report scene_behind session_behind reply_lines lines_of judged_range
returns-clause-characters c = refl

pub returns-clause-clamps : goal.returns-clause-clamps
unfolding digits filtered over judged stepped change_of listeners text_event span_callbacks resolved_edit resolved judged_at is_barred edit_entry outcome answer_after answer_span mind_before mind_changed mind_after mind_span text_before text_after selected compose_items commit_items delete_around delete_points width_before width_at items_of nesting_behind report scene_behind session_behind reply_lines lines_of judged_range
returns-clause-clamps c = refl

pub returns-clause-typing : goal.returns-clause-typing
unfolding digits filtered over judged stepped change_of listeners text_event span_callbacks resolved_edit resolved judged_at is_barred edit_entry outcome answer_after answer_span mind_before mind_changed mind_after mind_span text_before text_after selected compose_items commit_items delete_around delete_points width_before width_at items_of nesting_behind report scene_behind session_behind reply_lines lines_of judged_range
returns-clause-typing c = refl

pub returns-clause-moves : goal.returns-clause-moves
unfolding digits filtered over judged stepped change_of listeners text_event span_callbacks resolved_edit resolved judged_at is_barred edit_entry outcome answer_after answer_span mind_before mind_changed mind_after mind_span text_before text_after selected compose_items commit_items delete_around delete_points width_before width_at items_of nesting_behind report scene_behind session_behind reply_lines lines_of judged_range
returns-clause-moves c = refl
