-- What a command is answered, and what its items log: one of them is nothing.
use Rattle.std.proofs.Common.{◌≡◌, ℕ, List, [], ◌++◌, refl, sym, append-nil}
use Rattle.trace_model.specs.declared.commands.Command.{Command}
use Rattle.trace_model.specs.declared.commands.Command.TheVariants as commands
use Rattle.edit_model.specs.declared.items.Planned.{Planned}
use Rattle.edit_model.specs.declared.items.Planned.TheVariants.{Items, Absent, Ignored}
use Rattle.edit_model.specs.Machine.{Setup}
use Rattle.edit_model.specs.Outcome.{outcomes}
use Rattle.trace_model.specs.Items.{items_of, items_in}
use Rattle.trace_model.specs.Output.{Session, scene_of, planned_line, log_lines, reply_lines}

-- the two in either order
abbrev Swap : List ℕ → List ℕ → Type 0
Swap one other = one ++ other ≡ other ++ one

swap-none : (bytes : List ℕ) → Swap bytes []
swap-none bytes = append-nil bytes

swap-planned : (r : Setup) (planned : Planned) (session : Session) → Swap (planned_line planned) (log_lines (outcomes r (items_in planned) (scene_of session)))
swap-planned r (Items items) session = sym (append-nil (log_lines (outcomes r items (scene_of session))))
swap-planned r Absent session = swap-none (planned_line Absent)
swap-planned r Ignored session = swap-none (planned_line Ignored)

swap-query : (r : Setup) (asked : Command) (session : Session) → items_of session.state asked ≡ Items []
    → Swap (reply_lines session.state session.nesting asked) (log_lines (outcomes r (items_in (items_of session.state asked)) (scene_of session)))
swap-query r asked session is = rw is (swap-none (reply_lines session.state session.nesting asked))

pub swap-reply : (r : Setup) (session : Session) (asked : Command)
    → Swap (reply_lines session.state session.nesting asked) (log_lines (outcomes r (items_in (items_of session.state asked)) (scene_of session)))
unfolding items_of reply_lines
swap-reply r session (commands.Replace start end incoming) = swap-planned r (items_of session.state (commands.Replace start end incoming)) session
swap-reply r session (commands.SetSpan id start end flags what) = swap-planned r (items_of session.state (commands.SetSpan id start end flags what)) session
swap-reply r session (commands.RemoveSpan id) = swap-planned r (items_of session.state (commands.RemoveSpan id)) session
swap-reply r session (commands.Select start end) = swap-planned r (items_of session.state (commands.Select start end)) session
swap-reply r session commands.Deselect = swap-planned r (items_of session.state commands.Deselect) session
swap-reply r session (commands.Compose incoming cursor) = swap-planned r (items_of session.state (commands.Compose incoming cursor)) session
swap-reply r session (commands.Commit incoming cursor) = swap-planned r (items_of session.state (commands.Commit incoming cursor)) session
swap-reply r session commands.Finish = swap-planned r (items_of session.state commands.Finish) session
swap-reply r session (commands.Region start end) = swap-planned r (items_of session.state (commands.Region start end)) session
swap-reply r session (commands.DeleteAround before after) = swap-planned r (items_of session.state (commands.DeleteAround before after)) session
swap-reply r session (commands.DeletePoints before after) = swap-planned r (items_of session.state (commands.DeletePoints before after)) session
swap-reply r session (commands.SetSelection start end) = swap-planned r (items_of session.state (commands.SetSelection start end)) session
swap-reply r session (commands.SpansOver start end) = swap-query r (commands.SpansOver start end) session refl
swap-reply r session (commands.NextEdge start limit) = swap-query r (commands.NextEdge start limit) session refl
swap-reply r session (commands.TextBefore count) = swap-query r (commands.TextBefore count) session refl
swap-reply r session (commands.TextAfter count) = swap-query r (commands.TextAfter count) session refl
swap-reply r session commands.Selected = swap-query r commands.Selected session refl
swap-reply r session commands.Begin = swap-query r commands.Begin session refl
swap-reply r session commands.End = swap-query r commands.End session refl
