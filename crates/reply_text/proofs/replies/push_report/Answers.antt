-- The pieces of a report, one behind another.
use Rattle.std.proofs.Common.{rules, ◌≡◌, ◌++◌, codes}
use Rattle.std.proofs.lemmas.Result.{on_ok_weaker}
use Rattle.trace_model.specs.Printed.{line_end, signed_places}
use Rattle.reply_text.proofs.Appending.{behind}
use Rattle.reply_text.proofs.replies.push_report.Goals as goal

pub returns-clause-ok : goal.returns-clause-ok
returns-clause-ok c =
    let selection = codes "report" ++ signed_places c.args.sel_start c.args.sel_end in
    let region = signed_places c.args.start c.args.end in
    let first : c.push_named_places.new.out.items ≡ c.args.out.now.items ++ selection = search rules in
    let second : c.push_signed_places.new.out.items ≡ c.push_named_places.new.out.items ++ region = search rules in
    on_ok_weaker c.push.result (behind c.args.out.now.items (selection ++ region) line_end _ _
    (behind c.args.out.now.items selection region _ _ first second)) c.push.ensures.ok
