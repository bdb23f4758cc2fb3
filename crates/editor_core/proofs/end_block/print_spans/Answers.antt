-- One more span, and its line.
use Rattle.std.proofs.Common.{◌≡◌, ℕ, ◌+◌, ◌++◌, ◌<◌, ◌∷◌, [], List, Some, length, take, sym, ap, ◌∙◌}
use Rattle.std.specs.Prelude.{slice_get}
use Rattle.std.specs.List.{flat_map}
use Rattle.std.proofs.lemmas.List.{flat_map_more, take_more}
use Rattle.std.proofs.lemmas.Option.{slice_get_within, get_or_from_slice_get}
use Rattle.edit_model.specs.State.{Span}
use Rattle.edit_model.specs.Rows.{span_of}
use Rattle.trace_model.specs.Printed.{span_line}
use Rattle.editor_core.proofs.end_block.print_spans.Goals as goal

take_got : (spans : List Span) (at : ℕ) (span : Span) → slice_get spans at ≡ Some span → take (at + 1) spans ≡ take at spans ++ span ∷ []
take_got spans at span is =
    let within : at < length spans = slice_get_within spans at span is in
    take_more spans at span within ∙ ap (λ one. take at spans ++ one ∷ []) (get_or_from_slice_get spans at span span is)

pub loop-at-preserved : goal.loop-at-preserved
loop-at-preserved c =
    let before = c.args.out.now.items in
    let spans = c.args.text.now.state.spans in
    let at = c.loop-at.at in
    let span = span_of c.span_at.result in
    c.in_ok-print_span.ensures.ok ∙ ap (λ out. out ++ span_line span) c.loop-at.invariant ∙ flat_map_more span_line before (take at spans) span
    ∙ ap (λ some. before ++ flat_map span_line some) (sym (take_got spans at span c.span_at.ensures.span))
