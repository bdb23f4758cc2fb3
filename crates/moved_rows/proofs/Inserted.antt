-- Units that come where none go take every end where the rule for it does.
use Rattle.std.proofs.Common.{length, ◌≡◌, ℕ, ◌<◌, ◌+◌, ◌&&◌, Bool, true, false, eqb, List, [], ◌∷◌, map, refl, arith}
use Rattle.std.specs.List.{All, AllByRecursion}
use Rattle.std.proofs.lemmas.Bool.Decides.{nat_tests}
use Rattle.std.proofs.lemmas.List.Elements.{recursion_from_All}
use Rattle.edit_model.specs.declared.kinds.EndKind.{EndKind}
use Rattle.edit_model.specs.declared.kinds.EndKind.TheVariants.{Mark, Point, Paragraph}
use Rattle.edit_model.specs.declared.kinds.Kind.{Kind}
use Rattle.edit_model.specs.declared.kinds.Kind.TheVariants as kind
use Rattle.edit_model.specs.State.{Span}
use Rattle.edit_model.specs.EndTable.{end_of_span}
use Rattle.edit_model.specs.Flags.{end_kind, is_paragraph, kind_of, start_kind}
use Rattle.edit_model.specs.Replaced.{moved_span}
use Rattle.span_table.specs.Numbers.{bound, is_point, pushed}
use Rattle.span_table.specs.Table.{HasRoomFor, pushed_span}
use Rattle.moved_rows.specs.Moving.{IsSpanWithin, is_appended}

end_pushed : (s n id : ℕ) (kind : EndKind) (x : ℕ) (units : List ℕ) → (kind ≡ Paragraph → eqb s (length units) ≡ false)
    → pushed s n (is_point kind) x ≡ end_of_span id kind x s s n units
end_pushed s n id Mark x units plain = grind (arith, nat_tests)
end_pushed s n id Point x units plain = grind (arith, nat_tests)
end_pushed s n id Paragraph x units plain = let other = plain refl in grind (arith, nat_tests)

left : (b : Bool) → (b && true) ≡ false → b ≡ false
left false is = refl
left true is = is

starts_plain : (k : Kind) (b : Bool) → (b && is_paragraph k) ≡ false → start_kind k ≡ Paragraph → b ≡ false
starts_plain kind.MarkMark b is never = absurd (cc)
starts_plain kind.MarkPoint b is never = absurd (cc)
starts_plain kind.PointMark b is never = absurd (cc)
starts_plain kind.PointPoint b is never = absurd (cc)
starts_plain kind.Paragraph b is same = left b is

ends_plain : (k : Kind) (b : Bool) → (b && is_paragraph k) ≡ false → end_kind k ≡ Paragraph → b ≡ false
ends_plain kind.MarkMark b is never = absurd (cc)
ends_plain kind.MarkPoint b is never = absurd (cc)
ends_plain kind.PointMark b is never = absurd (cc)
ends_plain kind.PointPoint b is never = absurd (cc)
ends_plain kind.Paragraph b is same = left b is

span_pushed : (s n : ℕ) (units : List ℕ) (span : Span) → is_appended s (length units) span ≡ false → pushed_span s n span ≡ moved_span s s n units span
span_pushed s n units span plain =
    let k = kind_of span.flags in
    let starts = end_pushed s n span.id (start_kind k) span.start units (starts_plain k (eqb s (length units)) plain) in
    let ends = end_pushed s n span.id (end_kind k) span.end units (ends_plain k (eqb s (length units)) plain) in
    rw (starts, ends) refl

each_pushed : (s n : ℕ) (units : List ℕ) (spans : List Span) → AllByRecursion (λ span. is_appended s (length units) span ≡ false) spans
    → map (pushed_span s n) spans ≡ map (moved_span s s n units) spans
each_pushed s n units [] each = refl
each_pushed s n units (span ∷ spans) each = rw (span_pushed s n units span each.0, each_pushed s n units spans each.1) refl

pub all_pushed : (s n : ℕ) (units : List ℕ) (spans : List Span) → All (λ span. is_appended s (length units) span ≡ false) spans
    → map (pushed_span s n) spans ≡ map (moved_span s s n units) spans
all_pushed s n units spans plain = each_pushed s n units spans (recursion_from_All _ spans plain)

pub all_room : (n last : ℕ) (spans : List Span) → All (IsSpanWithin last) spans → last + n < bound → All (HasRoomFor n) spans
all_room n last spans over fits k d below =
    let lies = over k d below in
    record { start = omega (arith, lies.ordered, lies.within, fits); end = omega (arith, lies.within, fits) }

pub ruleset inserted = (all_pushed, all_room)
