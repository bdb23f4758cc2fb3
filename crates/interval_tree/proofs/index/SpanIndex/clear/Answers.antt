-- Without rows nothing is kept beside them, and each list has room for as many rows as were there, with the spare ones.
use Rattle.std.proofs.Common.{◌≡◌, ◌≤◌, ◌+◌, refl, ap, subst, length, ◌∙◌}
use Rattle.std.specs.List.{concat}
use Rattle.std.proofs.lemmas.List.{length-map}
use Rattle.std.proofs.lemmas.List.Sorted.{length_permutation}
use Rattle.row_kinds.specs.Kinds.{places_of}
use Rattle.interval_tree.proofs.IndexFilled.{spare_cleared, whole_none}
use Rattle.interval_tree.proofs.index.SpanIndex.clear.Goals as goal

pub invariant_of-self : goal.invariant_of-self
invariant_of-self c = whole_none c.clear.new.self c.clear-2.new.self _ _ _ _ _
    c.clear.ensures.kept c.clear.ensures.slots c.clear-3.ensures.orders c.clear-2.ensures.named c.clear-4.ensures.tally

pub returns-clause-spare : goal.returns-clause-spare
returns-clause-spare c =
    let whole = c.self.invariant in
    let rows = c.self.inside.rows in
    let ids : length c.self.inside.ids.entries ≡ length rows.kept = whole.named.count ∙ length-map rows.kept (λ row. row.id) in
    let slots : length rows.slots ≡ length rows.kept = whole.named.long ∙ length-map rows.kept (λ row. row.id) in
    let starts = length_permutation rows.slots (concat c.self.inside.orders.by_start.blocks) whole.orders.starting.all in
    let ends = length_permutation rows.slots (concat c.self.inside.orders.by_end.blocks) whole.orders.ending.all in
    let all = spare_cleared (length rows.kept) _ rows.spare c.self.inside.ids.spare c.self.inside.orders.by_start.spare
    c.self.inside.orders.by_end.spare (places_of c.self.inside.tally.composing) (places_of c.self.inside.tally.seats)
    (length c.clear.new.self.kept) _ _ _ _ _ _
    refl whole.composing_places whole.seat_places (ap length c.clear.ensures.kept)
    c.clear.ensures.spare
    (subst (λ n. n + c.self.inside.ids.spare ≤ c.clear-2.new.self.spare) ids c.clear-2.ensures.spare)
    (subst (λ n. n + c.self.inside.orders.by_start.spare ≤ c.clear-3.new.self.by_start.spare) (starts ∙ slots) c.clear-3.ensures.start_spare)
    (subst (λ n. n + c.self.inside.orders.by_end.spare ≤ c.clear-3.new.self.by_end.spare) (ends ∙ slots) c.clear-3.ensures.end_spare)
    c.clear-4.ensures.composing_places c.clear-4.ensures.seats_places in
    rw (← ap (λ seen. length seen.kept) c.self.view_is, ← ap (λ seen. seen.spare) c.self.view_is) all
