-- What comes of an incoming text behind some of the filters.
use Rattle.std.proofs.Common.{◌≡◌, ℕ, ◌≤◌, List, length, take, min, ap, ◌∙◌, arith}
use Rattle.std.specs.List.{fold}
use Rattle.std.proofs.lemmas.List.{take_all}
use Rattle.std.proofs.lemmas.List.Elements.{All-map}
use Rattle.edit_base.specs.declared.rows.Incoming.{Incoming}
use Rattle.edit_base.specs.declared.rows.TheConstants.Incoming.{MOST}
use Rattle.edit_model.specs.declared.filters.Filter.{Filter}
use Rattle.edit_model.specs.Filtered.{at_places, clipped, kept_before, passed, through}
use Rattle.edit_model.proofs.FilterLaws.{passed_within, takes_places}
use Rattle.input_filters.specs.Kept.{LiesIn, IsClipped}

pub clipped_so : (it incoming : Incoming) → it ≡ clipped incoming → length incoming.units ≤ MOST → IsClipped it
clipped_so it incoming is short =
    let to = λ (at : ℕ). min at (length incoming.units) in
    rw is (record {
      short = short;
      inside = All-map (LiesIn (length incoming.units)) (at_places to) incoming.spans (λ i blank below. (omega arith, omega arith));
    })

pub clipped_still : (it brought : Incoming) (others : ℕ) (filter : Filter) → it ≡ through others brought filter → IsClipped brought → IsClipped it
clipped_still it brought others filter is before =
    let to = kept_before filter others brought.units in
    let left = passed filter others brought.units in
    let lies : (x : ℕ) → to x ≤ length left = λ x. (takes_places filter others brought.units x x (omega arith)).1 in
    rw is (record {
      short = omega (arith, before.short, passed_within filter others brought.units);
      inside = All-map (LiesIn (length left)) (at_places to) brought.spans (λ i blank below. (lies _, lies _));
    })

-- this is what these filters make of the incoming text, which comes to so many other units
pub record Reached (others : ℕ) (incoming : Incoming) (filters : List Filter) (it : Incoming) : Type 0 where
  pub is : it ≡ fold (through others) (clipped incoming) filters
  pub clipped : IsClipped it

pub reached_all : {others : ℕ} {incoming : Incoming} (filters : List Filter) {it : Incoming} {i : ℕ}
    → Reached others incoming (take i filters) it → length filters ≤ i → it ≡ fold (through others) (clipped incoming) filters
reached_all {others} {incoming} filters {it} {i} reached past =
    reached.is ∙ ap (fold (through others) (clipped incoming)) (take_all i filters past)
