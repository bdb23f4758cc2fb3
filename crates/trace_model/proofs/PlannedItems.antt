-- What a command's items bring, and how far characters are counted.
use Rattle.std.proofs.Common.{◌≡◌, ℕ, ℤ, zero, suc, ◌+◌, ◌-◌, ◌≤◌, ◌||◌, ◌&&◌, Bool, true, false, not, cond, Option, Some, None, List, [], ◌∷◌, ◌++◌, length, refl, arith}
use Rattle.std.specs.Prelude.{IfSome, nat_le, nat_lt, slice_index}
use Rattle.std.specs.Option.{option_and_then}
use Rattle.std.specs.List.{All, AllByRecursion}
use Rattle.std.proofs.lemmas.Bool.Decides.{nat_tests}
use Rattle.std.proofs.lemmas.List.Elements.{All-from_recursion}
use Rattle.edit_base.specs.declared.rows.Incoming.{Incoming}
use Rattle.trace_model.specs.declared.commands.Command.{Command}
use Rattle.trace_model.specs.declared.commands.Command.TheVariants as commands
use Rattle.edit_model.specs.declared.items.Item.{Item}
use Rattle.edit_model.specs.declared.items.Item.TheVariants as item
use Rattle.edit_model.specs.State.{State}
use Rattle.edit_model.specs.Brought.{IsOrdered, IsBrought}
use Rattle.edit_model.specs.Fitting.{IsFittingItem}
use Rattle.trace_model.specs.Reading.{IsFitting}
use Rattle.edit_model.specs.Selection.{selection, region, has_region}
use Rattle.edit_model.specs.Verdicts.{goes_beyond, goes_below}
use Rattle.edit_model.specs.declared.items.Planned.TheVariants as planned
use Rattle.trace_model.specs.Items.{text_items, with_region, compose_items, commit_items, no_incoming, spared, around_selection, delete_around, is_surrogate, width_before, width_at, counted_back, counted_on, between, points_selection, delete_points, select_item, items_of, items_in}

-- ---- items

abbrev AllFit : List Item → Type 0
AllFit items = AllByRecursion IsFittingItem items

fits-none : IsBrought no_incoming
fits-none = record { units = omega arith; spans = omega arith; ordered = All-from_recursion IsOrdered [] tt }

fits-with_region : (composing : Bool) (incoming : Incoming) → IsBrought incoming → IsBrought (with_region composing incoming)
fits-with_region composing incoming brought = record { units = brought.units; spans = brought.spans; ordered = brought.ordered }

fits-dropped : (test : Bool) (others : List Item) → AllFit others → AllFit (cond test (item.Drop ∷ []) [] ++ others)
fits-dropped true others fit = (tt, fit)
fits-dropped false others fit = fit

fits-text : (state : State) (incoming : Incoming) (cursor : ℤ) → IsBrought incoming → AllFit (text_items state incoming cursor)
fits-text state incoming cursor brought = fits-dropped (has_region state.spans) _ (tt, (brought, tt))

fits-around : (state : State) (chosen : Option (ℕ × ℕ)) (before after : ℕ) → AllFit (items_in (around_selection state chosen before after))
fits-around state None before after = tt
fits-around state (Some chosen) before after = (fits-none, (fits-none, tt))

fits-between : (kept : ℕ × ℕ) (first last : Option ℕ) → AllFit (items_in (between kept first last))
fits-between kept None last = tt
fits-between kept (Some first) None = tt
fits-between kept (Some first) (Some last) = (fits-none, (fits-none, tt))

fits-points : (state : State) (chosen : Option (ℕ × ℕ)) (before after : ℕ) → AllFit (items_in (points_selection state chosen before after))
fits-points state None before after = tt
fits-points state (Some chosen) before after =
    let kept = spared chosen (region state.spans) in fits-between kept (counted_back state.units before kept.0) (counted_on state.units after kept.1)

fits-selection : (test : Bool) (start end : ℤ) → AllFit (items_in (cond test planned.Ignored (planned.Items (select_item start end ∷ []))))
fits-selection true start end = tt
fits-selection false start end = (tt, tt)

fits-items : (state : State) (asked : Command) → IsFitting asked → AllFit (items_in (items_of state asked))
unfolding items_of compose_items commit_items delete_around delete_points
fits-items state (commands.Replace start end incoming) fits = (fits, tt)
fits-items state (commands.SetSpan id start end flags what) fits = (tt, tt)
fits-items state (commands.RemoveSpan id) fits = (tt, tt)
fits-items state (commands.SpansOver start end) fits = tt
fits-items state (commands.NextEdge start limit) fits = tt
fits-items state (commands.Select start end) fits = (tt, tt)
fits-items state commands.Deselect fits = (tt, tt)
fits-items state (commands.Compose incoming cursor) fits = fits-text state (with_region true incoming) cursor (fits-with_region true incoming fits)
fits-items state (commands.Commit incoming cursor) fits = fits-text state (with_region false incoming) cursor (fits-with_region false incoming fits)
fits-items state commands.Finish fits = (tt, tt)
fits-items state (commands.Region start end) fits = (tt, (tt, tt))
fits-items state (commands.DeleteAround before after) fits = fits-around state (selection state.spans) before after
fits-items state (commands.DeletePoints before after) fits = fits-points state (selection state.spans) before after
fits-items state (commands.SetSelection start end) fits = fits-selection (goes_beyond state start end || goes_below start end) start end
fits-items state (commands.TextBefore count) fits = tt
fits-items state (commands.TextAfter count) fits = tt
fits-items state commands.Selected fits = tt
fits-items state commands.Begin fits = tt
fits-items state commands.End fits = tt

pub plans_fitting_items : (state : State) (asked : Command) → IsFitting asked → All IsFittingItem (items_in (items_of state asked))
plans_fitting_items state asked fits = All-from_recursion IsFittingItem (items_in (items_of state asked)) (fits-items state asked fits)

-- ---- characters

-- what a step gives, from each value that holds what it has to
chained : {X Y : Type 0} (Q : X → Type 0) (P : Y → Type 0) (f : X → Option Y) → ((x : X) → Q x → IfSome (f x) P) → (o : Option X) → IfSome o Q
    → IfSome (option_and_then f o) P
chained Q P f each None holds = tt
chained Q P f each (Some x) holds = each x holds

weaker : {X : Type 0} (P Q : X → Type 0) → ((x : X) → P x → Q x) → (o : Option X) → IfSome o P → IfSome o Q
weaker P Q step None holds = tt
weaker P Q step (Some x) holds = step x holds

-- ends of texts apart, a character lies in the text
width_fits : (past plain pair : Bool) (most : ℕ) → (past ≡ false → 1 ≤ most) → (pair ≡ true → 2 ≤ most)
    → IfSome (cond past (Some 0) (cond plain (Some 1) (cond pair (Some 2) None))) (λ width. width ≤ most)
width_fits true plain pair most one two = omega arith
width_fits false true pair most one two = one refl
width_fits false false true most one two = two refl
width_fits false false false most one two = tt

pair_within : (high low : Bool) (at most : ℕ) → (high && nat_lt (at + 1) most && low) ≡ true → 2 ≤ most - at
pair_within true low at most is = grind (arith, nat_tests)
pair_within false low at most is = absurd (cc)

width_on : (units : List ℕ) (at : ℕ) → IfSome (width_at units at) (λ width. width ≤ length units - at)
unfolding width_at
width_on units at =
    width_fits (nat_le (length units) at) (not (is_surrogate (slice_index units at))) _ (length units - at)
    (λ is. grind (arith, nat_tests)) (pair_within _ _ at (length units))

any_width : (o : Option ℕ) → IfSome o (λ width. 0 ≤ width)
any_width None = tt
any_width (Some width) = omega arith

pub counts_back : (units : List ℕ) (count at : ℕ) → IfSome (counted_back units count at) (λ first. first ≤ at)
counts_back units zero at = omega arith
counts_back units (suc count) at =
    chained (λ width. 0 ≤ width) (λ first. first ≤ at) (λ width. counted_back units count (at - width))
    (λ width any. weaker (λ first. first ≤ at - width) (λ first. first ≤ at) (λ first below. omega (arith, below)) (counted_back units count (at - width))
    (counts_back units count (at - width)))
    (width_before units at) (any_width (width_before units at))

pub counts_on : (units : List ℕ) (count at : ℕ) → at ≤ length units → IfSome (counted_on units count at) (λ last. (at ≤ last) × (last ≤ length units))
counts_on units zero at within = (omega arith, within)
counts_on units (suc count) at within =
    chained (λ width. width ≤ length units - at) (λ last. (at ≤ last) × (last ≤ length units)) (λ width. counted_on units count (at + width))
    (λ width fits. weaker (λ last. (at + width ≤ last) × (last ≤ length units)) (λ last. (at ≤ last) × (last ≤ length units))
    (λ last is. (omega (arith, is.0), is.1)) (counted_on units count (at + width))
    (counts_on units count (at + width) (omega (arith, fits, within))))
    (width_at units at) (width_on units at)
