-- What the rules of all kinds have in common.
use Rattle.std.proofs.Common.{◌≡◌, ℕ, ◌<◌, ◌≤◌, Bool, true, false, cond, eqb, Option, Some, None, List, [], ◌∷◌, length, refl, arith}
use Rattle.std.specs.List.{AllByRecursion}
use Rattle.std.proofs.lemmas.Bool.{ne_eqb}
use Rattle.edit_base.specs.declared.edits.Edit.{Edit}
use Rattle.edit_model.specs.declared.events.TextEvent.{TextEvent}
use Rattle.edit_model.specs.declared.events.SpanEvent.{SpanEvent}
use Rattle.edit_model.specs.declared.events.SpanChange.{SpanChange}
use Rattle.edit_model.specs.declared.events.SpanChange.TheVariants.{Added, Moved, Removed}
use Rattle.edit_model.specs.Minds.{Mind, Said, Rules, first_said, replaces, edit_at, unknown, note, pair, pair_lines, swap, limit, squeeze, paint, follow, follow_change, echo, echo_lines, kinds, row_of, rules_of}
use Rattle.edit_model.specs.MindLaws.{IsBrief, IsAnswer, last_kind}

-- ---- one kind

pub no-edits : IsAnswer []
no-edits = record { few = omega arith; brief = tt }

-- one replacement, by at most one unit
one-edit : (start end : ℕ) (units : List ℕ) → length units ≤ 1 → IsAnswer (replaces start end units)
one-edit start end units short = record { few = omega arith; brief = (omega (arith, short), tt) }

pub one-said : (test : Bool) (said other : Said) → IsAnswer said.edits → IsAnswer other.edits → IsAnswer (cond test said other).edits
one-said true said other here there = here
one-said false said other here there = there

-- where each line of a table is an answer, and the last word is, the table gives one
first-said : (lines : List (Bool × Said)) (other : Said) → AllByRecursion (λ line. IsAnswer line.1.edits) lines → IsAnswer other.edits
    → IsAnswer (first_said lines other).edits
first-said [] other each last = last
first-said (line ∷ lines) other each last = one-said line.0 line.1 (first_said lines other) each.0 (first-said lines other each.1 last)

pub record IsBriefKind (rules : Rules) : Type 0 where
  pub after : (mind : Mind) (event : TextEvent) (units : List ℕ) → IsAnswer (rules.after mind event units).edits
  pub span : (mind : Mind) (event : SpanEvent) (units : List ℕ) → IsAnswer (rules.span mind event units)

brief-unknown : IsBriefKind unknown
brief-unknown = record { after = λ mind event units. no-edits; span = λ mind event units. no-edits }

brief-note : IsBriefKind note
brief-note = record { after = λ mind event units. no-edits; span = λ mind event units. no-edits }

brief-pair : IsBriefKind pair
brief-pair = record {
  after = λ mind event units. first-said (pair_lines mind event units) _
      (one-edit _ _ _ (omega arith), (one-edit _ _ _ (omega arith), (no-edits, tt))) no-edits;
  span = λ mind event units. no-edits;
}

one-brief : (edit : Edit) → IsBrief edit → IsAnswer (edit ∷ [])
one-brief edit brief = record { few = omega arith; brief = (brief, tt) }

-- one edit at a place, where there is one
at-place : (edits : ℕ → List Edit) → ((at : ℕ) → IsAnswer (edits at)) → (at : Option ℕ) → IsAnswer (edit_at edits at)
at-place edits each None = no-edits
at-place edits each (Some at) = each at

pub one-if : (test : Bool) (edits : List Edit) → IsAnswer edits → IsAnswer (cond test edits [])
one-if true edits here = here
one-if false edits here = no-edits

brief-swap : IsBriefKind swap
brief-swap = record {
  after = λ mind event units. at-place _ (λ at. one-edit _ _ _ (omega arith)) _;
  span = λ mind event units. no-edits;
}

brief-limit : IsBriefKind limit
brief-limit = record {
  after = λ mind event units. one-if _ _ (one-edit _ _ _ (omega arith));
  span = λ mind event units. no-edits;
}

brief-squeeze : IsBriefKind squeeze
brief-squeeze = record {
  after = λ mind event units. at-place _ (λ at. one-edit _ _ _ (omega arith)) _;
  span = λ mind event units. no-edits;
}

brief-paint : IsBriefKind paint
brief-paint = record {
  after = λ mind event units. one-if _ _ (one-brief _ tt);
  span = λ mind event units. no-edits;
}

follows-briefly : (change : SpanChange) (target : ℕ) (event : SpanEvent) → IsAnswer (follow_change change target event)
follows-briefly Added target event = one-brief _ tt
follows-briefly Moved target event = one-brief _ tt
follows-briefly Removed target event = one-brief _ tt

brief-follow : IsBriefKind follow
brief-follow = record {
  after = λ mind event units. no-edits;
  span = λ mind event units. one-if _ _ (follows-briefly event.change _ event);
}

brief-echo : IsBriefKind echo
brief-echo = record {
  after = λ mind event units. first-said (echo_lines mind event units) _ (one-edit _ _ _ (omega arith), tt) no-edits;
  span = λ mind event units. no-edits;
}

-- ---- the table

one-row : (P : Rules → Type 0) (test : Bool) (here there : Rules) → P here → P there → P (cond test here there)
one-row P true here there p q = p
one-row P false here there p q = q

of-row : (P : Rules → Type 0) (kind : ℕ) (rows : List (ℕ × Rules)) → AllByRecursion (λ row. P row.1) rows → P unknown → P (row_of kind rows)
of-row P kind [] each other = other
of-row P kind (row ∷ rows) each other = one-row P (eqb kind row.0) row.1 (row_of kind rows) each.0 (of-row P kind rows each.1 other)

pub brief-kind : (kind : ℕ) → IsBriefKind (rules_of kind)
brief-kind kind = of-row IsBriefKind kind kinds
    (brief-note, (brief-pair, (brief-swap, (brief-limit, (brief-squeeze, (brief-paint, (brief-follow, (brief-echo, tt)))))))) brief-unknown

no-row : (kind : ℕ) (rows : List (ℕ × Rules)) → AllByRecursion (λ row. eqb kind row.0 ≡ false) rows → row_of kind rows ≡ unknown
no-row kind [] each = refl
no-row kind (row ∷ rows) each = rw each.0 (no-row kind rows each.1)

pub no-rules : (kind : ℕ) → last_kind < kind → rules_of kind ≡ unknown
no-rules kind behind =
    let other = λ (number : ℕ) (below : number < kind). ne_eqb kind number (omega (arith, below)) in
    no-row kind kinds (
      other 0 (omega (arith, behind)),
      (
        other 1 (omega (arith, behind)),
        (
          other 2 (omega (arith, behind)),
          (
            other 3 (omega (arith, behind)),
            (other 4 (omega (arith, behind)), (other 5 (omega (arith, behind)), (other 6 (omega (arith, behind)), (other 7 (omega (arith, behind)), tt)))),
          ),
        ),
      ),
    )
