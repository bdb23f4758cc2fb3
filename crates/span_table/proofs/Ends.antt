-- One end as the gap moves, takes units, or lets units go.
use Rattle.std.proofs.Common.{◌≡◌, ℕ, ◌<◌, ◌≤◌, ◌+◌, ◌-◌, ◌*◌, ◌/◌, Bool, true, false, ◌&&◌, nat_lt, nat_le, min, max, arith, refl, sym, ap, ◌∙◌}
use Rattle.std.proofs.lemmas.Bool.Decides.{nat_tests}
use Rattle.span_table.specs.Slots.{IsShut}
use Rattle.span_table.specs.Numbers.{bare_of, crosses, bound, closed, number_at, opened, place_of, pushed, shut, IsClear, IsNumber}

-- ---- a place, and its number

half_bare : (points : Bool) (place : ℕ) → bare_of points place / 2 ≡ place
half_bare true place = omega arith
half_bare false place = omega arith

shut_opened : (gap room bare : ℕ) → shut gap room (opened gap room bare) ≡ bare
shut_opened gap room bare = grind (arith, nat_tests)

pub number_place : (gap room : ℕ) (points : Bool) (place : ℕ) → place_of gap room (number_at gap room points place) ≡ place
number_place gap room points place = ap (λ n. n / 2) (shut_opened gap room (bare_of points place)) ∙ half_bare points place

pub number_valid : (gap room : ℕ) (points : Bool) (place : ℕ) → place < bound → IsNumber gap room points (number_at gap room points place)
number_valid gap room points place fits =
    let back = number_place gap room points place in
    record { is = ap (number_at gap room points) (sym back); fits = omega (arith, back) }

-- a number without its gap
shut_bare : (gap room : ℕ) (points : Bool) (number : ℕ) → IsNumber gap room points number
    → shut gap room number ≡ bare_of points (place_of gap room number)
shut_bare gap room points number valid = ap (shut gap room) valid.is ∙ shut_opened gap room (bare_of points (place_of gap room number))

-- the same end round another gap
pub carried_number : (old_gap old_room gap room : ℕ) (points : Bool) (number : ℕ) → IsNumber old_gap old_room points number
    → opened gap room (shut old_gap old_room number) ≡ number_at gap room points (place_of old_gap old_room number)
carried_number old_gap old_room gap room points number valid = ap (opened gap room) (shut_bare old_gap old_room points number valid)

-- what is the number of a place with one gap is that of another place with another gap
elsewhere : (gap room other_gap other_room : ℕ) (points : Bool) (number to : ℕ) → IsNumber gap room points number
    → number_at gap room points (place_of gap room number) ≡ number_at other_gap other_room points to → place_of other_gap other_room number ≡ to
elsewhere gap room other_gap other_room points number to valid same =
    ap (place_of other_gap other_room) (valid.is ∙ same) ∙ number_place other_gap other_room points to

elsewhere_valid : (gap room other_gap other_room : ℕ) (points : Bool) (number to : ℕ) → IsNumber gap room points number
    → number_at gap room points (place_of gap room number) ≡ number_at other_gap other_room points to → to < bound
    → IsNumber other_gap other_room points number
elsewhere_valid gap room other_gap other_room points number to valid same fits =
    let back = elsewhere gap room other_gap other_room points number to valid same in
    record { is = valid.is ∙ same ∙ ap (number_at other_gap other_room points) (sym back); fits = omega (arith, back, fits) }

abbrev crosses_bare : ℕ → ℕ → ℕ → Bool
crosses_bare gap to bare = nat_lt (2 * min gap to) bare && nat_le bare (2 * max gap to)

opened_behind : (gap room bare number : ℕ) → number ≡ opened gap room bare → 2 * gap < number → 2 * room ≤ number
opened_behind gap room bare number is past = grind (arith, nat_tests)

-- it can be read
pub number_shut : (gap room : ℕ) (points : Bool) (number : ℕ) → IsNumber gap room points number → IsShut gap room number
number_shut gap room points number valid = record {
  opens = valid.is ∙ sym (ap (opened gap room) (shut_bare gap room points number valid));
  behind = opened_behind gap room (bare_of points (place_of gap room number)) number valid.is;
  fits = valid.fits;
}

-- ---- the gap goes elsewhere, and stays as long

risen_bare : (gap to room bare number : ℕ) → number ≡ opened gap room bare → to < gap → crosses_bare gap to bare ≡ true → number + 2 * room ≡ opened to room bare
risen_bare gap to room bare number is order between = grind (arith, nat_tests)

fallen_bare : (gap to room bare number : ℕ) → number ≡ opened gap room bare → gap ≤ to → crosses_bare gap to bare ≡ true → number - 2 * room ≡ opened to room bare
fallen_bare gap to room bare number is order between = grind (arith, nat_tests)

lowest_bare : (gap to room bare number : ℕ) → number ≡ opened gap room bare → gap ≤ to → crosses_bare gap to bare ≡ true → 2 * room ≤ number
lowest_bare gap to room bare number is order between = grind (arith, nat_tests)

stood_bare : (gap to room bare number : ℕ) → number ≡ opened gap room bare → crosses_bare gap to bare ≡ false → opened to room bare ≡ number
stood_bare gap to room bare number is beside = grind (arith, nat_tests)

pub risen : (gap to room number : ℕ) → IsShut gap room number → to < gap → crosses gap to room number ≡ true
    → number + 2 * room ≡ opened to room (shut gap room number)
risen gap to room number valid = risen_bare gap to room (shut gap room number) number valid.opens

pub fallen : (gap to room number : ℕ) → IsShut gap room number → gap ≤ to → crosses gap to room number ≡ true
    → number - 2 * room ≡ opened to room (shut gap room number)
fallen gap to room number valid = fallen_bare gap to room (shut gap room number) number valid.opens

pub lowest : (gap to room number : ℕ) → IsShut gap room number → gap ≤ to → crosses gap to room number ≡ true → 2 * room ≤ number
lowest gap to room number valid = lowest_bare gap to room (shut gap room number) number valid.opens

pub stood : (gap to room number : ℕ) → IsShut gap room number → crosses gap to room number ≡ false
    → opened to room (shut gap room number) ≡ number
stood gap to room number valid = stood_bare gap to room (shut gap room number) number valid.opens

-- ---- n units come at the gap

pushed_number : (gap room n : ℕ) (points : Bool) (place : ℕ) → n ≤ room
    → number_at gap room points place ≡ number_at (gap + n) (room - n) points (pushed gap n points place)
pushed_number gap room n true place within = grind (arith, nat_tests)
pushed_number gap room n false place within = grind (arith, nat_tests)

pushed_fits : (gap n : ℕ) (points : Bool) (place : ℕ) → place + n < bound → pushed gap n points place < bound
pushed_fits gap n true place fits = grind (arith, nat_tests)
pushed_fits gap n false place fits = grind (arith, nat_tests)

pub pushed_place : (gap room n : ℕ) (points : Bool) (number : ℕ) → n ≤ room → IsNumber gap room points number
    → place_of (gap + n) (room - n) number ≡ pushed gap n points (place_of gap room number)
pushed_place gap room n points number within valid =
    elsewhere gap room (gap + n) (room - n) points number _ valid (pushed_number gap room n points (place_of gap room number) within)

pub pushed_valid : (gap room n : ℕ) (points : Bool) (number : ℕ) → n ≤ room → IsNumber gap room points number → place_of gap room number + n < bound
    → IsNumber (gap + n) (room - n) points number
pushed_valid gap room n points number within valid fits =
    elsewhere_valid gap room (gap + n) (room - n) points number _ valid (pushed_number gap room n points (place_of gap room number) within)
    (pushed_fits gap n points (place_of gap room number) fits)

-- ---- the units from s to the gap go

closed_number : (s gap room : ℕ) (points : Bool) (place : ℕ) → s ≤ gap → IsClear s gap points place
    → number_at gap room points place ≡ number_at s (room + (gap - s)) points (closed s gap place)
closed_number s gap room true place order clear = let off = clear.point refl in let out = clear.outside in grind (arith, nat_tests)
closed_number s gap room false place order clear = let off = clear.mark refl in let out = clear.outside in grind (arith, nat_tests)

closed_fits : (s gap place : ℕ) → place < bound → closed s gap place < bound
closed_fits s gap place fits = grind (arith, nat_tests)

pub closed_place : (s gap room : ℕ) (points : Bool) (number : ℕ) → s ≤ gap → IsNumber gap room points number
    → IsClear s gap points (place_of gap room number) → place_of s (room + (gap - s)) number ≡ closed s gap (place_of gap room number)
closed_place s gap room points number order valid clear =
    elsewhere gap room s (room + (gap - s)) points number _ valid (closed_number s gap room points (place_of gap room number) order clear)

pub closed_valid : (s gap room : ℕ) (points : Bool) (number : ℕ) → s ≤ gap → IsNumber gap room points number
    → IsClear s gap points (place_of gap room number) → IsNumber s (room + (gap - s)) points number
closed_valid s gap room points number order valid clear =
    elsewhere_valid gap room s (room + (gap - s)) points number _ valid (closed_number s gap room points (place_of gap room number) order clear)
    (closed_fits s gap (place_of gap room number) valid.fits)
