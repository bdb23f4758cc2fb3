-- What a query asks of places, of spans and of their numbers.
use Rattle.std.specs.Prelude.{ℕ, ◌<◌, ◌≤◌, ◌&&◌, Bool, List, map, filter, length, nat_lt, slice_index}
use Rattle.std.specs.List.{All, Contains}
use Rattle.edit_base.specs.declared.rows.SpanRow.{SpanRow}
use Rattle.edit_model.specs.State.{Span}
use Rattle.edit_model.specs.Over.{is_picked, least, lies_over, touches}
use Rattle.interval_tree.specs.declared.walk.Asked.{Asked}
use Rattle.interval_tree.specs.declared.walk.Asked.TheVariants.{Over, Touching}
use Rattle.span_table.specs.Numbers.{IsNumber, place_of}
use Rattle.span_table.specs.Table.{span_at}

-- the numbers below this one are those of the places before the start
pub record IsBound (gap room start bound : ℕ) : Type 0 where
  pub below : (points : Bool) (number : ℕ) → IsNumber gap room points number → number < bound → place_of gap room number < start
  pub above : (points : Bool) (number : ℕ) → IsNumber gap room points number → bound ≤ number → start ≤ place_of gap room number

-- the numbers above this one are those of the places behind the end
pub record IsStop (gap room end stop : ℕ) : Type 0 where
  pub below : (points : Bool) (number : ℕ) → IsNumber gap room points number → number ≤ stop → place_of gap room number ≤ end
  pub above : (points : Bool) (number : ℕ) → IsNumber gap room points number → stop < number → end < place_of gap room number

-- the place of a slot among rising ones: how many of them are less
abbrev pub place_in : List ℕ → ℕ → ℕ
place_in slots slot = length (filter (λ other. nat_lt other slot) slots)

-- the row of the span at a place, which is its order
abbrev pub row_at : List Span → ℕ → SpanRow
row_at spans i = record {
  id = (span_at spans i).id;
  start = (span_at spans i).start;
  end = (span_at spans i).end;
  flags = (span_at spans i).flags;
  order = i;
  what = (span_at spans i).what;
}

-- the span answers what is asked of a range
abbrev pub answers : Asked → ℕ → ℕ → Span → Bool
answers (Over pick) start end span = lies_over start end span && is_picked pick span.what
answers Touching start end span = touches start end span

-- the rows among these places that answer it, in the order of the places
unfoldable pub found : Asked → ℕ → ℕ → List Span → List ℕ → List SpanRow
found asked start end spans places = map (row_at spans) (filter (λ i. answers asked start end (span_at spans i)) places)

-- ---- edges

abbrev pub starts_of : List Span → List ℕ
starts_of spans = map (λ span. span.start) spans

abbrev pub ends_of : List Span → List ℕ
ends_of spans = map (λ span. span.end) spans

-- the least of these places behind one and below the limit, else the limit
abbrev pub nearest : ℕ → ℕ → List ℕ → ℕ
nearest after limit places = least limit (filter (λ edge. nat_lt after edge && nat_lt edge limit) places)

-- a slot with the least number of those that are greater than this one
pub record IsFirst (keys order : List ℕ) (number slot : ℕ) : Type 0 where
  pub there : Contains order slot
  pub behind : number < slice_index keys slot
  pub least : All (λ other. number < slice_index keys other → slice_index keys slot ≤ slice_index keys other) order
