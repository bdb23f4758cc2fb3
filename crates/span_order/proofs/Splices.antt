-- The tops of blocks behind a splice.
use Rattle.std.proofs.Common.{◌≡◌, ℕ, ◌<◌, ◌≤◌, ◌+◌, ◌-◌, List, [], ◌++◌, length, take, drop, min, max, sym, ap, ◌∙◌, arith}
use Rattle.std.specs.List.{concat}
use Rattle.std.proofs.lemmas.List.{get_or-drop, get_or-take, length-append, length-drop, length-take-le}
use Rattle.span_order.specs.Blocks.{Keeps, block_at, number_of}
use Rattle.span_order.specs.Topped.{IsToppedBut, spliced, top_at}
use Rattle.span_order.specs.declared.places.Changed.{Changed}
use Rattle.span_order.specs.declared.places.Place.{Place}
use Rattle.span_order.specs.declared.tops.Top.{Top}

-- how many slots there are then
pub length_spliced : (bs : List (List ℕ)) (from to : Place) (slots : List ℕ) → number_of bs from ≤ length (concat bs) → number_of bs to ≤ length (concat bs)
    → length (spliced bs from to slots) + number_of bs to ≡ number_of bs from + length slots + length (concat bs)
length_spliced bs from to slots low high =
    omega (
      arith,
      length-append (take (number_of bs from) (concat bs)) (slots ++ drop (number_of bs to) (concat bs)),
      length-append slots (drop (number_of bs to) (concat bs)),
      length-take-le (number_of bs from) (concat bs) low,
      length-drop (number_of bs to) (concat bs),
    )

-- how many blocks there are then
pub length_kept : (old new : List (List ℕ)) (c : Changed) → Keeps old new c → length new + c.old_end ≡ length old + c.end
length_kept old new c keeps =
    let same = ap length keeps.behind in
    omega (arith, length-drop c.end new, length-drop c.old_end old, keeps.old_within, keeps.within)

-- the blocks that a change kept have their tops, where as many tops stand before them
pub kept_topped : (ends : List ℕ) (old new : List (List ℕ)) (tops then : List Top) (c spread : Changed) (from to : ℕ)
    → Keeps old new c → IsToppedBut ends old tops from to
    → spread.first ≡ min c.first from → spread.old_end ≡ max c.old_end to → spread.end + c.old_end ≡ c.end + spread.old_end
    → ((b : ℕ) → b < min spread.old_end spread.end → top_at then b ≡ top_at tops b)
    → ((b : ℕ) → top_at then (spread.end + b) ≡ top_at tops (spread.old_end + b))
    → length then + spread.old_end ≡ length tops + spread.end
    → IsToppedBut ends new then spread.first spread.end
kept_topped ends old new tops then c spread from to keeps topped first old_end end front back long =
    let blocks = length_kept old new c keeps in
    let tops_long = topped.long in
    record {
      long = omega arith;
      before = λ b low within.
          let order = keeps.order in
          let old_order = keeps.old_order in
          let old_within = keeps.old_within in
          let here : b < c.first = grind arith in
          let block : block_at new b ≡ block_at old b =
          sym (get_or-take c.first new b [] here) ∙ ap (λ bs. block_at bs b) keeps.before ∙ get_or-take c.first old b [] here in
          let top = front b (grind arith) in
          rw (block, top) (topped.before b (grind arith) (omega arith));
      behind = λ b low within.
          let order = keeps.order in
          let k = b - spread.end in
          let at : b ≡ spread.end + k = omega arith in
          let more = spread.old_end - c.old_end in
          let new_at : b ≡ c.end + (more + k) = grind arith in
          let old_at : spread.old_end + k ≡ c.old_end + (more + k) = grind arith in
          let block : block_at new b ≡ block_at old (spread.old_end + k) =
          ap (block_at new) new_at ∙ sym (get_or-drop c.end new (more + k) []) ∙ ap (λ bs. block_at bs (more + k)) keeps.behind
          ∙ get_or-drop c.old_end old (more + k) [] ∙ ap (block_at old) (sym old_at) in
          let top = ap (top_at then) at ∙ back k in
          rw (block, top) (topped.behind (spread.old_end + k) (grind arith) (omega arith));
    }
