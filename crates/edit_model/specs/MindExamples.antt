-- Worked examples of loading, of answers and of minds.
use Rattle.std.specs.Prelude.{ℕ, ◌≡◌, pos, true, List, [], ◌∷◌, Option, None, Some, codes}
use Rattle.edit_base.specs.declared.edits.Edit.TheVariants.{SetSpan, RemoveSpan}
use Rattle.edit_base.specs.declared.kinds.What.TheVariants.{Tag, Face}
use Rattle.edit_model.specs.declared.events.TextEvent.{TextEvent}
use Rattle.edit_model.specs.declared.events.SpanEvent.{SpanEvent}
use Rattle.edit_model.specs.declared.events.SpanChange.{SpanChange}
use Rattle.edit_model.specs.declared.events.SpanChange.TheVariants.{Added, Moved, Removed}
use Rattle.edit_model.specs.Minds.{Mind, blank_mind, loaded_mind, mind_before, mind_after, answer_after, mind_span, answer_span, replaces}

-- a loaded mind
abbrev pub loaded : ℕ → List ℕ → ℕ → Option ℕ → Mind
loaded kind numbers calls place = record { kind = kind; loaded = true; numbers = numbers; calls = calls; place = place }

-- units that came at a place where none went
abbrev pub came : ℕ → ℕ → ℕ → TextEvent
came depth start count = record { depth = depth; start = start; before = 0; after = count }

-- units that went at a place where none came
abbrev pub went : ℕ → ℕ → TextEvent
went start count = record { depth = 0; start = start; before = count; after = 0 }

-- what became of a span whose end was 2, by its id and its new places
abbrev pub became : SpanChange → ℕ → ℕ → ℕ → SpanEvent
became change id start end = record { depth = 0; id = id; change = change; old_start = 0; old_end = 2; start = start; end = end }

-- a blank mind of a kind is loaded with these numbers
abbrev pub Takes : ℕ → List ℕ → Type 0
Takes kind numbers = loaded_mind (blank_mind kind) numbers ≡ Some (loaded kind numbers 0 None)

-- a blank mind of a kind isn't loaded with these numbers
abbrev pub Refuses : ℕ → List ℕ → Type 0
Refuses kind numbers = loaded_mind (blank_mind kind) numbers ≡ None

-- `pair` takes two units that differ, `note` takes no numbers, and a kind behind the last one is never loaded; a loaded mind
-- isn't loaded again
abbrev pub LoadsMinds : Type 0
LoadsMinds =
    Takes 1 (40 ∷ 41 ∷ [])
    × Refuses 1 (40 ∷ 40 ∷ [])
    × Refuses 1 (40 ∷ 65536 ∷ [])
    × Refuses 1 (40 ∷ [])
    × Takes 0 []
    × Refuses 0 (1 ∷ [])
    × Refuses 8 []
    × (loaded_mind (loaded 7 [] 3 None) [] ≡ None)

-- `swap` takes two units that differ, `limit` one length of a text, and `squeeze` no numbers
abbrev pub LoadsForTexts : Type 0
LoadsForTexts =
    Takes 2 (65535 ∷ 0 ∷ [])
    × Refuses 2 (97 ∷ 97 ∷ [])
    × Refuses 2 (65536 ∷ 97 ∷ [])
    × Refuses 2 (97 ∷ 65536 ∷ [])
    × Takes 3 (0 ∷ [])
    × Takes 3 (1048576 ∷ [])
    × Refuses 3 (1048577 ∷ [])
    × Refuses 3 []
    × Refuses 3 (1 ∷ 2 ∷ [])
    × Takes 4 []
    × Refuses 4 (32 ∷ [])

-- `paint` takes an id of no kept span and a face, and `follow` two such ids that differ
abbrev pub LoadsForSpans : Type 0
LoadsForSpans =
    Takes 5 (3 ∷ 255 ∷ [])
    × Refuses 5 (2 ∷ 255 ∷ [])
    × Refuses 5 (3 ∷ 256 ∷ [])
    × Refuses 5 (3 ∷ [])
    × Takes 6 (4294967295 ∷ 3 ∷ [])
    × Refuses 6 (3 ∷ 3 ∷ [])
    × Refuses 6 (2 ∷ 3 ∷ [])
    × Refuses 6 (3 ∷ 2 ∷ [])
    × Refuses 6 (3 ∷ 4 ∷ 5 ∷ [])

-- `pair` with the parentheses: an opener, and a closer typed over the one that it brought, by a command, not by an answer
abbrev pub PairsUnits : Type 0
PairsUnits =
    (answer_after (loaded 1 (40 ∷ 41 ∷ []) 2 None) (came 0 0 1) (codes "(") ≡ replaces 1 1 (41 ∷ []))
    × (mind_after (loaded 1 (40 ∷ 41 ∷ []) 2 None) (came 0 0 1) (codes "(") ≡ loaded 1 (40 ∷ 41 ∷ []) 3 (Some 1))
    × (answer_after (loaded 1 (40 ∷ 41 ∷ []) 5 (Some 1)) (came 0 1 1) (codes "())") ≡ replaces 2 3 [])
    × (mind_after (loaded 1 (40 ∷ 41 ∷ []) 5 (Some 1)) (came 0 1 1) (codes "())") ≡ loaded 1 (40 ∷ 41 ∷ []) 6 None)
    × (answer_after (loaded 1 (40 ∷ 41 ∷ []) 5 (Some 1)) (came 1 1 1) (codes "())") ≡ [])
    × (mind_after (loaded 1 (40 ∷ 41 ∷ []) 5 (Some 1)) (came 1 1 1) (codes "())") ≡ loaded 1 (40 ∷ 41 ∷ []) 6 (Some 1))
    × (mind_after (loaded 1 (40 ∷ 41 ∷ []) 5 (Some 1)) (came 0 0 1) (codes "a())") ≡ loaded 1 (40 ∷ 41 ∷ []) 6 None)

-- `swap` of `a` for `b`: the first of several that came, and none where none came, or where those that came are gone
abbrev pub SwapsUnits : Type 0
SwapsUnits =
    (answer_after (loaded 2 (97 ∷ 98 ∷ []) 0 None) (came 0 1 3) (codes "acaaa") ≡ replaces 2 3 (98 ∷ []))
    × (answer_after (loaded 2 (97 ∷ 98 ∷ []) 0 None) (came 3 1 1) (codes "aaa") ≡ replaces 1 2 (98 ∷ []))
    × (answer_after (loaded 2 (97 ∷ 98 ∷ []) 0 None) (came 0 1 2) (codes "abca") ≡ [])
    × (answer_after (loaded 2 (97 ∷ 98 ∷ []) 0 None) (went 0 2) (codes "a") ≡ [])
    × (answer_after (loaded 2 (97 ∷ 98 ∷ []) 0 None) (came 0 1 9) (codes "aba") ≡ replaces 2 3 (98 ∷ []))
    × (answer_after (loaded 2 (97 ∷ 98 ∷ []) 0 None) (came 0 1 9) (codes "abb") ≡ [])
    × (answer_after (loaded 2 (97 ∷ 98 ∷ []) 0 None) (came 0 5 2) (codes "aaa") ≡ [])
    × (answer_after (loaded 2 (0 ∷ 98 ∷ []) 0 None) (came 0 0 2) [] ≡ [])
    × (mind_after (loaded 2 (97 ∷ 98 ∷ []) 4 None) (came 0 0 1) (codes "a") ≡ loaded 2 (97 ∷ 98 ∷ []) 5 None)
    × (answer_after (blank_mind 2) (came 0 0 1) (codes "a") ≡ [])

-- `limit`: nothing goes of a text of the length, and what is behind the length of a longer one, wherever it came
abbrev pub KeepsToLength : Type 0
KeepsToLength =
    (answer_after (loaded 3 (3 ∷ []) 0 None) (came 0 0 3) (codes "abc") ≡ [])
    × (answer_after (loaded 3 (3 ∷ []) 0 None) (came 0 0 4) (codes "abcd") ≡ replaces 3 4 [])
    × (answer_after (loaded 3 (3 ∷ []) 0 None) (went 0 2) (codes "abcdef") ≡ replaces 3 6 [])
    × (answer_after (loaded 3 (0 ∷ []) 0 None) (came 0 0 1) (codes "a") ≡ replaces 0 1 [])
    × (answer_after (loaded 3 (0 ∷ []) 0 None) (went 0 1) [] ≡ [])
    × (mind_after (loaded 3 (3 ∷ []) 4 None) (came 0 0 4) (codes "abcd") ≡ loaded 3 (3 ∷ []) 5 None)

-- `squeeze`: the first two spaces together, of which the first may stand right before what came, or be the last that came
abbrev pub SqueezesSpaces : Type 0
SqueezesSpaces =
    (answer_after (loaded 4 [] 0 None) (came 0 0 5) (codes "a   b") ≡ replaces 2 3 [])
    × (answer_after (loaded 4 [] 0 None) (came 1 1 1) (codes "  b") ≡ replaces 1 2 [])
    × (answer_after (loaded 4 [] 0 None) (came 0 2 1) (codes "  b") ≡ [])
    × (answer_after (loaded 4 [] 0 None) (came 0 0 1) (codes "  b") ≡ replaces 1 2 [])
    × (answer_after (loaded 4 [] 0 None) (came 0 1 1) (codes "a  b") ≡ replaces 2 3 [])
    × (answer_after (loaded 4 [] 0 None) (came 0 0 1) (codes "a  b") ≡ [])
    × (answer_after (loaded 4 [] 0 None) (went 1 1) (codes "  ") ≡ replaces 1 2 [])
    × (answer_after (loaded 4 [] 0 None) (went 0 1) (codes "  ") ≡ [])
    × (answer_after (loaded 4 [] 0 None) (came 0 0 2) (codes "b ") ≡ [])
    × (answer_after (loaded 4 [] 0 None) (came 0 9 9) (codes "a  ") ≡ [])
    × (mind_after (loaded 4 [] 4 None) (came 0 0 2) (codes "  ") ≡ loaded 4 [] 5 None)

-- `paint`: what came and still stands in the text has the face
abbrev pub PaintsUnits : Type 0
PaintsUnits =
    (answer_after (loaded 5 (20 ∷ 1 ∷ []) 0 None) (came 0 1 2) (codes "abcd") ≡ SetSpan 20 (pos 1) (pos 3) 33 (Face 1) ∷ [])
    × (answer_after (loaded 5 (20 ∷ 1 ∷ []) 0 None) (went 1 2) (codes "ab") ≡ [])
    × (answer_after (loaded 5 (20 ∷ 1 ∷ []) 0 None) (came 0 2 1) (codes "ab") ≡ [])
    × (answer_after (loaded 5 (20 ∷ 1 ∷ []) 0 None) (came 0 1 3) (codes "ab") ≡ SetSpan 20 (pos 1) (pos 2) 33 (Face 1) ∷ [])
    × (mind_after (loaded 5 (20 ∷ 1 ∷ []) 4 None) (came 0 0 1) (codes "a") ≡ loaded 5 (20 ∷ 1 ∷ []) 5 None)
    × (answer_span (loaded 5 (20 ∷ 1 ∷ []) 0 None) (became Added 20 0 2) (codes "ab") ≡ [])

-- `follow`: the target comes to where the followed span is, goes with it, and hears of no other span
abbrev pub FollowsSpans : Type 0
FollowsSpans =
    (answer_span (loaded 6 (20 ∷ 21 ∷ []) 0 None) (became Added 20 0 2) [] ≡ SetSpan 21 (pos 0) (pos 2) 34 (Tag 0) ∷ [])
    × (answer_span (loaded 6 (20 ∷ 21 ∷ []) 0 None) (became Moved 20 1 4) [] ≡ SetSpan 21 (pos 1) (pos 4) 34 (Tag 0) ∷ [])
    × (answer_span (loaded 6 (20 ∷ 21 ∷ []) 0 None) (became Removed 20 0 2) [] ≡ RemoveSpan 21 ∷ [])
    × (answer_span (loaded 6 (20 ∷ 21 ∷ []) 0 None) (became Added 21 0 2) [] ≡ [])
    × (answer_span (loaded 6 (20 ∷ 21 ∷ []) 0 None) (became Removed 5 0 2) [] ≡ [])
    × (answer_after (loaded 6 (20 ∷ 21 ∷ []) 0 None) (came 0 0 1) (codes "a") ≡ [])
    × (mind_span (loaded 6 (20 ∷ 21 ∷ []) 4 None) (became Moved 20 1 4) [] ≡ loaded 6 (20 ∷ 21 ∷ []) 5 None)
    × (answer_span (blank_mind 6) (became Added 20 0 2) [] ≡ [])

-- `echo` says the first unit that came once more; a blank watcher says nothing and counts nothing
abbrev pub SaysAgain : Type 0
SaysAgain =
    (answer_after (loaded 7 [] 0 None) (came 3 1 2) (codes "abc") ≡ replaces 1 1 (98 ∷ []))
    × (answer_after (loaded 7 [] 0 None) (came 0 3 1) (codes "abc") ≡ [])
    × (mind_before (loaded 7 [] 4294967295 None) (came 0 0 1) [] ≡ loaded 7 [] 4294967295 None)
    × (answer_after (blank_mind 7) (came 0 0 1) (codes "a") ≡ [])
    × (mind_after (blank_mind 7) (came 0 0 1) (codes "a") ≡ blank_mind 7)
