-- Blocks that are made anew.
use Rattle.std.proofs.Common.{◌≡◌, ℕ, ◌<◌, ◌≤◌, ◌+◌, ◌-◌, ◌*◌, suc, inl, inr, cond, ltb, List, [], ◌∷◌, ◌++◌, length, take, drop, refl, sym, ap, ◌∙◌, subst, arith, length-append, length-drop, append_assoc}
use Rattle.std.specs.List.{concat}
use Rattle.std.proofs.Math.ListN.{set}
use Rattle.std.proofs.Math.Seq.{drop-append-add, take-add}
use Rattle.std.proofs.lemmas.Bool.{cases_lt, cond-true, cond-false, lt-ltb, le-ltb}
use Rattle.std.proofs.lemmas.List.{drop-drop, drop_at, length-take-le, length_push, nil_from_length, set_split, take_at, take_more}
use Rattle.std.proofs.lemmas.List.Elements.{All-cons, All-nil, All-push}
use Rattle.std.proofs.lemmas.List.Folds.{concat-append}
use Rattle.span_order.specs.Blocks.{Keeps, Packed, block_at, size_before, size_behind, start_of}
use Rattle.span_order.specs.Window.{ArePieces, IsWindow, IsWritten, least_piece}
use Rattle.span_order.specs.declared.window.Window.{Window}
use Rattle.span_order.specs.declared.window.Written.{Written}
use Rattle.span_order.proofs.Numbers.{back_at, concat_one, front_at}
use Rattle.span_order.proofs.Packing.{blocks_few, packed_alone, packed_back, packed_closed, packed_front, packed_pieces, before_some, behind_some, one_piece, two_pieces}

-- ---- one block

pub set_at_once : (bs : List (List ℕ)) (b : ℕ) (x : List ℕ) → b < length bs → set bs b x ≡ take b bs ++ (x ∷ drop (b + 1) bs)
set_at_once bs b x inside =
    let e : suc b ≡ b + 1 = omega arith in
    set_split bs b x inside ∙ ap (λ n. take b bs ++ (x ∷ drop n bs)) e

pub replaced_all : (bs : List (List ℕ)) (b i j : ℕ) (x s : List ℕ) → b < length bs
    → i ≤ length (block_at bs b) → j ≤ length (block_at bs b) → x ≡ take i (block_at bs b) ++ (s ++ drop j (block_at bs b))
    → concat (set bs b x) ≡ take (start_of bs b + i) (concat bs) ++ (s ++ drop (start_of bs b + j) (concat bs))
replaced_all bs b i j x s inside first second is =
    let front = front_at bs b i first in
    let back = back_at bs b j second in
    ap concat (set_at_once bs b x inside) ∙ concat-append (take b bs) (x ∷ drop (b + 1) bs)
    ∙ rw (front, back, is) (simp append_assoc)

pub replaced_packed : (bs : List (List ℕ)) (b : ℕ) (x : List ℕ) → Packed bs → b < length bs → 0 < length x
    → 32 < size_before bs b + length x → 32 < length x + size_behind bs (b + 1) → Packed (set bs b x)
replaced_packed bs b x packed inside some before behind =
    let P : ℕ → List ℕ → Type 0 = λ n p. n ≤ length p in
    subst Packed (sym (set_at_once bs b x inside))
    (packed_pieces bs (x ∷ []) b (b + 1) (length x) packed (omega arith) (omega arith)
    (All-cons (λ p. length x ≤ length p) x [] (omega arith) (All-nil (λ p. length x ≤ length p))) some (omega arith) (λ two. absurd (omega arith)) before behind)

-- ---- windows

pub widened_front : (bs : List (List ℕ)) (first : ℕ) (head b : List ℕ) → 0 < first → first ≤ length bs → b ≡ block_at bs (first - 1)
    → concat (take first bs) ++ head ≡ concat (take (first - 1) bs) ++ (b ++ head)
widened_front bs first head b some within is =
    let e : first ≡ first - 1 + 1 = omega arith in
    ap (λ n. concat (take n bs) ++ head) e
    ∙ rw (take_more bs (first - 1) [] (omega arith), concat-append (take (first - 1) bs) (block_at bs (first - 1) ∷ []), concat_one (block_at bs (first - 1)), is)
    (append_assoc (concat (take (first - 1) bs)) (block_at bs (first - 1)) head)

pub window_size : (bs : List (List ℕ)) (front back : List ℕ) (w : Window) → IsWindow bs front back w
    → length (concat (take w.first bs)) + (length w.head + length w.tail) + length (concat (drop w.end bs)) ≡ length front + length back
window_size bs front back w is =
    let first = ap length is.front ∙ length-append (concat (take w.first bs)) w.head in
    let last = ap length is.back ∙ length-append w.tail (concat (drop w.end bs)) in
    omega arith

-- ---- pieces that are written

pub written_long : (old new : List (List ℕ)) (first end : ℕ) (all : List ℕ) (least : ℕ) (w : Written) → IsWritten old new first end all least w
    → end ≤ length old → length new ≡ w.next + (length old - w.over)
written_long old new first end all least w written within =
    let front = length-take-le first old (omega arith) in
    let rest = length-drop w.over old in
    let long = ap length written.is ∙ length-append (take first old) (written.pieces ++ drop w.over old) in
    let longer = length-append written.pieces (drop w.over old) in
    omega arith

pub written_front : (old new : List (List ℕ)) (first end : ℕ) (all : List ℕ) (least : ℕ) (w : Written) → (written : IsWritten old new first end all least w)
    → end ≤ length old → take w.next new ≡ take first old ++ written.pieces
written_front old new first end all least w written within =
    let front = length-take-le first old (omega arith) in
    let long = length-append (take first old) written.pieces in
    ap (take w.next) (written.is ∙ sym (append_assoc (take first old) written.pieces (drop w.over old)))
    ∙ take_at (take first old ++ written.pieces) (drop w.over old) w.next (omega arith)

pub written_back : (old new : List (List ℕ)) (first end : ℕ) (all : List ℕ) (least : ℕ) (w : Written) → (written : IsWritten old new first end all least w)
    → end ≤ length old → (d : ℕ) → drop (w.next + d) new ≡ drop (w.over + d) old
written_back old new first end all least w written within d =
    let front = length-take-le first old (omega arith) in
    let long = length-append (take first old) written.pieces in
    let at : length (take first old ++ written.pieces) ≡ w.next = omega arith in
    ap (drop (w.next + d)) (written.is ∙ sym (append_assoc (take first old) written.pieces (drop w.over old)))
    ∙ ap (λ n. drop (n + d) ((take first old ++ written.pieces) ++ drop w.over old)) (sym at)
    ∙ drop-append-add (take first old ++ written.pieces) (drop w.over old) d
    ∙ drop-drop d w.over old

over_bounds : (over end next : ℕ) → over ≤ end → next ≡ cond (ltb over end) (over + 1) over → (over ≤ next) × (next ≤ end)
over_bounds over end next within is = elim (cases_lt over end) [
  | inl below ↦ (let e = is ∙ cond-true (ltb over end) (over + 1) over (lt-ltb _ _ below) in (omega arith, omega arith))
  | inr not_below ↦ (let e = is ∙ cond-false (ltb over end) (over + 1) over (le-ltb _ _ not_below) in (omega arith, omega arith))
]

-- one piece more
pub written_more : (old new newer : List (List ℕ)) (first end : ℕ) (all : List ℕ) (at count least : ℕ) (w v : Written)
    → IsWritten old new first end (take at all) least w → end ≤ length old → at + count ≤ length all → least ≤ count
    → newer ≡ take w.next new ++ (take count (drop at all) ∷ drop (w.next + (v.over - w.over)) new)
    → v.next ≡ w.next + 1 → v.over ≡ cond (ltb w.over end) (w.over + 1) w.over
    → IsWritten old newer first end (take (at + count) all) least v
written_more old new newer first end all at count least w v written within inside large is next over =
    let piece = take count (drop at all) in
    let bounds = over_bounds w.over end v.over written.within over in
    let rest = length-drop at all in
    let size = length-take-le count (drop at all) (omega arith) in
    let more = length_push written.pieces piece in
    let front = written_front old new first end (take at all) least w written within in
    let back = written_back old new first end (take at all) least w written within (v.over - w.over) in
    let same : w.over + (v.over - w.over) ≡ v.over = omega arith in
    record {
      pieces = written.pieces ++ piece ∷ [];
      are = record {
        joined = concat-append written.pieces (piece ∷ []) ∙ rw (written.are.joined, concat_one piece) (sym (take-add at count all));
        sizes = All-push (λ p. least ≤ length p) written.pieces piece written.are.sizes (omega arith);
      };
      is = is ∙ rw (front, back, same) (simp append_assoc);
      next = omega arith;
      from = omega arith;
      within = bounds.1;
    }

-- what is left of the window is closed
pub closed : (old new : List (List ℕ)) (first end : ℕ) (all : List ℕ) (least : ℕ) (w : Written) → (written : IsWritten old new first end all least w)
    → end ≤ length old → take w.next new ++ drop (w.next + (end - w.over)) new ≡ take first old ++ (written.pieces ++ drop end old)
closed old new first end all least w written within =
    let front = written_front old new first end all least w written within in
    let back = written_back old new first end all least w written within (end - w.over) in
    let same : w.over + (end - w.over) ≡ end = omega (arith, written.within) in
    rw (front, back, same) (append_assoc (take first old) written.pieces (drop end old))

pub rewritten_all : (old ps : List (List ℕ)) (first end : ℕ) (all : List ℕ) → concat ps ≡ all
    → concat (take first old ++ (ps ++ drop end old)) ≡ concat (take first old) ++ (all ++ concat (drop end old))
rewritten_all old ps first end all joined =
    concat-append (take first old) (ps ++ drop end old) ∙ rw (concat-append ps (drop end old), joined) refl

pub rewritten_packed : (old ps : List (List ℕ)) (first end : ℕ) (all : List ℕ) → ArePieces ps all (least_piece (length all))
    → Packed old → first ≤ end → end ≤ length old → 32 < size_before old first + length all → 32 < length all + size_behind old end
    → Packed (take first old ++ (ps ++ drop end old))
rewritten_packed old ps first end all are packed order within before behind =
    let long = ap length are.joined in
    let least = least_piece (length all) in
    elim (cases_lt 0 (length ps)) [
      | inl some ↦ (let one = one_piece ps (least_piece (length all)) are.sizes some in
          let low = before_some old first packed (omega arith) in
          let high = behind_some old end packed in
          packed_pieces old ps first end (least_piece (length all)) packed order within are.sizes (omega arith) some
          (λ two. let both = two_pieces ps (least_piece (length all)) are.sizes two in omega arith) (omega arith) (omega arith))
      | inr none ↦ (let nil = nil_from_length ps (omega arith) in
          let empty : length all ≡ 0 = sym long ∙ ap (λ xs. length (concat xs)) nil in
          subst Packed (ap (λ xs. take first old ++ (xs ++ drop end old)) (sym nil)) (packed_closed old first end packed order within (omega arith)))
    ]

pub rewritten_keeps : (old ps : List (List ℕ)) (first end next : ℕ) → first ≤ end → end ≤ length old → next ≡ first + length ps
    → Keeps old (take first old ++ (ps ++ drop end old)) (record { first = first; old_end = end; end = next })
rewritten_keeps old ps first end next order within is =
    let front = length-take-le first old (omega arith) in
    let long = length-append (take first old) ps in
    let all = length-append (take first old) (ps ++ drop end old) in
    let rest = length-append ps (drop end old) in
    record {
      before = take_at (take first old) (ps ++ drop end old) first front;
      behind = ap (drop next) (sym (append_assoc (take first old) ps (drop end old))) ∙ drop_at (take first old ++ ps) (drop end old) next (omega arith);
      old_order = order;
      old_within = within;
      order = omega arith;
      within = omega arith;
    }

-- there is room for the pieces
pub room_enough : (bs : List (List ℕ)) (first end size room : ℕ) → Packed bs → first ≤ end → end ≤ length bs → 0 < size
    → length (concat (take first bs)) + size + length (concat (drop end bs)) ≤ 16 * (room - 3)
    → 32 * (first + (length bs - end)) + size + 31 ≤ 32 * room
room_enough bs first end size room packed order within some enough =
    let front = blocks_few (take first bs) 33 (packed_front bs first packed) in
    let back = blocks_few (drop end bs) 33 (packed_alone (drop end bs) _ (packed_back bs end packed)) in
    let long = length-take-le first bs (omega arith) in
    let rest = length-drop end bs in
    omega arith
