-- What several calls of a store or a sink leave together.
use Rattle.std.proofs.Common.{ℕ, ◌≡◌, ◌<◌, ◌≤◌, ◌+◌, ◌-◌, ◌++◌, List, [], length, take, drop, Option, Some, None, Result, Ok, Err, refl, sym, ap, ◌∙◌, arith, append_assoc, length-append}
use Rattle.std.specs.Option.{option_map}
use Rattle.std.proofs.lemmas.List.{take-append-drop, take_at, drop_at, length-take, take-take, take_rest}
use Rattle.std.proofs.Math.Seq.{take-add, take-append-add, drop-append-add}
use Rattle.replay_io.specs.Outside.{HandsOut, Gains, with_more}
use Rattle.replay_io.specs.declared.faults.ReadFault.{ReadFault}
use Rattle.replay_io.specs.declared.whole_files.ReadEnd.{ReadEnd}
use Rattle.replay_io.specs.declared.whole_files.ReadEnd.TheVariants.{Over}

-- these bytes were taken from the front of what was left
abbrev pub Takes : Option (List ℕ) → List ℕ → Option (List ℕ) → Type 0
Takes before taken after = before ≡ option_map (λ rest. taken ++ rest) after

pub Takes-none : (left : Option (List ℕ)) → Takes left [] left
Takes-none None = refl
Takes-none (Some bytes) = refl

pub Takes-more : (a b c : Option (List ℕ)) (xs ys : List ℕ) → Takes a xs b → Takes b ys c → Takes a (xs ++ ys) c
Takes-more a b None xs ys first second = cc
Takes-more a b (Some rest) xs ys first second =
    first ∙ (ap (option_map (λ r. xs ++ r)) second ∙ ap Some (sym (append_assoc xs ys rest)))

pub Takes-from_HandsOut : (before after : Option (List ℕ)) (buffer : List ℕ) (count : ℕ)
    → HandsOut before after buffer count → Takes before (take count buffer) after
Takes-from_HandsOut None after buffer count handed = rw handed
Takes-from_HandsOut (Some bytes) after buffer count handed =
    rw (handed.2, handed.1) (ap Some (sym (take-append-drop count bytes)))

-- the bytes that were taken are the first of those that were left
pub Takes-first : (bytes taken : List ℕ) (after : Option (List ℕ)) → Takes (Some bytes) taken after
    → (taken ≡ take (length taken) bytes) × (after ≡ Some (drop (length taken) bytes)) × (length taken ≤ length bytes)
Takes-first bytes taken None takes = cc
Takes-first bytes taken (Some rest) takes =
    let same : bytes ≡ taken ++ rest = cc in
    rw same (sym (take_at taken rest _ refl), ap Some (sym (drop_at taken rest _ refl)), omega (arith, length-append taken rest))

-- what `out` gained, by the end of a call with this answer
abbrev pub GainsOut : Result ReadEnd ReadFault → Option (List ℕ) → ℕ → List ℕ → List ℕ → Option (List ℕ) → Type 0
GainsOut answer stood limit old new left =
    (gained : List ℕ) × (new ≡ old ++ gained) × (length gained ≤ limit) × Gains answer stood limit gained left

-- after a fault the bytes that were taken are the first of those that were left
Gains-taken : (fault : ReadFault) (stood middle left : Option (List ℕ)) (limit : ℕ) (gained : List ℕ)
    → Takes stood gained middle → Gains (Err fault) stood limit gained left
Gains-taken fault None middle left limit gained takes = tt
Gains-taken fault (Some bytes) middle left limit gained takes = (length gained, (Takes-first bytes gained middle takes).0)

pub GainsOut-fault : (fault : ReadFault) (stood middle left : Option (List ℕ)) (limit room : ℕ) (old kept new gained : List ℕ)
    → kept ≡ old ++ gained → new ≡ kept → length gained + room ≡ limit → Takes stood gained middle
    → GainsOut (Err fault) stood limit old new left
GainsOut-fault fault stood middle left limit room old kept new gained before same filled takes =
    (gained, same ∙ before, omega arith, Gains-taken fault stood middle left limit gained takes)

-- the first bytes of a piece that was handed out are the first of what was left
piece_first : (rest buffer : List ℕ) (room count : ℕ) → take count buffer ≡ take count rest → room < count
    → take room (take count buffer) ≡ take room rest
piece_first rest buffer room count same more = rw same (take-take room count rest (omega arith))

-- more bytes were taken than there was room for
Gains-over : (stood middle left : Option (List ℕ)) (limit room count : ℕ) (gained buffer : List ℕ)
    → Takes stood gained middle → HandsOut middle left buffer count → room < count
    → length gained + room ≡ limit → Gains (Ok Over) stood limit (gained ++ take room (take count buffer)) left
Gains-over None middle left limit room count gained buffer takes handed more filled = tt
Gains-over (Some bytes) None left limit room count gained buffer takes handed more filled = cc
Gains-over (Some bytes) (Some rest) left limit room count gained buffer takes handed more filled =
    let same : bytes ≡ gained ++ rest = cc in
    let first = piece_first rest buffer room count handed.1 more in
    let kept : gained ++ take room (take count buffer) ≡ take limit bytes =
    rw (first, same, ← filled) (sym (take-append-add gained rest room)) in
    let inside : length gained + count ≤ length bytes = rw same (omega (arith, length-append gained rest, handed.0)) in
    let gone : left ≡ Some (drop (length gained + count) bytes) = rw (same, drop-append-add gained rest count) handed.2 in
    (kept, (length gained + count, omega arith, inside, gone))

pub GainsOut-over : (stood middle left : Option (List ℕ)) (limit room count : ℕ) (old kept new gained buffer : List ℕ)
    → kept ≡ old ++ gained → new ≡ kept ++ take room (take count buffer) → length gained + room ≡ limit
    → Takes stood gained middle → HandsOut middle left buffer count → room < count
    → GainsOut (Ok Over) stood limit old new left
GainsOut-over stood middle left limit room count old kept new gained buffer before behind filled takes handed more =
    let piece = take room (take count buffer) in
    let together : new ≡ old ++ (gained ++ piece) = rw (behind, before, append_assoc) in (
      gained ++ piece,
      together,
      omega (arith, length-append gained piece, length-take room (take count buffer)),
      Gains-over stood middle left limit room count gained buffer takes handed more filled,
    )

-- bytes behind bytes behind those that are known
pub with_more-with_more : (known : Option (List ℕ)) (xs ys : List ℕ) → with_more (with_more known xs) ys ≡ with_more known (xs ++ ys)
with_more-with_more None xs ys = refl
with_more-with_more (Some bytes) xs ys = ap Some (append_assoc bytes xs ys)

-- what one more put wrote, of the bytes from a place on
pub put_more : (old middle new : Option (List ℕ)) (bytes : List ℕ) (done count : ℕ)
    → middle ≡ with_more old (take done bytes) → new ≡ with_more middle (take count (take (length bytes - done) (drop done bytes)))
    → new ≡ with_more old (take (done + count) bytes)
put_more old middle new bytes done count first second =
    let piece = take count (drop done bytes) in
    (rw take_rest at second)
    ∙ (ap (λ known. with_more known piece) first
    ∙ (with_more-with_more old (take done bytes) piece ∙ ap (with_more old) (sym (take-add done count bytes))))

-- what is left behind a piece that was put
pub put_within : (bytes : List ℕ) (done count : ℕ) → done ≤ length bytes
    → count ≤ length (take (length bytes - done) (drop done bytes)) → done + count ≤ length bytes
put_within bytes done count before within = omega (arith, length-take (length bytes - done) (drop done bytes))
