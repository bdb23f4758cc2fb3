-- Lists that are changed element by element, in place.
use Rattle.std.proofs.Common.{◌≡◌, ℕ, ◌+◌, ◌<◌, ◌≤◌, List, ◌++◌, map, length, take, drop, get_or, refl, sym, ap, ◌∙◌, arith, add-zero}
use Rattle.std.proofs.Math.ListN.{set}
use Rattle.std.proofs.lemmas.List.{length-set, take_more_set, take_all, drop-set-lt, drop-drop, get_or-drop, map_more, take_at}

-- ys began as xs: its first i elements are those of xs by f, and the others are as they were
pub record MapsInPlace {X : Type 0} (f : X → X) (xs ys : List X) (i : ℕ) : Type 0 where
  pub front : take i ys ≡ map f (take i xs)
  pub rest : drop i ys ≡ drop i xs
  pub long : length ys ≡ length xs

module _ {X : Type 0} {f : X → X} {xs ys : List X} {i : ℕ} (so_far : MapsInPlace f xs ys i) where
  -- the next element is still the old one
  pub maps_read : (d : X) → get_or ys i d ≡ get_or xs i d
  maps_read d = sym (at ys) ∙ ap (λ zs. get_or zs 0 d) so_far.rest ∙ at xs
    where
      at : (zs : List X) → get_or (drop i zs) 0 d ≡ get_or zs i d
      at zs = rw (get_or-drop i zs 0 d, add-zero) refl

  rest_more : drop (i + 1) ys ≡ drop (i + 1) xs
  rest_more = sym (drop-drop 1 i ys) ∙ ap (drop 1) so_far.rest ∙ drop-drop 1 i xs

  pub maps_more : (y d : X) → i < length ys → y ≡ f (get_or ys i d) → MapsInPlace f xs (set ys i y) (i + 1)
  maps_more y d within is =
      let below : i < length xs = omega (arith, so_far.long) in
      record {
        front = rw (take_more_set ys i y within, map_more f xs i d below, so_far.front, is, maps_read d) refl;
        rest = rw (drop-set-lt (i + 1) ys i y (omega arith)) rest_more;
        long = length-set ys i y ∙ so_far.long;
      }

  pub maps_all : length ys ≤ i → ys ≡ map f xs
  maps_all past =
      let below : length xs ≤ i = omega (arith, so_far.long) in
      sym (take_all i ys past) ∙ so_far.front ∙ ap (map f) (take_all i xs below)

-- a vector whose elements are written over in place
pub written_over : {X : Type 0} (n : ℕ) (new old : List X) → length new ≡ n → take n (new ++ drop (length new) old) ≡ new
written_over n new old long = take_at new (drop (length new) old) n long
