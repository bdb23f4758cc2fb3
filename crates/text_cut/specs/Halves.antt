-- A text as two slices.
use Rattle.std.specs.Prelude.{ℕ, ◌++◌, List}
use Rattle.text_cut.specs.declared.halves.Halves.{Halves}

abbrev pub joined : Halves → List ℕ
joined text = text.left.now ++ text.right.now
