-- A text as two slices.
use Rattle.std.specs.Prelude.{ℕ, ◌++◌, List}
use Rattle.watcher_kit.specs.declared.text.Text.{Text}

abbrev pub joined : Text → List ℕ
joined text = text.left.now ++ text.right.now
