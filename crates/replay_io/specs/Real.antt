-- What is known of the real files and of standard output.
use Rattle.std.specs.Prelude.{ℕ, ◌++◌, List, [], ◌∷◌, Bool, true, false, Option, None}
use Rattle.replay_io.specs.Outside.{Asked, begun_name, refused_name}
use Rattle.replay_io.specs.Counted.{one_more}

-- the names asked for, whether a file was begun, what std says is left of it, and how many calls failed
pub record RealFiles : Type 0 where
  pub asked : List Asked
  pub reading : Bool
  pub left : Option (List ℕ)
  pub faults : ℕ

-- no file was asked for yet
abbrev pub unasked : RealFiles
unasked = record { asked = []; reading = false; left = None; faults = 0 }

-- behind a call that began the file of a name
abbrev pub opened : List ℕ → RealFiles → RealFiles
opened name files = record files { asked = files.asked ++ begun_name name ∷ []; reading = true }

-- behind a call that refused a name
abbrev pub unopened : List ℕ → RealFiles → RealFiles
unopened name files = record files { asked = files.asked ++ refused_name name ∷ []; faults = one_more files.faults }

-- behind a read that failed
abbrev pub unread : RealFiles → RealFiles
unread files = record files { faults = one_more files.faults }

-- the same with this left of the file
abbrev pub left_with : Option (List ℕ) → RealFiles → RealFiles
left_with left files = record files { left = left }

-- what std says that a writer holds, and how many calls failed
pub record RealOutput : Type 0 where
  pub held : Option (List ℕ)
  pub faults : ℕ
