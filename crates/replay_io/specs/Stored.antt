-- Files in memory, and what was read of them.
use Rattle.std.specs.Prelude.{ℕ, zero, suc, ◌+◌, ◌++◌, min, nat_lt, if◌then◌else◌, length, drop, List, [], ◌∷◌, Bool}
use Rattle.std.specs.Str.{bytes_eq}
use Rattle.std.specs.String.{string_bytes}
use Rattle.replay_io.specs.Outside.{Asked, begun_name, refused_name}
use Rattle.replay_io.specs.declared.stored.StoredFile.{StoredFile}
use Rattle.replay_io.specs.declared.asked.AskedName.{AskedName}

-- a file's name and its bytes
pub record FileBytes : Type 0 where
  pub name : List ℕ
  pub bytes : List ℕ

-- what a stored file is
abbrev pub file_of : StoredFile → FileBytes
file_of file = record { name = string_bytes file.name; bytes = file.bytes.items }

-- what a name that was kept is
abbrev pub asked_of : AskedName → Asked
asked_of kept = record { name = string_bytes kept.name; begun = kept.begun }

-- the place of the first file of a name, or the number of files where none has it
abbrev pub file_place : List ℕ → List FileBytes → ℕ
file_place name [] = 0
file_place name (file ∷ files) = if bytes_eq file.name name then 0 else file_place name files + 1

-- the bytes of the file at a place, and none behind the last file
abbrev pub bytes_at : ℕ → List FileBytes → List ℕ
bytes_at place [] = []
bytes_at zero (file ∷ files) = file.bytes
bytes_at (suc place) (file ∷ files) = bytes_at place files

-- whether a file has the name
abbrev pub is_there : List ℕ → List FileBytes → Bool
is_there name files = nat_lt (file_place name files) (length files)

-- the bytes of the first file of the name, and none where no file has it
abbrev pub bytes_under : List ℕ → List FileBytes → List ℕ
bytes_under name files = bytes_at (file_place name files) files

-- the files, the most bytes that a call hands out, the names asked for, and what is left of the file begun last
pub record Stored : Type 0 where
  pub files : List FileBytes
  pub piece : ℕ
  pub asked : List Asked
  pub left : List ℕ

-- nothing was read yet, and nothing is left
abbrev pub unread : List FileBytes → ℕ → Stored
unread files piece = record { files = files; piece = piece; asked = []; left = [] }

-- behind a call that began the file of a name
abbrev pub after_begin : List ℕ → Stored → Stored
after_begin name stored = record stored { asked = stored.asked ++ begun_name name ∷ []; left = bytes_under name stored.files }

-- behind a call that refused a name
abbrev pub after_refusal : List ℕ → Stored → Stored
after_refusal name stored = record stored { asked = stored.asked ++ refused_name name ∷ [] }

-- how many bytes the next call hands out into a buffer of this length
abbrev pub handed : ℕ → Stored → ℕ
handed room stored = min (min room stored.piece) (length stored.left)

-- behind a call that handed out so many bytes
abbrev pub after_piece : ℕ → Stored → Stored
after_piece count stored = record stored { left = drop count stored.left }
