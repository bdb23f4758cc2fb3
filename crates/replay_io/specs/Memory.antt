-- What a store and a sink in memory hold, and which of their calls fail.
use Rattle.std.specs.Prelude.{ℕ, ◌-◌, ◌==◌, ◌++◌, nat_lt, min, List, [], length, Bool, not, ◌||◌, ◌&&◌}
use Rattle.replay_io.specs.Counted.{Counted, from_first, is_listed, after_success, after_fault}
use Rattle.replay_io.specs.Stored.{FileBytes, Stored, is_there, unread, after_begin, after_refusal, after_piece}

-- a store in memory: what was read of its files, and its calls
pub record MemoryFiles : Type 0 where
  pub stored : Stored
  pub calls : Counted

-- no call was made yet
abbrev pub fresh : List FileBytes → ℕ → List ℕ → MemoryFiles
fresh files piece failing = record { stored = unread files piece; calls = from_first failing }

-- whether a call for a name fails: its number is listed, or the name isn't there
abbrev pub refuses : List ℕ → MemoryFiles → Bool
refuses name store = is_listed store.calls || not (is_there name store.stored.files)

-- behind a call that began the file of a name
abbrev pub begun : List ℕ → MemoryFiles → MemoryFiles
begun name store = record { stored = after_begin name store.stored; calls = after_success store.calls }

-- behind a call that refused a name
abbrev pub refused : List ℕ → MemoryFiles → MemoryFiles
refused name store = record { stored = after_refusal name store.stored; calls = after_fault store.calls }

-- behind a call that handed out so many bytes
abbrev pub took : ℕ → MemoryFiles → MemoryFiles
took count store = record { stored = after_piece count store.stored; calls = after_success store.calls }

-- behind a call that handed out none, since it failed
abbrev pub failed : MemoryFiles → MemoryFiles
failed store = record store { calls = after_fault store.calls }

-- a sink in memory: what was written, how many more bytes there is room for, the most bytes of a call, and its calls
pub record MemoryBytes : Type 0 where
  pub written : List ℕ
  pub room : ℕ
  pub piece : ℕ
  pub calls : Counted

-- nothing was written yet
abbrev pub blank : ℕ → ℕ → List ℕ → MemoryBytes
blank room piece failing = record { written = []; room = room; piece = piece; calls = from_first failing }

-- whether a call for so many bytes fails: its number is listed, or there are bytes and there is no room
abbrev pub rejects : ℕ → MemoryBytes → Bool
rejects count sink = is_listed sink.calls || (nat_lt 0 count && sink.room == 0)

-- how many of so many bytes a call takes
abbrev pub taken : ℕ → MemoryBytes → ℕ
taken count sink = min (min count sink.piece) sink.room

-- behind a call that took these bytes
abbrev pub holding : List ℕ → MemoryBytes → MemoryBytes
holding bytes sink = record sink {
  written = sink.written ++ bytes;
  room = sink.room - length bytes;
  calls = after_success sink.calls;
}

-- behind a call that took none, since it failed
abbrev pub spurned : MemoryBytes → MemoryBytes
spurned sink = record sink { calls = after_fault sink.calls }
