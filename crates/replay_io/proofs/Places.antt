-- The bytes of the file at a place.
use Rattle.std.proofs.Common.{ℕ, zero, suc, ◌≡◌, ◌<◌, ◌≤◌, List, [], ◌∷◌, length, map, get_or, refl, sym, ap, arith}
use Rattle.replay_io.specs.declared.stored.StoredFile.{StoredFile}
use Rattle.replay_io.specs.Stored.{FileBytes, file_of, bytes_at}

pub bytes_at-past : (place : ℕ) (files : List FileBytes) → length files ≤ place → bytes_at place files ≡ []
bytes_at-past place [] past = refl
bytes_at-past zero (file ∷ files) past = absurd (omega arith)
bytes_at-past (suc place) (file ∷ files) past = bytes_at-past place files (omega arith)

pub bytes_at-get_or : (files : List StoredFile) (place : ℕ) (file : StoredFile) → place < length files
    → file ≡ get_or files place file → bytes_at place (map file_of files) ≡ file.bytes.items
bytes_at-get_or [] place file within is = absurd (omega arith)
bytes_at-get_or (first ∷ files) zero file within is = ap (λ f. f.bytes.items) (sym is)
bytes_at-get_or (first ∷ files) (suc place) file within is = bytes_at-get_or files place file (omega arith) is
