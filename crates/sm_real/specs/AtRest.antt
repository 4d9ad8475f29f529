-- What of a folder is at rest, and what may still be lost in a crash.
use Rattle.std.specs.Prelude.{◌≡◌, ◌≢◌, ℕ, true, false, IfSome, IsSomeAnd}
use Rattle.sm_real.specs.declared.folder.Folder.{Folder}

-- nothing was written to this file since it was synced
abbrev pub IsSynced : ℕ → Folder → Type 0
IsSynced file folder = IfSome folder.writing (λ writing. writing.file ≡ file → writing.synced ≡ true)

-- and every name in the folder is at rest
abbrev pub IsAtRest : ℕ → Folder → Type 0
IsAtRest file folder = (folder.named ≡ true) × IsSynced file folder

-- this file was written to since it was synced
abbrev pub IsPending : ℕ → Folder → Type 0
IsPending file folder = IsSomeAnd folder.writing (λ writing. (writing.file ≡ file) × (writing.synced ≡ false))

-- nothing is kept that was read of this file
abbrev pub IsUnread : ℕ → Folder → Type 0
IsUnread file folder = IfSome folder.reading (λ reading. reading.file ≢ file)
