-- The copies of a server: a finite map from file names to a version and a content. No copy of version 0 is kept.
use Rattle.std.specs.Prelude.{◌≡◌, ◌≢◌, ◌<◌, ◌≤◌, ℕ, Bool, List, ◌∷◌, Option, Some, None, if◌then◌else◌, nat_lt, [], refl}
use Rattle.std.specs.{Coded.{Coded, code_by, coded×, coded_list, coded_ℕ}, Ordering.nat_cmp}
use Rattle.std.specs.{declared.cmp.Ordering.Ordering, Cmp.Lexicographic.slice_cmp}
use Rattle.std.specs.FinMap as map
use Rattle.tq_store.specs.declared.{copies.FileCopy.FileCopy, write.Write.Write}

-- file names in their order, by their bytes
abbrev pub name_cmp : List ℕ → List ℕ → Ordering
name_cmp = slice_cmp nat_cmp

-- what contracts see of the copies: each file's by its name
abbrev pub Files : Type 0
Files = map.FinMap name_cmp FileCopy

-- the copy of that version and content
abbrev pub copy_with : ℕ → List ℕ → FileCopy
copy_with version content = record { version = version; content = content }

-- the copy of a file: version 0 and no content where it was never written
abbrev pub copy_at : Option FileCopy → FileCopy
copy_at None = record { version = 0; content = [] }
copy_at (Some copy) = copy

-- the copy that these files have of a name
abbrev pub copy_of : Files → List ℕ → FileCopy
copy_of files name = copy_at (map.get files name)

-- the files after a copy comes: the greater version stays, at equal ones the copy that is there
abbrev pub copies_after_install : Files → List ℕ → FileCopy → Files
copies_after_install files name copy = if nat_lt (copy_of files name).version copy.version then map.insert files name copy else files

-- no file has a lower version than before
abbrev pub OnlyRises : Files → Files → Type 0
OnlyRises old new = (name : List ℕ) → (copy_of old name).version ≤ (copy_of new name).version

-- a copy came: the greater version stays, at equal ones the copy that was there, and the other files keep theirs
pub record Installs (old new : Files) (name : List ℕ) (copy : FileCopy) : Type 0 where
  pub newer : (copy_of old name).version < copy.version → copy_of new name ≡ copy
  pub no_newer : copy.version ≤ (copy_of old name).version → copy_of new name ≡ copy_of old name
  pub others : (other : List ℕ) → other ≢ name → copy_of new other ≡ copy_of old other

-- the copy that a write makes
abbrev pub copy_in : Write → FileCopy
copy_in write = record { version = write.version; content = write.content }

-- the files after the writes come, one after another
abbrev pub installed_all : Files → List Write → Files
installed_all files [] = files
installed_all files (write ∷ writes) = installed_all (copies_after_install files write.file (copy_in write)) writes

-- the write's version is above that of the copy
abbrev pub is_newer : Files → Write → Bool
is_newer files write = nat_lt (copy_of files write.file).version write.version

-- what contracts see: the copies, and how many more fit with no memory asked for
pub record CopiesView : Type 0 where
  pub files : Files
  pub room : ℕ

-- a copy as one value of a code
abbrev pub copy_code : Coded FileCopy
copy_code = code_by (ℕ × List ℕ) (coded× coded_ℕ (coded_list coded_ℕ)) (λ c. (c.version, c.content)) (λ p. record { version = p.0; content = p.1 }) (λ _. refl)

-- the copies by name as one value of a code
abbrev pub files_code : Coded Files
files_code = map.code (coded_list coded_ℕ) copy_code

-- the copies with their room as one value of a code
abbrev pub copies_code : Coded CopiesView
copies_code = code_by (Files × ℕ) (coded× files_code coded_ℕ) (λ c. (c.files, c.room)) (λ p. record { files = p.0; room = p.1 }) (λ _. refl)
