-- What the loads of a command gave.
use Rattle.std.specs.Prelude.{◌≡◌, ℕ, ◌+◌, ◌<◌, ◌≤◌, zero, suc, length, take, List, [], ◌∷◌, Option, Some, IfSome, slice_get, All}
use Rattle.st_outside.specs.Counts.{one_more}
use Rattle.st_outside.specs.Files.{bytes_of, IsLonger}
use Rattle.st_tool.specs.declared.loads.Loaded.{Loaded}
use Rattle.st_tool.specs.declared.loads.Loaded.TheVariants.{Given, Failed, TooLong}

-- the names and bytes that are held, where that is told
abbrev pub Held : Type 0
Held = Option (List (List ℕ × List ℕ))

-- what a source of files counts: its loads, its faults, and the name whose load failed last
pub record Counts : Type 0 where
  pub loads : ℕ
  pub faults : ℕ
  pub last : Option (List ℕ)

-- so many loads, so many faults, and this name as the one whose load failed last
abbrev pub counts_of : ℕ → ℕ → Option (List ℕ) → Counts
counts_of loads faults last = record { loads = loads; faults = faults; last = last }

-- a count that was raised so often
abbrev pub raised : ℕ → ℕ → ℕ
raised count zero = count
raised count (suc times) = one_more (raised count times)

-- a file keeps the limit, and these are its bytes where that is told
pub record IsGiven (held : Held) (limit : ℕ) (name bytes : List ℕ) : Type 0 where
  pub short : length bytes ≤ limit
  pub holds : IfSome held (λ entries. bytes_of entries name ≡ Some bytes)

-- all these files keep the limit, and these are their bytes where that is told
abbrev pub AreGiven : Held → ℕ → List (List ℕ) → List (List ℕ) → Type 0
AreGiven held limit [] [] = Unit {0}
AreGiven held limit (name ∷ names) (bytes ∷ files) =
    IsGiven held limit name bytes × AreGiven held limit names files
AreGiven held limit [] (bytes ∷ files) = ⊥
AreGiven held limit (name ∷ names) [] = ⊥

-- every file was given
pub record GivesAll (held : Held) (limit : ℕ) (names files : List (List ℕ))
    (before after : Counts) : Type 0 where
  pub given : AreGiven held limit names files
  pub loads : after.loads ≡ raised before.loads (length names)
  pub faults : after.faults ≡ before.faults
  pub last : after.last ≡ before.last

-- the load of that number failed, and every file before it was given
pub record FailsAt (held : Held) (limit : ℕ) (names : List (List ℕ)) (number : ℕ)
    (before after : Counts) : Type 0 where
  pub name : List ℕ
  pub is_name : slice_get names number ≡ Some name
  pub files : List (List ℕ)
  pub given : AreGiven held limit (take number names) files
  pub loads : after.loads ≡ raised before.loads (number + 1)
  pub faults : after.faults ≡ one_more before.faults
  pub last : after.last ≡ Some name

-- the file of that number is too long, and every file before it was given
pub record IsTooLongAt (held : Held) (limit : ℕ) (names : List (List ℕ)) (number : ℕ)
    (before after : Counts) : Type 0 where
  pub name : List ℕ
  pub is_name : slice_get names number ≡ Some name
  pub longer : IfSome held (IsLonger limit name)
  pub files : List (List ℕ)
  pub given : AreGiven held limit (take number names) files
  pub loads : after.loads ≡ raised before.loads (number + 1)
  pub faults : after.faults ≡ before.faults
  pub last : after.last ≡ before.last

-- what came of loading these files in order
abbrev pub LoadsTo : Held → ℕ → List (List ℕ) → Counts → Loaded → Counts → Type 0
LoadsTo held limit names before (Given files) after = GivesAll held limit names files before after
LoadsTo held limit names before (Failed number) after = FailsAt held limit names number before after
LoadsTo held limit names before (TooLong number) after =
    IsTooLongAt held limit names number before after

-- there is a name for each file that was given, which keeps the limit, and for the one that was not
abbrev pub FitsNames : ℕ → Loaded → List (List ℕ) → Type 0
FitsNames limit (Given files) names =
    (length files ≡ length names) × All (λ bytes. length bytes ≤ limit) files
FitsNames limit (Failed number) names = number < length names
FitsNames limit (TooLong number) names = number < length names
