-- What a source of files holds, what a load answers, and what it does to the counts.
use Rattle.std.specs.Prelude.{◌≡◌, ℕ, ◌<◌, ◌≤◌, ◌⊎◌, List, length, Contains, Option, Some, None, IsSomeAnd, Result, Ok, Err, ⊤, nat_eq, option_map, find}
use Rattle.std.specs.Cmp.Lexicographic.{pointwise}
use Rattle.std.specs.declared.vec.Vec.{Vec}
use Rattle.std.specs.declared.alloc.Global.{Global}
use Rattle.st_outside.specs.Counts.{one_more}
use Rattle.st_outside.specs.declared.files.LoadFault.{LoadFault}
use Rattle.st_outside.specs.declared.files.LoadFault.TheVariants.{Failed, TooLong, Memory}

-- the bytes of the first file of this name
abbrev pub bytes_of : List (List ℕ × List ℕ) → List ℕ → Option (List ℕ)
bytes_of entries name =
    option_map (λ entry. entry.1) (find (λ entry. pointwise nat_eq entry.0 name) entries)

-- the file that is held under this name is longer than that
abbrev pub IsLonger : ℕ → List ℕ → List (List ℕ × List ℕ) → Type 0
IsLonger limit name entries = IsSomeAnd (bytes_of entries name) (λ bytes. limit < length bytes)

-- what a load does to the count of faults, and to the name whose load failed last
abbrev pub MarksFault : {V : Type 0} → List ℕ → ℕ → ℕ → Option (List ℕ) → Option (List ℕ)
    → Result V LoadFault → Type 0
MarksFault name before now last_before last_now (Ok bytes) =
    (now ≡ before) × (last_now ≡ last_before)
MarksFault name before now last_before last_now (Err Failed) =
    (now ≡ one_more before) × (last_now ≡ Some name)
MarksFault name before now last_before last_now (Err TooLong) =
    (now ≡ before) × (last_now ≡ last_before)
MarksFault name before now last_before last_now (Err Memory) =
    (now ≡ before) × (last_now ≡ last_before)

-- what a load answers over files in memory: it fails where its number is listed or no file has the
-- name, else it gives the file or tells that it is too long; want of memory may come at any time
abbrev pub Answers : List (List ℕ × List ℕ) → List ℕ → ℕ → List ℕ → ℕ
    → Result (Vec ℕ Global) LoadFault → Type 0
Answers entries fails number name limit (Ok bytes) =
    (¬ Contains fails number) × (bytes_of entries name ≡ Some bytes.items)
    × (length bytes.items ≤ limit)
Answers entries fails number name limit (Err Failed) =
    Contains fails number ⊎ (bytes_of entries name ≡ None)
Answers entries fails number name limit (Err TooLong) =
    (¬ Contains fails number) × IsLonger limit name entries
Answers entries fails number name limit (Err Memory) = ⊤
