-- Indexes of keys, and those of the keys of cases.
use Rattle.std.specs.Prelude.{◌≡◌, ◌⊎◌, ◌↔◌, ℕ, List, [], ◌∷◌, Some, slice_get}
use Rattle.std.specs.Map.{lookup}
use Rattle.st_num.specs.declared.mark.Mark.{Mark}
use Rattle.st_num.specs.Names.{same_name}
use Rattle.st_il.specs.Key.{PlainKey, sign, bracket, atom, free}
use Rattle.st_type_table.specs.declared.entry.CaseDef.{CaseDef}
use Rattle.st_type_table.specs.declared.key_index.KeyIndex.{KeyIndex}
use Rattle.st_type_table.specs.Keys.{HasKey}

-- the mark is one of these, with this number
abbrev pub HasMark : List (Mark × ℕ) → Mark → ℕ → Type 0
HasMark [] m n = ⊥
HasMark (x ∷ xs) m n = ((x.0 ≡ m) × (x.1 ≡ n)) ⊎ HasMark xs m n

-- the key has this number
abbrev pub HasNumber : KeyIndex → PlainKey → ℕ → Type 0
HasNumber index (sign top) n = HasMark index.signs top n
HasNumber index (bracket opening) n = HasMark index.brackets opening n
HasNumber index (atom name) n = lookup (same_name name) index.atoms.entries ≡ Some n
HasNumber index free n = index.free ≡ Some n

-- one key is added to the index, with this number
abbrev pub Gains : KeyIndex → KeyIndex → PlainKey → ℕ → Type 0
Gains before after key number =
    (k : PlainKey) (n : ℕ)
    → HasNumber after k n ↔ (HasNumber before k n ⊎ ((key ≡ k) × (number ≡ n)))

-- the case of this number has this key
abbrev pub HasKeyAt : List CaseDef → ℕ → PlainKey → Type 0
HasKeyAt cases n k = (c : CaseDef) × ((slice_get cases n ≡ Some c) × HasKey c.tag k)

-- each key of these cases has the number of its case
abbrev pub IsKeyIndex : List CaseDef → KeyIndex → Type 0
IsKeyIndex cases index = (k : PlainKey) (n : ℕ) → HasNumber index k n ↔ HasKeyAt cases n k
