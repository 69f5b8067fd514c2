-- How the tree of a rule is put together: its values from inputs and outputs, and its children in the
-- order of the premises.
use Rattle.std.specs.Prelude.{ℕ, zero, suc, Bool, true, false, nat_eq, List, [], ◌∷◌, ◌++◌, if◌then◌else◌}
use Rattle.st_il.specs.declared.tree.Child.{Child}

-- at each hole the next input, or the next output
abbrev pub merged : {A : Type 0} → List Bool → List A → List A → List A
merged [] ins outs = []
merged (true ∷ holes) [] outs = []
merged (true ∷ holes) (x ∷ ins) outs = x ∷ merged holes ins outs
merged (false ∷ holes) ins [] = []
merged (false ∷ holes) ins (y ∷ outs) = y ∷ merged holes ins outs

-- what stands for the premise of a number, where premises were run in this order
abbrev pub placed : ℕ → List ℕ → List (List Child) → List Child
placed k [] found = []
placed k (j ∷ order) [] = []
placed k (j ∷ order) (children ∷ found) = if nat_eq j k then children else placed k order found

-- what stands for the first n premises, in their order
abbrev pub arranged : List ℕ → List (List Child) → ℕ → List Child
arranged order found zero = []
arranged order found (suc n) = arranged order found n ++ placed (suc n) order found
