-- Sets of names, and rules between names.
use Rattle.std.specs.Prelude.{◌≡◌, ℕ, Bool, List, [], ◌∷◌, ◌++◌, Contains, map}
use Rattle.std.specs.Bool.{MatchBool}
use Rattle.std.specs.Borrow.{Bor}
use Rattle.st_il.specs.declared.small.SmallRule.{SmallRule}

-- the names that references point to
abbrev pub names_of : List (Bor (List ℕ)) → List (List ℕ)
names_of names = map (λ name. name.now) names

-- a name is added to a set: where it is new, it goes behind the others, and else it is among them
abbrev pub Adds : List (List ℕ) → List ℕ → List (List ℕ) → Bool → Type 0
Adds old name new added =
    MatchBool added ((Contains old name → ⊥) × (new ≡ old ++ name ∷ [])) (Contains old name)

-- the rule goes from one of the atoms to one of them
abbrev pub GoesBetween : List (List ℕ) → SmallRule → Type 0
GoesBetween atoms rule = Contains atoms rule.from × Contains atoms rule.to
