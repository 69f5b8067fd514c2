-- Which syntaxes lead to which by aliases and inclusions.
use Rattle.std.specs.Prelude.{◌≡◌, ◌⊎◌, ℕ, List, [], ◌∷◌, Option, Some, None}
use Rattle.std.specs.List.{flat_map}
use Rattle.st_il.specs.declared.ty.Ty.{Ty, fold-Ty}
use Rattle.st_il.specs.declared.ty.Ty.TheOpen.{Ty-F}
use Rattle.st_il.specs.declared.definition.SyntaxDef.{SyntaxDef}
use Rattle.st_il.specs.declared.definition.SyntaxBody.{SyntaxBody}
use Rattle.st_il.specs.declared.definition.SyntaxBody.TheVariants as body
use Rattle.st_il.specs.declared.definition.Alternative.{Alternative}
use Rattle.st_il.specs.declared.definition.Alternative.TheVariants as alternative
use Rattle.st_type_table.specs.Meaning.{body_of}

-- the name is one of these
abbrev pub Among : List (List ℕ) → List ℕ → Type 0
Among [] name = ⊥
Among (x ∷ xs) name = (name ≡ x) ⊎ Among xs name

-- the names in several parts, those of one part behind those of another
abbrev pub joined : List (List (List ℕ)) → List (List ℕ)
joined = flat_map (λ names. names)

-- the names in a level whose parts have these names in them
abbrev pub names_at : Ty-F (List (List ℕ)) → List (List ℕ)
names_at (Ty-F.Name name) = name ∷ []
names_at (Ty-F.List names) = names
names_at (Ty-F.Opt names) = names
names_at (Ty-F.Tuple parts) = joined parts
names_at _ = []

-- the names in a type, in order
abbrev pub names_in : Ty → List (List ℕ)
names_in = fold-Ty (List (List ℕ)) names_at

-- the name of the variant that an alternative includes, where it includes one
abbrev pub included : Alternative → List (List ℕ)
included (alternative.Case tag operands) = []
included (alternative.Incl name) = name ∷ []

-- the names that a body leads to: those in an alias, and those that a variant includes
abbrev pub leads_to : SyntaxBody → List (List ℕ)
leads_to (body.Alias t) = names_in t
leads_to (body.Variant alternatives) = flat_map included alternatives
leads_to (body.Fields fields) = []

-- the names that a body leads to, and none where there is no body
abbrev pub leads_from : Option SyntaxBody → List (List ℕ)
leads_from None = []
leads_from (Some b) = leads_to b

-- the names that a name leads to in one step
abbrev pub next_of : List SyntaxDef → List ℕ → List (List ℕ)
next_of defs name = leads_from (body_of defs name)

-- The first name leads to the second, in some steps or none.
pub data Leads (defs : List SyntaxDef) : List ℕ → List ℕ → Type 0 where
  here : {x z : List ℕ} → x ≡ z → Leads defs x z
  step : {x z : List ℕ} (y : List ℕ) → Among (next_of defs x) y → Leads defs y z → Leads defs x z

-- Each way from this name comes to an end.
pub data Ends (defs : List SyntaxDef) : List ℕ → Type 0 where
  ends : {x : List ℕ} → ((y : List ℕ) → Among (next_of defs x) y → Ends defs y) → Ends defs x
