-- Which types are equal through aliases.
use Rattle.std.specs.Prelude.{List, [], ◌∷◌}
use Rattle.st_il.specs.declared.ty.Ty.{Ty}
use Rattle.st_il.specs.declared.ty.Ty.TheVariants as ty
use Rattle.st_il.specs.declared.definition.SyntaxDef.{SyntaxDef}
use Rattle.st_type_table.specs.Meaning.{Means}

mutual
  -- Two types are equal through aliases:
  -- they mean the same, or lists, options or tuples of such types.
  pub data Same (defs : List SyntaxDef) : Ty → Ty → Type 0 where
    equal : {a b : Ty} (t : Ty) → Means defs a t → Means defs b t → Same defs a b
    list : {a b : Ty} (x y : Ty) → Means defs a (ty.List x) → Means defs b (ty.List y)
        → Same defs x y → Same defs a b
    option : {a b : Ty} (x y : Ty) → Means defs a (ty.Opt x) → Means defs b (ty.Opt y)
        → Same defs x y → Same defs a b
    tuple : {a b : Ty} (xs ys : List Ty) → Means defs a (ty.Tuple xs) → Means defs b (ty.Tuple ys)
        → SameAll defs xs ys → Same defs a b

  -- the types of two lists are equal through aliases, one by one
  pub data SameAll (defs : List SyntaxDef) : List Ty → List Ty → Type 0 where
    none : SameAll defs [] []
    more : {x y : Ty} {xs ys : List Ty} → Same defs x y → SameAll defs xs ys
        → SameAll defs (x ∷ xs) (y ∷ ys)
