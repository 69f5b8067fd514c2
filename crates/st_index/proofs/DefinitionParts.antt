-- The definitions of each kind, definition by definition.
use Rattle.std.proofs.Common.{◌≡◌, refl, Bool, true, false, if◌then◌else◌, List, [], ◌∷◌, ◌++◌, bytes_eq}
use Rattle.st_il.specs.declared.definition.IlDef.{IlDef}
use Rattle.st_il.specs.declared.definition.IlDef.TheVariants.{Syntax, Var, Relation, Rule, Fun, Clause}
use Rattle.st_il.specs.Names.{Name}
use Rattle.st_il.specs.Definitions.{syntaxes_in, relations_in, funs_in, rules_in, rules_from, clauses_in, clauses_from}

pub syntaxes_head : (d : IlDef) (ds : List IlDef) → syntaxes_in (d ∷ ds) ≡ syntaxes_in (d ∷ []) ++ syntaxes_in ds
syntaxes_head (Syntax s) ds = refl
syntaxes_head (Var x t) ds = refl
syntaxes_head (Relation r) ds = refl
syntaxes_head (Rule r) ds = refl
syntaxes_head (Fun f) ds = refl
syntaxes_head (Clause c) ds = refl

pub relations_head : (d : IlDef) (ds : List IlDef) → relations_in (d ∷ ds) ≡ relations_in (d ∷ []) ++ relations_in ds
relations_head (Syntax s) ds = refl
relations_head (Var x t) ds = refl
relations_head (Relation r) ds = refl
relations_head (Rule r) ds = refl
relations_head (Fun f) ds = refl
relations_head (Clause c) ds = refl

pub functions_head : (d : IlDef) (ds : List IlDef) → funs_in (d ∷ ds) ≡ funs_in (d ∷ []) ++ funs_in ds
functions_head (Syntax s) ds = refl
functions_head (Var x t) ds = refl
functions_head (Relation r) ds = refl
functions_head (Rule r) ds = refl
functions_head (Fun f) ds = refl
functions_head (Clause c) ds = refl

pub rules_head : (name : Name) (d : IlDef) (ds : List IlDef) → rules_from name (rules_in (d ∷ ds)) ≡ rules_from name (rules_in (d ∷ [])) ++ rules_from name (rules_in ds)
rules_head name (Syntax s) ds = refl
rules_head name (Var x t) ds = refl
rules_head name (Relation r) ds = refl
rules_head name (Fun f) ds = refl
rules_head name (Clause c) ds = refl
rules_head name (Rule r) ds = at (bytes_eq name r.relation)
  where
    at : (b : Bool) → (if b then r ∷ rules_from name (rules_in ds) else rules_from name (rules_in ds)) ≡ (if b then r ∷ [] else []) ++ rules_from name (rules_in ds)
    at true = refl
    at false = refl

pub clauses_head : (name : Name) (d : IlDef) (ds : List IlDef) → clauses_from name (clauses_in (d ∷ ds)) ≡ clauses_from name (clauses_in (d ∷ [])) ++ clauses_from name (clauses_in ds)
clauses_head name (Syntax s) ds = refl
clauses_head name (Var x t) ds = refl
clauses_head name (Relation r) ds = refl
clauses_head name (Rule r) ds = refl
clauses_head name (Fun f) ds = refl
clauses_head name (Clause c) ds = at (bytes_eq name c.fun)
  where
    at : (b : Bool) → (if b then c ∷ clauses_from name (clauses_in ds) else clauses_from name (clauses_in ds)) ≡ (if b then c ∷ [] else []) ++ clauses_from name (clauses_in ds)
    at true = refl
    at false = refl
