-- What is elaborated declares what its source does.
use Rattle.std.proofs.Common.{◌≡◌, refl, sym, ◌∙◌, ap, List, [], ◌∷◌, ◌++◌, flat_map}
use Rattle.st_el.specs.declared.definition.Def.{Def}
use Rattle.st_il.specs.declared.definition.IlDef.{IlDef}
use Rattle.st_elab_table.specs.declared.decls.Decls.{Decls}
use Rattle.st_elab_law.specs.Agreement.{with_syntax, var_in, fun_in, relation_in, decls_in, Declares}
use Rattle.st_elab_def.specs.declared.elaborated.Elaborated.{Elaborated}
use Rattle.st_elab_def.specs.Fragments.{joined}
use Rattle.st_elab_def.specs.DeclsOf.{declared_at, declared_by, decls_of}
use Rattle.st_elab_def.specs.Elaboration.{declaration, rule, clause, ElabDefs, IsElaborated}

-- what is declared, with what a definition declares before it
abbrev pushed : IlDef → Decls → Decls
pushed x d = record {
  types = with_syntax x d.types;
  vars = var_in x ++ d.vars;
  funs = fun_in x ++ d.funs;
  relations = relation_in x ++ d.relations;
}

next_declared : (def : Def) (ds : List Def) (own : List IlDef) → declared_by def ≡ own → flat_map declared_by (def ∷ ds) ≡ own ++ flat_map declared_by ds
next_declared def ds own is = ap (λ z. z ++ flat_map declared_by ds) is

declares_alike : (D : Decls) (ds : List Def) (xs : List IlDef) → ElabDefs D ds xs → decls_in xs ≡ decls_in (flat_map declared_by ds)
declares_alike D [] [] h = refl
declares_alike D [] (x ∷ xs) h = absurd h
declares_alike D (def ∷ ds) [] h = absurd h
declares_alike D (def ∷ ds) (x ∷ xs) (declaration e, hs) = ap (pushed x) (declares_alike D ds xs hs) ∙ ap decls_in (sym (next_declared def ds (x ∷ []) e))
declares_alike D (def ∷ ds) (x ∷ xs) (rule r name e ps y is el of, hs) =
    ap (λ z. decls_in (z ∷ xs)) of ∙ declares_alike D ds xs hs ∙ ap decls_in (sym (next_declared def ds [] (ap (declared_at def.hints) is)))
declares_alike D (def ∷ ds) (x ∷ xs) (clause name args result ps y is el of, hs) =
    ap (λ z. decls_in (z ∷ xs)) of ∙ declares_alike D ds xs hs ∙ ap decls_in (sym (next_declared def ds [] (ap (declared_at def.hints) is)))

pub declares_own : (defs : List Def) (e : Elaborated) → IsElaborated defs e → Declares e.il (decls_of defs)
declares_own defs e is = sym (declares_alike (decls_of defs) (joined defs) e.il.defs is.definitions)
