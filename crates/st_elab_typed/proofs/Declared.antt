-- The declarations of the definitions of a language are what the language declares.
use Rattle.std.proofs.Common.{◌≡◌, refl, ap, ◌∙◌, List, [], ◌∷◌}
use Rattle.std.specs.Prelude.{flat_map}
use Rattle.st_il.specs.declared.definition.Il.{Il}
use Rattle.st_il.specs.declared.definition.IlDef.{IlDef}
use Rattle.st_il.specs.declared.definition.IlDef.TheVariants as def
use Rattle.st_il.specs.declared.definition.SyntaxDef.{SyntaxDef}
use Rattle.st_il.specs.Definitions.{syntaxes_in, relations_in, funs_in}
use Rattle.st_elab_table.specs.declared.decls.Decls.{Decls}
use Rattle.st_elab_law.specs.Agreement.{syntaxes, fun_in, relation_in, Declares}
use Rattle.st_elab_typed.specs.RuleLaw.{AreDeclaredIn}

syntaxes-in : (defs : List IlDef) → syntaxes defs ≡ syntaxes_in defs
syntaxes-in [] = refl
syntaxes-in (def.Syntax s ∷ ds) = ap (λ (z : List SyntaxDef). s ∷ z) (syntaxes-in ds)
syntaxes-in (_ ∷ ds) = syntaxes-in ds

funs-in : (defs : List IlDef) → flat_map fun_in defs ≡ funs_in defs
funs-in [] = refl
funs-in (def.Fun f ∷ ds) = ap (λ z. f ∷ z) (funs-in ds)
funs-in (_ ∷ ds) = funs-in ds

relations-in : (defs : List IlDef) → flat_map relation_in defs ≡ relations_in defs
relations-in [] = refl
relations-in (def.Relation r ∷ ds) = ap (λ z. r ∷ z) (relations-in ds)
relations-in (_ ∷ ds) = relations-in ds

pub AreDeclaredIn-declares : (il : Il) (D : Decls) → Declares il D → AreDeclaredIn il D
AreDeclaredIn-declares il D h = record {
  expressions = record { types = ap (λ (z : Decls). z.types) h ∙ syntaxes-in il.defs; funs = ap (λ (z : Decls). z.funs) h ∙ funs-in il.defs };
  relations_are = ap (λ (z : Decls). z.relations) h ∙ relations-in il.defs;
}
