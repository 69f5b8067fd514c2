-- Each syntax of an elaborated source is declared as the conditions on syntaxes ask.
use Rattle.std.proofs.Common.{◌≡◌, refl, ap, ◌∙◌, subst, ℕ, List, [], ◌∷◌, ◌++◌, length, take}
use Rattle.std.specs.Prelude.{Some, slice_get}
use Rattle.st_el.specs.declared.definition.Def.{Def}
use Rattle.st_il.specs.declared.definition.IlDef.{IlDef}
use Rattle.st_il.specs.declared.definition.IlDef.TheVariants as il
use Rattle.st_il.specs.declared.definition.SyntaxDef.{SyntaxDef}
use Rattle.st_type_table.specs.Breach as types
use Rattle.st_il.specs.Definitions.{syntaxes, syntaxes_in}
use Rattle.st_ilcheck.specs.Declarations.{IsDeclared}
use Rattle.st_ilcheck.proofs.SyntaxLemmas.{prefix-is, syntax-there, syntax-within}
use Rattle.st_elab_law.specs.Agreement.{syntaxes as declared_syntaxes}
use Rattle.st_elab_table.specs.declared.decls.Decls.{Decls}
use Rattle.st_elab_def.specs.declared.elaborated.Elaborated.{Elaborated}
use Rattle.st_elab_def.specs.Breaches.{AllPass, IsSound}
use Rattle.st_elab_def.specs.Definitions.{definitions}
use Rattle.st_elab_def.specs.DeclsOf.{decls_of}
use Rattle.st_elab_def.specs.Elaboration.{IsElaborated}
use Rattle.st_elab_def.specs.Phases.{on_declaration, on_body, on_signature, on_content, phase}
use Rattle.st_elab_def.proofs.AllPass.{AllPass-front, AllPass-back}
use Rattle.st_elab_def.proofs.Declares.{declares_own}
use Rattle.st_elab_def.proofs.SoundSyntaxes.{syntaxes-sound}

pub same_syntaxes : (ds : List IlDef) → declared_syntaxes ds ≡ syntaxes_in ds
same_syntaxes [] = refl
same_syntaxes (il.Syntax s ∷ ds) = ap (λ z. s ∷ z) (same_syntaxes ds)
same_syntaxes (il.Var x t ∷ ds) = same_syntaxes ds
same_syntaxes (il.Relation r ∷ ds) = same_syntaxes ds
same_syntaxes (il.Rule r ∷ ds) = same_syntaxes ds
same_syntaxes (il.Fun f ∷ ds) = same_syntaxes ds
same_syntaxes (il.Clause c ∷ ds) = same_syntaxes ds

module _ (defs : List Def) (sound : IsSound defs) where
  -- what passes in each phase
  behind_declarations : AllPass (decls_of defs) (phase on_body (definitions defs) ++ (phase on_signature (definitions defs) ++ (phase on_content (definitions defs) ++ [])))
  behind_declarations = AllPass-back (decls_of defs) (phase on_declaration (definitions defs)) _ sound

  behind_bodies : AllPass (decls_of defs) (phase on_signature (definitions defs) ++ (phase on_content (definitions defs) ++ []))
  behind_bodies = AllPass-back (decls_of defs) (phase on_body (definitions defs)) _ behind_declarations

  pub declarations_pass : AllPass (decls_of defs) (phase on_declaration (definitions defs))
  declarations_pass = AllPass-front (decls_of defs) (phase on_declaration (definitions defs)) _ sound

  pub bodies_pass : AllPass (decls_of defs) (phase on_body (definitions defs))
  bodies_pass = AllPass-front (decls_of defs) (phase on_body (definitions defs)) _ behind_declarations

  pub signatures_pass : AllPass (decls_of defs) (phase on_signature (definitions defs))
  signatures_pass = AllPass-front (decls_of defs) (phase on_signature (definitions defs)) _ behind_bodies

  pub contents_pass : AllPass (decls_of defs) (phase on_content (definitions defs))
  contents_pass = AllPass-front (decls_of defs) (phase on_content (definitions defs)) _ (AllPass-back (decls_of defs) (phase on_signature (definitions defs)) _ behind_bodies)

  -- the declared syntaxes break no rule
  pub types_sound : types.IsSound (decls_of defs).types
  types_sound = syntaxes-sound defs declarations_pass bodies_pass

pub syntaxes_declared : (defs : List Def) (e : Elaborated) → IsElaborated defs e → (at : ℕ) (s : SyntaxDef) → slice_get e.il.defs at ≡ Some (il.Syntax s) → IsDeclared e.il (take at e.il.defs) (il.Syntax s)
syntaxes_declared defs e is at s there =
    let same : (decls_of defs).types ≡ syntaxes e.il = ap (λ (d : Decls). d.types) (declares_own defs e is) ∙ same_syntaxes e.il.defs in
    let sound : types.IsSound (syntaxes e.il) = subst types.IsSound same (types_sound defs is.sound) in
    let prefix : List SyntaxDef = syntaxes_in (take at e.il.defs) in
    subst (λ before. types.AllHold (syntaxes e.il) (types.conditions_on before s)) (prefix-is e.il at s there)
    (sound (length prefix) (syntax-within e.il at s there) s (syntax-there e.il at s there))
