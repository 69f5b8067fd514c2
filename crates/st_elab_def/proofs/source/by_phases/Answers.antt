use Rattle.std.proofs.Common.{◌≡◌, Err, sym, ap, ◌∙◌, subst}
use Rattle.std.proofs.lemmas.Result.{err_from_is_err_and}
use Rattle.st_type_table.specs.Breach as types
use Rattle.st_elab_law.specs.Agreement.{syntaxes, decls_in}
use Rattle.st_elab_table.specs.declared.decls.Decls.{Decls}
use Rattle.st_elab_def.specs.Answers.{Told}
use Rattle.st_elab_def.specs.Breaches.{FirstBreach}
use Rattle.st_elab_def.specs.Definitions.{definitions}
use Rattle.st_elab_def.specs.DeclsOf.{decls_of}
use Rattle.st_elab_def.specs.Phases.{phase, on_declaration, on_body, on_signature, on_content}
use Rattle.st_elab_def.specs.inner.Joining.{AreContents}
use Rattle.st_elab_def.proofs.IsElaborated.{all-passed, stops, closes}
use Rattle.st_elab_def.proofs.Phases.{breach_in_declarations, breach_in_bodies, breach_in_signatures}
use Rattle.st_elab_def.proofs.SoundSyntaxes.{syntaxes-sound}
use Rattle.st_elab_def.proofs.source.by_phases.Goals as goal

pub returns-in_err-declarations : goal.returns-in_err-declarations
returns-in_err-declarations c =
    let defs = c.args.defs.now in
    let failed = err_from_is_err_and c.from_residual.result c.from_residual.ensures.1 in
    stops defs (phase on_declaration (definitions defs)) c.declarations.result c.from_residual.result c.in_err-declarations.field-0.0 c.in_err-declarations.was (failed.1 ∙ ap Err failed.2)
    (breach_in_declarations defs) (c.declarations.ensures (decls_of defs))

pub returns-in_err-check_bodies : goal.returns-in_err-check_bodies
returns-in_err-check_bodies c =
    let defs = c.args.defs.now in
    let D = decls_of defs in
    let failed = err_from_is_err_and c.from_residual-in_err-check_bodies.result c.from_residual-in_err-check_bodies.ensures.1 in
    let declared = all-passed D (phase on_declaration (definitions defs)) c.declarations.result c.in_ok-declarations.field-0 c.in_ok-declarations.was (c.declarations.ensures D) in
    stops defs (phase on_body (definitions defs)) c.check_bodies.result c.from_residual-in_err-check_bodies.result c.in_err-check_bodies.field-0.0 c.in_err-check_bodies.was (failed.1 ∙ ap Err failed.2)
    (breach_in_bodies defs declared) c.check_bodies.ensures

-- the syntaxes break no rule
pub table_of-requires : goal.table_of-requires
table_of-requires c =
    let defs = c.args.defs.now in
    let D = decls_of defs in
    let declared = all-passed D (phase on_declaration (definitions defs)) c.declarations.result c.in_ok-declarations.field-0 c.in_ok-declarations.was (c.declarations.ensures D) in
    let bodied = all-passed D (phase on_body (definitions defs)) c.check_bodies.result c.in_ok-check_bodies.field-0 c.in_ok-check_bodies.was c.check_bodies.ensures in
    subst types.IsSound (sym (c.in_ok-syntaxes.ensures ∙ ap syntaxes (c.as_slice.ensures ∙ c.in_ok-declared.ensures))) (syntaxes-sound defs declared bodied)

pub returns-in_err-signatures : goal.returns-in_err-signatures
returns-in_err-signatures c =
    let defs = c.args.defs.now in
    let D = decls_of defs in
    let failed = err_from_is_err_and c.from_residual-in_err-signatures.result c.from_residual-in_err-signatures.ensures.1 in
    let declared = all-passed D (phase on_declaration (definitions defs)) c.declarations.result c.in_ok-declarations.field-0 c.in_ok-declarations.was (c.declarations.ensures D) in
    let bodied = all-passed D (phase on_body (definitions defs)) c.check_bodies.result c.in_ok-check_bodies.field-0 c.in_ok-check_bodies.was c.check_bodies.ensures in
    let is : c.in_ok-decls.decls ≡ D = c.in_ok-decls.ensures ∙ ap decls_in (c.as_slice-2.ensures ∙ c.in_ok-declared.ensures) in
    stops defs (phase on_signature (definitions defs)) c.signatures.result c.from_residual-in_err-signatures.result c.in_err-signatures.field-0.0 c.in_err-signatures.was (failed.1 ∙ ap Err failed.2)
    (breach_in_signatures defs declared bodied) (c.signatures.ensures D (sym (ap (λ (decls : Decls). decls.types) is)))

pub returns : goal.returns
returns c =
    let defs = c.args.defs.now in
    let D = decls_of defs in
    let declared = all-passed D (phase on_declaration (definitions defs)) c.declarations.result c.in_ok-declarations.field-0 c.in_ok-declarations.was (c.declarations.ensures D) in
    let bodied = all-passed D (phase on_body (definitions defs)) c.check_bodies.result c.in_ok-check_bodies.field-0 c.in_ok-check_bodies.was c.check_bodies.ensures in
    let is : c.in_ok-decls.decls ≡ D = c.in_ok-decls.ensures ∙ ap decls_in (c.as_slice-2.ensures ∙ c.in_ok-declared.ensures) in
    let signed = all-passed D (phase on_signature (definitions defs)) c.signatures.result c.in_ok-signatures.field-0 c.in_ok-signatures.was (c.signatures.ensures D (sym (ap (λ (decls : Decls). decls.types) is))) in
    closes defs c.assemble.result declared bodied signed
    (subst (λ (decls : Decls). Told (AreContents decls (definitions defs)) (FirstBreach decls (phase on_content (definitions defs))) c.assemble.result) is c.assemble.ensures)
