use Rattle.std.proofs.Common.{sym, ap, ◌∙◌, Some, None, subst}
use Rattle.st_type_table.specs.Meaning.{recorded}
use Rattle.st_type_table.specs.Cases.{HasFields}
use Rattle.st_type_table.specs.inner.Kept.{defs_of}
use Rattle.st_type_table.proofs.CasesLemmas.{fields_of-entry, no_fields}
use Rattle.st_type_table.proofs.meaning.fields_of.Goals as goal

pub returns-in-Fields : goal.returns-in-Fields
returns-in-Fields c = subst (HasFields (defs_of c.args.entries.now.entries) c.args.ty.now) (sym c.as_slice.ensures) (record {
  structure = c.meaning_of.result.now;
  means = c.meaning_of.ensures;
  declared = sym (fields_of-entry c.args.entries.now.entries c.meaning_of.result.now (Some c.in-Some.entry.now) c.in-Some.ensures) ∙ ap (λ b. recorded (Some b)) c.in-Fields.is;
})

pub returns-in-Alias : goal.returns-in-Alias
returns-in-Alias c = no_fields _ c.args.ty.now c.meaning_of.result.now c.meaning_of.ensures
    (sym (fields_of-entry c.args.entries.now.entries c.meaning_of.result.now (Some c.in-Some.entry.now) c.in-Some.ensures) ∙ ap (λ b. recorded (Some b)) c.in-Alias.is)

pub returns-in-Variant : goal.returns-in-Variant
returns-in-Variant c = no_fields _ c.args.ty.now c.meaning_of.result.now c.meaning_of.ensures
    (sym (fields_of-entry c.args.entries.now.entries c.meaning_of.result.now (Some c.in-Some.entry.now) c.in-Some.ensures) ∙ ap (λ b. recorded (Some b)) c.in-Variant.is)

pub returns-in-None : goal.returns-in-None
returns-in-None c = no_fields _ c.args.ty.now c.meaning_of.result.now c.meaning_of.ensures
    (sym (fields_of-entry c.args.entries.now.entries c.meaning_of.result.now None c.in-None.ensures))
