use Rattle.std.proofs.Common.{sym, ap, ◌∙◌, Some, None}
use Rattle.st_type_table.specs.Meaning.{listed}
use Rattle.st_type_table.proofs.CasesLemmas.{alternatives_of-entry, no_cases, settled}
use Rattle.st_type_table.proofs.meaning.variant_of.Goals as goal

pub returns-in-Variant : goal.returns-in-Variant
returns-in-Variant c =
    let s = settled c.args.entries.now.entries c.requires c.meaning_of.result.now c.in-Some.entry.now _ c.in-Some.ensures c.in-Variant.is in
    record {
      has = record {
        variant = c.meaning_of.result.now;
        alternatives = c.in-Variant.field-0;
        means = c.meaning_of.ensures;
        declared = sym (alternatives_of-entry c.args.entries.now.entries c.meaning_of.result.now (Some c.in-Some.entry.now) c.in-Some.ensures) ∙ ap (λ b. listed (Some b)) c.in-Variant.is;
        flattened = s.flattened;
      };
      differ = s.differ;
      indexed = s.indexed;
    }

pub returns-in-Alias : goal.returns-in-Alias
returns-in-Alias c = no_cases _ c.args.ty.now c.meaning_of.result.now c.meaning_of.ensures
    (sym (alternatives_of-entry c.args.entries.now.entries c.meaning_of.result.now (Some c.in-Some.entry.now) c.in-Some.ensures) ∙ ap (λ b. listed (Some b)) c.in-Alias.is)

pub returns-in-Fields : goal.returns-in-Fields
returns-in-Fields c = no_cases _ c.args.ty.now c.meaning_of.result.now c.meaning_of.ensures
    (sym (alternatives_of-entry c.args.entries.now.entries c.meaning_of.result.now (Some c.in-Some.entry.now) c.in-Some.ensures) ∙ ap (λ b. listed (Some b)) c.in-Fields.is)

pub returns-in-None : goal.returns-in-None
returns-in-None c = no_cases _ c.args.ty.now c.meaning_of.result.now c.meaning_of.ensures
    (sym (alternatives_of-entry c.args.entries.now.entries c.meaning_of.result.now None c.in-None.ensures))
