use Rattle.std.proofs.Common.{sym, ap, ◌∙◌, Some, None, rules}
use Rattle.std.proofs.lemmas.Bool.{ltb-true, lt-ltb}
use Rattle.st_type_table.specs.Meaning.{recorded}
use Rattle.st_type_table.proofs.CasesLemmas.{fields_of-entry, settled}
use Rattle.st_type_table.proofs.JoinLemmas.{joins-exact, no_join}
use Rattle.st_type_table.proofs.joining.joins.Goals as goal

pub returns-in-Fields : goal.returns-in-Fields
returns-in-Fields c = joins-exact _ c.args.ty.now c.meaning_of.result.now c.in-Fields.field-0 _ c.in-Some.entry.now.join_rank c.meaning_of.ensures
    (sym (fields_of-entry c.args.entries.now.entries c.meaning_of.result.now (Some c.in-Some.entry.now) c.in-Some.ensures) ∙ ap (λ b. recorded (Some b)) c.in-Fields.is)
    (ltb-true 0 c.in-Some.entry.now.join_rank, lt-ltb 0 c.in-Some.entry.now.join_rank)
    (settled c.args.entries.now.entries c.requires c.meaning_of.result.now c.in-Some.entry.now _ c.in-Some.ensures c.in-Fields.is)

pub returns-in-Alias : goal.returns-in-Alias
returns-in-Alias c = (
  λ f. search rules,
  λ j. absurd (no_join _ c.args.ty.now c.meaning_of.result.now c.meaning_of.ensures
      (sym (fields_of-entry c.args.entries.now.entries c.meaning_of.result.now (Some c.in-Some.entry.now) c.in-Some.ensures) ∙ ap (λ b. recorded (Some b)) c.in-Alias.is) j),
)

pub returns-in-Variant : goal.returns-in-Variant
returns-in-Variant c = (
  λ f. search rules,
  λ j. absurd (no_join _ c.args.ty.now c.meaning_of.result.now c.meaning_of.ensures
      (sym (fields_of-entry c.args.entries.now.entries c.meaning_of.result.now (Some c.in-Some.entry.now) c.in-Some.ensures) ∙ ap (λ b. recorded (Some b)) c.in-Variant.is) j),
)

pub returns-in-None : goal.returns-in-None
returns-in-None c = (
  λ f. search rules,
  λ j. absurd (no_join _ c.args.ty.now c.meaning_of.result.now c.meaning_of.ensures
      (sym (fields_of-entry c.args.entries.now.entries c.meaning_of.result.now None c.in-None.ensures)) j),
)
