use Rattle.std.proofs.Common.{sym, ap, ◌∙◌, Some, None}
use Rattle.st_type_table.specs.Meaning.{aliased}
use Rattle.st_type_table.proofs.CasesLemmas.{alias_of-entry}
use Rattle.st_type_table.proofs.meaning.alias_of.Goals as goal

pub returns-in-Alias : goal.returns-in-Alias
returns-in-Alias c = ap (λ b. aliased (Some b)) (sym c.in-Alias.is) ∙ alias_of-entry c.args.entries.now.entries c.args.ty.now (Some c.in-Some.entry.now) c.in-Some.ensures

pub returns-in-Variant : goal.returns-in-Variant
returns-in-Variant c = ap (λ b. aliased (Some b)) (sym c.in-Variant.is) ∙ alias_of-entry c.args.entries.now.entries c.args.ty.now (Some c.in-Some.entry.now) c.in-Some.ensures

pub returns-in-Fields : goal.returns-in-Fields
returns-in-Fields c = ap (λ b. aliased (Some b)) (sym c.in-Fields.is) ∙ alias_of-entry c.args.entries.now.entries c.args.ty.now (Some c.in-Some.entry.now) c.in-Some.ensures

pub returns-in-None : goal.returns-in-None
returns-in-None c = alias_of-entry c.args.entries.now.entries c.args.ty.now None c.in-None.ensures
