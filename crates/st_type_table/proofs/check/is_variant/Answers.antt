use Rattle.std.proofs.Common.{rules, refl, sym, ◌∙◌, subst}
use Rattle.st_il.specs.declared.ty.Ty.TheVariants as ty
use Rattle.st_type_table.specs.Meaning.{Means}
use Rattle.st_type_table.specs.Leads.{Ends}
use Rattle.st_type_table.proofs.RankLemmas.{name-same}
use Rattle.st_type_table.proofs.CheckLemmas.{variant-exact, variant-ending}
use Rattle.st_type_table.proofs.check.is_variant.Goals as goal

pub meaning_in-requires-clause-ends : goal.meaning_in-requires-clause-ends
meaning_in-requires-clause-ends c = λ name q. subst (Ends c.args.defs.now) (sym c.in_ok-copy.ensures ∙ name-same c.in_ok-copy.field-0 name q) (c.if-not-is_ending.ensures.0 refl).ends

pub returns : goal.returns
returns c = variant-exact c.args.defs.now c.args.name.now c.meaning_in.result.now c.is_variant_name-yes.result (c.if-not-is_ending.ensures.0 refl)
    (subst (λ n. Means c.args.defs.now (ty.Name n) c.meaning_in.result.now) c.in_ok-copy.ensures c.meaning_in.ensures) c.is_variant_name-yes.ensures

pub returns-then-not-is_ending : goal.returns-then-not-is_ending
returns-then-not-is_ending c = (λ f. search rules, λ v. c.if-not-is_ending.ensures.1 (variant-ending c.args.defs.now c.args.name.now v))
