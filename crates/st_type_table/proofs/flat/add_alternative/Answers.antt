use Rattle.std.proofs.Common.{sym, ap, ◌∙◌, subst}
use Rattle.st_il.specs.declared.ty.Ty.TheVariants as ty
use Rattle.st_il.specs.declared.definition.Alternative.TheVariants as alternative
use Rattle.st_type_table.specs.Meaning.{Means, alternatives_of}
use Rattle.st_type_table.specs.Cases.{or_none}
use Rattle.st_type_table.specs.inner.Flat.{IsFlatAt}
use Rattle.st_type_table.proofs.FlatLemmas.{adds-own, adds-included, adds-nothing, whole-keyed}
use Rattle.st_type_table.proofs.CaseKeyLemmas.{own-adds}
use Rattle.st_type_table.proofs.flat.add_alternative.Goals as goal

pub returns-in-Case-clause-added : goal.returns-in-Case-clause-added
returns-in-Case-clause-added c = adds-own c.args.defs.now c.args.cases.now.items c.add.new.self.items c.args.alternative.now c.in-Case.tag c.as_slice.result.now c.in_ok-added-in-Case.added
    (c.in-Case.is ∙ ap (alternative.Case c.in-Case.tag) (sym c.as_slice.ensures))
    (own-adds c.args.cases.now.items c.add.new.self.items (record { tag = c.in-Case.tag; operands = c.as_slice.result.now }) c.in_ok-added-in-Case.added c.requires.keyed.differ c.in_ok-added-in-Case.ensures.added)

pub flat_of-requires-clause-known : goal.flat_of-requires-clause-known
flat_of-requires-clause-known c = subst (λ n. IsFlatAt c.args.defs.now c.args.flats.now (ty.Name n)) (sym c.in_ok-copy-in-Incl.ensures) (c.requires.ready c.in-Incl.name c.in-Incl.is).1

pub add_included-requires-clause-flat : goal.add_included-requires-clause-flat
add_included-requires-clause-flat c = whole-keyed c.args.defs.now (or_none (alternatives_of c.args.defs.now c.in-Some.ensures.0)) c.in-Some.flat.now c.in-Some.ensures.1.1

pub returns-in-Some-clause-added : goal.returns-in-Some-clause-added
returns-in-Some-clause-added c =
    let found = c.in-Some.ensures in
    adds-included c.args.defs.now c.args.cases.now.items c.add_included.new.cases.items c.args.alternative.now c.in-Incl.name found.0 c.in-Some.flat.now c.in_ok-added-in-Some.added c.in-Incl.is
    (subst (λ n. Means c.args.defs.now (ty.Name n) found.0) c.in_ok-copy-in-Incl.ensures found.1.0) found.1.1 c.in_ok-added-in-Some.ensures.added

pub returns-clause-added : goal.returns-clause-added
returns-clause-added c =
    let found = c.in-None.ensures in
    adds-nothing c.args.defs.now c.args.cases.now.items c.args.alternative.now c.in-Incl.name found.0 c.in-Incl.is
    (subst (λ n. Means c.args.defs.now (ty.Name n) found.0) c.in_ok-copy-in-Incl.ensures found.1.0) found.1.1 c.requires.keyed.differ
