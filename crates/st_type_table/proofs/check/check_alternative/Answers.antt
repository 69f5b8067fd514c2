use Rattle.std.proofs.Common.{suc, ap, ◌∙◌, subst, map, take, Some, arith}
use Rattle.st_type_table.specs.Leads.{joined, names_in}
use Rattle.st_type_table.specs.Breach.{Finds, on_included, all_declared}
use Rattle.st_type_table.proofs.PartLemmas.{keys-broken, read-at, Returns-one, case-keys, case-types, incl-found, incl-keys, incl-whole}
use Rattle.st_type_table.proofs.check.check_alternative.Goals as goal

pub check_included-requires-clause-numbers : goal.check_included-requires-clause-numbers
check_included-requires-clause-numbers c = Returns-one c.args.defs.now c.args.target.now c.args.numbers.now c.args.own c.args.parts.now c.args.at c.in-Incl.name
    (read-at c.args.parts.now c.args.at c.index-parts-at.result c.requires.within c.index-parts-at.is ∙ ap Some c.in-Incl.is) c.requires.numbers

pub returns-then-at-reach : goal.returns-then-at-reach
returns-then-at-reach c = case-keys c.args.defs.now c.args.target.now c.args.parts.now c.args.reach c.args.at c.index-parts-at.result
    (read-at c.args.parts.now c.args.at c.index-parts-at.result c.requires.within c.index-parts-at.is) c.requires.reach
    c.in-Case.field-0 c.in-Case.operands c.whole.result c.in-Case.is
    (keys-broken c.in_ok-part.part c.args.at (take (suc c.args.at) c.args.parts.now) c.whole.result c.whole.ensures c.in_ok-part.ensures) c.if-at-reach.true

pub returns-in_ok-found-in-Case : goal.returns-in_ok-found-in-Case
returns-in_ok-found-in-Case c = case-types c.args.defs.now c.args.target.now c.args.parts.now c.args.reach c.args.at c.index-parts-at.result
    (read-at c.args.parts.now c.args.at c.index-parts-at.result c.requires.within c.index-parts-at.is) c.requires.reach
    c.in-Case.field-0 c.in-Case.operands c.in_ok-found-in-Case.found c.in-Case.is (let h = c.requires.so_far in let n = c.if-at-reach.false in omega (arith, h, n))
    (subst (λ z. Finds c.args.defs.now (all_declared c.args.at 0 (joined (map names_in z))) c.in_ok-found-in-Case.found) c.as_slice.ensures
    (subst (λ n. Finds c.args.defs.now (all_declared n 0 (joined (map names_in c.as_slice.result.now))) c.in_ok-found-in-Case.found) c.in_ok-part.ensures c.in_ok-found-in-Case.ensures))

pub returns-in-Some : goal.returns-in-Some
returns-in-Some c = incl-found c.args.defs.now c.args.target.now c.args.parts.now c.args.reach c.args.at c.index-parts-at.result
    (read-at c.args.parts.now c.args.at c.index-parts-at.result c.requires.within c.index-parts-at.is) c.requires.reach
    c.in-Incl.name c.in-Some.found c.in-Incl.is (subst (Finds c.args.defs.now (on_included c.args.target.now c.args.at c.in-Incl.name)) c.in-Some.is
    (subst (λ n. Finds c.args.defs.now (on_included c.args.target.now n c.in-Incl.name) c.in_ok-found-in-Incl.field-0) c.in_ok-part.ensures c.in_ok-found-in-Incl.ensures))

pub returns-then-at-reach-2 : goal.returns-then-at-reach-2
returns-then-at-reach-2 c = incl-keys c.args.defs.now c.args.target.now c.args.parts.now c.args.reach c.args.at c.index-parts-at.result
    (read-at c.args.parts.now c.args.at c.index-parts-at.result c.requires.within c.index-parts-at.is) c.requires.reach
    c.in-Incl.name c.whole-then-at-reach-2.result c.in-Incl.is
    (keys-broken c.in_ok-part.part c.args.at (take (suc c.args.at) c.args.parts.now) c.whole-then-at-reach-2.result c.whole-then-at-reach-2.ensures c.in_ok-part.ensures)
    (subst (Finds c.args.defs.now (on_included c.args.target.now c.args.at c.in-Incl.name)) c.in-None.is
    (subst (λ n. Finds c.args.defs.now (on_included c.args.target.now n c.in-Incl.name) c.in_ok-found-in-Incl.field-0) c.in_ok-part.ensures c.in_ok-found-in-Incl.ensures))
    c.if-at-reach-2.true

pub returns-else-at-reach-2 : goal.returns-else-at-reach-2
returns-else-at-reach-2 c = incl-whole c.args.defs.now c.args.target.now c.args.parts.now c.args.reach c.args.at c.index-parts-at.result
    (read-at c.args.parts.now c.args.at c.index-parts-at.result c.requires.within c.index-parts-at.is) c.requires.reach
    c.in-Incl.name c.in-Incl.is
    (subst (Finds c.args.defs.now (on_included c.args.target.now c.args.at c.in-Incl.name)) c.in-None.is
    (subst (λ n. Finds c.args.defs.now (on_included c.args.target.now n c.in-Incl.name) c.in_ok-found-in-Incl.field-0) c.in_ok-part.ensures c.in_ok-found-in-Incl.ensures))
    (let h = c.requires.so_far in let n = c.if-at-reach-2.false in omega (arith, h, n))
