use Rattle.std.proofs.Common.{sym, subst, Some}
use Rattle.st_type_table.specs.Breach.{Finds, on_parts}
use Rattle.st_type_table.proofs.PartLemmas.{checked-at, check-twice, check-whole, on_parts-whole}
use Rattle.st_type_table.proofs.PartsLemmas.{FindsAt-none}
use Rattle.st_type_table.proofs.parts.check_def.Goals as goal

pub returns-in-Some : goal.returns-in-Some
returns-in-Some c = checked-at c.args.defs.now c.args.at c.nth-def.result.now c.nth-def.ensures (Some c.whole.result)
    (check-twice c.args.defs.now c.args.at c.nth-def.result.now c.in-Some.field-0 c.whole.result (sym c.in-Some.ensures) c.whole.ensures)

pub check_parts-requires-clause-before : goal.check_parts-requires-clause-before
check_parts-requires-clause-before c = FindsAt-none c.args.defs.now c.args.at

pub returns : goal.returns
returns c =
    checked-at c.args.defs.now c.args.at c.nth-def.result.now c.nth-def.ensures c.in_ok-found.found
    (check-whole c.args.defs.now c.args.at c.nth-def.result.now c.in_ok-found.found (sym c.in-None.ensures)
    (subst (λ ps. Finds c.args.defs.now ps c.in_ok-found.found) (on_parts-whole c.nth-def.result.now.name c.nth-def.result.now.body)
    (subst (λ n. Finds c.args.defs.now (on_parts c.nth-def.result.now.name c.nth-def.result.now.body 0 n) c.in_ok-found.found) c.part_count-count.ensures
    (c.in_ok-found.ensures c.nth-def.result.now c.nth-def.ensures))))
