use Rattle.st_modes.specs.inner.Citing.{functions_in_clause}
use Rattle.st_modes.proofs.CitedByParts.{calling-clause, calling-other}
use Rattle.st_order.proofs.SameNames.{names_made}
use Rattle.st_modes.proofs.cited_by.add_calling.Goals as goal

pub returns-in_default : goal.returns-in_default
returns-in_default c defs h = calling-other defs c.args.definition.now c.args.found.now.entries c.in_default.not-Clause h

pub returns : goal.returns
returns c defs h =
    calling-clause defs c.args.found.now.entries c.push_under_all.new.found.entries c.args.definition.now c.in-Clause.clause c.as_slice.result.now c.in-Clause.is
    (names_made c.as_slice.result.now c.push_clause_functions.new.names c.new-called.result (functions_in_clause c.in-Clause.clause) c.as_slice.ensures c.in_ok-push_clause_functions.ensures c.new-called.ensures)
    c.in_ok-push_under_all.ensures h
