use Rattle.std.proofs.Common.{subst}
use Rattle.st_type_table.specs.inner.Numbering.{IsGiven}
use Rattle.st_any_table.proofs.IndexLemmas.{add-found, add-new}
use Rattle.st_any_table.proofs.definitions.add.Goals as goal

pub returns-in-Some : goal.returns-in-Some
returns-in-Some c = add-found c.args.index.now.entries c.args.name.now c.args.number c.in-Some.field-0 c.in-Some.ensures

pub returns-in_ok-put-in-None : goal.returns-in_ok-put-in-None
returns-in_ok-put-in-None c = add-new c.args.index.now.entries c.put.new.index.entries c.args.name.now c.args.number c.in-None.ensures
    (subst (λ n. IsGiven c.args.index.now.entries c.put.new.index.entries n c.args.number) c.in_ok-name-in-None.ensures c.in_ok-put-in-None.ensures)
