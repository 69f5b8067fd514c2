use Rattle.std.proofs.Common.{sym, subst}
use Rattle.st_graph.specs.Graph.{IsWithin}
use Rattle.st_deps.specs.GroupNumbers.{AreGroupNumbers}
use Rattle.st_deps.specs.Table.{IsTable}
use Rattle.st_deps.proofs.GroupNumbersLemmas.{table-within, numbers_are}
use Rattle.st_deps.proofs.numbers.group_numbers.Goals as goal

pub numbering-requires : goal.numbering-requires
numbering-requires c =
    record { graph = subst IsWithin (sym c.as_slice.ensures) (table-within c.args.il.now c.in_ok-table.table.rows c.in_ok-table.ensures.rows) }

pub returns : goal.returns
returns c =
    let table : IsTable c.args.il.now c.as_slice.result.now = subst (IsTable c.args.il.now) (sym c.as_slice.ensures) c.in_ok-table.ensures.rows in
    subst (AreGroupNumbers c.args.il.now) (sym c.from_vec.ensures) (numbers_are c.args.il.now c.as_slice.result.now table _ _ c.in_ok-components.ensures)
