use Rattle.std.proofs.Common.{◌≡◌, ap, ◌∙◌, List, [], length, replicate}
use Rattle.st_il.specs.declared.definition.IlDef.{IlDef}
use Rattle.st_deps.specs.Cited.{Name}
use Rattle.st_deps.specs.Definitions.{names_declared, declared}
use Rattle.st_deps.specs.inner.Table.{all_citations}
use Rattle.st_deps.proofs.TableLemmas.{table_is}
use Rattle.st_deps.proofs.table.citations.Goals as goal

pub returns-clause-rows : goal.returns-clause-rows
returns-clause-rows c =
    let known : c.in_ok-names.names.keys ≡ declared c.args.il.now = c.in_ok-names.ensures ∙ ap (names_declared []) c.as_slice.ensures in
    table_is c.args.il.now c.from_vec-rows.result
    (c.from_vec-rows.ensures ∙ c.in_ok-rows.ensures
    ∙ ap (λ (ds : List IlDef). all_citations c.in_ok-names.names.keys (replicate (length c.in_ok-names.names.keys) []) ds) c.as_slice-2.ensures
    ∙ ap (λ (names : List Name). all_citations names (replicate (length names) []) c.args.il.now.defs) known)
