use Rattle.std.proofs.Common.{sym, subst}
use Rattle.st_type_table.specs.Keys.{HasKey}
use Rattle.st_type_table.proofs.KeyLemmas.{found-key}
use Rattle.st_type_table.proofs.case_list.CaseList.add.Goals as goal

pub add_with-requires-clause-key : goal.add_with-requires-clause-key
add_with-requires-clause-key c = subst (HasKey c.args.tag.now) (sym c.key_or_free.ensures)
    (found-key c.args.tag.now c.in_ok-template.template c.in_ok-template.ensures.some c.in_ok-template.ensures.none)
