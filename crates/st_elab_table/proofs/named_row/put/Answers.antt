use Rattle.st_elab_table.proofs.named_row.put.Goals as goal

pub returns : goal.returns
returns c = c.in_ok-insert.ensures.updates.0
