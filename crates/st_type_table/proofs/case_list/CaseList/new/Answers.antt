use Rattle.st_type_table.proofs.CaseKeyLemmas.{IsKeyed-none}
use Rattle.st_type_table.proofs.case_list.CaseList.new.Goals as goal

pub returns-clause-keyed : goal.returns-clause-keyed
returns-clause-keyed c = IsKeyed-none (record { items = c.new-items.result; keys = c.new-keys.result; index = c.new-index.result }) c.new-items.ensures c.new-keys.ensures c.new-index.ensures
