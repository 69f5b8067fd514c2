use Rattle.std.proofs.Common.{refl, None}
use Rattle.st_type_table.proofs.KeyIndexLemmas.{HasNumber-none}
use Rattle.st_type_table.proofs.key_index.KeyIndex.new.Goals as goal

pub returns : goal.returns
returns c = HasNumber-none (record { signs = c.new-signs.result; brackets = c.new-brackets.result; atoms = c.new-atoms.result; free = None }) c.new-signs.ensures c.new-brackets.ensures c.new-atoms.ensures.empty refl
