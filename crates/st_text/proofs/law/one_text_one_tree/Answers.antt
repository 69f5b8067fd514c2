use Rattle.st_text.proofs.Unique.{one_text, one_tree, one_row}
use Rattle.st_text.proofs.law.one_text_one_tree.Goals as goal

pub returns-clause-text : goal.returns-clause-text
returns-clause-text c = one_text

pub returns-clause-tree : goal.returns-clause-tree
returns-clause-tree c = one_tree

pub returns-clause-row : goal.returns-clause-row
returns-clause-row c = one_row
