use Rattle.st_any_table.proofs.PairsLemmas.{numbers-exact}
use Rattle.st_any_table.proofs.below.mean_numbers.Goals as goal

pub returns-in-Some-Some : goal.returns-in-Some-Some
returns-in-Some-Some c = numbers-exact c.args.survey.now.defs c.args.left.now c.args.right.now c.in-Some-Some.one.now c.in-Some-Some.other.now c.are_numbers.result c.in-Some-Some.ensures c.in-Some-Some.ensures' c.are_numbers.ensures
