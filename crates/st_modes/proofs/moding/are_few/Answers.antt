use Rattle.st_modes.proofs.FewParts.{few_test}
use Rattle.st_modes.proofs.moding.are_few.Goals as goal

pub returns : goal.returns
returns c = few_test c.args.len
