use Rattle.st_source.proofs.breach_places.Law.{breaches-stand}
use Rattle.st_source.proofs.laws.breaches_stand.Goals as goal

pub returns : goal.returns
returns c = breaches-stand
