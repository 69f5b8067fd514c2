use Rattle.st_parse_faults.proofs.BrokenFirst.{never_kept, one_broken}
use Rattle.st_parse_faults.proofs.laws.one_fault.Goals as goal

pub returns-clause-never : goal.returns-clause-never
returns-clause-never c = never_kept

pub returns-clause-one : goal.returns-clause-one
returns-clause-one c = one_broken
