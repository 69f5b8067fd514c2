use Rattle.std.proofs.Common.{subst}
use Rattle.st_dims.specs.Breaches.{IsFault}
use Rattle.st_elab_table.specs.Scopes.{misplaced, idle}
use Rattle.st_elab_exp.proofs.scope.dimensions.Goals as goal

pub returns-in-Err-I1 : goal.returns-in-Err-I1
returns-in-Err-I1 c = λ D typed. misplaced c.in-Err-I1.at typed (subst (IsFault c.args.mentions.now) c.in-Err-I1.field-0-is c.in-Err-I1.ensures.fault)

pub returns-in-Err-I2 : goal.returns-in-Err-I2
returns-in-Err-I2 c = λ D typed. idle c.in-Err-I2.at typed (subst (IsFault c.args.mentions.now) c.in-Err-I2.field-0-is c.in-Err-I2.ensures.fault)
