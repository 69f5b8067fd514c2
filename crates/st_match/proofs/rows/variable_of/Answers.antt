use Rattle.st_match.proofs.Fits.{IsVariable-Var, IsVariable-Up}
use Rattle.st_match.proofs.rows.variable_of.Goals as goal

pub returns-in-Var : goal.returns-in-Var
returns-in-Var c = IsVariable-Var c.args.pattern.now c.in-Var.name c.in-Var.is

pub returns-in-Var-get : goal.returns-in-Var-get
returns-in-Var-get c =
    IsVariable-Up c.args.pattern.now c.in-Up.field-0 c.in-Up.part c.get.result.now c.in-Var-get.name c.in-Up.is c.get.ensures c.in-Var-get.is
