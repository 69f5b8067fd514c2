use Rattle.std.proofs.Common.{take}
use Rattle.st_elab_table.specs.Premises.{ElabPrems}
use Rattle.st_elab_exp.proofs.premise.elaborate_prems.Given as goal

abbrev pub invariant-loop-prem : goal.invariant-loop-prem
invariant-loop-prem l = ElabPrems l.decls l.scope l.within (take l.prem-index l.prems) l.all
