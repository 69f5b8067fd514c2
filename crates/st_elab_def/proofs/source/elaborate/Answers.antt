use Rattle.st_elab_def.proofs.ErasesTo.{ErasesTo-answered}
use Rattle.st_elab_def.proofs.IsElaborated.{answers-gives, answers-refuses}
use Rattle.st_elab_def.proofs.IsTyped.{Typed-answered}
use Rattle.st_elab_def.proofs.source.elaborate.Goals as goal

pub returns-clause-gives : goal.returns-clause-gives
returns-clause-gives c = λ e is. answers-gives c.args.defs.now e c.by_phases.result is c.by_phases.ensures

pub returns-clause-refuses : goal.returns-clause-refuses
returns-clause-refuses c = λ b is. answers-refuses c.args.defs.now b c.by_phases.result is c.by_phases.ensures

pub returns-clause-erased : goal.returns-clause-erased
returns-clause-erased c = λ templates. ErasesTo-answered c.args.defs.now c.by_phases.result templates c.by_phases.ensures

pub returns-clause-typed : goal.returns-clause-typed
returns-clause-typed c = λ templates repeats. Typed-answered c.args.defs.now c.by_phases.result templates repeats c.by_phases.ensures
