use Rattle.std.proofs.Common.{◌∙◌, arith}
use Rattle.st_small.specs.inner.Parts.{atom_alternative}
use Rattle.st_small.proofs.Elements.{made_at}
use Rattle.st_small.proofs.part.atoms_of.Goals as goal

pub returns-in_default : goal.returns-in_default
returns-in_default c = λ atoms e.
    let at = made_at atom_alternative c.args.alternatives.now atoms c.loop-alternative.alternative-index c.alternative-item.result e (omega arith) in
    c.in_default.ensures at.0 (c.alternative-item.is ∙ at.1)
