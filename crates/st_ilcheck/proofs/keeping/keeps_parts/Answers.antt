use Rattle.st_ilcheck.proofs.Operators.{asks-operator}
use Rattle.st_ilcheck.proofs.keeping.keeps_parts.Goals as goal

pub returns-in_ok-kept-in_default : goal.returns-in_ok-kept-in_default
returns-in_ok-kept-in_default c =
    let d = c.in_default in
    let same =
    asks-operator c.args.exp.now d.not-Dot d.not-Set d.not-Extend d.not-Tuple d.not-List d.not-Cat d.not-Join d.not-Present d.not-Absent d.not-Len d.not-At d.not-Slice d.not-Up d.not-Iter c.args.language.now c.args.types.now in
    (λ y. same.0 (c.in_ok-kept-in_default.ensures.0 y), λ a. c.in_ok-kept-in_default.ensures.1 (same.1 a))
