use Rattle.std.proofs.Common.{refl}
use Rattle.st_ilread.proofs.Passed.{read_as}
use Rattle.st_ilread.proofs.BodyTrees.{alternative_none}
use Rattle.st_ilread.proofs.syntax.read_alternative.Goals as goal

pub returns-in-Some : goal.returns-in-Some
returns-in-Some c = read_as _ _ _ _ _ c.in-Some.ensures c.read_case.ensures

pub returns-in-Some-form_parts : goal.returns-in-Some-form_parts
returns-in-Some-form_parts c = read_as _ _ _ _ _ c.in-Some-form_parts.ensures c.read_inclusion.ensures

pub returns : goal.returns
returns c = (refl, alternative_none _ (λ tag ts p e. c.in_default.ensures _ e) (λ y e. c.in_default-form_parts.ensures _ e))
