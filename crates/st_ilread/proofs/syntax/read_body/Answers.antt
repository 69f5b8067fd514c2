use Rattle.std.proofs.Common.{refl}
use Rattle.st_ilread.proofs.Passed.{read_as}
use Rattle.st_ilread.proofs.BodyTrees.{body_none}
use Rattle.st_ilread.proofs.syntax.read_body.Goals as goal

pub returns-in-Some : goal.returns-in-Some
returns-in-Some c = read_as _ _ _ _ _ c.in-Some.ensures c.read_alias.ensures

pub returns-in-Some-form_parts : goal.returns-in-Some-form_parts
returns-in-Some-form_parts c = read_as _ _ _ _ _ c.in-Some-form_parts.ensures c.read_variant.ensures

pub returns-in-Some-form_parts-2 : goal.returns-in-Some-form_parts-2
returns-in-Some-form_parts-2 c = read_as _ _ _ _ _ c.in-Some-form_parts-2.ensures c.read_record.ensures

pub returns : goal.returns
returns c = (refl, body_none _ (λ u p e. c.in_default.ensures _ e) (λ xs h p e. c.in_default-form_parts.ensures _ e) (λ fs p e. c.in_default-form_parts-2.ensures _ e))
