use Rattle.std.proofs.Common.{◌≡◌, map, take}
use Rattle.st_el.specs.Plain.{plain_exp, plain_seg}
use Rattle.st_el.proofs.plain_expression.+plain.Given as goal

abbrev pub invariant-plain_exps-loop-exp : goal.invariant-plain_exps-loop-exp
invariant-plain_exps-loop-exp l = l.plain ≡ map plain_exp (take l.exp-index l.exps)

abbrev pub invariant-plain_fields-loop-field : goal.invariant-plain_fields-loop-field
invariant-plain_fields-loop-field l = l.plain ≡ map (λ field. (field.0, plain_exp field.1)) (take l.field-index l.fields)

abbrev pub invariant-plain_path-loop-seg : goal.invariant-plain_path-loop-seg
invariant-plain_path-loop-seg l = l.plain ≡ map plain_seg (take l.seg-index l.path)
