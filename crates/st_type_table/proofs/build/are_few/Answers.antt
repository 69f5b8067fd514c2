use Rattle.std.proofs.Common.{refl, arith, rules}
use Rattle.std.proofs.lemmas.Option.{slice_get_within}
use Rattle.st_type_table.proofs.PartLemmas.{read-at}
use Rattle.st_type_table.proofs.FewLemmas.{few-next}
use Rattle.st_type_table.proofs.build.are_few.Goals as goal

pub loop-def-preserved : goal.loop-def-preserved
loop-def-preserved c = few-next c.args.defs.now c.loop-def.def-index c.def-item.result (read-at c.args.defs.now c.loop-def.def-index c.def-item.result c.loop-def-test.true c.def-item.is)
    (c.if-not-has_few_parts.ensures.0 refl) c.loop-def.invariant

pub returns-then-not-has_few_parts : goal.returns-then-not-has_few_parts
returns-then-not-has_few_parts c = (λ f. search rules, λ h. c.if-not-has_few_parts.ensures.1 (h.1 c.loop-def.def-index c.def-item.result (read-at c.args.defs.now c.loop-def.def-index c.def-item.result c.loop-def-test.true c.def-item.is)))

pub returns : goal.returns
returns c = (λ f. (omega arith, λ i d g. c.loop-def.invariant i (let h = slice_get_within c.args.defs.now i d g in let e = c.loop-def-test.false in omega (arith, h, e)) d g), λ h. refl)
