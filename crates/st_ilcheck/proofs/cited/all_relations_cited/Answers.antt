use Rattle.std.proofs.Common.{refl, ap, ◌∙◌, ◌++◌, map, List}
use Rattle.st_il.specs.declared.expression.IlPrem.{IlPrem}
use Rattle.st_il.specs.Names.{flattened}
use Rattle.st_semantics.specs.Variables.{relations_cited}
use Rattle.st_ilcheck.proofs.Walks.{walk-next, walk-end}
use Rattle.st_ilcheck.proofs.cited.all_relations_cited.Goals as goal

pub loop-premise-preserved : goal.loop-premise-preserved
loop-premise-preserved c =
    walk-next (λ (ps : List IlPrem). flattened (map relations_cited ps)) (λ (p : IlPrem). relations_cited p) c.args.premises.now c.loop-premise.premise-index (λ x rest. refl) c.premise-item.result c.loop-premise.names c.in_ok-longer.longer c.loop-premise-test.true c.premise-item.is
    (c.in_ok-longer.ensures ∙ ap (λ z. c.loop-premise.names ++ z) c.in_ok-more.ensures) c.loop-premise.invariant

pub returns : goal.returns
returns c = walk-end (λ (ps : List IlPrem). flattened (map relations_cited ps)) (λ (p : IlPrem). relations_cited p) c.args.premises.now c.loop-premise.premise-index refl c.loop-premise.names c.loop-premise-test.false c.loop-premise.invariant
