use Rattle.std.proofs.Common.{refl}
use Rattle.st_ilcheck.proofs.CitedLemmas.{rule-cited}
use Rattle.st_ilcheck.proofs.cited.cited_by_rule.Goals as goal

pub returns : goal.returns
returns c =
    rule-cited c.args.rule.now c.in_ok-contents.contents
    (record { syntaxes = c.in_ok-syntaxes.syntaxes; relations = c.in_ok-relations.relations; functions = c.in_ok-contents.contents.functions; tags = c.in_ok-contents.contents.tags })
    c.in_ok-types.types c.in_ok-own.own c.in_ok-cited.cited c.as_slice.result.now c.as_slice-2.result.now
    c.in_ok-contents.ensures c.as_slice.ensures c.in_ok-types.ensures c.in_ok-syntaxes.ensures c.in_ok-own.ensures c.as_slice-2.ensures c.in_ok-cited.ensures c.in_ok-relations.ensures refl refl
