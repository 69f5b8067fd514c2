use Rattle.std.proofs.Common.{ap, ◌∙◌, map}
use Rattle.st_il.specs.Names.{flattened}
use Rattle.st_semantics.specs.Variables.{relations_cited}
use Rattle.st_modes.proofs.CitedByParts.{citing-rule, citing-other}
use Rattle.st_order.proofs.SameNames.{names_made}
use Rattle.st_modes.proofs.cited_by.add_citing.Goals as goal

pub returns-in_default : goal.returns-in_default
returns-in_default c defs h = citing-other defs c.args.definition.now c.args.found.now.entries c.in_default.not-Rule h

pub returns : goal.returns
returns c defs h =
    citing-rule defs c.args.found.now.entries c.push_under_all.new.found.entries c.args.definition.now c.in-Rule.rule c.as_slice-2.result.now c.in-Rule.is
    (names_made c.as_slice-2.result.now c.push_relations.new.names c.new-cited.result (flattened (map relations_cited c.as_slice.result.now)) c.as_slice-2.ensures c.in_ok-push_relations.ensures c.new-cited.ensures
    ∙ ap (λ ps. flattened (map relations_cited ps)) c.as_slice.ensures) c.in_ok-push_under_all.ensures h
