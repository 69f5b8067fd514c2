use Rattle.std.proofs.Common.{length, ◌<◌, sym, ◌∙◌, ap, true≢false}
use Rattle.std.proofs.lemmas.List.{length-map, get_or-map}
use Rattle.st_il.specs.Small.{rule_names}
use Rattle.st_small.proofs.NameSets.{names_more, names_again}
use Rattle.st_small.proofs.names.have_distinct_names.Goals as goal

pub loop-rule-preserved : goal.loop-rule-preserved
loop-rule-preserved c =
    let within : c.loop-rule.rule-index < length (rule_names c.args.rules.now) = rw length-map c.loop-rule-test.true in
    let at = get_or-map (λ rule. rule.name) c.args.rules.now c.loop-rule.rule-index c.rule-item.result c.rule-item.result.name c.loop-rule-test.true in
    let more = names_more (rule_names c.args.rules.now) c.loop-rule.rule-index c.rule-item.result.name _ _ _ within
    (ap (λ rule. rule.name) c.rule-item.is ∙ sym at)
    c.loop-rule.invariant.kept c.loop-rule.invariant.distinct c.in_ok-add_name.ensures c.if-not-branch.false in
    record { kept = more.0; distinct = more.1 }

pub returns-then-not-branch : goal.returns-then-not-branch
returns-then-not-branch c =
    let within : c.loop-rule.rule-index < length (rule_names c.args.rules.now) = rw length-map c.loop-rule-test.true in
    let at = get_or-map (λ rule. rule.name) c.args.rules.now c.loop-rule.rule-index c.rule-item.result c.rule-item.result.name c.loop-rule-test.true in
    let again = names_again (rule_names c.args.rules.now) c.loop-rule.rule-index c.rule-item.result.name _ _ _ within
    (ap (λ rule. rule.name) c.rule-item.is ∙ sym at)
    c.loop-rule.invariant.kept c.in_ok-add_name.ensures c.if-not-branch.true in
    (λ h. absurd (true≢false (sym h)), λ distinct. absurd (again distinct))
