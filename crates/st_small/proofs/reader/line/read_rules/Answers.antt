use Rattle.std.proofs.Common.{◌∷◌, [], ◌++◌, refl, sym, ◌∙◌, ap, append-nil, Some}
use Rattle.std.specs.List.{flat_map}
use Rattle.st_small.specs.SmallText.{rule_line}
use Rattle.st_small.specs.inner.SmallForm.{IsRuleOfWords, rule_of}
use Rattle.st_small.proofs.ReaderRows.{Leaves-end, Leaves-none, IsRead-more}
use Rattle.st_small.proofs.ReaderLines.{IsNothing, not_empty, is_nothing, not_rule}
use Rattle.st_small.proofs.reader.line.read_rules.Goals as goal

pub loop-rest-preserved : goal.loop-rest-preserved
loop-rest-preserved c =
    IsRead-more (rule_line c.args.relation.now) IsRuleOfWords IsNothing c.args.bytes.now c.loop-rest.rules _
    c.loop-rest.rest.now (rule_of c.in-Some.rule) c.in-Some.after.now
    c.loop-rest.invariant
    (not_empty _ _ c.is_empty.ensures c.loop-rest-test.true)
    c.in-Some.ensures.read.0
    c.in-Some.ensures.read.1
    (λ x more tail fits is_tail e.
    c.in-Some.ensures.only x (flat_map (rule_line c.args.relation.now) more ++ tail) fits e)
    (c.in_ok-push.ensures.ok ∙ ap (λ n. c.loop-rest.rules ++ n ∷ []) c.in_ok-copy.ensures)

pub returns-in_default-clause-only : goal.returns-in_default-clause-only
returns-in_default-clause-only c = λ rules fits e.
    absurd (Leaves-none (rule_line c.args.relation.now) IsRuleOfWords IsNothing c.args.bytes.now c.loop-rest.rules
    c.loop-rest.rest.now c.loop-rest.invariant.leaves
    (λ x more tail fits is_tail e. c.in_default.ensures.only x (flat_map (rule_line c.args.relation.now) more ++ tail) fits e)
    (not_empty _ _ c.is_empty.ensures c.loop-rest-test.true)
    rules [] fits refl (e ∙ sym (append-nil _)))

pub returns-clause-only : goal.returns-clause-only
returns-clause-only c = λ rules fits e.
    let found = Leaves-end (rule_line c.args.relation.now) IsRuleOfWords IsNothing c.args.bytes.now c.loop-rest.rules
    c.loop-rest.rest.now c.loop-rest.invariant.leaves
    (λ x more tail fits is_tail e. not_rule c.args.relation.now _ _ x (is_nothing _ _ c.is_empty.ensures c.loop-rest-test.false) e)
    rules [] fits refl (e ∙ sym (append-nil _)) in
    ap (λ r. Some r) found.0
