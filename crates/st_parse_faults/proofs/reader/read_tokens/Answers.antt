use Rattle.std.proofs.Common.{length, refl, sym, arith}
use Rattle.st_num.specs.declared.rule.RuleId.TheVariants.{S1}
use Rattle.st_parse_faults.specs.inner.Folding.{nothing_seen}
use Rattle.st_parse_faults.proofs.BrokenFirst.{all_kept, first_broken}
use Rattle.st_parse_faults.proofs.Loop.{token_passes, token_breaks, ends_well, ends_early, bounded}
use Rattle.st_parse_faults.proofs.reader.read_tokens.Goals as goal

pub tokens-init : goal.tokens-init
tokens-init c = ((nothing_seen, refl, sym c.in_ok-seen.ensures.value), c.in_ok-seen.ensures.bound)

pub returns-in-Broken-clause-some : goal.returns-in-Broken-clause-some
returns-in-Broken-clause-some c =
    first_broken c.args.tokens.now c.tokens.at c.in-Broken.rule
    (token_breaks c.args.tokens.now c.args.names.now c.tokens.at c.index-tokens-at.result c.token_class-class.result c.tokens.seen c.in_ok-rule.field-0 c.in-Broken.rule c.in-Broken.field-1 c.tokens-test.true c.tokens.invariant.0
    c.index-tokens-at.is c.requires c.token_class-class.ensures c.in_ok-rule.ensures.value c.in-Broken.is)

pub tokens-preserved : goal.tokens-preserved
tokens-preserved c = (
  token_passes c.args.tokens.now c.args.names.now c.tokens.at c.index-tokens-at.result c.token_class-class.result c.tokens.seen c.in_ok-rule.field-0 c.in-Passed.next c.in-Passed.field-1 c.in-Passed.field-2 c.tokens-test.true c.tokens.invariant.0
      c.index-tokens-at.is c.requires c.token_class-class.ensures c.in_ok-rule.ensures.value c.in-Passed.is,
  bounded c.in_ok-rule.field-0 c.in-Passed.next c.in-Passed.field-1 c.in-Passed.field-2 c.in-Passed.is c.in_ok-rule.ensures.bound,
)

pub returns-then-may_end-clause-none : goal.returns-then-may_end-clause-none
returns-then-may_end-clause-none c = all_kept c.args.tokens.now (ends_well c.args.tokens.now c.tokens.at c.tokens.seen _ (omega arith) c.tokens.invariant.0 c.may_end.ensures c.if-may_end.true)

pub returns-clause-some : goal.returns-clause-some
returns-clause-some c = first_broken c.args.tokens.now (length c.args.tokens.now) S1 (ends_early c.args.tokens.now c.tokens.at c.tokens.seen _ (omega arith) c.tokens.invariant.0 c.may_end.ensures c.if-may_end.false)
