use Rattle.std.proofs.Common.{refl}
use Rattle.st_parse_faults.proofs.Loop.{bounded}
use Rattle.st_parse.specs.inner.Readers.{none}
use Rattle.st_parse.proofs.Runs.{stopped, one_more}
use Rattle.st_parse.proofs.reader.read_tokens.Goals as goal

pub tokens-init : goal.tokens-init
tokens-init g c = (none refl refl refl, c.requires)

pub returns-in-Broken : goal.returns-in-Broken
returns-in-Broken g c = record {
  count = c.tokens.at;
  known = c.tokens.known;
  run = c.tokens.invariant.0;
  stops = stopped g.R.Reader.Judges c.args.names.now c.args.tokens.now c.tokens.at c.tokens.known c.index-tokens-at.result c.token_class-class.result c.in_ok-rule.field-0 c.in-Broken.rule c.in-Broken.progress
      c.tokens-test.true c.index-tokens-at.is c.token_class-class.ensures c.in_ok-rule.ensures.verdict c.in-Broken.is;
}

pub tokens-preserved : goal.tokens-preserved
tokens-preserved g c = (
  one_more g.R.Reader.Judges g.R.Reader.Takes c.args.names.now c.args.tokens.now c.args.start c.args.reader.now c.tokens.at c.tokens.known c.in-Passed.next c.tokens.reader c.take.new.self
      c.index-tokens-at.result c.token_class-class.result c.in_ok-rule.field-0 c.in-Passed.advance c.in-Passed.added
      c.tokens-test.true c.index-tokens-at.is c.token_class-class.ensures c.in_ok-rule.ensures.verdict c.in-Passed.is c.in_ok-take-in-Passed.ensures c.tokens.invariant.0,
  bounded c.in_ok-rule.field-0 c.in-Passed.next c.in-Passed.advance c.in-Passed.added c.in-Passed.is c.in_ok-rule.ensures.bound,
)
