use Rattle.std.proofs.Common.{refl, sym, ap, reverse, arith}
use Rattle.st_grammar.specs.Positions.{start}
use Rattle.st_parse_automaton.specs.declared.position.Position.TheVariants.{Between}
use Rattle.st_parse_automaton.specs.inner.DefinitionAutomaton as definitions
use Rattle.st_parse_automaton.proofs.Loop.{token_goes_on, token_stops, ends_well, ends_early}
use Rattle.st_parse_automaton.proofs.reader.read_tokens.Goals as goal

pub tokens-init : goal.tokens-init
tokens-init c = (start, refl, sym (ap (λ ks. definitions.at Between (reverse ks)) c.new.ensures))

pub returns-in_default-clause-some : goal.returns-in_default-clause-some
returns-in_default-clause-some c =
    token_stops c.args.tokens.now c.args.names.now c.tokens.at c.index-tokens-at.result c.token_class.result c.tokens.progress c.in_ok-step.field-0 c.tokens-test.true c.tokens.invariant
    c.index-tokens-at.is c.requires c.token_class.ensures c.in_ok-step.ensures c.in_default.is

pub tokens-preserved : goal.tokens-preserved
tokens-preserved c =
    token_goes_on c.args.tokens.now c.args.names.now c.tokens.at c.index-tokens-at.result c.token_class.result c.tokens.progress c.in_ok-step.field-0 c.in-Some.step c.tokens-test.true c.tokens.invariant
    c.index-tokens-at.is c.requires c.token_class.ensures c.in_ok-step.ensures c.in-Some.is

pub returns-then-may_end-clause-none : goal.returns-then-may_end-clause-none
returns-then-may_end-clause-none c = ends_well c.args.tokens.now c.tokens.at _ _ (omega arith) c.tokens.invariant c.may_end.ensures c.if-may_end.true

pub returns-clause-some : goal.returns-clause-some
returns-clause-some c = ends_early c.args.tokens.now c.tokens.at _ _ (omega arith) c.tokens.invariant c.may_end.ensures c.if-may_end.false
