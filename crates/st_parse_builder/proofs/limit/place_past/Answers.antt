use Rattle.std.proofs.Common.{sym, subst, ◌++◌, ◌∷◌, [], take, drop, ap, ◌∙◌, arith, ◌+◌}
use Rattle.st_parse_builder.specs.Variables.{occurrence, occurrences}
use Rattle.st_parse_builder.specs.Limits.{place_past}
use Rattle.st_parse_builder.specs.inner.Counting.{spelled, Counted, Knows}
use Rattle.st_parse_builder.proofs.Limits.{few_past, none_past, next_seen, all_seen}
use Rattle.st_parse_builder.proofs.Lists.{all_taken}
use Rattle.st_parse_builder.proofs.limit.place_past.Goals as goal

pub returns-then-seen-limit : goal.returns-then-seen-limit
returns-then-seen-limit c = sym (few_past c.args.limit c.args.seen.now (omega arith))

pub tokens-preserved : goal.tokens-preserved
tokens-preserved c =
    subst (λ os. Knows c.args.limit os (spelled c.count.new.names.keys))
    (sym (next_seen c.args.seen.now c.tokens.token-index c.token-item.result c.tokens-test.true c.token-item.is))
    (subst (Counted c.args.limit (occurrences (take c.tokens.token-index c.args.seen.now) ++ occurrence c.token-item.result ∷ []) (spelled c.count.new.names.keys))
    c.in_default.is (c.in_ok-at.ensures (occurrences (take c.tokens.token-index c.args.seen.now)) c.tokens.invariant))

pub returns-in-Some : goal.returns-in-Some
returns-in-Some c =
    sym (ap (place_past c.args.limit) (all_seen c.args.seen.now c.tokens.token-index c.token-item.result c.tokens-test.true c.token-item.is)
    ∙ subst (Counted c.args.limit (occurrences (take c.tokens.token-index c.args.seen.now) ++ occurrence c.token-item.result ∷ []) (spelled c.count.new.names.keys))
    c.in-Some.is (c.in_ok-at.ensures (occurrences (take c.tokens.token-index c.args.seen.now)) c.tokens.invariant)
    (occurrences (drop (c.tokens.token-index + 1) c.args.seen.now)))

pub returns : goal.returns
returns c =
    sym (none_past c.args.limit (occurrences c.args.seen.now) (spelled c.tokens.names.keys)
    (subst (λ ts. Knows c.args.limit (occurrences ts) (spelled c.tokens.names.keys))
    (all_taken c.args.seen.now c.tokens.token-index (omega (arith, c.tokens-test.false))) c.tokens.invariant))
