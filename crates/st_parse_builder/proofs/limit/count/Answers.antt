use Rattle.std.proofs.Common.{◌≤◌, ◌<◌, List, ℕ, Some, sym, ap, subst, ◌∙◌}
use Rattle.std.specs.Borrow.{Bor}
use Rattle.std.proofs.lemmas.List.{length-map}
use Rattle.st_parse_builder.specs.Names.{name_of}
use Rattle.st_parse_builder.specs.Variables.{occurrence}
use Rattle.st_parse_builder.specs.inner.Counting.{spelled}
use Rattle.st_parse_builder.proofs.Limits.{spelled_insert, knows_next, next_past}
use Rattle.st_parse_builder.proofs.limit.count.Goals as goal

pub returns-then-len-limit : goal.returns-then-len-limit
returns-then-len-limit c before k behind =
    next_past c.args.limit before behind (spelled c.args.names.now.keys) (spelled c.insert.new.self.keys) (occurrence c.args.token.now)
    (spelled_insert c.args.names.now.keys c.insert.new.self.keys c.name_of.result (name_of c.args.token.now.kind) c.in_ok-insert.ensures.keys
    (c.name_of.ensures ∙ ap (λ t. name_of t.kind) c.get-token.ensures))
    (subst (λ n. c.args.limit < n) (c.len.ensures.len ∙ sym (length-map c.insert.new.self.keys (λ (key : Bor (List ℕ)). key.now))) c.if-len-limit.true)
    k
    ∙ ap (λ t. Some t.at) (sym c.get-token.ensures)

pub returns : goal.returns
returns c before k =
    knows_next c.args.limit before (spelled c.args.names.now.keys) (spelled c.insert.new.self.keys) (occurrence c.args.token.now)
    (spelled_insert c.args.names.now.keys c.insert.new.self.keys c.name_of.result (name_of c.args.token.now.kind) c.in_ok-insert.ensures.keys
    (c.name_of.ensures ∙ ap (λ t. name_of t.kind) c.get-token.ensures))
    (subst (λ n. n ≤ c.args.limit) (c.len.ensures.len ∙ sym (length-map c.insert.new.self.keys (λ (key : Bor (List ℕ)). key.now))) c.if-len-limit.false)
    k
