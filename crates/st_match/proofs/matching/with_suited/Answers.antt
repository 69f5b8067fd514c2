use Rattle.std.proofs.Common.{sym, ◌∙◌, subst}
use Rattle.st_semantics.proofs.Names.{true_false}
use Rattle.st_match.specs.inner.Found.{Suits}
use Rattle.st_match.proofs.FoundMatches.{Adds-never, Adds-new}
use Rattle.st_match.proofs.matching.with_suited.Goals as goal

pub returns-then-not-yes : goal.returns-then-not-yes
returns-then-not-yes c =
    Adds-never (Suits c.args.sought.now) _ c.args.found
    (λ e is s. true_false (sym (c.in_ok-yes.ensures.1 (subst (Suits c.args.sought.now) is s)) ∙ c.if-not-yes.true))

pub returns : goal.returns
returns c =
    Adds-new (Suits c.args.sought.now) c.args.env c.args.found c.push.new.self c.in_ok-push.ensures.ok (c.in_ok-yes.ensures.0 c.if-not-yes.false)
