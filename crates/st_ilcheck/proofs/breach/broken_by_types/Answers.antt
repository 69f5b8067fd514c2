use Rattle.std.proofs.Common.{sym, subst}
use Rattle.st_ilcheck.specs.Typed.{BreaksByTypes}
use Rattle.st_ilcheck.proofs.breach.broken_by_types.Goals as goal

pub returns-in_ok-broken-in-Rule : goal.returns-in_ok-broken-in-Rule
returns-in_ok-broken-in-Rule c = subst (λ d. BreaksByTypes c.args.language.now d c.in_ok-broken-in-Rule.broken) (sym c.in-Rule.is) c.in_ok-broken-in-Rule.ensures

pub returns-in_ok-broken-in-Clause : goal.returns-in_ok-broken-in-Clause
returns-in_ok-broken-in-Clause c = subst (λ d. BreaksByTypes c.args.language.now d c.in_ok-broken-in-Clause.broken) (sym c.in-Clause.is) c.in_ok-broken-in-Clause.ensures
