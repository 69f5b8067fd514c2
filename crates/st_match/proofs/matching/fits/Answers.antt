use Rattle.st_match.proofs.FoundMatches.{fits-value, fits-none, fits-deep}
use Rattle.st_match.proofs.matching.fits.Goals as goal

pub returns-in-Val : goal.returns-in-Val
returns-in-Val c =
    fits-value c.args.types.now c.args.pattern.now c.args.env.now c.args.value.now c.in_ok-outcome.outcome c.in_ok-outcome.ensures c.in-Val.found c.same_value.result c.in-Val.is c.same_value.ensures

pub returns-in-NoValue : goal.returns-in-NoValue
returns-in-NoValue c =
    fits-none c.args.types.now c.args.pattern.now c.args.env.now c.args.value.now c.in_ok-outcome.outcome c.in_ok-outcome.ensures c.in-NoValue.is

pub returns-in-Deep : goal.returns-in-Deep
returns-in-Deep c =
    fits-deep c.args.types.now c.args.pattern.now c.args.env.now c.args.value.now c.in_ok-outcome.outcome c.in_ok-outcome.ensures c.in-Deep.is
