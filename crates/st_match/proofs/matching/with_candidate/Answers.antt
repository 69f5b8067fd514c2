use Rattle.std.proofs.Common.{◌≡◌, sym, ◌∙◌, ap, Some, None}
use Rattle.std.specs.Prelude.{option_map}
use Rattle.st_match.specs.inner.Assembly.{entries_of, entries}
use Rattle.st_match.specs.inner.Found.{Suits}
use Rattle.st_match.proofs.FoundMatches.{Adds-never, Adds-made}
use Rattle.st_match.proofs.matching.with_candidate.Goals as goal

pub returns-in-None : goal.returns-in-None
returns-in-None c =
    Adds-never (Suits c.args.sought.now) _ c.args.found
    (λ e made s. let bad : None ≡ Some e.entries = ap (option_map entries) (sym c.in-None.is) ∙ (c.in_ok-made.ensures ∙ made) in cc)

pub returns-in_ok-more-in-Some : goal.returns-in_ok-more-in-Some
returns-in_ok-more-in-Some c =
    Adds-made (Suits c.args.sought.now) (entries_of c.args.sought.now.names.now c.args.sought.now.env.now c.args.candidate.now) c.in-Some.env c.args.found c.in_ok-more-in-Some.more
    (sym c.in_ok-made.ensures ∙ ap (option_map entries) c.in-Some.is) c.in_ok-more-in-Some.ensures
