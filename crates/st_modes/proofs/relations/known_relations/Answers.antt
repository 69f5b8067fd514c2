use Rattle.std.proofs.Common.{sym, subst}
use Rattle.st_modes.specs.inner.Relations.{AreDirected}
use Rattle.st_modes.specs.inner.Circles.{AreCircles}
use Rattle.st_modes.proofs.relations.known_relations.Goals as goal

pub returns : goal.returns
returns c = (
  record {
    directions = c.in_ok-directions.ensures.0;
    directed = subst (λ il. AreDirected il c.in_ok-directed.directed.entries) (sym c.in_ok-directions.ensures.1) c.in_ok-directed.ensures;
    circles = subst (λ il. AreCircles il c.in_ok-circles.circles) (sym c.in_ok-directions.ensures.1) c.in_ok-circles.ensures;
  },
  c.in_ok-directions.ensures.1,
)
