use Rattle.std.proofs.Common.{◌∙◌}
use Rattle.st_semantics.specs.Iterations.{index_of, kind_of}
use Rattle.st_ilcheck.proofs.InsideLemmas.{inside-next, inside-end}
use Rattle.st_ilcheck.proofs.contents.inside.Goals as goal

pub loop-occurrence-preserved : goal.loop-occurrence-preserved
loop-occurrence-preserved c =
    inside-next (index_of c.args.how.now) (kind_of c.args.how.now) c.args.occurrences.now c.loop-occurrence.occurrence-index c.occurrence-item.result c.loop-occurrence.found c.in_ok-longer.longer
    c.loop-occurrence-test.true c.occurrence-item.is c.in_ok-longer.ensures
    ∙ c.loop-occurrence.invariant

pub returns : goal.returns
returns c =
    inside-end (index_of c.args.how.now) (kind_of c.args.how.now) c.args.occurrences.now c.loop-occurrence.occurrence-index c.loop-occurrence.found c.loop-occurrence-test.false c.loop-occurrence.invariant
