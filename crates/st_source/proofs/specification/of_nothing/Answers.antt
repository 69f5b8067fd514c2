use Rattle.st_source.proofs.Specifications.{nothing_specified}
use Rattle.st_source.proofs.specification.of_nothing.Goals as goal

pub returns : goal.returns
returns c = λ names files all.
    nothing_specified files c.new.result c.new-2.result c.new-3.result c.new-4.result c.new-5.result c.new.ensures c.new-2.ensures c.new-3.ensures c.new-4.ensures c.new-5.ensures all
