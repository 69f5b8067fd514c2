use Rattle.std.proofs.Common.{◌∙◌, ap, reverse}
use Rattle.std.proofs.lemmas.Result.{on_ok_weaker}
use Rattle.st_parse_builder.specs.inner.NotationEntries.{applied, entries}
use Rattle.st_parse_builder.proofs.HaveTrees.{trees_made}
use Rattle.st_parse_builder.proofs.NotationHaveTrees.{notation_trees_come}
use Rattle.st_parse_builder.proofs.NotationSimulated.{simulated}
use Rattle.st_parse_builder.proofs.Steps.{finished_is}
use Rattle.st_parse_builder.proofs.notation_builder.apply.Goals as goal

pub returns-clause-fits : goal.returns-clause-fits
returns-clause-fits c s u h k =
    let a = c.args.action.now in
    on_ok_weaker c.finish.result
    (λ e. finished_is (applied a (reverse c.args.stack.now)) c.in_ok-made.made _ (reverse c.make.new.stack) (reverse c.finish.new.stack) (entries u) c.in_ok-made.ensures (ap (applied a) k ∙ simulated a s u h) e)
    c.finish.ensures

pub returns-clause-trees : goal.returns-clause-trees
returns-clause-trees c =
    let a = c.args.action.now in
    on_ok_weaker c.finish.result
    (λ e u j. trees_made (applied a (reverse c.args.stack.now)) (reverse c.make.new.stack) (reverse c.finish.new.stack) c.in_ok-made.made 0 u c.in_ok-made.ensures e j
    (λ v i k. notation_trees_come a (reverse c.args.stack.now) v i u k))
    c.finish.ensures
