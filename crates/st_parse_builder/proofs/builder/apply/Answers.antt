use Rattle.std.proofs.Common.{◌≡◌, ◌∙◌, ap, length, reverse}
use Rattle.std.proofs.lemmas.Result.{on_ok_weaker}
use Rattle.st_parse_builder.specs.Variables.{occurrences}
use Rattle.st_parse_builder.specs.inner.Entries.{applied, entries}
use Rattle.st_parse_builder.proofs.Simulated.{simulated}
use Rattle.st_parse_builder.proofs.Noted.{noted_is}
use Rattle.st_parse_builder.proofs.HaveTrees.{trees_come, trees_made}
use Rattle.st_parse_builder.proofs.Steps.{finished_is, made_some, noted_same, seen_count}
use Rattle.st_parse_builder.proofs.builder.apply.Goals as goal

pub returns-clause-fits : goal.returns-clause-fits
returns-clause-fits c before s u h k =
    let a = c.args.action.now in
    let n = length c.args.seen.now in
    let fit : applied n a (reverse c.args.stack.now) ≡ _ = ap (applied n a) k.0 ∙ simulated (length before) n a s u (seen_count before s c.args.seen.now k.1) h in
    on_ok_weaker c.finish.result
    (λ e. (
      finished_is (applied n a (reverse c.args.stack.now)) c.in_ok-made.made _ (reverse c.make.new.stack) (reverse c.finish.new.stack) (entries (length before) u) c.in_ok-made.ensures.part fit e,
      noted_same a (reverse c.args.stack.now) (entries (length before) s) (occurrences c.args.seen.now) _ (occurrences c.make.new.seen) _ k.0 k.1
          (made_some (applied n a (reverse c.args.stack.now)) c.in_ok-made.made (reverse c.make.new.stack) (entries (length before) u) c.in_ok-made.ensures.part fit c.in_ok-made.ensures.seen)
          (noted_is before a s u h),
    ))
    c.finish.ensures

pub returns-clause-trees : goal.returns-clause-trees
returns-clause-trees c =
    let a = c.args.action.now in
    let n = length c.args.seen.now in
    on_ok_weaker c.finish.result
    (λ e u j. trees_made (applied n a (reverse c.args.stack.now)) (reverse c.make.new.stack) (reverse c.finish.new.stack) c.in_ok-made.made _ u c.in_ok-made.ensures.part e j
    (λ v i k. trees_come n a (reverse c.args.stack.now) v i u k))
    c.finish.ensures
