use Rattle.std.proofs.Common.{sym, ap, subst, ◌∙◌}
use Rattle.st_parse_automaton.specs.inner.Readings.{progress_of}
use Rattle.st_parse.specs.inner.Drafts.{arguments_after}
use Rattle.st_parse.specs.inner.Parts.{redrafted}
use Rattle.st_parse.specs.inner.Ready.{Ready}
use Rattle.st_parse.proofs.Works.{redrafted_keeps}
use Rattle.st_parse.proofs.take.redraft.Goals as goal

pub returns : goal.returns
returns c before after h r e =
    let is = c.change_of-change.ensures in
    redrafted_keeps c.args.kept.now c.change_kept.new.kept c.args.parts.now c.drop_arguments.new.parts before after (progress_of c.args.next.now) c.args.position c.args.class c.args.token.now
    c.as_slice-arguments.result.now h r e c.as_slice-arguments.ensures
    (λ d f k m g. c.in_ok-change_kept.ensures d f k (subst (λ y. Ready y d) (sym is) m)
    (ap (λ y. redrafted y c.args.class.shape c.args.token.now c.as_slice-arguments.result.now d) is ∙ g))
    (c.drop_arguments.ensures.arguments ∙ ap (λ y. arguments_after y c.args.parts.now.arguments) is)
    c.drop_arguments.ensures.actions c.drop_arguments.ensures.words
