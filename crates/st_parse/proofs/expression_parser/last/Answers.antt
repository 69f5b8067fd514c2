use Rattle.std.proofs.Common.{[], ◌∷◌, ◌++◌, sym, ap, ◌∙◌}
use Rattle.st_parse_builder.specs.Meaning.{meaning}
use Rattle.st_parse.specs.inner.ExpressionSeen.{end_actions}
use Rattle.st_parse.proofs.expression_parser.last.Goals as goal

pub returns : goal.returns
returns c = λ k st ks t es e f q a.
    c.whole.ensures (es ++ meaning t ∷ [])
    (c.in_ok-end.ensures.exps t es f (q ∙ ap (λ acts. c.args.reader.actions ++ acts) (sym (c.in_ok-added.ensures ∙ ap end_actions e))) a)
