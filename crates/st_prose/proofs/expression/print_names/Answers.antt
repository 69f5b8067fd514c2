use Rattle.std.proofs.Common.{ap, ◌∙◌, ◌++◌}
use Rattle.st_prose.proofs.SentenceParts.{names_end}
use Rattle.st_prose.proofs.expression.print_names.Goals as goal

pub returns : goal.returns
returns c =
    names_end c.args.out.now.items _ c.loop-name.out.items c.args.names.now c.in-Some.others.now c.in-Some.first.now c.loop-name.name-index
    c.in-Some.ensures.cases.0 (c.in_ok-print_word.ensures ∙ ap (λ z. c.args.out.now.items ++ z) c.as_slice.ensures) c.loop-name.invariant c.loop-name-test.false
