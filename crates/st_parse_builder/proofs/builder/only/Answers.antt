use Rattle.std.proofs.Common.{◌≡◌, reverse, ◌∙◌}
use Rattle.st_parse_builder.specs.inner.Parts.{untold, made_or}
use Rattle.st_parse_builder.specs.inner.Entries.{the_exp}
use Rattle.st_parse_builder.proofs.Steps.{exp_wanting, exp_with_more}
use Rattle.st_parse_builder.proofs.builder.only.Goals as goal

pub returns-in_default : goal.returns-in_default
returns-in_default c = c.untold.ensures ∙ exp_wanting (reverse c.args.stack.now) c.args.from c.in_default.ensures

pub returns-then-not-is_empty : goal.returns-then-not-is_empty
returns-then-not-is_empty c =
    let lone : untold c.args.from ≡ made_or (the_exp (reverse c.args.stack.now)) (untold c.args.from) =
    exp_with_more (reverse c.args.stack.now) c.pop_done.new.stack c.in-Some.top c.args.from c.in-Some.ensures (λ e. let full = c.is_empty.ensures.1 e in absurd (cc)) in
    cc
