use Rattle.std.proofs.Common.{◌∙◌, ap, ◌++◌, append_assoc}
use Rattle.st_answers.specs.RefusalTexts.{part_words}
use Rattle.st_answers.proofs.OrderLines.{full_name_parts}
use Rattle.st_answers.proofs.ordering.add_full_name.Goals as goal

pub returns : goal.returns
returns c =
    let relation = c.args.rule.now.relation in
    let part = part_words c.args.rule.now.name in
    c.in_ok-push_rule_part.ensures ∙ ap (λ bytes. bytes ++ part) (c.in_ok-extend_from_slice.ensures.items ∙ ap (λ n. c.args.bytes.now.items ++ n) c.as_slice.ensures)
    ∙ append_assoc c.args.bytes.now.items relation part ∙ ap (λ bytes. c.args.bytes.now.items ++ bytes) (full_name_parts relation c.args.rule.now.name)
