use Rattle.std.proofs.Common.{◌∙◌, sym}
use Rattle.std.proofs.lemmas.Result.{MatchResult-weaker}
use Rattle.st_words.proofs.table.take_relation.Goals as goal

pub returns : goal.returns
returns c =
    let plain = c.in_ok-without_options.ensures in
    MatchResult-weaker c.goal_of.result c.goal_of.ensures
    (λ goal is. (plain.0 ∙ is.0, is.1, plain.1))
    (λ fault none relation term files takes. none (record { relation = relation; term = term; files = files }) (sym plain.0 ∙ takes.0, takes.1))
