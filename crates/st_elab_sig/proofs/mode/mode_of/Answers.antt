use Rattle.std.proofs.Common.{rules, ◌≡◌, ◌∙◌, ap, [], ◌∷◌, filter}
use Rattle.st_el.specs.Erasure.{is_mode}
use Rattle.st_elab_sig.proofs.ModesLemmas.{one_says}
use Rattle.st_elab_sig.proofs.mode.mode_of.Goals as goal

pub returns-clause-said : goal.returns-clause-said
returns-clause-said c =
    let none : filter is_mode c.in-Some.others.now ≡ [] = search rules in
    one_says c.args.hints.now c.args.holes c.in-Some.hint.now c.as_slice.result.now c.mode_said.result
    (c.in-Some.ensures ∙ ap (λ modes. c.in-Some.hint.now ∷ modes) none) c.as_slice.ensures c.mode_said.ensures.said
