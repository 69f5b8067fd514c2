use Rattle.std.proofs.Common.{◌≡◌, ◌++◌, map, flat_map, take, codes}
use Rattle.st_prose.specs.Sentences.{exp_text}
use Rattle.st_prose.proofs.expression.print_exps.Given as goal

abbrev pub invariant-loop-exp : goal.invariant-loop-exp
invariant-loop-exp l =
    l.out.items ≡ l.initial.out.items
    ++ flat_map (λ next. codes ", " ++ next) (map (exp_text l.index) (take l.exp-index l.others))
