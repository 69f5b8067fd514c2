use Rattle.std.proofs.Common.{◌≡◌, ◌++◌, map, flat_map, take, codes}
use Rattle.st_latex.specs.Tokens.{token}
use Rattle.st_latex.specs.Types.{latex_notation}
use Rattle.st_latex.proofs.definition.print_alternatives.Given as goal

abbrev pub invariant-loop-alternative : goal.invariant-loop-alternative
invariant-loop-alternative l =
    l.out.items ≡ l.initial.out.items
    ++ flat_map (λ next. token (codes "\\mid") ++ next) (map latex_notation (take l.alternative-index l.others))
