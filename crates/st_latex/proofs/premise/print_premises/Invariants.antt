use Rattle.std.proofs.Common.{◌≡◌, ◌++◌, map, flat_map, take, codes}
use Rattle.st_latex.specs.Tokens.{token}
use Rattle.st_latex.specs.Premises.{latex_prem}
use Rattle.st_latex.proofs.premise.print_premises.Given as goal

abbrev pub invariant-loop-prem : goal.invariant-loop-prem
invariant-loop-prem l =
    l.out.items ≡ l.initial.out.items
    ++ flat_map (λ next. token (codes "\\quad") ++ next) (map latex_prem (take l.prem-index l.others))
