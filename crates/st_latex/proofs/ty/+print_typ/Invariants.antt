use Rattle.std.proofs.Common.{◌≡◌, ◌++◌, map, flat_map, take, codes}
use Rattle.st_latex.specs.Tokens.{token}
use Rattle.st_latex.specs.Types.{latex_typ}
use Rattle.st_latex.proofs.ty.+print_typ.Given as goal

abbrev pub invariant-print_listed_typs-loop-typ : goal.invariant-print_listed_typs-loop-typ
invariant-print_listed_typs-loop-typ l =
    l.out.items ≡ l.initial.out.items
    ++ flat_map (λ next. token (codes ",") ++ next) (map latex_typ (take l.typ-index l.others))
