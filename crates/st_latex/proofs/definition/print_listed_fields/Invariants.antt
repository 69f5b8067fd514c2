use Rattle.std.proofs.Common.{◌≡◌, ◌++◌, map, flat_map, take, codes}
use Rattle.st_latex.specs.Tokens.{token}
use Rattle.st_latex.specs.Parts.{field_text}
use Rattle.st_latex.specs.LatexText.{declared_field}
use Rattle.st_latex.proofs.definition.print_listed_fields.Given as goal

abbrev pub invariant-loop-field : goal.invariant-loop-field
invariant-loop-field l =
    l.out.items ≡ l.initial.out.items
    ++ flat_map (λ next. token (codes ",") ++ next)
    (map field_text (map declared_field (take l.field-index l.others)))
