use Rattle.std.proofs.Common.{◌≡◌, ◌++◌, map, flat_map, take, codes}
use Rattle.st_latex.specs.Tokens.{token}
use Rattle.st_latex.specs.Parts.{joined, field_text}
use Rattle.st_latex.specs.Expressions.{latex_exp, latex_seg, latex_field}
use Rattle.st_latex.proofs.expression.+print_exp.Given as goal

abbrev pub invariant-print_exps-loop-part : goal.invariant-print_exps-loop-part
invariant-print_exps-loop-part l =
    l.out.items ≡ l.initial.out.items ++ joined (map latex_exp (take l.part-index l.parts))

abbrev pub invariant-print_listed-loop-part : goal.invariant-print_listed-loop-part
invariant-print_listed-loop-part l =
    l.out.items ≡ l.initial.out.items
    ++ flat_map (λ next. token (codes ",") ++ next) (map latex_exp (take l.part-index l.others))

abbrev pub invariant-print_listed_fields-loop-field : goal.invariant-print_listed_fields-loop-field
invariant-print_listed_fields-loop-field l =
    l.out.items ≡ l.initial.out.items
    ++ flat_map (λ next. token (codes ",") ++ next)
    (map field_text (map latex_field (take l.field-index l.others)))

abbrev pub invariant-print_path-loop-seg : goal.invariant-print_path-loop-seg
invariant-print_path-loop-seg l =
    l.out.items ≡ l.initial.out.items ++ joined (map latex_seg (take l.seg-index l.path))
