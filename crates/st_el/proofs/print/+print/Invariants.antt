use Rattle.std.proofs.Common.{◌≡◌, ◌++◌, map, flat_map, take, codes}
use Rattle.st_el.specs.declared.context.Around.TheVariants.{Brackets}
use Rattle.st_el.specs.Contexts.{next_element, whole}
use Rattle.st_el.specs.SourceText.{printed, printed_step, printed_field, field_text}
use Rattle.st_el.proofs.print.+print.Given as goal

abbrev pub invariant-print_elements-loop-part : goal.invariant-print_elements-loop-part
invariant-print_elements-loop-part l =
    l.out.items ≡ l.initial.out.items
    ++ flat_map (λ next. codes " " ++ next.at (next_element l.around)) (map printed (take l.part-index l.others))

abbrev pub invariant-print_listed-loop-part : goal.invariant-print_listed-loop-part
invariant-print_listed-loop-part l =
    l.out.items ≡ l.initial.out.items
    ++ flat_map (λ next. codes ", " ++ next)
    (map (λ part. part.at (whole Brackets)) (map printed (take l.part-index l.others)))

abbrev pub invariant-print_fields-loop-field : goal.invariant-print_fields-loop-field
invariant-print_fields-loop-field l =
    l.out.items ≡ l.initial.out.items
    ++ flat_map (λ next. codes ", " ++ next) (map field_text (map printed_field (take l.field-index l.others)))

abbrev pub invariant-print_path-loop-step : goal.invariant-print_path-loop-step
invariant-print_path-loop-step l =
    l.out.items ≡ l.initial.out.items
    ++ flat_map (λ step. step) (map printed_step (take l.step-index l.path))
