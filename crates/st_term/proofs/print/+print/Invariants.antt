use Rattle.std.proofs.Common.{◌≡◌, ◌++◌, map, flat_map, take, drop, codes, false, None}
use Rattle.std.specs.Option.{option_map}
use Rattle.st_term.specs.declared.place.Place.TheVariants.{Alone}
use Rattle.st_term.specs.TermText.{shown, element_text, field_text, pieces_texts}
use Rattle.st_term.specs.inner.Pieces.{piece_now, shown_field, continued, rest_text}
use Rattle.st_term.proofs.print.+print.Given as goal

abbrev pub invariant-print_elements-loop-element : goal.invariant-print_elements-loop-element
invariant-print_elements-loop-element l =
    l.out.items ++ continued l.behind (map element_text (map shown (drop l.element-index l.elements)))
    ≡ l.initial.out.items ++ continued l.initial.behind (map element_text (map shown l.elements))

abbrev pub invariant-print_listed-loop-value : goal.invariant-print_listed-loop-value
invariant-print_listed-loop-value l =
    l.out.items ≡ l.initial.out.items
    ++ flat_map (λ next. codes ", " ++ next) (map (λ v. v.at Alone) (map shown (take l.value-index l.others)))

abbrev pub invariant-print_fields_listed-loop-field : goal.invariant-print_fields_listed-loop-field
invariant-print_fields_listed-loop-field l =
    l.out.items ≡ l.initial.out.items
    ++ flat_map (λ next. codes ", " ++ next) (map field_text (map shown_field (take l.field-index l.others)))

abbrev pub invariant-print_pieces-loop-i : goal.invariant-print_pieces-loop-i
invariant-print_pieces-loop-i l =
    l.out.items ++ rest_text (option_map piece_now l.before) (map piece_now (drop l.i l.pieces)) (map shown l.operands) l.progress
    ≡ l.initial.out.items ++ continued false (pieces_texts None (map piece_now l.pieces) (map shown l.operands))
