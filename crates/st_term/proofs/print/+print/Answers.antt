use Rattle.std.proofs.Common.{◌≡◌, refl, sym, ◌∙◌, ap, subst, ◌+◌, ◌++◌, false, None, Some, List, ℕ, map, codes, OnOk}
use Rattle.std.specs.Option.{option_map}
use Rattle.st_il.specs.Tags.{template_of}
use Rattle.st_il.specs.declared.template.Template.{out-Template}
use Rattle.st_term.specs.declared.print.Progress.{Progress}
use Rattle.st_term.specs.TermText.{shown, field_text, is_element, needs_parens, pieces_of, pieces_texts, hole_place, hole_texts, case_at, case_text, separated}
use Rattle.st_term.specs.inner.Pieces.{piece_now, shown_field, collection_text, continued, FollowsOn, Goes}
use Rattle.st_term.proofs.PieceTexts.{continued-separated, hole_with, wrapped_text, list_some}
use Rattle.st_term.proofs.ShownLevels.{shown-Fields, option-at}
use Rattle.st_term.proofs.print.+print.Goals as goal

pub print_at-returns-in-Fields : goal.print_at-returns-in-Fields
print_at-returns-in-Fields t c =
    let P : List ℕ → Type 0 = λ text. OnOk c.print_fields.result (c.print_fields.new.out.items ≡ c.args.out.now.items ++ text) in
    subst P (ap (λ fields. codes "{" ++ separated (codes ", ") (map field_text (map shown_field fields)) ++ codes "}") c.as_slice-in-Fields.ensures
    ∙ sym (ap (λ s. s.at c.args.place) (ap shown c.in-Fields.is ∙ shown-Fields c.in-Fields.fields))) c.print_fields.ensures

pub print_at-returns-in-Opt : goal.print_at-returns-in-Opt
print_at-returns-in-Opt t c =
    let P : List ℕ → Type 0 = λ text. OnOk c.print_collection-in-Opt.result (c.print_collection-in-Opt.new.out.items ≡ c.args.out.now.items ++ text) in
    subst P (sym (option-at c.args.value.now c.in-Opt.field-0 c.args.place c.in-Opt.is)) c.print_collection-in-Opt.ensures

pub print_collection-returns : goal.print_collection-returns
print_collection-returns t c =
    let P : List ℕ → Type 0 = λ text. OnOk c.print_if-2.result (c.print_if-2.new.out.items ≡ text) in
    subst P (wrapped_text (is_element c.args.place) _ _ c.args.out.now.items _ _ _ (collection_text c.args.value.now)
    c.is_element-wrapped.ensures c.is_element-wrapped.ensures c.in_ok-print_if.ensures c.in_ok-print_elements_of.ensures refl) c.print_if-2.ensures

pub print_case-returns : goal.print_case-returns
print_case-returns t c =
    let P : List ℕ → Type 0 = λ text. OnOk c.print_if-2.result (c.print_if-2.new.out.items ≡ text) in
    let found : template_of c.args.tag.now ≡ Some c.in-Some.template = sym c.in_ok-template.ensures.gives ∙ c.in-Some.is in
    let vs = map shown c.args.operands.now in
    let whole = ap (λ o. case_at o vs c.args.place) found in
    let pieces : map piece_now c.as_slice.result.now ≡ pieces_of c.in-Some.template =
    ap (map piece_now) c.as_slice.ensures ∙ c.in_ok-push_pieces.ensures ∙ ap (λ ps. map piece_now ps ++ pieces_of c.in-Some.template) c.new-pieces.ensures in
    subst P (wrapped_text (needs_parens (out-Template c.in-Some.template) c.args.place) _ _ c.args.out.now.items _ _ _ (case_text c.in-Some.template vs)
    c.needs_parens-wrapped.ensures c.needs_parens-wrapped.ensures c.in_ok-print_if.ensures c.in_ok-print_pieces.ensures
    (ap (λ ps. continued false (pieces_texts None ps vs)) pieces ∙ continued-separated (pieces_texts None (pieces_of c.in-Some.template) vs))
    ∙ ap (λ z. c.args.out.now.items ++ z) (sym whole)) c.print_if-2.ensures

pub print_list-returns : goal.print_list-returns
print_list-returns t c =
    let P : List ℕ → Type 0 = λ text. OnOk c.print_elements.result (c.print_elements.new.out.items ≡ c.args.out.now.items ++ text) in
    subst P (list_some c.args.elements.now c.if-is_empty.ensures) c.print_elements.ensures

pub print_piece_at-returns-in_ok-after-in-Hole : goal.print_piece_at-returns-in_ok-after-in-Hole
print_piece_at-returns-in_ok-after-in-Hole t c =
    let operand = shown c.index-operands-progress.result in
    let before = option_map piece_now c.args.pieces.0 in
    let behind = option_map piece_now c.args.pieces.2 in
    let next : Progress = record { used = c.args.progress.used + 1; behind = c.in_ok-after-in-Hole.after } in
    let here : FollowsOn c.args.progress.behind c.in_ok-after-in-Hole.after c.args.out.now.items c.print_operand.new.out.items (hole_texts (hole_place before behind) operand) =
    subst (λ p. FollowsOn c.args.progress.behind c.in_ok-after-in-Hole.after c.args.out.now.items c.print_operand.new.out.items (hole_texts p operand)) c.hole_place-place.ensures c.in_ok-after-in-Hole.ensures in
    let goes = hole_with before behind c.args.operands.now c.index-operands-progress.result c.args.progress next c.args.out.now.items c.print_operand.new.out.items
    c.if-progress-operands.false c.index-operands-progress.is refl here in
    subst (λ p. Goes before (piece_now p) behind (map shown c.args.operands.now) c.args.progress next c.args.out.now.items c.print_operand.new.out.items) (sym c.in-Hole.is) goes
