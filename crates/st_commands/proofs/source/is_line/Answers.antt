use Rattle.std.proofs.Common.{◌∙◌, sym, ap, ◌++◌, ◌∷◌, [], nat_eq}
use Rattle.std.specs.Cmp.Lexicographic.{pointwise, same_text}
use Rattle.std.proofs.lemmas.Cmp.{nat_list_eq_equiv}
use Rattle.st_commands.proofs.Lines.{front_and_end, same_front}
use Rattle.st_commands.proofs.source.is_line.Goals as goal

pub returns-in-Some : goal.returns-in-Some
returns-in-Some c =
    let bytes = c.args.bytes.now in
    let line = c.args.line.now in
    let cases = c.in-Some.ensures.cases in (
      λ equal. front_and_end bytes c.in-Some.front.now 10 cases.0 cases.1 ∙ ap (λ front. front ++ 10 ∷ []) (same_text c.in-Some.front.now line (sym equal ∙ c.eq.ensures)),
      λ is. c.eq.ensures ∙ ap (λ front. pointwise nat_eq front line) (same_front bytes c.in-Some.front.now line 10 cases.1 is) ∙ nat_list_eq_equiv.refl line,
    )
