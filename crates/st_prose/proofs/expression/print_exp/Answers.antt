use Rattle.std.proofs.Common.{◌≡◌, List, ℕ, ◌++◌, ap, ◌∙◌, subst, OnOk}
use Rattle.st_el.specs.SourceText.{source_text}
use Rattle.st_erase.specs.Erasure.{erased_exp}
use Rattle.st_prose.proofs.expression.print_exp.Goals as goal

pub returns : goal.returns
returns c =
    let P : List ℕ → Type 0 = λ text. OnOk c.print_el.result (c.print_el.new.out.items ≡ c.args.out.now.items ++ text) in
    subst P (ap source_text (c.in_ok-source.ensures.source ∙ ap (λ z. erased_exp z c.args.exp.now) c.il.ensures)) c.print_el.ensures.ok
