use Rattle.std.proofs.Common.{◌≡◌, List, ℕ, ◌++◌, append_assoc, codes, ap₂, ◌∙◌, subst, OnOk}
use Rattle.st_prose.proofs.step.print_goal.Goals as goal

pub returns : goal.returns
returns c =
    let P : List ℕ → Type 0 = λ text. OnOk c.print_word-2.result (c.print_word-2.new.out.items ≡ text) in
    subst P (ap₂ (λ x y. x ++ y) c.in_ok-print_word.ensures c.as_slice.ensures ∙ append_assoc c.args.out.now.items (codes "Find a result of ") c.args.relation.now) c.print_word-2.ensures
