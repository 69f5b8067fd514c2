use Rattle.std.proofs.Common.{◌≡◌, List, ℕ, ◌++◌, ap, ◌∙◌, subst, OnOk}
use Rattle.st_il.specs.declared.expression.IlExp.TheVariants as il_exp
use Rattle.st_prose.proofs.BareIterations.{bare_iteration}
use Rattle.st_prose.proofs.expression.print_mark.Goals as goal

pub returns : goal.returns
returns c =
    let P : List ℕ → Type 0 = λ text. OnOk c.print_exp.result (c.print_exp.new.out.items ≡ c.args.out.now.items ++ text) in
    subst P (bare_iteration c.args.index.now c.args.how.now _ _ _ c.in_ok-how.ensures c.new-3.ensures (c.in_ok-body.ensures ∙ ap il_exp.Var c.new.ensures)) c.print_exp.ensures
