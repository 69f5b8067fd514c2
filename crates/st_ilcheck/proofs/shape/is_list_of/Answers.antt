use Rattle.std.proofs.Common.{sym, subst, Option}
use Rattle.std.specs.Borrow.{Bor}
use Rattle.std.specs.Option.{option_copied}
use Rattle.st_il.specs.declared.ty.Ty.{Ty}
use Rattle.st_type_table.specs.Same.{Same}
use Rattle.st_il.specs.Definitions.{syntaxes}
use Rattle.st_ilcheck.specs.Rules.{IsListOf}
use Rattle.st_ilcheck.proofs.Single.{IsElementOf-single}
use Rattle.st_ilcheck.proofs.shape.is_list_of.Goals as goal

pub returns-in_ok-kept-in-Some-element : goal.returns-in_ok-kept-in-Some-element
returns-in_ok-kept-in-Some-element c = (
  λ y. subst (λ (z : Option (Bor Ty)). IsListOf (syntaxes c.args.language.now) (option_copied z) c.args.ty.now) (sym c.in-Some.is) (c.in-Some-element.element.now, (c.in-Some-element.ensures, c.in_ok-kept-in-Some-element.ensures.0 y)),
  λ h. let j = subst (λ (z : Option (Bor Ty)). IsListOf (syntaxes c.args.language.now) (option_copied z) c.args.ty.now) c.in-Some.is h in
      c.in_ok-kept-in-Some-element.ensures.1 (subst (λ z. Same (syntaxes c.args.language.now) z c.args.ty.now)
      (IsElementOf-single (syntaxes c.args.language.now) c.in-Some.list.now j.0 c.in-Some-element.element.now j.1.0 c.in-Some-element.ensures) j.1.1),
)
