use Rattle.std.proofs.Common.{rules, sym, subst}
use Rattle.st_il.specs.declared.ty.Ty.TheVariants as ty
use Rattle.st_il.specs.Definitions.{syntaxes}
use Rattle.st_ilcheck.specs.Rules.{IsList, AllAre}
use Rattle.st_ilcheck.proofs.keeping.is_list_at.Goals as goal

pub returns-then-not-is_list : goal.returns-then-not-is_list
returns-then-not-is_list c = (λ f. search rules, λ h. c.if-not-is_list.ensures.1 (subst (IsList (syntaxes c.args.language.now)) (sym c.first_type.ensures) h.0))

pub returns : goal.returns
returns c = (
  λ y. (
    subst (IsList (syntaxes c.args.language.now)) c.first_type.ensures (c.if-not-is_list.ensures.0 (search rules)),
    subst (AllAre (syntaxes c.args.language.now) ty.Nat) c.behind_first.ensures (c.in_ok-kept.ensures.0 y),
  ),
  λ h. c.in_ok-kept.ensures.1 (subst (AllAre (syntaxes c.args.language.now) ty.Nat) (sym c.behind_first.ensures) h.1),
)
