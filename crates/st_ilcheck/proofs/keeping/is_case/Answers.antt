use Rattle.std.proofs.Common.{◌↔◌, rules, sym, subst}
use Rattle.std.specs.Prelude.{IsTrue}
use Rattle.st_il.specs.declared.ty.Ty.TheVariants as ty
use Rattle.st_type_table.specs.inner.TypedLevels.{HasOperands}
use Rattle.st_il.specs.Definitions.{syntaxes}
use Rattle.st_ilcheck.specs.Rules.{Are}
use Rattle.st_ilcheck.proofs.Kept.{case-kept, case-none}
use Rattle.st_ilcheck.proofs.keeping.is_case.Goals as goal

pub returns : goal.returns
returns c =
    case-kept (syntaxes c.args.language.now) (ty.Name c.args.name.now) c.args.tag.now c.args.types.now c.in-Some.operands.now c.in_ok-kept-in-Some.kept
    (subst (λ z. HasOperands (syntaxes c.args.language.now) z c.args.tag.now c.in-Some.operands.now) c.in_ok-ty.ensures c.in-Some.ensures)
    (subst (λ z. IsTrue c.in_ok-kept-in-Some.kept ↔ Are (syntaxes c.args.language.now) z c.args.types.now) c.as_slice.ensures c.in_ok-kept-in-Some.ensures)

pub returns-in-None : goal.returns-in-None
returns-in-None c = (
  λ f. search rules,
  λ k. absurd (case-none (syntaxes c.args.language.now) (ty.Name c.args.name.now) c.args.tag.now c.args.types.now
      (λ operands h. c.in-None.ensures operands (subst (λ z. HasOperands (syntaxes c.args.language.now) z c.args.tag.now operands) (sym c.in_ok-ty.ensures) h)) k),
)
