use Rattle.std.proofs.Common.{rules, sym, subst}
use Rattle.st_il.specs.declared.ty.Ty.TheVariants as ty
use Rattle.st_type_table.specs.Cases.{HasFields}
use Rattle.st_il.specs.Definitions.{syntaxes}
use Rattle.st_ilcheck.proofs.Kept.{record-kept, record-none}
use Rattle.st_ilcheck.proofs.keeping.is_record.Goals as goal

pub returns : goal.returns
returns c =
    record-kept (syntaxes c.args.language.now) (ty.Name c.args.name.now) c.args.types.now c.in-Some.declared.now c.in_ok-kept-in-Some.kept
    (subst (λ z. HasFields (syntaxes c.args.language.now) z c.in-Some.declared.now) c.in_ok-ty.ensures c.in-Some.ensures) c.in_ok-kept-in-Some.ensures

pub returns-in-None : goal.returns-in-None
returns-in-None c = (
  λ f. search rules,
  λ k. absurd (record-none (syntaxes c.args.language.now) (ty.Name c.args.name.now) c.args.types.now
      (λ fields h. c.in-None.ensures fields (subst (λ z. HasFields (syntaxes c.args.language.now) z fields) (sym c.in_ok-ty.ensures) h)) k),
)
