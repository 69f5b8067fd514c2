use Rattle.std.proofs.Common.{rules, subst, Option}
use Rattle.std.specs.Borrow.{Bor}
use Rattle.std.specs.Option.{option_copied}
use Rattle.st_il.specs.declared.ty.Ty.{Ty}
use Rattle.st_il.specs.Definitions.{syntaxes}
use Rattle.st_ilcheck.specs.Rules.{HasField}
use Rattle.st_ilcheck.proofs.shape.has_field.Goals as goal

pub returns-in-None-field_type : goal.returns-in-None-field_type
returns-in-None-field_type c = (
  λ f. search rules,
  λ h. let j = subst (λ (z : Option (Bor Ty)). HasField (syntaxes c.args.language.now) c.args.name.now (option_copied z)) c.in-Some.is h in absurd (c.in-None-field_type.ensures j.0 j.1),
)
