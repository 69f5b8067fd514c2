use Rattle.std.proofs.Common.{sym, ap, ◌∙◌, List, ℕ}
use Rattle.std.specs.Option.{option_map}
use Rattle.st_il.specs.declared.ty.Ty.{Ty}
use Rattle.st_elab_table.proofs.FoundByName.{lookup-found}
use Rattle.st_elab_rows.proofs.variable.declared_type.Goals as goal

pub returns-in-Some : goal.returns-in-Some
returns-in-Some c = ap (option_map (λ (x : List ℕ × Ty). x.1)) c.in-Some.ensures ∙ lookup-found c.args.name.now c.args.vars.now

pub returns-in-None : goal.returns-in-None
returns-in-None c = ap (option_map (λ (x : List ℕ × Ty). x.1)) c.in-None.ensures ∙ lookup-found c.args.name.now c.args.vars.now
