use Rattle.std.proofs.Common.{ℕ, List, sym, subst}
use Rattle.std.specs.Prelude.{MatchOption}
use Rattle.st_il.specs.declared.ty.Ty.{Ty}
use Rattle.st_type_table.specs.Cases.{HasFields}
use Rattle.st_type_table.specs.inner.Graph.{AreRanks}
use Rattle.st_any_table.specs.inner.Heads.{head_graph}
use Rattle.st_any_table.proofs.table.AnyTable.fields.Goals as goal

pub fields_of-requires : goal.fields_of-requires
fields_of-requires c = subst (AreRanks (head_graph c.self.inside.survey.defs)) (sym c.as_slice-heads.ensures) c.self.invariant.heads

pub returns : goal.returns
returns c = subst (λ d. MatchOption c.fields_of.result ((fields : List (List ℕ × Ty)) → HasFields d c.args.ty.now fields → ⊥) (λ fields. HasFields d c.args.ty.now fields.now)) c.self.view_is c.fields_of.ensures
