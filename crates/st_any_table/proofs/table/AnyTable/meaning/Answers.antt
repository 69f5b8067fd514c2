use Rattle.std.proofs.Common.{sym, subst}
use Rattle.std.specs.Prelude.{MatchOption}
use Rattle.st_il.specs.declared.ty.Ty.{Ty}
use Rattle.st_type_table.specs.Meaning.{Means}
use Rattle.st_type_table.specs.inner.Graph.{AreRanks}
use Rattle.st_any_table.specs.inner.Heads.{head_graph}
use Rattle.st_any_table.proofs.table.AnyTable.meaning.Goals as goal

pub meaning_of-requires : goal.meaning_of-requires
meaning_of-requires c = subst (AreRanks (head_graph c.self.inside.survey.defs)) (sym c.as_slice-heads.ensures) c.self.invariant.heads

pub returns : goal.returns
returns c = subst (λ d. MatchOption c.meaning_of.result ((u : Ty) → Means d c.args.ty.now u → ⊥) (λ m. Means d c.args.ty.now m.now)) c.self.view_is c.meaning_of.ensures
