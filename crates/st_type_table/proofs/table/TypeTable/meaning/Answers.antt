use Rattle.std.proofs.Common.{subst}
use Rattle.st_type_table.specs.Meaning.{Means}
use Rattle.st_type_table.specs.Breach.{IsSound}
use Rattle.st_type_table.proofs.MeansLemmas.{Means-single}
use Rattle.st_type_table.proofs.table.TypeTable.meaning.Goals as goal

pub returns-clause-one : goal.returns-clause-one
returns-clause-one c = λ t m. Means-single c.args.self.now c.args.ty.now t c.meaning_of.result.now m (subst (λ d. Means d c.args.ty.now c.meaning_of.result.now) c.self.view_is c.meaning_of.ensures)

pub returns-clause-sound : goal.returns-clause-sound
returns-clause-sound c = subst IsSound c.self.view_is c.self.invariant.settled.sound
