use Rattle.std.proofs.Common.{◌↔◌, sym, subst}
use Rattle.std.specs.Prelude.{IsTrue}
use Rattle.st_type_table.specs.inner.Graph.{IsOne}
use Rattle.st_any_table.proofs.AlikeLemmas.{any-one}
use Rattle.st_any_table.proofs.flats.is_one.Goals as goal

pub returns : goal.returns
returns c = subst (λ b. IsTrue b ↔ IsOne c.args.numbers.now c.args.number) (sym c.contains.ensures.value) (any-one c.args.numbers.now c.args.number)
