use Rattle.std.proofs.Common.{ap, sym, ◌∙◌, arith, length, ◌≡◌}
use Rattle.std.specs.Prelude.{slice_get}
use Rattle.st_type_table.proofs.PartLemmas.{read-at}
use Rattle.st_type_table.proofs.definitions.Definitions.nth.Goals as goal

pub returns : goal.returns
returns c =
    let l : length c.self.inside.all.now ≡ length c.args.self.now = ap length c.self.view_is in
    ap (λ ds. slice_get ds c.args.number) (sym c.self.view_is) ∙ read-at c.self.inside.all.now c.args.number c.index-all-number.result (let h = c.requires in omega (arith, h, l)) c.index-all-number.is
