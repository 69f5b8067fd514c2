use Rattle.std.proofs.Common.{ap, sym, ◌∙◌, arith, length, ◌≡◌}
use Rattle.std.specs.Prelude.{slice_get}
use Rattle.st_type_table.proofs.PartLemmas.{read-at}
use Rattle.st_any_table.proofs.definitions.Definitions.nth.Goals as goal

pub returns : goal.returns
returns c =
    let whole = c.as_slice-all.ensures ∙ c.self.view_is in
    let l : length c.as_slice-all.result.now ≡ length c.args.self.now = ap length whole in
    ap (λ ds. slice_get ds c.args.number) (sym whole) ∙ read-at c.as_slice-all.result.now c.args.number c.index-all-number.result (let h = c.requires in omega (arith, h, l)) c.index-all-number.is
