use Rattle.std.proofs.Common.{sym, ◌∙◌}
use Rattle.st_elab_table.specs.Records.{aligned}
use Rattle.st_elab_exp.proofs.Recording.{omitted_fills, not_omitted}
use Rattle.st_elab_exp.proofs.record_row.place_field.Goals as goal

pub returns-then-is_omissible : goal.returns-then-is_omissible
returns-then-is_omissible c = λ names ss. c.in_default.ensures names c.args.shape ss
    ∙ omitted_fills c.args.shape (aligned names ss c.args.written.now) (sym c.is_omissible.ensures ∙ c.if-is_omissible.true)

pub returns : goal.returns
returns c = λ names ss. c.in_default.ensures names c.args.shape ss
    ∙ not_omitted c.args.shape (aligned names ss c.args.written.now) (sym c.is_omissible.ensures ∙ c.if-is_omissible.false)
