use Rattle.std.proofs.Common.{rules, sym, ◌∙◌}
use Rattle.std.proofs.lemmas.List.{length-map}
use Rattle.st_notation.specs.Elements.{bare}
use Rattle.st_notation.specs.Fitted.{fillings, plain}
use Rattle.st_notation.proofs.FitsLemmas.{Fits-single, Fits-length}
use Rattle.st_notation.proofs.fitting.fit.Goals as goal

pub returns-clause-only : goal.returns-clause-only
returns-clause-only c fs h =
    Fits-single c.args.template.now c.args.shapes.now (bare c.args.exp.now) fs (fillings c.in_ok-filled.filled) h (search rules)

pub returns-clause-each : goal.returns-clause-each
returns-clause-each c =
    sym (length-map c.in_ok-filled.filled plain) ∙ Fits-length c.args.template.now c.args.shapes.now (bare c.args.exp.now) (fillings c.in_ok-filled.filled) (search rules)
