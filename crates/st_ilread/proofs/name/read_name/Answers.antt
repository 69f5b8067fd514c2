use Rattle.std.proofs.Common.{refl, sym, ap, ◌∙◌}
use Rattle.st_text.specs.Text.{quote}
use Rattle.st_ilread.proofs.name.read_name.Goals as goal

pub returns-in_default : goal.returns-in_default
returns-in_default c = (refl, record { never = λ x p e. c.in_default.ensures x e })

pub returns : goal.returns
returns c = record { fits = refl; is = c.in-Some.ensures ∙ ap quote (sym c.in_ok-copy.ensures) }
