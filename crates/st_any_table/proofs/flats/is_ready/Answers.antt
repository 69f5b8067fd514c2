use Rattle.std.proofs.Common.{refl}
use Rattle.st_any_table.proofs.FlatsLemmas.{AllKnown-case, AllKnown-incl}
use Rattle.st_any_table.proofs.flats.is_ready.Goals as goal

pub returns-in-Case : goal.returns-in-Case
returns-in-Case c = (λ f. AllKnown-case c.args.defs.now c.args.flats.now c.args.alternative.now c.in-Case.field-0 c.in-Case.field-1 c.in-Case.is, λ h. refl)

pub returns-in-Incl : goal.returns-in-Incl
returns-in-Incl c = AllKnown-incl c.args.defs.now c.args.flats.now c.args.alternative.now c.in-Incl.name c.is_known.result c.in-Incl.is c.is_known.ensures
