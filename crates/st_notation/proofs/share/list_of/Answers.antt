use Rattle.std.proofs.Common.{◌≤◌, length, subst, sym}
use Rattle.st_notation.proofs.Steps.{before-within}
use Rattle.st_notation.proofs.share.list_of.Goals as goal

pub run_of-requires-in-Atom : goal.run_of-requires-in-Atom
run_of-requires-in-Atom c = subst (λ z. z ≤ length c.args.elements.now) (sym c.before-in-Atom.ensures) (before-within c.in-Atom.name c.args.elements.now)
