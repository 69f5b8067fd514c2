use Rattle.std.proofs.Common.{sym, subst}
use Rattle.st_commands.specs.Derived.{IsAtomText}
use Rattle.st_commands.proofs.Terms.{passes, none_left}
use Rattle.st_commands.proofs.source.read_term.Goals as goal

pub loop-atom-preserved : goal.loop-atom-preserved
loop-atom-preserved c =
    passes c.args.small.now.atoms c.as_slice-atom-items.result.now c.args.bytes.now c.loop-atom.atom-index c.atom-item.result c.as_slice-atom-items.ensures c.loop-atom.invariant c.loop-atom-test.true c.atom-item.is
    (λ is. let here = subst (IsAtomText c.args.bytes.now) (sym c.as_slice.ensures) is in let yes = c.is_atom_text.ensures.1 here in cc (yes, c.if-is_atom_text.false))

pub returns : goal.returns
returns c = none_left c.args.small.now c.as_slice-atom-items.result.now c.args.bytes.now c.loop-atom.atom-index c.as_slice-atom-items.ensures c.loop-atom.invariant c.loop-atom-test.false
