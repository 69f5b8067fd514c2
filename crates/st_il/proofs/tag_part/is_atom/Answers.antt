use Rattle.st_il.proofs.Atoms.{told, no_capital, no_name_byte, at_end}
use Rattle.std.proofs.Common.{sym, ◌∙◌}
use Rattle.st_il.proofs.tag_part.is_atom.Goals as goal

pub returns-then-not-is_ascii_uppercase : goal.returns-then-not-is_ascii_uppercase
returns-then-not-is_ascii_uppercase c =
    told c.args.text.now _ (no_capital c.args.text.now c.loop-byte.byte-index c.loop-byte.due c.loop-byte-test.true c.if-due.true c.loop-byte.invariant (sym c.is_ascii_uppercase.ensures.value ∙ c.if-not-is_ascii_uppercase.true))

pub returns-then-not-is_name_byte : goal.returns-then-not-is_name_byte
returns-then-not-is_name_byte c =
    told c.args.text.now _ (no_name_byte c.args.text.now c.loop-byte.byte-index c.loop-byte.due c.loop-byte-test.true c.if-due.false c.loop-byte.invariant c.if-byte-eq46.false (sym c.is_name_byte.ensures ∙ c.if-not-is_name_byte.true))

pub returns : goal.returns
returns c = told c.args.text.now _ (at_end c.args.text.now c.loop-byte.byte-index c.loop-byte.due c.loop-byte-test.false c.loop-byte.invariant)
