use Rattle.std.proofs.Common.{sym, ◌∙◌}
use Rattle.st_text.proofs.Content.{no_letter}
use Rattle.st_text.proofs.quote.read_byte.Goals as goal

pub returns-then-byte-eq0 : goal.returns-then-byte-eq0
returns-then-byte-eq0 c = no_letter _ _ _ _ c.if-first-eq92.true c.in-Some.ensures.cases.0 (sym c.unescape-byte.ensures ∙ c.if-byte-eq0.true)
