use Rattle.st_match.proofs.Tests.{refused}
use Rattle.st_match.proofs.proper.is_text.Goals as goal

pub returns-then-not-is_utf8 : goal.returns-then-not-is_utf8
returns-then-not-is_utf8 c = refused _ c.is_utf8.result c.if-not-is_utf8.true (λ s. c.is_utf8.ensures.1 s.utf8)

pub returns : goal.returns
returns c = (
  λ t. record { utf8 = c.is_utf8.ensures.0 c.if-not-is_utf8.false; printable = c.are_text_bytes.ensures.0 t },
  λ s. c.are_text_bytes.ensures.1 s.printable,
)
