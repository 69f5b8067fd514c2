use Rattle.std.proofs.Common.{refl, sym, subst}
use Rattle.std.specs.Prelude.{IsUtf8}
use Rattle.st_text.proofs.Content.{quote_answer, quote_no_utf8, quote_no_end}
use Rattle.st_text.proofs.quote.read_quote.Goals as goal

pub returns-then-not-is_utf8 : goal.returns-then-not-is_utf8
returns-then-not-is_utf8 c =
    (refl, quote_no_utf8 _ _ _ _ c.in_ok-content.ensures (λ u. let yes = c.is_utf8.ensures.1 (subst IsUtf8 (sym c.as_slice.ensures) u) in let never = c.if-not-is_utf8.true in cc))

pub returns-then-not-ends : goal.returns-then-not-ends
returns-then-not-ends c =
    (refl, quote_no_end _ _ _ _ c.in_ok-content.ensures (λ e. let yes = c.ends.ensures.1 e in let never = c.if-not-ends.true in cc))

pub returns : goal.returns
returns c = quote_answer _ _ _ _ c.in_ok-content.ensures (subst IsUtf8 c.as_slice.ensures (c.is_utf8.ensures.0 c.if-not-is_utf8.false)) (c.ends.ensures.0 c.if-not-ends.false)
