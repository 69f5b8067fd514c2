use Rattle.std.proofs.Common.{sym, ◌∙◌}
use Rattle.std.proofs.lemmas.Bool.{leb-true, le-leb}
use Rattle.st_match.proofs.Tests.{refused}
use Rattle.st_match.proofs.types.is_typed_value.Goals as goal

pub returns-then-not-has_type : goal.returns-then-not-has_type
returns-then-not-has_type c = refused _ c.has_type.result c.if-not-has_type.true (λ s. c.has_type.ensures.1 s.form)

pub returns-then-not-is_within_height : goal.returns-then-not-is_within_height
returns-then-not-is_within_height c = refused _ c.is_within_height.result c.if-not-is_within_height.true (λ s. c.is_within_height.ensures ∙ le-leb _ _ s.value.height)

pub returns : goal.returns
returns c = (
  λ t. record {
    form = c.has_type.ensures.0 c.if-not-has_type.false;
    value = record { height = leb-true _ _ (sym c.is_within_height.ensures ∙ c.if-not-is_within_height.false); texts = (c.is_proper.ensures.0 t).texts };
    numbers = (c.is_proper.ensures.0 t).numbers;
  },
  λ s. c.is_proper.ensures.1 (record { texts = s.value.texts; numbers = s.numbers }),
)
