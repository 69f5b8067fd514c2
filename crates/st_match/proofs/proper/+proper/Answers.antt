use Rattle.std.proofs.Common.{refl}
use Rattle.st_match.proofs.Tests.{refused}
use Rattle.st_match.proofs.ProperValues.{proper-arm, AreProper-at, AreProper-end, FieldsAreProper-at, FieldsAreProper-end}
use Rattle.st_match.proofs.proper.+proper.Goals as goal

pub is_proper-returns : goal.is_proper-returns
is_proper-returns t c = proper-arm c.args.value.now c.proper_at.result c.proper_at.ensures

pub are_proper-returns-then-not-is_proper : goal.are_proper-returns-then-not-is_proper
are_proper-returns-then-not-is_proper t c =
    let k = AreProper-at c.args.values.now c.loop-value.value-index c.value-item.result c.loop-value-test.true c.value-item.is in
    refused _ c.is_proper.result c.if-not-is_proper.true (λ s. c.is_proper.ensures.1 (k.0 (c.loop-value.invariant.1 s)).0)

pub are_proper-loop-value-preserved : goal.are_proper-loop-value-preserved
are_proper-loop-value-preserved t c =
    let k = AreProper-at c.args.values.now c.loop-value.value-index c.value-item.result c.loop-value-test.true c.value-item.is in
    (λ s. c.loop-value.invariant.0 (k.1 (c.is_proper.ensures.0 c.if-not-is_proper.false, s)), λ s. (k.0 (c.loop-value.invariant.1 s)).1)

pub are_proper-returns : goal.are_proper-returns
are_proper-returns t c = (λ u. c.loop-value.invariant.0 (AreProper-end c.args.values.now c.loop-value.value-index c.loop-value-test.false), λ s. refl)

pub fields_are_proper-returns-then-not-is_text_name : goal.fields_are_proper-returns-then-not-is_text_name
fields_are_proper-returns-then-not-is_text_name t c =
    let k = FieldsAreProper-at c.args.fields.now c.loop-field.field-index c.field-item.result c.loop-field-test.true c.field-item.is in
    refused _ c.is_text_name.result c.if-not-is_text_name.true (λ s. c.is_text_name.ensures.1 (k.0 (c.loop-field.invariant.1 s)).0.0)

pub fields_are_proper-returns-then-not-is_proper : goal.fields_are_proper-returns-then-not-is_proper
fields_are_proper-returns-then-not-is_proper t c =
    let k = FieldsAreProper-at c.args.fields.now c.loop-field.field-index c.field-item.result c.loop-field-test.true c.field-item.is in
    refused _ c.is_proper.result c.if-not-is_proper.true (λ s. c.is_proper.ensures.1 (k.0 (c.loop-field.invariant.1 s)).0.1)

pub fields_are_proper-loop-field-preserved : goal.fields_are_proper-loop-field-preserved
fields_are_proper-loop-field-preserved t c =
    let k = FieldsAreProper-at c.args.fields.now c.loop-field.field-index c.field-item.result c.loop-field-test.true c.field-item.is in
    (λ s. c.loop-field.invariant.0 (k.1 ((c.is_text_name.ensures.0 c.if-not-is_text_name.false, c.is_proper.ensures.0 c.if-not-is_proper.false), s)), λ s. (k.0 (c.loop-field.invariant.1 s)).1)

pub fields_are_proper-returns : goal.fields_are_proper-returns
fields_are_proper-returns t c = (λ u. c.loop-field.invariant.0 (FieldsAreProper-end c.args.fields.now c.loop-field.field-index c.loop-field-test.false), λ s. refl)
