use Rattle.std.proofs.Common.{rules, arith}
use Rattle.st_type_table.proofs.HasTypeLemmas.{typed-arm, HaveTypes-length, HaveTypes-at, HaveTypes-end, AllHaveType-at, AllHaveType-end, Fields-length, Fields-at, Fields-end, case-exact, case-none, record-exact, record-none}
use Rattle.st_types.proofs.NameLemmas.{names-same, names-differ}
use Rattle.st_types.proofs.typing.+typing.Goals as goal

pub has_type-returns : goal.has_type-returns
has_type-returns t c = typed-arm c.args.table.now c.args.value.now c.args.ty.now c.meaning.result.now c.typed_at.result c.meaning.ensures.means c.typed_at.ensures

pub have_types-returns-then-values-types : goal.have_types-returns-then-values-types
have_types-returns-then-values-types t c = (λ f. search rules, λ s. absurd (c.if-values-types.true (HaveTypes-length c.args.table.now _ _ s)))

pub have_types-returns-then-not-has_type : goal.have_types-returns-then-not-has_type
have_types-returns-then-not-has_type t c =
    let k = HaveTypes-at c.args.table.now c.args.values.now c.args.types.now c.loop-i.i c.index-values-i.result c.index-types-i.result c.loop-i-test.true (omega arith) c.index-values-i.is c.index-types-i.is in
    (λ f. search rules, λ s. c.if-not-has_type.ensures.1 (k.0 (c.loop-i.invariant.1 s)).0)

pub have_types-loop-i-preserved : goal.have_types-loop-i-preserved
have_types-loop-i-preserved t c =
    let k = HaveTypes-at c.args.table.now c.args.values.now c.args.types.now c.loop-i.i c.index-values-i.result c.index-types-i.result c.loop-i-test.true (omega arith) c.index-values-i.is c.index-types-i.is in
    (λ s. c.loop-i.invariant.0 (k.1 (c.if-not-has_type.ensures.0 (search rules), s)), λ s. (k.0 (c.loop-i.invariant.1 s)).1)

pub have_types-returns : goal.have_types-returns
have_types-returns t c = (λ u. c.loop-i.invariant.0 (HaveTypes-end c.args.table.now c.args.values.now c.args.types.now c.loop-i.i c.loop-i-test.false (omega arith)), λ s. search rules)

pub all_have_type-returns-then-not-has_type : goal.all_have_type-returns-then-not-has_type
all_have_type-returns-then-not-has_type t c =
    let k = AllHaveType-at c.args.table.now c.args.values.now c.args.ty.now c.loop-value.value-index c.value-item.result c.loop-value-test.true c.value-item.is in
    (λ f. search rules, λ s. c.if-not-has_type.ensures.1 (k.0 (c.loop-value.invariant.1 s)).0)

pub all_have_type-loop-value-preserved : goal.all_have_type-loop-value-preserved
all_have_type-loop-value-preserved t c =
    let k = AllHaveType-at c.args.table.now c.args.values.now c.args.ty.now c.loop-value.value-index c.value-item.result c.loop-value-test.true c.value-item.is in
    (λ s. c.loop-value.invariant.0 (k.1 (c.if-not-has_type.ensures.0 (search rules), s)), λ s. (k.0 (c.loop-value.invariant.1 s)).1)

pub all_have_type-returns : goal.all_have_type-returns
all_have_type-returns t c = (λ u. c.loop-value.invariant.0 (AllHaveType-end c.args.table.now c.args.values.now c.args.ty.now c.loop-value.value-index c.loop-value-test.false), λ s. search rules)

pub fields_have_types-returns-then-values-fields : goal.fields_have_types-returns-then-values-fields
fields_have_types-returns-then-values-fields t c = (λ f. search rules, λ s. absurd (c.if-values-fields.true (Fields-length c.args.table.now _ _ s)))

pub fields_have_types-returns-then-ne : goal.fields_have_types-returns-then-ne
fields_have_types-returns-then-ne t c =
    let k = Fields-at c.args.table.now c.args.values.now c.args.fields.now c.loop-i.i c.index-values-i.result c.index-fields-i.result c.loop-i-test.true (omega arith) c.index-values-i.is c.index-fields-i.is in
    (λ f. search rules, λ s. absurd (names-differ c.index-values-i.result.0 c.index-fields-i.result.0 c.if-ne.ensures (k.0 (c.loop-i.invariant.1 s)).0))

pub fields_have_types-returns-then-not-has_type : goal.fields_have_types-returns-then-not-has_type
fields_have_types-returns-then-not-has_type t c =
    let k = Fields-at c.args.table.now c.args.values.now c.args.fields.now c.loop-i.i c.index-values-i.result c.index-fields-i.result c.loop-i-test.true (omega arith) c.index-values-i.is c.index-fields-i.is in
    (λ f. search rules, λ s. c.if-not-has_type.ensures.1 (k.0 (c.loop-i.invariant.1 s)).1)

pub fields_have_types-loop-i-preserved : goal.fields_have_types-loop-i-preserved
fields_have_types-loop-i-preserved t c =
    let k = Fields-at c.args.table.now c.args.values.now c.args.fields.now c.loop-i.i c.index-values-i.result c.index-fields-i.result c.loop-i-test.true (omega arith) c.index-values-i.is c.index-fields-i.is in
    (λ s. c.loop-i.invariant.0 (k.1 (names-same c.index-values-i.result.0 c.index-fields-i.result.0 c.if-ne.ensures, c.if-not-has_type.ensures.0 (search rules), s)), λ s. (k.0 (c.loop-i.invariant.1 s)).2)

pub fields_have_types-returns : goal.fields_have_types-returns
fields_have_types-returns t c = (λ u. c.loop-i.invariant.0 (Fields-end c.args.table.now c.args.values.now c.args.fields.now c.loop-i.i c.loop-i-test.false (omega arith)), λ s. search rules)

pub typed_at-returns-in-Some : goal.typed_at-returns-in-Some
typed_at-returns-in-Some t c = case-exact c.args.table.now c.args.value.now _ c.args.ty.now c.in-Case.tag c.in-Case.parts c.in-Some.operands.now
    c.as_slice.result.now c.as_slice-in-Some.result.now c.have_types.result c.in-Case.is c.in-Some.ensures c.as_slice.ensures c.as_slice-in-Some.ensures c.have_types.ensures

pub typed_at-returns-in-None : goal.typed_at-returns-in-None
typed_at-returns-in-None t c = (λ f. search rules, λ s. absurd (case-none c.args.table.now c.args.value.now _ c.args.ty.now c.in-Case.tag c.in-Case.parts c.in-Case.is c.in-None.ensures s))

pub typed_at-returns-in-Some-fields : goal.typed_at-returns-in-Some-fields
typed_at-returns-in-Some-fields t c = record-exact c.args.table.now c.args.value.now _ c.args.ty.now c.in-Fields.parts c.in-Some-fields.fields.now
    c.as_slice-in-Some-fields.result.now c.fields_have_types.result c.in-Fields.is c.in-Some-fields.ensures.some c.as_slice-in-Some-fields.ensures c.fields_have_types.ensures

pub typed_at-returns-in-None-fields : goal.typed_at-returns-in-None-fields
typed_at-returns-in-None-fields t c = (λ f. search rules, λ s. absurd (record-none c.args.table.now c.args.value.now _ c.args.ty.now c.in-Fields.parts c.in-Fields.is c.in-None-fields.ensures.none s))
