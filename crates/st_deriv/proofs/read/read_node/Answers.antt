use Rattle.std.proofs.Common.{refl, sym, ap, ◌∙◌, Err, arith}
use Rattle.std.proofs.lemmas.Result.{err_from_is_err_and}
use Rattle.st_text.specs.Text.{quote}
use Rattle.st_deriv.proofs.LineKinds.{node_length, five_parts, node_relation, node_rule, node_no_list, node_passed, node_answer}
use Rattle.st_deriv.proofs.read.read_node.Goals as goal
use Rattle.st_deriv.proofs.read.read_node.Goals.{in_default-via-then-parts-lt5, in_default-via-else-parts-lt5+else-parts-lt6}

pub returns-in_default : goal.returns-in_default
returns-in_default c = (
  refl,
  node_length _ (λ e. elim c.in_default.branch [
    | in_default-via-then-parts-lt5 w ↦ grind arith
    | in_default-via-else-parts-lt5+else-parts-lt6 w ↦ grind arith
  ]),
)

pub returns-in_default-quote_of : goal.returns-in_default-quote_of
returns-in_default-quote_of c =
    let parts = five_parts c.args.parts.now c.relation-item.result c.rule-item.result c.bindings-item.result c.children-item.result c.values-item.result (omega arith) c.relation-item.is c.rule-item.is c.bindings-item.is c.children-item.is c.values-item.is in
    (refl, node_relation _ _ _ _ _ _ parts c.in_default-quote_of.ensures)

pub returns-in_default-quote_of-2 : goal.returns-in_default-quote_of-2
returns-in_default-quote_of-2 c =
    let parts = five_parts c.args.parts.now c.relation-item.result c.rule-item.result c.bindings-item.result c.children-item.result c.values-item.result (omega arith) c.relation-item.is c.rule-item.is c.bindings-item.is c.children-item.is c.values-item.is in
    (refl, node_rule _ _ _ _ _ _ parts c.in_default-quote_of-2.ensures)

pub returns-in_default-list_of : goal.returns-in_default-list_of
returns-in_default-list_of c =
    let parts = five_parts c.args.parts.now c.relation-item.result c.rule-item.result c.bindings-item.result c.children-item.result c.values-item.result (omega arith) c.relation-item.is c.rule-item.is c.bindings-item.is c.children-item.is c.values-item.is in
    (refl, node_no_list _ _ _ _ _ _ parts c.in_default-list_of.ensures)

pub returns-in_err-values : goal.returns-in_err-values
returns-in_err-values c =
    let parts = five_parts c.args.parts.now c.relation-item.result c.rule-item.result c.bindings-item.result c.children-item.result c.values-item.result (omega arith) c.relation-item.is c.rule-item.is c.bindings-item.is c.children-item.is c.values-item.is in
    let failed = err_from_is_err_and c.from_residual.result c.from_residual.ensures.1 in
    node_passed _ _ _ _ _ _ _ _ _ parts c.in-Some-list_of.ensures c.in_err-values.ensures (failed.1 ∙ ap Err failed.2)

pub returns : goal.returns
returns c =
    let parts = five_parts c.args.parts.now c.relation-item.result c.rule-item.result c.bindings-item.result c.children-item.result c.values-item.result (omega arith) c.relation-item.is c.rule-item.is c.bindings-item.is c.children-item.is c.values-item.is in
    node_answer _ _ _ _ _ _ _ _ parts
    (c.in-Some.ensures ∙ ap quote (sym c.in_ok-relation.ensures))
    (c.in-Some-quote_of.ensures ∙ ap quote (sym c.in_ok-rule.ensures))
    (c.is_empty_list.ensures.0 c.if-not-is_empty_list.false)
    (c.is_empty_list-2.ensures.0 c.if-not-is_empty_list-2.false)
    c.in-Some-list_of.ensures c.new-entries.ensures c.new.ensures refl c.in_ok-values.ensures
