use Rattle.std.proofs.Common.{refl}
use Rattle.st_text.proofs.CutOff.{OnErr-any, written_cut, written_none}
use Rattle.st_deriv.proofs.Printing.{node_text, node_word, node_relation, node_rule, node_lists}
use Rattle.st_deriv.proofs.print.print_node.Goals as goal

pub returns-in_err-print_quoted-clause-err : goal.returns-in_err-print_quoted-clause-err
returns-in_err-print_quoted-clause-err c =
    let start = node_word _ _ _ c.as_slice.result.now c.args.node.now.rule c.args.node.now.values (node_text c.args.node.now c.as_slice.result.now c.args.node.now.rule c.args.node.now.values c.as_slice.ensures refl refl) c.in_ok-extend_from_slice.ensures.items in
    OnErr-any _ _ (written_cut _ _ _ _ _ _ _ start refl c.in_err-print_quoted.ensures.err)

pub returns-in_err-print_quoted-2-clause-err : goal.returns-in_err-print_quoted-2-clause-err
returns-in_err-print_quoted-2-clause-err c =
    let start = node_relation _ _ _ _ _ c.as_slice.result.now c.as_slice-2.result.now c.args.node.now.values (node_word _ _ _ c.as_slice.result.now c.as_slice-2.result.now c.args.node.now.values (node_text c.args.node.now c.as_slice.result.now c.as_slice-2.result.now c.args.node.now.values c.as_slice.ensures c.as_slice-2.ensures refl) c.in_ok-extend_from_slice.ensures.items) c.in_ok-print_quoted.ensures.ok c.in_ok-extend_from_slice-2.ensures.items in
    OnErr-any _ _ (written_cut _ _ _ _ _ _ _ start refl c.in_err-print_quoted-2.ensures.err)

pub returns-in_err-extend_from_slice-3-clause-err : goal.returns-in_err-extend_from_slice-3-clause-err
returns-in_err-extend_from_slice-3-clause-err c =
    let start = node_rule _ _ _ _ c.as_slice-2.result.now c.args.node.now.values (node_relation _ _ _ _ _ c.as_slice.result.now c.as_slice-2.result.now c.args.node.now.values (node_word _ _ _ c.as_slice.result.now c.as_slice-2.result.now c.args.node.now.values (node_text c.args.node.now c.as_slice.result.now c.as_slice-2.result.now c.args.node.now.values c.as_slice.ensures c.as_slice-2.ensures refl) c.in_ok-extend_from_slice.ensures.items) c.in_ok-print_quoted.ensures.ok c.in_ok-extend_from_slice-2.ensures.items) c.in_ok-print_quoted-2.ensures.ok in
    OnErr-any _ _ (written_none _ _ _ _ _ start c.in_err-extend_from_slice-3.ensures.items)

pub returns-in_err-print_values-clause-err : goal.returns-in_err-print_values-clause-err
returns-in_err-print_values-clause-err c =
    let start = node_lists _ _ _ _ c.as_slice-3.result.now (node_rule _ _ _ _ c.as_slice-2.result.now c.as_slice-3.result.now (node_relation _ _ _ _ _ c.as_slice.result.now c.as_slice-2.result.now c.as_slice-3.result.now (node_word _ _ _ c.as_slice.result.now c.as_slice-2.result.now c.as_slice-3.result.now (node_text c.args.node.now c.as_slice.result.now c.as_slice-2.result.now c.as_slice-3.result.now c.as_slice.ensures c.as_slice-2.ensures c.as_slice-3.ensures) c.in_ok-extend_from_slice.ensures.items) c.in_ok-print_quoted.ensures.ok c.in_ok-extend_from_slice-2.ensures.items) c.in_ok-print_quoted-2.ensures.ok) c.in_ok-extend_from_slice-3.ensures.items in
    OnErr-any _ _ (written_cut _ _ _ _ _ _ _ start refl c.in_err-print_values.ensures.err)
