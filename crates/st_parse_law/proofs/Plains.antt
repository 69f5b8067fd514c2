-- What is plain and what is printed in each form of expression.
use Rattle.std.proofs.Common.{◌≡◌, ℕ, List, ap, ◌∙◌, sym}
use Rattle.st_num.specs.declared.span.Span.{Span}
use Rattle.st_el.specs.declared.expression.Exp.{Exp, map-Exp, out-Exp, fold_out-Exp, out-roll-Exp}
use Rattle.st_el.specs.declared.expression.Node.{Node, out-Node, map-Node, fold_out-Node}
use Rattle.st_el.specs.declared.expression.Count.{Count, roll-Count, out-Count, map-Count, fold_out-Count}
use Rattle.st_el.specs.declared.expression.Count.TheOpen.{Count-F, Node-F, Seg-F}
use Rattle.st_el.specs.declared.expression.Seg.{Seg, roll-Seg, out-Seg, map-Seg, fold_out-Seg}
use Rattle.st_el.specs.Wrappings.{Printed, IterationText}
use Rattle.st_el.specs.SourceText.{printed, printed_node, printed_mark, printed_step, printed_mark_at, printed_node_at, printed_step_at, printed_exp_at, opened}
use Rattle.st_el.specs.Plain.{nowhere, plain_exp, plain_node, plain_count, plain_seg, plain_node_at, plain_exp_at}
use Rattle.st_parse_builder.specs.Meaning.{exp}

pub plain-exp : (at : Span) (n : Node) → plain_exp (exp at n) ≡ exp nowhere (plain_node n)
plain-exp at n =
    fold_out-Exp Count Node Seg Exp roll-Count plain_node_at roll-Seg plain_exp_at (exp at n)
    ∙ ap (λ e. plain_exp_at (map-Exp Count Node Seg Exp Count Node Seg Exp plain_count plain_node plain_seg plain_exp e)) (out-roll-Exp (record { at = at; node = n }))

abbrev pub parts_plain : Node-F Count Node Seg Exp → Node-F Count Node Seg Exp
parts_plain = map-Node Count Node Seg Exp Count Node Seg Exp plain_count plain_node plain_seg plain_exp

pub plain-node : (n : Node) (l : Node-F Count Node Seg Exp) → out-Node n ≡ l → plain_node n ≡ plain_node_at (parts_plain l)
plain-node n l e =
    fold_out-Node Count Node Seg Exp roll-Count plain_node_at roll-Seg plain_exp_at n ∙ ap (λ k. plain_node_at (parts_plain k)) e

-- the node of an expression and its plain form
pub plain-at : (at : Span) (n : Node) (l : Node-F Count Node Seg Exp) → out-Node n ≡ l → plain_exp (exp at n) ≡ exp nowhere (plain_node_at (parts_plain l))
plain-at at n l e = plain-exp at n ∙ ap (exp nowhere) (plain-node n l e)

pub printed-of : (e : Exp) → printed e ≡ printed_node_at (opened (out-Exp e).node)
printed-of e =
    fold_out-Exp IterationText Printed (List ℕ) Printed printed_mark_at printed_node_at printed_step_at printed_exp_at e
    ∙ fold_out-Node IterationText Printed (List ℕ) Printed printed_mark_at printed_node_at printed_step_at printed_exp_at (out-Exp e).node

pub node-of : (at : Span) (n : Node) → (out-Exp (exp at n)).node ≡ n
node-of at n = ap (λ e. e.node) (out-roll-Exp (record { at = at; node = n }))

pub plain-of : (e : Exp) → plain_exp e ≡ exp nowhere (plain_node (out-Exp e).node)
plain-of e = fold_out-Exp Count Node Seg Exp roll-Count plain_node_at roll-Seg plain_exp_at e

pub plain-again : (e : Exp) → exp nowhere (out-Exp (plain_exp e)).node ≡ plain_exp e
plain-again e =
    let is : plain_exp e ≡ exp nowhere (plain_node (out-Exp e).node) = fold_out-Exp Count Node Seg Exp roll-Count plain_node_at roll-Seg plain_exp_at e in
    ap (λ f. exp nowhere (out-Exp f).node) is ∙ ap (exp nowhere) (node-of nowhere (plain_node (out-Exp e).node)) ∙ sym is

-- ---- counts

pub mark-of : (c : Count) (k : Count-F Count Node Seg Exp) → out-Count c ≡ k → printed_mark c ≡ printed_mark_at (map-Count Count Node Seg Exp IterationText Printed (List ℕ) Printed printed_mark printed_node printed_step printed k)
mark-of c k e =
    fold_out-Count IterationText Printed (List ℕ) Printed printed_mark_at printed_node_at printed_step_at printed_exp_at c
    ∙ ap (λ i. printed_mark_at (map-Count Count Node Seg Exp IterationText Printed (List ℕ) Printed printed_mark printed_node printed_step printed i)) e

pub plain-count : (c : Count) (k : Count-F Count Node Seg Exp) → out-Count c ≡ k → plain_count c ≡ roll-Count (map-Count Count Node Seg Exp Count Node Seg Exp plain_count plain_node plain_seg plain_exp k)
plain-count c k e =
    fold_out-Count Count Node Seg Exp roll-Count plain_node_at roll-Seg plain_exp_at c
    ∙ ap (λ i. roll-Count (map-Count Count Node Seg Exp Count Node Seg Exp plain_count plain_node plain_seg plain_exp i)) e

-- ---- steps of paths

pub step-of : (s : Seg) (k : Seg-F Count Node Seg Exp) → out-Seg s ≡ k → printed_step s ≡ printed_step_at (map-Seg Count Node Seg Exp IterationText Printed (List ℕ) Printed printed_mark printed_node printed_step printed k)
step-of s k e =
    fold_out-Seg IterationText Printed (List ℕ) Printed printed_mark_at printed_node_at printed_step_at printed_exp_at s
    ∙ ap (λ i. printed_step_at (map-Seg Count Node Seg Exp IterationText Printed (List ℕ) Printed printed_mark printed_node printed_step printed i)) e

pub plain-step : (s : Seg) (k : Seg-F Count Node Seg Exp) → out-Seg s ≡ k → plain_seg s ≡ roll-Seg (map-Seg Count Node Seg Exp Count Node Seg Exp plain_count plain_node plain_seg plain_exp k)
plain-step s k e =
    fold_out-Seg Count Node Seg Exp roll-Count plain_node_at roll-Seg plain_exp_at s
    ∙ ap (λ i. roll-Seg (map-Seg Count Node Seg Exp Count Node Seg Exp plain_count plain_node plain_seg plain_exp i)) e
