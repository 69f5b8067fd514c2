-- What each form of expression is once it is plain.
use Rattle.std.proofs.Common.{◌≡◌, refl, sym, ◌∙◌, ap, ℕ, zero, suc}
use Rattle.st_el.specs.declared.expression.Exp.{Exp, Exp-F, out-Exp, out-roll-Exp, fold_out-Exp}
use Rattle.st_el.specs.declared.expression.Node.{Node, out-Node, map-Node, fold_out-Node}
use Rattle.st_el.specs.declared.expression.Node.TheVariants as node
use Rattle.st_el.specs.declared.expression.Count.{Count, out-Count, roll-Count, map-Count, fold_out-Count}
use Rattle.st_el.specs.declared.expression.Count.TheOpen.{Node-F, Count-F, Seg-F}
use Rattle.st_el.specs.declared.expression.Seg.{Seg, out-Seg, roll-Seg, map-Seg, fold_out-Seg}
use Rattle.st_el.specs.Plain.{nowhere, plain_exp, plain_exp_at, plain_node, plain_node_at, plain_count, plain_seg}
use Rattle.st_notation.specs.Elements.{opened, parentheses, inner_at, without, bare}
use Rattle.st_erase.specs.declared.erased.Erased.{Erased}
use Rattle.st_erase.specs.declared.erased.ErasedKind.{ErasedKind}
use Rattle.st_erase.specs.declared.erased.ErasedKind.TheVariants as kind
use Rattle.st_erase.specs.Places.{exp, in_arithmetic, whole_by, whole, count_at, count}
use Rattle.st_erase.specs.Erasure.{lifted_at, lifted}

-- a level with its parts plain
abbrev pub plain_parts : Node-F Count Node Seg Exp → Node-F Count Node Seg Exp
plain_parts = map-Node Count Node Seg Exp Count Node Seg Exp plain_count plain_node plain_seg plain_exp

-- a level, once it is plain
abbrev pub plain_of : Node-F Count Node Seg Exp → Exp
plain_of y = exp (plain_node_at (plain_parts y))

pub exp-opens : (e : Exp) → plain_exp e ≡ plain_of (opened e)
exp-opens e =
    fold_out-Exp Count Node Seg Exp roll-Count plain_node_at roll-Seg plain_exp_at e
    ∙ ap exp (fold_out-Node Count Node Seg Exp roll-Count plain_node_at roll-Seg plain_exp_at (out-Exp e).node)

-- an expression that stands in no text, opened
pub opened-exp : (n : Node) → opened (exp n) ≡ out-Node n
opened-exp n = ap (λ (z : Exp-F Count Node Seg Exp). out-Node z.node) (out-roll-Exp (record { at = nowhere; node = n }))

-- an expression of this level is plain as the level is
pub exp-is : (e : Exp) (y : Node-F Count Node Seg Exp) → opened e ≡ y → plain_exp e ≡ plain_of y
exp-is e y is = exp-opens e ∙ ap plain_of is

pub node-is : (n : Node) (y : Node-F Count Node Seg Exp) → out-Node n ≡ y → plain_exp (exp n) ≡ plain_of y
node-is n y is = exp-is (exp n) y (opened-exp n ∙ is)

-- ---- parentheses

-- what is plain stays as it is in new parentheses
plain-again : (e : Exp) → exp (out-Exp (plain_exp e)).node ≡ plain_exp e
plain-again e =
    ap (λ z. exp (out-Exp z).node) (exp-opens e)
    ∙ ap (λ (z : Exp-F Count Node Seg Exp). exp z.node) (out-roll-Exp (record { at = nowhere; node = plain_node_at (plain_parts (opened e)) }))
    ∙ sym (exp-opens e)

pub plain-Paren : (e inner : Exp) → opened e ≡ Node-F.Paren inner → plain_exp e ≡ plain_exp inner
plain-Paren e inner is = exp-is e _ is ∙ plain-again inner

pub plain-Arith : (e inner : Exp) → opened e ≡ Node-F.Arith inner → plain_exp e ≡ plain_exp inner
plain-Arith e inner is = exp-is e _ is ∙ plain-again inner

pub plain-without : (n : ℕ) (e : Exp) → plain_exp (without n e) ≡ plain_exp e
plain-without zero e = refl
plain-without (suc n) e = plain-without n (inner_at e (opened e)) ∙ inner (opened e) refl
  where
    inner : (y : Node-F Count Node Seg Exp) → opened e ≡ y → plain_exp (inner_at e y) ≡ plain_exp e
    inner (Node-F.Paren b) is = sym (plain-Paren e b is)
    inner y is = refl

-- the parentheses round the whole are no part of what is plain
pub plain-bare : (e : Exp) → plain_exp (bare e) ≡ plain_exp e
plain-bare e = plain-without (parentheses e) e

-- ---- what is erased, at the places where it may stand

pub plain-in_arithmetic : (e : Exp) → plain_exp (in_arithmetic e) ≡ plain_exp e
plain-in_arithmetic e = plain-Arith (in_arithmetic e) e (opened-exp (node.Arith e) ∙ node.outs-Arith e)

pub plain-whole : (x : Erased) → plain_exp (whole x) ≡ plain_exp x.exp
plain-whole x = by x.kind
  where
    by : (k : ErasedKind) → plain_exp (whole_by k x.exp) ≡ plain_exp x.exp
    by kind.Plain = refl
    by kind.Arithmetic = plain-in_arithmetic x.exp
    by kind.Run = refl
    by kind.Absent = refl

pub plain-count : (x : Erased) → plain_exp (count x) ≡ plain_exp x.exp
plain-count x = by (opened x.exp)
  where
    by : (y : Node-F Count Node Seg Exp) → plain_exp (count_at x.exp y) ≡ plain_exp x.exp
    by (Node-F.Number n) = refl
    by (Node-F.Name name) = refl
    by y = plain-in_arithmetic x.exp

pub plain-lifted : (e : Exp) → plain_exp (lifted e) ≡ plain_exp e
plain-lifted e = by (opened e)
  where
    in_parentheses : plain_exp (exp (node.Paren e)) ≡ plain_exp e
    in_parentheses = plain-Paren (exp (node.Paren e)) e (opened-exp (node.Paren e) ∙ node.outs-Paren e)

    by : (y : Node-F Count Node Seg Exp) → plain_exp (lifted_at e y) ≡ plain_exp e
    by (Node-F.Seq parts) = in_parentheses
    by (Node-F.Infix left sign right) = in_parentheses
    by y = refl

-- ---- steps of a path, and counts

pub seg-is : (s : Seg) (y : Seg-F Count Node Seg Exp) → out-Seg s ≡ y → plain_seg s ≡ roll-Seg (map-Seg Count Node Seg Exp Count Node Seg Exp plain_count plain_node plain_seg plain_exp y)
seg-is s y is =
    fold_out-Seg Count Node Seg Exp roll-Count plain_node_at roll-Seg plain_exp_at s
    ∙ ap (λ z. roll-Seg (map-Seg Count Node Seg Exp Count Node Seg Exp plain_count plain_node plain_seg plain_exp z)) is

pub count-is : (c : Count) (y : Count-F Count Node Seg Exp) → out-Count c ≡ y → plain_count c ≡ roll-Count (map-Count Count Node Seg Exp Count Node Seg Exp plain_count plain_node plain_seg plain_exp y)
count-is c y is =
    fold_out-Count Count Node Seg Exp roll-Count plain_node_at roll-Seg plain_exp_at c
    ∙ ap (λ z. roll-Count (map-Count Count Node Seg Exp Count Node Seg Exp plain_count plain_node plain_seg plain_exp z)) is
