-- The tokens of two forms of expression: a record, and an extension.
use Rattle.std.proofs.Common.{arith, ◌≡◌, ℕ, List, ◌++◌, map, codes, ap, ◌∙◌}
use Rattle.std.proofs.lemmas.Grind.{common_steps}
use Rattle.st_el.specs.declared.expression.Exp.{Exp}
use Rattle.st_el.specs.declared.expression.Node.{Node, out-Node, map-Node, fold_out-Node}
use Rattle.st_el.specs.declared.expression.Node.TheVariants as v
use Rattle.st_el.specs.declared.expression.Count.{Count}
use Rattle.st_el.specs.declared.expression.Count.TheOpen.{Node-F}
use Rattle.st_el.specs.declared.expression.Seg.{Seg}
use Rattle.st_num.specs.declared.mark.Mark.TheVariants.{ExtendBy}
use Rattle.st_latex.specs.Tokens.{token, sign_text}
use Rattle.st_latex.specs.Parts.{enclosed, record_text}
use Rattle.st_latex.specs.Expressions.{position, change, count_at, node_at, seg_at, exp_at, latex_exp, latex_node, latex_count, latex_seg, latex_field}

-- a level with the tokens of its parts
abbrev pub parts_printed : Node-F Count Node Seg Exp → Node-F (List ℕ) (List ℕ) (List ℕ) (List ℕ)
parts_printed =
    map-Node Count Node Seg Exp (List ℕ) (List ℕ) (List ℕ) (List ℕ) latex_count latex_node latex_seg latex_exp

node-printed : (node : Node) → latex_node node ≡ node_at (parts_printed (out-Node node))
node-printed node = fold_out-Node (List ℕ) (List ℕ) (List ℕ) (List ℕ) count_at node_at seg_at exp_at node

node-opened :
    (node : Node) (level : Node-F Count Node Seg Exp) → out-Node node ≡ level
    → latex_node node ≡ node_at (parts_printed level)
node-opened node level is = node-printed node ∙ ap (λ l. node_at (parts_printed l)) is

pub node-Fields :
    (node : Node) (fields : List (List ℕ × Exp)) → node ≡ v.Fields fields
    → latex_node node ≡ record_text (map latex_field fields)
node-Fields node fields is = node-opened node _ (ap out-Node is ∙ v.outs-Fields fields)

-- how the sign of an extension is written
abbrev pub extending : List ℕ
extending = sign_text ExtendBy

-- an expression with another one behind the list at a path
abbrev pub extended : Exp → List Seg → Exp → List ℕ
extended e path part = latex_exp e ++ change (map latex_seg path) ExtendBy (latex_exp part)

pub node-Extend :
    (node : Node) (e : Exp) (path : List Seg) (part : Exp) → node ≡ v.Extend e path part → latex_node node ≡ extended e path part
node-Extend node e path part is = node-opened node _ (ap out-Node is ∙ v.outs-Extend e path part)

-- what is printed where the part of a change is
pub change_end :
    (old first second e path written part whole : List ℕ) → first ≡ old ++ e → second ≡ first ++ (token (codes "[") ++ path)
    → whole ≡ e ++ position (path ++ token written ++ part)
    → second ++ enclosed written part (codes "]") ≡ old ++ whole
change_end old first second e path written part whole f s w = grind (arith, common_steps)
