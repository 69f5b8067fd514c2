-- Lines that are written piece by piece.
use Rattle.std.proofs.Common.{◌≡◌, ℕ, ◌+◌, ◌<◌, List, [], ◌∷◌, ◌++◌, length, drop, get_or, codes, Result, Ok, Err, OnErr, refl, sym, ap, ◌∙◌, append_assoc, append-nil}
use Rattle.st_il.specs.declared.value.Value.{Value}
use Rattle.st_text.specs.Text.{quoted, text, row_text, behind}
use Rattle.st_text.proofs.CutOff.{Written, written_step, drop-next}
use Rattle.st_deriv.specs.declared.line.Line.{Line}
use Rattle.st_deriv.specs.declared.line.Line.TheVariants.{Head, Node}
use Rattle.st_deriv.specs.declared.line.NodeLine.{NodeLine}
use Rattle.st_deriv.specs.LineText.{tag_of, value_tree, value_trees, line_text, lines_text}

pub OnErr-map : {T E : Type 0} (r : Result T E) (P Q : Type 0) → (P → Q) → OnErr r P → OnErr r Q
OnErr-map (Ok x) P Q f p = tt
OnErr-map (Err e) P Q f p = f p

pub written_twice : (old mid new text a b : List ℕ) → mid ≡ old ++ a → new ≡ mid ++ b → text ≡ a ++ b → new ≡ old ++ text
written_twice old mid new text a b e f g = f ∙ ap (λ u. u ++ b) e ∙ append_assoc old a b ∙ ap (λ u. old ++ u) (sym g)

-- ---- values

pub value_text : (val : Value) (tag : List ℕ) → tag ≡ tag_of val → text (value_tree val) ≡ codes "(c " ++ (quoted tag ++ 41 ∷ [])
value_text val tag e = ap (λ u. codes "(c " ++ (u ++ 41 ∷ [])) (append-nil (quoted (tag_of val)) ∙ ap quoted (sym e))

pub values_first : (vals others : List Value) (first : Value) → vals ≡ first ∷ others → row_text (value_trees vals) ≡ text (value_tree first) ++ behind (value_trees others)
values_first vals others first e = ap (λ us. row_text (value_trees us)) e

pub behind_drop : (vals : List Value) (i : ℕ) (val : Value) → i < length vals → val ≡ get_or vals i val
    → behind (value_trees (drop i vals)) ≡ (32 ∷ text (value_tree val)) ++ behind (value_trees (drop (i + 1) vals))
behind_drop vals i val h e = ap (λ us. behind (value_trees us)) (drop-next vals i val h ∙ ap (λ u. u ∷ drop (i + 1) vals) (sym e))

-- ---- lines

pub head_text : (line : Line) (format : ℕ) (name copy : List ℕ) → line ≡ Head format name → copy ≡ name → line_text line ≡ codes "derivation 1 " ++ copy
head_text line format name copy e f = ap line_text e ∙ ap (λ u. codes "derivation 1 " ++ u) (append-nil name ∙ sym f)

pub lines_drop : (lines : List Line) (i : ℕ) (line : Line) → i < length lines → line ≡ get_or lines i line
    → lines_text (drop i lines) ≡ line_text line ++ (10 ∷ lines_text (drop (i + 1) lines))
lines_drop lines i line h e =
    ap lines_text (drop-next lines i line h ∙ ap (λ u. u ∷ drop (i + 1) lines) (sym e)) ∙ append_assoc (line_text line) (10 ∷ []) (lines_text (drop (i + 1) lines))

-- ---- a node, whose names and values are these

abbrev values_left : List Value → List ℕ
values_left vals = row_text (value_trees vals) ++ codes ")"

abbrev rule_left : List ℕ → List Value → List ℕ
rule_left rule vals = quoted rule ++ (codes " () () (" ++ values_left vals)

abbrev relation_left : List ℕ → List ℕ → List Value → List ℕ
relation_left relation rule vals = quoted relation ++ (codes " " ++ rule_left rule vals)

pub node_text : (node : NodeLine) (relation rule : List ℕ) (vals : List Value) → relation ≡ node.relation → rule ≡ node.rule → vals ≡ node.values
    → line_text (Node node) ≡ codes "node " ++ relation_left relation rule vals
node_text node relation rule vals r s v =
    ap (λ u. codes "node " ++ (quoted node.relation ++ (codes " " ++ (quoted node.rule ++ (codes " () () (" ++ u))))) (append-nil (values_left node.values))
    ∙ ap (λ u. codes "node " ++ relation_left u node.rule node.values) (sym r)
    ∙ ap (λ u. codes "node " ++ relation_left relation u node.values) (sym s)
    ∙ ap (λ u. codes "node " ++ relation_left relation rule u) (sym v)

pub node_word : (old text mid relation rule : List ℕ) (vals : List Value) → text ≡ codes "node " ++ relation_left relation rule vals → mid ≡ old ++ codes "node "
    → Written old text mid (relation_left relation rule vals)
node_word old text mid relation rule vals e f = record { done = codes "node "; split = e; is = f }

pub node_relation : (old text mid new newer relation rule : List ℕ) (vals : List Value) → Written old text mid (relation_left relation rule vals)
    → new ≡ mid ++ quoted relation → newer ≡ new ++ codes " " → Written old text newer (rule_left rule vals)
node_relation old text mid new newer relation rule vals w e f =
    written_step old text new (codes " " ++ rule_left rule vals) newer (codes " ") (rule_left rule vals)
    (written_step old text mid (relation_left relation rule vals) new (quoted relation) (codes " " ++ rule_left rule vals) w refl e) refl f

pub node_rule : (old text mid new rule : List ℕ) (vals : List Value) → Written old text mid (rule_left rule vals)
    → new ≡ mid ++ quoted rule → Written old text new (codes " () () (" ++ values_left vals)
node_rule old text mid new rule vals w e = written_step old text mid (rule_left rule vals) new (quoted rule) (codes " () () (" ++ values_left vals) w refl e

pub node_lists : (old text mid new : List ℕ) (vals : List Value) → Written old text mid (codes " () () (" ++ values_left vals)
    → new ≡ mid ++ codes " () () (" → Written old text new (values_left vals)
node_lists old text mid new vals w e = written_step old text mid (codes " () () (" ++ values_left vals) new (codes " () () (") (values_left vals) w refl e
