-- The lines of each kind, and trees of none.
use Rattle.std.proofs.Common.{◌≡◌, ℕ, ◌^◌, ◌<◌, List, [], ◌∷◌, length, get_or, codes, sym, ap, subst, ◌∙◌, arith}
use Rattle.std.specs.Prelude.{decimal, Result, Err, None}
use Rattle.st_deriv.specs.declared.line.Ending.{Ending}
use Rattle.st_deriv.specs.declared.line.Line.{Line}
use Rattle.st_deriv.specs.declared.line.Line.TheVariants.{Head, From, Node, Step, End}
use Rattle.st_deriv.specs.declared.line.NodeLine.{NodeLine}
use Rattle.st_il.specs.declared.value.Value.{Value}
use Rattle.st_text.specs.Text.{TextTrees, word, quote, list, none, more}
use Rattle.st_text.specs.Trees.{tree_of, trees_of}
use Rattle.st_text.specs.declared.tree.TextTree as program
use Rattle.st_text.specs.declared.fault.TextFault.{TextFault}
use Rattle.st_text.specs.declared.fault.TextFault.TheVariants.{Malformed, Memory}
use Rattle.st_deriv.specs.LineText.{IsRelationName, IsPlainNode, ending_word, node_trees, value_trees}
use Rattle.st_deriv.specs.inner.Reading.{LineTrees, AreNoLine, AnswersLine, AnswersValues, ValueTrees, AreNoValues, IsNoQuote, IsNoList}
use Rattle.st_deriv.proofs.Parts.{lists, firsts, rests, first_byte, five_is, count, trees_count}

-- ---- what begins with the word of a kind is a line of that kind or none

head_only : (ts : TextTrees) → ((name : List ℕ) → IsRelationName name → ts ≡ more (word (codes "1")) (more (word name) none) → ⊥) → AreNoLine (more (word (codes "derivation")) ts)
head_only ts n = record { never = go }
  where
    go : (line : Line) → LineTrees line (more (word (codes "derivation")) ts) → ⊥
    go (Head format name) l = n name l.plain.1 (rests l.is)
    go (From vals) l = omega (arith, first_byte l.is)
    go (Node node) l = omega (arith, first_byte l.is)
    go (Step number) l = omega (arith, first_byte l.is)
    go (End ending) l = omega (arith, first_byte l.is)

from_only : (ts : TextTrees) → ((vals : List Value) → ValueTrees vals ts → ⊥) → AreNoLine (more (word (codes "from")) ts)
from_only ts n = record { never = go }
  where
    go : (line : Line) → LineTrees line (more (word (codes "from")) ts) → ⊥
    go (Head format name) l = omega (arith, first_byte l.is)
    go (From vals) l = n vals (record { plain = l.plain; is = rests l.is })
    go (Node node) l = omega (arith, first_byte l.is)
    go (Step number) l = omega (arith, first_byte l.is)
    go (End ending) l = omega (arith, first_byte l.is)

node_only : (ts : TextTrees) → ((node : NodeLine) → IsPlainNode node → ts ≡ node_trees node → ⊥) → AreNoLine (more (word (codes "node")) ts)
node_only ts n = record { never = go }
  where
    go : (line : Line) → LineTrees line (more (word (codes "node")) ts) → ⊥
    go (Head format name) l = omega (arith, first_byte l.is)
    go (From vals) l = omega (arith, first_byte l.is)
    go (Node node) l = n node l.plain (rests l.is)
    go (Step number) l = omega (arith, first_byte l.is)
    go (End ending) l = omega (arith, first_byte l.is)

step_only : (ts : TextTrees) → ((n : ℕ) → n < 2 ^ 128 → ts ≡ more (word (decimal n)) none → ⊥) → AreNoLine (more (word (codes "step")) ts)
step_only ts n = record { never = go }
  where
    go : (line : Line) → LineTrees line (more (word (codes "step")) ts) → ⊥
    go (Head format name) l = omega (arith, first_byte l.is)
    go (From vals) l = omega (arith, first_byte l.is)
    go (Node node) l = omega (arith, first_byte l.is)
    go (Step number) l = n number l.plain (rests l.is)
    go (End ending) l = omega (arith, first_byte l.is)

end_only : (ts : TextTrees) → ((ending : Ending) → ts ≡ more (word (ending_word ending)) none → ⊥) → AreNoLine (more (word (codes "end")) ts)
end_only ts n = record { never = go }
  where
    go : (line : Line) → LineTrees line (more (word (codes "end")) ts) → ⊥
    go (Head format name) l = omega (arith, first_byte l.is)
    go (From vals) l = omega (arith, first_byte l.is)
    go (Node node) l = omega (arith, first_byte l.is)
    go (Step number) l = omega (arith, first_byte l.is)
    go (End ending) l = n ending (rests l.is)

-- ---- the first line

pub head_length : (parts : List program.TextTree) → (length parts ≡ 2 → ⊥) → AreNoLine (more (word (codes "derivation")) (trees_of parts))
head_length parts n = head_only (trees_of parts) (λ name i e. n (sym (trees_count parts) ∙ ap count e))

-- ---- the second line

pub from_none : (ts : TextTrees) → AreNoValues ts → AreNoLine (more (word (codes "from")) ts)
from_none ts n = from_only ts n.never

pub from_answer : (ts : TextTrees) (vals : List Value) → ValueTrees vals ts → LineTrees (From vals) (more (word (codes "from")) ts)
from_answer ts vals v = record { plain = v.plain; is = ap (more (word (codes "from"))) v.is }

-- ---- a node

pub node_length : (parts : List program.TextTree) → (length parts ≡ 5 → ⊥) → AreNoLine (more (word (codes "node")) (trees_of parts))
node_length parts n = node_only (trees_of parts) (λ node i e. n (sym (trees_count parts) ∙ ap count e))

-- the five parts of a node
pub record AreParts (parts : List program.TextTree) (relation rule env children values : program.TextTree) : Type 0 where
  pub are : parts ≡ relation ∷ rule ∷ env ∷ children ∷ values ∷ []

pub five_parts : (parts : List program.TextTree) (a b c d e : program.TextTree) → length parts ≡ 5 → a ≡ get_or parts 0 a → b ≡ get_or parts 1 b → c ≡ get_or parts 2 c
    → d ≡ get_or parts 3 d → e ≡ get_or parts 4 e → AreParts parts a b c d e
five_parts parts a b c d e five ea eb ec ed ee = record { are = five_is parts a b c d e five ea eb ec ed ee }

node_parts : (parts : List program.TextTree) (a b c d e : program.TextTree) → AreParts parts a b c d e
    → ((node : NodeLine) → IsPlainNode node → more (tree_of a) (more (tree_of b) (more (tree_of c) (more (tree_of d) (more (tree_of e) none)))) ≡ node_trees node → ⊥)
    → AreNoLine (more (word (codes "node")) (trees_of parts))
node_parts parts a b c d e p n = node_only (trees_of parts) (λ node i f. n node i (sym (ap trees_of p.are) ∙ f))

pub node_relation : (parts : List program.TextTree) (a b c d e : program.TextTree) → AreParts parts a b c d e → IsNoQuote (tree_of a)
    → AreNoLine (more (word (codes "node")) (trees_of parts))
node_relation parts a b c d e p n = node_parts parts a b c d e p (λ node i f. n.never node.relation (firsts f))

pub node_rule : (parts : List program.TextTree) (a b c d e : program.TextTree) → AreParts parts a b c d e → IsNoQuote (tree_of b)
    → AreNoLine (more (word (codes "node")) (trees_of parts))
node_rule parts a b c d e p n = node_parts parts a b c d e p (λ node i f. n.never node.rule (firsts (rests f)))

pub node_no_list : (parts : List program.TextTree) (a b c d e : program.TextTree) → AreParts parts a b c d e → IsNoList (tree_of e)
    → AreNoLine (more (word (codes "node")) (trees_of parts))
node_no_list parts a b c d e p n = node_parts parts a b c d e p (λ node i f. n.never (value_trees node.values) (firsts (rests (rests (rests (rests f))))))

pub node_values : (parts : List program.TextTree) (a b c d e : program.TextTree) (ts : TextTrees) → AreParts parts a b c d e → tree_of e ≡ list ts → AreNoValues ts
    → AreNoLine (more (word (codes "node")) (trees_of parts))
node_values parts a b c d e ts p l n = node_parts parts a b c d e p (λ node i f.
    n.never node.values (record { plain = i.values; is = lists (sym l ∙ firsts (rests (rests (rests (rests f))))) }))

-- a fault of the values is one of the node
pub node_passed : (parts : List program.TextTree) (a b c d e : program.TextTree) (ts : TextTrees) (fault : TextFault) (result : Result Line TextFault)
    → AreParts parts a b c d e → tree_of e ≡ list ts → AnswersValues ts (Err fault) → result ≡ Err fault → AnswersLine (more (word (codes "node")) (trees_of parts)) result
node_passed parts a b c d e ts (Malformed line) result p l said is =
    subst (AnswersLine (more (word (codes "node")) (trees_of parts))) (sym is) (said.0, node_values parts a b c d e ts p l said.1)
node_passed parts a b c d e ts Memory result p l said is = subst (AnswersLine (more (word (codes "node")) (trees_of parts))) (sym is) tt

pub node_answer : (parts : List program.TextTree) (a b c d e : program.TextTree) (ts : TextTrees) (node : NodeLine) → AreParts parts a b c d e
    → tree_of a ≡ quote node.relation → tree_of b ≡ quote node.rule → tree_of c ≡ list none → tree_of d ≡ list none → tree_of e ≡ list ts
    → node.env.entries ≡ [] → node.children ≡ [] → node.evidence ≡ None → ValueTrees node.values ts
    → LineTrees (Node node) (more (word (codes "node")) (trees_of parts))
node_answer parts a b c d e ts node p fa fb fc fd fe en ch ev v =
    let same : trees_of parts ≡ node_trees node = cc (ap trees_of p.are, fa, fb, fc, fd, fe, v.is) in
    record { plain = record { env = en; children = ch; evidence = ev; values = v.plain }; is = ap (more (word (codes "node"))) same }

-- ---- a step and the end

pub step_length : (parts : List program.TextTree) → (length parts ≡ 1 → ⊥) → AreNoLine (more (word (codes "step")) (trees_of parts))
step_length parts n = step_only (trees_of parts) (λ number i e. n (sym (trees_count parts) ∙ ap count e))

pub end_length : (parts : List program.TextTree) → (length parts ≡ 1 → ⊥) → AreNoLine (more (word (codes "end")) (trees_of parts))
end_length parts n = end_only (trees_of parts) (λ ending e. n (sym (trees_count parts) ∙ ap count e))

-- ---- the word that tells the kind
