-- What one token stands for in a source tree.
use Rattle.std.specs.Prelude.{ℕ, List, [], true, false}
use Rattle.st_num.specs.Words.{word_spelling}
use Rattle.st_num.specs.declared.word.Word.TheVariants as word
use Rattle.st_num.specs.declared.token.TokenKind.{TokenKind}
use Rattle.st_num.specs.declared.token.TokenKind.TheVariants as kind
use Rattle.st_grammar.specs.declared.sort.Leaf.{Leaf}
use Rattle.st_grammar.specs.declared.sort.Leaf.TheVariants.{Low as low, Basic as basic, Variable as variable, Atom as atom, Number as number, Literal as literal, Function as function}
use Rattle.st_el.specs.declared.expression.Node.{Node}
use Rattle.st_el.specs.declared.expression.Node.TheVariants as node

-- the name that a token spells, without a dot or a dollar sign before it
abbrev pub name_of : TokenKind → List ℕ
name_of (kind.Low name) = name
name_of (kind.Up name) = name
name_of (kind.Mix name) = name
name_of (kind.Reserved w) = word_spelling w
name_of (kind.Dot name) = name
name_of (kind.Fun name) = name
name_of k = []

-- the number that a token writes, and 0 for any other token
abbrev pub number_of : TokenKind → ℕ
number_of (kind.Number n) = n
number_of k = 0

-- the node of a literal: a text, a truth value or `eps`
abbrev pub literal_node : TokenKind → Node
literal_node (kind.Text text) = node.Text text
literal_node (kind.Reserved word.True) = node.Bool true
literal_node (kind.Reserved word.False) = node.Bool false
literal_node k = node.Eps

-- the node of one token, of each sort of leaf; a function alone is a call without arguments
abbrev pub leaf_node : Leaf → TokenKind → Node
leaf_node low k = node.Name (name_of k)
leaf_node basic k = node.Name (name_of k)
leaf_node variable k = node.Name (name_of k)
leaf_node atom k = node.Atom (name_of k)
leaf_node number k = node.Number (number_of k)
leaf_node literal k = literal_node k
leaf_node function k = node.Call (name_of k) []
