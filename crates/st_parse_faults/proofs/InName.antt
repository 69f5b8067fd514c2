-- Whether a dot goes on with the name of an atom is told from what the parser keeps of a part.
use Rattle.std.proofs.Common.{◌≡◌, Bool, true, false, ◌&&◌, refl, ap, ◌∙◌}
use Rattle.st_num.specs.declared.mark.Mark.{Mark}
use Rattle.st_num.specs.declared.token.Token.{Token}
use Rattle.st_grammar.specs.declared.sort.Leaf.TheVariants as leaves
use Rattle.st_grammar.specs.declared.sort.Bracket.TheVariants as bracket_of
use Rattle.st_grammar.specs.declared.sort.Sort.{Sort}
use Rattle.st_grammar.specs.declared.sort.Sort.TheVariants as sorts
use Rattle.st_grammar.specs.Terminals.{Terminal, leaf, dot, sign, opening, closing, other}
use Rattle.st_grammar.specs.Trees.{Tree, operand, post, times, bracket, led, plain, length, arguments, index, segment, update, below}
use Rattle.st_parse_automaton.specs.declared.part_automaton.Part.{Part}
use Rattle.st_parse_automaton.specs.declared.part_automaton.Part.TheVariants.{Function, Atom, Names, Typ, Whole}
use Rattle.st_parse_automaton.specs.inner.PartAutomaton as parts
use Rattle.st_parse_automaton.specs.inner.Shapes.{shape}
use Rattle.st_parse_automaton.proofs.View.{part_of}
use Rattle.st_parse_faults.specs.Signs.{is_atom, goes_on, is_in_name}
use Rattle.st_parse_faults.specs.inner.Roles as roles

pub dotted_atom : (p : Part) (b : Bool) → roles.is_atom (parts.dotted p b) ≡ (roles.is_atom p && b)
dotted_atom Function b = refl
dotted_atom Atom true = refl
dotted_atom Atom false = refl
dotted_atom Names b = refl
dotted_atom (Typ c) b = refl
dotted_atom Whole b = refl

pub marked_atom : (m : Mark) (p : Part) → roles.is_atom (parts.marked m p) ≡ false
marked_atom m Function = refl
marked_atom m Atom = refl
marked_atom m Names = refl
marked_atom m (Typ b) = refl
marked_atom m Whole = refl

pub atom_is : (t : Tree) → roles.is_atom (part_of t) ≡ is_atom t
atom_is (operand leaves.Low x) = refl
atom_is (operand leaves.Basic x) = refl
atom_is (operand leaves.Variable x) = refl
atom_is (operand leaves.Atom x) = refl
atom_is (operand leaves.Number x) = refl
atom_is (operand leaves.Literal x) = refl
atom_is (operand leaves.Function x) = refl
atom_is (post t (leaf k x)) = refl
atom_is (post t (dot x)) = dotted_atom (part_of t) x.touching ∙ ap (λ b. b && x.touching) (atom_is t)
atom_is (post t (sign m x)) = marked_atom m (part_of t)
atom_is (post t (opening k x)) = refl
atom_is (post t (closing c x)) = refl
atom_is (post t (other x)) = refl
atom_is (times t m x c) = refl
atom_is (bracket (plain bracket_of.Round o) ts c) = refl
atom_is (bracket (plain bracket_of.Square o) ts c) = refl
atom_is (bracket (plain bracket_of.Brace o) ts c) = refl
atom_is (bracket (plain bracket_of.TickRound o) ts c) = refl
atom_is (bracket (plain bracket_of.TickSquare o) ts c) = refl
atom_is (bracket (plain bracket_of.TickBrace o) ts c) = refl
atom_is (bracket (plain bracket_of.Dollar o) ts c) = refl
atom_is (bracket (length o) ts c) = refl
atom_is (bracket (arguments f o) ts c) = refl
atom_is (bracket (index u o) ts c) = refl
atom_is (bracket (segment p o) ts c) = refl
atom_is (bracket (update p m x) ts c) = refl
atom_is (bracket (below o i m x) ts c) = refl
atom_is (led g t) = refl

pub goes_on_is : (σ : Sort) (t : Tree) (x : Token) → roles.dot_goes_on σ (part_of t) x.touching ≡ goes_on σ t x
goes_on_is (sorts.Expression b) t x = ap (λ b. b && x.touching) (atom_is t)
goes_on_is sorts.Arithmetic t x = ap (λ b. b && x.touching) (atom_is t)
goes_on_is sorts.Notation t x = refl
goes_on_is sorts.Typ t x = ap (λ b. b && x.touching) (atom_is t)
goes_on_is sorts.Count t x = ap (λ b. b && x.touching) (atom_is t)
goes_on_is sorts.Bound t x = ap (λ b. b && x.touching) (atom_is t)

pub in_name_is : (σ : Sort) (t : Tree) (l : Terminal) → roles.is_in_name σ (part_of t) (shape l) ≡ is_in_name σ t l
in_name_is σ t (leaf k x) = refl
in_name_is σ t (dot x) = goes_on_is σ t x
in_name_is σ t (sign m x) = refl
in_name_is σ t (opening k x) = refl
in_name_is σ t (closing c x) = refl
in_name_is σ t (other x) = refl
