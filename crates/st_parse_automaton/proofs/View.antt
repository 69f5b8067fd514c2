-- The part automaton abbreviates a reading of parts: what it keeps of each state.
use Rattle.std.proofs.Common.{◌≡◌, List, [], ◌∷◌, Bool, true, false, ◌&&◌, refl, sym, ap, ◌∙◌}
use Rattle.st_num.specs.declared.mark.Mark.{Mark}
use Rattle.st_num.specs.declared.token.Token.{Token}
use Rattle.st_grammar.specs.declared.sort.Leaf.TheVariants as leaves
use Rattle.st_grammar.specs.declared.sort.Bracket.TheVariants as bracket
use Rattle.st_grammar.specs.declared.sort.Sort.{Sort}
use Rattle.st_grammar.specs.Terminals.{Terminal, leaf, dot, sign, opening, closing, other}
use Rattle.st_grammar.specs.Levels.{is_type_iteration_sign}
use Rattle.st_grammar.specs.Trees as tree
use Rattle.st_grammar.specs.Trees.{Tree, Trees, Heading, Path, none, more}
use Rattle.st_grammar.specs.Grammar as grammar
use Rattle.st_grammar.specs.Reading as part
use Rattle.st_grammar.specs.Positions.{reads_type, reads_types}
use Rattle.st_parse_automaton.specs.declared.part_automaton.Part.{Part}
use Rattle.st_parse_automaton.specs.declared.part_automaton.Part.TheVariants.{Function, Atom, Names, Typ, Whole}
use Rattle.st_parse_automaton.specs.declared.part_automaton.PartKind.{PartKind}
use Rattle.st_parse_automaton.specs.declared.part_automaton.PartKind.TheVariants.{Plain, Length, Arguments, Index as InIndex, Segment, Update, Below}
use Rattle.st_parse_automaton.specs.declared.part_automaton.Filling.{Filling}
use Rattle.st_parse_automaton.specs.declared.part_automaton.Filling.TheVariants.{Empty, Begun, Parts}
use Rattle.st_parse_automaton.specs.declared.part_automaton.Lead.{Lead}
use Rattle.st_parse_automaton.specs.declared.part_automaton.Lead.TheVariants.{Left, Ahead, Items}
use Rattle.st_parse_automaton.specs.declared.part_automaton.Frame.{Frame}
use Rattle.st_parse_automaton.specs.declared.part_automaton.Frame.TheVariants.{Within, Over, Timing}
use Rattle.st_parse_automaton.specs.declared.part_automaton.Expected.TheVariants.{Operand, Next, Label, Step, Index as IndexExpected, Less}
use Rattle.st_parse_automaton.specs.inner.PartAutomaton as parts
use Rattle.st_grammar.proofs.Sound.{base}

abbrev pub part_of : Tree → Part
part_of (tree.operand k x) = parts.leaf_part k
part_of (tree.post t (dot x)) = parts.dotted (part_of t) x.touching
part_of (tree.post t (sign m x)) = parts.marked m (part_of t)
part_of (tree.post t l) = Whole
part_of (tree.times t m x c) = Whole
part_of (tree.bracket (tree.plain bracket.Round o) ts c) = Typ (reads_types ts)
part_of (tree.bracket h ts c) = Whole
part_of (tree.led g t) = Whole

abbrev pub kind_of : Heading → PartKind
kind_of (tree.plain b o) = Plain b
kind_of (tree.length o) = Length
kind_of (tree.arguments f o) = Arguments
kind_of (tree.index t o) = InIndex
kind_of (tree.segment p o) = Segment
kind_of (tree.update p m x) = Update m
kind_of (tree.below o i m x) = Below

abbrev pub lead_of : tree.Lead → Lead
lead_of (tree.left l m x) = Left m
lead_of (tree.ahead m x) = Ahead m
lead_of (tree.items ts) = Items

abbrev pub filling : Trees → List Terminal → Filling
filling none [] = Empty
filling none (l ∷ pre) = Begun
filling (more ts q t) pre = Parts

abbrev pub frames_of : part.Frames → List Frame
frames_of (part.bottom σ) = []
frames_of (part.within h ts pre fs) = Within (kind_of h) (filling ts pre) (reads_types ts) (grammar.sort_in (part.sort fs) h) ∷ frames_of fs
frames_of (part.over g fs) = Over (lead_of g) (part.sort fs) ∷ frames_of fs
frames_of (part.timing t m x fs) = Timing ∷ frames_of fs

abbrev pub state_of : part.State → parts.State
state_of (part.want fs) = (Operand, frames_of fs)
state_of (part.got t fs) = (Next (part_of t), frames_of fs)
state_of (part.naming h ts pre fs) = (Label, frames_of (part.within h ts pre fs))
state_of (part.pathed p fs) = (Step (grammar.has_step p), frames_of fs)
state_of (part.indexing o fs) = (IndexExpected, frames_of fs)
state_of (part.comparing o i fs) = (Less, frames_of fs)

-- ---- parts

pub dotted_function : (p : Part) (b : Bool) → parts.is_function (parts.dotted p b) ≡ false
dotted_function Function b = refl
dotted_function Atom true = refl
dotted_function Atom false = refl
dotted_function Names b = refl
dotted_function (Typ c) b = refl
dotted_function Whole b = refl

pub marked_function : (m : Mark) (p : Part) → parts.is_function (parts.marked m p) ≡ false
marked_function m Function = refl
marked_function m Atom = refl
marked_function m Names = refl
marked_function m (Typ b) = refl
marked_function m Whole = refl

pub part_function : (t : Tree) → parts.is_function (part_of t) ≡ grammar.is_function t
part_function (tree.operand leaves.Low x) = refl
part_function (tree.operand leaves.Basic x) = refl
part_function (tree.operand leaves.Variable x) = refl
part_function (tree.operand leaves.Atom x) = refl
part_function (tree.operand leaves.Number x) = refl
part_function (tree.operand leaves.Literal x) = refl
part_function (tree.operand leaves.Function x) = refl
part_function (tree.post t (leaf k x)) = refl
part_function (tree.post t (dot x)) = dotted_function (part_of t) x.touching
part_function (tree.post t (sign m x)) = marked_function m (part_of t)
part_function (tree.post t (opening k x)) = refl
part_function (tree.post t (closing c x)) = refl
part_function (tree.post t (other x)) = refl
part_function (tree.times t m x c) = refl
part_function (tree.bracket (tree.plain bracket.Round o) ts c) = refl
part_function (tree.bracket (tree.plain bracket.Square o) ts c) = refl
part_function (tree.bracket (tree.plain bracket.Brace o) ts c) = refl
part_function (tree.bracket (tree.plain bracket.TickRound o) ts c) = refl
part_function (tree.bracket (tree.plain bracket.TickSquare o) ts c) = refl
part_function (tree.bracket (tree.plain bracket.TickBrace o) ts c) = refl
part_function (tree.bracket (tree.plain bracket.Dollar o) ts c) = refl
part_function (tree.bracket (tree.length o) ts c) = refl
part_function (tree.bracket (tree.arguments f o) ts c) = refl
part_function (tree.bracket (tree.index u o) ts c) = refl
part_function (tree.bracket (tree.segment p o) ts c) = refl
part_function (tree.bracket (tree.update p m x) ts c) = refl
part_function (tree.bracket (tree.below o i m x) ts c) = refl
part_function (tree.led g t) = refl

pub dotted_atom : (p : Part) (b : Bool) → parts.is_atom (parts.dotted p b) ≡ parts.is_atom p
dotted_atom Function b = refl
dotted_atom Atom true = refl
dotted_atom Atom false = refl
dotted_atom Names b = refl
dotted_atom (Typ c) b = refl
dotted_atom Whole b = refl

pub marked_atom : (m : Mark) (p : Part) → parts.is_atom (parts.marked m p) ≡ false
marked_atom m Function = refl
marked_atom m Atom = refl
marked_atom m Names = refl
marked_atom m (Typ b) = refl
marked_atom m Whole = refl

pub dotted_type : (p : Part) (b : Bool) → parts.is_type (parts.dotted p b) ≡ false
dotted_type Function b = refl
dotted_type Atom true = refl
dotted_type Atom false = refl
dotted_type Names b = refl
dotted_type (Typ c) b = refl
dotted_type Whole b = refl

pub marked_type : (m : Mark) (p : Part) → parts.is_type (parts.marked m p) ≡ parts.is_type p
marked_type m Function = refl
marked_type m Atom = refl
marked_type m Names = refl
marked_type m (Typ b) = refl
marked_type m Whole = refl

pub dotted_reads : (p : Part) (b : Bool) → parts.reads_type (parts.dotted p b) ≡ false
dotted_reads Function b = refl
dotted_reads Atom true = refl
dotted_reads Atom false = refl
dotted_reads Names b = refl
dotted_reads (Typ c) b = refl
dotted_reads Whole b = refl

pub and_no : (b : Bool) → b && false ≡ false
and_no true = refl
and_no false = refl

pub marked_reads : (m : Mark) (p : Part) → parts.reads_type (parts.marked m p) ≡ (is_type_iteration_sign m && parts.reads_type p)
marked_reads m Function = sym (and_no (is_type_iteration_sign m))
marked_reads m Atom = sym (and_no (is_type_iteration_sign m))
marked_reads m Names = sym (and_no (is_type_iteration_sign m))
marked_reads m (Typ b) = refl
marked_reads m Whole = sym (and_no (is_type_iteration_sign m))

pub part_atom : (t : Tree) → parts.is_atom (part_of t) ≡ grammar.is_atom t
part_atom (tree.operand leaves.Low x) = refl
part_atom (tree.operand leaves.Basic x) = refl
part_atom (tree.operand leaves.Variable x) = refl
part_atom (tree.operand leaves.Atom x) = refl
part_atom (tree.operand leaves.Number x) = refl
part_atom (tree.operand leaves.Literal x) = refl
part_atom (tree.operand leaves.Function x) = refl
part_atom (tree.post t (leaf k x)) = refl
part_atom (tree.post t (dot x)) = dotted_atom (part_of t) x.touching ∙ part_atom t
part_atom (tree.post t (sign m x)) = marked_atom m (part_of t)
part_atom (tree.post t (opening k x)) = refl
part_atom (tree.post t (closing c x)) = refl
part_atom (tree.post t (other x)) = refl
part_atom (tree.times t m x c) = refl
part_atom (tree.bracket (tree.plain bracket.Round o) ts c) = refl
part_atom (tree.bracket (tree.plain bracket.Square o) ts c) = refl
part_atom (tree.bracket (tree.plain bracket.Brace o) ts c) = refl
part_atom (tree.bracket (tree.plain bracket.TickRound o) ts c) = refl
part_atom (tree.bracket (tree.plain bracket.TickSquare o) ts c) = refl
part_atom (tree.bracket (tree.plain bracket.TickBrace o) ts c) = refl
part_atom (tree.bracket (tree.plain bracket.Dollar o) ts c) = refl
part_atom (tree.bracket (tree.length o) ts c) = refl
part_atom (tree.bracket (tree.arguments f o) ts c) = refl
part_atom (tree.bracket (tree.index u o) ts c) = refl
part_atom (tree.bracket (tree.segment p o) ts c) = refl
part_atom (tree.bracket (tree.update p m x) ts c) = refl
part_atom (tree.bracket (tree.below o i m x) ts c) = refl
part_atom (tree.led g t) = refl

pub part_type : (t : Tree) → parts.is_type (part_of t) ≡ grammar.is_type t
part_type (tree.operand leaves.Low x) = refl
part_type (tree.operand leaves.Basic x) = refl
part_type (tree.operand leaves.Variable x) = refl
part_type (tree.operand leaves.Atom x) = refl
part_type (tree.operand leaves.Number x) = refl
part_type (tree.operand leaves.Literal x) = refl
part_type (tree.operand leaves.Function x) = refl
part_type (tree.post t (leaf k x)) = refl
part_type (tree.post t (dot x)) = dotted_type (part_of t) x.touching
part_type (tree.post t (sign m x)) = marked_type m (part_of t) ∙ part_type t
part_type (tree.post t (opening k x)) = refl
part_type (tree.post t (closing c x)) = refl
part_type (tree.post t (other x)) = refl
part_type (tree.times t m x c) = refl
part_type (tree.bracket (tree.plain bracket.Round o) ts c) = refl
part_type (tree.bracket (tree.plain bracket.Square o) ts c) = refl
part_type (tree.bracket (tree.plain bracket.Brace o) ts c) = refl
part_type (tree.bracket (tree.plain bracket.TickRound o) ts c) = refl
part_type (tree.bracket (tree.plain bracket.TickSquare o) ts c) = refl
part_type (tree.bracket (tree.plain bracket.TickBrace o) ts c) = refl
part_type (tree.bracket (tree.plain bracket.Dollar o) ts c) = refl
part_type (tree.bracket (tree.length o) ts c) = refl
part_type (tree.bracket (tree.arguments f o) ts c) = refl
part_type (tree.bracket (tree.index u o) ts c) = refl
part_type (tree.bracket (tree.segment p o) ts c) = refl
part_type (tree.bracket (tree.update p m x) ts c) = refl
part_type (tree.bracket (tree.below o i m x) ts c) = refl
part_type (tree.led g t) = refl

pub part_reads : (t : Tree) → parts.reads_type (part_of t) ≡ reads_type t
part_reads (tree.operand leaves.Low x) = refl
part_reads (tree.operand leaves.Basic x) = refl
part_reads (tree.operand leaves.Variable x) = refl
part_reads (tree.operand leaves.Atom x) = refl
part_reads (tree.operand leaves.Number x) = refl
part_reads (tree.operand leaves.Literal x) = refl
part_reads (tree.operand leaves.Function x) = refl
part_reads (tree.post t (leaf k x)) = refl
part_reads (tree.post t (dot x)) = dotted_reads (part_of t) x.touching
part_reads (tree.post t (sign m x)) = marked_reads m (part_of t) ∙ ap (λ b. is_type_iteration_sign m && b) (part_reads t)
part_reads (tree.post t (opening k x)) = refl
part_reads (tree.post t (closing c x)) = refl
part_reads (tree.post t (other x)) = refl
part_reads (tree.times t m x c) = refl
part_reads (tree.bracket (tree.plain bracket.Round o) ts c) = refl
part_reads (tree.bracket (tree.plain bracket.Square o) ts c) = refl
part_reads (tree.bracket (tree.plain bracket.Brace o) ts c) = refl
part_reads (tree.bracket (tree.plain bracket.TickRound o) ts c) = refl
part_reads (tree.bracket (tree.plain bracket.TickSquare o) ts c) = refl
part_reads (tree.bracket (tree.plain bracket.TickBrace o) ts c) = refl
part_reads (tree.bracket (tree.plain bracket.Dollar o) ts c) = refl
part_reads (tree.bracket (tree.length o) ts c) = refl
part_reads (tree.bracket (tree.arguments f o) ts c) = refl
part_reads (tree.bracket (tree.index u o) ts c) = refl
part_reads (tree.bracket (tree.segment p o) ts c) = refl
part_reads (tree.bracket (tree.update p m x) ts c) = refl
part_reads (tree.bracket (tree.below o i m x) ts c) = refl
part_reads (tree.led g t) = refl

-- ---- positions

pub top_sort : (fs : part.Frames) → parts.top (base fs) (frames_of fs) ≡ part.sort fs
top_sort (part.bottom σ) = refl
top_sort (part.within h ts pre fs) = refl
top_sort (part.over g fs) = refl
top_sort (part.timing t m x fs) = refl

pub kind_least : (h : Heading) → parts.kind_least (kind_of h) ≡ grammar.least_in h
kind_least (tree.plain b o) = refl
kind_least (tree.length o) = refl
kind_least (tree.arguments f o) = refl
kind_least (tree.index t o) = refl
kind_least (tree.segment p o) = refl
kind_least (tree.update p m x) = refl
kind_least (tree.below o i m x) = refl

pub lead_wanted : (g : tree.Lead) → parts.wanted (lead_of g) ≡ grammar.wanted g
lead_wanted (tree.left l m x) = refl
lead_wanted (tree.ahead m x) = refl
lead_wanted (tree.items ts) = refl

pub lead_reach : (g : tree.Lead) → parts.reach (lead_of g) ≡ part.reach g
lead_reach (tree.left l m x) = refl
lead_reach (tree.ahead m x) = refl
lead_reach (tree.items ts) = refl

pub lead_levels : (g : tree.Lead) → parts.lead_level (lead_of g) ≡ grammar.lead_level g
lead_levels (tree.left l m x) = refl
lead_levels (tree.ahead m x) = refl
lead_levels (tree.items ts) = refl

pub least_is : (fs : part.Frames) → parts.least (frames_of fs) ≡ part.least fs
least_is (part.bottom σ) = refl
least_is (part.within h ts pre fs) = kind_least h
least_is (part.over g fs) = lead_wanted g
least_is (part.timing t m x fs) = refl

pub kind_closing : (h : Heading) → parts.kind_closing (kind_of h) ≡ tree.closes h
kind_closing (tree.plain b o) = refl
kind_closing (tree.length o) = refl
kind_closing (tree.arguments f o) = refl
kind_closing (tree.index t o) = refl
kind_closing (tree.segment p o) = refl
kind_closing (tree.update p m x) = refl
kind_closing (tree.below o i m x) = refl

pub kind_style : (σ : Sort) (h : Heading) → parts.kind_style σ (kind_of h) ≡ grammar.style σ h
kind_style σ (tree.plain b o) = refl
kind_style σ (tree.length o) = refl
kind_style σ (tree.arguments f o) = refl
kind_style σ (tree.index t o) = refl
kind_style σ (tree.segment p o) = refl
kind_style σ (tree.update p m x) = refl
kind_style σ (tree.below o i m x) = refl

pub kind_sort : (σ : Sort) (h : Heading) → parts.kind_sort σ (kind_of h) ≡ grammar.sort_in σ h
kind_sort σ (tree.plain b o) = refl
kind_sort σ (tree.length o) = refl
kind_sort σ (tree.arguments f o) = refl
kind_sort σ (tree.index t o) = refl
kind_sort σ (tree.segment p o) = refl
kind_sort σ (tree.update p m x) = refl
kind_sort σ (tree.below o i m x) = refl

pub opened_is : (h : Heading) (fs : part.Frames) → parts.opened (kind_of h) (parts.top (base fs) (frames_of fs)) (frames_of fs) ≡ frames_of (part.within h none [] fs)
opened_is h fs = ap (λ σ. Within (kind_of h) Empty true σ ∷ frames_of fs) (ap (λ σ. parts.kind_sort σ (kind_of h)) (top_sort fs) ∙ kind_sort (part.sort fs) h)

-- a bracket that is closed, as a part
pub kind_part : (h : Heading) (ts : Trees) (c : Token) → parts.kind_part (kind_of h) (reads_types ts) ≡ part_of (tree.bracket h ts c)
kind_part (tree.plain bracket.Round o) ts c = refl
kind_part (tree.plain bracket.Square o) ts c = refl
kind_part (tree.plain bracket.Brace o) ts c = refl
kind_part (tree.plain bracket.TickRound o) ts c = refl
kind_part (tree.plain bracket.TickSquare o) ts c = refl
kind_part (tree.plain bracket.TickBrace o) ts c = refl
kind_part (tree.plain bracket.Dollar o) ts c = refl
kind_part (tree.length o) ts c = refl
kind_part (tree.arguments f o) ts c = refl
kind_part (tree.index t o) ts c = refl
kind_part (tree.segment p o) ts c = refl
kind_part (tree.update p m x) ts c = refl
kind_part (tree.below o i m x) ts c = refl
