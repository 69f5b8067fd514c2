-- The names in types and in notations, level by level.
use Rattle.std.proofs.Common.{rules, ◌≡◌, refl, ap, ◌∙◌, ℕ, List, [], ◌∷◌, ◌++◌, map}
use Rattle.std.specs.Prelude.{flat_map}
use Rattle.std.proofs.lemmas.Grind.{flat_map-append}
use Rattle.st_num.specs.declared.mark.Mark.{Mark}
use Rattle.st_num.specs.declared.span.Span.{Span}
use Rattle.st_el.specs.declared.notation.Notation.{Notation, out-Notation, fold_out-Notation}
use Rattle.st_el.specs.declared.notation.Notation.{the_lemmas as notation_lemmas}
use Rattle.st_el.specs.declared.notation.NotNode.{NotNode, fold-NotNode}
use Rattle.st_el.specs.declared.notation.NotNode.TheVariants as not_node
use Rattle.st_el.specs.declared.ty.Typ.{Typ, out-Typ, fold_out-Typ, the_lemmas}
use Rattle.st_el.specs.declared.ty.TypNode.{TypNode, fold-TypNode}
use Rattle.st_el.specs.declared.ty.TypNode.TheVariants as node
use Rattle.st_elab_sig.specs.Signatures.{holes_at, holes_of}
use Rattle.st_elab_def.specs.declared.names.Named.{Named}
use Rattle.st_elab_def.specs.Phases.{named_at, names_in, all_declared}

-- ---- types

-- the names in a level that stands there
abbrev names_node : TypNode → Span → List Named
names_node = fold-TypNode (Span → List Named) (List Named) named_at (λ t. t.node t.at)

names-is : (t : Typ) (k : TypNode) → (out-Typ t).node ≡ k → names_in t ≡ names_node k (out-Typ t).at
names-is t k e = fold_out-Typ (Span → List Named) (List Named) named_at (λ t. t.node t.at) t ∙ ap (λ k. names_node k (out-Typ t).at) e

pub names-Bool : (t : Typ) → (out-Typ t).node ≡ node.Bool → names_in t ≡ []
names-Bool t e = names-is t _ e ∙ search (rules, the_lemmas)

pub names-Nat : (t : Typ) → (out-Typ t).node ≡ node.Nat → names_in t ≡ []
names-Nat t e = names-is t _ e ∙ search (rules, the_lemmas)

pub names-Int : (t : Typ) → (out-Typ t).node ≡ node.Int → names_in t ≡ []
names-Int t e = names-is t _ e ∙ search (rules, the_lemmas)

pub names-Text : (t : Typ) → (out-Typ t).node ≡ node.Text → names_in t ≡ []
names-Text t e = names-is t _ e ∙ search (rules, the_lemmas)

named-Name : (name : List ℕ) (at : Span) → names_node (node.Name name) at ≡ record { at = at; name = name } ∷ []
named-Name name at = search (rules, the_lemmas)

named-Star : (u : Typ) (at : Span) → names_node (node.Star u) at ≡ names_in u
named-Star u at = search (rules, the_lemmas)

named-Quest : (u : Typ) (at : Span) → names_node (node.Quest u) at ≡ names_in u
named-Quest u at = search (rules, the_lemmas)

named-Tuple : (ts : List Typ) (at : Span) → names_node (node.Tuple ts) at ≡ flat_map (λ (part : List Named). part) (map names_in ts)
named-Tuple ts at = search (rules, the_lemmas)

flat-parts : (ts : List Typ) → flat_map (λ (part : List Named). part) (map names_in ts) ≡ flat_map names_in ts
flat-parts [] = refl
flat-parts (t ∷ ts) = ap (λ ns. names_in t ++ ns) (flat-parts ts)

pub names-Name : (t : Typ) (name : List ℕ) → (out-Typ t).node ≡ node.Name name → names_in t ≡ record { at = (out-Typ t).at; name = name } ∷ []
names-Name t name e = names-is t _ e ∙ named-Name name (out-Typ t).at

pub names-Star : (t u : Typ) → (out-Typ t).node ≡ node.Star u → names_in t ≡ names_in u
names-Star t u e = names-is t _ e ∙ named-Star u (out-Typ t).at

pub names-Quest : (t u : Typ) → (out-Typ t).node ≡ node.Quest u → names_in t ≡ names_in u
names-Quest t u e = names-is t _ e ∙ named-Quest u (out-Typ t).at

pub names-Tuple : (t : Typ) (ts : List Typ) → (out-Typ t).node ≡ node.Tuple ts → names_in t ≡ flat_map names_in ts
names-Tuple t ts e = names-is t _ e ∙ named-Tuple ts (out-Typ t).at ∙ flat-parts ts

-- ---- notations

abbrev holes_in : NotNode → List Typ
holes_in = fold-NotNode (List Typ) (List Typ) holes_at (λ notation. notation.node)

holes-is : (n : Notation) (k : NotNode) → (out-Notation n).node ≡ k → holes_of n ≡ holes_in k
holes-is n k e = fold_out-Notation (List Typ) (List Typ) holes_at (λ notation. notation.node) n ∙ ap holes_in e

flat-holes : (ns : List Notation) → flat_map (λ (part : List Typ). part) (map holes_of ns) ≡ flat_map holes_of ns
flat-holes [] = refl
flat-holes (n ∷ ns) = ap (λ ts. holes_of n ++ ts) (flat-holes ns)

in-Seq : (ns : List Notation) → holes_in (not_node.Seq ns) ≡ flat_map (λ (part : List Typ). part) (map holes_of ns)
in-Seq ns = search (rules, notation_lemmas)

in-Infix : (left : Notation) (sign : Mark) (right : Notation) → holes_in (not_node.Infix left sign right) ≡ holes_of left ++ holes_of right
in-Infix left sign right = search (rules, notation_lemmas)

in-Bracket : (opening : Mark) (inside : Notation) → holes_in (not_node.Bracket opening inside) ≡ holes_of inside
in-Bracket opening inside = search (rules, notation_lemmas)

in-Hole : (t : Typ) → holes_in (not_node.Hole t) ≡ t ∷ []
in-Hole t = search (rules, notation_lemmas)

pub holes-Atom : (n : Notation) (name : List ℕ) → (out-Notation n).node ≡ not_node.Atom name → holes_of n ≡ []
holes-Atom n name e = holes-is n _ e ∙ search (rules, notation_lemmas)

pub holes-Hole : (n : Notation) (t : Typ) → (out-Notation n).node ≡ not_node.Hole t → holes_of n ≡ t ∷ []
holes-Hole n t e = holes-is n _ e ∙ in-Hole t

pub holes-Seq : (n : Notation) (ns : List Notation) → (out-Notation n).node ≡ not_node.Seq ns → holes_of n ≡ flat_map holes_of ns
holes-Seq n ns e = holes-is n _ e ∙ in-Seq ns ∙ flat-holes ns

pub holes-Infix : (n left : Notation) (sign : Mark) (right : Notation) → (out-Notation n).node ≡ not_node.Infix left sign right → holes_of n ≡ holes_of left ++ holes_of right
holes-Infix n left sign right e = holes-is n _ e ∙ in-Infix left sign right

pub holes-Bracket : (n : Notation) (opening : Mark) (inside : Notation) → (out-Notation n).node ≡ not_node.Bracket opening inside → holes_of n ≡ holes_of inside
holes-Bracket n opening inside e = holes-is n _ e ∙ in-Bracket opening inside

-- ---- what is asked of names

pub all_declared-append : (ns ms : List Named) → all_declared (ns ++ ms) ≡ all_declared ns ++ all_declared ms
all_declared-append [] ms = refl
all_declared-append (n ∷ ns) ms = λ i. all_declared (n ∷ []) ++ all_declared-append ns ms i

-- the names of the types of notations
pub flat_holes : (ns : List Notation) → flat_map names_in (flat_map holes_of ns) ≡ flat_map (λ n. flat_map names_in (holes_of n)) ns
flat_holes [] = refl
flat_holes (n ∷ ns) = flat_map-append names_in (holes_of n) (flat_map holes_of ns) ∙ ap (λ ms. flat_map names_in (holes_of n) ++ ms) (flat_holes ns)
