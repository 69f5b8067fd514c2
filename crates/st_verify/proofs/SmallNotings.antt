-- What is noted of lines that are read has valid trees, and what a verifier keeps is kept.
use Rattle.std.proofs.Common.{◌≡◌, suc, List, [], ◌∷◌, ◌++◌, Some, None, length, refl, sym, subst, ⊎_elim, arith, length-append}
use Rattle.std.specs.Prelude.{Contains}
use Rattle.std.proofs.lemmas.List.Elements.{Contains-push_cases}
use Rattle.st_deriv.specs.declared.line.Line.{Line}
use Rattle.st_deriv.specs.declared.line.Line.TheVariants.{Head, From, Node, Step, End}
use Rattle.st_deriv.specs.declared.line.NodeLine.{NodeLine}
use Rattle.st_il.specs.declared.definition.Il.{Il}
use Rattle.st_il.specs.Small.{IsSmallIl}
use Rattle.st_semantics.specs.declared.notes.Judgement.{Judgement}
use Rattle.st_semantics.specs.declared.notes.Notes.{Notes}
use Rattle.st_semantics.specs.declared.verify_rule.VerifyRule.TheVariants.{V3}
use Rattle.st_semantics.specs.Accepts.{ReadsTo, none, more}
use Rattle.st_semantics.specs.Checks.{asks}
use Rattle.st_semantics.specs.Derivation.{HasTree}
use Rattle.st_semantics.specs.Notes.{noted, nothing_noted}
use Rattle.st_semantics.specs.Verdict.{Verdict, IsInPlace, tests}
use Rattle.st_semantics.proofs.Nodes.{both, asked, node_tree}
use Rattle.st_semantics.proofs.Trials.{trials_are_stable}
use Rattle.st_verify.proofs.SmallLines.{AreTrees, judgement_noted}
use Rattle.st_verify.proofs.SmallModes.{small_keeps_modes, small_kinded}

-- a line that is accepted stands where one of its kind belongs, and keeps what is asked of its kind
pub accepted_place : (il : Il) (notes : Notes) (line : Line) → Verdict il notes line None → IsInPlace notes line
accepted_place il notes line verdict =
    asked (IsInPlace notes line) V3 (both (asks (IsInPlace notes line) V3) (tests il notes line) None verdict refl).0

accepted_tests : (il : Il) (notes : Notes) (line : Line) → Verdict il notes line None → tests il notes line None
accepted_tests il notes line verdict = (both (asks (IsInPlace notes line) V3) (tests il notes line) None verdict refl).1

-- each line adds to the notes
pub length-noted : (il : Il) (notes : Notes) (line : Line) → length (noted il notes line).lines ≡ suc (length notes.lines)
length-noted il notes (Head format relation) = omega (arith, length-append notes.lines (None ∷ []))
length-noted il notes (From values) = omega (arith, length-append notes.lines (None ∷ []))
length-noted il notes (Node line) = omega (arith, length-append notes.lines (Some (record { relation = line.relation; values = line.values }) ∷ []))
length-noted il notes (Step number) = omega (arith, length-append notes.lines (None ∷ []))
length-noted il notes (End ending) = omega (arith, length-append notes.lines (None ∷ []))

pub none_noted : (il : Il) → AreTrees il nothing_noted
none_noted il judgement (k, at, is) = absurd (omega arith)

-- a line that is no node adds no judgement
no_judgement : (il : Il) (notes : Notes) → AreTrees il notes → (judgement : Judgement) → Contains (notes.lines ++ None ∷ []) (Some judgement)
    → HasTree il judgement.relation judgement.values
no_judgement il notes trees judgement contains = ⊎_elim (trees judgement) (λ same. cc) (Contains-push_cases notes.lines None (Some judgement) contains)

node_has_tree : (il : Il) (notes : Notes) (node : NodeLine) → IsSmallIl il → AreTrees il notes → Verdict il notes (Node node) None → HasTree il node.relation node.values
node_has_tree il notes node small trees verdict =
    let modes = small_keeps_modes il small in
    node_tree il modes (trials_are_stable il modes (small_kinded il small)) notes
    (λ line relation vs judges. trees (record { relation = relation; values = vs }) (judgement_noted notes line (record { relation = relation; values = vs }) judges))
    node (accepted_tests il notes (Node node) verdict)

-- an accepted line keeps them so
pub trees_more : (il : Il) (notes : Notes) (line : Line) → IsSmallIl il → AreTrees il notes → Verdict il notes line None → AreTrees il (noted il notes line)
trees_more il notes (Head format relation) small trees verdict = no_judgement il notes trees
trees_more il notes (From values) small trees verdict = no_judgement il notes trees
trees_more il notes (Step number) small trees verdict = no_judgement il notes trees
trees_more il notes (End ending) small trees verdict = no_judgement il notes trees
trees_more il notes (Node node) small trees verdict = λ judgement contains.
    ⊎_elim (trees judgement)
    (λ same.
    let here : judgement ≡ record { relation = node.relation; values = node.values } = cc in
    subst (λ (one : Judgement). HasTree il one.relation one.values) (sym here) (node_has_tree il notes node small trees verdict))
    (Contains-push_cases notes.lines (Some (record { relation = node.relation; values = node.values })) (Some judgement) contains)

-- what is noted of lines that are read has valid trees
pub read_trees : (il : Il) (lines : List Line) (notes : Notes) → IsSmallIl il → ReadsTo il lines notes → AreTrees il notes
read_trees il lines notes small (none is) = subst (AreTrees il) (sym is) (none_noted il)
read_trees il lines notes small (more {before = before} line read verdict all is) =
    subst (AreTrees il) (sym is) (trees_more il before line small (read_trees il _ before small read) verdict)
