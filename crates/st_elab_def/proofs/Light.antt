-- A small source that is elaborated, worked by hand.
use Rattle.std.proofs.Common.{rules, arith, ◌≡◌, refl, sym, ap, ◌∙◌, subst, ℕ, ◌≤◌, List, [], ◌∷◌, ◌++◌, map, flat_map, None}
use Rattle.std.specs.Prelude.{codes, false}
use Rattle.st_num.specs.declared.span.Span.{Span}
use Rattle.st_num.specs.declared.mark.Mark.TheVariants.{SquigglyArrow}
use Rattle.st_el.specs.declared.ty.Typ.{Typ}
use Rattle.st_el.specs.declared.notation.Notation.{Notation}
use Rattle.st_el.specs.declared.notation.Notation.{the_lemmas as notation_lemmas}
use Rattle.st_el.specs.declared.notation.NotNode.TheOpen.{NotNode-F}
use Rattle.st_el.specs.declared.notation.NotNode.TheVariants as not_node
use Rattle.st_el.specs.declared.definition.Body.TheVariants.{Cases}
use Rattle.st_el.specs.declared.definition.Def.{Def}
use Rattle.st_el.specs.declared.definition.DefNode.TheVariants.{Syntax, Relation}
use Rattle.st_il.specs.declared.definition.Alternative.{Alternative}
use Rattle.st_il.specs.declared.definition.Alternative.TheVariants as alternative
use Rattle.st_il.specs.declared.definition.IlDef.TheVariants as il
use Rattle.st_il.specs.declared.definition.SyntaxDef.{SyntaxDef}
use Rattle.st_il.specs.declared.template.Template.{the_lemmas as template_lemmas}
use Rattle.st_il.specs.declared.template.Template.TheVariants as template
use Rattle.st_il.specs.declared.ty.Ty.{Ty}
use Rattle.st_il.specs.Notation.{IsAtom, single, atom}
use Rattle.st_il.specs.Template.{HasTag, tag_of, template_height}
use Rattle.st_il.specs.Key.{PlainKey, key, atom as atom_key}
use Rattle.st_il.proofs.Tags.{one_template}
use Rattle.st_type_table.specs.declared.entry.CaseDef.{CaseDef}
use Rattle.st_type_table.specs.Cases.{Brings, own, included, none, more}
use Rattle.st_type_table.specs.Keys.{HasKey, SameKey, KeysDiffer}
use Rattle.st_type_table.specs.Breach as types
use Rattle.st_elab_sig.specs.Modes as modes
use Rattle.st_elab_sig.specs.Types.{ty_of}
use Rattle.st_elab_sig.specs.Signatures.{template_of, holes_of}
use Rattle.st_elab_def.specs.declared.elaborated.Elaborated.{Elaborated}
use Rattle.st_elab_def.specs.DeclsOf.{alternative_of, alternative_at, body_of, relation_of, not_node as node_of, decls_of}
use Rattle.st_elab_def.specs.Definitions.{definitions}
use Rattle.st_elab_def.specs.Phases.{placed_type, names_in, all_declared, on_alternative, on_alternatives, on_alternative_at, of_definition, on_body, on_signature, phase}
use Rattle.st_elab_def.specs.Breaches.{AllPass}
use Rattle.st_elab_def.specs.Elaboration.{declaration, IsElaborated}
use Rattle.st_elab_def.specs.inner.Walk.{standing}
use Rattle.st_elab_def.proofs.Leaves.{AllPass-append}
use Rattle.st_elab_def.proofs.Examples.{place, notation, def, name_at, names-Name}
use Rattle.st_elab_def.proofs.ExamplesOfCases.{one_case}

-- ---- syntax c = | RED | GREEN

abbrev red : Notation
red = notation (place 1 14) (not_node.Atom (codes "RED"))

abbrev green : Notation
green = notation (place 1 20) (not_node.Atom (codes "GREEN"))

abbrev colour : Def
colour = def (place 1 1) (Syntax (codes "c") None (Cases false (red ∷ green ∷ []) false))

-- ---- relation T: c ~> c

abbrev from : Typ
from = name_at (place 2 13) (codes "c")

abbrev to : Typ
to = name_at (place 2 18) (codes "c")

abbrev arrow : Notation
arrow = notation (place 2 13) (not_node.Infix (notation (place 2 13) (not_node.Hole from)) SquigglyArrow (notation (place 2 18) (not_node.Hole to)))

abbrev turns : Def
turns = def (place 2 1) (Relation (codes "T") arrow)

abbrev light : List Def
light = colour ∷ turns ∷ []

abbrev elaborated : Elaborated
elaborated = record {
  il = record { defs = il.Syntax (record { name = codes "c"; body = body_of (Cases false (red ∷ green ∷ []) false) }) ∷ il.Relation (relation_of [] (codes "T") arrow) ∷ [] };
  sources = 0 ∷ 1 ∷ [];
}

-- ---- atoms

abbrev atom_at : Span → List ℕ → Notation
atom_at at name = notation at (not_node.Atom name)

node-atom : (at : Span) (name : List ℕ) → node_of (atom_at at name) ≡ NotNode-F.Atom name
node-atom at name = search (rules, notation_lemmas)

template-atom : (at : Span) (name : List ℕ) → template_of (atom_at at name) ≡ template.Atom name
template-atom at name = search (rules, notation_lemmas)

holes-atom : (at : Span) (name : List ℕ) → holes_of (atom_at at name) ≡ []
holes-atom at name = search (rules, notation_lemmas)

height-atom : (name : List ℕ) → template_height (template.Atom name) ≡ 1
height-atom name = search (rules, template_lemmas)

key-atom : (name : List ℕ) → key (template.Atom name) ≡ atom_key name
key-atom name = search (rules, template_lemmas)

has_tag : (name : List ℕ) → IsAtom name → HasTag (template.Atom name) (tag_of (template.Atom name))
has_tag name h = record {
  template = record { notation = atom name refl h; height = subst (λ n. n ≤ 100) (sym (height-atom name)) (omega arith) };
  spelled = refl;
}

alternative-atom : (at : Span) (name : List ℕ) → alternative_of (atom_at at name) ≡ alternative.Case (tag_of (template.Atom name)) [] ∷ []
alternative-atom at name =
    ap (alternative_at (atom_at at name)) (node-atom at name)
    ∙ λ i. alternative.Case (tag_of (template-atom at name i)) (map ty_of (holes-atom at name i)) ∷ []

asked-atom : (at : Span) (name : List ℕ) (so_far : List Alternative) → on_alternative (codes "c") so_far (atom_at at name) ≡ placed_type at (types.keys so_far) ∷ []
asked-atom at name so_far =
    ap (on_alternative_at (codes "c") so_far (atom_at at name)) (node-atom at name)
    ∙ λ i. placed_type at (types.keys so_far) ∷ all_declared (flat_map names_in (holes-atom at name i))

key_is : (name : List ℕ) (h : IsAtom name) (k : PlainKey) → HasKey (tag_of (template.Atom name)) k → k ≡ atom_key name
key_is name h k (HasKey.template t tag e) =
    e ∙ ap key (one_template (tag_of (template.Atom name)) t (template.Atom name) tag (has_tag name h)) ∙ key-atom name
key_is name h k (HasKey.none never e) = absurd (never (template.Atom name) (has_tag name h))

keys_differ : (a b : List ℕ) → IsAtom a → IsAtom b → (a ≡ b → ⊥) → SameKey (tag_of (template.Atom a)) (tag_of (template.Atom b)) → ⊥
keys_differ a b h k differ same =
    let both : atom_key a ≡ atom_key b = sym (key_is a h same.key same.one) ∙ key_is b k same.key same.other in
    let equal : a ≡ b = cc in
    differ equal

brings-own : (defs : List SyntaxDef) (tag : List ℕ) (operands : List Ty) (cases : List CaseDef) → Brings defs (alternative.Case tag operands) cases → cases ≡ record { tag = tag; operands = operands } ∷ []
brings-own defs tag operands cases (own t os a c) =
    let p : t ≡ tag = cc in
    let q : os ≡ operands = cc in
    c ∙ λ i. record { tag = p i; operands = q i } ∷ []
brings-own defs tag operands cases (included name t a m f) = absurd (cc)

two_atoms : (defs : List SyntaxDef) (a b : List ℕ) → IsAtom a → IsAtom b → (a ≡ b → ⊥)
    → types.Holds defs (types.keys (alternative.Case (tag_of (template.Atom a)) [] ∷ alternative.Case (tag_of (template.Atom b)) [] ∷ []))
two_atoms defs a b h k differ cases (more first rest brings (more second others brings2 (none p) e2) e) =
    let one = brings-own defs (tag_of (template.Atom a)) [] first brings in
    let two = brings-own defs (tag_of (template.Atom b)) [] second brings2 in
    let rest_is : rest ≡ record { tag = tag_of (template.Atom b); operands = [] } ∷ [] = e2 ∙ λ i. two i ++ p i in
    subst KeysDiffer (sym (e ∙ λ i. one i ++ rest_is i)) ((keys_differ a b h k differ, tt), (tt, tt))

-- ---- the relation

holes-arrow : holes_of arrow ≡ from ∷ to ∷ []
holes-arrow = search (rules, notation_lemmas)

red_is : IsAtom (codes "RED")
red_is = single (refl, (refl, (refl, tt)))

green_is : IsAtom (codes "GREEN")
green_is = single (refl, (refl, (refl, (refl, (refl, tt)))))

-- The source is elaborated.
pub light_elaborated : IsElaborated light elaborated
light_elaborated =
    let D = decls_of light in
    let first = standing [] colour (turns ∷ []) in
    let second = standing (colour ∷ []) turns [] in
    let one = alternative_of red in
    let two = alternative_of green in
    let one-is = alternative-atom (place 1 14) (codes "RED") in
    let two-is = alternative-atom (place 1 20) (codes "GREEN") in
    let cases = placed_type (place 1 14) (types.keys one) ∷ placed_type (place 1 20) (types.keys (one ++ two)) ∷ [] in
    let asked : on_alternatives (codes "c") [] (red ∷ green ∷ []) ≡ cases =
    λ i. asked-atom (place 1 14) (codes "RED") one i ++ (asked-atom (place 1 20) (codes "GREEN") (one ++ two) i ++ []) in
    let one_key : types.Holds D.types (types.keys one) = subst (λ as'. types.Holds D.types (types.keys as')) (sym one-is) (one_case D.types (tag_of (template.Atom (codes "RED"))) []) in
    let two_keys : types.Holds D.types (types.keys (one ++ two)) =
    subst (λ as'. types.Holds D.types (types.keys as')) (sym (λ i. one-is i ++ two-is i)) (two_atoms D.types (codes "RED") (codes "GREEN") red_is green_is (λ e. cc)) in
    let parts : AllPass D (map (of_definition first) (on_alternatives (codes "c") [] (red ∷ green ∷ []))) = subst (λ ps. AllPass D (map (of_definition first) ps)) (sym asked) (one_key, (two_keys, tt)) in
    let bodies : AllPass D (phase on_body (definitions light)) = (refl, AllPass-append D _ _ parts tt) in
    let names : flat_map names_in (holes_of arrow) ≡ record { at = place 2 13; name = codes "c" } ∷ record { at = place 2 18; name = codes "c" } ∷ [] =
    ap (flat_map names_in) holes-arrow ∙ (λ i. names-Name (place 2 13) (codes "c") i ++ (names-Name (place 2 18) (codes "c") i ++ [])) in
    let types_declared : AllPass D (map (of_definition second) (all_declared (flat_map names_in (holes_of arrow)))) =
    subst (λ ns. AllPass D (map (of_definition second) (all_declared ns))) (sym names) ((λ e. cc), ((λ e. cc), tt)) in
    let signatures : AllPass D (phase on_signature (definitions light)) = (([], modes.none refl refl), AllPass-append D _ _ types_declared tt) in
    record {
      sound = (refl, (refl, AllPass-append D (phase on_body (definitions light)) _ bodies (AllPass-append D (phase on_signature (definitions light)) _ signatures tt)));
      definitions = (declaration refl, (declaration refl, tt));
      sources = refl;
    }
