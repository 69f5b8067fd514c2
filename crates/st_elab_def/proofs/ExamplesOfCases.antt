-- Small sources with cases, worked by hand.
use Rattle.std.proofs.Common.{rules, arith, ◌≡◌, refl, sym, ap, ◌∙◌, subst, ℕ, ◌≤◌, List, [], ◌∷◌, ◌++◌, flat_map, map, None, inl, inr}
use Rattle.std.specs.Prelude.{codes, false}
use Rattle.st_num.specs.declared.rule.RuleId.TheVariants.{Y7}
use Rattle.st_num.specs.declared.span.Span.{Span}
use Rattle.st_el.specs.declared.ty.Typ.{Typ, the_lemmas}
use Rattle.st_el.specs.declared.ty.TypNode.TheVariants as typ_node
use Rattle.st_el.specs.declared.notation.Notation.{Notation}
use Rattle.st_el.specs.declared.notation.Notation.{the_lemmas as notation_lemmas}
use Rattle.st_il.specs.declared.template.Template.{the_lemmas as template_lemmas}
use Rattle.st_el.specs.declared.notation.NotNode.TheOpen.{NotNode-F}
use Rattle.st_el.specs.declared.notation.NotNode.TheVariants as not_node
use Rattle.st_el.specs.declared.definition.Body.TheVariants.{Cases}
use Rattle.st_el.specs.declared.definition.Def.{Def}
use Rattle.st_el.specs.declared.definition.DefNode.TheVariants.{Syntax}
use Rattle.st_il.specs.declared.definition.Alternative.{Alternative}
use Rattle.st_il.specs.declared.definition.Alternative.TheVariants as alternative
use Rattle.st_il.specs.declared.definition.SyntaxDef.{SyntaxDef}
use Rattle.st_il.specs.declared.template.Template.{Template}
use Rattle.st_il.specs.declared.ty.Ty.{Ty}
use Rattle.st_il.specs.declared.template.Template.TheVariants as template
use Rattle.st_il.specs.Notation.{single, atom, hole, sequence, none, more}
use Rattle.st_il.specs.Template.{IsTemplate, tag_of, template_height}
use Rattle.st_il.specs.Key.{key}
use Rattle.st_type_table.specs.declared.entry.CaseDef.{CaseDef}
use Rattle.st_type_table.specs.Cases.{Brings, own, included, Flatten, none as flat_none, more as flat_more}
use Rattle.st_type_table.specs.Keys.{HasKey, KeysDiffer}
use Rattle.st_type_table.specs.Breach as types
use Rattle.st_elab_sig.specs.Types.{ty_of}
use Rattle.st_elab_sig.specs.Signatures.{template_of, holes_of}
use Rattle.st_elab_def.specs.declared.breach.Breach.{Breach}
use Rattle.st_elab_def.specs.DeclsOf.{alternative_of, alternative_at as alternative_at_level, not_node as node_of, decls_of}
use Rattle.st_elab_def.specs.Phases.{placed_type, names_in, all_declared, on_alternative, on_alternatives, on_alternative_at, of_definition}
use Rattle.st_elab_def.specs.Breaches.{FirstBreach, IsBreach}
use Rattle.st_elab_def.specs.inner.Walk.{standing}
use Rattle.st_elab_def.proofs.Leaves.{FirstBreach-front}
use Rattle.st_elab_def.proofs.Examples.{place, typ, notation, def}

-- ---- syntax a = | A nat | A text

abbrev word : Span → Notation
word at = notation at (not_node.Atom (codes "A"))

abbrev case_at : Span → Span → Typ → Notation
case_at at there t = notation at (not_node.Seq (word at ∷ notation there (not_node.Hole t) ∷ []))

abbrev parts : Span → Span → Typ → List Notation
parts at there t = word at ∷ notation there (not_node.Hole t) ∷ []

abbrev shape : Template
shape = template.Seq (template.Atom (codes "A") ∷ template.Hole ∷ [])

node-case : (at there : Span) (t : Typ) → node_of (case_at at there t) ≡ NotNode-F.Seq (parts at there t)
node-case at there t = search (rules, notation_lemmas)

template-case : (at there : Span) (t : Typ) → template_of (case_at at there t) ≡ shape
template-case at there t = search (rules, notation_lemmas)

holes-case : (at there : Span) (t : Typ) → holes_of (case_at at there t) ≡ t ∷ []
holes-case at there t = search (rules, notation_lemmas)

height-shape : template_height shape ≡ 2
height-shape = search (rules, template_lemmas)

shape_is : IsTemplate shape
shape_is = record {
  notation = sequence (template.Atom (codes "A") ∷ template.Hole ∷ []) (omega arith) refl (more (atom (codes "A") refl (single (refl, tt))) (more (hole refl) none)) (omega arith);
  height = subst (λ n. n ≤ 100) (sym height-shape) (omega arith);
}

abbrev alternative_at : Typ → Alternative
alternative_at t = alternative.Case (tag_of shape) (ty_of t ∷ [])

alternative-case : (at there : Span) (t : Typ) → alternative_of (case_at at there t) ≡ alternative_at t ∷ []
alternative-case at there t =
    ap (alternative_at_level (case_at at there t)) (node-case at there t)
    ∙ λ i. alternative.Case (tag_of (template-case at there t i)) (map ty_of (holes-case at there t i)) ∷ []

-- where no name stands in the type
asked-case : (at there : Span) (t : Typ) (so_far : List Alternative) → names_in t ≡ [] → on_alternative (codes "a") so_far (case_at at there t) ≡ placed_type at (types.keys so_far) ∷ []
asked-case at there t so_far unnamed =
    ap (on_alternative_at (codes "a") so_far (case_at at there t)) (node-case at there t)
    ∙ (λ i. placed_type at (types.keys so_far) ∷ all_declared (flat_map names_in (holes-case at there t i)))
    ∙ ap (λ names. placed_type at (types.keys so_far) ∷ all_declared (names ++ [])) unnamed

-- ---- keys

pub one_case : (defs : List SyntaxDef) (tag : List ℕ) (operands : List Ty) → types.Holds defs (types.keys (alternative.Case tag operands ∷ []))
one_case defs tag operands cases (flat_more first rest brings others e) =
    subst KeysDiffer (sym (e ∙ (λ i. first_is brings i ++ rest_is others i))) (tt, tt)
  where
    first_is : Brings defs (alternative.Case tag operands) first → first ≡ record { tag = tag; operands = operands } ∷ []
    first_is (own t os a c) =
        let p : t ≡ tag = cc in
        let q : os ≡ operands = cc in
        c ∙ λ i. record { tag = p i; operands = q i } ∷ []
    first_is (included name t a m f) = absurd (cc)

    rest_is : Flatten defs [] rest → rest ≡ []
    rest_is (flat_none p) = p

two_cases : (defs : List SyntaxDef) (os ps : List Ty) → types.Holds defs (types.keys (alternative.Case (tag_of shape) os ∷ alternative.Case (tag_of shape) ps ∷ [])) → ⊥
two_cases defs os ps holds =
    let tag = tag_of shape in
    let first : CaseDef = record { tag = tag; operands = os } in
    let second : CaseDef = record { tag = tag; operands = ps } in
    let has : HasKey tag (key shape) = HasKey.template shape (record { template = shape_is; spelled = refl }) refl in
    let differ = holds (first ∷ second ∷ []) (flat_more (first ∷ []) (second ∷ []) (own tag os refl refl) (flat_more (second ∷ []) [] (own tag ps refl refl) (flat_none refl) refl) refl) in
    differ.0.0 (record { key = key shape; one = has; other = has })

-- ---- the source

abbrev nat : Typ
nat = typ (place 1 16) typ_node.Nat

abbrev text : Typ
text = typ (place 1 24) typ_node.Text

no_names-nat : names_in nat ≡ []
no_names-nat = search (rules, the_lemmas)

no_names-text : names_in text ≡ []
no_names-text = search (rules, the_lemmas)

abbrev first_case : Notation
first_case = case_at (place 1 14) (place 1 16) nat

abbrev second_case : Notation
second_case = case_at (place 1 22) (place 1 24) text

-- syntax a = | A nat | A text
abbrev twice : Def
twice = def (place 1 1) (Syntax (codes "a") None (Cases false (first_case ∷ second_case ∷ []) false))

-- The second alternative has the key of the first.
pub twice_breach : IsBreach (twice ∷ []) (record { definition = 0; at = place 1 22; rule = Y7 })
twice_breach =
    let D = decls_of (twice ∷ []) in
    let only = standing [] twice [] in
    let found : Breach = record { definition = 0; at = place 1 22; rule = Y7 } in
    let one = alternative_of first_case in
    let two = alternative_of second_case in
    let one-is = alternative-case (place 1 14) (place 1 16) nat in
    let two-is = alternative-case (place 1 22) (place 1 24) text in
    let asked : on_alternatives (codes "a") [] (first_case ∷ second_case ∷ []) ≡ placed_type (place 1 14) (types.keys one) ∷ placed_type (place 1 22) (types.keys (one ++ two)) ∷ [] =
    λ i. asked-case (place 1 14) (place 1 16) nat one no_names-nat i ++ (asked-case (place 1 22) (place 1 24) text (one ++ two) no_names-text i ++ []) in
    let passes : types.Holds D.types (types.keys one) = subst (λ as'. types.Holds D.types (types.keys as')) (sym one-is) (one_case D.types (tag_of shape) (ty_of nat ∷ [])) in
    let fails : types.Holds D.types (types.keys (one ++ two)) → ⊥ = λ holds. two_cases D.types (ty_of nat ∷ []) (ty_of text ∷ []) (subst (λ as'. types.Holds D.types (types.keys as')) (λ i. one-is i ++ two-is i) holds) in
    let broken : FirstBreach D (map (of_definition only) (placed_type (place 1 14) (types.keys one) ∷ placed_type (place 1 22) (types.keys (one ++ two)) ∷ [])) found =
    inr (passes, inl (refl, (fails, refl))) in
    inr (refl, inr (refl, FirstBreach-front D _ _ found (FirstBreach-front D _ _ found (subst (λ ps. FirstBreach D (map (of_definition only) ps) found) (sym asked) broken))))
