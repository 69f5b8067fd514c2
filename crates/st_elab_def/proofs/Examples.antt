-- Small sources, worked by hand.
use Rattle.std.proofs.Common.{rules, ◌≡◌, refl, sym, ap, ◌∙◌, subst, ℕ, List, [], ◌∷◌, flat_map, map, None, inl, inr}
use Rattle.std.specs.Prelude.{codes}
use Rattle.st_num.specs.declared.span.Span.{Span}
use Rattle.st_num.specs.declared.rule.RuleId.TheVariants.{B4}
use Rattle.st_el.specs.declared.ty.Typ.{Typ, roll-Typ, the_lemmas}
use Rattle.st_el.specs.declared.ty.TypNode.{TypNode}
use Rattle.st_el.specs.declared.ty.TypNode.TheVariants as typ_node
use Rattle.st_el.specs.declared.notation.Notation.{Notation, roll-Notation}
use Rattle.st_el.specs.declared.notation.NotNode.{NotNode}
use Rattle.st_el.specs.declared.definition.Body.TheVariants.{Alias}
use Rattle.st_el.specs.declared.definition.Def.{Def}
use Rattle.st_el.specs.declared.definition.DefNode.{DefNode}
use Rattle.st_el.specs.declared.definition.DefNode.TheVariants.{Syntax}
use Rattle.st_il.specs.declared.ty.Ty.{the_lemmas as ty_lemmas}
use Rattle.st_il.specs.declared.ty.Ty.TheVariants as ty
use Rattle.st_type_table.specs.Leads.{names_in as type_names, Among, Leads, here, step}
use Rattle.st_elab_sig.specs.Types.{ty_of}
use Rattle.st_elab_def.specs.declared.breach.Breach.{Breach}
use Rattle.st_elab_def.specs.DeclsOf.{decls_of}
use Rattle.st_elab_def.specs.declared.names.Named.{Named}
use Rattle.st_elab_def.specs.Phases.{names_in, on_alias_name, of_definition}
use Rattle.st_elab_def.specs.Breaches.{FirstBreach, IsBreach}
use Rattle.st_elab_def.specs.inner.Walk.{standing}
use Rattle.st_elab_def.proofs.Leaves.{FirstBreach-front}

abbrev pub place : ℕ → ℕ → Span
place line column = record { file = 0; line = line; column = column }

abbrev pub typ : Span → TypNode → Typ
typ at node = roll-Typ (record { at = at; node = node })

abbrev pub notation : Span → NotNode → Notation
notation at node = roll-Notation (record { at = at; node = node })

abbrev pub def : Span → DefNode → Def
def at node = record { at = at; hints = []; node = node }

-- ---- names

abbrev pub name_at : Span → List ℕ → Typ
name_at at name = typ at (typ_node.Name name)

pub names-Name : (at : Span) (name : List ℕ) → names_in (name_at at name) ≡ record { at = at; name = name } ∷ []
names-Name at name = search (rules, the_lemmas)

ty-Name : (at : Span) (name : List ℕ) → ty_of (name_at at name) ≡ ty.Name name
ty-Name at name = search (rules, the_lemmas)

type_names-Name : (name : List ℕ) → type_names (ty.Name name) ≡ name ∷ []
type_names-Name name = search (rules, ty_lemmas)

-- ---- two aliases of each other

-- syntax a = b
abbrev a_is_b : Def
a_is_b = def (place 1 1) (Syntax (codes "a") None (Alias (name_at (place 1 12) (codes "b"))))

-- syntax b = a
abbrev b_is_a : Def
b_is_a = def (place 2 1) (Syntax (codes "b") None (Alias (name_at (place 2 12) (codes "a"))))

abbrev circle : List Def
circle = a_is_b ∷ b_is_a ∷ []

b_leads_back : Leads (decls_of circle).types (codes "b") (codes "a")
b_leads_back =
    step (codes "a") (subst (λ names. Among names (codes "a")) (sym (ap type_names (ty-Name (place 2 12) (codes "a")) ∙ type_names-Name (codes "a"))) (inl refl)) (here refl)

-- The name in the first alias leads back.
pub circle_breach : IsBreach circle (record { definition = 0; at = place 1 12; rule = B4 })
circle_breach =
    let D = decls_of circle in
    let first = standing [] a_is_b (b_is_a ∷ []) in
    let found : Breach = record { definition = 0; at = place 1 12; rule = B4 } in
    let asked = λ (names : List Named). map (of_definition first) (flat_map (on_alias_name (codes "a")) names) in
    let broken : FirstBreach D (asked (record { at = place 1 12; name = codes "b" } ∷ [])) found =
    inr ((λ none. cc), inl (refl, ((λ no_return. no_return b_leads_back), refl))) in
    inr (refl, inr (refl, inr (refl, FirstBreach-front D _ _ found (FirstBreach-front D _ _ found (subst (λ names. FirstBreach D (asked names) found) (sym (names-Name (place 1 12) (codes "b"))) broken)))))
