-- What is asked of the parts of a syntax is what its definition in the internal language is asked.
use Rattle.std.proofs.Common.{rules, ◌≡◌, refl, sym, ap, ◌∙◌, subst, ℕ, suc, ◌+◌, ◌-◌, inl, inr, List, [], ◌∷◌, ◌++◌, map, length, arith}
use Rattle.std.specs.Prelude.{flat_map}
use Rattle.std.specs.List.{AllByRecursion}
use Rattle.std.proofs.lemmas.Grind.{common_steps}
use Rattle.std.proofs.lemmas.List.{map-append}
use Rattle.st_num.specs.declared.rule.RuleId.{RuleId}
use Rattle.st_num.specs.declared.rule.RuleId.TheVariants.{B1, B2, B4, B5, Y7}
use Rattle.st_num.specs.declared.span.Span.{Span}
use Rattle.st_el.specs.declared.notation.Notation.{Notation, out-Notation}
use Rattle.st_el.specs.declared.notation.NotNode.{NotNode}
use Rattle.st_el.specs.declared.notation.NotNode.TheOpen.{NotNode-F}
use Rattle.st_el.specs.declared.ty.Typ.{Typ, Typ-F, roll-Typ, the_lemmas}
use Rattle.st_el.specs.declared.ty.TypNode.{TypNode, roll-TypNode, fold-TypNode}
use Rattle.st_el.specs.declared.ty.TypNode.TheOpen.{TypNode-F}
use Rattle.st_el.specs.declared.ty.TypNode.TheVariants as node
use Rattle.st_el.proofs.TypInduction.{TypParts, typ_induction}
use Rattle.st_il.specs.declared.ty.Ty.{Ty}
use Rattle.st_il.specs.declared.ty.Ty.{the_lemmas as ty_lemmas}
use Rattle.st_il.specs.declared.definition.Alternative.{Alternative}
use Rattle.st_il.specs.declared.definition.Alternative.TheVariants as alternative
use Rattle.st_il.specs.Template.{tag_of}
use Rattle.st_type_table.specs.declared.fault.Broken.{Broken}
use Rattle.st_type_table.specs.Breach as types
use Rattle.st_type_table.specs.Leads.{names_in as type_names, joined as joined_names}
use Rattle.st_elab_sig.specs.Types.{ty_at, ty_of}
use Rattle.st_elab_sig.specs.Signatures.{template_of, holes_of}
use Rattle.st_elab_table.specs.declared.decls.Decls.{Decls}
use Rattle.st_elab_def.specs.declared.names.Named.{Named}
use Rattle.st_elab_def.specs.DeclsOf.{type_node, not_node, bare_alternative, alternative_at, alternative_of, field_of}
use Rattle.st_elab_def.specs.Phases.{Placed, placed_type, named_at, names_in, all_declared, on_alias_name, on_bare, on_alternative_at, on_alternatives, on_field, on_fields}
use Rattle.st_elab_def.specs.inner.Places.{name_place, bare_place, case_place, place_at, alternative_place, cases_place, field_place, fields_place}
use Rattle.st_elab_def.specs.inner.Walk.{AllPassAt, FirstBreachAt}

-- ---- the same conditions

-- The same conditions are asked, at the places of what is answered where they are false.
abbrev pub Same : (Broken → Span) → List Placed → List types.Asked → Type 0
Same place [] [] = Unit {0}
Same place [] (q ∷ qs) = ⊥
Same place (p ∷ ps) [] = ⊥
Same place (p ∷ ps) (q ∷ qs) =
    (p ≡ placed_type (place (types.broken q)) q.condition) × Same place ps qs

pub Same-append : (place : Broken → Span) (ps rs : List Placed) (qs ss : List types.Asked) → Same place ps qs → Same place rs ss → Same place (ps ++ rs) (qs ++ ss)
Same-append place [] rs [] ss h k = k
Same-append place [] rs (q ∷ qs) ss h k = absurd h
Same-append place (p ∷ ps) rs [] ss h k = absurd h
Same-append place (p ∷ ps) rs (q ∷ qs) ss (e, h) k = (e, Same-append place ps rs qs ss h k)

module _ (D : Decls) (place : Broken → Span) where
  pub same-all : (ps : List Placed) (qs : List types.Asked) → Same place ps qs → types.AllHold D.types qs → AllPassAt D ps
  same-all [] [] h k = tt
  same-all [] (q ∷ qs) h k = absurd h
  same-all (p ∷ ps) [] h k = absurd h
  same-all (p ∷ ps) (q ∷ qs) (e, h) (holds, k) =
      subst (λ p. AllPassAt D (p ∷ ps)) (sym e) (holds, same-all ps qs h k)

  pub same-first : (ps : List Placed) (qs : List types.Asked) (b : Broken) → Same place ps qs → types.FirstFalse D.types qs b
      → FirstBreachAt D ps (record { at = place b; rule = b.rule })
  same-first [] [] b h k = k
  same-first [] (q ∷ qs) b h k = absurd h
  same-first (p ∷ ps) [] b h k = absurd h
  same-first (p ∷ ps) (q ∷ qs) b (e, h) (inl (fails, is)) =
      subst (λ p. FirstBreachAt D (p ∷ ps) (record { at = place b; rule = b.rule })) (sym e)
      (subst (λ b. FirstBreachAt D (placed_type (place (types.broken q)) q.condition ∷ ps) (record { at = place b; rule = b.rule })) (sym is) (inl (fails, refl)))
  same-first (p ∷ ps) (q ∷ qs) b (e, h) (inr (holds, k)) =
      subst (λ p. FirstBreachAt D (p ∷ ps) (record { at = place b; rule = b.rule })) (sym e) (inr (holds, same-first ps qs b h k))

-- ---- names

abbrev name_of : Named → List ℕ
name_of n = n.name

abbrev pub plain_names : List Named → List (List ℕ)
plain_names ns = map name_of ns

abbrev NamesBack : Typ → Type 0
NamesBack t = type_names (ty_of t) ≡ plain_names (names_in t)

abbrev ty_in : TypNode → Ty
ty_in = fold-TypNode Ty Ty ty_at (λ t. t.node)

abbrev named_in : TypNode → Span → List Named
named_in = fold-TypNode (Span → List Named) (List Named) named_at (λ t. t.node t.at)

abbrev NodeNamesBack : TypNode → Type 0
NodeNamesBack k = (at : Span) → type_names (ty_in k) ≡ plain_names (named_in k at)

flat-back : (ts : List Typ) → AllByRecursion NamesBack ts
    → joined_names (map type_names (map ty_of ts)) ≡ plain_names (flat_map (λ (part : List Named). part) (map names_in ts))
flat-back [] h = refl
flat-back (t ∷ ts) h =
    (λ i. h.0 i ++ flat-back ts h.1 i) ∙ sym (map-append name_of (names_in t) (flat_map (λ (part : List Named). part) (map names_in ts)))

ty-Star : (t : Typ) → type_names (ty_in (node.Star t)) ≡ type_names (ty_of t)
ty-Star t = search (rules, the_lemmas, ty_lemmas)

ty-Quest : (t : Typ) → type_names (ty_in (node.Quest t)) ≡ type_names (ty_of t)
ty-Quest t = search (rules, the_lemmas, ty_lemmas)

ty-Tuple : (ts : List Typ) → type_names (ty_in (node.Tuple ts)) ≡ joined_names (map type_names (map ty_of ts))
ty-Tuple ts = search (rules, the_lemmas, ty_lemmas)

in-Star : (t : Typ) (at : Span) → named_in (node.Star t) at ≡ names_in t
in-Star t at = search (rules, the_lemmas)

in-Quest : (t : Typ) (at : Span) → named_in (node.Quest t) at ≡ names_in t
in-Quest t at = search (rules, the_lemmas)

in-Tuple : (ts : List Typ) (at : Span) → named_in (node.Tuple ts) at ≡ flat_map (λ (part : List Named). part) (map names_in ts)
in-Tuple ts at = search (rules, the_lemmas)

node-back : (x : TypNode-F TypNode Typ) → TypParts NamesBack x → NodeNamesBack (roll-TypNode x)
node-back TypNode-F.Bool h at = search (rules, the_lemmas, ty_lemmas)
node-back TypNode-F.Nat h at = search (rules, the_lemmas, ty_lemmas)
node-back TypNode-F.Int h at = search (rules, the_lemmas, ty_lemmas)
node-back TypNode-F.Text h at = search (rules, the_lemmas, ty_lemmas)
node-back (TypNode-F.Name name) h at = search (rules, the_lemmas, ty_lemmas)
node-back (TypNode-F.Star t) h at = subst NodeNamesBack (sym (node.rolls-Star t)) (λ at. ty-Star t ∙ h ∙ sym (ap plain_names (in-Star t at))) at
node-back (TypNode-F.Quest t) h at = subst NodeNamesBack (sym (node.rolls-Quest t)) (λ at. ty-Quest t ∙ h ∙ sym (ap plain_names (in-Quest t at))) at
node-back (TypNode-F.Tuple ts) h at = subst NodeNamesBack (sym (node.rolls-Tuple ts)) (λ at. ty-Tuple ts ∙ flat-back ts h ∙ sym (ap plain_names (in-Tuple ts at))) at

ty-roll : (x : Typ-F TypNode Typ) → ty_of (roll-Typ x) ≡ ty_in x.node
ty-roll x = search (rules, the_lemmas)

in-roll : (x : Typ-F TypNode Typ) → names_in (roll-Typ x) ≡ named_in x.node x.at
in-roll x = search (rules, the_lemmas)

level-back : (x : Typ-F TypNode Typ) → NodeNamesBack x.node → NamesBack (roll-Typ x)
level-back x h = ap type_names (ty-roll x) ∙ h x.at ∙ sym (ap plain_names (in-roll x))

-- the names in a type in the internal language
pub names-back : (t : Typ) → type_names (ty_of t) ≡ plain_names (names_in t)
names-back = typ_induction NodeNamesBack NamesBack node-back level-back

pub names-all : (ts : List Typ) → joined_names (map type_names (map ty_of ts)) ≡ plain_names (flat_map names_in ts)
names-all [] = refl
names-all (t ∷ ts) = (λ i. names-back t i ++ names-all ts i) ∙ sym (map-append name_of (names_in t) (flat_map names_in ts))

-- ---- places

name_place-front : (front ns : List Named) (n : Named) (part : Span) → name_place (front ++ n ∷ ns) (length front) part ≡ n.at
name_place-front [] ns n part = refl
name_place-front (m ∷ front) ns n part = name_place-front front ns n part

length-more : {A : Type 0} (front : List A) (x : A) → suc (length front) ≡ length (front ++ x ∷ [])
length-more front x = grind (arith, common_steps)

append-more : {A : Type 0} (front xs : List A) (x : A) → front ++ x ∷ xs ≡ (front ++ x ∷ []) ++ xs
append-more front xs x = grind (arith, common_steps)

-- the names of a part are declared
Same-declared : (place : Broken → Span) (part : ℕ) (whole : Span) (all front ns : List Named) → all ≡ front ++ ns
    → ((k : ℕ) → place (record { part = part; name = k; rule = B2 }) ≡ name_place all k whole)
    → Same place (all_declared ns) (types.all_declared part (length front) (plain_names ns))
Same-declared place part whole all front [] is at = tt
Same-declared place part whole all front (n ∷ ns) is at =
    let here : place (record { part = part; name = length front; rule = B2 }) ≡ n.at =
    at (length front) ∙ ap (λ ms. name_place ms (length front) whole) is ∙ name_place-front front ns n whole in (
      ap (λ a. placed_type a (types.declared n.name)) (sym here),
      subst (λ k. Same place (all_declared ns) (types.all_declared part k (plain_names ns))) (sym (length-more front n))
          (Same-declared place part whole all (front ++ n ∷ []) ns (is ∙ append-more front ns n) at),
    )

-- the names of an alias
pub Same-alias : (target : List ℕ) (whole : Span) (all front ns : List Named) → all ≡ front ++ ns
    → Same (λ b. name_place all b.name whole) (flat_map (on_alias_name target) ns) (types.on_alias target (length front) (plain_names ns))
Same-alias target whole all front [] is = tt
Same-alias target whole all front (n ∷ ns) is =
    let here : name_place all (length front) whole ≡ n.at = ap (λ ms. name_place ms (length front) whole) is ∙ name_place-front front ns n whole in (
      ap (λ a. placed_type a (types.declared n.name)) (sym here),
      (
        ap (λ a. placed_type a (types.no_return n.name target)) (sym here),
        subst (λ k. Same (λ b. name_place all b.name whole) (flat_map (on_alias_name target) ns) (types.on_alias target k (plain_names ns))) (sym (length-more front n))
            (Same-alias target whole all (front ++ n ∷ []) ns (is ∙ append-more front ns n)),
      ),
    )

-- ---- alternatives

Same-bare : (place : Broken → Span) (target : List ℕ) (so_far : List Alternative) (part : ℕ) (whole : Span) (t : Typ) (y : TypNode-F TypNode Typ) (a : Alternative)
    → bare_alternative y ≡ a ∷ [] → ((k : ℕ) (r : RuleId) → place (record { part = part; name = k; rule = r }) ≡ bare_place whole t r)
    → Same place (on_bare target so_far whole t y) (types.on_alternative target part so_far a)
Same-bare place target so_far part whole t (TypNode-F.Name name) a e at =
    let is : alternative.Incl name ≡ a = cc in
    subst (λ a. Same place (on_bare target so_far whole t (TypNode-F.Name name)) (types.on_alternative target part so_far a)) is (
      ap (λ p. placed_type p (types.declared name)) (sym (at 0 B2)),
      (
        ap (λ p. placed_type p (types.no_return name target)) (sym (at 0 B4)),
        (
          ap (λ p. placed_type p (types.variant name)) (sym (at 0 B5)),
          (
            ap (λ p. placed_type p (types.keys so_far)) (sym (at 0 Y7)),
            tt,
          ),
        ),
      ),
    )
Same-bare place target so_far part whole t TypNode-F.Bool a e at = cc
Same-bare place target so_far part whole t TypNode-F.Nat a e at = cc
Same-bare place target so_far part whole t TypNode-F.Int a e at = cc
Same-bare place target so_far part whole t TypNode-F.Text a e at = cc
Same-bare place target so_far part whole t (TypNode-F.Star u) a e at = cc
Same-bare place target so_far part whole t (TypNode-F.Quest u) a e at = cc
Same-bare place target so_far part whole t (TypNode-F.Tuple us) a e at = cc

-- a case: its keys, and the names in its types
Same-case : (place : Broken → Span) (target : List ℕ) (so_far : List Alternative) (part : ℕ) (n : Notation) (a : Alternative)
    → alternative.Case (tag_of (template_of n)) (map ty_of (holes_of n)) ∷ [] ≡ a ∷ []
    → ((k : ℕ) (r : RuleId) → place (record { part = part; name = k; rule = r }) ≡ case_place n k r)
    → Same place (placed_type (out-Notation n).at (types.keys so_far) ∷ all_declared (flat_map names_in (holes_of n))) (types.on_alternative target part so_far a)
Same-case place target so_far part n a e at =
    let is : alternative.Case (tag_of (template_of n)) (map ty_of (holes_of n)) ≡ a = cc in
    subst (λ a. Same place (placed_type (out-Notation n).at (types.keys so_far) ∷ all_declared (flat_map names_in (holes_of n))) (types.on_alternative target part so_far a)) is (
      ap (λ p. placed_type p (types.keys so_far)) (sym (at 0 Y7)),
      subst (λ names. Same place (all_declared (flat_map names_in (holes_of n))) (types.all_declared part 0 names)) (sym (names-all (holes_of n)))
          (Same-declared place part (out-Notation n).at (flat_map names_in (holes_of n)) [] (flat_map names_in (holes_of n)) refl (λ k. at k B2)),
    )

Same-at : (place : Broken → Span) (target : List ℕ) (so_far : List Alternative) (part : ℕ) (n : Notation) (x : NotNode-F NotNode Notation) (a : Alternative)
    → alternative_at n x ≡ a ∷ [] → ((k : ℕ) (r : RuleId) → place (record { part = part; name = k; rule = r }) ≡ place_at n x k r)
    → Same place (on_alternative_at target so_far n x) (types.on_alternative target part so_far a)
Same-at place target so_far part n (NotNode-F.Hole t) a e at = Same-bare place target so_far part (out-Notation n).at t (type_node t) a e at
Same-at place target so_far part n (NotNode-F.Atom name) a e at = Same-case place target so_far part n a e at
Same-at place target so_far part n (NotNode-F.Seq ns) a e at = Same-case place target so_far part n a e at
Same-at place target so_far part n (NotNode-F.Infix left sign right) a e at = Same-case place target so_far part n a e at
Same-at place target so_far part n (NotNode-F.Bracket opening inside) a e at = Same-case place target so_far part n a e at

-- each of the notations is an alternative
abbrev pub AreAlternatives : List Notation → Type 0
AreAlternatives = AllByRecursion (λ (n : Notation). (a : Alternative) × (alternative_of n ≡ a ∷ []))

cases_place-front : (front ns : List Notation) (n : Notation) (k : ℕ) (r : RuleId) (whole : Span) → cases_place (front ++ n ∷ ns) (length front) k r whole ≡ alternative_place n k r
cases_place-front [] ns n k r whole = refl
cases_place-front (m ∷ front) ns n k r whole = cases_place-front front ns n k r whole

behind-from : (from k : ℕ) → (from + k) - from ≡ k
behind-from from k = omega arith

pub Same-cases : (target : List ℕ) (from : ℕ) (whole : Span) (all front ns : List Notation) (before : List Alternative) → all ≡ front ++ ns → AreAlternatives ns
    → Same (λ b. cases_place all (b.part - from) b.name b.rule whole) (on_alternatives target before ns)
    (types.on_alternatives target (from + length front) before (flat_map alternative_of ns))
Same-cases target from whole all front [] before is h = tt
Same-cases target from whole all front (n ∷ ns) before is h =
    subst (λ as'. Same place (on_alternatives target before (n ∷ ns)) (types.on_alternatives target (from + length front) before (as' ++ flat_map alternative_of ns))) (sym e)
    (subst (λ as'. Same place (on_alternative_at target (before ++ as') n (not_node n) ++ on_alternatives target (before ++ as') ns)
    (types.on_alternative target (from + length front) (before ++ a ∷ []) a ++ types.on_alternatives target (suc (from + length front)) (before ++ a ∷ []) (flat_map alternative_of ns))) (sym e)
    (Same-append place (on_alternative_at target (before ++ a ∷ []) n (not_node n)) (on_alternatives target (before ++ a ∷ []) ns)
    (types.on_alternative target (from + length front) (before ++ a ∷ []) a)
    (types.on_alternatives target (suc (from + length front)) (before ++ a ∷ []) (flat_map alternative_of ns))
    (Same-at place target (before ++ a ∷ []) (from + length front) n (not_node n) a e here)
    (subst (λ k. Same place (on_alternatives target (before ++ a ∷ []) ns) (types.on_alternatives target k (before ++ a ∷ []) (flat_map alternative_of ns))) number
    (Same-cases target from whole all (front ++ n ∷ []) ns (before ++ a ∷ []) (is ∙ append-more front ns n) h.1))))
  where
    place : Broken → Span
    place b = cases_place all (b.part - from) b.name b.rule whole

    a : Alternative
    a = h.0.0

    e : alternative_of n ≡ a ∷ []
    e = h.0.1

    here : (k : ℕ) (r : RuleId) → cases_place all ((from + length front) - from) k r whole ≡ place_at n (not_node n) k r
    here k r =
        ap (λ j. cases_place all j k r whole) (behind-from from (length front)) ∙ ap (λ ms. cases_place ms (length front) k r whole) is ∙ cases_place-front front ns n k r whole

    number : from + length (front ++ n ∷ []) ≡ suc (from + length front)
    number = grind (arith, common_steps)

-- ---- fields

fields_place-front : (front fs : List (List ℕ × Typ)) (f : List ℕ × Typ) (k : ℕ) (r : RuleId) (whole : Span) → fields_place (front ++ f ∷ fs) (length front) k r whole ≡ field_place f k r whole
fields_place-front [] fs f k r whole = refl
fields_place-front (g ∷ front) fs f k r whole = fields_place-front front fs f k r whole

Same-field : (place : Broken → Span) (whole : Span) (part : ℕ) (before : List (List ℕ × Ty)) (f : List ℕ × Typ)
    → ((k : ℕ) (r : RuleId) → place (record { part = part; name = k; rule = r }) ≡ field_place f k r whole)
    → Same place (on_field whole before f) (types.on_field part before (field_of f))
Same-field place whole part before f at = (
  ap (λ p. placed_type p (types.new_field before f.0)) (sym (at 0 B1)),
  subst (λ names. Same place (all_declared (names_in f.1)) (types.all_declared part 0 names)) (sym (names-back f.1))
      (Same-declared place part whole (names_in f.1) [] (names_in f.1) refl (λ k. at k B2)),
)

pub Same-fields : (whole : Span) (all front fs : List (List ℕ × Typ)) (before : List (List ℕ × Ty)) → all ≡ front ++ fs
    → Same (λ b. fields_place all b.part b.name b.rule whole) (on_fields whole before fs) (types.on_fields (length front) before (map field_of fs))
Same-fields whole all front [] before is = tt
Same-fields whole all front (f ∷ fs) before is =
    Same-append place (on_field whole before f) (on_fields whole (before ++ field_of f ∷ []) fs)
    (types.on_field (length front) before (field_of f)) (types.on_fields (suc (length front)) (before ++ field_of f ∷ []) (map field_of fs))
    (Same-field place whole (length front) before f (λ k r. ap (λ gs. fields_place gs (length front) k r whole) is ∙ fields_place-front front fs f k r whole))
    (subst (λ k. Same place (on_fields whole (before ++ field_of f ∷ []) fs) (types.on_fields k (before ++ field_of f ∷ []) (map field_of fs))) (sym (length-more front f))
    (Same-fields whole all (front ++ f ∷ []) fs (before ++ field_of f ∷ []) (is ∙ append-more front fs f)))
  where
    place : Broken → Span
    place b = fields_place all b.part b.name b.rule whole
