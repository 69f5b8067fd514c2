-- What passes in a source holds of its syntaxes in the internal language.
use Rattle.std.proofs.Common.{◌≡◌, refl, sym, ap, ◌∙◌, subst, ℕ, ◌-◌, Bool, true, false, true≢false, ◌||◌, if◌then◌else◌, Some, None, List, [], ◌∷◌, ◌++◌, map, filter, append-nil}
use Rattle.std.specs.Prelude.{flat_map}
use Rattle.st_num.specs.declared.span.Span.{Span}
use Rattle.st_el.specs.Erasure.{is_fragment, is_fragment_node, alternatives, alternatives_of, alternatives_in, joined}
use Rattle.st_el.specs.Plain.{nowhere}
use Rattle.st_el.specs.declared.notation.Notation.{Notation, out-Notation}
use Rattle.st_el.specs.declared.notation.NotNode.{NotNode}
use Rattle.st_el.specs.declared.notation.NotNode.TheOpen.{NotNode-F}
use Rattle.st_el.specs.declared.ty.Typ.{Typ}
use Rattle.st_el.specs.declared.ty.TypNode.{TypNode}
use Rattle.st_el.specs.declared.ty.TypNode.TheOpen.{TypNode-F}
use Rattle.st_el.specs.declared.definition.Body.{Body}
use Rattle.st_el.specs.declared.definition.Body.TheVariants.{Alias, Cases, Fields}
use Rattle.st_el.specs.declared.definition.Def.{Def}
use Rattle.st_el.specs.declared.definition.DefNode.{DefNode}
use Rattle.st_el.specs.declared.definition.DefNode.TheVariants.{Syntax, Var, Relation, Rule, Fun, Clause}
use Rattle.st_il.specs.declared.definition.Alternative.{Alternative}
use Rattle.st_type_table.specs.declared.fault.Broken.{Broken}
use Rattle.st_type_table.specs.Breach as types
use Rattle.st_elab_table.specs.declared.decls.Decls.{Decls}
use Rattle.st_elab_def.specs.Definitions.{Definition, definitions_from}
use Rattle.st_elab_def.specs.DeclsOf.{type_node, not_node, bare_alternative, alternative_at, alternative_of, field_of, body_of}
use Rattle.st_elab_def.specs.Fragments.{has_fragment}
use Rattle.st_elab_def.specs.Phases.{Placed, names_in, on_alias_name, on_bare, on_alternative_at, on_alternatives, on_fields, alternatives_before, on_body_at, on_body, phase}
use Rattle.st_elab_def.specs.Breaches.{Passes, AllPass}
use Rattle.st_elab_def.specs.inner.Places.{name_place, cases_place, fields_place}
use Rattle.st_elab_def.specs.inner.Walk.{standing, AllPassAt, asked_of}
use Rattle.st_elab_def.proofs.Same.{Same, Same-alias, Same-cases, Same-fields, AreAlternatives, plain_names, names-back}
use Rattle.st_elab_def.proofs.Gathered.{parts-append, parts-none}
use Rattle.st_type_table.proofs.InsertionLemmas.{same-equal}
use Rattle.st_elab_def.proofs.PartsAsked.{alternatives-append}
use Rattle.st_elab_def.proofs.AllPass.{AllPass-front, AllPass-back, AllPass-at, AllPassAt-front, AllPassAt-back}
use Rattle.st_elab_def.proofs.Leaves.{AllPassAt-append}

-- what is asked of a body whose alternatives stand behind none
abbrev pub on_own : Span → List ℕ → Body → List Placed
on_own at name (Alias t) = flat_map (on_alias_name name) (names_in t)
on_own at name (Cases before cases after) = on_alternatives name [] cases
on_own at name (Fields fields) = on_fields at [] fields

module _ (D : Decls) where
  same-back : (place : Broken → Span) (ps : List Placed) (qs : List types.Asked) → Same place ps qs → AllPassAt D ps → types.AllHold D.types qs
  same-back place [] [] h k = tt
  same-back place [] (q ∷ qs) h k = absurd h
  same-back place (p ∷ ps) [] h k = absurd h
  same-back place (p ∷ ps) (q ∷ qs) (e, h) (passes, k) =
      (subst (λ (p : Placed). Passes D p.asked) e passes, same-back place ps qs h k)

  -- ---- each notation that passes is an alternative

  bare-named : (target : List ℕ) (so_far : List Alternative) (at : Span) (t : Typ) (y : TypNode-F TypNode Typ) → type_node t ≡ y
      → AllPassAt D (on_bare target so_far at t y) → (a : Alternative) × (bare_alternative y ≡ a ∷ [])
  bare-named target so_far at t (TypNode-F.Name name) is h = (_, refl)
  bare-named target so_far at t TypNode-F.Bool is h = let clash : TypNode-F.Bool ≡ TypNode-F.Name h.0.0 = sym is ∙ h.0.1 in cc
  bare-named target so_far at t TypNode-F.Nat is h = let clash : TypNode-F.Nat ≡ TypNode-F.Name h.0.0 = sym is ∙ h.0.1 in cc
  bare-named target so_far at t TypNode-F.Int is h = let clash : TypNode-F.Int ≡ TypNode-F.Name h.0.0 = sym is ∙ h.0.1 in cc
  bare-named target so_far at t TypNode-F.Text is h = let clash : TypNode-F.Text ≡ TypNode-F.Name h.0.0 = sym is ∙ h.0.1 in cc
  bare-named target so_far at t (TypNode-F.Star u) is h = let clash : TypNode-F.Star u ≡ TypNode-F.Name h.0.0 = sym is ∙ h.0.1 in cc
  bare-named target so_far at t (TypNode-F.Quest u) is h = let clash : TypNode-F.Quest u ≡ TypNode-F.Name h.0.0 = sym is ∙ h.0.1 in cc
  bare-named target so_far at t (TypNode-F.Tuple us) is h = let clash : TypNode-F.Tuple us ≡ TypNode-F.Name h.0.0 = sym is ∙ h.0.1 in cc

  alone-at : (target : List ℕ) (so_far : List Alternative) (n : Notation) (x : NotNode-F NotNode Notation)
      → AllPassAt D (on_alternative_at target so_far n x) → (a : Alternative) × (alternative_at n x ≡ a ∷ [])
  alone-at target so_far n (NotNode-F.Hole t) h = bare-named target so_far (out-Notation n).at t (type_node t) refl h
  alone-at target so_far n (NotNode-F.Atom word) h = (_, refl)
  alone-at target so_far n (NotNode-F.Seq ns) h = (_, refl)
  alone-at target so_far n (NotNode-F.Infix left sign right) h = (_, refl)
  alone-at target so_far n (NotNode-F.Bracket opening inside) h = (_, refl)

  pub all-alone : (target : List ℕ) (before : List Alternative) (ns : List Notation) → AllPassAt D (on_alternatives target before ns) → AreAlternatives ns
  all-alone target before [] h = tt
  all-alone target before (n ∷ ns) h = (
    alone-at target (before ++ alternative_of n) n (not_node n) (AllPassAt-front D (here n) (behind n ns) h),
    all-alone target (before ++ alternative_of n) ns (AllPassAt-back D (here n) (behind n ns) h),
  )
    where
      here : Notation → List Placed
      here n = on_alternative_at target (before ++ alternative_of n) n (not_node n)

      behind : Notation → List Notation → List Placed
      behind n ns = on_alternatives target (before ++ alternative_of n) ns

  -- ---- a body

  alias-holds : (name : List ℕ) (t : Typ) → AllPassAt D (flat_map (on_alias_name name) (names_in t)) → types.AllHold D.types (types.on_body name (body_of (Alias t)))
  alias-holds name t h =
      subst (λ names. types.AllHold D.types (types.on_alias name 0 names)) (sym (names-back t))
      (same-back (λ b. name_place (names_in t) b.name nowhere) (flat_map (on_alias_name name) (names_in t)) (types.on_alias name 0 (plain_names (names_in t))) (Same-alias name nowhere (names_in t) [] (names_in t) refl) h)

  pub body-holds : (at : Span) (name : List ℕ) (b : Body) → AllPassAt D (on_own at name b) → types.AllHold D.types (types.on_body name (body_of b))
  body-holds at name (Alias t) h = alias-holds name t h
  body-holds at name (Cases before cases after) h =
      same-back (λ b. cases_place cases (b.part - 0) b.name b.rule at) (on_alternatives name [] cases) (types.on_alternatives name 0 [] (flat_map alternative_of cases))
      (Same-cases name 0 at cases [] cases [] refl (all-alone name [] cases h)) h
  body-holds at name (Fields fields) h =
      same-back (λ b. fields_place fields b.part b.name b.rule at) (on_fields at [] fields) (types.on_fields 0 [] (map field_of fields)) (Same-fields at fields [] fields [] refl) h

  -- ---- the alternatives of fragments

  -- what a fragment is asked
  own-alternatives : (d : Definition) (name : List ℕ) (node : DefNode) → is_fragment_node name node ≡ true
      → AllPassAt D (on_body_at d node) → AllPassAt D (on_alternatives name (alternatives_before name d.before) (alternatives_of node))
  own-alternatives d name (Syntax other None b) is h = absurd (true≢false (sym is))
  own-alternatives d name (Syntax other (Some piece) (Alias t)) is h = tt
  own-alternatives d name (Syntax other (Some piece) (Cases before cases after)) is h =
      subst (λ q. AllPassAt D (on_alternatives q (alternatives_before q d.before) cases)) (sym (same-equal name other is)) h.1
  own-alternatives d name (Syntax other (Some piece) (Fields fields)) is h = tt
  own-alternatives d name (Var other t) is h = absurd (true≢false (sym is))
  own-alternatives d name (Relation other n) is h = absurd (true≢false (sym is))
  own-alternatives d name (Rule r other e ps) is h = absurd (true≢false (sym is))
  own-alternatives d name (Fun other ts t) is h = absurd (true≢false (sym is))
  own-alternatives d name (Clause other as' e ps) is h = absurd (true≢false (sym is))

  -- ---- one more definition, where it is a fragment and where it is none

  parts-fragment : (name : List ℕ) (before : List Def) (def : Def) → is_fragment name def ≡ true
      → alternatives_before name (before ++ def ∷ []) ≡ alternatives_before name before ++ flat_map alternative_of (alternatives_of def.node)
  parts-fragment name before def is =
      parts-append name before (def ∷ [])
      ∙ ap (λ b. alternatives_before name before ++ flat_map alternative_of (flat_map (λ (def : Def). alternatives_of def.node) (if b then def ∷ [] else []))) is
      ∙ ap (λ ns. alternatives_before name before ++ flat_map alternative_of ns) (append-nil (alternatives_of def.node))

  parts-other : (name : List ℕ) (before : List Def) (def : Def) → is_fragment name def ≡ false
      → alternatives_before name (before ++ def ∷ []) ≡ alternatives_before name before
  parts-other name before def is =
      parts-append name before (def ∷ [])
      ∙ ap (λ as'. alternatives_before name before ++ as') (parts-none name (def ∷ []) (ap (λ b. b || false) is))
      ∙ append-nil (alternatives_before name before)

  -- the alternatives of the fragments of a syntax from here on, behind those before them
  pub fragments-pass : (name : List ℕ) (before ds : List Def) → AllPass D (phase on_body (definitions_from before ds))
      → AllPassAt D (on_alternatives name (alternatives_before name before) (alternatives name ds))
  fragments-pass name before [] h = tt
  fragments-pass name before (def ∷ ds) h =
      by (is_fragment name def) refl
      (AllPass-at D here (on_body here) (AllPass-front D (asked_of on_body here) (phase on_body (definitions_from (before ++ def ∷ []) ds)) h))
      (fragments-pass name (before ++ def ∷ []) ds (AllPass-back D (asked_of on_body here) (phase on_body (definitions_from (before ++ def ∷ []) ds)) h))
    where
      here : Definition
      here = standing before def ds

      by : (b : Bool) → is_fragment name def ≡ b → AllPassAt D (on_body here)
          → AllPassAt D (on_alternatives name (alternatives_before name (before ++ def ∷ [])) (alternatives name ds))
          → AllPassAt D (on_alternatives name (alternatives_before name before) (flat_map (λ (def : Def). alternatives_of def.node) (if b then def ∷ filter (is_fragment name) ds else filter (is_fragment name) ds)))
      by false is own rest = subst (λ as'. AllPassAt D (on_alternatives name as' (alternatives name ds))) (parts-other name before def is) rest
      by true is own rest =
          subst (AllPassAt D) (sym (alternatives-append D name (alternatives_before name before) (alternatives_of def.node) (alternatives name ds)))
          (AllPassAt-append D (on_alternatives name (alternatives_before name before) (alternatives_of def.node)) _
          (own-alternatives here name def.node is own)
          (subst (λ as'. AllPassAt D (on_alternatives name as' (alternatives name ds))) (parts-fragment name before def is) rest))

  -- ---- the body of what stands for a syntax

  -- one that is no fragment, where no fragment of its name stands before it
  pub whole-asked : (d : Definition) (name : List ℕ) (b : Body) → has_fragment name d.before ≡ false
      → AllPassAt D (on_body_at d (Syntax name None b)) → AllPassAt D (on_own d.def.at name b)
  whole-asked d name (Alias t) none h = h.1
  whole-asked d name (Cases before cases after) none h =
      subst (λ as'. AllPassAt D (on_alternatives name as' cases)) (parts-none name d.before none) h.1
  whole-asked d name (Fields fields) none h = h.1

  -- the first fragment, with the alternatives of those behind it
  pub joined-asked : (d : Definition) (name piece : List ℕ) (b : Body) → has_fragment name d.before ≡ false
      → AllPassAt D (on_body_at d (Syntax name (Some piece) b))
      → AllPassAt D (on_alternatives name (alternatives_before name d.before) (alternatives_in b ++ alternatives name d.behind))
      → AllPassAt D (on_own d.def.at name (joined b (alternatives name d.behind)))
  joined-asked d name piece (Alias t) none h all = h.1
  joined-asked d name piece (Cases before cases after) none h all =
      subst (λ as'. AllPassAt D (on_alternatives name as' (cases ++ alternatives name d.behind))) (parts-none name d.before none) all
  joined-asked d name piece (Fields fields) none h all = h.1
