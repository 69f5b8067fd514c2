-- The first breach of a source begins where its definitions and what is in them do.
use Rattle.std.proofs.Common.{◌≡◌, refl, sym, ◌∙◌, ap, subst, ℕ, List, [], ◌∷◌, ◌++◌, map, flat_map, inl, inr}
use Rattle.std.specs.List.{AllByRecursion}
use Rattle.st_num.specs.declared.span.Span.{Span}
use Rattle.st_el.specs.declared.ty.Typ.{Typ}
use Rattle.st_el.specs.declared.ty.TypNode.{TypNode}
use Rattle.st_el.specs.declared.ty.TypNode.TheOpen.{TypNode-F}
use Rattle.st_el.specs.declared.notation.Notation.{Notation, out-Notation, fold_out-Notation}
use Rattle.st_el.specs.declared.notation.NotNode.{NotNode, map-NotNode, fold-NotNode, fold_out-NotNode}
use Rattle.st_el.specs.declared.notation.NotNode.TheOpen.{NotNode-F}
use Rattle.st_el.specs.declared.definition.Body.{Body}
use Rattle.st_el.specs.declared.definition.Body.TheVariants.{Alias, Cases, Fields}
use Rattle.st_el.specs.declared.definition.Def.{Def}
use Rattle.st_el.specs.declared.definition.DefNode.{DefNode}
use Rattle.st_el.specs.declared.definition.DefNode.TheVariants.{Syntax, Var, Relation, Rule, Fun, Clause}
use Rattle.st_il.specs.declared.ty.Ty.{Ty}
use Rattle.st_il.specs.declared.definition.Alternative.{Alternative}
use Rattle.st_parse.proofs.Standing.{both}
use Rattle.st_elab_table.specs.declared.decls.Decls.{Decls}
use Rattle.st_elab_table.specs.Questions.{Breach as PartBreach}
use Rattle.st_elab_sig.specs.Signatures.{holes_at, holes_of}
use Rattle.st_elab_def.specs.declared.breach.Breach.{Breach}
use Rattle.st_elab_def.specs.declared.names.Named.{Named}
use Rattle.st_elab_def.specs.Breaches.{Fails, FirstBreach, IsBreach, part_of}
use Rattle.st_elab_def.specs.DeclsOf.{decls_of, type_node, not_node, alternative_of, field_of}
use Rattle.st_elab_def.specs.Definitions.{Definition, definitions_from, definitions}
use Rattle.st_elab_def.specs.Phases.{Asked, condition, rule, clause, Placed, names_in, all_declared, on_alias_name, on_bare, on_alternative_at, on_alternative, on_alternatives, on_field, on_fields, alternatives_before, on_parts, on_body_at, on_body, on_signature_at, on_signature, on_declaration, on_content_at, on_content, Question, of_definition, phase, questions}
use Rattle.st_elab_law.proofs.ExpStands.{ExpStands, ExpsStand}
use Rattle.st_source.proofs.breach_places.Definitions.{TypStands, TypsStand, NotationStands, PremsStand, BodyStands, DefNodeStands, DefStands}
use Rattle.st_source.proofs.breach_places.Breaches.{RuleBreach-stands, ClauseBreach-stands}

-- the types of a notation that is one type
holes-Hole : (n : Notation) (t : Typ) → not_node n ≡ NotNode-F.Hole t → holes_of n ≡ t ∷ []
holes-Hole n t is =
    fold_out-Notation (List Typ) (List Typ) holes_at (λ notation. notation.node) n
    ∙ fold_out-NotNode (List Typ) (List Typ) holes_at (λ notation. notation.node) (out-Notation n).node
    ∙ ap (λ (y : NotNode-F NotNode Notation). holes_at (map-NotNode NotNode Notation (List Typ) (List Typ) (fold-NotNode (List Typ) (List Typ) holes_at (λ notation. notation.node)) holes_of y)) is

module _ (P : Span → Type 0) where
  -- what a rule or clause is asked stands at such places; of a condition nothing is said
  abbrev AskedStands : Asked → Type 0
  AskedStands (condition c) = Unit {0}
  AskedStands (rule r name e ps) = ExpStands P e × PremsStand P ps
  AskedStands (clause name c) = ExpsStand P c.args × ExpStands P c.result × PremsStand P c.premises

  -- what is asked there stands at such places, and so does the place
  abbrev PlacedStands : Placed → Type 0
  PlacedStands p = P p.at × AskedStands p.asked

  abbrev AllPlaced : List Placed → Type 0
  AllPlaced = AllByRecursion PlacedStands

  append : (ps qs : List Placed) → AllPlaced ps → AllPlaced qs → AllPlaced (ps ++ qs)
  append ps qs h k = both PlacedStands ps qs h k

  abbrev NamesStand : List Named → Type 0
  NamesStand = AllByRecursion (λ (n : Named). P n.at)

  -- ---- names

  declared_stand : (ns : List Named) → NamesStand ns → AllPlaced (all_declared ns)
  declared_stand [] h = tt
  declared_stand (n ∷ ns) h = ((h.0, tt), declared_stand ns h.1)

  names_stand : (ts : List Typ) → TypsStand P ts → NamesStand (flat_map names_in ts)
  names_stand [] h = tt
  names_stand (t ∷ ts) h = both (λ (n : Named). P n.at) (names_in t) (flat_map names_in ts) h.0.names (names_stand ts h.1)

  -- ---- bodies

  alias_stands : (target : List ℕ) (ns : List Named) → NamesStand ns → AllPlaced (flat_map (on_alias_name target) ns)
  alias_stands target [] h = tt
  alias_stands target (n ∷ ns) h = ((h.0, tt), ((h.0, tt), alias_stands target ns h.1))

  bare_stands : (target : List ℕ) (so_far : List Alternative) (at : Span) (t : Typ) (y : TypNode-F TypNode Typ) → P at → TypStands P t → AllPlaced (on_bare target so_far at t y)
  bare_stands target so_far at t (TypNode-F.Name name) p h = ((h.begins, tt), ((p, tt), ((p, tt), ((p, tt), tt))))
  bare_stands target so_far at t y p h = ((p, tt), tt)

  alternative_stands : (target : List ℕ) (so_far : List Alternative) (n : Notation) (y : NotNode-F NotNode Notation) → not_node n ≡ y → NotationStands P n → AllPlaced (on_alternative_at target so_far n y)
  alternative_stands target so_far n (NotNode-F.Hole t) is h = bare_stands target so_far (out-Notation n).at t (type_node t) h.begins (subst (TypsStand P) (holes-Hole n t is) h.types).0
  alternative_stands target so_far n y is h = ((h.begins, tt), declared_stand (flat_map names_in (holes_of n)) (names_stand (holes_of n) h.types))

  alternatives_stand : (target : List ℕ) (before : List Alternative) (ns : List Notation) → AllByRecursion (NotationStands P) ns → AllPlaced (on_alternatives target before ns)
  alternatives_stand target before [] h = tt
  alternatives_stand target before (n ∷ ns) h =
      append (on_alternative target (before ++ alternative_of n) n) (on_alternatives target (before ++ alternative_of n) ns)
      (alternative_stands target (before ++ alternative_of n) n (not_node n) refl h.0) (alternatives_stand target (before ++ alternative_of n) ns h.1)

  fields_stand : (at : Span) (before : List (List ℕ × Ty)) (fs : List (List ℕ × Typ)) → P at → AllByRecursion (λ (f : List ℕ × Typ). TypStands P f.1) fs → AllPlaced (on_fields at before fs)
  fields_stand at before [] p h = tt
  fields_stand at before (f ∷ fs) p h =
      append (on_field at before f) (on_fields at (before ++ field_of f ∷ []) fs) ((p, tt), declared_stand (names_in f.1) h.0.names) (fields_stand at (before ++ field_of f ∷ []) fs p h.1)

  parts_stand : (d : Definition) (name : List ℕ) (b : Body) → P d.def.at → BodyStands P b → AllPlaced (on_parts d name b)
  parts_stand d name (Alias t) p h = alias_stands name (names_in t) h.names
  parts_stand d name (Cases dots ns more) p h = alternatives_stand name (alternatives_before name d.before) ns h
  parts_stand d name (Fields fs) p h = fields_stand d.def.at [] fs p h

  body_stands : (d : Definition) (y : DefNode) → P d.def.at → DefNodeStands P y → AllPlaced (on_body_at d y)
  body_stands d (Syntax name fragment b) p h = ((p, tt), parts_stand d name b p h)
  body_stands d (Var name t) p h = tt
  body_stands d (Relation name n) p h = tt
  body_stands d (Rule r name e ps) p h = tt
  body_stands d (Fun name ts t) p h = tt
  body_stands d (Clause name es e ps) p h = tt

  -- ---- signatures

  signature_stands : (d : Definition) (y : DefNode) → P d.def.at → DefNodeStands P y → AllPlaced (on_signature_at d y)
  signature_stands d (Syntax name fragment b) p h = tt
  signature_stands d (Var name t) p h = declared_stand (names_in t) h.names
  signature_stands d (Relation name n) p h = ((p, tt), declared_stand (flat_map names_in (holes_of n)) (names_stand (holes_of n) h.types))
  signature_stands d (Rule r name e ps) p h = tt
  signature_stands d (Fun name ts t) p h = declared_stand (flat_map names_in (ts ++ t ∷ [])) (names_stand (ts ++ t ∷ []) (both (TypStands P) ts (t ∷ []) h.0 (h.1, tt)))
  signature_stands d (Clause name es e ps) p h = tt

  -- ---- contents

  content_stands : (d : Definition) (y : DefNode) → P d.def.at → DefNodeStands P y → AllPlaced (on_content_at d y)
  content_stands d (Syntax name fragment b) p h = tt
  content_stands d (Var name t) p h = tt
  content_stands d (Relation name n) p h = tt
  content_stands d (Rule r name e ps) p h = ((p, tt), ((p, tt), ((p, h), tt)))
  content_stands d (Fun name ts t) p h = tt
  content_stands d (Clause name es e ps) p h = ((p, tt), ((p, h), tt))

  -- ---- questions

  abbrev QuestionStands : Question → Type 0
  QuestionStands q = PlacedStands q.placed

  abbrev AllStand : List Question → Type 0
  AllStand = AllByRecursion QuestionStands

  of_stands : (d : Definition) (ps : List Placed) → AllPlaced ps → AllStand (map (of_definition d) ps)
  of_stands d [] h = tt
  of_stands d (p ∷ ps) h = (h.0, of_stands d ps h.1)

  abbrev DefinitionsStand : List Definition → Type 0
  DefinitionsStand = AllByRecursion (λ (d : Definition). DefStands P d.def)

  phase_stands : (on : Definition → List Placed) (ds : List Definition) → ((d : Definition) → DefStands P d.def → AllPlaced (on d)) → DefinitionsStand ds → AllStand (phase on ds)
  phase_stands on [] k h = tt
  phase_stands on (d ∷ ds) k h = both QuestionStands (map (of_definition d) (on d)) (phase on ds) (of_stands d (on d) (k d h.0)) (phase_stands on ds k h.1)

  definitions_stand : (before defs : List Def) → AllByRecursion (DefStands P) defs → DefinitionsStand (definitions_from before defs)
  definitions_stand before [] h = tt
  definitions_stand before (d ∷ ds) h = (h.0, definitions_stand (before ++ d ∷ []) ds h.1)

  questions_stand : (defs : List Def) → AllByRecursion (DefStands P) defs → AllStand (questions defs)
  questions_stand defs h =
      let all = definitions_stand [] defs h in
      let ds = definitions defs in
      let first = phase_stands on_declaration ds (λ d k. ((k.0, tt), tt)) all in
      let second = phase_stands on_body ds (λ d k. body_stands d d.def.node k.0 k.1) all in
      let third = phase_stands on_signature ds (λ d k. signature_stands d d.def.node k.0 k.1) all in
      let fourth = phase_stands on_content ds (λ d k. content_stands d d.def.node k.0 k.1) all in
      both QuestionStands (phase on_declaration ds) (phase on_body ds ++ (phase on_signature ds ++ (phase on_content ds ++ []))) first
      (both QuestionStands (phase on_body ds) (phase on_signature ds ++ (phase on_content ds ++ [])) second
      (both QuestionStands (phase on_signature ds) (phase on_content ds ++ []) third (both QuestionStands (phase on_content ds) [] fourth tt)))

  -- ---- breaches

  fails_stands : (D : Decls) (at : Span) (a : Asked) (b : PartBreach) → P at → AskedStands a → Fails D at a b → P b.at
  fails_stands D at (condition c) b p h (never, is) = subst (λ (x : PartBreach). P x.at) (sym is) p
  fails_stands D at (rule r name e ps) b p h k = RuleBreach-stands P D k.relation e ps b k.broken h.0 h.1
  fails_stands D at (clause name c) b p h k = ClauseBreach-stands P D k.fun at c b k.broken p h.0 h.1 h.2

  first_stands : (D : Decls) (qs : List Question) (b : Breach) → AllStand qs → FirstBreach D qs b → P b.at
  first_stands D [] b h k = absurd k
  first_stands D (q ∷ qs) b h (inl k) = fails_stands D q.placed.at q.placed.asked (part_of b) h.0.0 h.0.1 k.1
  first_stands D (q ∷ qs) b h (inr later) = first_stands D qs b h.1 later.1

  -- the first breach of a source whose definitions stand at such places
  pub IsBreach-stands : (defs : List Def) (b : Breach) → AllByRecursion (DefStands P) defs → IsBreach defs b → P b.at
  IsBreach-stands defs b h k = first_stands (decls_of defs) (questions defs) b (questions_stand defs h) k
