-- The names in the types of all declarations of a source are declared, and its tags are templates.
use Rattle.std.proofs.Common.{◌≡◌, refl, sym, subst, ℕ, suc, List, [], ◌∷◌, ◌++◌, map, flat_map, Bool, true, false, Some, None}
use Rattle.std.specs.Prelude.{if◌then◌else◌, slice_get}
use Rattle.std.specs.List.{AllByRecursion}
use Rattle.std.proofs.lemmas.Option.{slice_get_within}
use Rattle.st_num.specs.Names.{same_name}
use Rattle.st_el.specs.declared.definition.Def.{Def}
use Rattle.st_el.specs.declared.definition.DefNode.{DefNode}
use Rattle.st_el.specs.declared.definition.DefNode.TheVariants.{Syntax, Var, Relation, Rule, Fun, Clause}
use Rattle.st_el.specs.declared.definition.Hint.{Hint}
use Rattle.st_el.specs.declared.ty.Typ.{Typ}
use Rattle.st_il.specs.declared.definition.Alternative.{Alternative}
use Rattle.st_il.specs.declared.definition.Alternative.TheVariants as alternative
use Rattle.st_il.specs.declared.definition.FunDef.{FunDef}
use Rattle.st_il.specs.declared.definition.IlDef.{IlDef}
use Rattle.st_il.specs.declared.definition.RelationDef.{RelationDef}
use Rattle.st_il.specs.declared.definition.SyntaxBody.{SyntaxBody}
use Rattle.st_il.specs.declared.definition.SyntaxBody.TheVariants as body
use Rattle.st_il.specs.declared.definition.SyntaxDef.{SyntaxDef}
use Rattle.st_il.specs.declared.ty.Ty.{Ty}
use Rattle.st_type_table.specs.Breach as types
use Rattle.st_type_table.specs.Leads.{joined as joined_names, names_in as type_names}
use Rattle.st_type_table.specs.Meaning.{body_of as body_named}
use Rattle.st_elab_sig.specs.Types.{ty_of}
use Rattle.st_elab_sig.specs.Signatures.{holes_of}
use Rattle.st_elab_law.specs.Agreement.{var_in, fun_in, relation_in}
use Rattle.st_elab_table.specs.declared.decls.Decls.{Decls}
use Rattle.st_elab_def.specs.declared.names.Named.{Named}
use Rattle.st_elab_def.specs.Breaches.{AllPass, IsSound}
use Rattle.st_elab_def.specs.Definitions.{Definition, definitions_from}
use Rattle.st_elab_def.specs.DeclsOf.{declared_at, declared_by, decls_of}
use Rattle.st_elab_def.specs.Fragments.{joined}
use Rattle.st_elab_def.specs.Phases.{names_in, all_declared, on_signature_at, on_signature, phase}
use Rattle.st_elab_def.specs.inner.Walk.{standing, AllPassAt, asked_of}
use Rattle.st_elab_def.proofs.AllPass.{AllPass-front, AllPass-back, AllPass-at}
use Rattle.st_elab_def.proofs.Same.{plain_names, names-back, names-all}
use Rattle.st_elab_typed.proofs.Members.{Each-left, Each-right}
use Rattle.st_elab_typed.specs.Citations.{IsSyntax, IsKnown, AlternativeKnown, BodyKnown, AreKnown}
use Rattle.st_elab_def.proofs.Joined.{joined_each}
use Rattle.st_elab_def.proofs.SyntaxesDeclared.{signatures_pass, types_sound}

module _ (D : Decls) where
  -- ---- names that pass

  passed_names : (ns : List Named) → AllPassAt D (all_declared ns) → AllByRecursion (IsSyntax D) (plain_names ns)
  passed_names [] h = tt
  passed_names (n ∷ ns) h = (h.0, passed_names ns h.1)

  passed_type : (t : Typ) → AllPassAt D (all_declared (names_in t)) → IsKnown D (ty_of t)
  passed_type t h = subst (AllByRecursion (IsSyntax D)) (sym (names-back t)) (passed_names (names_in t) h)

  split_types : (ts : List Ty) → AllByRecursion (IsSyntax D) (joined_names (map type_names ts)) → AllByRecursion (IsKnown D) ts
  split_types [] h = tt
  split_types (t ∷ ts) h = (
    Each-left (IsSyntax D) (type_names t) (joined_names (map type_names ts)) h,
    split_types ts (Each-right (IsSyntax D) (type_names t) (joined_names (map type_names ts)) h),
  )

  passed_types : (ts : List Typ) → AllPassAt D (all_declared (flat_map names_in ts)) → AllByRecursion (IsKnown D) (map ty_of ts)
  passed_types ts h = split_types (map ty_of ts) (subst (AllByRecursion (IsSyntax D)) (sym (names-all ts)) (passed_names (flat_map names_in ts) h))

  -- ---- signatures

  -- the names in a signature are declared
  abbrev pub SignatureKnown : DefNode → Type 0
  SignatureKnown (Var name t) = IsKnown D (ty_of t)
  SignatureKnown (Relation name n) = AllByRecursion (IsKnown D) (map ty_of (holes_of n))
  SignatureKnown (Fun name params result) = AllByRecursion (IsKnown D) (map ty_of (params ++ result ∷ []))
  SignatureKnown node = Unit {0}

  signature_known : (d : Definition) (node : DefNode) → AllPassAt D (on_signature_at d node) → SignatureKnown node
  signature_known d (Syntax name fragment b) h = tt
  signature_known d (Var name t) h = passed_type t h
  signature_known d (Relation name n) h = passed_types (holes_of n) h.1
  signature_known d (Rule r name e ps) h = tt
  signature_known d (Fun name params result) h = passed_types (params ++ result ∷ []) h
  signature_known d (Clause name args e ps) h = tt

  pub all_signatures : (before ds : List Def) → AllPass D (phase on_signature (definitions_from before ds)) → AllByRecursion (λ (def : Def). SignatureKnown def.node) ds
  all_signatures before [] h = tt
  all_signatures before (def ∷ ds) h =
      let here : Definition = standing before def ds in (
        signature_known here def.node (AllPass-at D here (on_signature here) (AllPass-front D (asked_of on_signature here) (phase on_signature (definitions_from (before ++ def ∷ []) ds)) h)),
        all_signatures (before ++ def ∷ []) ds (AllPass-back D (asked_of on_signature here) (phase on_signature (definitions_from (before ++ def ∷ []) ds)) h),
      )

  -- ---- what is declared

  pub map_split : (ts : List Typ) (t : Typ) → AllByRecursion (IsKnown D) (map ty_of (ts ++ t ∷ [])) → AllByRecursion (IsKnown D) (map ty_of ts) × IsKnown D (ty_of t)
  map_split [] t h = (tt, h.0)
  map_split (u ∷ us) t h = let r = map_split us t h.1 in ((h.0, r.0), r.1)

  -- the names in the signatures that are declared are declared
  record SignaturesKnown (xs : List IlDef) : Type 0 where
    vars : AllByRecursion (λ (v : List ℕ × Ty). IsKnown D v.1) (flat_map var_in xs)
    params : AllByRecursion (λ (f : FunDef). AllByRecursion (IsKnown D) f.params) (flat_map fun_in xs)
    results : AllByRecursion (λ (f : FunDef). IsKnown D f.result) (flat_map fun_in xs)
    holes : AllByRecursion (λ (r : RelationDef). AllByRecursion (IsKnown D) r.holes) (flat_map relation_in xs)

  next_known : (hints : List Hint) (node : DefNode) (rest : List IlDef) → SignatureKnown node → SignaturesKnown rest → SignaturesKnown (declared_at hints node ++ rest)
  next_known hints (Syntax name fragment b) rest h k = record { vars = k.vars; params = k.params; results = k.results; holes = k.holes }
  next_known hints (Var name t) rest h k = record { vars = (h, k.vars); params = k.params; results = k.results; holes = k.holes }
  next_known hints (Relation name n) rest h k = record { vars = k.vars; params = k.params; results = k.results; holes = (h, k.holes) }
  next_known hints (Rule r name e ps) rest h k = k
  next_known hints (Fun name params result) rest h k =
      let s = map_split params result h in record { vars = k.vars; params = (s.0, k.params); results = (s.1, k.results); holes = k.holes }
  next_known hints (Clause name args e ps) rest h k = k

  all_known : (ds : List Def) → AllByRecursion (λ (def : Def). SignatureKnown def.node) ds → SignaturesKnown (flat_map declared_by ds)
  all_known [] h = record { vars = tt; params = tt; results = tt; holes = tt }
  all_known (def ∷ ds) h = next_known def.hints def.node (flat_map declared_by ds) h.0 (all_known ds h.1)

  -- ---- the bodies of syntaxes

  declared_all : (part number : ℕ) (names : List (List ℕ)) → types.AllHold D.types (types.all_declared part number names) → AllByRecursion (IsSyntax D) names
  declared_all part number [] h = tt
  declared_all part number (name ∷ names) h = (h.0, declared_all part (suc number) names h.1)

  alias_names : (target : List ℕ) (number : ℕ) (names : List (List ℕ)) → types.AllHold D.types (types.on_alias target number names) → AllByRecursion (IsSyntax D) names
  alias_names target number [] h = tt
  alias_names target number (name ∷ names) h = (h.0, alias_names target (suc number) names h.1.1)

  hold_left : (ps qs : List types.Asked) → types.AllHold D.types (ps ++ qs) → types.AllHold D.types ps
  hold_left [] qs h = tt
  hold_left (p ∷ ps) qs h = (h.0, hold_left ps qs h.1)

  hold_right : (ps qs : List types.Asked) → types.AllHold D.types (ps ++ qs) → types.AllHold D.types qs
  hold_right [] qs h = h
  hold_right (p ∷ ps) qs h = hold_right ps qs h.1

  alternative_known : (target : List ℕ) (part : ℕ) (so_far : List Alternative) (a : Alternative) → types.AllHold D.types (types.on_alternative target part so_far a) → AlternativeKnown D a
  alternative_known target part so_far (alternative.Case tag operands) h = split_types operands (declared_all part 0 (joined_names (map type_names operands)) h.1)
  alternative_known target part so_far (alternative.Incl name) h = h.0

  alternatives_known : (target : List ℕ) (part : ℕ) (before as' : List Alternative) → types.AllHold D.types (types.on_alternatives target part before as') → AllByRecursion (AlternativeKnown D) as'
  alternatives_known target part before [] h = tt
  alternatives_known target part before (a ∷ as') h =
      let ps = types.on_alternative target part (before ++ a ∷ []) a in
      let qs = types.on_alternatives target (suc part) (before ++ a ∷ []) as' in
      (alternative_known target part (before ++ a ∷ []) a (hold_left ps qs h), alternatives_known target (suc part) (before ++ a ∷ []) as' (hold_right ps qs h))

  fields_known : (part : ℕ) (before fs : List (List ℕ × Ty)) → types.AllHold D.types (types.on_fields part before fs) → AllByRecursion (λ (f : List ℕ × Ty). IsKnown D f.1) fs
  fields_known part before [] h = tt
  fields_known part before (f ∷ fs) h =
      let ps = types.on_field part before f in
      let qs = types.on_fields (suc part) (before ++ f ∷ []) fs in
      (declared_all part 0 (type_names f.1) (hold_left ps qs h).1, fields_known (suc part) (before ++ f ∷ []) fs (hold_right ps qs h))

  pub body_known : (name : List ℕ) (b : SyntaxBody) → types.AllHold D.types (types.on_body name b) → BodyKnown D b
  body_known name (body.Alias t) h = alias_names name 0 (type_names t) h
  body_known name (body.Variant as') h = alternatives_known name 0 [] as' h
  body_known name (body.Fields fs) h = fields_known 0 [] fs h

  -- the place of the first syntax of a name
  found_at : (defs : List SyntaxDef) (name : List ℕ) (b : SyntaxBody) → body_named defs name ≡ Some b → (i : ℕ) × (s : SyntaxDef) × (slice_get defs i ≡ Some s) × (s.body ≡ b)
  found_at [] name b h = let bad : None ≡ Some b = h in absurd (cc)
  found_at (s ∷ defs) name b h = by (same_name name s.name) h (found_at defs name b)
    where
      by : (c : Bool) → (if c then Some s.body else body_named defs name) ≡ Some b
          → (body_named defs name ≡ Some b → (i : ℕ) × (u : SyntaxDef) × (slice_get defs i ≡ Some u) × (u.body ≡ b))
          → (i : ℕ) × (u : SyntaxDef) × (slice_get (s ∷ defs) i ≡ Some u) × (u.body ≡ b)
      by true k rest = (0, s, refl, cc)
      by false k rest = let r = rest k in (suc r.0, r.1, r.2, r.3)

  bodies_known : types.IsSound D.types → (name : List ℕ) (b : SyntaxBody) → body_named D.types name ≡ Some b → BodyKnown D b
  bodies_known sound name b h =
      let f = found_at D.types name b h in
      subst (BodyKnown D) f.3 (body_known f.1.name f.1.body (sound f.0 (slice_get_within D.types f.0 f.1 f.2) f.1 f.2).1)

-- the names in the types of all declarations of a source are declared
pub are_known : (defs : List Def) → IsSound defs → AreKnown (decls_of defs)
are_known defs sound =
    let D : Decls = decls_of defs in
    let all = all_known D (joined defs) (joined_each (λ hints node. SignatureKnown D node) (λ hints name piece b behind h k. tt) [] defs (all_signatures D [] defs (signatures_pass defs sound))) in
    record {
      bodies = bodies_known D (types_sound defs sound);
      vars = all.vars;
      params = all.params;
      results = all.results;
      holes = all.holes;
    }
