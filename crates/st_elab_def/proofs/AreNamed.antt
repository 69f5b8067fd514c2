-- T1 holds of each definition of an elaborated source.
use Rattle.std.proofs.Common.{◌≡◌, ◌⊎◌, inl, inr, refl, sym, ap, ap₂, ◌∙◌, subst, ℕ, zero, suc, List, [], ◌∷◌, ◌++◌, map, flat_map, length, take, drop, append_assoc, append-nil, Bool, true, false, ◌&&◌, ◌||◌, Some, None}
use Rattle.std.specs.Prelude.{if◌then◌else◌, slice_get}
use Rattle.std.specs.List.{AllByRecursion, list_any}
use Rattle.std.proofs.lemmas.List.{length-map, map-append}
use Rattle.std.proofs.lemmas.List.Elements.{All-weaker}
use Rattle.std.proofs.lemmas.Option.{slice_get_within}
use Rattle.std.proofs.lemmas.Slice.Eq.{bytes_eq-Decides}
use Rattle.st_num.specs.Names.{same_name}
use Rattle.st_num.specs.declared.token.Token.{Token}
use Rattle.st_el.specs.declared.definition.Def.{Def}
use Rattle.st_el.specs.declared.definition.DefNode.{DefNode}
use Rattle.st_el.specs.declared.definition.DefNode.TheVariants.{Syntax, Var, Relation, Rule, Fun, Clause}
use Rattle.st_el.specs.declared.definition.Hint.{Hint}
use Rattle.st_il.specs.declared.definition.FunDef.{FunDef}
use Rattle.st_il.specs.declared.definition.IlDef.{IlDef}
use Rattle.st_il.specs.declared.definition.IlDef.TheVariants as il
use Rattle.st_il.specs.declared.definition.RelationDef.{RelationDef}
use Rattle.st_il.specs.declared.definition.RuleDef.{RuleDef}
use Rattle.st_il.specs.declared.definition.SyntaxBody.{SyntaxBody}
use Rattle.st_il.specs.declared.definition.SyntaxDef.{SyntaxDef}
use Rattle.st_type_table.specs.Meaning.{body_of as body_named}
use Rattle.st_il.specs.Names.{has_name}
use Rattle.st_il.specs.Definitions.{syntaxes, relations_in, rules_in, rules_from, funs_in}
use Rattle.st_ilcheck.specs.Naming.{is_once}
use Rattle.st_ilcheck.specs.Declarations.{IsMode, IsOnceIn, IsDeclared, cited, syntax_names, relation_names, function_names, variable_names, rule_names}
use Rattle.st_ilcheck.proofs.SyntaxLemmas.{unnamed, named_before}
use Rattle.st_elab_sig.specs.Modes.{none, one, IsMode as IsSignatureMode}
use Rattle.st_elab_sig.specs.Types.{ty_of}
use Rattle.st_elab_sig.specs.Signatures.{holes_of}
use Rattle.st_elab_law.specs.Agreement.{relation_in, fun_in}
use Rattle.st_elab_table.specs.declared.decls.Decls.{Decls}
use Rattle.st_elab_table.specs.Inferred.{fun_named}
use Rattle.st_elab_table.specs.Judgements.{relation_named}
use Rattle.st_elab_def.specs.declared.elaborated.Elaborated.{Elaborated}
use Rattle.st_elab_def.specs.Answers.{HasTemplates}
use Rattle.st_elab_def.specs.Breaches.{AllPass}
use Rattle.st_elab_def.specs.Conditions.{is_rule}
use Rattle.st_elab_def.specs.Declarations.{declare_same}
use Rattle.st_elab_def.specs.Definitions.{Definition, definitions_from}
use Rattle.st_elab_def.specs.DeclsOf.{is_input_kind, mode_by, mode_of, relation_of, declared_at, decls_of}
use Rattle.st_elab_def.specs.Elaboration.{declaration, rule, clause, ElabDefs, IsElaborated}
use Rattle.st_elab_def.specs.Fragments.{joined}
use Rattle.st_elab_def.specs.Phases.{on_declaration, on_signature, on_signature_at, on_content, on_content_at, phase}
use Rattle.st_elab_def.specs.inner.Walk.{standing, AllPassAt, asked_of}
use Rattle.st_elab_def.proofs.AllPass.{AllPass-front, AllPass-back, AllPass-at}
use Rattle.st_elab_def.proofs.Declares.{declares_own}
use Rattle.st_elab_typed.specs.Citations.{IsSyntax, IsRelation, IsFunction, CitesKnown}
use Rattle.st_elab_def.specs.Keeping.{AllAreNamed}
use Rattle.st_elab_def.proofs.CitedDefs.{all_cite_known}
use Rattle.st_elab_def.proofs.EachDefinition.{first_is, none_is}
use Rattle.st_elab_def.proofs.Joined.{joined_each}
use Rattle.st_elab_def.proofs.NamesOnce.{times_once, front_new, AreFresh, fresh_one, kind_names, HasKind, nameless, named, kind_fresh, kind_joined, new_before}
use Rattle.st_elab_def.proofs.SyntaxesDeclared.{declarations_pass, signatures_pass, contents_pass, types_sound, syntaxes_declared, same_syntaxes}

or_false : (b : Bool) → (b || false) ≡ b
or_false true = refl
or_false false = refl

-- ---- the names that a definition declares, kind by kind

abbrev relation_at : DefNode → List (List ℕ)
relation_at (Relation name n) = name ∷ []
relation_at node = []

abbrev fun_at : DefNode → List (List ℕ)
fun_at (Fun name ts t) = name ∷ []
fun_at node = []

abbrev var_at : DefNode → List (List ℕ)
var_at (Var name t) = name ∷ []
var_at node = []

-- the name of a rule of this relation
abbrev rule_at : List ℕ → DefNode → List (List ℕ)
rule_at r (Rule other name e ps) = if same_name r other then name ∷ [] else []
rule_at r node = []

relation_same : (name : List ℕ) (n : _) (o : DefNode) → has_name (relation_at o) name ≡ declare_same (Relation name n) o
relation_same name n (Relation other m) = or_false (same_name name other)
relation_same name n (Syntax other fragment b) = refl
relation_same name n (Var other t) = refl
relation_same name n (Rule r other e ps) = refl
relation_same name n (Fun other ts t) = refl
relation_same name n (Clause other as' e ps) = refl

fun_same : (name : List ℕ) (ts : _) (t : _) (o : DefNode) → has_name (fun_at o) name ≡ declare_same (Fun name ts t) o
fun_same name ts t (Fun other us u) = or_false (same_name name other)
fun_same name ts t (Syntax other fragment b) = refl
fun_same name ts t (Var other u) = refl
fun_same name ts t (Relation other m) = refl
fun_same name ts t (Rule r other e ps) = refl
fun_same name ts t (Clause other as' e ps) = refl

var_same : (name : List ℕ) (t : _) (o : DefNode) → has_name (var_at o) name ≡ declare_same (Var name t) o
var_same name t (Var other u) = or_false (same_name name other)
var_same name t (Syntax other fragment b) = refl
var_same name t (Relation other m) = refl
var_same name t (Rule r other e ps) = refl
var_same name t (Fun other us u) = refl
var_same name t (Clause other as' e ps) = refl

rule_same : (r name : List ℕ) (o : DefNode) → has_name (rule_at r o) name ≡ is_rule r name o
rule_same r name (Rule other_relation other e ps) = by (same_name r other_relation)
  where
    by : (b : Bool) → has_name (if b then other ∷ [] else []) name ≡ (b && same_name name other)
    by true = or_false (same_name name other)
    by false = refl
rule_same r name (Syntax other fragment b) = refl
rule_same r name (Var other t) = refl
rule_same r name (Relation other m) = refl
rule_same r name (Fun other us u) = refl
rule_same r name (Clause other as' e ps) = refl

-- ---- names stand once in a source

module _ (D : Decls) where
  relation_kind : (d : Definition) → HasKind relation_at D on_declaration d
  relation_kind d = by d.def.node refl
    where
      by : (node : DefNode) → d.def.node ≡ node → HasKind relation_at D on_declaration d
      by (Relation name n) is = named name (ap relation_at is) (λ h. new_before relation_at (declare_same (Relation name n)) name (relation_same name n) d.before
          (subst (λ node. list_any (λ (other : Def). declare_same node other.node) d.before ≡ false) is h.0))
      by (Syntax name fragment b) is = nameless (ap relation_at is)
      by (Var name t) is = nameless (ap relation_at is)
      by (Rule r name e ps) is = nameless (ap relation_at is)
      by (Fun name ts t) is = nameless (ap relation_at is)
      by (Clause name as' e ps) is = nameless (ap relation_at is)

  fun_kind : (d : Definition) → HasKind fun_at D on_declaration d
  fun_kind d = by d.def.node refl
    where
      by : (node : DefNode) → d.def.node ≡ node → HasKind fun_at D on_declaration d
      by (Fun name ts t) is = named name (ap fun_at is) (λ h. new_before fun_at (declare_same (Fun name ts t)) name (fun_same name ts t) d.before
          (subst (λ node. list_any (λ (other : Def). declare_same node other.node) d.before ≡ false) is h.0))
      by (Syntax name fragment b) is = nameless (ap fun_at is)
      by (Var name t) is = nameless (ap fun_at is)
      by (Relation name n) is = nameless (ap fun_at is)
      by (Rule r name e ps) is = nameless (ap fun_at is)
      by (Clause name as' e ps) is = nameless (ap fun_at is)

  var_kind : (d : Definition) → HasKind var_at D on_declaration d
  var_kind d = by d.def.node refl
    where
      by : (node : DefNode) → d.def.node ≡ node → HasKind var_at D on_declaration d
      by (Var name t) is = named name (ap var_at is) (λ h. new_before var_at (declare_same (Var name t)) name (var_same name t) d.before
          (subst (λ node. list_any (λ (other : Def). declare_same node other.node) d.before ≡ false) is h.0))
      by (Syntax name fragment b) is = nameless (ap var_at is)
      by (Relation name n) is = nameless (ap var_at is)
      by (Rule r name e ps) is = nameless (ap var_at is)
      by (Fun name ts t) is = nameless (ap var_at is)
      by (Clause name as' e ps) is = nameless (ap var_at is)

  rule_kind : (r : List ℕ) (d : Definition) → HasKind (rule_at r) D on_content d
  rule_kind r d = by d.def.node refl
    where
      of_rule : (other name : List ℕ) (e : _) (ps : _) → d.def.node ≡ Rule other name e ps → (b : Bool) → same_name r other ≡ b → HasKind (rule_at r) D on_content d
      of_rule other name e ps is true s =
          let same : r ≡ other = (bytes_eq-Decides r other).0 s in
          named name (ap (rule_at r) is ∙ ap (λ c. if c then name ∷ [] else []) s) (λ h.
          new_before (rule_at r) (is_rule r name) name (rule_same r name) d.before
          (subst (λ z. list_any (λ (x : Def). is_rule z name x.node) d.before ≡ false) (sym same)
          (subst (λ node. AllPassAt D (on_content_at d node)) is h).1.0))
      of_rule other name e ps is false s = nameless (ap (rule_at r) is ∙ ap (λ c. if c then name ∷ [] else []) s)

      by : (node : DefNode) → d.def.node ≡ node → HasKind (rule_at r) D on_content d
      by (Rule other name e ps) is = of_rule other name e ps is (same_name r other) refl
      by (Syntax name fragment b) is = nameless (ap (rule_at r) is)
      by (Var name t) is = nameless (ap (rule_at r) is)
      by (Relation name n) is = nameless (ap (rule_at r) is)
      by (Fun name ts t) is = nameless (ap (rule_at r) is)
      by (Clause name as' e ps) is = nameless (ap (rule_at r) is)

-- ---- the names in the internal language are those of the source

pub relation_name : (Rs : List RelationDef) (name : List ℕ) (R : RelationDef) → relation_named Rs name ≡ Some R → R.name ≡ name
relation_name [] name R s = let bad : None ≡ Some R = s in cc
relation_name (g ∷ gs) name R s = by (same_name name g.name) refl s (relation_name gs name R)
  where
    by : (b : Bool) → same_name name g.name ≡ b → (if b then Some g else relation_named gs name) ≡ Some R → (relation_named gs name ≡ Some R → R.name ≡ name) → R.name ≡ name
    by true e k rest = let same : g ≡ R = cc in ap (λ (z : RelationDef). z.name) (sym same) ∙ sym ((bytes_eq-Decides name g.name).0 e)
    by false e k rest = rest k

-- the names of one kind that a definition of the internal language has
module _ (K : DefNode → List (List ℕ)) (names : List IlDef → List (List ℕ)) (own : IlDef → List (List ℕ)) (step : (x : IlDef) (xs : List IlDef) → names (x ∷ xs) ≡ own x ++ names xs) (empty : names [] ≡ [])
    (declared : (hints : List Hint) (node : DefNode) (x : IlDef) → declared_at hints node ≡ x ∷ [] → own x ≡ K node) (D : Decls)
    (rules_own : (r name : List ℕ) (e : _) (ps : _) (y : RuleDef) → y.relation ≡ r → y.name ≡ name → own (il.Rule y) ≡ K (Rule r name e ps))
    (clauses_own : (name : List ℕ) (args : _) (result : _) (ps : _) (y : _) → own (il.Clause y) ≡ K (Clause name args result ps)) where
  same_names : (ds : List Def) (xs : List IlDef) → ElabDefs D ds xs → names xs ≡ kind_names K ds
  same_names [] [] h = empty
  same_names [] (x ∷ xs) h = absurd h
  same_names (def ∷ ds) [] h = absurd h
  same_names (def ∷ ds) (x ∷ xs) (declaration is, hs) = step x xs ∙ ap₂ (λ a b. a ++ b) (declared def.hints def.node x is) (same_names ds xs hs)
  same_names (def ∷ ds) (x ∷ xs) (rule r name e ps y is el of, hs) =
      step x xs ∙ ap₂ (λ a b. a ++ b) (ap own of ∙ rules_own r name e ps y (el.elaborated.relation_is ∙ relation_name D.relations r el.relation el.declared) el.elaborated.name_is ∙ ap K (sym is)) (same_names ds xs hs)
  same_names (def ∷ ds) (x ∷ xs) (clause name args result ps y is el of, hs) =
      step x xs ∙ ap₂ (λ a b. a ++ b) (ap own of ∙ clauses_own name args result ps y ∙ ap K (sym is)) (same_names ds xs hs)

-- ---- kinds in the internal language

abbrev relation_own : IlDef → List (List ℕ)
relation_own (il.Relation r) = r.name ∷ []
relation_own d = []

relation_step : (x : IlDef) (xs : List IlDef) → relation_names (x ∷ xs) ≡ relation_own x ++ relation_names xs
relation_step (il.Syntax s) xs = refl
relation_step (il.Var x t) xs = refl
relation_step (il.Relation r) xs = refl
relation_step (il.Rule r) xs = refl
relation_step (il.Fun f) xs = refl
relation_step (il.Clause c) xs = refl

abbrev fun_own : IlDef → List (List ℕ)
fun_own (il.Fun f) = f.name ∷ []
fun_own d = []

fun_step : (x : IlDef) (xs : List IlDef) → function_names (x ∷ xs) ≡ fun_own x ++ function_names xs
fun_step (il.Syntax s) xs = refl
fun_step (il.Var x t) xs = refl
fun_step (il.Relation r) xs = refl
fun_step (il.Rule r) xs = refl
fun_step (il.Fun f) xs = refl
fun_step (il.Clause c) xs = refl

abbrev var_own : IlDef → List (List ℕ)
var_own (il.Var x t) = x ∷ []
var_own d = []

var_step : (x : IlDef) (xs : List IlDef) → variable_names (x ∷ xs) ≡ var_own x ++ variable_names xs
var_step (il.Syntax s) xs = refl
var_step (il.Var x t) xs = refl
var_step (il.Relation r) xs = refl
var_step (il.Rule r) xs = refl
var_step (il.Fun f) xs = refl
var_step (il.Clause c) xs = refl

abbrev rule_own : List ℕ → IlDef → List (List ℕ)
rule_own r (il.Rule y) = if same_name r y.relation then y.name ∷ [] else []
rule_own r d = []

rule_step : (r : List ℕ) (x : IlDef) (xs : List IlDef) → rule_names r (x ∷ xs) ≡ rule_own r x ++ rule_names r xs
rule_step r (il.Syntax s) xs = refl
rule_step r (il.Var x t) xs = refl
rule_step r (il.Relation q) xs = refl
rule_step r (il.Rule y) xs = by (same_name r y.relation)
  where
    by : (b : Bool) → map (λ (z : RuleDef). z.name) (if b then y ∷ rules_from r (rules_in xs) else rules_from r (rules_in xs)) ≡ (if b then y.name ∷ [] else []) ++ map (λ (z : RuleDef). z.name) (rules_from r (rules_in xs))
    by true = refl
    by false = refl
rule_step r (il.Fun f) xs = refl
rule_step r (il.Clause c) xs = refl

-- what is declared has the names of what declares it
declared_own : (K : DefNode → List (List ℕ)) (own : IlDef → List (List ℕ)) → ((name : List ℕ) (fragment : _) (b : _) (c : SyntaxBody) → own (il.Syntax (record { name = name; body = c })) ≡ K (Syntax name fragment b))
    → ((name : List ℕ) (t : _) → own (il.Var name (ty_of t)) ≡ K (Var name t))
    → ((hints : List Hint) (name : List ℕ) (n : _) → own (il.Relation (relation_of hints name n)) ≡ K (Relation name n))
    → ((name : List ℕ) (ts : _) (t : _) → own (il.Fun (record { name = name; params = map ty_of ts; result = ty_of t })) ≡ K (Fun name ts t))
    → (hints : List Hint) (node : DefNode) (x : IlDef) → declared_at hints node ≡ x ∷ [] → own x ≡ K node
declared_own K own s v r f hints (Syntax name fragment b) x is = ap own (sym (first_is _ x is)) ∙ s name fragment b _
declared_own K own s v r f hints (Var name t) x is = ap own (sym (first_is _ x is)) ∙ v name t
declared_own K own s v r f hints (Relation name n) x is = ap own (sym (first_is _ x is)) ∙ r hints name n
declared_own K own s v r f hints (Rule q name e ps) x is = absurd (none_is x is)
declared_own K own s v r f hints (Fun name ts t) x is = ap own (sym (first_is _ x is)) ∙ f name ts t
declared_own K own s v r f hints (Clause name as' e ps) x is = absurd (none_is x is)

-- ---- names before a definition

divided : (defs : List IlDef) (at : ℕ) (d : IlDef) → slice_get defs at ≡ Some d → defs ≡ take at defs ++ d ∷ drop (suc at) defs
divided [] at d h = let bad : None ≡ Some d = h in cc
divided (x ∷ defs) zero d h = let same : x ≡ d = cc in ap (λ z. z ∷ defs) same
divided (x ∷ defs) (suc at) d h = ap (λ z. x ∷ z) (divided defs at d h)

module _ (names : List IlDef → List (List ℕ)) (own : IlDef → List (List ℕ)) (step : (x : IlDef) (xs : List IlDef) → names (x ∷ xs) ≡ own x ++ names xs) (empty : names [] ≡ []) where
  names_append : (xs ys : List IlDef) → names (xs ++ ys) ≡ names xs ++ names ys
  names_append [] ys = ap (λ z. z ++ names ys) (sym empty)
  names_append (x ∷ xs) ys = step x (xs ++ ys) ∙ ap (λ z. own x ++ z) (names_append xs ys) ∙ sym (append_assoc (own x) (names xs) (names ys)) ∙ ap (λ z. z ++ names ys) (sym (step x xs))

  -- where names stand once, that of a definition is none before it
  new_at : (defs : List IlDef) → is_once (names defs) ≡ true → (at : ℕ) (d : IlDef) (n : List ℕ) → slice_get defs at ≡ Some d → own d ≡ n ∷ [] → has_name (names (take at defs)) n ≡ false
  new_at defs h at d n there is =
      front_new (names (take at defs)) n (names (drop (suc at) defs))
      (subst (λ z. is_once z ≡ true)
      (ap names (divided defs at d there) ∙ names_append (take at defs) (d ∷ drop (suc at) defs) ∙ ap (λ z. names (take at defs) ++ z) (step d (drop (suc at) defs) ∙ ap (λ z. z ++ names (drop (suc at) defs)) is)) h)

-- ---- modes

mode_said : (hints : List Hint) (holes : ℕ) (m : List Bool) → IsSignatureMode hints holes m → (mode_of hints ≡ []) ⊎ (length (mode_of hints) ≡ holes)
mode_said hints holes m (none e f) = inl (ap mode_by e)
mode_said hints holes m (one hint e h) = inr (ap (λ hs. length (mode_by hs)) e ∙ length-map hint.words (λ (word : Token). is_input_kind word.kind) ∙ h.number)

-- the hints of a relation say a mode
abbrev ModeSaid : List Hint → DefNode → Type 0
ModeSaid hints (Relation name n) = (mode_of hints ≡ []) ⊎ (length (mode_of hints) ≡ length (holes_of n))
ModeSaid hints node = Unit {0}

-- a relation has a mode
abbrev HasMode : IlDef → Type 0
HasMode (il.Relation r) = IsMode r
HasMode d = Unit {0}

module _ (D : Decls) where
  mode_at : (d : Definition) (node : DefNode) → AllPassAt D (on_signature_at d node) → ModeSaid d.def.hints node
  mode_at d (Syntax name fragment b) h = tt
  mode_at d (Var name t) h = tt
  mode_at d (Relation name n) h = mode_said d.def.hints (length (holes_of n)) h.0.0 h.0.1
  mode_at d (Rule r name e ps) h = tt
  mode_at d (Fun name ts t) h = tt
  mode_at d (Clause name args e ps) h = tt

  all_modes : (before ds : List Def) → AllPass D (phase on_signature (definitions_from before ds)) → AllByRecursion (λ (def : Def). ModeSaid def.hints def.node) ds
  all_modes before [] h = tt
  all_modes before (def ∷ ds) h =
      let here : Definition = standing before def ds in (
        mode_at here def.node (AllPass-at D here (on_signature here) (AllPass-front D (asked_of on_signature here) (phase on_signature (definitions_from (before ++ def ∷ []) ds)) h)),
        all_modes (before ++ def ∷ []) ds (AllPass-back D (asked_of on_signature here) (phase on_signature (definitions_from (before ++ def ∷ []) ds)) h),
      )

  relation_mode : (hints : List Hint) (name : List ℕ) (n : _) → ModeSaid hints (Relation name n) → IsMode (relation_of hints name n)
  relation_mode hints name n (inl e) = inl e
  relation_mode hints name n (inr e) = inr (e ∙ sym (length-map (holes_of n) ty_of))

  declared_mode : (hints : List Hint) (node : DefNode) (x : IlDef) → ModeSaid hints node → declared_at hints node ≡ x ∷ [] → HasMode x
  declared_mode hints (Syntax name fragment b) x h is = subst HasMode (first_is _ x is) tt
  declared_mode hints (Var name t) x h is = subst HasMode (first_is _ x is) tt
  declared_mode hints (Relation name n) x h is = subst HasMode (first_is _ x is) (relation_mode hints name n h)
  declared_mode hints (Rule r name e ps) x h is = absurd (none_is x is)
  declared_mode hints (Fun name ts t) x h is = subst HasMode (first_is _ x is) tt
  declared_mode hints (Clause name as' e ps) x h is = absurd (none_is x is)

  have_modes : (ds : List Def) (xs : List IlDef) → AllByRecursion (λ (def : Def). ModeSaid def.hints def.node) ds → ElabDefs D ds xs → AllByRecursion HasMode xs
  have_modes [] [] m h = tt
  have_modes [] (x ∷ xs) m h = absurd h
  have_modes (def ∷ ds) [] m h = absurd h
  have_modes (def ∷ ds) (x ∷ xs) m (declaration is, hs) = (declared_mode def.hints def.node x m.0 is, have_modes ds xs m.1 hs)
  have_modes (def ∷ ds) (x ∷ xs) m (rule r name e ps y is el of, hs) = (subst HasMode (sym of) tt, have_modes ds xs m.1 hs)
  have_modes (def ∷ ds) (x ∷ xs) m (clause name args result ps y is el of, hs) = (subst HasMode (sym of) tt, have_modes ds xs m.1 hs)

  at_place : (P : IlDef → Type 0) (xs : List IlDef) (at : ℕ) (x : IlDef) → AllByRecursion P xs → slice_get xs at ≡ Some x → P x
  at_place P [] at x h there = let bad : None ≡ Some x = there in absurd (cc)
  at_place P (y ∷ ys) zero x h there = let same : y ≡ x = cc in subst P same h.0
  at_place P (y ∷ ys) (suc at) x h there = at_place P ys at x h.1 there

-- ---- syntaxes

no_name : (defs : List SyntaxDef) (name : List ℕ) → body_named defs name ≡ None → has_name (map (λ (s : SyntaxDef). s.name) defs) name ≡ false
no_name defs name h = by (has_name (map (λ (s : SyntaxDef). s.name) defs) name) refl
  where
    by : (b : Bool) → has_name (map (λ (s : SyntaxDef). s.name) defs) name ≡ b → has_name (map (λ (s : SyntaxDef). s.name) defs) name ≡ false
    by true e = absurd (named_before defs name e h)
    by false e = e

some_name : (defs : List SyntaxDef) (name : List ℕ) → (body_named defs name ≡ None → ⊥) → has_name (map (λ (s : SyntaxDef). s.name) defs) name ≡ true
some_name defs name h = by (has_name (map (λ (s : SyntaxDef). s.name) defs) name) refl
  where
    by : (b : Bool) → has_name (map (λ (s : SyntaxDef). s.name) defs) name ≡ b → has_name (map (λ (s : SyntaxDef). s.name) defs) name ≡ true
    by true e = e
    by false e = absurd (h (unnamed defs name e))

syntaxes_fresh : (pre xs : List SyntaxDef) → ((i : ℕ) (d : SyntaxDef) → slice_get xs i ≡ Some d → body_named (pre ++ take i xs) d.name ≡ None)
    → AreFresh (map (λ (s : SyntaxDef). s.name) pre) (map (λ (s : SyntaxDef). s.name) xs)
syntaxes_fresh pre [] h = record { new = tt; once = refl }
syntaxes_fresh pre (x ∷ xs) h =
    fresh_one (map (λ (s : SyntaxDef). s.name) pre) x.name (map (λ (s : SyntaxDef). s.name) xs)
    (no_name pre x.name (subst (λ z. body_named z x.name ≡ None) (append-nil pre) (h 0 x refl)))
    (subst (λ z. AreFresh z (map (λ (s : SyntaxDef). s.name) xs)) (map-append (λ (s : SyntaxDef). s.name) pre (x ∷ []))
    (syntaxes_fresh (pre ++ x ∷ []) xs (λ i d there. subst (λ z. body_named z d.name ≡ None) (sym (append_assoc pre (x ∷ []) (take i xs))) (h (suc i) d there))))

-- ---- what is found is named

relation_has : (Rs : List RelationDef) (name : List ℕ) (R : RelationDef) → relation_named Rs name ≡ Some R → has_name (map (λ (r : RelationDef). r.name) Rs) name ≡ true
relation_has [] name R h = let bad : None ≡ Some R = h in cc
relation_has (g ∷ gs) name R h = by (same_name name g.name) h (relation_has gs name R)
  where
    by : (b : Bool) → (if b then Some g else relation_named gs name) ≡ Some R → (relation_named gs name ≡ Some R → has_name (map (λ (r : RelationDef). r.name) gs) name ≡ true)
        → (b || has_name (map (λ (r : RelationDef). r.name) gs) name) ≡ true
    by true k rest = refl
    by false k rest = rest k

fun_has : (fs : List FunDef) (name : List ℕ) (f : FunDef) → fun_named fs name ≡ Some f → has_name (map (λ (g : FunDef). g.name) fs) name ≡ true
fun_has [] name f h = let bad : None ≡ Some f = h in cc
fun_has (g ∷ gs) name f h = by (same_name name g.name) h (fun_has gs name f)
  where
    by : (b : Bool) → (if b then Some g else fun_named gs name) ≡ Some f → (fun_named gs name ≡ Some f → has_name (map (λ (z : FunDef). z.name) gs) name ≡ true)
        → (b || has_name (map (λ (z : FunDef). z.name) gs) name) ≡ true
    by true k rest = refl
    by false k rest = rest k

relations_same : (xs : List IlDef) → flat_map relation_in xs ≡ relations_in xs
relations_same [] = refl
relations_same (il.Syntax s ∷ xs) = relations_same xs
relations_same (il.Var x t ∷ xs) = relations_same xs
relations_same (il.Relation r ∷ xs) = ap (λ z. r ∷ z) (relations_same xs)
relations_same (il.Rule r ∷ xs) = relations_same xs
relations_same (il.Fun f ∷ xs) = relations_same xs
relations_same (il.Clause c ∷ xs) = relations_same xs

funs_same : (xs : List IlDef) → flat_map fun_in xs ≡ funs_in xs
funs_same [] = refl
funs_same (il.Syntax s ∷ xs) = funs_same xs
funs_same (il.Var x t ∷ xs) = funs_same xs
funs_same (il.Relation r ∷ xs) = funs_same xs
funs_same (il.Rule r ∷ xs) = funs_same xs
funs_same (il.Fun f ∷ xs) = ap (λ z. f ∷ z) (funs_same xs)
funs_same (il.Clause c ∷ xs) = funs_same xs

-- ---- all of it

module _ (defs : List Def) (e : Elaborated) (is : IsElaborated defs e) where
  abbrev D : Decls
  D = decls_of defs

  relations_once : is_once (relation_names e.il.defs) ≡ true
  relations_once =
      let fresh = kind_fresh relation_at D on_declaration (relation_kind D) [] defs (declarations_pass defs is.sound) in
      ap is_once (same_names relation_at relation_names relation_own relation_step refl
      (declared_own relation_at relation_own (λ name fragment b c. refl) (λ name t. refl) (λ hints name n. refl) (λ name ts t. refl)) D (λ r name e ps y p q. refl) (λ name args result ps y. refl) (joined defs) e.il.defs is.definitions
      ∙ kind_joined relation_at (λ name fragment b. refl) [] defs) ∙ fresh.once

  funs_once : is_once (function_names e.il.defs) ≡ true
  funs_once =
      let fresh = kind_fresh fun_at D on_declaration (fun_kind D) [] defs (declarations_pass defs is.sound) in
      ap is_once (same_names fun_at function_names fun_own fun_step refl
      (declared_own fun_at fun_own (λ name fragment b c. refl) (λ name t. refl) (λ hints name n. refl) (λ name ts t. refl)) D (λ r name e ps y p q. refl) (λ name args result ps y. refl) (joined defs) e.il.defs is.definitions
      ∙ kind_joined fun_at (λ name fragment b. refl) [] defs) ∙ fresh.once

  vars_once : is_once (variable_names e.il.defs) ≡ true
  vars_once =
      let fresh = kind_fresh var_at D on_declaration (var_kind D) [] defs (declarations_pass defs is.sound) in
      ap is_once (same_names var_at variable_names var_own var_step refl
      (declared_own var_at var_own (λ name fragment b c. refl) (λ name t. refl) (λ hints name n. refl) (λ name ts t. refl)) D (λ r name e ps y p q. refl) (λ name args result ps y. refl) (joined defs) e.il.defs is.definitions
      ∙ kind_joined var_at (λ name fragment b. refl) [] defs) ∙ fresh.once

  rules_once : (q : List ℕ) → is_once (rule_names q e.il.defs) ≡ true
  rules_once q =
      let fresh = kind_fresh (rule_at q) D on_content (rule_kind D q) [] defs (contents_pass defs is.sound) in
      ap is_once (same_names (rule_at q) (rule_names q) (rule_own q) (rule_step q) refl
      (declared_own (rule_at q) (rule_own q) (λ name fragment b c. refl) (λ name t. refl) (λ hints name n. refl) (λ name ts t. refl)) D
      (λ r name e ps y p s. λ i. if same_name q (p i) then s i ∷ [] else []) (λ name args result ps y. refl) (joined defs) e.il.defs is.definitions
      ∙ kind_joined (rule_at q) (λ name fragment b. refl) [] defs) ∙ fresh.once

  same_types : D.types ≡ syntaxes e.il
  same_types = ap (λ (d : Decls). d.types) (declares_own defs e is) ∙ same_syntaxes e.il.defs

  syntaxes_once : is_once (syntax_names e.il.defs) ≡ true
  syntaxes_once =
      subst (λ ts. is_once (map (λ (s : SyntaxDef). s.name) ts) ≡ true) same_types
      (syntaxes_fresh [] D.types (λ i d there. (types_sound defs is.sound i (slice_get_within D.types i d there) d there).0)).once

  syntax_once : (name : List ℕ) → IsSyntax D name → IsOnceIn (syntax_names e.il.defs) name
  syntax_once name h = times_once (syntax_names e.il.defs) name syntaxes_once (subst (λ ts. has_name (map (λ (s : SyntaxDef). s.name) ts) name ≡ true) same_types (some_name D.types name h))

  relation_once : (name : List ℕ) → IsRelation D name → IsOnceIn (relation_names e.il.defs) name
  relation_once name h =
      times_once (relation_names e.il.defs) name relations_once
      (subst (λ rs. has_name (map (λ (r : RelationDef). r.name) rs) name ≡ true) (ap (λ (d : Decls). d.relations) (declares_own defs e is) ∙ relations_same e.il.defs) (relation_has D.relations name h.0 h.1))

  function_once : (name : List ℕ) → IsFunction D name → IsOnceIn (function_names e.il.defs) name
  function_once name h =
      times_once (function_names e.il.defs) name funs_once
      (subst (λ fs. has_name (map (λ (f : FunDef). f.name) fs) name ≡ true) (ap (λ (d : Decls). d.funs) (declares_own defs e is) ∙ funs_same e.il.defs) (fun_has D.funs name h.0 h.1))

  modes : AllByRecursion HasMode e.il.defs
  modes = have_modes D (joined defs) e.il.defs (joined_each ModeSaid (λ hints name piece b behind h k. tt) [] defs (all_modes D [] defs (signatures_pass defs is.sound))) is.definitions

  own_rule : (y : RuleDef) → rule_own y.relation (il.Rule y) ≡ y.name ∷ []
  own_rule y = ap (λ b. if b then y.name ∷ [] else []) ((bytes_eq-Decides y.relation y.relation).1 refl)

  -- what a definition declares is new, and keeps the conditions on it
  declared_so : (at : ℕ) (d : IlDef) → slice_get e.il.defs at ≡ Some d → IsDeclared e.il (take at e.il.defs) d
  declared_so at (il.Syntax s) there = syntaxes_declared defs e is at s there
  declared_so at (il.Var x t) there = new_at variable_names var_own var_step refl e.il.defs vars_once at (il.Var x t) x there refl
  declared_so at (il.Relation r) there = (new_at relation_names relation_own relation_step refl e.il.defs relations_once at (il.Relation r) r.name there refl, at_place D HasMode e.il.defs at (il.Relation r) modes there)
  declared_so at (il.Rule y) there = new_at (rule_names y.relation) (rule_own y.relation) (rule_step y.relation) refl e.il.defs (rules_once y.relation) at (il.Rule y) y.name there (own_rule y)
  declared_so at (il.Fun f) there = new_at function_names fun_own fun_step refl e.il.defs funs_once at (il.Fun f) f.name there refl
  declared_so at (il.Clause c) there = tt

-- T1 holds of each definition of an elaborated source
pub all_are_named : (defs : List Def) (e : Elaborated) → HasTemplates defs → IsElaborated defs e → AllAreNamed e.il
all_are_named defs e templates is at d there =
    let c = at_place (decls_of defs) (λ (x : IlDef). CitesKnown (decls_of defs) (cited x)) e.il.defs at d (all_cite_known defs e templates is) there in
    record {
      declared = declared_so defs e is at d there;
      syntaxes_once = All-weaker (IsSyntax (decls_of defs)) (IsOnceIn (syntax_names e.il.defs)) (syntax_once defs e is) (cited d).syntaxes c.syntaxes;
      relations_once = All-weaker (IsRelation (decls_of defs)) (IsOnceIn (relation_names e.il.defs)) (relation_once defs e is) (cited d).relations c.relations;
      functions_once = All-weaker (IsFunction (decls_of defs)) (IsOnceIn (function_names e.il.defs)) (function_once defs e is) (cited d).functions c.functions;
      tagged = c.tagged;
    }
