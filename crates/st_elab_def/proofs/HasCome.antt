-- The loop of contents: what was kept of the definitions so far, and what is left of them.
use Rattle.std.proofs.Common.{◌≡◌, refl, sym, ap, ◌∙◌, subst, ℕ, ◌+◌, ◌<◌, ◌≤◌, Bool, true, false, true≢false, not, ◌||◌, Some, None, List, [], ◌∷◌, ◌++◌, length, take, drop, get_or, append-nil}
use Rattle.std.specs.Prelude.{Result, Ok, Err, reverse, flat_map, Option, OnOk}
use Rattle.std.specs.Borrow.{Bor}
use Rattle.st_num.specs.Names.{same_name}
use Rattle.st_num.specs.declared.fault.Fault.{Fault}
use Rattle.st_num.specs.declared.fault.Fault.TheVariants as fault
use Rattle.st_el.specs.Erasure.{is_fragment, is_fragment_node, joined_behind}
use Rattle.st_el.specs.declared.definition.Def.{Def}
use Rattle.st_el.specs.declared.definition.DefNode.{DefNode}
use Rattle.st_el.specs.declared.definition.DefNode.TheVariants.{Syntax, Var, Relation, Rule, Fun, Clause}
use Rattle.st_el.specs.declared.definition.Body.{Body}
use Rattle.st_il.specs.declared.definition.IlDef.{IlDef}
use Rattle.st_dims.proofs.Lists.{next_taken}
use Rattle.st_elab_rows.specs.Told.{Told}
use Rattle.st_elab_table.specs.declared.decls.Decls.{Decls}
use Rattle.st_elab_def.specs.declared.breach.Breach.{Breach}
use Rattle.st_elab_def.specs.declared.breach.DefFault.{DefFault}
use Rattle.st_elab_def.specs.declared.breach.DefFault.TheVariants.{Refused, Memory}
use Rattle.st_elab_def.specs.declared.elaborated.Elaborated.{Elaborated}
use Rattle.st_elab_def.specs.Answers.{Told as ToldOfAll}
use Rattle.st_elab_def.specs.Definitions.{Definition, definitions}
use Rattle.st_elab_def.specs.DeclsOf.{declared_by}
use Rattle.st_elab_def.specs.Elaboration.{ElabDefs}
use Rattle.st_elab_def.specs.Fragments.{has_fragment, is_later_at, is_later}
use Rattle.st_elab_def.specs.Phases.{on_content}
use Rattle.st_elab_def.specs.inner.Contents.{MakesContent}
use Rattle.st_ilcheck.specs.Index.{has, has_pair}
use Rattle.st_elab_def.specs.inner.Heads.{KnowsRules}
use Rattle.st_elab_def.specs.inner.Joining.{joined_of, AreContents}
use Rattle.st_elab_def.specs.inner.Walk.{standing, AllPassAt, FirstBreachAt, Checks, numbered}
use Rattle.st_elab_def.specs.inner.Whole.{KnowsFragments, PlacesOne}
use Rattle.st_elab_def.proofs.ContentLemmas.{told_both}
use Rattle.st_type_table.proofs.InsertionLemmas.{any-more, same-refl}
use Rattle.st_elab_def.proofs.PlacesOne.{joined-definitions, sources_in, Continues, Continues-next, sources-next}
use Rattle.st_elab_def.proofs.Leaves.{left_of, left_of-end, Leaves, Leaves-start, Leaves-end}

-- ---- fragments

or-false : (a : Bool) → (a || false) ≡ a
or-false true = refl
or-false false = refl

not-not : (a : Bool) → not (not a) ≡ a
not-not true = refl
not-not false = refl

whole-first : (d : Definition) (node : DefNode) → ((q : List ℕ) → is_fragment_node q node ≡ false) → is_later_at d node ≡ false
whole-first d (Syntax name None body) h = refl
whole-first d (Syntax name (Some piece) body) h = absurd (true≢false (sym (same-refl name) ∙ h name))
whole-first d (Var name typ) h = refl
whole-first d (Relation name n) h = refl
whole-first d (Rule r name e ps) h = refl
whole-first d (Fun name ts t) h = refl
whole-first d (Clause name as' e ps) h = refl

-- a definition that is no fragment is no later one
pub not-later : (d : Definition) (node : DefNode) → d.def.node ≡ node → ((q : List ℕ) → is_fragment_node q node ≡ false) → false ≡ is_later d
not-later d node is none = sym (ap (is_later_at d) is ∙ whole-first d node none)

-- a fragment is a later one where its name was there
pub later-fragment : (d : Definition) (node : DefNode) (name piece : List ℕ) (body : Body) (names : List (Bor (List ℕ))) (added : Bool) → d.def.node ≡ node
    → node ≡ Syntax name (Some piece) body → added ≡ not (has names name) → KnowsFragments d.before names → not added ≡ is_later d
later-fragment d node name piece body names added is fragment new knows =
    ap not new ∙ not-not (has names name) ∙ knows name ∙ sym (ap (is_later_at d) (is ∙ fragment))

pub fragments-same : (before : List Def) (def : Def) (node : DefNode) (names : List (Bor (List ℕ))) → def.node ≡ node → ((q : List ℕ) → is_fragment_node q node ≡ false)
    → KnowsFragments before names → KnowsFragments (before ++ def ∷ []) names
fragments-same before def node names is none knows q =
    knows q ∙ sym (or-false (has_fragment q before)) ∙ ap (λ b. has_fragment q before || b) (sym (ap (is_fragment_node q) is ∙ none q)) ∙ sym (any-more (is_fragment q) before def)

pub fragments-more : (before : List Def) (def : Def) (node : DefNode) (name piece : List ℕ) (body : Body) (old new : List (Bor (List ℕ))) → def.node ≡ node
    → node ≡ Syntax name (Some piece) body → ((q : List ℕ) → has new q ≡ (has old q || same_name q name)) → KnowsFragments before old → KnowsFragments (before ++ def ∷ []) new
fragments-more before def node name piece body old new is fragment more knows q =
    more q ∙ ap (λ b. b || same_name q name) (knows q) ∙ ap (λ b. has_fragment q before || b) (sym (ap (is_fragment_node q) (is ∙ fragment))) ∙ sym (any-more (is_fragment q) before def)

-- ---- one definition

-- what is told of a definition's content, as a check of what it asks
pub content-checks : (D : Decls) (d : Definition) (r : Result (Option IlDef) Fault) → Told (MakesContent D d) (FirstBreachAt D (on_content d)) r → Checks D (on_content d) r
content-checks D d r h =
    told_both (MakesContent D d) (λ (made : Option IlDef). AllPassAt D (on_content d)) (FirstBreachAt D (on_content d)) (FirstBreachAt D (on_content d)) r (λ made m. m.passes) (λ b k. k) h

-- what was made, where the numbered answer is Ok
pub made-of : (D : Decls) (d : Definition) (i : ℕ) (r : Result (Option IlDef) Fault) (s : Result (Option IlDef) DefFault) (made : Option IlDef) → s ≡ numbered i r → s ≡ Ok made
    → Told (MakesContent D d) (FirstBreachAt D (on_content d)) r → MakesContent D d made
made-of D d i (Ok x) s made is was h =
    let same : x ≡ made = cc in
    subst (MakesContent D d) same h
made-of D d i (Err (fault.Refused at rule)) s made is was h = cc
made-of D d i (Err fault.Memory) s made is was h = cc

-- what holds of an answer that is Ok, where the numbered answer is
pub ok-of : {A P : Type 0} (i : ℕ) (r : Result A Fault) (s : Result A DefFault) (x : A) → s ≡ numbered i r → s ≡ Ok x → OnOk r P → P
ok-of i (Ok y) s x is was h = h
ok-of i (Err (fault.Refused at rule)) s x is was h = cc
ok-of i (Err fault.Memory) s x is was h = cc

-- a breach is told of any answer
pub breach-told : {A B : Type 0} (P : A → Type 0) (Q : B → Type 0) (F : Breach → Type 0) (r : Result A DefFault) (s : Result B DefFault) (e : DefFault) → r ≡ Err e → s ≡ Err e
    → ToldOfAll P F r → ToldOfAll Q F s
breach-told P Q F r s (Refused b) is out h = subst (ToldOfAll Q F) (sym out) (subst (ToldOfAll P F) is h)
breach-told P Q F r s Memory is out h = subst (ToldOfAll Q F) (sym out) tt

-- ---- the loop

-- What is kept of the definitions before a place, and what is left.
pub record HasCome (D : Decls) (defs : List Def) (i : ℕ) (pairs : List (Bor (List ℕ) × Bor (List ℕ))) (names : List (Bor (List ℕ))) (pending : List IlDef) (out : Elaborated) : Type 0 where
  pub rules : KnowsRules (take i defs) pairs
  pub fragments : KnowsFragments (take i defs) names
  pub left : Leaves D on_content defs i
  pub declared : reverse pending ≡ flat_map declared_by (flat_map joined_of (left_of defs i))
  pub made : Continues D defs i out
  pub sources : out.sources ++ sources_in (left_of defs i) ≡ sources_in (definitions defs)

pub starts : (D : Decls) (defs : List Def) (pairs : List (Bor (List ℕ) × Bor (List ℕ))) (names : List (Bor (List ℕ))) (pending : List IlDef) (out : Elaborated)
    → pairs ≡ [] → names ≡ [] → reverse pending ≡ flat_map declared_by (joined_behind [] defs) → out.il.defs ≡ [] → out.sources ≡ []
    → HasCome D defs 0 pairs names pending out
starts D defs pairs names pending out no_pairs no_names is no_defs no_sources = record {
  rules = λ p q. ap (λ ps. has_pair ps p q) no_pairs;
  fragments = λ q. ap (λ ns. has ns q) no_names;
  left = Leaves-start D on_content defs;
  declared = is ∙ ap (flat_map declared_by) (joined-definitions [] defs);
  made = λ xs h. subst (λ ys. ElabDefs D (flat_map joined_of (definitions defs)) (ys ++ xs)) (sym no_defs) h;
  sources = ap (λ ns. ns ++ sources_in (definitions defs)) no_sources;
}

pub ends : (D : Decls) (defs : List Def) (i : ℕ) (pairs : List (Bor (List ℕ) × Bor (List ℕ))) (names : List (Bor (List ℕ))) (pending : List IlDef) (out : Elaborated)
    → length defs ≤ i → HasCome D defs i pairs names pending out → AreContents D (definitions defs) out
ends D defs i pairs names pending out h come = record {
  passes = Leaves-end D on_content defs i h come.left;
  elaborated = subst (ElabDefs D (flat_map joined_of (definitions defs))) (append-nil out.il.defs)
      (come.made [] (subst (λ ds. ElabDefs D (flat_map joined_of ds) []) (sym (left_of-end defs i h)) tt));
  sources = sym (append-nil out.sources) ∙ ap (λ ds. out.sources ++ sources_in ds) (sym (left_of-end defs i h)) ∙ come.sources;
}

module _ (D : Decls) (defs : List Def) (i : ℕ) (def : Def) (h : i < length defs) (is : def ≡ get_or defs i def) where
  abbrev here : Definition
  here = standing (take i defs) def (drop (i + 1) defs)

  -- what is declared behind a definition
  abbrev pub declared_behind : List IlDef
  declared_behind = flat_map declared_by (flat_map joined_of (left_of defs (i + 1)))

  pub goes-on : (old_pairs new_pairs : List (Bor (List ℕ) × Bor (List ℕ))) (old_names new_names : List (Bor (List ℕ))) (old_pending new_pending : List IlDef) (old new : Elaborated)
      → HasCome D defs i old_pairs old_names old_pending old → KnowsRules (take i defs ++ def ∷ []) new_pairs → KnowsFragments (take i defs ++ def ∷ []) new_names
      → Leaves D on_content defs (i + 1) → PlacesOne D here declared_behind new_pending old new → HasCome D defs (i + 1) new_pairs new_names new_pending new
  goes-on old_pairs new_pairs old_names new_names old_pending new_pending old new come rules fragments left one = record {
    rules = subst (λ ds. KnowsRules ds new_pairs) (sym (next_taken defs i def h is)) rules;
    fragments = subst (λ ds. KnowsFragments ds new_names) (sym (next_taken defs i def h is)) fragments;
    left = left;
    declared = one.rest_is;
    made = Continues-next D defs i def h is declared_behind new_pending old new one come.made;
    sources = sources-next D defs i def h is declared_behind new_pending old new one come.sources;
  }
