-- A walk through bodies comes to a definition, and behind it.
use Rattle.std.proofs.Common.{[], ◌≡◌, refl, sym, ap, ◌∙◌, subst, ℕ, zero, suc, ◌+◌, Bool, true, false, true≢false, ◌||◌, ◌&&◌, if◌then◌else◌, Some, None, List, ◌∷◌, ◌++◌, map, take, drop, append_assoc, append-nil, arith}
use Rattle.std.specs.Prelude.{Option, flat_map, slice_get}
use Rattle.std.specs.List.{list_any, filter}
use Rattle.std.specs.Borrow.{Bor}
use Rattle.std.proofs.lemmas.Bool.{and_parts}
use Rattle.std.proofs.lemmas.Grind.{flat_map-append}
use Rattle.st_num.specs.Names.{same_name}
use Rattle.st_el.specs.Erasure.{is_fragment, is_fragment_node, alternatives, alternatives_in, alternatives_of, joined, joined_at, joined_node, joined_behind}
use Rattle.st_el.specs.declared.definition.Body.{Body}
use Rattle.st_el.specs.declared.definition.Body.TheVariants.{Alias, Cases, Fields}
use Rattle.st_el.specs.declared.definition.Def.{Def}
use Rattle.st_el.specs.declared.definition.DefNode.{DefNode}
use Rattle.st_el.specs.declared.definition.DefNode.TheVariants.{Syntax, Var, Relation, Rule, Fun, Clause}
use Rattle.st_il.specs.declared.definition.Alternative.{Alternative}
use Rattle.st_il.specs.declared.definition.SyntaxDef.{SyntaxDef}
use Rattle.st_il.specs.declared.definition.SyntaxBody.{SyntaxBody}
use Rattle.st_il.specs.declared.definition.SyntaxBody.TheVariants as body
use Rattle.st_elab_law.specs.Agreement.{syntaxes}
use Rattle.st_elab_table.specs.declared.decls.Decls.{Decls}
use Rattle.st_elab_def.specs.declared.bodies.Walk.{Walk}
use Rattle.st_elab_def.specs.declared.parts.Begun.{Begun}
use Rattle.st_elab_def.specs.Conditions.{joining}
use Rattle.st_elab_def.specs.Declarations.{declare_same}
use Rattle.st_elab_def.specs.Definitions.{Definition, definitions_from}
use Rattle.st_elab_def.specs.DeclsOf.{alternative_of, body_of, declared_by}
use Rattle.st_elab_def.specs.Fragments.{begins, ends, dots_suit, has_fragment}
use Rattle.st_elab_def.specs.Phases.{placed, on_declaration, on_parts, on_body, on_body_at, phase, alternatives_before}
use Rattle.st_elab_def.specs.Breaches.{AllPass}
use Rattle.st_elab_def.specs.inner.Bodies.{IsSyntax, own, parts_asked, body_asked, HaveBeen, Advances, HasBegun, IsBegun, HasCome, IsNoSyntax}
use Rattle.st_elab_def.specs.inner.Gathering.{body_with}
use Rattle.st_ilcheck.specs.Index.{at}
use Rattle.st_elab_def.proofs.DeclaredLists.{syntaxes-append}
use Rattle.st_elab_def.proofs.Gathered.{parts-append, has-same, joined-with}
use Rattle.st_type_table.proofs.InsertionLemmas.{any-more, same-equal, same-refl}

-- ---- what is asked of a body

parts-asked : (d : Definition) (name : List ℕ) (b : Body) → on_parts d name b ≡ parts_asked d.def.at name (alternatives_before name d.before) b
parts-asked d name (Alias t) = refl
parts-asked d name (Cases dots cases more) = refl
parts-asked d name (Fields fields) = refl

pub body-asked : (d : Definition) (name : List ℕ) (fragment : Option (List ℕ)) (b : Body) → d.def.node ≡ Syntax name fragment b
    → on_body d ≡ body_asked d name fragment (alternatives_before name d.before) b
body-asked d name fragment b is =
    ap (on_body_at d) is ∙ ap (λ ps. placed d.def.at (joining d name fragment b) ∷ ps) (parts-asked d name b)

pub nothing-asked : (d : Definition) (node : DefNode) → IsNoSyntax node → on_body_at d node ≡ []
nothing-asked d (Syntax name fragment b) h = absurd h
nothing-asked d (Var name typ) h = refl
nothing-asked d (Relation name n) h = refl
nothing-asked d (Rule r name e ps) h = refl
nothing-asked d (Fun name ps t) h = refl
nothing-asked d (Clause name as' e ps) h = refl

-- ---- bodies whose dots suit a fragment before or behind

-- the body is a list of alternatives
abbrev pub IsCases : Body → Type 0
IsCases (Alias t) = ⊥
IsCases (Cases dots cases more) = Unit {0}
IsCases (Fields fields) = ⊥

begins-cases : (b : Body) → begins b ≡ true → IsCases b
begins-cases (Alias t) h = absurd (true≢false (sym h))
begins-cases (Cases dots cases more) h = tt
begins-cases (Fields fields) h = absurd (true≢false (sym h))

ends-cases : (b : Body) → ends b ≡ true → IsCases b
ends-cases (Alias t) h = absurd (true≢false (sym h))
ends-cases (Cases dots cases more) h = tt
ends-cases (Fields fields) h = absurd (true≢false (sym h))

pub later-cases : (behind : Bool) (b : Body) → dots_suit true behind b ≡ true → IsCases b
later-cases true b h = begins-cases b h
later-cases false b h = begins-cases b (and_parts (begins b) _ h).0

pub first-cases : (behind : Bool) (b : Body) → behind ≡ true → dots_suit false behind b ≡ true → IsCases b
first-cases true b on h = ends-cases b h
first-cases false b on h = absurd (true≢false (sym on))

pub cases-body : (b : Body) (parts : List Alternative) → IsCases b → body_with b parts ≡ body.Variant parts
cases-body (Alias t) parts h = absurd h
cases-body (Cases dots cases more) parts h = refl
cases-body (Fields fields) parts h = absurd h

pub cases-advance : (D : Decls) (k : ℕ) (before : List Alternative) (b : Body) (to : ℕ) → IsCases b → Advances D k before b to → HaveBeen D k (before ++ own b) to
cases-advance D k before (Alias t) to h a = absurd h
cases-advance D k before (Cases dots cases more) to h a = a
cases-advance D k before (Fields fields) to h a = absurd h

-- ---- lists from a place on

front-get : {A : Type 0} (xs : List A) (n : ℕ) (y : A) (ys : List A) → drop n xs ≡ y ∷ ys → slice_get xs n ≡ Some y
front-get [] zero y ys e = cc
front-get [] (suc n) y ys e = cc
front-get (x ∷ xs) zero y ys e = cc
front-get (x ∷ xs) (suc n) y ys e = front-get xs n y ys e

front-rest : {A : Type 0} (xs : List A) (n : ℕ) (y : A) (ys : List A) → drop n xs ≡ y ∷ ys → drop (suc n) xs ≡ ys
front-rest [] zero y ys e = cc
front-rest [] (suc n) y ys e = cc
front-rest (x ∷ xs) zero y ys e = cc
front-rest (x ∷ xs) (suc n) y ys e = front-rest xs n y ys e

-- ---- the syntaxes that a definition declares

module _ (before behind : List Def) (def : Def) where
  -- what a definition of this node declares here
  abbrev syntaxes_at : DefNode → List SyntaxDef
  syntaxes_at node = syntaxes (flat_map declared_by (map (λ node. record def { node = node }) (joined_node before node behind)))

  none-at : (node : DefNode) → IsNoSyntax node → syntaxes_at node ≡ []
  none-at (Syntax name fragment b) h = absurd h
  none-at (Var name typ) h = refl
  none-at (Relation name n) h = refl
  none-at (Rule r name e ps) h = refl
  none-at (Fun name ps t) h = refl
  none-at (Clause name as' e ps) h = refl

  pub no-syntax : IsNoSyntax def.node → syntaxes (flat_map declared_by (joined_at before def behind)) ≡ []
  no-syntax h = none-at def.node h

  pub whole-syntax : (name : List ℕ) (b : Body) → def.node ≡ Syntax name None b
      → syntaxes (flat_map declared_by (joined_at before def behind)) ≡ record { name = name; body = body_of b } ∷ []
  whole-syntax name b is = ap syntaxes_at is

  pub later-syntax : (name piece : List ℕ) (b : Body) → def.node ≡ Syntax name (Some piece) b → has_fragment name before ≡ true
      → syntaxes (flat_map declared_by (joined_at before def behind)) ≡ []
  later-syntax name piece b is h =
      ap syntaxes_at is
      ∙ ap (λ c. syntaxes (flat_map declared_by (map (λ node. record def { node = node }) (if c then [] else Syntax name None (joined b (alternatives name behind)) ∷ [])))) h

  pub first-syntax : (name piece : List ℕ) (b : Body) → def.node ≡ Syntax name (Some piece) b → has_fragment name before ≡ false
      → syntaxes (flat_map declared_by (joined_at before def behind)) ≡ record { name = name; body = body_with b (own b ++ alternatives_before name behind) } ∷ []
  first-syntax name piece b is h =
      ap syntaxes_at is
      ∙ ap (λ c. syntaxes (flat_map declared_by (map (λ node. record def { node = node }) (if c then [] else Syntax name None (joined b (alternatives name behind)) ∷ [])))) h
      ∙ ap (λ (x : SyntaxBody). record { name = name; body = x } ∷ []) (sym (joined-with b (alternatives name behind)) ∙ ap (body_with b) (flat_map-append alternative_of (alternatives_in b) (alternatives name behind)))

-- ---- the alternatives of the fragments before and behind

module _ (q : List ℕ) (def : Def) where
  abbrev gathered_by : List Def → Bool → List Alternative
  gathered_by behind c = flat_map alternative_of (flat_map (λ (def : Def). alternatives_of def.node) (if c then def ∷ filter (is_fragment q) behind else filter (is_fragment q) behind))

  behind-other : (behind : List Def) → is_fragment q def ≡ false → alternatives_before q (def ∷ behind) ≡ alternatives_before q behind
  behind-other behind none = ap (gathered_by behind) none

  behind-same : (behind : List Def) (name piece : List ℕ) (b : Body) → def.node ≡ Syntax name (Some piece) b → is_fragment q def ≡ true
      → alternatives_before q (def ∷ behind) ≡ own b ++ alternatives_before q behind
  behind-same behind name piece b is one =
      ap (gathered_by behind) one
      ∙ ap (λ node. flat_map alternative_of (alternatives_of node ++ alternatives q behind)) is
      ∙ flat_map-append alternative_of (alternatives_in b) (alternatives q behind)

  before-other : (before : List Def) → is_fragment q def ≡ false → alternatives_before q (before ++ def ∷ []) ≡ alternatives_before q before
  before-other before none = parts-append q before (def ∷ []) ∙ ap (λ xs. alternatives_before q before ++ xs) (behind-other [] none) ∙ append-nil (alternatives_before q before)

  before-same : (before : List Def) (name piece : List ℕ) (b : Body) → def.node ≡ Syntax name (Some piece) b → is_fragment q def ≡ true
      → alternatives_before q (before ++ def ∷ []) ≡ alternatives_before q before ++ own b
  before-same before name piece b is one =
      parts-append q before (def ∷ [])
      ∙ ap (λ xs. alternatives_before q before ++ xs) (behind-same [] name piece b is one ∙ append-nil (own b))

-- ---- the walk goes on

module _ (D : Decls) (before behind : List Def) (def : Def) where
  -- a definition that is no fragment of this name
  begun-other : (q : List ℕ) (o : Option Begun) → is_fragment q def ≡ false → IsBegun D before (def ∷ behind) q o → IsBegun D (before ++ def ∷ []) behind q o
  begun-other q None none h = has-same q before def none ∙ h
  begun-other q (Some b) none (is, more) = (has-same q before def none ∙ is, λ on. move (more (ap (λ c. c || has_fragment q behind) none ∙ on)))
    where
      move : HasBegun D before (def ∷ behind) q b → HasBegun D (before ++ def ∷ []) behind q b
      move k = record {
        there = subst (λ xs. IsSyntax D b.syntax q (body.Variant xs)) (λ i. sym (before-other q def before none) i ++ behind-other q def behind none i) k.there;
        been = subst (λ xs. HaveBeen D b.syntax xs b.alternatives) (sym (before-other q def before none)) k.been;
      }

  module _ (name piece : List ℕ) (b : Body) (is : def.node ≡ Syntax name (Some piece) b) where
    fragment : (q : List ℕ) → is_fragment q def ≡ same_name q name
    fragment q = ap (is_fragment_node q) is

    one : is_fragment name def ≡ true
    one = fragment name ∙ same-refl name

    pub has-more : has_fragment name (before ++ def ∷ []) ≡ true
    has-more = any-more (is_fragment name) before def ∙ ap (λ c. has_fragment name before || c) one ∙ or-true (has_fragment name before)
      where
        or-true : (a : Bool) → (a || true) ≡ true
        or-true true = refl
        or-true false = refl

    -- what is kept of the syntax of a fragment, where there is another one behind
    pub begun-more : (k to : ℕ) → IsSyntax D k name (body.Variant (alternatives_before name before ++ (own b ++ alternatives_before name behind)))
        → HaveBeen D k (alternatives_before name before ++ own b) to
        → HasBegun D (before ++ def ∷ []) behind name (record { syntax = k; alternatives = to })
    begun-more k to there been = record {
      there = subst (λ xs. IsSyntax D k name (body.Variant xs)) (sym (ap (λ xs. xs ++ alternatives_before name behind) so_far ∙ append_assoc (alternatives_before name before) (own b) (alternatives_before name behind))) there;
      been = subst (λ xs. HaveBeen D k xs to) (sym so_far) been;
    }
      where
        so_far : alternatives_before name (before ++ def ∷ []) ≡ alternatives_before name before ++ own b
        so_far = before-same name def before name piece b is one

    -- what was begun before, with the alternatives of this fragment
    pub begun-there : (k : Begun) → IsBegun D before (def ∷ behind) name (Some k) → HasBegun D before (def ∷ behind) name k
    begun-there k (has, more) = more (ap (λ c. c || has_fragment name behind) one)

    pub begun-parts : (k : Begun) → HasBegun D before (def ∷ behind) name k
        → IsSyntax D k.syntax name (body.Variant (alternatives_before name before ++ (own b ++ alternatives_before name behind)))
    begun-parts k h = subst (λ xs. IsSyntax D k.syntax name (body.Variant (alternatives_before name before ++ xs))) (behind-same name def behind name piece b is one) h.there

    pub begun-put : (new old : List (Bor (List ℕ) × Begun)) (k : Begun) → ((q : List ℕ) → at new q ≡ (if same_name q name then Some k else at old q))
        → (has_fragment name behind ≡ true → HasBegun D (before ++ def ∷ []) behind name k)
        → ((q : List ℕ) → IsBegun D before (def ∷ behind) q (at old q)) → (q : List ℕ) → IsBegun D (before ++ def ∷ []) behind q (at new q)
    begun-put new old k put here others q = subst (IsBegun D (before ++ def ∷ []) behind q) (sym (put q)) (by (same_name q name) refl)
      where
        by : (c : Bool) → same_name q name ≡ c → IsBegun D (before ++ def ∷ []) behind q (if c then Some k else at old q)
        by true same = subst (λ q. IsBegun D (before ++ def ∷ []) behind q (Some k)) (sym (same-equal q name same)) (has-more, here)
        by false other = begun-other q (at old q) (fragment q ∙ other) (others q)

  module _ (walk : Walk) (come : HasCome D before (def ∷ behind) walk) where
    -- the syntaxes from here on
    ahead : drop walk.next D.types
        ≡ syntaxes (flat_map declared_by (joined_at before def behind)) ++ syntaxes (flat_map declared_by (joined_behind (before ++ def ∷ []) behind))
    ahead =
        come.ahead ∙ ap syntaxes (flat_map-append declared_by (joined_at before def behind) (joined_behind (before ++ def ∷ []) behind))
        ∙ syntaxes-append (flat_map declared_by (joined_at before def behind)) (flat_map declared_by (joined_behind (before ++ def ∷ []) behind))

    abbrev later : List SyntaxDef
    later = syntaxes (flat_map declared_by (joined_behind (before ++ def ∷ []) behind))

    pub ahead-same : syntaxes (flat_map declared_by (joined_at before def behind)) ≡ [] → drop walk.next D.types ≡ later
    ahead-same none = ahead ∙ ap (λ xs. xs ++ later) none

    module _ (name : List ℕ) (b : SyntaxBody) (new : syntaxes (flat_map declared_by (joined_at before def behind)) ≡ record { name = name; body = b } ∷ []) where
      pub new-there : IsSyntax D walk.next name b
      new-there = front-get D.types walk.next (record { name = name; body = b }) later (ahead ∙ ap (λ xs. xs ++ later) new)

      pub new-ahead : drop (walk.next + 1) D.types ≡ later
      new-ahead =
          let more : walk.next + 1 ≡ suc walk.next = omega arith in
          ap (λ n. drop n D.types) more ∙ front-rest D.types walk.next (record { name = name; body = b }) later (ahead ∙ ap (λ xs. xs ++ later) new)

    -- the definition is no fragment
    pub begun-skip : ((q : List ℕ) → is_fragment q def ≡ false) → (q : List ℕ) → IsBegun D (before ++ def ∷ []) behind q (at walk.begun.entries q)
    begun-skip none q = begun-other q (at walk.begun.entries q) (none q) (come.begun q)

pub no-fragment : (node : DefNode) → IsNoSyntax node → (q : List ℕ) → is_fragment_node q node ≡ false
no-fragment (Syntax name fragment b) h q = absurd h
no-fragment (Var name typ) h q = refl
no-fragment (Relation name n) h q = refl
no-fragment (Rule r name e ps) h q = refl
no-fragment (Fun name ps t) h q = refl
no-fragment (Clause name as' e ps) h q = refl

-- ---- a syntax that is no fragment, and is declared once

declares-too : (name : List ℕ) (b : Body) (node : DefNode) → is_fragment_node name node ≡ true → declare_same (Syntax name None b) node ≡ true
declares-too name b (Syntax other None rest) h = absurd (true≢false (sym h))
declares-too name b (Syntax other (Some piece) rest) h = ap (λ c. c && true) h
declares-too name b (Var other typ) h = absurd (true≢false (sym h))
declares-too name b (Relation other n) h = absurd (true≢false (sym h))
declares-too name b (Rule r other e ps) h = absurd (true≢false (sym h))
declares-too name b (Fun other ps t) h = absurd (true≢false (sym h))
declares-too name b (Clause other as' e ps) h = absurd (true≢false (sym h))

once-by : (name : List ℕ) (b : Body) (other : Def) (before : List Def) (c e : Bool) → is_fragment name other ≡ c → declare_same (Syntax name None b) other.node ≡ e
    → (list_any (λ (other : Def). declare_same (Syntax name None b) other.node) before ≡ false → has_fragment name before ≡ false)
    → (e || list_any (λ (other : Def). declare_same (Syntax name None b) other.node) before) ≡ false → (c || has_fragment name before) ≡ false
once-by name b other before true true found is more h = absurd (true≢false h)
once-by name b other before true false found is more h = absurd (true≢false (sym (declares-too name b other.node found) ∙ is))
once-by name b other before false true found is more h = absurd (true≢false h)
once-by name b other before false false found is more h = more h

pub once : (name : List ℕ) (b : Body) (before : List Def) → list_any (λ (other : Def). declare_same (Syntax name None b) other.node) before ≡ false → has_fragment name before ≡ false
once name b [] h = refl
once name b (other ∷ before) h =
    once-by name b other before (is_fragment name other) (declare_same (Syntax name None b) other.node) refl refl (once name b before) h

-- nothing is declared twice, at each place
pub new-at : (D : Decls) (before ds : List Def) (i : ℕ) (def : Def) → slice_get ds i ≡ Some def → AllPass D (phase on_declaration (definitions_from before ds))
    → list_any (λ (other : Def). declare_same def.node other.node) (before ++ take i ds) ≡ false
new-at D before [] zero def e h = cc
new-at D before [] (suc i) def e h = cc
new-at D before (d ∷ ds) zero def e (here, rest) =
    let same : d ≡ def = cc in
    ap (list_any (λ (other : Def). declare_same def.node other.node)) (append-nil before)
    ∙ subst (λ (def : Def). list_any (λ (other : Def). declare_same def.node other.node) before ≡ false) same here
new-at D before (d ∷ ds) (suc i) def e (here, rest) =
    ap (list_any (λ (other : Def). declare_same def.node other.node)) (sym (append_assoc before (d ∷ []) (take i ds)))
    ∙ new-at D (before ++ d ∷ []) ds i def e rest
