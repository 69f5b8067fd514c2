-- What is declared before a definition, by the names that are kept of the definitions before it.
use Rattle.std.proofs.Common.{◌≡◌, refl, sym, ap, ◌∙◌, ℕ, Bool, true, false, true≢false, not, ◌||◌, ◌&&◌, ◌⊎◌, inl, inr, Some, None, List, [], ◌∷◌, ◌++◌}
use Rattle.std.specs.List.{list_any}
use Rattle.st_num.specs.Names.{same_name}
use Rattle.st_el.specs.Erasure.{is_fragment, is_fragment_node}
use Rattle.st_el.specs.declared.definition.Body.{Body}
use Rattle.st_el.specs.declared.definition.Def.{Def}
use Rattle.st_el.specs.declared.definition.DefNode.{DefNode}
use Rattle.st_el.specs.declared.definition.DefNode.TheVariants.{Syntax, Var, Relation, Rule, Fun, Clause}
use Rattle.st_el.specs.declared.definition.Prem.{Prem}
use Rattle.st_el.specs.declared.expression.Exp.{Exp}
use Rattle.st_el.specs.declared.notation.Notation.{Notation}
use Rattle.st_el.specs.declared.ty.Typ.{Typ}
use Rattle.st_elab_def.specs.declared.declarations.Declared.{Declared}
use Rattle.st_elab_def.specs.Declarations.{declare_same}
use Rattle.st_elab_def.specs.inner.Declaring.{is_whole, is_var, is_relation, is_fun, any_def, Knows}
use Rattle.st_ilcheck.specs.Index.{has}
use Rattle.st_type_table.proofs.InsertionLemmas.{any-more}

-- ---- tests of definitions

-- tests that agree on each definition find the same
pub any-same : {A : Type 0} (f g : A → Bool) (xs : List A) → ((x : A) → f x ≡ g x) → list_any f xs ≡ list_any g xs
any-same f g [] h = refl
any-same f g (x ∷ xs) h = λ i. h x i || any-same f g xs h i

or-four : (a b c d : Bool) → ((a || b) || (c || d)) ≡ ((a || c) || (b || d))
or-four true b c d = refl
or-four false true true d = refl
or-four false true false d = refl
or-four false false c d = refl

-- what one of two tests finds
pub any-either : {A : Type 0} (f g : A → Bool) (xs : List A) → list_any (λ x. f x || g x) xs ≡ (list_any f xs || list_any g xs)
any-either f g [] = refl
any-either f g (x ∷ xs) =
    ap (λ b. (f x || g x) || b) (any-either f g xs) ∙ or-four (f x) (g x) (list_any f xs) (list_any g xs)

pub and-true : (a : Bool) → (a && true) ≡ a
and-true true = refl
and-true false = refl

and-false : (a : Bool) → (a && false) ≡ false
and-false true = refl
and-false false = refl

or-false : (a : Bool) → (a || false) ≡ a
or-false true = refl
or-false false = refl

-- ---- what declares the same

whole-same : (name : List ℕ) (body : Body) (node : DefNode) → declare_same (Syntax name None body) node ≡ (is_whole name node || is_fragment_node name node)
whole-same name body (Syntax other None rest) = and-true (same_name name other) ∙ sym (or-false (same_name name other))
whole-same name body (Syntax other (Some piece) rest) = and-true (same_name name other)
whole-same name body (Var other typ) = refl
whole-same name body (Relation other notation) = refl
whole-same name body (Rule relation other conclusion premises) = refl
whole-same name body (Fun other params value) = refl
whole-same name body (Clause other args value premises) = refl

pub fragment-same : (name piece : List ℕ) (body : Body) (node : DefNode) → declare_same (Syntax name (Some piece) body) node ≡ is_whole name node
fragment-same name piece body (Syntax other None rest) = and-true (same_name name other)
fragment-same name piece body (Syntax other (Some more) rest) = and-false (same_name name other)
fragment-same name piece body (Var other typ) = refl
fragment-same name piece body (Relation other notation) = refl
fragment-same name piece body (Rule relation other conclusion premises) = refl
fragment-same name piece body (Fun other params value) = refl
fragment-same name piece body (Clause other args value premises) = refl

var-same : (name : List ℕ) (typ : Typ) (node : DefNode) → declare_same (Var name typ) node ≡ is_var name node
var-same name typ (Syntax other fragment rest) = refl
var-same name typ (Var other typ2) = refl
var-same name typ (Relation other notation) = refl
var-same name typ (Rule relation other conclusion premises) = refl
var-same name typ (Fun other params value) = refl
var-same name typ (Clause other args value premises) = refl

relation-same : (name : List ℕ) (n : Notation) (node : DefNode) → declare_same (Relation name n) node ≡ is_relation name node
relation-same name n (Syntax other fragment rest) = refl
relation-same name n (Var other typ) = refl
relation-same name n (Relation other notation) = refl
relation-same name n (Rule relation other conclusion premises) = refl
relation-same name n (Fun other params value) = refl
relation-same name n (Clause other args value premises) = refl

fun-same : (name : List ℕ) (ps : List Typ) (t : Typ) (node : DefNode) → declare_same (Fun name ps t) node ≡ is_fun name node
fun-same name ps t (Syntax other fragment rest) = refl
fun-same name ps t (Var other typ) = refl
fun-same name ps t (Relation other notation) = refl
fun-same name ps t (Rule relation other conclusion premises) = refl
fun-same name ps t (Fun other params value) = refl
fun-same name ps t (Clause other args value premises) = refl

none-same : (node : DefNode) (before : List Def) → ((other : DefNode) → declare_same node other ≡ false) → list_any (λ (other : Def). declare_same node other.node) before ≡ false
none-same node [] h = refl
none-same node (def ∷ before) h = ap (λ b. b || list_any (λ (other : Def). declare_same node other.node) before) (h def.node) ∙ none-same node before h

module _ (before : List Def) (declared : Declared) (knows : Knows before declared) where
  -- what the definitions before declare the same as one
  abbrev same_as : DefNode → Bool
  same_as node = list_any (λ (other : Def). declare_same node other.node) before

  pub declared-whole : (name : List ℕ) (body : Body) → (has declared.whole.keys name || has declared.fragments.keys name) ≡ same_as (Syntax name None body)
  declared-whole name body =
      (λ i. knows.whole name i || knows.fragments name i)
      ∙ sym (any-either (λ (def : Def). is_whole name def.node) (is_fragment name) before)
      ∙ sym (any-same (λ (def : Def). declare_same (Syntax name None body) def.node) (λ (def : Def). is_whole name def.node || is_fragment name def) before
      (λ def. whole-same name body def.node))

  pub declared-fragment : (name piece : List ℕ) (body : Body) → has declared.whole.keys name ≡ same_as (Syntax name (Some piece) body)
  declared-fragment name piece body =
      knows.whole name
      ∙ sym (any-same (λ (def : Def). declare_same (Syntax name (Some piece) body) def.node) (λ (def : Def). is_whole name def.node) before
      (λ def. fragment-same name piece body def.node))

  pub declared-var : (name : List ℕ) (typ : Typ) → has declared.vars.keys name ≡ same_as (Var name typ)
  declared-var name typ =
      knows.vars name
      ∙ sym (any-same (λ (def : Def). declare_same (Var name typ) def.node) (λ (def : Def). is_var name def.node) before (λ def. var-same name typ def.node))

  pub declared-relation : (name : List ℕ) (n : Notation) → has declared.relations.keys name ≡ same_as (Relation name n)
  declared-relation name n =
      knows.relations name
      ∙ sym (any-same (λ (def : Def). declare_same (Relation name n) def.node) (λ (def : Def). is_relation name def.node) before (λ def. relation-same name n def.node))

  pub declared-fun : (name : List ℕ) (ps : List Typ) (t : Typ) → has declared.funs.keys name ≡ same_as (Fun name ps t)
  declared-fun name ps t =
      knows.funs name
      ∙ sym (any-same (λ (def : Def). declare_same (Fun name ps t) def.node) (λ (def : Def). is_fun name def.node) before (λ def. fun-same name ps t def.node))

-- ---- one more definition

-- a set that has the names that pass has those of one more definition, where it gets that one's
pub more-known : (test : List ℕ → DefNode → Bool) (before : List Def) (def : Def) (node : DefNode) (old new : List ℕ → Bool) → def.node ≡ node
    → ((q : List ℕ) → old q ≡ any_def (test q) before) → ((q : List ℕ) → new q ≡ (old q || test q node))
    → (q : List ℕ) → new q ≡ any_def (test q) (before ++ def ∷ [])
more-known test before def node old new is h k q =
    k q ∙ ap (λ b. b || test q node) (h q) ∙ ap (λ n. any_def (test q) before || test q n) (sym is) ∙ sym (any-more (λ (other : Def). test q other.node) before def)

-- a set that stays, where the definition adds nothing to it
pub none-known : (test : List ℕ → DefNode → Bool) (before : List Def) (def : Def) (node : DefNode) (old : List ℕ → Bool) → def.node ≡ node
    → ((q : List ℕ) → old q ≡ any_def (test q) before) → ((q : List ℕ) → test q node ≡ false)
    → (q : List ℕ) → old q ≡ any_def (test q) (before ++ def ∷ [])
none-known test before def node old is h none =
    more-known test before def node old old is h (λ q. sym (or-false (old q)) ∙ ap (λ b. old q || b) (sym (none q)))

-- ---- what is known of one more definition

module _ (before : List Def) (def : Def) (old new : Declared) (knows : Knows before old) where
  -- the definition declares none of this
  stays : (test : List ℕ → DefNode → Bool) (node : DefNode) (one other : List ℕ → Bool) → def.node ≡ node
      → ((q : List ℕ) → one q ≡ any_def (test q) before) → ((q : List ℕ) → other q ≡ one q) → ((q : List ℕ) → test q node ≡ false)
      → (q : List ℕ) → other q ≡ any_def (test q) (before ++ def ∷ [])
  stays test node one other is h same none q = same q ∙ none-known test before def node one is h none q

  pub knows-whole : (name : List ℕ) (body : Body) → def.node ≡ Syntax name None body
      → ((q : List ℕ) → has new.whole.keys q ≡ (has old.whole.keys q || same_name q name))
      → new.fragments ≡ old.fragments → new.vars ≡ old.vars → new.relations ≡ old.relations → new.funs ≡ old.funs → Knows (before ++ def ∷ []) new
  knows-whole name body is more f v r u = record {
    whole = more-known is_whole before def (Syntax name None body) (has old.whole.keys) (has new.whole.keys) is knows.whole more;
    fragments = stays is_fragment_node (Syntax name None body) (has old.fragments.keys) (has new.fragments.keys) is knows.fragments (λ q. ap (λ s. has s.keys q) f) (λ q. refl);
    vars = stays is_var (Syntax name None body) (has old.vars.keys) (has new.vars.keys) is knows.vars (λ q. ap (λ s. has s.keys q) v) (λ q. refl);
    relations = stays is_relation (Syntax name None body) (has old.relations.keys) (has new.relations.keys) is knows.relations (λ q. ap (λ s. has s.keys q) r) (λ q. refl);
    funs = stays is_fun (Syntax name None body) (has old.funs.keys) (has new.funs.keys) is knows.funs (λ q. ap (λ s. has s.keys q) u) (λ q. refl);
  }

  pub knows-fragment : (name piece : List ℕ) (body : Body) → def.node ≡ Syntax name (Some piece) body
      → ((q : List ℕ) → has new.fragments.keys q ≡ (has old.fragments.keys q || same_name q name))
      → new.whole ≡ old.whole → new.vars ≡ old.vars → new.relations ≡ old.relations → new.funs ≡ old.funs → Knows (before ++ def ∷ []) new
  knows-fragment name piece body is more w v r u = record {
    whole = stays is_whole (Syntax name (Some piece) body) (has old.whole.keys) (has new.whole.keys) is knows.whole (λ q. ap (λ s. has s.keys q) w) (λ q. refl);
    fragments = more-known is_fragment_node before def (Syntax name (Some piece) body) (has old.fragments.keys) (has new.fragments.keys) is knows.fragments more;
    vars = stays is_var (Syntax name (Some piece) body) (has old.vars.keys) (has new.vars.keys) is knows.vars (λ q. ap (λ s. has s.keys q) v) (λ q. refl);
    relations = stays is_relation (Syntax name (Some piece) body) (has old.relations.keys) (has new.relations.keys) is knows.relations (λ q. ap (λ s. has s.keys q) r) (λ q. refl);
    funs = stays is_fun (Syntax name (Some piece) body) (has old.funs.keys) (has new.funs.keys) is knows.funs (λ q. ap (λ s. has s.keys q) u) (λ q. refl);
  }

  pub knows-var : (name : List ℕ) (typ : Typ) → def.node ≡ Var name typ
      → ((q : List ℕ) → has new.vars.keys q ≡ (has old.vars.keys q || same_name q name))
      → new.whole ≡ old.whole → new.fragments ≡ old.fragments → new.relations ≡ old.relations → new.funs ≡ old.funs → Knows (before ++ def ∷ []) new
  knows-var name typ is more w f r u = record {
    whole = stays is_whole (Var name typ) (has old.whole.keys) (has new.whole.keys) is knows.whole (λ q. ap (λ s. has s.keys q) w) (λ q. refl);
    fragments = stays is_fragment_node (Var name typ) (has old.fragments.keys) (has new.fragments.keys) is knows.fragments (λ q. ap (λ s. has s.keys q) f) (λ q. refl);
    vars = more-known is_var before def (Var name typ) (has old.vars.keys) (has new.vars.keys) is knows.vars more;
    relations = stays is_relation (Var name typ) (has old.relations.keys) (has new.relations.keys) is knows.relations (λ q. ap (λ s. has s.keys q) r) (λ q. refl);
    funs = stays is_fun (Var name typ) (has old.funs.keys) (has new.funs.keys) is knows.funs (λ q. ap (λ s. has s.keys q) u) (λ q. refl);
  }

  pub knows-relation : (name : List ℕ) (n : Notation) → def.node ≡ Relation name n
      → ((q : List ℕ) → has new.relations.keys q ≡ (has old.relations.keys q || same_name q name))
      → new.whole ≡ old.whole → new.fragments ≡ old.fragments → new.vars ≡ old.vars → new.funs ≡ old.funs → Knows (before ++ def ∷ []) new
  knows-relation name n is more w f v u = record {
    whole = stays is_whole (Relation name n) (has old.whole.keys) (has new.whole.keys) is knows.whole (λ q. ap (λ s. has s.keys q) w) (λ q. refl);
    fragments = stays is_fragment_node (Relation name n) (has old.fragments.keys) (has new.fragments.keys) is knows.fragments (λ q. ap (λ s. has s.keys q) f) (λ q. refl);
    vars = stays is_var (Relation name n) (has old.vars.keys) (has new.vars.keys) is knows.vars (λ q. ap (λ s. has s.keys q) v) (λ q. refl);
    relations = more-known is_relation before def (Relation name n) (has old.relations.keys) (has new.relations.keys) is knows.relations more;
    funs = stays is_fun (Relation name n) (has old.funs.keys) (has new.funs.keys) is knows.funs (λ q. ap (λ s. has s.keys q) u) (λ q. refl);
  }

  pub knows-fun : (name : List ℕ) (ps : List Typ) (t : Typ) → def.node ≡ Fun name ps t
      → ((q : List ℕ) → has new.funs.keys q ≡ (has old.funs.keys q || same_name q name))
      → new.whole ≡ old.whole → new.fragments ≡ old.fragments → new.vars ≡ old.vars → new.relations ≡ old.relations → Knows (before ++ def ∷ []) new
  knows-fun name ps t is more w f v r = record {
    whole = stays is_whole (Fun name ps t) (has old.whole.keys) (has new.whole.keys) is knows.whole (λ q. ap (λ s. has s.keys q) w) (λ q. refl);
    fragments = stays is_fragment_node (Fun name ps t) (has old.fragments.keys) (has new.fragments.keys) is knows.fragments (λ q. ap (λ s. has s.keys q) f) (λ q. refl);
    vars = stays is_var (Fun name ps t) (has old.vars.keys) (has new.vars.keys) is knows.vars (λ q. ap (λ s. has s.keys q) v) (λ q. refl);
    relations = stays is_relation (Fun name ps t) (has old.relations.keys) (has new.relations.keys) is knows.relations (λ q. ap (λ s. has s.keys q) r) (λ q. refl);
    funs = more-known is_fun before def (Fun name ps t) (has old.funs.keys) (has new.funs.keys) is knows.funs more;
  }

-- ---- whether a definition is new

is_false : (x : Bool) → true ≡ not x → x ≡ false
is_false true h = h
is_false false h = refl

is_true : (x : Bool) → false ≡ not x → x ≡ true
is_true true h = refl
is_true false h = h

module _ (before : List Def) (declared : Declared) (knows : Knows before declared) (name : List ℕ) (body : Body) (node : DefNode) (is : node ≡ Syntax name None body) where
  abbrev same_as_whole : Bool
  same_as_whole = list_any (λ (other : Def). declare_same node other.node) before

  whole_is : (has declared.whole.keys name || has declared.fragments.keys name) ≡ same_as_whole
  whole_is = declared-whole before declared knows name body ∙ ap (λ n. list_any (λ (other : Def). declare_same n other.node) before) (sym is)

  pub whole-first : (new in_part : Bool) → new ≡ not (has declared.whole.keys name) → in_part ≡ has declared.fragments.keys name → new ≡ true → not in_part ≡ not same_as_whole
  whole-first new in_part added found first =
      ap not (found ∙ ap (λ b. b || has declared.fragments.keys name) (sym (is_false (has declared.whole.keys name) (sym first ∙ added))) ∙ whole_is)

  pub whole-again : (new : Bool) → new ≡ not (has declared.whole.keys name) → new ≡ false → new ≡ not same_as_whole
  whole-again new added again =
      again ∙ ap not (ap (λ b. b || has declared.fragments.keys name) (sym (is_true (has declared.whole.keys name) (sym again ∙ added))) ∙ whole_is)

-- what is new declares nothing that was declared before
pub new-passes : (new same : Bool) → new ≡ not same → new ≡ true → same ≡ false
new-passes new same is first = is_false same (sym first ∙ is)

pub new-fails : (new same : Bool) → new ≡ not same → new ≡ false → same ≡ false → ⊥
new-fails new same is again none = true≢false (sym (is_true same (sym again ∙ is)) ∙ none)

-- a rule or a clause declares nothing
pub content-new : (before : List Def) (node : DefNode)
    → ((r : List ℕ) × (name : List ℕ) × (e : Exp) × (ps : List Prem) × (node ≡ Rule r name e ps))
    ⊎ ((name : List ℕ) × (args : List Exp) × (e : Exp) × (ps : List Prem) × (node ≡ Clause name args e ps))
    → true ≡ not (list_any (λ (other : Def). declare_same node other.node) before)
content-new before node (inl h) =
    sym (ap not (ap (λ n. list_any (λ (other : Def). declare_same n other.node) before) h.4 ∙ none-same (Rule h.0 h.1 h.2 h.3) before (λ other. refl)))
content-new before node (inr h) =
    sym (ap not (ap (λ n. list_any (λ (other : Def). declare_same n other.node) before) h.4 ∙ none-same (Clause h.0 h.1 h.2 h.3) before (λ other. refl)))
