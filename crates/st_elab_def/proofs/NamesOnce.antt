-- What the definitions of an elaborated source declare is declared once.
use Rattle.std.proofs.Common.{◌≡◌, refl, sym, ap, ap₂, ◌∙◌, subst, ℕ, suc, List, [], ◌∷◌, ◌++◌, map, flat_map, append-nil, Bool, true, false, not, ◌&&◌, ◌||◌, Some, None}
use Rattle.std.specs.Prelude.{if◌then◌else◌, bytes_eq}
use Rattle.std.specs.List.{AllByRecursion, list_any}
use Rattle.std.proofs.lemmas.Bool.{true≢false}
use Rattle.std.proofs.lemmas.Slice.Eq.{bytes_eq-Decides}
use Rattle.std.proofs.lemmas.List.Folds.{list_any-append}
use Rattle.std.proofs.lemmas.Grind.{flat_map-append}
use Rattle.st_el.specs.declared.definition.Body.{Body}
use Rattle.st_el.specs.declared.definition.Def.{Def}
use Rattle.st_el.specs.declared.definition.DefNode.{DefNode}
use Rattle.st_el.specs.declared.definition.DefNode.TheVariants.{Syntax, Var, Relation, Rule, Fun, Clause}
use Rattle.st_el.specs.Erasure.{is_fragment, alternatives, joined as joined_body, joined_node, joined_at, joined_behind}
use Rattle.st_il.specs.Names.{has_name}
use Rattle.st_ilcheck.specs.Naming.{is_once}
use Rattle.st_ilcheck.specs.Declarations.{times}
use Rattle.st_elab_table.specs.declared.decls.Decls.{Decls}
use Rattle.st_elab_def.specs.Breaches.{AllPass}
use Rattle.st_elab_def.specs.Definitions.{Definition, definitions_from}
use Rattle.st_elab_def.specs.Phases.{Placed, phase}
use Rattle.st_elab_def.specs.inner.Walk.{standing, AllPassAt, asked_of}
use Rattle.st_elab_def.proofs.AllPass.{AllPass-front, AllPass-back, AllPass-at}

-- ---- tests

false_left : (a b : Bool) → (a || b) ≡ false → a ≡ false
false_left true b h = h
false_left false b h = refl

false_right : (a b : Bool) → (a || b) ≡ false → b ≡ false
false_right true b h = absurd (true≢false h)
false_right false b h = h

or_false : (a b : Bool) → a ≡ false → b ≡ false → (a || b) ≡ false
or_false true b h k = h
or_false false b h k = k

and_left : (a b : Bool) → (a && b) ≡ true → a ≡ true
and_left true b h = refl
and_left false b h = h

and_right : (a b : Bool) → (a && b) ≡ true → b ≡ true
and_right true b h = h
and_right false b h = absurd (true≢false (sym h))

and_both : (a b : Bool) → a ≡ true → b ≡ true → (a && b) ≡ true
and_both true b h k = k
and_both false b h k = absurd (true≢false (sym h))

not_false : (b : Bool) → not b ≡ true → b ≡ false
not_false true h = absurd (true≢false (sym h))
not_false false h = refl

swapped : (x y : List ℕ) → bytes_eq x y ≡ false → bytes_eq y x ≡ false
swapped x y h = by (bytes_eq y x) refl
  where
    by : (b : Bool) → bytes_eq y x ≡ b → bytes_eq y x ≡ false
    by true s =
        let same : y ≡ x = (bytes_eq-Decides y x).0 s in
        absurd (true≢false (sym ((bytes_eq-Decides x y).1 (sym same)) ∙ h))
    by false s = s

-- ---- names that stand once

no_times : (x : List ℕ) (names : List (List ℕ)) → has_name names x ≡ false → times x names ≡ 0
no_times x [] h = refl
no_times x (y ∷ ys) h =
    ap (λ b. if b then suc (times x ys) else times x ys) (false_left (bytes_eq x y) (has_name ys x) h) ∙ no_times x ys (false_right (bytes_eq x y) (has_name ys x) h)

-- a name among names that stand once is one of them once
pub times_once : (names : List (List ℕ)) (x : List ℕ) → is_once names ≡ true → has_name names x ≡ true → times x names ≡ 1
times_once [] x h k = absurd (true≢false (sym k))
times_once (y ∷ ys) x h k = by (bytes_eq x y) refl k (times_once ys x (and_right (not (has_name ys y)) (is_once ys) h))
  where
    by : (b : Bool) → bytes_eq x y ≡ b → (b || has_name ys x) ≡ true → (has_name ys x ≡ true → times x ys ≡ 1) → (if b then suc (times x ys) else times x ys) ≡ 1
    by true s m rest =
        let same : x ≡ y = (bytes_eq-Decides x y).0 s in
        ap suc (no_times x ys (subst (λ z. has_name ys z ≡ false) (sym same) (not_false (has_name ys y) (and_left (not (has_name ys y)) (is_once ys) h))))
    by false s m rest = rest m

-- a name is new behind the names before it
pub front_new : (xs : List (List ℕ)) (y : List ℕ) (zs : List (List ℕ)) → is_once (xs ++ y ∷ zs) ≡ true → has_name xs y ≡ false
front_new [] y zs h = refl
front_new (x ∷ xs) y zs h =
    let first = not_false (has_name (xs ++ y ∷ zs) x) (and_left (not (has_name (xs ++ y ∷ zs) x)) (is_once (xs ++ y ∷ zs)) h) in
    let behind = false_right (has_name xs x) (has_name (y ∷ zs) x) (sym (list_any-append (bytes_eq x) xs (y ∷ zs)) ∙ first) in
    or_false (bytes_eq y x) (has_name xs y) (swapped x y (false_left (bytes_eq x y) (has_name zs x) behind))
    (front_new xs y zs (and_right (not (has_name (xs ++ y ∷ zs) x)) (is_once (xs ++ y ∷ zs)) h))

-- each of these names is none of those
abbrev pub AreNew : List (List ℕ) → List (List ℕ) → Type 0
AreNew before names = AllByRecursion (λ (n : List ℕ). has_name before n ≡ false) names

new_alone : (name : List ℕ) (names : List (List ℕ)) → AreNew (name ∷ []) names → has_name names name ≡ false
new_alone name [] h = refl
new_alone name (n ∷ ns) h = or_false (bytes_eq name n) (has_name ns name) (swapped n name (false_left (bytes_eq n name) false h.0)) (new_alone name ns h.1)

new_front : (xs ys names : List (List ℕ)) → AreNew (xs ++ ys) names → AreNew xs names
new_front xs ys [] h = tt
new_front xs ys (n ∷ ns) h = (false_left (has_name xs n) (has_name ys n) (sym (list_any-append (bytes_eq n) xs ys) ∙ h.0), new_front xs ys ns h.1)

new_back : (xs ys names : List (List ℕ)) → AreNew (xs ++ ys) names → AreNew ys names
new_back xs ys [] h = tt
new_back xs ys (n ∷ ns) h = (false_right (has_name xs n) (has_name ys n) (sym (list_any-append (bytes_eq n) xs ys) ∙ h.0), new_back xs ys ns h.1)

-- names are new behind others, and stand once
pub record AreFresh (before names : List (List ℕ)) : Type 0 where
  pub new : AreNew before names
  pub once : is_once names ≡ true

pub fresh_one : (before : List (List ℕ)) (name : List ℕ) (names : List (List ℕ)) → has_name before name ≡ false → AreFresh (before ++ name ∷ []) names → AreFresh before (name ∷ names)
fresh_one before name names h f = record {
  new = (h, new_front before (name ∷ []) names f.new);
  once = and_both (not (has_name names name)) (is_once names) (ap not (new_alone name names (new_back before (name ∷ []) names f.new))) f.once;
}

-- ---- the names of one kind in a source

module _ (K : DefNode → List (List ℕ)) where
  -- the names of this kind
  abbrev pub kind_names : List Def → List (List ℕ)
  kind_names ds = flat_map (λ (def : Def). K def.node) ds

  kind_append : (xs ys : List Def) → kind_names (xs ++ ys) ≡ kind_names xs ++ kind_names ys
  kind_append xs ys = flat_map-append (λ (def : Def). K def.node) xs ys

  -- a definition has no name of this kind, or one that is new where its condition holds
  pub data HasKind (D : Decls) (on : Definition → List Placed) (d : Definition) : Type 0 where
    nameless : K d.def.node ≡ [] → HasKind D on d
    named : (name : List ℕ) → K d.def.node ≡ name ∷ [] → (AllPassAt D (on d) → has_name (kind_names d.before) name ≡ false) → HasKind D on d

  fresh_by : (D : Decls) (on : Definition → List Placed) (d : Definition) (names : List (List ℕ)) → HasKind D on d → AllPassAt D (on d)
      → AreFresh (kind_names d.before ++ K d.def.node) names → AreFresh (kind_names d.before) (K d.def.node ++ names)
  fresh_by D on d names (nameless is) h f =
      subst (λ z. AreFresh (kind_names d.before) (z ++ names)) (sym is) (subst (λ z. AreFresh z names) (ap (λ z. kind_names d.before ++ z) is ∙ append-nil (kind_names d.before)) f)
  fresh_by D on d names (named name is new) h f =
      subst (λ z. AreFresh (kind_names d.before) (z ++ names)) (sym is) (fresh_one (kind_names d.before) name names (new h) (subst (λ z. AreFresh (kind_names d.before ++ z) names) is f))

  one_def : (def : Def) → kind_names (def ∷ []) ≡ K def.node
  one_def def = append-nil (K def.node)

  -- where each condition on names of this kind passes, they stand once
  pub kind_fresh : (D : Decls) (on : Definition → List Placed) → ((d : Definition) → HasKind D on d) → (before ds : List Def) → AllPass D (phase on (definitions_from before ds))
      → AreFresh (kind_names before) (kind_names ds)
  kind_fresh D on has before [] h = record { new = tt; once = refl }
  kind_fresh D on has before (def ∷ ds) h =
      let here : Definition = standing before def ds in
      fresh_by D on here (kind_names ds) (has here) (AllPass-at D here (on here) (AllPass-front D (asked_of on here) (phase on (definitions_from (before ++ def ∷ []) ds)) h))
      (subst (λ z. AreFresh z (kind_names ds)) (kind_append before (def ∷ []) ∙ ap (λ z. kind_names before ++ z) (one_def def))
      (kind_fresh D on has (before ++ def ∷ []) ds (AllPass-back D (asked_of on here) (phase on (definitions_from (before ++ def ∷ []) ds)) h)))

  -- ---- joined fragments

  module _ (syntaxes : (name : List ℕ) (fragment : _) (b : Body) → K (Syntax name fragment b) ≡ []) where
    joined_syntax : (before : List Def) (def : Def) (node : DefNode) (behind : List Def) → kind_names (map (λ node. record def { node = node }) (joined_node before node behind)) ≡ K node
    joined_syntax before def (Syntax name None b) behind = append-nil (K (Syntax name None b))
    joined_syntax before def (Syntax name (Some piece) b) behind = by (list_any (is_fragment name) before)
      where
        by : (c : Bool) → kind_names (map (λ node. record def { node = node }) (if c then [] else Syntax name None (joined_body b (alternatives name behind)) ∷ [])) ≡ K (Syntax name (Some piece) b)
        by true = sym (syntaxes name (Some piece) b)
        by false = append-nil (K (Syntax name None (joined_body b (alternatives name behind)))) ∙ syntaxes name None (joined_body b (alternatives name behind)) ∙ sym (syntaxes name (Some piece) b)
    joined_syntax before def (Var name t) behind = append-nil (K (Var name t))
    joined_syntax before def (Relation name n) behind = append-nil (K (Relation name n))
    joined_syntax before def (Rule r name e ps) behind = append-nil (K (Rule r name e ps))
    joined_syntax before def (Fun name ts t) behind = append-nil (K (Fun name ts t))
    joined_syntax before def (Clause name as' e ps) behind = append-nil (K (Clause name as' e ps))

    -- joined fragments change no names of this kind
    pub kind_joined : (before ds : List Def) → kind_names (joined_behind before ds) ≡ kind_names ds
    kind_joined before [] = refl
    kind_joined before (def ∷ ds) =
        kind_append (joined_at before def ds) (joined_behind (before ++ def ∷ []) ds)
        ∙ ap₂ (λ a b. a ++ b) (joined_syntax before def def.node ds) (kind_joined (before ++ def ∷ []) ds)

  -- a name is new where nothing before declares the same
  pub new_before : (same : DefNode → Bool) (name : List ℕ) → ((o : DefNode) → has_name (K o) name ≡ same o) → (before : List Def) → list_any (λ (other : Def). same other.node) before ≡ false
      → has_name (kind_names before) name ≡ false
  new_before same name is [] h = refl
  new_before same name is (def ∷ ds) h =
      list_any-append (bytes_eq name) (K def.node) (kind_names ds)
      ∙ or_false (has_name (K def.node) name) (has_name (kind_names ds) name) (is def.node ∙ false_left (same def.node) (list_any (λ (other : Def). same other.node) ds) h)
      (new_before same name is ds (false_right (same def.node) (list_any (λ (other : Def). same other.node) ds) h))
