-- Where no declaration and no body has a breach, the syntaxes of a source are sound.
use Rattle.std.proofs.Common.{◌≡◌, refl, sym, ap, ◌∙◌, subst, ℕ, zero, suc, Bool, true, false, true≢false, ◌||◌, if◌then◌else◌, inl, inr, Some, None, List, [], ◌∷◌, ◌++◌, map, filter, take, append-nil, append_assoc}
use Rattle.std.specs.Prelude.{flat_map, slice_get}
use Rattle.std.specs.List.{list_any}
use Rattle.std.proofs.lemmas.Grind.{flat_map-append}
use Rattle.std.proofs.lemmas.Option.{slice_get_within}
use Rattle.st_num.specs.Names.{same_name}
use Rattle.st_el.specs.Erasure.{is_fragment, is_fragment_node, alternatives, alternatives_of, alternatives_in, joined as joined_body, joined_node, joined_behind}
use Rattle.st_el.specs.declared.definition.Body.{Body}
use Rattle.st_el.specs.declared.definition.Def.{Def}
use Rattle.st_el.specs.declared.definition.DefNode.{DefNode}
use Rattle.st_el.specs.declared.definition.DefNode.TheVariants.{Syntax, Var, Relation, Rule, Fun, Clause}
use Rattle.st_il.specs.declared.definition.SyntaxDef.{SyntaxDef}
use Rattle.st_type_table.specs.declared.fault.Broken.{Broken}
use Rattle.st_type_table.specs.Breach as types
use Rattle.st_type_table.specs.Meaning.{body_of as body_named}
use Rattle.st_elab_law.specs.Agreement.{syntaxes}
use Rattle.st_elab_table.specs.declared.decls.Decls.{Decls}
use Rattle.st_elab_def.specs.Declarations.{declare_same}
use Rattle.st_elab_def.specs.Definitions.{Definition, definitions_from, definitions}
use Rattle.st_elab_def.specs.DeclsOf.{declared_by, decls_of}
use Rattle.st_elab_def.specs.Fragments.{has_fragment}
use Rattle.st_elab_def.specs.Phases.{on_declaration, on_body_at, on_body, on_alternatives, alternatives_before, phase}
use Rattle.st_elab_def.specs.Breaches.{AllPass}
use Rattle.st_elab_def.specs.inner.Declaring.{is_whole, any_def}
use Rattle.st_elab_def.specs.inner.Joining.{joined_of}
use Rattle.st_elab_def.specs.inner.Walk.{standing, AllPassAt, asked_of}
use Rattle.st_elab_def.proofs.Knows.{any-same, any-either, and-true, fragment-same}
use Rattle.st_elab_def.proofs.DeclaredLists.{syntaxes-append}
use Rattle.st_elab_def.proofs.AllHold.{body-holds, fragments-pass, whole-asked, joined-asked}
use Rattle.st_type_table.proofs.InsertionLemmas.{any-more, any-implied, same-refl}
use Rattle.st_elab_def.proofs.AllPass.{AllPass-front, AllPass-back, AllPass-at}

-- ---- the names of syntaxes

-- the definition is one of the syntax of this name
abbrev pub is_syntax : List ℕ → DefNode → Bool
is_syntax q (Syntax other fragment b) = same_name q other
is_syntax q node = false

or-false-left : (a b : Bool) → (a || b) ≡ false → a ≡ false
or-false-left true b h = h
or-false-left false b h = refl

or-false-right : (a b : Bool) → (a || b) ≡ false → b ≡ false
or-false-right true b h = absurd (true≢false h)
or-false-right false b h = h

or-false : (a : Bool) → (a || false) ≡ a
or-false true = refl
or-false false = refl

split-syntax : (name : List ℕ) (node : DefNode) → is_syntax name node ≡ (is_whole name node || is_fragment_node name node)
split-syntax name (Syntax other None b) = sym (or-false (same_name name other))
split-syntax name (Syntax other (Some piece) b) = refl
split-syntax name (Var other t) = refl
split-syntax name (Relation other n) = refl
split-syntax name (Rule r other e ps) = refl
split-syntax name (Fun other ts t) = refl
split-syntax name (Clause other as' e ps) = refl

whole-declares : (name : List ℕ) (b : Body) (node : DefNode) → declare_same (Syntax name None b) node ≡ is_syntax name node
whole-declares name b (Syntax other piece rest) = and-true (same_name name other)
whole-declares name b (Var other t) = refl
whole-declares name b (Relation other n) = refl
whole-declares name b (Rule r other e ps) = refl
whole-declares name b (Fun other ts t) = refl
whole-declares name b (Clause other as' e ps) = refl

-- a fragment is one of its syntax
fragment-implies : (name : List ℕ) (node : DefNode) → is_fragment_node name node ≡ true → is_syntax name node ≡ true
fragment-implies name (Syntax other None b) h = absurd (true≢false (sym h))
fragment-implies name (Syntax other (Some piece) b) h = h
fragment-implies name (Var other t) h = h
fragment-implies name (Relation other n) h = h
fragment-implies name (Rule r other e ps) h = h
fragment-implies name (Fun other ts t) h = h
fragment-implies name (Clause other as' e ps) h = h

not-true : (b : Bool) → (b ≡ true → ⊥) → b ≡ false
not-true true h = absurd (h refl)
not-true false h = refl

-- no fragment stands where no syntax of its name does
no-fragment : (name : List ℕ) (before : List Def) → any_def (is_syntax name) before ≡ false → has_fragment name before ≡ false
no-fragment name before none =
    not-true (has_fragment name before)
    (λ some. true≢false (sym (any-implied (is_fragment name) (λ (def : Def). is_syntax name def.node) before (λ def. fragment-implies name def.node) some) ∙ none))

-- the syntax of a name is new where no definition before declares the same
new-whole : (name : List ℕ) (b : Body) (before : List Def) → list_any (λ (other : Def). declare_same (Syntax name None b) other.node) before ≡ false
    → any_def (is_syntax name) before ≡ false
new-whole name b before h =
    sym (any-same (λ (other : Def). declare_same (Syntax name None b) other.node) (λ (other : Def). is_syntax name other.node) before (λ other. whole-declares name b other.node)) ∙ h

new-fragment : (name piece : List ℕ) (b : Body) (before : List Def) → list_any (λ (other : Def). declare_same (Syntax name (Some piece) b) other.node) before ≡ false
    → has_fragment name before ≡ false → any_def (is_syntax name) before ≡ false
new-fragment name piece b before h none =
    any-same (λ (other : Def). is_syntax name other.node) (λ (other : Def). is_whole name other.node || is_fragment name other) before (λ other. split-syntax name other.node)
    ∙ any-either (λ (other : Def). is_whole name other.node) (is_fragment name) before
    ∙ (λ i. whole i || none i)
  where
    whole : list_any (λ (other : Def). is_whole name other.node) before ≡ false
    whole =
        sym (any-same (λ (other : Def). declare_same (Syntax name (Some piece) b) other.node) (λ (other : Def). is_whole name other.node) before
        (λ other. fragment-same name piece b other.node)) ∙ h

-- ---- the syntax that a definition stands for

-- The syntax is the first of its name, the conditions on its body hold, and it is the definition's.
record IsNew (D : Decls) (d : Definition) (x : SyntaxDef) : Type 0 where
  new : any_def (is_syntax x.name) d.before ≡ false
  holds : types.AllHold D.types (types.on_body x.name x.body)
  named : (q : List ℕ) → is_syntax q d.def.node ≡ same_name q x.name

-- the syntaxes that a definition stands for: none, or one that is new
abbrev Gives : Decls → Definition → List SyntaxDef → Type 0
Gives D d [] = Unit {0}
Gives D d (x ∷ []) = IsNew D d x
Gives D d (x ∷ (y ∷ xs)) = ⊥

-- the syntaxes that these definitions declare, each with the hints and at the place of one
abbrev syntaxes_at : Def → List DefNode → List SyntaxDef
syntaxes_at def nodes = syntaxes (flat_map declared_by (map (λ node. record def { node = node }) nodes))

module _ (D : Decls) (d : Definition) where
  gives-fragment : (name piece : List ℕ) (b : Body) (c : Bool) → d.def.node ≡ Syntax name (Some piece) b → has_fragment name d.before ≡ c
      → list_any (λ (other : Def). declare_same (Syntax name (Some piece) b) other.node) d.before ≡ false
      → AllPassAt D (on_body_at d (Syntax name (Some piece) b))
      → AllPass D (phase on_body (definitions_from d.before (d.def ∷ d.behind)))
      → Gives D d (syntaxes_at d.def (if c then [] else Syntax name None (joined_body b (alternatives name d.behind)) ∷ []))
  gives-fragment name piece b true is later new own all = tt
  gives-fragment name piece b false is first new own all =
      record {
        new = new-fragment name piece b d.before new first;
        holds = body-holds D d.def.at name (joined_body b (alternatives name d.behind))
            (joined-asked D d name piece b first own
            (subst (λ ns. AllPassAt D (on_alternatives name (alternatives_before name d.before) ns)) here (fragments-pass D name d.before (d.def ∷ d.behind) all)));
        named = λ q. ap (is_syntax q) is;
      }
    where
      here : alternatives name (d.def ∷ d.behind) ≡ alternatives_in b ++ alternatives name d.behind
      here =
          ap (λ c. flat_map (λ (def : Def). alternatives_of def.node) (if c then d.def ∷ filter (is_fragment name) d.behind else filter (is_fragment name) d.behind))
          (ap (is_fragment_node name) is ∙ same-refl name)
          ∙ ap (λ node. alternatives_of node ++ alternatives name d.behind) is

  gives : (node : DefNode) → d.def.node ≡ node → list_any (λ (other : Def). declare_same node other.node) d.before ≡ false → AllPassAt D (on_body_at d node)
      → AllPass D (phase on_body (definitions_from d.before (d.def ∷ d.behind))) → Gives D d (syntaxes_at d.def (joined_node d.before node d.behind))
  gives (Syntax name None b) is new own all =
      record {
        new = new-whole name b d.before new;
        holds = body-holds D d.def.at name b (whole-asked D d name b (no-fragment name d.before (new-whole name b d.before new)) own);
        named = λ q. ap (is_syntax q) is;
      }
  gives (Syntax name (Some piece) b) is new own all = gives-fragment name piece b (has_fragment name d.before) is refl new own all
  gives (Var name t) is new own all = tt
  gives (Relation name n) is new own all = tt
  gives (Rule r name e ps) is new own all = tt
  gives (Fun name ts t) is new own all = tt
  gives (Clause name as' e ps) is new own all = tt

-- ---- the names of the syntaxes so far

-- A name that no definition has as that of a syntax is that of none of these.
abbrev Names : List Def → List SyntaxDef → Type 0
Names before pre = (q : List ℕ) → any_def (is_syntax q) before ≡ false → body_named pre q ≡ None

any-last : (q : List ℕ) (before : List Def) (def : Def) → any_def (is_syntax q) (before ++ def ∷ []) ≡ (any_def (is_syntax q) before || is_syntax q def.node)
any-last q before def = any-more (λ (other : Def). is_syntax q other.node) before def

names-same : (before : List Def) (def : Def) (pre : List SyntaxDef) → Names before pre → Names (before ++ def ∷ []) pre
names-same before def pre names q h = names q (or-false-left (any_def (is_syntax q) before) (is_syntax q def.node) (sym (any-last q before def) ∙ h))

unnamed-by : (x y : SyntaxDef) (pre : List SyntaxDef) (q : List ℕ) (c : Bool) → same_name q y.name ≡ c → body_named (y ∷ pre) q ≡ None
    → (body_named pre q ≡ None → body_named (pre ++ x ∷ []) q ≡ None) → body_named (y ∷ (pre ++ x ∷ [])) q ≡ None
unnamed-by x y pre q true is h more =
    let clash : Some y.body ≡ None = sym (ap (λ c. if c then Some y.body else body_named pre q) is) ∙ h in
    cc
unnamed-by x y pre q false is h more =
    ap (λ c. if c then Some y.body else body_named (pre ++ x ∷ []) q) is ∙ more (sym (ap (λ c. if c then Some y.body else body_named pre q) is) ∙ h)

unnamed : (x : SyntaxDef) (pre : List SyntaxDef) (q : List ℕ) → same_name q x.name ≡ false → body_named pre q ≡ None → body_named (pre ++ x ∷ []) q ≡ None
unnamed x [] q other h = ap (λ c. if c then Some x.body else None) other
unnamed x (y ∷ pre) q other h = unnamed-by x y pre q (same_name q y.name) refl h (unnamed x pre q other)

names-more : (before : List Def) (def : Def) (pre : List SyntaxDef) (x : SyntaxDef) → ((q : List ℕ) → is_syntax q def.node ≡ same_name q x.name) → Names before pre
    → Names (before ++ def ∷ []) (pre ++ x ∷ [])
names-more before def pre x is names q h =
    let neither : (any_def (is_syntax q) before || is_syntax q def.node) ≡ false = sym (any-last q before def) ∙ h in
    unnamed x pre q (sym (is q) ∙ or-false-right (any_def (is_syntax q) before) (is_syntax q def.node) neither)
    (names q (or-false-left (any_def (is_syntax q) before) (is_syntax q def.node) neither))

-- ---- all syntaxes

-- all conditions on each of these definitions hold, behind those before it
abbrev SoundFrom : List SyntaxDef → List SyntaxDef → List SyntaxDef → Type 0
SoundFrom defs pre [] = Unit {0}
SoundFrom defs pre (x ∷ rest) = types.AllHold defs (types.conditions_on pre x) × SoundFrom defs (pre ++ x ∷ []) rest

module _ (D : Decls) where
  sound-step : (d : Definition) (pre xs rest : List SyntaxDef) → Names d.before pre → Gives D d xs
      → ((more : List SyntaxDef) → Names (d.before ++ d.def ∷ []) more → SoundFrom D.types more rest) → SoundFrom D.types pre (xs ++ rest)
  sound-step d pre [] rest names given go = go pre (names-same d.before d.def pre names)
  sound-step d pre (x ∷ []) rest names given go =
      ((names x.name given.new, given.holds), go (pre ++ x ∷ []) (names-more d.before d.def pre x given.named names))
  sound-step d pre (x ∷ (y ∷ xs)) rest names given go = absurd given

  sound-from : (before ds : List Def) (pre : List SyntaxDef) → Names before pre → AllPass D (phase on_declaration (definitions_from before ds))
      → AllPass D (phase on_body (definitions_from before ds)) → SoundFrom D.types pre (syntaxes (flat_map declared_by (joined_behind before ds)))
  sound-from before [] pre names declared bodied = tt
  sound-from before (def ∷ ds) pre names declared bodied =
      subst (SoundFrom D.types pre) (sym apart)
      (sound-step here pre (syntaxes_at def (joined_node before def.node ds)) (syntaxes (flat_map declared_by (joined_behind (before ++ def ∷ []) ds))) names
      (gives D here def.node refl new own bodied)
      (λ more fits. sound-from (before ++ def ∷ []) ds more fits (AllPass-back D (asked_of on_declaration here) (phase on_declaration behind) declared)
      (AllPass-back D (asked_of on_body here) (phase on_body behind) bodied)))
    where
      here : Definition
      here = standing before def ds

      behind : List Definition
      behind = definitions_from (before ++ def ∷ []) ds

      apart : syntaxes (flat_map declared_by (joined_behind before (def ∷ ds)))
          ≡ syntaxes_at def (joined_node before def.node ds) ++ syntaxes (flat_map declared_by (joined_behind (before ++ def ∷ []) ds))
      apart =
          ap syntaxes (flat_map-append declared_by (joined_of here) (joined_behind (before ++ def ∷ []) ds))
          ∙ syntaxes-append (flat_map declared_by (joined_of here)) (flat_map declared_by (joined_behind (before ++ def ∷ []) ds))

      new : list_any (λ (other : Def). declare_same def.node other.node) before ≡ false
      new = (AllPass-at D here (on_declaration here) (AllPass-front D (asked_of on_declaration here) (phase on_declaration behind) declared)).0

      own : AllPassAt D (on_body here)
      own = AllPass-at D here (on_body here) (AllPass-front D (asked_of on_body here) (phase on_body behind) bodied)

joined-up : (pre : List SyntaxDef) (x : SyntaxDef) (rest : List SyntaxDef) → (pre ++ x ∷ []) ++ rest ≡ pre ++ x ∷ rest
joined-up pre x rest = append_assoc pre (x ∷ []) rest

sound-at : (defs pre rest : List SyntaxDef) → SoundFrom defs pre rest → (i : ℕ) (x : SyntaxDef) → slice_get rest i ≡ Some x
    → types.AllHold defs (types.conditions_on (pre ++ take i rest) x)
sound-at defs pre [] h i x there = cc
sound-at defs pre (y ∷ rest) h zero x there =
    let same : y ≡ x = cc in
    subst (λ ys. types.AllHold defs (types.conditions_on ys x)) (sym (append-nil pre)) (subst (λ z. types.AllHold defs (types.conditions_on pre z)) same h.0)
sound-at defs pre (y ∷ rest) h (suc i) x there =
    subst (λ ys. types.AllHold defs (types.conditions_on ys x)) (joined-up pre y (take i rest)) (sound-at defs (pre ++ y ∷ []) rest h.1 i x there)

pub syntaxes-sound : (defs : List Def) → AllPass (decls_of defs) (phase on_declaration (definitions defs)) → AllPass (decls_of defs) (phase on_body (definitions defs))
    → types.IsSound (decls_of defs).types
syntaxes-sound defs declared bodied i h x there =
    sound-at (decls_of defs).types [] (decls_of defs).types (sound-from (decls_of defs) [] defs [] (λ q e. refl) declared bodied) i x there

-- ---- what is sound has no breach

holds-false : (defs : List SyntaxDef) (ps : List types.Asked) (b : Broken) → types.AllHold defs ps → types.FirstFalse defs ps b → ⊥
holds-false defs [] b h false_one = false_one
holds-false defs (p ∷ ps) b h (inl f) = f.0 h.0
holds-false defs (p ∷ ps) b h (inr f) = holds-false defs ps b h.1 f.1

pub sound-breach : (defs : List SyntaxDef) (k : ℕ) (b : Broken) → types.IsSound defs → types.FirstBreach defs k b → ⊥
sound-breach defs k b sound breach =
    holds-false defs (types.conditions_on (take k defs) breach.definition) b (sound k (slice_get_within defs k breach.definition breach.there) breach.definition breach.there) breach.first
