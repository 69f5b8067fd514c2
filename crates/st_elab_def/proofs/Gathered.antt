-- The alternatives of fragments, gathered and taken.
use Rattle.std.proofs.Common.{[], ◌≡◌, refl, sym, ap, ◌∙◌, subst, ℕ, ◌+◌, ◌<◌, ◌≤◌, Bool, true, false, true≢false, ◌||◌, if◌then◌else◌, Some, None, List, ◌∷◌, ◌++◌, map, filter, length, take, drop, get_or, append_assoc, append-nil, arith}
use Rattle.std.specs.Prelude.{Option, flat_map}
use Rattle.std.proofs.lemmas.Grind.{common_steps, flat_map-append}
use Rattle.std.proofs.lemmas.List.Elements.{filter-append}
use Rattle.st_num.specs.Names.{same_name}
use Rattle.st_el.specs.Erasure.{is_fragment, is_fragment_node, alternatives_of, alternatives_in, alternatives, joined, joined_at, joined_behind, joined_node}
use Rattle.st_el.specs.declared.definition.Body.{Body}
use Rattle.st_el.specs.declared.definition.Body.TheVariants.{Alias, Cases, Fields}
use Rattle.st_el.specs.declared.definition.Def.{Def}
use Rattle.st_el.specs.declared.definition.DefNode.{DefNode}
use Rattle.st_el.specs.declared.definition.DefNode.TheVariants.{Syntax, Var, Relation, Rule, Fun, Clause}
use Rattle.st_el.specs.declared.notation.Notation.{Notation}
use Rattle.st_il.specs.declared.definition.Alternative.{Alternative}
use Rattle.st_il.specs.declared.definition.IlDef.{IlDef}
use Rattle.st_il.specs.declared.definition.IlDef.TheVariants as il
use Rattle.st_dims.proofs.Lists.{next_taken}
use Rattle.st_elab_rows.proofs.Builds.{from_place}
use Rattle.st_elab_def.specs.DeclsOf.{alternative_of, body_of, declared_by}
use Rattle.st_elab_def.specs.Fragments.{has_fragment}
use Rattle.st_elab_def.specs.Phases.{alternatives_before}
use Rattle.st_elab_def.specs.inner.Gathering.{Entries, all_parts, Gathered, Untaken, gathered_in, body_with, declared_fragment}
use Rattle.st_ilcheck.specs.Index.{at}
use Rattle.st_type_table.proofs.InsertionLemmas.{any-more, same-equal, same-refl}

-- ---- the alternatives of the fragments among definitions

pub parts-append : (q : List ℕ) (before behind : List Def) → alternatives_before q (before ++ behind) ≡ alternatives_before q before ++ alternatives_before q behind
parts-append q before behind =
    ap (λ ds. flat_map alternative_of (flat_map (λ (def : Def). alternatives_of def.node) ds)) (filter-append (is_fragment q) before behind)
    ∙ ap (flat_map alternative_of) (flat_map-append (λ (def : Def). alternatives_of def.node) (filter (is_fragment q) before) (filter (is_fragment q) behind))
    ∙ flat_map-append alternative_of (alternatives q before) (alternatives q behind)

none-by : (q : List ℕ) (def : Def) (before : List Def) (b : Bool) → is_fragment q def ≡ b → (b || has_fragment q before) ≡ false
    → (has_fragment q before ≡ false → filter (is_fragment q) before ≡ []) → (if b then def ∷ filter (is_fragment q) before else filter (is_fragment q) before) ≡ []
none-by q def before true is h more = absurd (true≢false h)
none-by q def before false is h more = more h

none-filtered : (q : List ℕ) (before : List Def) → has_fragment q before ≡ false → filter (is_fragment q) before ≡ []
none-filtered q [] h = refl
none-filtered q (def ∷ before) h = none-by q def before (is_fragment q def) refl h (none-filtered q before)

pub parts-none : (q : List ℕ) (before : List Def) → has_fragment q before ≡ false → alternatives_before q before ≡ []
parts-none q before h = ap (λ ds. flat_map alternative_of (flat_map (λ (def : Def). alternatives_of def.node) ds)) (none-filtered q before h)

-- what was gathered of a name
gathered-parts : (q : List ℕ) (before : List Def) → gathered_in (all_parts before q) ≡ alternatives_before q before
gathered-parts q before = by (has_fragment q before) refl
  where
    by : (b : Bool) → has_fragment q before ≡ b → gathered_in (if b then Some (Some (alternatives_before q before)) else None) ≡ alternatives_before q before
    by true h = refl
    by false h = sym (parts-none q before h)

-- ---- one more definition

or-true : (a : Bool) → (a || true) ≡ true
or-true true = refl
or-true false = refl

or-false : (a : Bool) → (a || false) ≡ a
or-false true = refl
or-false false = refl

-- what is gathered stays, where the definition is no fragment of this name
parts-same : (q : List ℕ) (before : List Def) (def : Def) → is_fragment q def ≡ false → all_parts (before ++ def ∷ []) q ≡ all_parts before q
parts-same q before def none =
    (λ i. if has i then Some (Some (parts i)) else None)
  where
    has : has_fragment q (before ++ def ∷ []) ≡ has_fragment q before
    has = any-more (is_fragment q) before def ∙ ap (λ b. has_fragment q before || b) none ∙ or-false (has_fragment q before)

    parts : alternatives_before q (before ++ def ∷ []) ≡ alternatives_before q before
    parts =
        ap (λ ds. flat_map alternative_of (flat_map (λ (def : Def). alternatives_of def.node) ds))
        (filter-append (is_fragment q) before (def ∷ []) ∙ ap (λ b. filter (is_fragment q) before ++ (if b then def ∷ [] else [])) none ∙ append-none (filter (is_fragment q) before))
      where
        append-none : (ds : List Def) → ds ++ [] ≡ ds
        append-none [] = refl
        append-none (d ∷ ds) = ap (λ es. d ∷ es) (append-none ds)

pub gathered-same : (before : List Def) (def : Def) (node : DefNode) (entries : Entries) → def.node ≡ node → ((q : List ℕ) → is_fragment_node q node ≡ false)
    → Gathered before entries → Gathered (before ++ def ∷ []) entries
gathered-same before def node entries is none h q =
    h q ∙ sym (parts-same q before def (ap (is_fragment_node q) is ∙ none q))

pub gathered-more : (before : List Def) (def : Def) (name piece : List ℕ) (body : Body) (old new : Entries) → def.node ≡ Syntax name (Some piece) body
    → Gathered before old
    → ((q : List ℕ) → at new q ≡ (if same_name q name then Some (Some (gathered_in (at old name) ++ flat_map alternative_of (alternatives_in body))) else at old q))
    → Gathered (before ++ def ∷ []) new
gathered-more before def name piece body old new is h more q = more q ∙ by (same_name q name) refl
  where
    fragment : is_fragment q def ≡ same_name q name
    fragment = ap (is_fragment_node q) is

    by : (b : Bool) → same_name q name ≡ b
        → (if b then Some (Some (gathered_in (at old name) ++ flat_map alternative_of (alternatives_in body))) else at old q) ≡ all_parts (before ++ def ∷ []) q
    by false other = h q ∙ sym (parts-same q before def (fragment ∙ other))
    by true same =
        let has : has_fragment q (before ++ def ∷ []) ≡ true = any-more (is_fragment q) before def ∙ ap (λ b. has_fragment q before || b) (fragment ∙ same) ∙ or-true (has_fragment q before) in
        let own : alternatives_before q (def ∷ []) ≡ flat_map alternative_of (alternatives_in body) =
        ap (λ b. flat_map alternative_of (flat_map (λ (def : Def). alternatives_of def.node) (if b then def ∷ [] else []))) (fragment ∙ same)
        ∙ ap (λ node. flat_map alternative_of (alternatives_of node ++ [])) is ∙ ap (flat_map alternative_of) (append-none (alternatives_in body)) in
        let all : alternatives_before q (before ++ def ∷ []) ≡ gathered_in (at old name) ++ flat_map alternative_of (alternatives_in body) =
        parts-append q before (def ∷ [])
        ∙ (λ i. sym (gathered-parts q before) i ++ own i)
        ∙ ap (λ o. gathered_in o ++ flat_map alternative_of (alternatives_in body)) (sym (h q) ∙ ap (at old) (same-equal q name same)) in
        sym (λ i. if has i then Some (Some (all i)) else None)
      where
        append-none : (ns : List Notation) → ns ++ [] ≡ ns
        append-none [] = refl
        append-none (n ∷ ns) = ap (λ ms. n ∷ ms) (append-none ns)

-- ---- what is taken

-- a definition that is no fragment of this name adds nothing in front
front-same : (q : List ℕ) (def : Def) (behind : List Def) → is_fragment q def ≡ false → all_parts (def ∷ behind) q ≡ all_parts behind q
front-same q def behind none =
    λ i. if (none i || has_fragment q behind)
    then Some (Some (flat_map alternative_of (flat_map (λ (def : Def). alternatives_of def.node) (if none i then def ∷ filter (is_fragment q) behind else filter (is_fragment q) behind)))) else None

pub has-same : (q : List ℕ) (before : List Def) (def : Def) → is_fragment q def ≡ false → has_fragment q (before ++ def ∷ []) ≡ has_fragment q before
has-same q before def none = any-more (is_fragment q) before def ∙ ap (λ b. has_fragment q before || b) none ∙ or-false (has_fragment q before)

untaken-at : (q : List ℕ) (before behind : List Def) (def : Def) → is_fragment q def ≡ false
    → (if has_fragment q before then Some None else all_parts (def ∷ behind) q) ≡ (if has_fragment q (before ++ def ∷ []) then Some None else all_parts behind q)
untaken-at q before behind def none =
    ap (λ b. if b then Some None else all_parts (def ∷ behind) q) (sym (has-same q before def none))
    ∙ ap (λ o. if has_fragment q (before ++ def ∷ []) then Some None else o) (front-same q def behind none)

pub untaken-skip : (before behind : List Def) (def : Def) (node : DefNode) (entries : Entries) → def.node ≡ node → ((q : List ℕ) → is_fragment_node q node ≡ false)
    → Untaken before (def ∷ behind) entries → Untaken (before ++ def ∷ []) behind entries
untaken-skip before behind def node entries is none h q = h q ∙ untaken-at q before behind def (ap (is_fragment_node q) is ∙ none q)

pub untaken-take : (before behind : List Def) (def : Def) (name piece : List ℕ) (body : Body) (old new : Entries) → def.node ≡ Syntax name (Some piece) body
    → Untaken before (def ∷ behind) old → ((q : List ℕ) → at new q ≡ (if same_name q name then Some None else at old q))
    → Untaken (before ++ def ∷ []) behind new
untaken-take before behind def name piece body old new is h more q = more q ∙ by (same_name q name) refl
  where
    fragment : is_fragment q def ≡ same_name q name
    fragment = ap (is_fragment_node q) is

    by : (b : Bool) → same_name q name ≡ b
        → (if b then Some None else at old q) ≡ (if has_fragment q (before ++ def ∷ []) then Some None else all_parts behind q)
    by false other = h q ∙ untaken-at q before behind def (fragment ∙ other)
    by true same =
        let has : has_fragment q (before ++ def ∷ []) ≡ true = any-more (is_fragment q) before def ∙ ap (λ b. has_fragment q before || b) (fragment ∙ same) ∙ or-true (has_fragment q before) in
        sym (ap (λ b. if b then Some None else all_parts behind q) has)

-- ---- what fragments declare

pub joined-with : (body : Body) (later : List Notation) → body_with body (flat_map alternative_of (alternatives_in body ++ later)) ≡ body_of (joined body later)
joined-with (Alias typ) later = refl
joined-with (Cases before cases after) later = refl
joined-with (Fields fields) later = refl

pub fragment-declares : (before behind : List Def) (def : Def) (name piece : List ℕ) (body : Body) (entries : Entries) → def.node ≡ Syntax name (Some piece) body
    → Untaken before (def ∷ behind) entries → declared_fragment name body (at entries name) ≡ flat_map declared_by (joined_at before def behind)
fragment-declares before behind def name piece body entries is h =
    ap (declared_fragment name body) (h name) ∙ by (has_fragment name before) refl
    ∙ ap (λ node. flat_map declared_by (map (λ node. record def { node = node }) (joined_node before node behind))) (sym is)
  where
    by : (b : Bool) → has_fragment name before ≡ b
        → declared_fragment name body (if b then Some None else all_parts (def ∷ behind) name)
        ≡ flat_map declared_by (map (λ node. record def { node = node }) (if b then [] else Syntax name None (joined body (alternatives name behind)) ∷ []))
    by true taken = refl
    by false untaken =
        let fragment : is_fragment name def ≡ true = ap (is_fragment_node name) is ∙ same-refl name in
        let all : all_parts (def ∷ behind) name ≡ Some (Some (flat_map alternative_of (alternatives_in body ++ alternatives name behind))) =
        (λ i. if (fragment i || has_fragment name behind)
        then Some (Some (flat_map alternative_of (flat_map (λ (def : Def). alternatives_of def.node) (if fragment i then def ∷ filter (is_fragment name) behind else filter (is_fragment name) behind)))) else None)
        ∙ ap (λ node. Some (Some (flat_map alternative_of (alternatives_of node ++ alternatives name behind)))) is in
        ap (declared_fragment name body) all
        ∙ ap (λ b. il.Syntax (record { name = name; body = b }) ∷ []) (joined-with body (alternatives name behind))

-- ---- gathering and joining, call by call

put-by : (b : Bool) (x y z : Option (Option (List Alternative))) → (if b then x else (if b then y else z)) ≡ (if b then x else z)
put-by true x y z = refl
put-by false x y z = refl

-- what was taken, and put back with more
pub gathered-put : (old mid new : Entries) (name : List ℕ) (all own : List Alternative)
    → ((q : List ℕ) → at mid q ≡ (if same_name q name then Some None else at old q))
    → ((q : List ℕ) → at new q ≡ (if same_name q name then Some (Some all) else at mid q))
    → all ≡ gathered_in (at old name) ++ own
    → (q : List ℕ) → at new q ≡ (if same_name q name then Some (Some (gathered_in (at old name) ++ own)) else at old q)
gathered-put old mid new name all own taken put is q =
    put q ∙ ap (λ o. if same_name q name then Some (Some all) else o) (taken q)
    ∙ put-by (same_name q name) (Some (Some all)) (Some None) (at old q)
    ∙ ap (λ parts. if same_name q name then Some (Some parts) else at old q) is

own-node : (before behind : List Def) (node : DefNode) → ((q : List ℕ) → is_fragment_node q node ≡ false) → joined_node before node behind ≡ node ∷ []
own-node before behind (Syntax name None body) h = refl
own-node before behind (Syntax name (Some piece) body) h = absurd (true≢false (sym (same-refl name) ∙ h name))
own-node before behind (Var name typ) h = refl
own-node before behind (Relation name n) h = refl
own-node before behind (Rule r name e ps) h = refl
own-node before behind (Fun name ps t) h = refl
own-node before behind (Clause name as' e ps) h = refl

-- a definition that is no fragment declares what it declares by itself
pub own-declares : (before behind : List Def) (def : Def) → ((q : List ℕ) → is_fragment_node q def.node ≡ false)
    → declared_by def ≡ flat_map declared_by (joined_at before def behind)
own-declares before behind def h =
    sym (ap (λ nodes. flat_map declared_by (map (λ node. record def { node = node }) nodes)) (own-node before behind def.node h) ∙ nil (declared_by def))
  where
    nil : (xs : List IlDef) → xs ++ [] ≡ xs
    nil [] = refl
    nil (x ∷ xs) = ap (λ ys. x ∷ ys) (nil xs)

-- ---- the source is walked

module _ (defs : List Def) (i : ℕ) (def : Def) (h : i < length defs) (is : def ≡ get_or defs i def) where
  pub untaken-here : (entries : Entries) → Untaken (take i defs) (drop i defs) entries → Untaken (take i defs) (def ∷ drop (i + 1) defs) entries
  untaken-here entries u = subst (λ ds. Untaken (take i defs) ds entries) (from_place defs i def h is) u

  pub untaken-next : (entries : Entries) → Untaken (take i defs ++ def ∷ []) (drop (i + 1) defs) entries → Untaken (take (i + 1) defs) (drop (i + 1) defs) entries
  untaken-next entries u = subst (λ ds. Untaken ds (drop (i + 1) defs) entries) (sym (next_taken defs i def h is)) u

  pub declared-next : (old new whole : List IlDef) → new ≡ old ++ flat_map declared_by (joined_at (take i defs) def (drop (i + 1) defs))
      → old ++ flat_map declared_by (joined_behind (take i defs) (drop i defs)) ≡ whole
      → new ++ flat_map declared_by (joined_behind (take (i + 1) defs) (drop (i + 1) defs)) ≡ whole
  declared-next old new whole pushed made =
      (λ k. pushed k ++ flat_map declared_by (joined_behind (next_taken defs i def h is k) (drop (i + 1) defs)))
      ∙ append_assoc old (flat_map declared_by (joined_at (take i defs) def (drop (i + 1) defs))) (flat_map declared_by later)
      ∙ ap (λ xs. old ++ xs) (sym (flat_map-append declared_by (joined_at (take i defs) def (drop (i + 1) defs)) later))
      ∙ ap (λ ds. old ++ flat_map declared_by (joined_behind (take i defs) ds)) (sym (from_place defs i def h is))
      ∙ made
    where
      later : List Def
      later = joined_behind (take i defs ++ def ∷ []) (drop (i + 1) defs)

pub declared-end : (defs : List Def) (i : ℕ) (out whole : List IlDef) → length defs ≤ i
    → out ++ flat_map declared_by (joined_behind (take i defs) (drop i defs)) ≡ whole → out ≡ whole
declared-end defs i out whole h made =
    let none : drop i defs ≡ [] = grind (arith, common_steps) in
    sym (append-nil out) ∙ ap (λ ds. out ++ flat_map declared_by (joined_behind (take i defs) ds)) (sym none) ∙ made
