-- The variables of a scope are listed, where the occurrences are those of the mentions.
use Rattle.std.proofs.Common.{◌≡◌, inl, inr, refl, sym, ap, ◌∙◌, subst, ℕ, List, [], ◌∷◌, map, filter, drop, length, Bool, true, false, not, ◌&&◌, ◌||◌, Option, Some, None, MatchOption, Ordering, Less}
use Rattle.std.specs.Prelude.{if◌then◌else◌, Contains, bytes_eq}
use Rattle.std.specs.List.{AllByRecursion, starts_with}
use Rattle.std.specs.List.Sorted.{IsStrictlySortedBy}
use Rattle.std.specs.Ordering.{nat_cmp, is_eq}
use Rattle.std.specs.Cmp.Lexicographic.{slice_cmp}
use Rattle.std.proofs.lemmas.Bool.{true≢false}
use Rattle.std.proofs.lemmas.Map.Text.{is_eq-slice_cmp}
use Rattle.std.proofs.lemmas.Slice.Eq.{starts_is}
use Rattle.st_num.specs.declared.dim.Kind.{Kind}
use Rattle.st_num.specs.declared.dim.Kind.TheVariants as kind
use Rattle.st_num.specs.Names.{same_name, is_among}
use Rattle.st_il.specs.declared.definition.Listed.{Listed}
use Rattle.st_dims.specs.declared.mention.Mention.{Mention}
use Rattle.st_dims.specs.declared.mention.Mention.TheVariants.{Occurs, Indexes, Iterates}
use Rattle.st_dims.specs.declared.mention.Occurrence.{Occurrence as Mentioned}
use Rattle.st_dims.specs.Mentions.{occurrences_in, indices_in}
use Rattle.st_dims.specs.Dimensions.{Table, chains_of, dimension_in, IsFirstShortest}
use Rattle.st_dims.specs.Breaches.{same_kind, begins_with, is_misplaced, misplaced_in}
use Rattle.st_il.specs.Names.{has_name}
use Rattle.st_semantics.specs.Environments.{listed_as, listed_names}
use Rattle.st_ilcheck.specs.Naming.{is_once}
use Rattle.st_ilcheck.specs.Variables.{Occurrence, BeginsWith, IsListed, AreListed}
use Rattle.st_elab_table.specs.declared.decls.Decls.{Decls}
use Rattle.st_elab_table.specs.declared.decls.Scope.{Scope}
use Rattle.st_elab_table.specs.Iterations.{Variable}
use Rattle.st_elab_law.specs.Notes.{occurs, mentioned}
use Rattle.st_elab_table.specs.Scopes.{table_of, IsScope, listed}
use Rattle.st_elab_typed.proofs.Members.{Has, Has-right, Has-map, Has-from_map, Has-from_filter, All-from_Has, Contains-from_Has, map_none, filter_none, same_path, path_same, not_true}

-- ---- each variable once

abbrev pub order : List ℕ → List ℕ → Ordering
order = slice_cmp nat_cmp

-- the names of some variables rise
abbrev pub Rises : List Variable → Type 0
Rises vs = IsStrictlySortedBy order (map (λ (entry : List ℕ × List Kind). entry.0) (table_of vs))

less_differs : (x y : List ℕ) → order x y ≡ Less → bytes_eq x y ≡ false
less_differs x y h = sym (is_eq-slice_cmp x y) ∙ ap is_eq h

above : (x : List ℕ) (vs : List Variable) → AllByRecursion (λ y. order x y ≡ Less) (map (λ (entry : List ℕ × List Kind). entry.0) (table_of vs)) → has_name (listed_names (map listed vs)) x ≡ false
above x [] h = refl
above x (v ∷ vs) h = ap (λ b. b || has_name (listed_names (map listed vs)) x) (less_differs x v.0 h.0) ∙ above x vs h.1

pub variables_once : (vs : List Variable) → Rises vs → is_once (listed_names (map listed vs)) ≡ true
unfolding IsStrictlySortedBy
variables_once [] h = refl
variables_once (v ∷ vs) h = ap (λ b. not b && is_once (listed_names (map listed vs))) (above v.0 vs h.0) ∙ variables_once vs h.1

-- ---- the dimension of each

pub other_name : (x : List ℕ) (vs : List Variable) → AllByRecursion (λ y. order x y ≡ Less) (map (λ (entry : List ℕ × List Kind). entry.0) (table_of vs)) → (v : Variable) → Has vs v → same_name v.0 x ≡ false
other_name x [] h v k = absurd k
other_name x (u ∷ us) h v (inl e) = not_true (same_name v.0 x) (λ t. true≢false (sym (path_same x u.0 (sym (same_path v.0 x t) ∙ sym (ap (λ (z : Variable). z.0) e))) ∙ less_differs x u.0 h.0))
other_name x (u ∷ us) h v (inr k) = other_name x us h.1 v k

pub dimension_of : (vs : List Variable) → Rises vs → (v : Variable) → Has vs v → dimension_in (table_of vs) v.0 ≡ Some v.2
unfolding IsStrictlySortedBy
dimension_of [] h v k = absurd k
dimension_of (u ∷ us) h v (inl e) =
    ap (λ b. if b then Some u.2 else dimension_in (table_of us) v.0) (path_same v.0 u.0 (sym (ap (λ (z : Variable). z.0) e))) ∙ ap (λ (z : Variable). Some z.2) e
dimension_of (u ∷ us) h v (inr k) = ap (λ b. if b then Some u.2 else dimension_in (table_of us) v.0) (other_name u.0 us h.0 v k) ∙ dimension_of us h.1 v k

-- the listed variable of a name that has a dimension
pub record IsListedWith (vs : List Variable) (name : List ℕ) (d : List Kind) : Type 0 where
  pub variable : Variable
  pub member : Has vs variable
  pub found : listed_as name (map listed vs) ≡ Some (listed variable)
  pub named : variable.0 ≡ name
  pub dim : variable.2 ≡ d

pub listed_with : (vs : List Variable) (name : List ℕ) (d : List Kind) → dimension_in (table_of vs) name ≡ Some d → IsListedWith vs name d
listed_with [] name d h = let bad : None ≡ Some d = h in cc
listed_with (v ∷ vs) name d h = by (same_name name v.0) refl (listed_with vs name d)
  where
    looked : (b : Bool) → same_name name v.0 ≡ b → (if b then Some v.2 else dimension_in (table_of vs) name) ≡ Some d
    looked b s = ap (λ c. if c then Some v.2 else dimension_in (table_of vs) name) (sym s) ∙ h

    found_by : (b : Bool) → same_name name v.0 ≡ b → listed_as name (map listed (v ∷ vs)) ≡ (if b then Some (listed v) else listed_as name (map listed vs))
    found_by b s = ap (λ c. if c then Some (listed v) else listed_as name (map listed vs)) s

    by : (b : Bool) → same_name name v.0 ≡ b → (dimension_in (table_of vs) name ≡ Some d → IsListedWith vs name d) → IsListedWith (v ∷ vs) name d
    by true s rest =
        let e : Some v.2 ≡ Some d = looked true s in record {
          variable = v;
          member = inl refl;
          found = found_by true s;
          named = sym (same_path name v.0 s);
          dim = cc;
        }
    by false s rest =
        let r = rest (looked false s) in record {
          variable = r.variable;
          member = inr r.member;
          found = found_by false s ∙ r.found;
          named = r.named;
          dim = r.dim;
        }

-- ---- chains that begin with a dimension

same_kind-decides : (a b : Kind) → (same_kind a b ≡ true → a ≡ b) × (a ≡ b → same_kind a b ≡ true)
same_kind-decides kind.List kind.List = (λ h. refl, λ h. refl)
same_kind-decides kind.List kind.Opt = (λ h. absurd (true≢false (sym h)), λ h. cc)
same_kind-decides kind.Opt kind.List = (λ h. absurd (true≢false (sym h)), λ h. cc)
same_kind-decides kind.Opt kind.Opt = (λ h. refl, λ h. refl)

-- a name that has a dimension with which a chain begins
pub record Begins (table : Table) (name : List ℕ) (chain : List Kind) : Type 0 where
  pub dim : List Kind
  pub has : dimension_in table name ≡ Some dim
  pub begins : BeginsWith dim chain

begun : (table : Table) (name : List ℕ) (chain : List Kind) (o : Option (List Kind)) → dimension_in table name ≡ o → begins_with chain o ≡ true → Begins table name chain
begun table name chain None is h = absurd (true≢false (sym h))
begun table name chain (Some d) is h =
    let s = (starts_is same_kind-decides chain d (starts_with same_kind chain d) refl).0 h in
    record { dim = d; has = is; begins = record { rest = drop (length d) chain; whole = s } }

both_false : (a b : Bool) → (a || not b) ≡ false → (a ≡ false) × (b ≡ true)
both_false true b h = absurd (true≢false h)
both_false false true h = (refl, refl)
both_false false false h = absurd (true≢false h)

-- an occurrence that is not misplaced
pub record IsPlaced (indices : List (List ℕ)) (table : Table) (o : Mentioned) : Type 0 where
  pub no_index : is_among o.name indices ≡ false
  pub begins : Begins table o.name o.chain

pub placed : (mentions : List Mention) (table : Table) → misplaced_in mentions table ≡ [] → (o : Mentioned) → Has (occurrences_in mentions) o → IsPlaced (indices_in mentions) table o
placed mentions table h o k =
    let none = map_none (λ (occurrence : Mentioned). occurrence.at) (filter (is_misplaced (indices_in mentions) table) (occurrences_in mentions)) h in
    let f = both_false (is_among o.name (indices_in mentions)) (begins_with o.chain (dimension_in table o.name)) (filter_none (is_misplaced (indices_in mentions) table) (occurrences_in mentions) none o k) in
    record { no_index = f.0; begins = begun table o.name o.chain (dimension_in table o.name) refl f.1 }

-- ---- the variables that are mentioned

-- an occurrence without its place
abbrev pub chained : Mentioned → Occurrence
chained o = (o.name, o.chain)

-- the variables that occur among what is mentioned
abbrev pub variables_in : List Mention → List Occurrence
variables_in mentions = map chained (occurrences_in mentions)

-- a variable that is noted of a source is one of them
pub noted-variable : (ms : List Mention) (n : List ℕ) (c : List Kind) → Has (mentioned ms) (occurs n c) → Has (variables_in ms) (n, c)
noted-variable [] n c h = absurd h
noted-variable (Occurs o ∷ ms) n c (inl e) =
    let name : o.name ≡ n = cc in
    let chain : o.chain ≡ c = cc in
    inl (λ i. (name i, chain i))
noted-variable (Occurs o ∷ ms) n c (inr h) = inr (noted-variable ms n c h)
noted-variable (Indexes i ∷ ms) n c (inl e) = absurd (cc)
noted-variable (Indexes i ∷ ms) n c (inr h) = noted-variable ms n c h
noted-variable (Iterates j ∷ ms) n c (inl e) = absurd (cc)
noted-variable (Iterates j ∷ ms) n c (inr h) = noted-variable ms n c h

-- each of them is noted
pub variable-noted : (ms : List Mention) (o : Occurrence) → Has (variables_in ms) o → Has (mentioned ms) (occurs o.0 o.1)
variable-noted [] o h = absurd h
variable-noted (Occurs p ∷ ms) o (inl e) = inl (ap (λ (z : Occurrence). occurs z.0 z.1) e)
variable-noted (Occurs p ∷ ms) o (inr h) = inr (variable-noted ms o h)
variable-noted (Indexes i ∷ ms) o h = inr (variable-noted ms o h)
variable-noted (Iterates j ∷ ms) o h = inr (variable-noted ms o h)

-- ---- the shortest chain is one of them

occurs_so : (name : List ℕ) (os : List Mentioned) (d : List Kind) → IsFirstShortest (chains_of name os) d → Has (map chained os) (name, d)
occurs_so name os d h =
    let there : Has (chains_of name os) d = subst (λ cs. Has cs d) (sym h.are) (Has-right h.before (d ∷ h.behind) d (inl refl)) in
    let o = Has-from_map (λ (occurrence : Mentioned). occurrence.chain) (filter (λ (occurrence : Mentioned). same_name name occurrence.name) os) d there in
    let k = Has-from_filter (λ (occurrence : Mentioned). same_name name occurrence.name) os o.0 o.1 in
    subst (Has (map chained os)) (λ i. (sym (same_path name o.0.name k.1) i, o.2 i)) (Has-map chained os o.0 k.0)

shortest : (name : List ℕ) (os : List Mentioned) (d : List Kind) (o : Option (List Kind)) → o ≡ Some d → MatchOption o (chains_of name os ≡ []) (IsFirstShortest (chains_of name os)) → IsFirstShortest (chains_of name os) d
shortest name os d None is h = let bad : None ≡ Some d = is in cc
shortest name os d (Some e) is h = let same : e ≡ d = cc in subst (IsFirstShortest (chains_of name os)) same h

-- a variable of a scope is mentioned in its dimension
pub shortest_of : (D : Decls) (mentions : List Mention) (S : Scope) → IsScope D mentions S → (v : Variable) → Has S.variables v → Has (variables_in mentions) (v.0, v.2)
shortest_of D mentions S is v h =
    let d = dimension_of S.variables is.dimensions.is.ordered v h in
    occurs_so v.0 (occurrences_in mentions) v.2 (shortest v.0 (occurrences_in mentions) v.2 (dimension_in (table_of S.variables) v.0) d (is.dimensions.is.dimensions v.0))

-- ---- all of it

-- The variables of a scope are listed, each once, with what occurs as they are mentioned.
pub scope_listed : (D : Decls) (mentions : List Mention) (S : Scope) → IsScope D mentions S → (os : List Occurrence)
    → ((o : Occurrence) → Has os o → Has (variables_in mentions) o) → ((o : Occurrence) → Has (variables_in mentions) o → Has os o) → AreListed (map listed S.variables) os
scope_listed D mentions S is os to from = record {
  once = variables_once S.variables is.dimensions.is.ordered;
  listed = All-from_Has (IsListed (map listed S.variables)) os each_listed;
  occur = All-from_Has (λ (l : Listed). Contains os (l.name, l.dim)) (map listed S.variables) each_occurs;
}
  where
    each_listed : (o : Occurrence) → Has os o → IsListed (map listed S.variables) o
    each_listed o k =
        let m = Has-from_map chained (occurrences_in mentions) o (to o k) in
        let p = placed mentions (table_of S.variables) is.sound.placed m.0 m.1 in
        let l = listed_with S.variables m.0.name p.begins.dim p.begins.has in
        subst (IsListed (map listed S.variables)) m.2
        (record { variable = listed l.variable; found = l.found; begins = subst (λ d. BeginsWith d m.0.chain) (sym l.dim) p.begins.begins })

    each_occurs : (l : Listed) → Has (map listed S.variables) l → Contains os (l.name, l.dim)
    each_occurs l k =
        let v = Has-from_map listed S.variables l k in
        subst (λ (z : Listed). Contains os (z.name, z.dim)) v.2
        (Contains-from_Has os (v.0.0, v.0.2) (from (v.0.0, v.0.2) (shortest_of D mentions S is v.0 v.1)))
