-- Which record types can be joined, by what syntaxes wait for.
use Rattle.std.proofs.Common.{◌≡◌, refl, sym, ap, ◌∙◌, subst, ℕ, ◌<◌, ◌↔◌, List, [], ◌∷◌, ◌++◌, map, Bool, Option, Some, None, arith, inl, inr, ◌⊎◌}
use Rattle.std.specs.Prelude.{IsTrue, slice_get, slice_index}
use Rattle.std.specs.Option.{option_map}
use Rattle.std.proofs.lemmas.Option.{slice_get-map}
use Rattle.std.proofs.lemmas.List.{length-map}
use Rattle.st_il.specs.declared.ty.Ty.{Ty, out-Ty, roll-Ty, roll-out-Ty}
use Rattle.st_il.specs.declared.ty.Ty.TheOpen.{Ty-F}
use Rattle.st_il.specs.declared.ty.Ty.TheVariants as ty
use Rattle.st_il.specs.declared.definition.SyntaxDef.{SyntaxDef}
use Rattle.st_il.specs.declared.definition.SyntaxBody.{SyntaxBody}
use Rattle.st_il.specs.declared.definition.SyntaxBody.TheVariants as body
use Rattle.st_type_table.specs.Meaning.{Means, body_of, named_at, alias_of, aliased, fields_of, recorded}
use Rattle.st_type_table.specs.Cases.{HasFields}
use Rattle.st_type_table.specs.inner.Graph.{position_of, IsOne, EndsAt, AreRanks}
use Rattle.st_type_table.specs.Joins.{Joins, FieldJoins, AllJoin}
use Rattle.st_type_table.specs.inner.JoinGraph.{never, position_or_never, waits_at, waits_in, field_waits, waits_of, join_node, join_graph}
use Rattle.st_type_table.proofs.GraphLemmas.{beyond}
use Rattle.st_type_table.proofs.PositionLemmas.{placed, unplaced, split_one, one-left, one-right}
use Rattle.st_type_table.proofs.CasesLemmas.{HasFields-single, no_fields}

-- ---- what is kept

pub no_join : (defs : List SyntaxDef) (t u : Ty) → Means defs t u → fields_of defs u ≡ None → Joins defs t → ⊥
no_join defs t u m e (Joins.joins fields has all) = no_fields defs t u m e fields has

pub joins-exact : (defs : List SyntaxDef) (t u : Ty) (fields : List (List ℕ × Ty)) (r : Bool) (rank : ℕ) → Means defs t u → fields_of defs u ≡ Some fields
    → (IsTrue r ↔ (0 < rank)) → ((0 < rank) ↔ AllJoin defs fields) → IsTrue r ↔ Joins defs t
joins-exact defs t u fields r rank m e g h = (λ y. Joins.joins fields has (h.0 (g.0 y)), λ j. g.1 (h.1 (of j)))
  where
    has : HasFields defs t fields
    has = record { structure = u; means = m; declared = e }

    of : Joins defs t → AllJoin defs fields
    of (Joins.joins others others_has all) = subst (AllJoin defs) (HasFields-single defs t others fields others_has has) all

-- ---- types that are names

record IsNamed (defs : List SyntaxDef) (l : Ty-F Ty) (b : SyntaxBody) : Type 0 where
  name : List ℕ
  level : l ≡ Ty-F.Name name
  body_is : body_of defs name ≡ Some b

is_named : (defs : List SyntaxDef) (l : Ty-F Ty) (b : SyntaxBody) → named_at defs l ≡ Some b → IsNamed defs l b
is_named defs Ty-F.Bool b e = cc
is_named defs Ty-F.Nat b e = cc
is_named defs Ty-F.Int b e = cc
is_named defs Ty-F.Text b e = cc
is_named defs (Ty-F.List x) b e = cc
is_named defs (Ty-F.Opt x) b e = cc
is_named defs (Ty-F.Tuple xs) b e = cc
is_named defs (Ty-F.Name x) b e = record { name = x; level = refl; body_is = e }

aliased-body : (o : Option SyntaxBody) (t : Ty) → aliased o ≡ Some t → o ≡ Some (body.Alias t)
aliased-body None t e = cc
aliased-body (Some (body.Alias s)) t e = let q : s ≡ t = cc in ap (λ z. Some (body.Alias z)) q
aliased-body (Some (body.Variant as')) t e = cc
aliased-body (Some (body.Fields fs)) t e = cc

recorded-body : (o : Option SyntaxBody) (fields : List (List ℕ × Ty)) → recorded o ≡ Some fields → o ≡ Some (body.Fields fields)
recorded-body None fields e = cc
recorded-body (Some (body.Alias s)) fields e = cc
recorded-body (Some (body.Variant as')) fields e = cc
recorded-body (Some (body.Fields fs)) fields e = let q : fs ≡ fields = cc in ap (λ z. Some (body.Fields z)) q

-- a node of a graph that is made definition by definition
pub map-at : {A : Type 0} {B : Type 0} (f : A → B) (xs : List A) (p : ℕ) (x : A) → slice_get xs p ≡ Some x → slice_get (map f xs) p ≡ Some (f x)
map-at f xs p x e = slice_get-map f xs p ∙ ap (option_map f) e

module _ (defs : List SyntaxDef) where
  node-of-body : (x : List ℕ) (p : ℕ) (b : SyntaxBody) → position_of defs x ≡ Some p → body_of defs x ≡ Some b → slice_get (join_graph defs) p ≡ Some (Some (waits_of defs b))
  node-of-body x p b e q =
      let r = placed defs x p e in
      let d : Some r.definition.body ≡ Some b = sym r.body_is ∙ q in
      let s : r.definition.body ≡ b = cc in
      map-at (join_node defs) defs p r.definition r.there ∙ ap (λ z. Some (Some (waits_of defs z))) s

  never-ends : (j : ℕ) → EndsAt (join_graph defs) j → j ≡ never defs → ⊥
  never-ends j (EndsAt.ends next g all) q =
      let h = beyond (join_graph defs) j (Some next) g in
      let n = length-map defs (join_node defs) in
      omega (arith, h, n, q)

  -- a position that ends, and so its names can be joined as fields
  record Joined (j : ℕ) : Type 0 where
    comes : j ≡ never defs → ⊥
    fields_join : (y : List ℕ) → position_of defs y ≡ Some j → FieldJoins defs (ty.Name y)

  -- what an alias stands for joins, and so it joins
  alias-joins : (t s : Ty) → alias_of defs t ≡ Some s → FieldJoins defs s → FieldJoins defs t
  alias-joins t s e (FieldJoins.list x m) = FieldJoins.list x (Means.alias s e m)
  alias-joins t s e (FieldJoins.option x m) = FieldJoins.option x (Means.alias s e m)
  alias-joins t s e (FieldJoins.structure (Joins.joins fields has all)) =
      FieldJoins.structure (Joins.joins fields (record { structure = has.structure; means = Means.alias s e has.means; declared = has.declared }) all)

  no_alias : (t : Ty) (l : Ty-F Ty) → out-Ty t ≡ l → named_at defs l ≡ None → alias_of defs t ≡ None
  no_alias t l q n = ap (λ z. aliased (named_at defs z)) q ∙ ap aliased n

  type-joins : (t : Ty) → ((j : ℕ) → IsOne (waits_in defs t) j → Joined j) → FieldJoins defs t
  type-joins t h = by (out-Ty t) refl h
    where
      name_joins : (y : List ℕ) (o : Option ℕ) → position_of defs y ≡ o → Joined (position_or_never defs o) → FieldJoins defs (ty.Name y)
      name_joins y None e j = absurd (j.comes refl)
      name_joins y (Some p) e j = j.fields_join y e

      by : (l : Ty-F Ty) → out-Ty t ≡ l → ((j : ℕ) → IsOne (waits_at defs l) j → Joined j) → FieldJoins defs t
      by (Ty-F.List x) q k = FieldJoins.list x (Means.itself (no_alias t (Ty-F.List x) q refl) (sym (roll-out-Ty t) ∙ ap roll-Ty q ∙ ty.rolls-List x))
      by (Ty-F.Opt x) q k = FieldJoins.option x (Means.itself (no_alias t (Ty-F.Opt x) q refl) (sym (roll-out-Ty t) ∙ ap roll-Ty q ∙ ty.rolls-Opt x))
      by (Ty-F.Name y) q k = subst (FieldJoins defs) (sym (sym (roll-out-Ty t) ∙ ap roll-Ty q ∙ ty.rolls-Name y)) (name_joins y (position_of defs y) refl (k (position_or_never defs (position_of defs y)) (inl refl)))
      by Ty-F.Bool q k = absurd ((k (never defs) (inl refl)).comes refl)
      by Ty-F.Nat q k = absurd ((k (never defs) (inl refl)).comes refl)
      by Ty-F.Int q k = absurd ((k (never defs) (inl refl)).comes refl)
      by Ty-F.Text q k = absurd ((k (never defs) (inl refl)).comes refl)
      by (Ty-F.Tuple xs) q k = absurd ((k (never defs) (inl refl)).comes refl)

  all-joins : (fields : List (List ℕ × Ty)) → ((j : ℕ) → IsOne (field_waits defs fields) j → Joined j) → AllJoin defs fields
  all-joins [] h = AllJoin.none
  all-joins (f ∷ fs) h = AllJoin.more
      (type-joins f.1 (λ j m. h j (one-left (waits_in defs f.1) (field_waits defs fs) j m)))
      (all-joins fs (λ j m. h j (one-right (waits_in defs f.1) (field_waits defs fs) j m)))

  -- a name of this body joins as a field, where all that the body waits for does
  body-joins : (x : List ℕ) (b : SyntaxBody) → body_of defs x ≡ Some b → ((j : ℕ) → IsOne (waits_of defs b) j → Joined j) → FieldJoins defs (ty.Name x)
  body-joins x (body.Alias s) e h = alias-joins (ty.Name x) s (ap (λ l. aliased (named_at defs l)) (ty.outs-Name x) ∙ ap aliased e) (type-joins s h)
  body-joins x (body.Variant as') e h = absurd ((h (never defs) (inl refl)).comes refl)
  body-joins x (body.Fields fields) e h = FieldJoins.structure (Joins.joins fields (record {
    structure = ty.Name x;
    means = Means.itself (ap (λ l. aliased (named_at defs l)) (ty.outs-Name x) ∙ ap aliased e) refl;
    declared = ap (λ l. recorded (named_at defs l)) (ty.outs-Name x) ∙ ap recorded e;
  }) (all-joins fields h))

  ends-joins : (p : ℕ) → EndsAt (join_graph defs) p → (x : List ℕ) → position_of defs x ≡ Some p → FieldJoins defs (ty.Name x)
  ends-joins p (EndsAt.ends next g all) x e =
      let r = placed defs x p e in
      let d : Some (Some (waits_of defs r.definition.body)) ≡ Some (Some next) = sym (map-at (join_node defs) defs p r.definition r.there) ∙ g in
      let s : waits_of defs r.definition.body ≡ next = cc in
      body-joins x r.definition.body r.body_is (λ j m.
      let k = subst (λ ns. IsOne ns j) s m in
      record { comes = never-ends j (all j k); fields_join = ends-joins j (all j k) })

  -- ---- and what joins ends

  abbrev AllEnd : List ℕ → Type 0
  AllEnd positions = (j : ℕ) → IsOne positions j → EndsAt (join_graph defs) j

  name-ends : (x : List ℕ) (b : SyntaxBody) → body_of defs x ≡ Some b → AllEnd (waits_of defs b) → AllEnd (position_or_never defs (position_of defs x) ∷ [])
  name-ends x b e h = by (position_of defs x) refl
    where
      by : (o : Option ℕ) → position_of defs x ≡ o → AllEnd (position_or_never defs o ∷ [])
      by None f j m = let z : Some b ≡ None = sym e ∙ unplaced defs x f in cc
      by (Some p) f j (inl q) = EndsAt.ends (waits_of defs b) (ap (slice_get (join_graph defs)) q ∙ node-of-body x p b f e) h
      by (Some p) f j (inr q) = absurd q

  named-ends : (t : Ty) (b : SyntaxBody) → named_at defs (out-Ty t) ≡ Some b → AllEnd (waits_of defs b) → AllEnd (waits_in defs t)
  named-ends t b e h =
      let n = is_named defs (out-Ty t) b e in
      subst (λ l. AllEnd (waits_at defs l)) (sym n.level) (name-ends n.name b n.body_is h)

  means-ends : (t u : Ty) → Means defs t u → AllEnd (waits_in defs u) → AllEnd (waits_in defs t)
  means-ends t u (Means.itself p q) h = subst (λ z. AllEnd (waits_in defs z)) (sym q) h
  means-ends t u (Means.alias s p m) h = named-ends t (body.Alias s) (aliased-body (named_at defs (out-Ty t)) s p) (means-ends s u m h)

  both-end : (xs ys : List ℕ) → AllEnd xs → AllEnd ys → AllEnd (xs ++ ys)
  both-end xs ys h k j m = by (split_one xs ys j m)
    where
      by : IsOne xs j ⊎ IsOne ys j → EndsAt (join_graph defs) j
      by (inl a) = h j a
      by (inr a) = k j a

  mutual
    joined-ends : (t : Ty) → FieldJoins defs t → AllEnd (waits_in defs t)
    joined-ends t (FieldJoins.list x m) = means-ends t (ty.List x) m (subst (λ l. AllEnd (waits_at defs l)) (sym (ty.outs-List x)) (λ j n. absurd n))
    joined-ends t (FieldJoins.option x m) = means-ends t (ty.Opt x) m (subst (λ l. AllEnd (waits_at defs l)) (sym (ty.outs-Opt x)) (λ j n. absurd n))
    joined-ends t (FieldJoins.structure j) = record-ends t j

    record-ends : (t : Ty) → Joins defs t → AllEnd (waits_in defs t)
    record-ends t (Joins.joins fields has all) = means-ends t has.structure has.means
        (named-ends has.structure (body.Fields fields) (recorded-body (named_at defs (out-Ty has.structure)) fields has.declared) (all-end fields all))

    all-end : (fields : List (List ℕ × Ty)) → AllJoin defs fields → AllEnd (field_waits defs fields)
    all-end [] AllJoin.none = λ j m. absurd m
    all-end (f ∷ fs) (AllJoin.more h all) = both-end (waits_in defs f.1) (field_waits defs fs) (joined-ends f.1 h) (all-end fs all)

  -- a record has a rank exactly where it can be joined
  pub ranked-joins : (ranks : List ℕ) → AreRanks (join_graph defs) ranks → (p : ℕ) (d : SyntaxDef) (fields : List (List ℕ × Ty)) → slice_get defs p ≡ Some d → d.body ≡ body.Fields fields
      → (0 < slice_index ranks p) ↔ AllJoin defs fields
  ranked-joins ranks right p d fields e b = (λ h. all-joined ((right.exact p).0 h), λ all. (right.exact p).1 (EndsAt.ends (field_waits defs fields) node (all-end fields all)))
    where
      node : slice_get (join_graph defs) p ≡ Some (Some (field_waits defs fields))
      node = map-at (join_node defs) defs p d e ∙ ap (λ z. Some (Some (waits_of defs z))) b

      all-joined : EndsAt (join_graph defs) p → AllJoin defs fields
      all-joined (EndsAt.ends next g all) =
          let w : Some (Some (field_waits defs fields)) ≡ Some (Some next) = sym node ∙ g in
          let s : field_waits defs fields ≡ next = cc in
          all-joins fields (λ j m.
          let k = subst (λ ns. IsOne ns j) s m in
          record { comes = never-ends j (all j k); fields_join = ends-joins j (all j k) })
