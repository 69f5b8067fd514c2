-- Ways along the tops of types: they end where types have a meaning, and ranks fall along them.
use Rattle.std.proofs.Common.{◌≡◌, refl, sym, ap, ◌∙◌, subst, ℕ, suc, ◌<◌, ◌↔◌, List, [], ◌∷◌, length, Bool, Option, Some, None, arith, inl, inr}
use Rattle.std.specs.Prelude.{IsTrue, MatchOption, slice_get, slice_index}
use Rattle.std.specs.Borrow.{Bor}
use Rattle.std.specs.Option.{option_copied}
use Rattle.std.proofs.lemmas.Option.{slice_get_within}
use Rattle.st_il.specs.declared.ty.Ty.{Ty, out-Ty, roll-Ty, roll-out-Ty}
use Rattle.st_il.specs.declared.ty.Ty.TheOpen.{Ty-F}
use Rattle.st_il.specs.declared.ty.Ty.TheVariants as ty
use Rattle.st_il.specs.declared.definition.SyntaxDef.{SyntaxDef}
use Rattle.st_il.specs.declared.definition.SyntaxBody.{SyntaxBody}
use Rattle.st_il.specs.declared.definition.SyntaxBody.TheVariants as body
use Rattle.st_type_table.specs.Meaning.{Means, body_of, named_at, alias_of, aliased, fields_of, recorded}
use Rattle.st_type_table.specs.Cases.{HasFields}
use Rattle.st_type_table.specs.Joins.{Joins}
use Rattle.st_type_table.specs.inner.JoinGraph.{join_graph}
use Rattle.st_type_table.specs.inner.Graph.{position_of, one_position, IsOne, EndsAt, AreRanks}
use Rattle.st_type_table.proofs.MeansLemmas.{Means-single}
use Rattle.st_type_table.proofs.JoinLemmas.{map-at, ranked-joins}
use Rattle.st_type_table.proofs.CasesLemmas.{no_fields}
use Rattle.st_type_table.proofs.PositionLemmas.{placed, unplaced, is_alias, position_rank, rank_at, name_rank}
use Rattle.st_any_table.specs.inner.Heads.{heads_at, heads_in, heads_of, head_node, head_graph, HeadEnds, JoinsHere, IsJoining}

module _ (defs : List SyntaxDef) where
  node-of-body : (x : List ℕ) (p : ℕ) (b : SyntaxBody) → position_of defs x ≡ Some p → body_of defs x ≡ Some b → slice_get (head_graph defs) p ≡ Some (Some (heads_of defs b))
  node-of-body x p b e q =
      let r = placed defs x p e in
      let d : Some r.definition.body ≡ Some b = sym r.body_is ∙ q in
      let s : r.definition.body ≡ b = cc in
      map-at (head_node defs) defs p r.definition r.there ∙ ap (λ z. Some (Some (heads_of defs z))) s

  abbrev AllEnd : List ℕ → Type 0
  AllEnd positions = (j : ℕ) → IsOne positions j → EndsAt (head_graph defs) j

  name-ends : (x : List ℕ) (b : SyntaxBody) → body_of defs x ≡ Some b → AllEnd (heads_of defs b) → AllEnd (one_position (position_of defs x))
  name-ends x b e h = by (position_of defs x) refl
    where
      by : (o : Option ℕ) → position_of defs x ≡ o → AllEnd (one_position o)
      by None f j m = absurd m
      by (Some p) f j (inl q) = EndsAt.ends (heads_of defs b) (ap (slice_get (head_graph defs)) q ∙ node-of-body x p b f e) h
      by (Some p) f j (inr m) = absurd m

  none-ends : (x : List ℕ) → body_of defs x ≡ None → AllEnd (one_position (position_of defs x))
  none-ends x e = by (position_of defs x) refl
    where
      by : (o : Option ℕ) → position_of defs x ≡ o → AllEnd (one_position o)
      by None f j m = absurd m
      by (Some p) f j m = let r = placed defs x p f in let z : Some r.definition.body ≡ None = sym r.body_is ∙ e in cc

  aliased-ends : (t s : Ty) → alias_of defs t ≡ Some s → HeadEnds defs s → HeadEnds defs t
  aliased-ends t s e h =
      let i = is_alias defs (out-Ty t) s e in
      subst (λ l. AllEnd (heads_at defs l)) (sym i.level) (name-ends i.name (body.Alias s) i.body_is h)

  itself-ends : (t : Ty) → alias_of defs t ≡ None → HeadEnds defs t
  itself-ends t e = by (out-Ty t) e
    where
      name : (x : List ℕ) (o : Option SyntaxBody) → body_of defs x ≡ o → aliased o ≡ None → AllEnd (one_position (position_of defs x))
      name x None f q = none-ends x f
      name x (Some (body.Alias s)) f q = cc
      name x (Some (body.Variant as')) f q = name-ends x (body.Variant as') f (λ j m. absurd m)
      name x (Some (body.Fields fs)) f q = name-ends x (body.Fields fs) f (λ j m. absurd m)

      by : (l : Ty-F Ty) → aliased (named_at defs l) ≡ None → AllEnd (heads_at defs l)
      by (Ty-F.Name x) q = name x (body_of defs x) refl q
      by Ty-F.Bool q = λ j m. absurd m
      by Ty-F.Nat q = λ j m. absurd m
      by Ty-F.Int q = λ j m. absurd m
      by Ty-F.Text q = λ j m. absurd m
      by (Ty-F.List u) q = λ j m. absurd m
      by (Ty-F.Opt u) q = λ j m. absurd m
      by (Ty-F.Tuple us) q = λ j m. absurd m

  -- where a type has a meaning the way along aliases ends
  pub Means-ends : (t u : Ty) → Means defs t u → HeadEnds defs t
  Means-ends t u (Means.itself p q) = itself-ends t p
  Means-ends t u (Means.alias s p m) = aliased-ends t s p (Means-ends s u m)

  -- the definition of an alias, and what it leads to
  record AliasAt (t s : Ty) : Type 0 where
    position : ℕ
    name : List ℕ
    level : out-Ty t ≡ Ty-F.Name name
    there : position_of defs name ≡ Some position
    node : slice_get (head_graph defs) position ≡ Some (Some (heads_in defs s))

  alias-at : (t s : Ty) → alias_of defs t ≡ Some s → AliasAt t s
  alias-at t s e = let i = is_alias defs (out-Ty t) s e in by i.name i.level i.body_is (position_of defs i.name) refl
    where
      by : (x : List ℕ) → out-Ty t ≡ Ty-F.Name x → body_of defs x ≡ Some (body.Alias s) → (o : Option ℕ) → position_of defs x ≡ o → AliasAt t s
      by x q b None f = let z : Some (body.Alias s) ≡ None = sym b ∙ unplaced defs x f in cc
      by x q b (Some p) f = record { position = p; name = x; level = q; there = f; node = node-of-body x p (body.Alias s) f b }

  at-ends : (t s : Ty) (a : AliasAt t s) → HeadEnds defs t → EndsAt (head_graph defs) a.position
  at-ends t s a h = h a.position (subst (λ l. IsOne (heads_at defs l) a.position) (sym a.level) (subst (λ o. IsOne (one_position o) a.position) (sym a.there) (inl refl)))

  -- what an alias stands for ends, where the alias does
  pub alias-ends : (t s : Ty) → alias_of defs t ≡ Some s → HeadEnds defs t → HeadEnds defs s
  alias-ends t s e h = let a = alias-at t s e in by a (at-ends t s a h)
    where
      by : (a : AliasAt t s) → EndsAt (head_graph defs) a.position → HeadEnds defs s
      by a (EndsAt.ends next g all) =
          let q : Some (Some (heads_in defs s)) ≡ Some (Some next) = sym a.node ∙ g in
          let n : heads_in defs s ≡ next = cc in
          λ j m. all j (subst (λ ns. IsOne ns j) n m)

  pub alias-lower : (ranks : List ℕ) → AreRanks (head_graph defs) ranks → (t s : Ty) → alias_of defs t ≡ Some s → HeadEnds defs t → name_rank defs ranks s < name_rank defs ranks t
  alias-lower ranks right t s e h =
      let a = alias-at t s e in
      let k : name_rank defs ranks t ≡ suc (slice_index ranks a.position) = ap (rank_at defs ranks) a.level ∙ ap (position_rank defs ranks) a.there in
      let b = by a (out-Ty s) (λ q m. right.falls a.position q (heads_in defs s) ((right.exact a.position).1 (at-ends t s a h)) a.node m) in
      omega (arith, k, b)
    where
      by : (a : AliasAt t s) (l : Ty-F Ty) → ((q : ℕ) → IsOne (heads_at defs l) q → (0 < slice_index ranks q) × (slice_index ranks q < slice_index ranks a.position))
          → rank_at defs ranks l < suc (slice_index ranks a.position)
      by a (Ty-F.Name y) f = at (position_of defs y) f
        where
          at : (o : Option ℕ) → ((q : ℕ) → IsOne (one_position o) q → (0 < slice_index ranks q) × (slice_index ranks q < slice_index ranks a.position))
              → position_rank defs ranks o < suc (slice_index ranks a.position)
          at None f = omega arith
          at (Some q) f = let b = (f q (inl refl)).1 in omega (arith, b)
      by a Ty-F.Bool f = omega arith
      by a Ty-F.Nat f = omega arith
      by a Ty-F.Int f = omega arith
      by a Ty-F.Text f = omega arith
      by a (Ty-F.List u) f = omega arith
      by a (Ty-F.Opt u) f = omega arith
      by a (Ty-F.Tuple us) f = omega arith

  -- ---- what the top of a type says

  pub head-ranked : (ranks : List ℕ) → AreRanks (head_graph defs) ranks → (t : Ty) (p : ℕ) (r : Bool) → one_position (Some p) ≡ heads_in defs t → (IsTrue r ↔ (0 < slice_index ranks p)) → IsTrue r ↔ HeadEnds defs t
  head-ranked ranks right t p r e h = (λ y j m. by (h.0 y) j (subst (λ ns. IsOne ns j) (sym e) m), λ f. h.1 ((right.exact p).1 (f p (subst (λ ns. IsOne ns p) e (inl refl)))))
    where
      by : 0 < slice_index ranks p → (j : ℕ) → IsOne (p ∷ []) j → EndsAt (head_graph defs) j
      by k j (inl q) = subst (EndsAt (head_graph defs)) (sym q) ((right.exact p).0 k)
      by k j (inr m) = absurd m

  pub no-head : (t : Ty) → one_position None ≡ heads_in defs t → HeadEnds defs t
  no-head t e j m = absurd (subst (λ ns. IsOne ns j) (sym e) m)

  -- a type with a head is the name of a definition
  pub record IsNameOf (t : Ty) (p : ℕ) : Type 0 where
    pub name : List ℕ
    pub is : t ≡ ty.Name name
    pub there : position_of defs name ≡ Some p

  pub head-name : (t : Ty) (p : ℕ) → one_position (Some p) ≡ heads_in defs t → IsNameOf t p
  head-name t p e = by (out-Ty t) refl e
    where
      one : (o : Option ℕ) → p ∷ [] ≡ one_position o → o ≡ Some p
      one None q = cc
      one (Some j) q = let s : p ≡ j = cc in ap Some (sym s)

      by : (l : Ty-F Ty) → out-Ty t ≡ l → p ∷ [] ≡ heads_at defs l → IsNameOf t p
      by (Ty-F.Name x) q h = record { name = x; is = sym (roll-out-Ty t) ∙ ap roll-Ty q ∙ ty.rolls-Name x; there = one (position_of defs x) h }
      by Ty-F.Bool q h = cc
      by Ty-F.Nat q h = cc
      by Ty-F.Int q h = cc
      by Ty-F.Text q h = cc
      by (Ty-F.List u) q h = cc
      by (Ty-F.Opt u) q h = cc
      by (Ty-F.Tuple us) q h = cc

  pub head-within : (t : Ty) (p : ℕ) → one_position (Some p) ≡ heads_in defs t → p < length defs
  head-within t p e = let n = head-name t p e in let r = placed defs n.name p n.there in slice_get_within defs p r.definition r.there

  -- a type without a head names no body
  pub no-head-body : (t : Ty) → one_position None ≡ heads_in defs t → named_at defs (out-Ty t) ≡ None
  no-head-body t e = by (out-Ty t) e
    where
      one : (x : List ℕ) (o : Option ℕ) → position_of defs x ≡ o → [] ≡ one_position o → body_of defs x ≡ None
      one x None f q = unplaced defs x f
      one x (Some j) f q = cc

      by : (l : Ty-F Ty) → [] ≡ heads_at defs l → named_at defs l ≡ None
      by (Ty-F.Name x) q = one x (position_of defs x) refl q
      by Ty-F.Bool q = refl
      by Ty-F.Nat q = refl
      by Ty-F.Int q = refl
      by Ty-F.Text q = refl
      by (Ty-F.List u) q = refl
      by (Ty-F.Opt u) q = refl
      by (Ty-F.Tuple us) q = refl

  pub fields-exact : (t u : Ty) (o : Option (Bor (List (List ℕ × Ty)))) → Means defs t u → option_copied o ≡ fields_of defs u
      → MatchOption o ((fields : List (List ℕ × Ty)) → HasFields defs t fields → ⊥) (λ f. HasFields defs t f.now)
  fields-exact t u None m e = λ fields h. no_fields defs t u m (sym e) fields h
  fields-exact t u (Some f) m e = record { structure = u; means = m; declared = sym e }

  -- ---- records that can be joined

  pub joining-at : (ranks : List ℕ) → AreRanks (join_graph defs) ranks → (p : ℕ) (d : SyntaxDef) (fields : List (List ℕ × Ty)) (r : Bool) → slice_get defs p ≡ Some d → d.body ≡ body.Fields fields
      → (IsTrue r ↔ (0 < slice_index ranks p)) → IsTrue r ↔ IsJoining defs p
  joining-at ranks right p d fields r e b h =
      let k = ranked-joins defs ranks right p d fields e b in
      (λ y. (d, (e, (fields, (b, k.0 (h.0 y))))), λ j. by j)
    where
      by : IsJoining defs p → IsTrue r
      by (d', (e', (fields', (b', all)))) = let k = ranked-joins defs ranks right p d' fields' e' b' in h.1 (k.1 all)

  pub not-joining : (p : ℕ) (d : SyntaxDef) → slice_get defs p ≡ Some d → recorded (Some d.body) ≡ None → IsJoining defs p → ⊥
  not-joining p d e n (d', (e', (fields, (b, all)))) =
      let s : Some d ≡ Some d' = sym e ∙ e' in
      let s' : d ≡ d' = cc in
      let z : None ≡ Some fields = sym n ∙ ap (λ z. recorded (Some z.body)) s' ∙ ap (λ z. recorded (Some z)) b in
      cc

  -- the name of a definition joins where the definition does
  pub joining-name : (x : List ℕ) (p : ℕ) (r : Bool) → position_of defs x ≡ Some p → (IsTrue r ↔ IsJoining defs p) → IsTrue r ↔ JoinsHere defs (ty.Name x)
  joining-name x p r e h = (λ y. to (h.0 y), λ j. h.1 (from j))
    where
      of : fields_of defs (ty.Name x) ≡ recorded (body_of defs x)
      of = ap (λ l. recorded (named_at defs l)) (ty.outs-Name x)

      to : IsJoining defs p → JoinsHere defs (ty.Name x)
      to (d, (g, (fields, (b, all)))) =
          let q = placed defs x p e in
          let s : Some q.definition ≡ Some d = sym q.there ∙ g in
          let s' : q.definition ≡ d = cc in
          (fields, (of ∙ ap recorded q.body_is ∙ ap (λ z. recorded (Some z)) (ap (λ z. z.body) s' ∙ b), all))

      from : JoinsHere defs (ty.Name x) → IsJoining defs p
      from (fields, (f, all)) =
          let q = placed defs x p e in
          let s : recorded (Some q.definition.body) ≡ Some fields = ap recorded (sym q.body_is) ∙ sym of ∙ f in
          (q.definition, (q.there, (fields, (fields-body q.definition.body fields s, all))))
        where
          fields-body : (b : SyntaxBody) (fields : List (List ℕ × Ty)) → recorded (Some b) ≡ Some fields → b ≡ body.Fields fields
          fields-body (body.Alias s) fields e = cc
          fields-body (body.Variant as') fields e = cc
          fields-body (body.Fields fs) fields e = let q : fs ≡ fields = cc in ap body.Fields q

  pub joining-head : (t : Ty) (p : ℕ) (r : Bool) → one_position (Some p) ≡ heads_in defs t → (IsTrue r ↔ IsJoining defs p) → IsTrue r ↔ JoinsHere defs t
  joining-head t p r e h = let n = head-name t p e in subst (λ z. IsTrue r ↔ JoinsHere defs z) (sym n.is) (joining-name n.name p r n.there h)

  pub no-joining-head : (t : Ty) → one_position None ≡ heads_in defs t → JoinsHere defs t → ⊥
  no-joining-head t e (fields, (f, all)) = let z : None ≡ Some fields = ap recorded (sym (no-head-body t e)) ∙ f in cc

  pub joins-here : (t u : Ty) (r : Bool) → Means defs t u → (IsTrue r ↔ JoinsHere defs u) → IsTrue r ↔ Joins defs t
  joins-here t u r m h = (λ y. to (h.0 y), λ j. h.1 (from j))
    where
      to : JoinsHere defs u → Joins defs t
      to (fields, e) = Joins.joins fields (record { structure = u; means = m; declared = e.0 }) e.1

      from : Joins defs t → JoinsHere defs u
      from (Joins.joins fields has all) = (fields, (ap (fields_of defs) (Means-single defs t u has.structure m has.means) ∙ has.declared, all))

  pub no-joins : (t : Ty) → ((u : Ty) → Means defs t u → ⊥) → Joins defs t → ⊥
  no-joins t n (Joins.joins fields has all) = n has.structure has.means
