-- Names and their positions: what leads where, and what ends.
use Rattle.std.proofs.Common.{◌≡◌, refl, sym, ap, ◌∙◌, subst, ℕ, zero, suc, ◌<◌, List, [], ◌∷◌, ◌++◌, map, Bool, true, false, Option, Some, None, nat_eq, if◌then◌else◌, arith, inl, inr, ◌⊎◌}
use Rattle.std.proofs.lemmas.Slice.Eq.{bytes_eq-Decides}
use Rattle.std.specs.Prelude.{slice_get, slice_index}
use Rattle.std.specs.Option.{option_map}
use Rattle.std.specs.Cmp.Lexicographic.{pointwise}
use Rattle.st_il.specs.declared.ty.Ty.{Ty, out-Ty, roll-Ty, roll-out-Ty, fold-roll-Ty}
use Rattle.st_il.specs.declared.ty.Ty.TheOpen.{Ty-F}
use Rattle.st_il.specs.declared.ty.Ty.TheVariants as ty
use Rattle.st_il.specs.declared.definition.SyntaxDef.{SyntaxDef}
use Rattle.st_il.specs.declared.definition.SyntaxBody.{SyntaxBody}
use Rattle.st_il.specs.declared.definition.SyntaxBody.TheVariants as body
use Rattle.st_type_table.specs.Meaning.{body_of, named_at, alias_of, aliased, Means}
use Rattle.st_type_table.specs.Leads.{Among, names_in, names_at, leads_from, next_of, Leads, Ends}
use Rattle.st_type_table.specs.inner.Graph.{position_of, one_position, positions_of, node_of, graph_of, IsOne, EndsAt, LeadsAt, AreRanks, EndsIn}

-- the definition at the position of a name
pub record Placed (defs : List SyntaxDef) (name : List ℕ) (position : ℕ) : Type 0 where
  pub definition : SyntaxDef
  pub there : slice_get defs position ≡ Some definition
  pub called : definition.name ≡ name
  pub body_is : body_of defs name ≡ Some definition.body

pub placed : (defs : List SyntaxDef) (name : List ℕ) (p : ℕ) → position_of defs name ≡ Some p → Placed defs name p
placed [] name p e = cc
placed (d ∷ ds) name p e = by (pointwise nat_eq name d.name) refl (position_of ds name) refl e (λ q h. placed ds name q h)
  where
    by : (b : Bool) → pointwise nat_eq name d.name ≡ b → (o : Option ℕ) → position_of ds name ≡ o → (if b then Some 0 else option_map suc o) ≡ Some p
        → ((q : ℕ) → position_of ds name ≡ Some q → Placed ds name q) → Placed (d ∷ ds) name p
    by true f o g h next =
        let z : 0 ≡ p = cc in
        subst (Placed (d ∷ ds) name) z (record {
          definition = d;
          there = refl;
          called = sym ((bytes_eq-Decides name d.name).0 f);
          body_is = ap (λ b. if b then Some d.body else body_of ds name) f;
        })
    by false f None g h next = cc
    by false f (Some q) g h next =
        let z : suc q ≡ p = cc in
        let r = next q g in
        subst (Placed (d ∷ ds) name) z (record {
          definition = r.definition;
          there = r.there;
          called = r.called;
          body_is = ap (λ b. if b then Some d.body else body_of ds name) f ∙ r.body_is;
        })

-- a name without a position has no body
pub unplaced : (defs : List SyntaxDef) (name : List ℕ) → position_of defs name ≡ None → body_of defs name ≡ None
unplaced [] name e = refl
unplaced (d ∷ ds) name e = by (pointwise nat_eq name d.name) (position_of ds name) refl e (unplaced ds name)
  where
    by : (b : Bool) (o : Option ℕ) → position_of ds name ≡ o → (if b then Some 0 else option_map suc o) ≡ None
        → (position_of ds name ≡ None → body_of ds name ≡ None) → (if b then Some d.body else body_of ds name) ≡ None
    by true o g h next = cc
    by false None g h next = next g
    by false (Some q) g h next = cc

pub node_at : (defs ds : List SyntaxDef) (p : ℕ) (d : SyntaxDef) → slice_get ds p ≡ Some d → slice_get (map (node_of defs) ds) p ≡ Some (node_of defs d)
node_at defs [] p d e = cc
node_at defs (x ∷ xs) zero d e = let s : x ≡ d = cc in ap (λ z. Some (node_of defs z)) s
node_at defs (x ∷ xs) (suc p) d e = node_at defs xs p d e

pub split_one : (xs ys : List ℕ) (j : ℕ) → IsOne (xs ++ ys) j → IsOne xs j ⊎ IsOne ys j
split_one [] ys j h = inr h
split_one (x ∷ xs) ys j (inl e) = inl (inl e)
split_one (x ∷ xs) ys j (inr h) = by (split_one xs ys j h)
  where
    by : IsOne xs j ⊎ IsOne ys j → IsOne (x ∷ xs) j ⊎ IsOne ys j
    by (inl a) = inl (inr a)
    by (inr a) = inr a

pub one-left : (xs ys : List ℕ) (j : ℕ) → IsOne xs j → IsOne (xs ++ ys) j
one-left [] ys j h = absurd h
one-left (x ∷ xs) ys j (inl e) = inl e
one-left (x ∷ xs) ys j (inr h) = inr (one-left xs ys j h)

pub one-right : (xs ys : List ℕ) (j : ℕ) → IsOne ys j → IsOne (xs ++ ys) j
one-right [] ys j h = h
one-right (x ∷ xs) ys j h = inr (one-right xs ys j h)

-- a name with its position
pub record Named (defs : List SyntaxDef) (names : List (List ℕ)) (position : ℕ) : Type 0 where
  pub name : List ℕ
  pub among : Among names name
  pub placed : position_of defs name ≡ Some position

pub name-of : (defs : List SyntaxDef) (names : List (List ℕ)) (j : ℕ) → IsOne (positions_of defs names) j → Named defs names j
name-of defs [] j h = absurd h
name-of defs (x ∷ xs) j h = by (position_of defs x) refl (split_one (one_position (position_of defs x)) (positions_of defs xs) j h) (name-of defs xs j)
  where
    by : (o : Option ℕ) → position_of defs x ≡ o → IsOne (one_position (position_of defs x)) j ⊎ IsOne (positions_of defs xs) j → (IsOne (positions_of defs xs) j → Named defs xs j) → Named defs (x ∷ xs) j
    by None e (inl a) next = absurd (subst (λ z. IsOne (one_position z) j) e a)
    by (Some p) e (inl a) next = first p e (subst (λ z. IsOne (one_position z) j) e a)
      where
        first : (p : ℕ) → position_of defs x ≡ Some p → IsOne (p ∷ []) j → Named defs (x ∷ xs) j
        first p e (inl q) = record { name = x; among = inl refl; placed = e ∙ ap Some (sym q) }
        first p e (inr q) = absurd q
    by o e (inr a) next = let n = next a in record { name = n.name; among = inr n.among; placed = n.placed }

pub position-among : (defs : List SyntaxDef) (names : List (List ℕ)) (name : List ℕ) (j : ℕ) → Among names name → position_of defs name ≡ Some j → IsOne (positions_of defs names) j
position-among defs [] name j a e = absurd a
position-among defs (x ∷ xs) name j (inl q) e =
    one-left (one_position (position_of defs x)) (positions_of defs xs) j (subst (λ z. IsOne (one_position z) j) (sym e ∙ ap (position_of defs) q) (inl refl))
position-among defs (x ∷ xs) name j (inr a) e = one-right (one_position (position_of defs x)) (positions_of defs xs) j (position-among defs xs name j a e)

module _ (defs : List SyntaxDef) where
  -- the node of a name's position has the positions of what the name leads to
  pub node-of-name : (x : List ℕ) (p : ℕ) → position_of defs x ≡ Some p → slice_get (graph_of defs) p ≡ Some (Some (positions_of defs (next_of defs x)))
  node-of-name x p e =
      let r = placed defs x p e in
      node_at defs defs p r.definition r.there ∙ ap (λ o. Some (Some (positions_of defs (leads_from o)))) (sym r.body_is)

  pub next-is : (x : List ℕ) (p : ℕ) (next : List ℕ) → position_of defs x ≡ Some p → slice_get (graph_of defs) p ≡ Some (Some next) → next ≡ positions_of defs (next_of defs x)
  next-is x p next e g =
      let s : Some (Some next) ≡ Some (Some (positions_of defs (next_of defs x))) = sym g ∙ node-of-name x p e in
      cc

  -- what has no position leads nowhere
  pub ends-unplaced : (x : List ℕ) → position_of defs x ≡ None → Ends defs x
  ends-unplaced x e = Ends.ends (λ y a. absurd (subst (λ o. Among (leads_from o) y) (unplaced defs x e) a))

  pub ends_by : (y : List ℕ) (o : Option ℕ) → position_of defs y ≡ o → ((j : ℕ) → position_of defs y ≡ Some j → Ends defs y) → Ends defs y
  ends_by y None f next = ends-unplaced y f
  ends_by y (Some j) f next = next j f

  pub EndsAt-Ends : (p : ℕ) → EndsAt (graph_of defs) p → (x : List ℕ) → position_of defs x ≡ Some p → Ends defs x
  EndsAt-Ends p (EndsAt.ends next g all) x e = Ends.ends (λ y a. ends_by y (position_of defs y) refl (λ j f.
      EndsAt-Ends j (all j (subst (λ ns. IsOne ns j) (sym (next-is x p next e g)) (position-among defs (next_of defs x) y j a f))) y f))

  pub Ends-EndsAt : (x : List ℕ) → Ends defs x → (p : ℕ) → position_of defs x ≡ Some p → EndsAt (graph_of defs) p
  Ends-EndsAt x (Ends.ends all) p e = EndsAt.ends (positions_of defs (next_of defs x)) (node-of-name x p e) (λ j m.
      let n = name-of defs (next_of defs x) j m in
      Ends-EndsAt n.name (all n.name n.among) j n.placed)

  same_name : (x z : List ℕ) (p q : ℕ) → p ≡ q → position_of defs x ≡ Some p → position_of defs z ≡ Some q → x ≡ z
  same_name x z p q e f g =
      let r = placed defs x p f in
      let t = placed defs z q g in
      let d : Some r.definition ≡ Some t.definition = sym r.there ∙ ap (slice_get defs) e ∙ t.there in
      let s : r.definition ≡ t.definition = cc in
      sym r.called ∙ ap (λ d. d.name) s ∙ t.called

  pub LeadsAt-Leads : (p q : ℕ) → LeadsAt (graph_of defs) p q → (x z : List ℕ) → position_of defs x ≡ Some p → position_of defs z ≡ Some q → Leads defs x z
  LeadsAt-Leads p q (LeadsAt.here e) x z f g = Leads.here (same_name x z p q e f g)
  LeadsAt-Leads p q (LeadsAt.step next j h m l) x z f g =
      let n = name-of defs (next_of defs x) j (subst (λ ns. IsOne ns j) (next-is x p next f h) m) in
      Leads.step n.name n.among (LeadsAt-Leads j q l n.name z n.placed g)

  leads_somewhere : (y w : List ℕ) (o : Option ℕ) → position_of defs y ≡ o → Among (next_of defs y) w → (j : ℕ) × (position_of defs y ≡ Some j)
  leads_somewhere y w None f a = absurd (subst (λ o. Among (leads_from o) w) (unplaced defs y f) a)
  leads_somewhere y w (Some j) f a = (j, f)

  -- what leads to a declared name is declared
  leads-placed : (y z : List ℕ) (q : ℕ) → Leads defs y z → position_of defs z ≡ Some q → (j : ℕ) × (position_of defs y ≡ Some j)
  leads-placed y z q (Leads.here e) g = (q, ap (position_of defs) e ∙ g)
  leads-placed y z q (Leads.step w a l) g = leads_somewhere y w (position_of defs y) refl a

  pub Leads-LeadsAt : (x z : List ℕ) → Leads defs x z → (p q : ℕ) → position_of defs x ≡ Some p → position_of defs z ≡ Some q → LeadsAt (graph_of defs) p q
  Leads-LeadsAt x z (Leads.here e) p q f g =
      let s : Some p ≡ Some q = sym f ∙ ap (position_of defs) e ∙ g in
      LeadsAt.here cc
  Leads-LeadsAt x z (Leads.step y a l) p q f g =
      let j = leads-placed y z q l g in
      LeadsAt.step (positions_of defs (next_of defs x)) j.0 (node-of-name x p f) (position-among defs (next_of defs x) y j.0 a j.1) (Leads-LeadsAt y z l j.0 q j.1 g)

  -- ---- ranks of names

  abbrev pub position_rank : List ℕ → Option ℕ → ℕ
  position_rank ranks None = 0
  position_rank ranks (Some p) = suc (slice_index ranks p)

  abbrev pub rank_at : List ℕ → Ty-F Ty → ℕ
  rank_at ranks (Ty-F.Name x) = position_rank ranks (position_of defs x)
  rank_at ranks _ = 0

  -- more than 0 where the type is a declared name
  abbrev pub name_rank : List ℕ → Ty → ℕ
  name_rank ranks t = rank_at ranks (out-Ty t)

  -- the level is the name of an alias
  pub record IsAlias (l : Ty-F Ty) (s : Ty) : Type 0 where
    pub name : List ℕ
    pub level : l ≡ Ty-F.Name name
    pub body_is : body_of defs name ≡ Some (body.Alias s)

  is_alias_body : (x : List ℕ) (s : Ty) (o : Option SyntaxBody) → body_of defs x ≡ o → aliased o ≡ Some s → IsAlias (Ty-F.Name x) s
  is_alias_body x s None f e = cc
  is_alias_body x s (Some (body.Alias t)) f e = let q : t ≡ s = cc in record { name = x; level = refl; body_is = f ∙ ap (λ z. Some (body.Alias z)) q }
  is_alias_body x s (Some (body.Variant as')) f e = cc
  is_alias_body x s (Some (body.Fields fs)) f e = cc

  pub is_alias : (l : Ty-F Ty) (s : Ty) → aliased (named_at defs l) ≡ Some s → IsAlias l s
  is_alias Ty-F.Bool s e = cc
  is_alias Ty-F.Nat s e = cc
  is_alias Ty-F.Int s e = cc
  is_alias Ty-F.Text s e = cc
  is_alias (Ty-F.List x) s e = cc
  is_alias (Ty-F.Opt x) s e = cc
  is_alias (Ty-F.Tuple xs) s e = cc
  is_alias (Ty-F.Name x) s e = is_alias_body x s (body_of defs x) refl e

  pub names-Name : (y : List ℕ) → names_in (ty.Name y) ≡ y ∷ []
  names-Name y = ap names_in (sym (ty.rolls-Name y)) ∙ fold-roll-Ty (List (List ℕ)) names_at (Ty-F.Name y)

  ends_next : (x : List ℕ) → Ends defs x → (y : List ℕ) → Among (next_of defs x) y → Ends defs y
  ends_next x (Ends.ends all) y a = all y a

  -- an alias that ends stands for a type that ends
  pub alias-ends : (t s : Ty) → alias_of defs t ≡ Some s → EndsIn defs t → EndsIn defs s
  alias-ends t s e ends = λ y q.
      let i = is_alias (out-Ty t) s e in
      let x : Ends defs i.name = ends i.name (sym (roll-out-Ty t) ∙ ap roll-Ty i.level ∙ ty.rolls-Name i.name) in
      ends_next i.name x y (subst (λ ns. Among ns y) (sym (ap leads_from i.body_is)) (subst (λ z. Among (names_in z) y) (sym q) (subst (λ ns. Among ns y) (sym (names-Name y)) (inl refl))))

  module _ (ranks : List ℕ) (right : AreRanks (graph_of defs) ranks) where
    lower : (x : List ℕ) (p : ℕ) → position_of defs x ≡ Some p → Ends defs x → (l : Ty-F Ty) → ((y : List ℕ) → l ≡ Ty-F.Name y → Among (next_of defs x) y) → rank_at ranks l < suc (slice_index ranks p)
    lower x p e all_end (Ty-F.Name y) next = by (position_of defs y) refl
      where
        by : (o : Option ℕ) → position_of defs y ≡ o → position_rank ranks o < suc (slice_index ranks p)
        by None f = omega arith
        by (Some q) f =
            let h = (right.falls p q (positions_of defs (next_of defs x)) ((right.exact p).1 (Ends-EndsAt x all_end p e)) (node-of-name x p e) (position-among defs (next_of defs x) y q (next y refl) f)).1 in
            omega (arith, h)
    lower x p e all_end Ty-F.Bool next = omega arith
    lower x p e all_end Ty-F.Nat next = omega arith
    lower x p e all_end Ty-F.Int next = omega arith
    lower x p e all_end Ty-F.Text next = omega arith
    lower x p e all_end (Ty-F.List y) next = omega arith
    lower x p e all_end (Ty-F.Opt y) next = omega arith
    lower x p e all_end (Ty-F.Tuple ys) next = omega arith

    pub alias-lower : (t s : Ty) → alias_of defs t ≡ Some s → EndsIn defs t → name_rank ranks s < name_rank ranks t
    alias-lower t s e ends =
        let i = is_alias (out-Ty t) s e in
        let x : Ends defs i.name = ends i.name (sym (roll-out-Ty t) ∙ ap roll-Ty i.level ∙ ty.rolls-Name i.name) in
        by i.name i.level i.body_is x (position_of defs i.name) refl
      where
        by : (x : List ℕ) → out-Ty t ≡ Ty-F.Name x → body_of defs x ≡ Some (body.Alias s) → Ends defs x → (o : Option ℕ) → position_of defs x ≡ o → name_rank ranks s < name_rank ranks t
        by x q b all_end None f = let z : Some (body.Alias s) ≡ None = sym b ∙ unplaced defs x f in cc
        by x q b all_end (Some p) f =
            let k : name_rank ranks t ≡ suc (slice_index ranks p) = ap (rank_at ranks) q ∙ ap (position_rank ranks) f in
            let h = lower x p f all_end (out-Ty s) (λ y r. subst (λ ns. Among ns y) (sym (ap leads_from b))
            (subst (λ z. Among (names_in z) y) (sym (sym (roll-out-Ty s) ∙ ap roll-Ty r ∙ ty.rolls-Name y)) (subst (λ ns. Among ns y) (sym (names-Name y)) (inl refl)))) in
            omega (arith, k, h)

-- how far the aliases at the top of a type are followed
pub record Meaning (defs : List SyntaxDef) (t meaning : Ty) : Type 0 where
  pub ends : EndsIn defs meaning
  pub back : (u : Ty) → Means defs meaning u → Means defs t u
