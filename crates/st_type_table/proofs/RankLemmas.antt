-- Cases that are found rank by rank.
use Rattle.std.proofs.Common.{◌≡◌, ◌≢◌, refl, sym, ap, ◌∙◌, subst, ℕ, zero, suc, ◌+◌, ◌<◌, ◌≤◌, List, [], ◌∷◌, ◌++◌, length, set, Option, Some, None, arith, inl, inr, ◌⊎◌}
use Rattle.std.proofs.lemmas.List.{length-set, length-map}
use Rattle.std.proofs.lemmas.Option.{slice_get_within}
use Rattle.std.specs.Prelude.{slice_get, slice_index}
use Rattle.std.specs.List.{flat_map}
use Rattle.st_il.specs.declared.ty.Ty.{Ty, out-Ty}
use Rattle.st_il.specs.declared.ty.Ty.TheOpen.{Ty-F}
use Rattle.st_il.specs.declared.ty.Ty.TheVariants as ty
use Rattle.st_il.specs.declared.definition.SyntaxDef.{SyntaxDef}
use Rattle.st_il.specs.declared.definition.SyntaxBody.{SyntaxBody}
use Rattle.st_il.specs.declared.definition.SyntaxBody.TheVariants as body
use Rattle.st_il.specs.declared.definition.Alternative.{Alternative}
use Rattle.st_il.specs.declared.definition.Alternative.TheVariants as alternative
use Rattle.st_type_table.specs.declared.flat.Flat.{Flat}
use Rattle.st_type_table.specs.Meaning.{Means, listed}
use Rattle.st_type_table.specs.Cases.{or_none}
use Rattle.st_type_table.specs.Leads.{Among, Ends, leads_to, included}
use Rattle.st_type_table.specs.inner.Graph.{graph_of, node_of, AreRanks, EndsIn, position_of, positions_of, IsOne, EndsAt}
use Rattle.st_type_table.specs.inner.Flat.{AreFlats, AllReached, IsFlat, IsReached, IsFlatAt, AllReady, alternatives_in}
use Rattle.st_type_table.proofs.GraphLemmas.{same_position}
use Rattle.st_type_table.proofs.IsOneLemmas.{one_more}
use Rattle.st_type_table.proofs.PositionLemmas.{position-among, EndsAt-Ends, Ends-EndsAt, node_at, alias-lower, alias-ends, name_rank, rank_at, position_rank, ends_by}

-- the flats of lower ranks, and those of these definitions
pub record Filling (defs : List SyntaxDef) (ranks : List ℕ) (rank : ℕ) (flats : List Flat) (done : List ℕ) : Type 0 where
  pub lower : AreFlats defs ranks rank flats
  pub next : (position : ℕ) (d : SyntaxDef) (f : Flat) → IsOne done position → slice_get defs position ≡ Some d
      → slice_get flats position ≡ Some f → IsFlat defs (alternatives_in d) f × IsReached defs (alternatives_in d) f.reach

-- the flats of all ranks, and those of no rank up to this position
pub record Resting (defs : List SyntaxDef) (ranks : List ℕ) (flats : List Flat) (i : ℕ) : Type 0 where
  pub known : AreFlats defs ranks (length defs) flats
  pub rest : (position : ℕ) (d : SyntaxDef) (f : Flat) → position < i → slice_get defs position ≡ Some d → slice_index ranks position ≡ 0
      → slice_get flats position ≡ Some f → IsReached defs (alternatives_in d) f.reach

pub set-other : {A : Type 0} (xs : List A) (i j : ℕ) (x : A) → j ≢ i → slice_get (set xs i x) j ≡ slice_get xs j
set-other [] i j x d = refl
set-other (y ∷ xs) zero zero x d = absurd (d refl)
set-other (y ∷ xs) zero (suc j) x d = refl
set-other (y ∷ xs) (suc i) zero x d = refl
set-other (y ∷ xs) (suc i) (suc j) x d = set-other xs i j x (λ e. d (ap suc e))

pub set-same : {A : Type 0} (xs : List A) (i : ℕ) (x y : A) → slice_get (set xs i x) i ≡ Some y → x ≡ y
set-same [] i x y e = cc
set-same (z ∷ xs) zero x y e = cc
set-same (z ∷ xs) (suc i) x y e = set-same xs i x y e

pub name-same : (x y : List ℕ) → ty.Name x ≡ ty.Name y → x ≡ y
name-same x y q = let e : Ty-F.Name x ≡ Ty-F.Name y = sym (ty.outs-Name x) ∙ ap out-Ty q ∙ ty.outs-Name y in cc

module _ (defs : List SyntaxDef) (ranks : List ℕ) (right : AreRanks (graph_of defs) ranks) where
  -- aliases lead to no larger ranks
  pub means-lower : (t u : Ty) → EndsIn defs t → Means defs t u → (name_rank defs ranks u ≤ name_rank defs ranks t) × EndsIn defs u
  means-lower t u ends (Means.itself p q) = (let e : name_rank defs ranks t ≡ name_rank defs ranks u = ap (name_rank defs ranks) q in omega (arith, e), subst (EndsIn defs) q ends)
  means-lower t u ends (Means.alias s p q) =
      let a = alias-lower defs ranks right t s p ends in
      let b = means-lower s u (alias-ends defs t s p ends) q in
      let c = b.0 in
      (omega (arith, a, c), b.1)

  rank-of-name : (name : List ℕ) (p : ℕ) → position_of defs name ≡ Some p → name_rank defs ranks (ty.Name name) ≡ suc (slice_index ranks p)
  rank-of-name name p e = ap (rank_at defs ranks) (ty.outs-Name name) ∙ ap (position_rank defs ranks) e

  -- what a position leads to ends, and its cases are known
  module _ (flats : List Flat) (limit i : ℕ) (d : SyntaxDef) (known : AreFlats defs ranks limit flats) (there : slice_get defs i ≡ Some d) (ranked : slice_index ranks i ≡ suc limit) where
    ends_at : EndsAt (graph_of defs) i
    ends_at = (right.exact i).0 (omega (arith, ranked))

    leads-ends : (name : List ℕ) → Among (leads_to d.body) name → Ends defs name
    leads-ends name a = by ends_at
      where
        by : EndsAt (graph_of defs) i → Ends defs name
        by (EndsAt.ends next g all) =
            let e : Some (Some next) ≡ Some (Some (positions_of defs (leads_to d.body))) = sym g ∙ node_at defs defs i d there in
            let s : next ≡ positions_of defs (leads_to d.body) = cc in
            ends_by defs name (position_of defs name) refl (λ j f. EndsAt-Ends defs j (all j (subst (λ ns. IsOne ns j) (sym s) (position-among defs (leads_to d.body) name j a f))) name f)

    below_limit : (name : List ℕ) (o : Option ℕ) → position_of defs name ≡ o → Among (leads_to d.body) name → (n : ℕ) → suc n ≤ name_rank defs ranks (ty.Name name) → n ≤ limit
    below_limit name None e a n h =
        let z : name_rank defs ranks (ty.Name name) ≡ 0 = ap (rank_at defs ranks) (ty.outs-Name name) ∙ ap (position_rank defs ranks) e in
        absurd (omega (arith, h, z))
    below_limit name (Some j) e a n h =
        let r = rank-of-name name j e in
        let f = (right.falls i j (positions_of defs (leads_to d.body)) (omega (arith, ranked)) (node_at defs defs i d there) (position-among defs (leads_to d.body) name j a e)).1 in
        omega (arith, h, r, f, ranked)

    leads-known : (name : List ℕ) → Among (leads_to d.body) name → IsFlatAt defs flats (ty.Name name)
    leads-known name a variant position v f m p g h =
        let ends : EndsIn defs (ty.Name name) = λ x q. subst (Ends defs) (name-same name x q) (leads-ends name a) in
        let l = means-lower (ty.Name name) (ty.Name variant) ends m in
        let r = rank-of-name variant position p in
        let b = l.0 in
        let low = below_limit name (position_of defs name) refl a (slice_index ranks position) (omega (arith, b, r)) in
        known.right position v f g ((right.exact position).1 (Ends-EndsAt defs variant (l.1 variant refl) position p)) low h

    ready_list : (as' : List Alternative) → ((name : List ℕ) → Among (flat_map included as') name → Ends defs name × IsFlatAt defs flats (ty.Name name)) → AllReady defs flats as'
    ready_list [] h = tt
    ready_list (alternative.Case tag operands ∷ as') h = (λ name e. cc, ready_list as' h)
    ready_list (alternative.Incl y ∷ as') h =
        ((λ name e. let q : y ≡ name = cc in subst (λ n. Ends defs n × IsFlatAt defs flats (ty.Name n)) q (h y (inl refl))), ready_list as' (λ n a. h n (inr a)))

    ready_body : (b : SyntaxBody) → d.body ≡ b → AllReady defs flats (or_none (listed (Some b)))
    ready_body (body.Alias t) e = tt
    ready_body (body.Fields fs) e = tt
    ready_body (body.Variant as') e = ready_list as' (λ name a.
        let m : Among (leads_to d.body) name = subst (λ b. Among (leads_to b) name) (sym e) a in
        (leads-ends name m, leads-known name m))

    pub ready : AllReady defs flats (alternatives_in d)
    ready = ready_body d.body refl

-- ---- a position of the rank in turn

-- the definition and what is kept at a position that was set
module _ {A B : Type 0} (defs : List A) (flats : List B) (i : ℕ) (d : A) (flat : B) (there : slice_get defs i ≡ Some d) where
  pub set-here : (p : ℕ) (v : A) (w : B) → p ≡ i → slice_get defs p ≡ Some v → slice_get (set flats i flat) p ≡ Some w → (d ≡ v) × (flat ≡ w)
  set-here p v w q a e =
      let s : flat ≡ w = set-same flats i flat w (ap (slice_get (set flats i flat)) (sym q) ∙ e) in
      let t : Some d ≡ Some v = sym there ∙ ap (slice_get defs) (sym q) ∙ a in
      let u : d ≡ v = cc in
      (u, s)

module _ (defs : List SyntaxDef) (ranks : List ℕ) (rank : ℕ) where
  pub fill-start : (flats : List Flat) → AreFlats defs ranks rank flats → Filling defs ranks rank flats []
  fill-start flats lower = record { lower = lower; next = λ p v w m. absurd m }

  pub fill-then : (flats after : List Flat) (done : List ℕ) (i : ℕ) (d : SyntaxDef) (flat : Flat) → Filling defs ranks rank flats done → slice_get defs i ≡ Some d → slice_index ranks i ≡ suc rank
      → IsFlat defs (alternatives_in d) flat → IsReached defs (alternatives_in d) flat.reach → after ≡ set flats i flat → Filling defs ranks rank after (done ++ i ∷ [])
  fill-then flats after done i d flat f g r is reached q = subst (λ z. Filling defs ranks rank z (done ++ i ∷ [])) (sym q) (record {
    lower = record {
      size = length-set flats i flat ∙ f.lower.size;
      right = λ p v w a b c e. f.lower.right p v w a b c (sym (set-other flats i p flat (other p c)) ∙ e);
      reached = λ p v w a b c e. f.lower.reached p v w a b c (sym (set-other flats i p flat (other p c)) ∙ e);
    };
    next = λ p v w m a e. by p v w ((one_more done i p).0 m) a e (same_position p i);
  })
    where
      other : (p : ℕ) → slice_index ranks p ≤ rank → p ≢ i
      other p c e = let z : slice_index ranks p ≡ slice_index ranks i = ap (slice_index ranks) e in omega (arith, c, z, r)

      by : (p : ℕ) (v : SyntaxDef) (w : Flat) → IsOne done p ⊎ (p ≡ i) → slice_get defs p ≡ Some v → slice_get (set flats i flat) p ≡ Some w
          → (p ≡ i) ⊎ (p ≢ i) → IsFlat defs (alternatives_in v) w × IsReached defs (alternatives_in v) w.reach
      by p v w m a e (inl q) =
          let s = set-here defs flats i d flat g p v w q a e in
          subst (λ z. IsFlat defs (alternatives_in v) z × IsReached defs (alternatives_in v) z.reach) s.1
          (subst (λ z. IsFlat defs (alternatives_in z) flat × IsReached defs (alternatives_in z) flat.reach) s.0 (is, reached))
      by p v w (inl m) a e (inr n) = f.next p v w m a (sym (set-other flats i p flat n) ∙ e)
      by p v w (inr m) a e (inr n) = absurd (n m)

  -- all definitions of the rank
  pub filled : (flats : List Flat) (row : List ℕ) → Filling defs ranks rank flats row → ((i : ℕ) → slice_index ranks i ≡ suc rank → IsOne row i) → AreFlats defs ranks (suc rank) flats
  filled flats row f all = record {
    size = f.lower.size;
    right = λ p v w a b c e. by p v w a b c e (same_position (slice_index ranks p) (suc rank)) (λ l. f.lower.right p v w a b l e) (λ x. x.0);
    reached = λ p v w a b c e. by p v w a b c e (same_position (slice_index ranks p) (suc rank)) (λ l. f.lower.reached p v w a b l e) (λ x. x.1);
  }
    where
      by : {G : Type 0} (p : ℕ) (v : SyntaxDef) (w : Flat) → slice_get defs p ≡ Some v → 0 < slice_index ranks p → slice_index ranks p ≤ suc rank → slice_get flats p ≡ Some w
          → (slice_index ranks p ≡ suc rank) ⊎ (slice_index ranks p ≢ suc rank) → (slice_index ranks p ≤ rank → G)
          → (IsFlat defs (alternatives_in v) w × IsReached defs (alternatives_in v) w.reach → G) → G
      by p v w a b c e (inl q) low here = here (f.next p v w (all p q) a e)
      by p v w a b c e (inr n) low here = low (omega (arith, c, n))

-- ---- positions of no rank

module _ (defs : List SyntaxDef) (ranks : List ℕ) where
  pub rest-then : (flats after : List Flat) (i : ℕ) (d : SyntaxDef) (flat : Flat) → Resting defs ranks flats i → slice_get defs i ≡ Some d → slice_index ranks i ≡ 0
      → IsReached defs (alternatives_in d) flat.reach → after ≡ set flats i flat → Resting defs ranks after (i + 1)
  rest-then flats after i d flat f g r reached q = subst (λ z. Resting defs ranks z (i + 1)) (sym q) (record {
    known = record {
      size = length-set flats i flat ∙ f.known.size;
      right = λ p v w a b c e. f.known.right p v w a b c (sym (set-other flats i p flat (other p b)) ∙ e);
      reached = λ p v w a b c e. f.known.reached p v w a b c (sym (set-other flats i p flat (other p b)) ∙ e);
    };
    rest = λ p v w h a b e. by p v w h a b e (same_position p i);
  })
    where
      other : (p : ℕ) → 0 < slice_index ranks p → p ≢ i
      other p b e = let z : slice_index ranks p ≡ slice_index ranks i = ap (slice_index ranks) e in omega (arith, b, z, r)

      by : (p : ℕ) (v : SyntaxDef) (w : Flat) → p < i + 1 → slice_get defs p ≡ Some v → slice_index ranks p ≡ 0 → slice_get (set flats i flat) p ≡ Some w
          → (p ≡ i) ⊎ (p ≢ i) → IsReached defs (alternatives_in v) w.reach
      by p v w h a b e (inl q) =
          let s = set-here defs flats i d flat g p v w q a e in
          subst (λ z. IsReached defs (alternatives_in v) z.reach) s.1 (subst (λ z. IsReached defs (alternatives_in z) flat.reach) s.0 reached)
      by p v w h a b e (inr n) = f.rest p v w (omega (arith, h, n)) a b (sym (set-other flats i p flat n) ∙ e)

  pub rest-else : (flats after : List Flat) (i : ℕ) → Resting defs ranks flats i → (slice_index ranks i ≡ 0 → ⊥) → after ≡ flats → Resting defs ranks after (i + 1)
  rest-else flats after i f ranked q = subst (λ z. Resting defs ranks z (i + 1)) (sym q) (record {
    known = f.known;
    rest = λ p v w h a b e. by p v w h a b e (same_position p i);
  })
    where
      by : (p : ℕ) (v : SyntaxDef) (w : Flat) → p < i + 1 → slice_get defs p ≡ Some v → slice_index ranks p ≡ 0 → slice_get flats p ≡ Some w → (p ≡ i) ⊎ (p ≢ i) → IsReached defs (alternatives_in v) w.reach
      by p v w h a b e (inl q) = absurd (ranked (ap (slice_index ranks) (sym q) ∙ b))
      by p v w h a b e (inr n) = f.rest p v w (omega (arith, h, n)) a b e

  pub rested : (flats : List Flat) (i : ℕ) → AreRanks (graph_of defs) ranks → Resting defs ranks flats i → length defs ≤ i → AllReached defs flats
  rested flats i right f h p v w a e = by (same_position (slice_index ranks p) 0)
    where
      by : (slice_index ranks p ≡ 0) ⊎ (slice_index ranks p ≢ 0) → IsReached defs (alternatives_in v) w.reach
      by (inl q) = f.rest p v w (let l = slice_get_within defs p v a in omega (arith, l, h)) a q e
      by (inr n) = f.known.reached p v w a (omega (arith, n)) (let b = right.bounded p in let c = length-map defs (node_of defs) in omega (arith, b, c)) e
