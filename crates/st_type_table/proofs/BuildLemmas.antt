-- What all conditions together say.
use Rattle.std.proofs.Common.{◌≡◌, ◌≢◌, refl, sym, ap, ◌∙◌, subst, ℕ, zero, suc, ◌+◌, ◌<◌, List, [], ◌∷◌, ◌++◌, take, length, Option, Some, None, arith, inl, inr, ◌⊎◌, Bool, true, false, ◌||◌, ◌&&◌, nat_eq}
use Rattle.std.specs.Prelude.{slice_get, slice_index}
use Rattle.std.specs.List.{flat_map}
use Rattle.std.proofs.lemmas.Option.{slice_get_within}
use Rattle.st_il.specs.declared.definition.SyntaxDef.{SyntaxDef}
use Rattle.st_il.specs.declared.definition.SyntaxBody.{SyntaxBody}
use Rattle.st_il.specs.declared.definition.SyntaxBody.TheVariants as body
use Rattle.st_il.specs.declared.definition.Alternative.{Alternative}
use Rattle.st_il.specs.declared.definition.Alternative.TheVariants as alternative
use Rattle.st_type_table.specs.declared.fault.Broken.{Broken}
use Rattle.st_type_table.specs.declared.fault.TypeFault.TheVariants as fault
use Rattle.st_type_table.specs.Meaning.{body_of}
use Rattle.st_type_table.specs.Leads.{Among, leads_to, included, names_in, Leads}
use Rattle.st_type_table.specs.inner.Graph.{Graph, graph_of, position_of, positions_of, IsOne, LeadsAt, EndsAt, AreRanks}
use Rattle.st_type_table.specs.Breach.{SoundTo, IsSound, FirstBreach, AllHold, conditions_on, on_alias, on_alternative, on_alternatives, on_body}
use Rattle.st_type_table.specs.inner.Checking.{CheckedAt}
use Rattle.st_type_table.proofs.GraphLemmas.{same_position}
use Rattle.st_type_table.proofs.PositionLemmas.{placed, node_at, name-of, LeadsAt-Leads}
use Rattle.st_type_table.proofs.PartLemmas.{position-here, item-at}
use Rattle.st_type_table.proofs.CheckLemmas.{is-declared, front_hold, back_hold}
use Rattle.st_type_table.proofs.Ranks.{Between, leads_via, reach, reach-falls}

pub sound-next : (defs : List SyntaxDef) (at : ℕ) → SoundTo defs at → CheckedAt defs at None → SoundTo defs (at + 1)
sound-next defs at s f i h d g = by (same_position i at)
  where
    by : (i ≡ at) ⊎ (i ≢ at) → AllHold defs (conditions_on (take i defs) d)
    by (inl e) = subst (λ n. AllHold defs (conditions_on (take n defs) d)) (sym e) (f d (ap (slice_get defs) (sym e) ∙ g))
    by (inr n) = s i (omega (arith, h, n)) d g

pub breach-is : (defs : List SyntaxDef) (at : ℕ) (b : Broken) (s : ℕ) (other : Broken) → fault.Refused at b ≡ fault.Refused s other → FirstBreach defs at b → FirstBreach defs s other
breach-is defs at b s other e h =
    let x : at ≡ s = cc in
    let y : b ≡ other = cc in
    subst (λ n. FirstBreach defs n other) x (subst (FirstBreach defs at) y h)

-- ---- nothing leads back to itself

alias_returns : (defs : List SyntaxDef) (target : List ℕ) (number : ℕ) (names : List (List ℕ)) → AllHold defs (on_alias target number names) → (name : List ℕ) → Among names name → Leads defs name target → ⊥
alias_returns defs target number [] h name a l = absurd a
alias_returns defs target number (x ∷ names) h name (inl e) l = h.1.0 (subst (λ n. Leads defs n target) e l)
alias_returns defs target number (x ∷ names) h name (inr a) l = alias_returns defs target (suc number) names h.1.1 name a l

parts_return : (defs : List SyntaxDef) (target : List ℕ) (part : ℕ) (before parts : List Alternative) → AllHold defs (on_alternatives target part before parts)
    → (name : List ℕ) → Among (flat_map included parts) name → Leads defs name target → ⊥
parts_return defs target part before [] h name a l = absurd a
parts_return defs target part before (alternative.Case tag operands ∷ parts) h name a l =
    parts_return defs target (suc part) (before ++ alternative.Case tag operands ∷ []) parts
    (back_hold defs (on_alternative target part (before ++ alternative.Case tag operands ∷ []) (alternative.Case tag operands)) (on_alternatives target (suc part) (before ++ alternative.Case tag operands ∷ []) parts) h) name a l
parts_return defs target part before (alternative.Incl x ∷ parts) h name (inl e) l =
    (front_hold defs (on_alternative target part (before ++ alternative.Incl x ∷ []) (alternative.Incl x)) (on_alternatives target (suc part) (before ++ alternative.Incl x ∷ []) parts) h).1.0 (subst (λ n. Leads defs n target) e l)
parts_return defs target part before (alternative.Incl x ∷ parts) h name (inr a) l =
    parts_return defs target (suc part) (before ++ alternative.Incl x ∷ []) parts
    (back_hold defs (on_alternative target part (before ++ alternative.Incl x ∷ []) (alternative.Incl x)) (on_alternatives target (suc part) (before ++ alternative.Incl x ∷ []) parts) h) name a l

body_returns : (defs : List SyntaxDef) (target : List ℕ) (b : SyntaxBody) → AllHold defs (on_body target b) → (name : List ℕ) → Among (leads_to b) name → Leads defs name target → ⊥
body_returns defs target (body.Alias t) h name a l = alias_returns defs target 0 (names_in t) h name a l
body_returns defs target (body.Variant parts) h name a l = parts_return defs target 0 [] parts h name a l
body_returns defs target (body.Fields fs) h name a l = absurd a

-- the name of a sound definition is new
pub sound-new : (defs : List SyntaxDef) → IsSound defs → (at : ℕ) (d : SyntaxDef) → slice_get defs at ≡ Some d → body_of (take at defs) d.name ≡ None
sound-new defs s at d e = (s at (slice_get_within defs at d e) d e).0

position_none : (ds : List SyntaxDef) (name : List ℕ) (o : Option ℕ) → position_of ds name ≡ o → body_of ds name ≡ None → o ≡ None
position_none ds name None e b = refl
position_none ds name (Some p) e b = absurd (is-declared ds name p e b)

pub sound-position : (defs : List SyntaxDef) → IsSound defs → (at : ℕ) (d : SyntaxDef) → slice_get defs at ≡ Some d → position_of defs d.name ≡ Some at
sound-position defs s at d e = position-here defs at d e (position_none (take at defs) d.name (position_of (take at defs) d.name) refl (sound-new defs s at d e))

-- no position leads back to itself
no_cycle : (defs : List SyntaxDef) → IsSound defs → (at j : ℕ) (d : SyntaxDef) → slice_get defs at ≡ Some d → IsOne (positions_of defs (leads_to d.body)) j → LeadsAt (graph_of defs) j at → ⊥
no_cycle defs s at j d e m l =
    let n = name-of defs (leads_to d.body) j m in
    body_returns defs d.name d.body (s at (slice_get_within defs at d e) d e).1 n.name n.among
    (LeadsAt-Leads defs j at l n.name d.name n.placed (sound-position defs s at d e))

-- ---- and so everything ends

abbrev pub next_list : Option (Option (List ℕ)) → List ℕ
next_list None = []
next_list (Some None) = []
next_list (Some (Some xs)) = xs

abbrev pub has : List ℕ → ℕ → Bool
has [] j = false
has (x ∷ xs) j = nat_eq j x || has xs j

nat-same : (i j : ℕ) → nat_eq i j ≡ true → i ≡ j
nat-same i j e = grind arith

has-one : (xs : List ℕ) (j : ℕ) → has xs j ≡ true → IsOne xs j
has-one [] j e = cc
has-one (x ∷ xs) j e = by (nat_eq j x) refl e (has-one xs j)
  where
    by : (b : Bool) → nat_eq j x ≡ b → (b || has xs j) ≡ true → (has xs j ≡ true → IsOne xs j) → IsOne (x ∷ xs) j
    by true f g next = inl (nat-same j x f)
    by false f g next = inr (next g)

same-nat : (i j : ℕ) → i ≡ j → nat_eq i j ≡ true
same-nat i j e = grind arith

one-has : (xs : List ℕ) (j : ℕ) → IsOne xs j → has xs j ≡ true
one-has [] j h = absurd h
one-has (x ∷ xs) j (inl e) = ap (λ b. b || has xs j) (same-nat j x e)
one-has (x ∷ xs) j (inr h) = by (nat_eq j x) (has xs j) (one-has xs j h)
  where
    by : (a b : Bool) → b ≡ true → (a || b) ≡ true
    by true b e = refl
    by false b e = e

module _ (graph : Graph) where
  abbrev pub edge : ℕ → ℕ → Bool
  edge i j = has (next_list (slice_get graph i)) j

  -- in one step or more
  record Plus (i k : ℕ) : Type 0 where
    next : List ℕ
    step : ℕ
    there : slice_get graph i ≡ Some (Some next)
    one : IsOne next step
    leads : LeadsAt graph step k

  plus_edge : (o : Option (Option (List ℕ))) (i j : ℕ) → slice_get graph i ≡ o → IsOne (next_list o) j → Plus i j
  plus_edge None i j e h = absurd h
  plus_edge (Some None) i j e h = absurd h
  plus_edge (Some (Some xs)) i j e h = record { next = xs; step = j; there = e; one = h; leads = LeadsAt.here refl }

  leads_on : (i j k : ℕ) → LeadsAt graph i j → Plus j k → LeadsAt graph i k
  leads_on i j k (LeadsAt.here e) q = subst (λ z. LeadsAt graph z k) (sym e) (LeadsAt.step q.next q.step q.there q.one q.leads)
  leads_on i j k (LeadsAt.step next m g h l) q = LeadsAt.step next m g h (leads_on m j k l q)

  plus_trans : (i j k : ℕ) → Plus i j → Plus j k → Plus i k
  plus_trans i j k p q = record { next = p.next; step = p.step; there = p.there; one = p.one; leads = leads_on p.step j k p.leads q }

  via_plus : (ks : List ℕ) (x y : ℕ) → leads_via edge ks x y ≡ true → Plus x y
  via_plus [] x y e = plus_edge (slice_get graph x) x y refl (has-one (next_list (slice_get graph x)) y e)
  via_plus (k ∷ ks) x y e = by (leads_via edge ks x y) refl (leads_via edge ks x k) refl (leads_via edge ks k y) refl e (via_plus ks x y) (via_plus ks x k) (via_plus ks k y)
    where
      by : (a : Bool) → leads_via edge ks x y ≡ a → (b : Bool) → leads_via edge ks x k ≡ b → (c : Bool) → leads_via edge ks k y ≡ c → (a || (b && c)) ≡ true
          → (leads_via edge ks x y ≡ true → Plus x y) → (leads_via edge ks x k ≡ true → Plus x k) → (leads_via edge ks k y ≡ true → Plus k y) → Plus x y
      by true p b q c r e u v w = u p
      by false p true q true r e u v w = plus_trans x k y (v q) (w r)
      by false p true q false r e u v w = cc
      by false p false q c r e u v w = cc

  -- all positions, the last first
  abbrev pub positions : ℕ → List ℕ
  positions zero = []
  positions (suc n) = n ∷ positions n

  position-between : (n i : ℕ) → i < n → Between (positions n) i
  position-between zero i h = absurd (omega arith)
  position-between (suc n) i h = by (same_position i n) (position-between n i)
    where
      by : (i ≡ n) ⊎ (i ≢ n) → (i < n → Between (positions n) i) → Between (n ∷ positions n) i
      by (inl e) next = inl e
      by (inr d) next = inr (next (omega (arith, h, d)))

placed-within : (defs : List SyntaxDef) (names : List (List ℕ)) (j : ℕ) → IsOne (positions_of defs names) j → j < length defs
placed-within defs names j m = let k = name-of defs names j m in let q = placed defs k.name j k.placed in slice_get_within defs j q.definition q.there

edge_is : (defs : List SyntaxDef) (i j : ℕ) (d : SyntaxDef) → slice_get defs i ≡ Some d → IsOne (positions_of defs (leads_to d.body)) j → edge (graph_of defs) i j ≡ true
edge_is defs i j d e m = ap (λ o. has (next_list o) j) (node_at defs defs i d e) ∙ one-has (positions_of defs (leads_to d.body)) j m

-- how many positions this one leads to
abbrev pub reached : List SyntaxDef → ℕ → ℕ
reached defs i = reach (edge (graph_of defs)) (positions (graph_of defs) (length defs)) (positions (graph_of defs) (length defs)) i

-- a position ends, since what it leads to reaches less
module _ (defs : List SyntaxDef) (sound : IsSound defs) where
  not_back : (j : ℕ) → j < length defs → (b : Bool) → leads_via (edge (graph_of defs)) (positions (graph_of defs) (length defs)) j j ≡ b → b ≡ false
  not_back j h false e = refl
  not_back j h true e =
      let p = via_plus (graph_of defs) (positions (graph_of defs) (length defs)) j j e in
      let a = item-at defs j h in
      let g : Some (Some p.next) ≡ Some (Some (positions_of defs (leads_to a.0.body))) = sym p.there ∙ node_at defs defs j a.0 a.2 in
      let s : p.next ≡ positions_of defs (leads_to a.0.body) = cc in
      absurd (no_cycle defs sound j p.step a.0 a.2 (subst (λ ns. IsOne ns p.step) s p.one) p.leads)

  pub reached-falls : (i j : ℕ) (d : SyntaxDef) → slice_get defs i ≡ Some d → IsOne (positions_of defs (leads_to d.body)) j → reached defs j < reached defs i
  reached-falls i j d e m =
      let w = placed-within defs (leads_to d.body) j m in
      reach-falls (edge (graph_of defs)) (positions (graph_of defs) (length defs)) i j (position-between (graph_of defs) (length defs) j w) (edge_is defs i j d e m) (not_back j w _ refl)

  ends_within : (n i : ℕ) → i < length defs → reached defs i < n → EndsAt (graph_of defs) i
  ends_within zero i h r = absurd (omega arith)
  ends_within (suc n) i h r =
      let a = item-at defs i h in
      EndsAt.ends (positions_of defs (leads_to a.0.body)) (node_at defs defs i a.0 a.2) (λ j m.
      let f = reached-falls i j a.0 a.2 m in
      ends_within n j (placed-within defs (leads_to a.0.body) j m) (omega (arith, f, r)))

  pub all-ranked : (ranks : List ℕ) → AreRanks (graph_of defs) ranks → (i : ℕ) → i < length defs → 0 < slice_index ranks i
  all-ranked ranks right i h = (right.exact i).1 (ends_within (suc (reached defs i)) i h (omega arith))
