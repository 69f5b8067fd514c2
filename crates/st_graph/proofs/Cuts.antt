-- Bounds are taken off, and nodes closed, one after another.
use Rattle.std.proofs.Common.{◌≡◌, ◌≢◌, ◌⊎◌, inl, inr, refl, sym, ap, ◌∙◌, subst, ℕ, zero, suc, ◌+◌, ◌-◌, ◌<◌, ◌≤◌, List, [], ◌∷◌, ◌++◌, append_assoc, length, set, Option, Some, None, slice_get, option_to_list, MatchOption, arith}
use Rattle.std.proofs.lemmas.List.{append-nil, length-set, length_push, nil_from_length}
use Rattle.std.proofs.lemmas.Bool.{cases_lt}
use Rattle.st_graph.specs.declared.walk.NodeState.{NodeState}
use Rattle.st_graph.specs.declared.walk.NodeState.TheVariants.{Closed}
use Rattle.st_graph.specs.inner.Walk.{IsRising, IsCut, CutsTo, ClosesTo, start_of}
use Rattle.st_graph.proofs.Positions.{same_position, get-none, get-same, get-front, get-last, get-append, set-other, set-here, set-same, get-at}
use Rattle.st_graph.proofs.WalkSteps.{start-at, start-top}

pub cut-none : (at : ℕ) (bs : List ℕ) → IsCut at bs bs
cut-none at bs = record { behind = []; are = sym (append-nil bs); far = λ b (k, e). absurd (get-none k b e) }

-- the last bound is the start of the last component
last-start : (bs bs' : List ℕ) (x : ℕ) → bs ≡ bs' ++ x ∷ [] → start_of bs ≡ x
last-start bs bs' x e =
    let n : length bs ≡ length bs' + 1 = ap length e ∙ length_push bs' x in
    let q : length bs - 1 ≡ length bs' = omega (arith, n) in
    let at : slice_get bs (length bs - 1) ≡ Some x = ap (slice_get bs) q ∙ ap (λ (z : List ℕ). slice_get z (length bs')) e ∙ get-last bs' x in
    get-same bs (length bs - 1) (start_of bs) x (start-at bs (omega (arith, n))) at

pub cut-more : (at : ℕ) (old bs bs' : List ℕ) (r : Option ℕ) → IsCut at old bs → at < start_of bs → bs ≡ bs' ++ option_to_list r → IsCut at old bs'
cut-more at old bs bs' r c h e = record {
  behind = option_to_list r ++ c.behind;
  are = c.are ∙ ap (λ (z : List ℕ). z ++ c.behind) e ∙ append_assoc bs' (option_to_list r) c.behind;
  far = λ b (k, f). by b (get-append (option_to_list r) c.behind k b f);
}
  where
    last : (o : Option ℕ) → bs ≡ bs' ++ option_to_list o → (b k : ℕ) → slice_get (option_to_list o) k ≡ Some b → at < b
    last None q b k f = absurd (get-none k b f)
    last (Some x) q b zero f = let same : x ≡ b = cc in let s = last-start bs bs' x q in omega (arith, h, s, same)
    last (Some x) q b (suc k) f = absurd (get-none k b f)

    by : (b : ℕ) {k : ℕ} → (slice_get (option_to_list r) k ≡ Some b) ⊎ ((m : ℕ) × ((k ≡ length (option_to_list r) + m) × (slice_get c.behind m ≡ Some b))) → at < b
    by b {k = k} (inl f) = last r e b k f
    by b (inr (m, (q, f))) = c.far b (m, f)

pub cut-end : (at : ℕ) (old bs : List ℕ) → IsCut at old bs → IsRising old → start_of bs ≤ at → CutsTo at old bs
cut-end at old bs c rise h = record {
  cut = c;
  near = λ b s. let t = start-top bs (λ k l x y less e f. rise k l x y less (front k x e) (front l y f)) b s in omega (arith, t, h);
}
  where
    front : (k x : ℕ) → slice_get bs k ≡ Some x → slice_get old k ≡ Some x
    front k x e = subst (λ z. slice_get z k ≡ Some x) (sym c.are) (get-front bs c.behind k x e)

pub cut-falls : (o : Option ℕ) (n n' : ℕ) → MatchOption o ((n ≡ 0) × (n' ≡ 0)) (λ x. n' + 1 ≡ n) → 0 < n → n' < n
cut-falls None n n' h some = let z = h.0 in absurd (omega (arith, z, some))
cut-falls (Some x) n n' h some = omega (arith, h)

-- ---- states

module _ (path : List ℕ) (start component : ℕ) (before : List NodeState) where
  pub closes-none : ClosesTo path start start component before before
  closes-none = record { size = refl; here = λ i v h l e w. absurd (omega (arith, h, l)); there = λ v p e. inl e }

  module _ (end node : ℕ) (after : List NodeState) (c : ClosesTo path start end component before after) (low : start ≤ end) (at : slice_get path end ≡ Some node) where
    pub closes-more : node < length after → ClosesTo path start (end + 1) component before (set after node (Closed component))
    closes-more within = record {
      size = length-set after node (Closed component) ∙ c.size;
      here = here';
      there = λ v p e. there' v p e (same_position v node);
    }
      where
        old : (p : NodeState) × (slice_get after node ≡ Some p)
        old = get-at after node within

        here' : (i v : ℕ) → start ≤ i → i < end + 1 → slice_get path i ≡ Some v → v < length before → slice_get (set after node (Closed component)) v ≡ Some (Closed component)
        here' i v h l e w = by (same_position v node)
          where
            less : v ≢ node → (i < end) ⊎ (end ≤ i) → slice_get (set after node (Closed component)) v ≡ Some (Closed component)
            less d (inl g) = set-other after node v (Closed component) d ∙ c.here i v h g e w
            less d (inr g) =
                let q : i ≡ end = omega (arith, l, g) in
                absurd (d (get-same path end v node (ap (slice_get path) (sym q) ∙ e) at))

            by : (v ≡ node) ⊎ (v ≢ node) → slice_get (set after node (Closed component)) v ≡ Some (Closed component)
            by (inl q) = ap (slice_get (set after node (Closed component))) q ∙ set-here after node (Closed component) old.0 old.1
            by (inr d) = less d (cases_lt i end)

        there' : (v : ℕ) (p : NodeState) → slice_get (set after node (Closed component)) v ≡ Some p → (v ≡ node) ⊎ (v ≢ node)
            → (slice_get before v ≡ Some p) ⊎ ((i : ℕ) × ((start ≤ i) × ((slice_get path i ≡ Some v) × (p ≡ Closed component))))
        there' v p e (inl q) = inr (end, (low, (at ∙ ap Some (sym q), sym (set-same after node (Closed component) p (ap (slice_get (set after node (Closed component))) (sym q) ∙ e)))))
        there' v p e (inr d) = c.there v p (sym (set-other after node v (Closed component) d) ∙ e)

    pub closes-past : length after ≤ node → ClosesTo path start (end + 1) component before after
    closes-past past = record { size = c.size; here = here'; there = c.there }
      where
        here' : (i v : ℕ) → start ≤ i → i < end + 1 → slice_get path i ≡ Some v → v < length before → slice_get after v ≡ Some (Closed component)
        here' i v h l e w = by (cases_lt i end)
          where
            by : (i < end) ⊎ (end ≤ i) → slice_get after v ≡ Some (Closed component)
            by (inl g) = c.here i v h g e w
            by (inr g) =
                let q : i ≡ end = omega (arith, l, g) in
                let same : v ≡ node = get-same path end v node (ap (slice_get path) (sym q) ∙ e) at in
                let s = c.size in absurd (omega (arith, same, w, s, past))

  pub closes-end : (end : ℕ) (after : List NodeState) → ClosesTo path start end component before after → length path ≤ end → ClosesTo path start (length path) component before after
  closes-end end after c h = record { size = c.size; here = λ i v l g e w. c.here i v l (omega (arith, g, h)) e w; there = c.there }

-- where the last bound is taken off, or there was none
pub pop-cut : (r : Option ℕ) (n n' start : ℕ) (bs bs' : List ℕ) → MatchOption r ((n ≡ 0) × (n' ≡ 0)) (λ x. n' + 1 ≡ n) → n ≡ length bs → bs ≡ bs' ++ option_to_list r → start ≡ start_of bs
    → ((start ≡ 0) × ((bs ≡ []) × (bs' ≡ []))) ⊎ (bs ≡ bs' ++ start ∷ [])
pop-cut None n n' start bs bs' h l e s =
    let z = h.0 in
    let none : bs ≡ [] = nil_from_length bs (omega (arith, z, l)) in
    let rest : bs' ≡ [] = sym (append-nil bs') ∙ sym e ∙ none in
    inl (s ∙ ap start_of none, (none, rest))
pop-cut (Some x) n n' start bs bs' h l e s =
    let q : start ≡ x = s ∙ last-start bs bs' x e in inr (e ∙ ap (λ k. bs' ++ k ∷ []) (sym q))
