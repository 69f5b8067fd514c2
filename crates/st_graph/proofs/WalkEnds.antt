-- The walk begins and ends: the numbers of components are read off it.
use Rattle.std.proofs.Common.{◌≡◌, refl, ap, ◌∙◌, ℕ, zero, suc, ◌≤◌, List, [], length, map, replicate, Some, slice_get, arith}
use Rattle.std.proofs.lemmas.List.{length-map, length-replicate}
use Rattle.st_graph.specs.declared.walk.NodeState.{NodeState}
use Rattle.st_graph.specs.declared.walk.NodeState.TheVariants.{New, Open, Closed}
use Rattle.st_graph.specs.Graph.{IsNumbering}
use Rattle.st_graph.specs.inner.Walk.{IsWalk, number_at}
use Rattle.st_graph.proofs.Positions.{get-none, get-same, map-get}

all-new : (n v : ℕ) (p : NodeState) → slice_get (replicate n New) v ≡ Some p → p ≡ New
all-new zero v p e = absurd (get-none v p e)
all-new (suc n) zero p e = cc
all-new (suc n) (suc v) p e = all-new n v p e

pub walk-starts : (graph : List (List ℕ)) → IsWalk graph (replicate (length graph) New) [] [] [] 0
walk-starts graph = record {
  size = length-replicate (length graph) New;
  path_is = record {
    on_path = λ i v e. absurd (get-none i v e);
    is_open = λ i v e. let q = all-new (length graph) v (Open i) e in let no : ⊥ = cc in absurd no;
    forward = λ i j v u l e f. absurd (get-none i v e);
    back = λ i v u e f. absurd (get-none i v e);
    bounds_rise = λ k l x y h e f. absurd (get-none k x e);
    bounds_within = λ b (k, e). absurd (get-none k b e);
  };
  waiting_is = record {
    waits = λ i y (k, e). absurd (get-none k (i, y) e);
    rise = λ k l i j y z h e f. absurd (get-none k (i, y) e);
    followed = λ i v y e c. absurd (get-none i v e);
  };
  closed_is = record {
    within = λ i c e. let q = all-new (length graph) i (Closed c) e in let no : ⊥ = cc in absurd no;
    together = λ i j c e f. let q = all-new (length graph) i (Closed c) e in let no : ⊥ = cc in absurd no;
    falls = λ i j c e h. let q = all-new (length graph) i (Closed c) e in let no : ⊥ = cc in absurd no;
  };
}

module _ (graph : List (List ℕ)) (states : List NodeState) (bounds : List ℕ) (waiting : List (ℕ × ℕ)) (count : ℕ)
    (w : IsWalk graph states [] bounds waiting count) (begun : (v : ℕ) → slice_get states v ≡ Some New → ⊥) where
  closed : (v : ℕ) (p : NodeState) → slice_get states v ≡ Some p → p ≡ Closed (number_at p)
  closed v New e = absurd (begun v e)
  closed v (Open i) e = absurd (get-none i v (w.path_is.is_open i v e))
  closed v (Closed c) e = refl

  numbered : (v c : ℕ) → slice_get (map number_at states) v ≡ Some c → slice_get states v ≡ Some (Closed c)
  numbered v c e = by (map-get number_at states v c e)
    where
      by : (p : NodeState) × ((slice_get states v ≡ Some p) × (number_at p ≡ c)) → slice_get states v ≡ Some (Closed c)
      by (p, (f, q)) = f ∙ ap Some (closed v p f ∙ ap Closed q)

  pub walk-numbers : IsNumbering graph (map number_at states) count
  walk-numbers = record {
    size = length-map states number_at ∙ w.size;
    within = λ i c e. w.closed_is.within i c (numbered i c e);
    together = λ i j c e f. w.closed_is.together i j c (numbered i c e) (numbered j c f);
    falls = λ i j c d h e f. by j c d (numbered j d f) (w.closed_is.falls i j c (numbered i c e) h);
  }
    where
      by : (j c d : ℕ) → slice_get states j ≡ Some (Closed d) → (b : ℕ) × ((slice_get states j ≡ Some (Closed b)) × (b ≤ c)) → d ≤ c
      by j c d f (b, (g, l)) = let q : Closed b ≡ Closed d = get-same states j (Closed b) (Closed d) g f in let same : b ≡ d = cc in omega (arith, l, same)
