-- A number that falls with each step of the walk.
use Rattle.std.proofs.Common.{◌≡◌, ◌⊎◌, inl, inr, refl, sym, ap, ◌∙◌, ℕ, zero, suc, ◌+◌, ◌*◌, ◌<◌, ◌≤◌, List, [], ◌∷◌, ◌++◌, length, set, take, map, Some, slice_get, arith}
use Rattle.std.proofs.lemmas.List.{length-append, length-map, length_push, length-take-le}
use Rattle.st_graph.specs.declared.walk.NodeState.{NodeState}
use Rattle.st_graph.specs.declared.walk.NodeState.TheVariants.{New, Open, Closed}
use Rattle.st_graph.specs.inner.Walk.{IsPath, Closes, cost, costs, cost_of}
use Rattle.st_graph.proofs.Positions.{get-none, get-same}

costs-begun : (ps : List NodeState) (graph : List (List ℕ)) (node k : ℕ) (row : List ℕ) → slice_get ps node ≡ Some New → slice_get graph node ≡ Some row
    → costs (set ps node (Open k)) graph + (3 + 2 * length row) ≡ costs ps graph
costs-begun [] graph node k row e f = absurd (get-none node New e)
costs-begun (p ∷ ps) [] node k row e f = absurd (get-none node row f)
costs-begun (p ∷ ps) (r ∷ rs) zero k row e f =
    let is : p ≡ New = cc in
    let at : r ≡ row = cc in
    let one : cost_of p r ≡ 3 + 2 * length row = ap (λ (q : NodeState). cost_of q r) is ∙ ap (λ (z : List ℕ). 3 + 2 * length z) at in omega (arith, one)
costs-begun (p ∷ ps) (r ∷ rs) (suc node) k row e f = let h = costs-begun ps rs node k row e f in omega (arith, h)

-- begun
pub cost-begins : (graph : List (List ℕ)) (states : List NodeState) (path bounds : List ℕ) (waiting : List (ℕ × ℕ)) (node : ℕ) (row : List ℕ) → slice_get states node ≡ Some New → slice_get graph node ≡ Some row
    → cost graph (set states node (Open (length path))) (path ++ node ∷ []) (bounds ++ length path ∷ []) (waiting ++ map (λ (to : ℕ). (length path, to)) row) < cost graph states path bounds waiting
cost-begins graph states path bounds waiting node row e f =
    let h = costs-begun states graph node (length path) row e f in
    let p = length_push path node in
    let b = length_push bounds (length path) in
    let w : length (waiting ++ map (λ (to : ℕ). (length path, to)) row) ≡ length waiting + length row = length-append waiting (map (λ (to : ℕ). (length path, to)) row) ∙ ap (λ n. length waiting + n) (length-map row (λ (to : ℕ). (length path, to))) in
    omega (arith, h, p, b, w)

-- passed, with bounds cut or not
pub cost-passes : (graph : List (List ℕ)) (states : List NodeState) (path bounds bounds' behind : List ℕ) (rest : List (ℕ × ℕ)) (i y : ℕ) → bounds ≡ bounds' ++ behind
    → cost graph states path bounds' rest < cost graph states path bounds (rest ++ (i, y) ∷ [])
cost-passes graph states path bounds bounds' behind rest i y are =
    let b : length bounds ≡ length bounds' + length behind = ap length are ∙ length-append bounds' behind in
    let w = length_push rest (i, y) in omega (arith, b, w)

costs-same : (ps qs : List NodeState) (graph : List (List ℕ)) → length qs ≡ length ps
    → ((v : ℕ) (p q : NodeState) (row : List ℕ) → slice_get ps v ≡ Some p → slice_get qs v ≡ Some q → cost_of q row ≡ cost_of p row) → costs qs graph ≡ costs ps graph
costs-same [] [] graph n h = refl
costs-same [] (q ∷ qs) graph n h = absurd (omega (arith, n))
costs-same (p ∷ ps) [] graph n h = absurd (omega (arith, n))
costs-same (p ∷ ps) (q ∷ qs) [] n h = refl
costs-same (p ∷ ps) (q ∷ qs) (r ∷ rs) n h =
    let one = h 0 p q r refl refl in
    let more = costs-same ps qs rs (omega (arith, n)) (λ v a b row e f. h (suc v) a b row e f) in omega (arith, one, more)

pub cost-closes : (graph : List (List ℕ)) (states states' : List NodeState) (path bounds bounds' : List ℕ) (waiting : List (ℕ × ℕ)) (start count : ℕ)
    → IsPath graph states path bounds → Closes path start count states states' → start < length path → length bounds' ≤ length bounds
    → cost graph states' (take start path) bounds' waiting < cost graph states path bounds waiting
cost-closes graph states states' path bounds bounds' waiting start count p closes within less =
    let c = costs-same states states' graph closes.size same in
    let n = length-take-le start path (omega (arith, within)) in omega (arith, c, n, within, less)
  where
    one : (v : ℕ) (p' q : NodeState) (row : List ℕ) → slice_get states v ≡ Some p' → (slice_get states v ≡ Some q) ⊎ ((i : ℕ) × ((start ≤ i) × ((slice_get path i ≡ Some v) × (q ≡ Closed count)))) → cost_of q row ≡ cost_of p' row
    one v p' q row e (inl f) = ap (λ (x : NodeState). cost_of x row) (get-same states v q p' f e)
    one v p' q row e (inr (i, (l, (f, g)))) =
        ap (λ (x : NodeState). cost_of x row) g ∙ sym (ap (λ (x : NodeState). cost_of x row) (get-same states v p' (Open i) e (p.on_path i v f)))

    same : (v : ℕ) (p' q : NodeState) (row : List ℕ) → slice_get states v ≡ Some p' → slice_get states' v ≡ Some q → cost_of q row ≡ cost_of p' row
    same v p' q row e f = one v p' q row e (closes.there v q f)
