-- The components of a graph of definitions are those of its rows, and tell what leads back.
use Rattle.std.proofs.Common.{◌≡◌, ◌↔◌, refl, sym, ap, ◌∙◌, subst, ℕ, zero, suc, ◌<◌, ◌≤◌, List, [], ◌∷◌, map, length, Option, Some, None, arith, inl, inr}
use Rattle.std.specs.Prelude.{slice_get}
use Rattle.std.proofs.lemmas.List.{length-map}
use Rattle.std.proofs.lemmas.Option.{slice_get_within}
use Rattle.st_graph.specs.Reaches.{Reaches, itself, through}
use Rattle.st_graph.specs.Graph.{Stands, Edge, IsWithin, IsNumbering}
use Rattle.st_graph.proofs.Positions.{get-none, get-same, get-within, get-at, map-at, map-get}
use Rattle.st_il.specs.declared.definition.SyntaxDef.{SyntaxDef}
use Rattle.st_type_table.specs.Leads.{leads_to}
use Rattle.st_type_table.specs.inner.Graph.{Graph, IsOne, LeadsAt, positions_of, node_of, graph_of}
use Rattle.st_type_table.specs.inner.Ranking.{WaitsFor}
use Rattle.st_type_table.specs.inner.Components.{row_in, StaysWithin, AreComponents}
use Rattle.st_type_table.proofs.PositionLemmas.{placed, name-of}

one-stands : (xs : List ℕ) (j : ℕ) → IsOne xs j → Stands xs j
one-stands [] j h = absurd h
one-stands (x ∷ xs) j (inl e) = (0, ap Some (sym e))
one-stands (x ∷ xs) j (inr h) = let s = one-stands xs j h in (suc s.0, s.1)

stands-one : (xs : List ℕ) (j k : ℕ) → slice_get xs k ≡ Some j → IsOne xs j
stands-one [] j k e = absurd (get-none k j e)
stands-one (x ∷ xs) j zero e = let q : x ≡ j = cc in inl (sym q)
stands-one (x ∷ xs) j (suc k) e = inr (stands-one xs j k e)

-- ---- the rows of a graph

module _ (graph : Graph) where
  waits-edge : (i j : ℕ) → WaitsFor graph i j → Edge (map row_in graph) i j
  waits-edge i j w = (w.0, (map-at row_in graph i (Some w.0) w.1.0, one-stands w.0 j w.1.1))

  edge-waits : (i j : ℕ) → Edge (map row_in graph) i j → WaitsFor graph i j
  edge-waits i j (row, (g, (k, e))) = by (map-get row_in graph i row g)
    where
      by : (x : Option (List ℕ)) × ((slice_get graph i ≡ Some x) × (row_in x ≡ row)) → WaitsFor graph i j
      by (None, (h, q)) = absurd (get-none k j (ap (λ (r : List ℕ). slice_get r k) q ∙ e))
      by (Some next, (h, q)) = (next, (h, subst (λ r. IsOne r j) (sym q) (stands-one row j k e)))

  reaches-leads : (i j : ℕ) → Reaches (Edge (map row_in graph)) i j → LeadsAt graph i j
  reaches-leads i j itself = LeadsAt.here refl
  reaches-leads i j (through k e more) =
      let w = edge-waits i k e in LeadsAt.step w.0 k w.1.0 w.1.1 (reaches-leads k j more)

  pub rows-within : StaysWithin graph → IsWithin (map row_in graph)
  rows-within h i j e =
      let l = h i j (edge-waits i j e) in
      let s = length-map graph row_in in
      omega (arith, l, s)

  pub rows-components : (numbers : List ℕ) (count : ℕ) → IsNumbering (map row_in graph) numbers count → AreComponents graph numbers
  rows-components numbers count n = record {
    size = n.size ∙ length-map graph row_in;
    together = λ i j c e f. reaches-leads i j (n.together i j c e f);
    falls = λ i j c d w e f. n.falls i j c d (waits-edge i j w) e f;
  }

-- definitions lead to definitions
pub graph-within : (defs : List SyntaxDef) → StaysWithin (graph_of defs)
graph-within defs i j w =
    let d = map-get (node_of defs) defs i (Some w.0) w.1.0 in
    let s : Some (positions_of defs (leads_to d.0.body)) ≡ Some w.0 = d.1.1 in
    let t : positions_of defs (leads_to d.0.body) ≡ w.0 = cc in
    let n = name-of defs (leads_to d.0.body) j (subst (λ ns. IsOne ns j) (sym t) w.1.1) in
    let p = placed defs n.name j n.placed in
    let l = slice_get_within defs j p.definition p.there in
    let z = length-map defs (node_of defs) in
    omega (arith, l, z)

-- ---- what leads back

module _ (graph : Graph) (numbers : List ℕ) (n : AreComponents graph numbers) where
  numbered : (j k : ℕ) → LeadsAt graph j k → k < length numbers → (c : ℕ) × (slice_get numbers j ≡ Some c)
  numbered j k (LeadsAt.here e) h = get-at numbers j (subst (λ z. z < length numbers) (sym e) h)
  numbered j k (LeadsAt.step next m g one l) h =
      get-at numbers j (let w = slice_get_within graph j (Some next) g in let s = n.size in omega (arith, w, s))

  -- numbers do not rise along a way
  falls-along : (j k : ℕ) → LeadsAt graph j k → (c d : ℕ) → slice_get numbers j ≡ Some c → slice_get numbers k ≡ Some d → d ≤ c
  falls-along j k (LeadsAt.here e) c d p q =
      let s : c ≡ d = get-same numbers k c d (ap (slice_get numbers) (sym e) ∙ p) q in omega (arith, s)
  falls-along j k (LeadsAt.step next m g one l) c d p q =
      let t = numbered m k l (get-within numbers k d q) in
      let a = n.falls j m c t.0 (next, (g, one)) p t.1 in
      let b = falls-along m k l t.0 d t.1 q in
      omega (arith, a, b)

  -- what a definition leads to leads back where it has the same number
  pub components-back : (i j own : ℕ) → WaitsFor graph i j → slice_get numbers i ≡ Some own → (slice_get numbers j ≡ Some own) ↔ LeadsAt graph j i
  components-back i j own w p = (λ e. n.together j i own e p, λ l. back (numbered j i l (get-within numbers i own p)) l)
    where
      back : (c : ℕ) × (slice_get numbers j ≡ Some c) → LeadsAt graph j i → slice_get numbers j ≡ Some own
      back (c, e) l =
          let a = n.falls i j own c w p e in
          let b = falls-along j i l c own e p in
          let s : c ≡ own = omega (arith, a, b) in
          e ∙ ap Some s
