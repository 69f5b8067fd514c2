-- Numbers of groups are those of the names.
use Rattle.std.proofs.Common.{◌≡◌, ◌∙◌, subst, ℕ, List, Some, slice_get, Contains, arith}
use Rattle.st_graph.specs.Reaches.{Reaches, itself, through}
use Rattle.st_graph.specs.Graph.{Edge, IsWithin, IsNumbering}
use Rattle.st_graph.proofs.Positions.{get-same, get-within}
use Rattle.st_il.specs.declared.definition.Il.{Il}
use Rattle.st_deps.specs.Cited.{Name}
use Rattle.st_deps.specs.Definitions.{declared, Cites}
use Rattle.st_deps.specs.GroupNumbers.{AreGroupNumbers}
use Rattle.st_deps.specs.Table.{IsTable}
use Rattle.st_deps.proofs.TableLemmas.{contains-stands, stands-contains}

module _ (il : Il) (rows : List (List ℕ)) (t : IsTable il rows) where
  -- each citation is of a number of the table
  pub table-within : IsWithin rows
  table-within i j c =
      let s = t.sound i j c.0 c.1.0 (stands-contains c.0 j c.1.1) in
      let l = get-within (declared il) j s.1.0 s.1.1.1.0 in
      let e = t.size in omega (arith, l, e)

  names-reach : (i j : ℕ) (x y : Name) → slice_get (declared il) i ≡ Some x → slice_get (declared il) j ≡ Some y → Reaches (Edge rows) i j → Reaches (Cites il) x y
  names-reach i j x y e f itself = subst (Reaches (Cites il) x) (get-same (declared il) i x y e f) itself
  names-reach i j x y e f (through k c more) =
      let s = t.sound i k c.0 c.1.0 (stands-contains c.0 k c.1.1) in
      let same : s.0 ≡ x = get-same (declared il) i s.0 x s.1.1.0 e in
      through s.1.0 (subst (λ z. Cites il z s.1.0) same s.1.1.1.1) (names-reach k j s.1.0 y s.1.1.1.0 f more)

  edge-of : (i j : ℕ) (x y : Name) → slice_get (declared il) i ≡ Some x → slice_get (declared il) j ≡ Some y → Cites il x y → Edge rows i j
  edge-of i j x y e f c = by (t.complete i j x y e f c)
    where
      by : (row : List ℕ) × ((slice_get rows i ≡ Some row) × Contains row j) → Edge rows i j
      by (row, (g, h)) = (row, (g, contains-stands row j h))

  pub numbers_are : (numbers : List ℕ) (count : ℕ) → IsNumbering rows numbers count → AreGroupNumbers il numbers
  numbers_are numbers count n = record {
    size = n.size ∙ t.size;
    together = λ i j c x y e f g h. names-reach i j x y e f (n.together i j c g h);
    falls = λ i j c d x y e f cites g h. n.falls i j c d (edge-of i j x y e f cites) g h;
  }
