-- What is kept of sound definitions is right.
use Rattle.std.proofs.Common.{◌≡◌, ◌↔◌, refl, sym, ap, ◌∙◌, subst, ℕ, zero, suc, ◌<◌, ◌≤◌, List, [], ◌∷◌, ◌++◌, append_assoc, take, drop, length, Option, Some, None, arith, Bool, true, false, nat_eq, if◌then◌else◌}
use Rattle.std.specs.Prelude.{slice_get, slice_index}
use Rattle.std.specs.Bool.{MatchBool}
use Rattle.std.specs.Map.{lookup}
use Rattle.std.specs.Option.{option_map}
use Rattle.std.specs.Cmp.Lexicographic.{pointwise}
use Rattle.std.proofs.lemmas.Option.{slice_get_within}
use Rattle.std.proofs.lemmas.List.{length-map}
use Rattle.st_il.specs.declared.definition.SyntaxDef.{SyntaxDef}
use Rattle.st_il.specs.declared.definition.SyntaxBody.{SyntaxBody}
use Rattle.st_il.specs.declared.definition.SyntaxBody.TheVariants as body
use Rattle.st_il.specs.declared.definition.Alternative.{Alternative}
use Rattle.st_il.specs.declared.definition.Alternative.TheVariants as alternative
use Rattle.st_type_table.specs.declared.entry.CaseDef.{CaseDef}
use Rattle.st_type_table.specs.declared.entry.Entry.{Entry}
use Rattle.st_type_table.specs.declared.flat.Flat.{Flat}
use Rattle.st_type_table.specs.declared.key_index.KeyIndex.{KeyIndex}
use Rattle.st_type_table.specs.Meaning.{body_of, listed}
use Rattle.st_type_table.specs.Cases.{Flatten, or_none}
use Rattle.st_type_table.specs.Leads.{Among, leads_to}
use Rattle.st_type_table.specs.Keys.{KeysDiffer}
use Rattle.st_type_table.specs.inner.Graph.{graph_of, node_of, position_of, positions_of, AreRanks}
use Rattle.st_type_table.specs.inner.CaseKeys.{IsKeyed}
use Rattle.st_type_table.specs.inner.KeyIndexes.{IsKeyIndex}
use Rattle.st_type_table.specs.inner.Flat.{AreFlats, IsFlat, IsBroken}
use Rattle.st_type_table.specs.inner.Kept.{kept_as, kept_of, defs_of, entry_of, ranked, AllSettled, IsSettled}
use Rattle.st_type_table.specs.Breach.{IsSound, AllHold, Holds, keys, asked, on_alternative, on_alternatives, on_included, on_body}
use Rattle.st_type_table.specs.Joins.{AllJoin}
use Rattle.st_type_table.specs.inner.JoinGraph.{join_graph}
use Rattle.st_type_table.proofs.JoinLemmas.{ranked-joins}
use Rattle.st_type_table.proofs.PositionLemmas.{node_at, position-among}
use Rattle.st_type_table.proofs.BuildLemmas.{all-ranked}
use Rattle.st_type_table.proofs.CheckLemmas.{front_hold, back_hold}

pub kept-next : (defs : List SyntaxDef) (ranks : List ℕ) (flats : List Flat) (joins : List ℕ) (at : ℕ) (d : SyntaxDef) (r : ℕ) (f : Flat) (j : ℕ) → slice_get defs at ≡ Some d → slice_get ranks at ≡ Some r
    → slice_get flats at ≡ Some f → slice_get joins at ≡ Some j
    → take (suc at) (kept_of defs ranks flats joins) ≡ take at (kept_of defs ranks flats joins) ++ (d.name, kept_as d r f j) ∷ []
kept-next [] ranks flats joins at d r f j p q s t = cc
kept-next (x ∷ defs) [] flats joins at d r f j p q s t = cc
kept-next (x ∷ defs) (y ∷ ranks) [] joins at d r f j p q s t = cc
kept-next (x ∷ defs) (y ∷ ranks) (z ∷ flats) [] at d r f j p q s t = cc
kept-next (x ∷ defs) (y ∷ ranks) (z ∷ flats) (w ∷ joins) zero d r f j p q s t =
    let a : x ≡ d = cc in
    let b : y ≡ r = cc in
    let c : z ≡ f = cc in
    let g : w ≡ j = cc in
    (λ i. ((a i).name, kept_as (a i) (b i) (c i) (g i)) ∷ [])
kept-next (x ∷ defs) (y ∷ ranks) (z ∷ flats) (w ∷ joins) (suc at) d r f j p q s t =
    ap (λ es. (x.name, kept_as x y z w) ∷ es) (kept-next defs ranks flats joins at d r f j p q s t)

pub lookup-none : (defs : List SyntaxDef) (ranks : List ℕ) (flats : List Flat) (joins : List ℕ) (at : ℕ) (name : List ℕ) → body_of (take at defs) name ≡ None
    → lookup (pointwise nat_eq name) (take at (kept_of defs ranks flats joins)) ≡ None
lookup-none [] ranks flats joins zero name h = refl
lookup-none [] ranks flats joins (suc at) name h = refl
lookup-none (d ∷ defs) [] flats joins zero name h = refl
lookup-none (d ∷ defs) [] flats joins (suc at) name h = refl
lookup-none (d ∷ defs) (r ∷ ranks) [] joins zero name h = refl
lookup-none (d ∷ defs) (r ∷ ranks) [] joins (suc at) name h = refl
lookup-none (d ∷ defs) (r ∷ ranks) (f ∷ flats) [] zero name h = refl
lookup-none (d ∷ defs) (r ∷ ranks) (f ∷ flats) [] (suc at) name h = refl
lookup-none (d ∷ defs) (r ∷ ranks) (f ∷ flats) (j ∷ joins) zero name h = refl
lookup-none (d ∷ defs) (r ∷ ranks) (f ∷ flats) (j ∷ joins) (suc at) name h = by (pointwise nat_eq name d.name) h (lookup-none defs ranks flats joins at name)
  where
    by : (b : Bool) → (if b then Some d.body else body_of (take at defs) name) ≡ None
        → (body_of (take at defs) name ≡ None → lookup (pointwise nat_eq name) (take at (kept_of defs ranks flats joins)) ≡ None)
        → (if b then Some (kept_as d r f j) else lookup (pointwise nat_eq name) (take at (kept_of defs ranks flats joins))) ≡ None
    by true h next = cc
    by false h next = next h

pub kept-whole : (defs : List SyntaxDef) (ranks : List ℕ) (flats : List Flat) (joins : List ℕ) → length ranks ≡ length defs → length flats ≡ length defs → length joins ≡ length defs
    → defs_of (kept_of defs ranks flats joins) ≡ defs
kept-whole [] ranks flats joins p q s = refl
kept-whole (d ∷ defs) [] flats joins p q s = absurd (omega (arith, p))
kept-whole (d ∷ defs) (r ∷ ranks) [] joins p q s = absurd (omega (arith, q))
kept-whole (d ∷ defs) (r ∷ ranks) (f ∷ flats) [] p q s = absurd (omega (arith, s))
kept-whole (d ∷ defs) (r ∷ ranks) (f ∷ flats) (j ∷ joins) p q s = ap (λ ds. d ∷ ds) (kept-whole defs ranks flats joins (omega (arith, p)) (omega (arith, q)) (omega (arith, s)))

pub take-all : (defs : List SyntaxDef) (ranks : List ℕ) (flats : List Flat) (joins : List ℕ) (n : ℕ) → length defs ≤ n → take n (kept_of defs ranks flats joins) ≡ kept_of defs ranks flats joins
take-all [] ranks flats joins zero h = refl
take-all [] ranks flats joins (suc n) h = refl
take-all (d ∷ defs) [] flats joins zero h = refl
take-all (d ∷ defs) [] flats joins (suc n) h = refl
take-all (d ∷ defs) (r ∷ ranks) [] joins zero h = refl
take-all (d ∷ defs) (r ∷ ranks) [] joins (suc n) h = refl
take-all (d ∷ defs) (r ∷ ranks) (f ∷ flats) [] zero h = refl
take-all (d ∷ defs) (r ∷ ranks) (f ∷ flats) [] (suc n) h = refl
take-all (d ∷ defs) (r ∷ ranks) (f ∷ flats) (j ∷ joins) zero h = absurd (omega (arith, h))
take-all (d ∷ defs) (r ∷ ranks) (f ∷ flats) (j ∷ joins) (suc n) h =
    ap (λ es. (d.name, kept_as d r f j) ∷ es) (take-all defs ranks flats joins n (omega (arith, h)))

-- the entry of a name, at its position
record EntryAt (defs : List SyntaxDef) (ranks : List ℕ) (flats : List Flat) (joins : List ℕ) (name : List ℕ) (e : Entry) : Type 0 where
  position : ℕ
  definition : SyntaxDef
  flat : Flat
  asked : position_of defs name ≡ Some position
  there : slice_get defs position ≡ Some definition
  body_is : e.body ≡ definition.body
  rank_is : e.rank ≡ slice_index ranks position
  flat_there : slice_get flats position ≡ Some flat
  cases_is : e.cases ≡ flat.cases.items
  index_is : e.index ≡ flat.cases.index
  join_rank_is : e.join_rank ≡ slice_index joins position

entry-at : (defs : List SyntaxDef) (ranks : List ℕ) (flats : List Flat) (joins : List ℕ) (name : List ℕ) (e : Entry) → entry_of (kept_of defs ranks flats joins) name ≡ Some e → EntryAt defs ranks flats joins name e
entry-at [] ranks flats joins name e h = cc
entry-at (d ∷ defs) [] flats joins name e h = cc
entry-at (d ∷ defs) (r ∷ ranks) [] joins name e h = cc
entry-at (d ∷ defs) (r ∷ ranks) (f ∷ flats) [] name e h = cc
entry-at (d ∷ defs) (r ∷ ranks) (f ∷ flats) (j ∷ joins) name e h = by (pointwise nat_eq name d.name) refl h (entry-at defs ranks flats joins name e)
  where
    body_in : Option Entry → SyntaxBody
    body_in None = d.body
    body_in (Some e) = e.body

    rank_in : Option Entry → ℕ
    rank_in None = r
    rank_in (Some e) = e.rank

    cases_in : Option Entry → List CaseDef
    cases_in None = f.cases.items
    cases_in (Some e) = e.cases

    index_in : Option Entry → KeyIndex
    index_in None = f.cases.index
    index_in (Some e) = e.index

    join_rank_in : Option Entry → ℕ
    join_rank_in None = j
    join_rank_in (Some e) = e.join_rank

    by : (b : Bool) → pointwise nat_eq name d.name ≡ b → (if b then Some (kept_as d r f j) else entry_of (kept_of defs ranks flats joins) name) ≡ Some e
        → (entry_of (kept_of defs ranks flats joins) name ≡ Some e → EntryAt defs ranks flats joins name e) → EntryAt (d ∷ defs) (r ∷ ranks) (f ∷ flats) (j ∷ joins) name e
    by true t g next =
        let s : Some e ≡ Some (kept_as d r f j) = sym g in
        record {
          position = 0;
          definition = d;
          flat = f;
          asked = ap (λ b. if b then Some 0 else option_map suc (position_of defs name)) t;
          there = refl;
          body_is = ap body_in s;
          rank_is = ap rank_in s;
          flat_there = refl;
          cases_is = ap cases_in s;
          index_is = ap index_in s;
          join_rank_is = ap join_rank_in s;
        }
    by false t g next =
        let n = next g in
        record {
          position = suc n.position;
          definition = n.definition;
          flat = n.flat;
          asked = ap (λ b. if b then Some 0 else option_map suc (position_of defs name)) t ∙ ap (option_map suc) n.asked;
          there = n.there;
          body_is = n.body_is;
          rank_is = n.rank_is;
          flat_there = n.flat_there;
          cases_is = n.cases_is;
          index_is = n.index_is;
          join_rank_is = n.join_rank_is;
        }

-- the keys of all alternatives differ
keys_all : (defs : List SyntaxDef) (target : List ℕ) (part : ℕ) (before parts : List Alternative) → Holds defs (keys before) → AllHold defs (on_alternatives target part before parts) → Holds defs (keys (before ++ parts))
keys_all defs target part before [] k h = subst (λ as'. Holds defs (keys as')) (sym (append_nil before)) k
  where
    append_nil : (xs : List Alternative) → xs ++ [] ≡ xs
    append_nil [] = refl
    append_nil (x ∷ xs) = ap (λ ys. x ∷ ys) (append_nil xs)
keys_all defs target part before (a ∷ parts) k h =
    subst (λ as'. Holds defs (keys as')) (append_assoc before (a ∷ []) parts)
    (keys_all defs target (suc part) (before ++ a ∷ []) parts
    (one a (front_hold defs (on_alternative target part (before ++ a ∷ []) a) (on_alternatives target (suc part) (before ++ a ∷ []) parts) h))
    (back_hold defs (on_alternative target part (before ++ a ∷ []) a) (on_alternatives target (suc part) (before ++ a ∷ []) parts) h))
  where
    one : (b : Alternative) → AllHold defs (on_alternative target part (before ++ a ∷ []) b) → Holds defs (keys (before ++ a ∷ []))
    one (alternative.Case tag operands) h = h.0
    one (alternative.Incl name) h = (back_hold defs (on_included target part name) (asked part (keys (before ++ a ∷ [])) ∷ []) h).0

no_keys : (defs : List SyntaxDef) → Holds defs (keys [])
no_keys defs cases (Flatten.none e) = subst KeysDiffer (sym e) tt

module _ (defs : List SyntaxDef) (ranks : List ℕ) (flats : List Flat) (joins : List ℕ) (sound : IsSound defs) (right : AreRanks (graph_of defs) ranks) (known : AreFlats defs ranks (length defs) flats)
    (join_right : AreRanks (join_graph defs) joins) (size : length ranks ≡ length defs) where
  flat_whole : (p : ℕ) (d : SyntaxDef) (f : Flat) (parts : List Alternative) → slice_get defs p ≡ Some d → slice_get flats p ≡ Some f → d.body ≡ body.Variant parts → Flatten defs parts f.cases.items × IsKeyed f.cases
  flat_whole p d f parts e g b = by f.whole flat
    where
      within : p < length defs
      within = slice_get_within defs p d e

      flat : IsFlat defs parts f
      flat = subst (λ z. IsFlat defs (or_none (listed (Some z))) f) b (known.right p d f e (all-ranked defs sound ranks right p within) (let h = right.bounded p in let c = length-map defs (node_of defs) in omega (arith, h, c)) g)

      held : Holds defs (keys parts)
      held = keys_all defs d.name 0 [] parts (no_keys defs) (subst (λ z. AllHold defs (on_body d.name z)) b (sound p within d e).1)

      by : (w : Bool) → MatchBool w (Flatten defs parts f.cases.items × IsKeyed f.cases) (IsBroken defs parts) → Flatten defs parts f.cases.items × IsKeyed f.cases
      by true h = h
      by false h = absurd (h.1.1 (held h.0 h.1.0))

  rank-below : (name y : List ℕ) (p : ℕ) (d : SyntaxDef) → slice_get defs p ≡ Some d → Among (leads_to d.body) y → (o : Option Entry) → entry_of (kept_of defs ranks flats joins) y ≡ o → ranked o < slice_index ranks p
  rank-below name y p d e a None h = all-ranked defs sound ranks right p (slice_get_within defs p d e)
  rank-below name y p d e a (Some x) h =
      let n = entry-at defs ranks flats joins y x h in
      let f = (right.falls p n.position (positions_of defs (leads_to d.body)) (all-ranked defs sound ranks right p (slice_get_within defs p d e)) (node_at defs defs p d e) (position-among defs (leads_to d.body) y n.position a n.asked)).1 in
      let k = n.rank_is in
      omega (arith, f, k)

  settled_by : (e : Entry) (name : List ℕ) → EntryAt defs ranks flats joins name e → (b : SyntaxBody) → e.body ≡ b → (ds : List SyntaxDef) → ds ≡ defs → defs_of (kept_of defs ranks flats joins) ≡ ds → IsSettled (kept_of defs ranks flats joins) e b
  settled_by e name n (body.Alias t) q ds s w = λ y a.
      let m : Among (leads_to n.definition.body) y = subst (λ z. Among (leads_to z) y) (sym q ∙ n.body_is) a in
      let f = rank-below name y n.position n.definition n.there m (entry_of (kept_of defs ranks flats joins) y) refl in
      let k = n.rank_is in
      omega (arith, f, k)
  settled_by e name n (body.Variant parts) q ds s w =
      let f = flat_whole n.position n.definition n.flat parts n.there n.flat_there (sym n.body_is ∙ q) in
      record {
        flattened = subst (λ z. Flatten z parts e.cases) (sym (w ∙ s)) (subst (Flatten defs parts) (sym n.cases_is) f.0);
        differ = subst KeysDiffer (sym n.cases_is) f.1.differ;
        indexed = subst (λ cs. IsKeyIndex cs e.index) (sym n.cases_is) (subst (IsKeyIndex n.flat.cases.items) (sym n.index_is) f.1.indexed);
      }
  settled_by e name n (body.Fields fs) q ds s w =
      let h = ranked-joins defs joins join_right n.position n.definition fs n.there (sym n.body_is ∙ q) in
      subst (λ z. (0 < e.join_rank) ↔ AllJoin z fs) (sym (w ∙ s)) (subst (λ r. (0 < r) ↔ AllJoin defs fs) (sym n.join_rank_is) h)

  pub kept-right : length flats ≡ length defs → length joins ≡ length defs → AllSettled (kept_of defs ranks flats joins)
  kept-right flat_size join_size name e h = settled_by e name (entry-at defs ranks flats joins name e h) e.body refl defs refl (kept-whole defs ranks flats joins size flat_size join_size)

-- ---- a list that is taken from the front

pub drop-front : {A : Type 0} (xs : List A) (i : ℕ) (x : A) (ys : List A) → drop i xs ≡ x ∷ ys → (slice_get xs i ≡ Some x) × (drop (suc i) xs ≡ ys)
drop-front [] zero x ys e = cc
drop-front [] (suc i) x ys e = cc
drop-front (y ∷ xs) zero x ys e = (cc, cc)
drop-front (y ∷ xs) (suc i) x ys e = drop-front xs i x ys e

pub drop-none : {A : Type 0} (xs : List A) (i : ℕ) → drop i xs ≡ [] → length xs ≤ i
drop-none [] i e = omega arith
drop-none (x ∷ xs) zero e = cc
drop-none (x ∷ xs) (suc i) e = let h = drop-none xs i e in omega (arith, h)
