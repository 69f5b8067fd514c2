-- There is only one table of dimensions.
use Rattle.std.proofs.Common.{◌≡◌, ℕ, ◌<◌, ◌≤◌, List, [], ◌∷◌, ◌++◌, length, map, get_or, drop, Bool, true, false, T, ◌&&◌, cond, Option, Some, None, Ordering, Less, ap, sym, ◌∙◌, refl, subst, arith}
use Rattle.std.specs.List.{All, AllByRecursion}
use Rattle.std.specs.List.Sorted.{IsStrictlySortedBy}
use Rattle.std.specs.Ordering.{nat_cmp, is_lt}
use Rattle.std.specs.FinMap.{slice_cmp-IsAntisymmetric, nat_cmp-IsAntisymmetric}
use Rattle.std.specs.FinMap.Entries.{find, below_all, is_sorted, same_entries}
use Rattle.std.specs.Cmp.Lexicographic.{slice_cmp}
use Rattle.std.proofs.lemmas.Cmp.{lists_total, nat_cmp_total}
use Rattle.std.proofs.lemmas.List.Elements.{All-head, All-tail}
use Rattle.std.proofs.lemmas.Map.Text.{is_eq-slice_cmp}
use Rattle.st_num.specs.declared.dim.Kind.{Kind}
use Rattle.st_dims.specs.declared.mention.Mention.{Mention}
use Rattle.st_num.specs.Names.{same_name}
use Rattle.st_dims.specs.Mentions.{occurrences_in}
use Rattle.st_dims.specs.Dimensions.{Table, IsFirstShortest, IsOrdered, IsTable, IsOnlyTable, chains_of, dimension_in, HasDimensions}
use Rattle.st_dims.proofs.Shortest.{Longer, NoShorter, Fits}

-- ---- one first shortest chain

at_middle : (P : List Kind → Type 0) (before behind : List (List Kind)) (chain : List Kind) → All P (before ++ chain ∷ behind) → P chain
at_middle P [] behind chain h = All-head P chain behind h
at_middle P (x ∷ before) behind chain h = at_middle P before behind chain (All-tail P x (before ++ chain ∷ behind) h)

irreflexive : (a b : ℕ) → a < b → b ≤ a → ⊥
irreflexive a b h i = omega arith

not_both : {X : Type 0} (a b : ℕ) → a < b → b ≤ a → X
not_both a b h i = absurd (irreflexive a b h i)

abbrev first_of : List (List Kind) → List Kind
first_of chains = get_or chains 0 []

-- the one that stands first is shorter than a later one, which is no longer than it
clash :
    (behind before after : List (List Kind)) (one first other : List Kind) → one ≡ first → behind ≡ before ++ other ∷ after
    → All (NoShorter one) behind → All (Longer other) (first ∷ before) → one ≡ other
clash behind before after one first other e is no_shorter longer =
    not_both (length other) (length one)
    (subst (λ (x : List Kind). length other < length x) (sym e) (All-head (Longer other) first before longer))
    (at_middle (NoShorter one) before after other (subst (All (NoShorter one)) is no_shorter))

one_chain :
    (before behind before2 behind2 : List (List Kind)) (one other : List Kind) → before ++ one ∷ behind ≡ before2 ++ other ∷ behind2
    → All (Longer one) before → All (NoShorter one) behind → All (Longer other) before2 → All (NoShorter other) behind2
    → one ≡ other
one_chain [] behind [] behind2 one other e l n l2 n2 = ap first_of e
one_chain [] behind (x ∷ before2) behind2 one other e l n l2 n2 =
    clash behind before2 behind2 one x other (ap first_of e) (ap (drop 1) e) n l2
one_chain (x ∷ before) behind [] behind2 one other e l n l2 n2 =
    sym (clash behind2 before behind other x one (sym (ap first_of e)) (sym (ap (drop 1) e)) n2 l)
one_chain (x ∷ before) behind (y ∷ before2) behind2 one other e l n l2 n2 =
    one_chain before behind before2 behind2 one other (ap (drop 1) e) (All-tail (Longer one) x before l) n (All-tail (Longer other) y before2 l2) n2

one_shortest : (chains : List (List Kind)) (one other : List Kind) → IsFirstShortest chains one → IsFirstShortest chains other → one ≡ other
one_shortest chains one other h i =
    one_chain h.before h.behind i.before i.behind one other (sym h.are ∙ i.are) h.longer h.no_shorter i.longer i.no_shorter

no_cons : (before behind : List (List Kind)) (chain : List Kind) → [] ≡ before ++ chain ∷ behind → ⊥
no_cons [] behind chain e = cc
no_cons (x ∷ before) behind chain e = cc

not_empty : (chains : List (List Kind)) (chain : List Kind) → chains ≡ [] → IsFirstShortest chains chain → ⊥
not_empty chains chain e h = no_cons h.before h.behind chain (sym e ∙ h.are)

one_fits : (chains : List (List Kind)) (one other : Option (List Kind)) → Fits one chains → Fits other chains → one ≡ other
one_fits chains None None h i = refl
one_fits chains None (Some other) h i = absurd (not_empty chains other h i)
one_fits chains (Some one) None h i = absurd (not_empty chains one i h)
one_fits chains (Some one) (Some other) h i = ap Some (one_shortest chains one other h i)

-- ---- one table

find_is : (table : Table) (name : List ℕ) → find (slice_cmp nat_cmp) name table ≡ dimension_in table name
find_is [] name = refl
find_is (entry ∷ table) name =
    ap (λ test. cond test (Some entry.1) (find (slice_cmp nat_cmp) name table)) (is_eq-slice_cmp name entry.0)
    ∙ ap (λ found. cond (same_name name entry.0) (Some entry.1) found) (find_is table name)

both : (a b : Bool) → T a → T b → T (a && b)
both true b p q = q
both false b p q = p

is_below : (order : Ordering) → order ≡ Less → T (is_lt order)
is_below order e = subst (λ o. T (is_lt o)) (sym e) tt

below : (name : List ℕ) (table : Table) → AllByRecursion (λ y. slice_cmp nat_cmp name y ≡ Less) (map (λ entry. entry.0) table) → T (below_all (slice_cmp nat_cmp) name table)
below name [] h = tt
below name (entry ∷ table) h = both _ _ (is_below _ h.0) (below name table h.1)

rising : (table : Table) → IsOrdered table → T (is_sorted (slice_cmp nat_cmp) table)
unfolding IsStrictlySortedBy
rising [] h = tt
rising (entry ∷ table) h = both _ _ (below entry.0 table h.0) (rising table h.1)

one_table : (mentions : List Mention) (one other : Table) → IsTable mentions one → IsTable mentions other → other ≡ one
one_table mentions one other h i =
    same_entries (slice_cmp nat_cmp) (lists_total nat_cmp_total) (slice_cmp-IsAntisymmetric nat_cmp-IsAntisymmetric) other one
    (rising other i.ordered) (rising one h.ordered)
    (λ name. find_is other name ∙ one_fits (chains_of name (occurrences_in mentions)) (dimension_in other name) (dimension_in one name) (i.dimensions name) (h.dimensions name) ∙ sym (find_is one name))

-- the table that is in order and has the dimensions is the only one
pub only_table : (mentions : List Mention) (table : Table) → IsOrdered table → HasDimensions (occurrences_in mentions) table → IsOnlyTable mentions table
only_table mentions table ordered dimensions =
    let is : IsTable mentions table = record { ordered = ordered; dimensions = dimensions } in
    record { is = is; only = λ other h. one_table mentions table other is h }
