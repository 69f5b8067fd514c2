-- How the shortest chains of names change with a further occurrence.
use Rattle.std.proofs.Common.{◌≡◌, ℕ, ◌<◌, ◌≤◌, List, [], ◌∷◌, ◌++◌, length, map, Bool, true, false, nat_lt, cond, Option, Some, None, ap, sym, ◌∙◌, refl, subst, arith, MatchOption, append_assoc}
use Rattle.std.specs.List.{All, filter}
use Rattle.std.specs.Map.{lookup}
use Rattle.std.specs.Ordering.{nat_cmp}
use Rattle.std.specs.BTreeMap.{is_at}
use Rattle.std.specs.Cmp.Lexicographic.{slice_cmp}
use Rattle.std.proofs.lemmas.List.Elements.{All-append, All-cons, All-nil, filter-append}
use Rattle.std.proofs.lemmas.List.{map-append, append-nil}
use Rattle.std.proofs.lemmas.Bool.Decides.{Decides-ltb}
use Rattle.std.proofs.lemmas.Map.Text.{is_eq-slice_cmp}
use Rattle.std.proofs.lemmas.Slice.Eq.{bytes_eq-Decides}
use Rattle.st_num.specs.declared.dim.Kind.{Kind}
use Rattle.st_dims.specs.declared.mention.Occurrence.{Occurrence}
use Rattle.st_num.specs.Names.{same_name}
use Rattle.st_dims.specs.inner.Noting.{is_shorter}
use Rattle.st_dims.specs.Dimensions.{Table, chains_of, IsFirstShortest, dimension_in, HasDimensions}

-- a map finds names by their order
pub lookup_same : (name : List ℕ) (table : Table) → lookup (is_at (slice_cmp nat_cmp name)) table ≡ dimension_in table name
lookup_same name [] = refl
lookup_same name (entry ∷ table) =
    ap (λ test. cond test (Some entry.1) (lookup (is_at (slice_cmp nat_cmp name)) table)) (is_eq-slice_cmp name entry.0)
    ∙ ap (λ found. cond (same_name name entry.0) (Some entry.1) found) (lookup_same name table)

-- ---- one more chain

less-trans : (a b c : ℕ) → a < b → b < c → a < c
less-trans a b c h i = omega arith

less-le-trans : (a b c : ℕ) → a < b → b ≤ c → a < c
less-le-trans a b c h i = omega arith

not-less : (a b : ℕ) → nat_lt a b ≡ false → b ≤ a
not-less a b h = grind (arith, h)

-- the other chain is longer, or not shorter
abbrev pub Longer : List Kind → List Kind → Type 0
Longer chain other = length chain < length other

abbrev pub NoShorter : List Kind → List Kind → Type 0
NoShorter chain other = length chain ≤ length other

pub alone : (chains : List (List Kind)) (chain : List Kind) → chains ≡ [] → IsFirstShortest (chains ++ chain ∷ []) chain
alone chains chain e = record {
  before = [];
  behind = [];
  are = ap (λ xs. xs ++ chain ∷ []) e;
  longer = All-nil (Longer chain);
  no_shorter = All-nil (NoShorter chain);
}

pub shorter_last :
    (chains : List (List Kind)) (known chain : List Kind) → IsFirstShortest chains known → length chain < length known
    → IsFirstShortest (chains ++ chain ∷ []) chain
shorter_last chains known chain h s =
    let front : All (Longer chain) h.before = λ k d i. less-trans (length chain) (length known) _ s (h.longer k d i) in
    let back : All (Longer chain) h.behind = λ k d i. less-le-trans (length chain) (length known) _ s (h.no_shorter k d i) in
    record {
      before = chains;
      behind = [];
      are = refl;
      longer = subst (All (Longer chain)) (sym h.are)
          (All-append (Longer chain) h.before (known ∷ h.behind) front (All-cons (Longer chain) known h.behind s back));
      no_shorter = All-nil (NoShorter chain);
    }

pub longer_last :
    (chains : List (List Kind)) (known chain : List Kind) → IsFirstShortest chains known → length known ≤ length chain
    → IsFirstShortest (chains ++ chain ∷ []) known
longer_last chains known chain h s = record {
  before = h.before;
  behind = h.behind ++ chain ∷ [];
  are = ap (λ xs. xs ++ chain ∷ []) h.are ∙ append_assoc h.before (known ∷ h.behind) (chain ∷ []);
  longer = h.longer;
  no_shorter = All-append (NoShorter known) h.behind (chain ∷ []) h.no_shorter (All-cons (NoShorter known) chain [] s (All-nil (NoShorter known)));
}

-- ---- one more occurrence

not_true : (is : Bool) → (is ≡ true → ⊥) → is ≡ false
not_true true h = absurd (h refl)
not_true false h = refl

absurd_eq : {is : Bool} → is ≡ true → is ≡ false → ⊥
absurd_eq h e = cc

-- the chain of the occurrence, where it has this name
abbrev pub chain_at : List ℕ → Occurrence → List (List Kind)
chain_at name occurrence = cond (same_name name occurrence.name) (occurrence.chain ∷ []) []

chains_one : (name : List ℕ) (occurrence : Occurrence) (is : Bool)
    → map (λ (o : Occurrence). o.chain) (cond is (occurrence ∷ []) []) ≡ cond is (occurrence.chain ∷ []) []
chains_one name occurrence true = refl
chains_one name occurrence false = refl

pub chains-last :
    (name : List ℕ) (before : List Occurrence) (occurrence : Occurrence)
    → chains_of name (before ++ occurrence ∷ []) ≡ chains_of name before ++ chain_at name occurrence
chains-last name before occurrence =
    ap (map (λ (o : Occurrence). o.chain)) (filter-append (λ (o : Occurrence). same_name name o.name) before (occurrence ∷ []))
    ∙ map-append (λ (o : Occurrence). o.chain) (filter (λ (o : Occurrence). same_name name o.name) before) (cond (same_name name occurrence.name) (occurrence ∷ []) [])
    ∙ ap (λ xs. chains_of name before ++ xs) (chains_one name occurrence (same_name name occurrence.name))

-- the dimension of a name, if any, is the first of its shortest chains
abbrev pub Fits : Option (List Kind) → List (List Kind) → Type 0
Fits found chains = MatchOption found (chains ≡ []) (IsFirstShortest chains)

no-chain : (found : Option (List Kind)) (chains : List (List Kind)) → Fits found chains → Fits found (chains ++ [])
no-chain found chains h = subst (Fits found) (sym (append-nil chains)) h

kept-chain :
    (found : Option (List Kind)) (chains : List (List Kind)) (chain : List Kind) → is_shorter chain found ≡ false
    → Fits found chains → Fits found (chains ++ chain ∷ [])
kept-chain None chains chain s h = cc
kept-chain (Some known) chains chain s h = longer_last chains known chain h (not-less (length chain) (length known) s)

put-chain :
    (found : Option (List Kind)) (chains : List (List Kind)) (chain : List Kind) → is_shorter chain found ≡ true
    → Fits found chains → Fits (Some chain) (chains ++ chain ∷ [])
put-chain None chains chain s h = alone chains chain h
put-chain (Some known) chains chain s h = shorter_last chains known chain h ((Decides-ltb (length chain) (length known)).0 s)

-- names are equal both ways
one_way : (one other : List ℕ) (is : Bool) → same_name other one ≡ is → same_name one other ≡ is
one_way one other true e = (bytes_eq-Decides one other).1 (sym ((bytes_eq-Decides other one).0 e))
one_way one other false e = not_true (same_name one other) (λ h. absurd_eq ((bytes_eq-Decides other one).1 (sym ((bytes_eq-Decides one other).0 h))) e)

same_name-sym : (one other : List ℕ) → same_name one other ≡ same_name other one
same_name-sym one other = one_way one other (same_name other one) refl

same : (name other : List ℕ) → same_name name other ≡ true → other ≡ name
same name other h = sym ((bytes_eq-Decides name other).0 h)

-- what is known of a name, with a further occurrence of this or another name
kept-name :
    (before : List Occurrence) (occurrence : Occurrence) (table : Table) (name : List ℕ) (is : Bool) → same_name name occurrence.name ≡ is
    → is_shorter occurrence.chain (dimension_in table occurrence.name) ≡ false
    → Fits (dimension_in table name) (chains_of name before)
    → Fits (dimension_in table name) (chains_of name before ++ cond is (occurrence.chain ∷ []) [])
kept-name before occurrence table name true e s h =
    kept-chain (dimension_in table name) (chains_of name before) occurrence.chain
    (ap (λ n. is_shorter occurrence.chain (dimension_in table n)) (sym (same name occurrence.name e)) ∙ s) h
kept-name before occurrence table name false e s h = no-chain (dimension_in table name) (chains_of name before) h

put-name :
    (before : List Occurrence) (occurrence : Occurrence) (table : Table) (name : List ℕ) (is : Bool) → same_name name occurrence.name ≡ is
    → is_shorter occurrence.chain (dimension_in table occurrence.name) ≡ true
    → Fits (dimension_in table name) (chains_of name before)
    → Fits (cond is (Some occurrence.chain) (dimension_in table name)) (chains_of name before ++ cond is (occurrence.chain ∷ []) [])
put-name before occurrence table name true e s h =
    put-chain (dimension_in table name) (chains_of name before) occurrence.chain
    (ap (λ n. is_shorter occurrence.chain (dimension_in table n)) (sym (same name occurrence.name e)) ∙ s) h
put-name before occurrence table name false e s h = no-chain (dimension_in table name) (chains_of name before) h

-- where the chain is not shorter than the one that is known
pub kept :
    (before : List Occurrence) (occurrence : Occurrence) (table : Table)
    → is_shorter occurrence.chain (dimension_in table occurrence.name) ≡ false
    → HasDimensions before table → HasDimensions (before ++ occurrence ∷ []) table
kept before occurrence table s h name =
    subst (Fits (dimension_in table name)) (sym (chains-last name before occurrence))
    (kept-name before occurrence table name (same_name name occurrence.name) refl s (h name))

-- where the chain is put in place of what was known
pub put :
    (before : List Occurrence) (occurrence : Occurrence) (old new : Table) (key : List ℕ) (chain : List Kind)
    → key ≡ occurrence.name → chain ≡ occurrence.chain
    → is_shorter occurrence.chain (dimension_in old occurrence.name) ≡ true
    → ((name : List ℕ) → lookup (is_at (slice_cmp nat_cmp name)) new
    ≡ cond (is_at (slice_cmp nat_cmp key) name) (Some chain) (lookup (is_at (slice_cmp nat_cmp name)) old))
    → HasDimensions before old → HasDimensions (before ++ occurrence ∷ []) new
put before occurrence old new key chain k c s u h name =
    let found : dimension_in new name ≡ cond (same_name name occurrence.name) (Some occurrence.chain) (dimension_in old name) =
    sym (lookup_same name new) ∙ u name
    ∙ ap (λ x. cond (is_at (slice_cmp nat_cmp key) name) (Some chain) x) (lookup_same name old)
    ∙ ap (λ x. cond x (Some chain) (dimension_in old name)) (is_eq-slice_cmp key name ∙ ap (λ x. same_name x name) k ∙ same_name-sym occurrence.name name)
    ∙ ap (λ x. cond (same_name name occurrence.name) (Some x) (dimension_in old name)) c in
    subst (λ d. Fits d (chains_of name (before ++ occurrence ∷ []))) (sym found)
    (subst (Fits (cond (same_name name occurrence.name) (Some occurrence.chain) (dimension_in old name))) (sym (chains-last name before occurrence))
    (put-name before occurrence old name (same_name name occurrence.name) refl s (h name)))

-- of no occurrences
pub none : HasDimensions [] []
none name = refl
