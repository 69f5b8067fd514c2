-- Under each name those that cite it, one definition after another.
use Rattle.std.proofs.Common.{◌≡◌, refl, sym, ◌∙◌, ap, ap₂, ℕ, ◌+◌, ◌<◌, ◌≤◌, Bool, true, false, ◌&&◌, ◌||◌, if◌then◌else◌, List, [], ◌∷◌, ◌++◌, append-nil, length, map, get_or, take, bytes_eq, Option, Some}
use Rattle.std.specs.Borrow.{Bor}
use Rattle.std.specs.Prelude.{unwrap_or}
use Rattle.std.proofs.lemmas.List.{take_more, take_all}
use Rattle.std.proofs.lemmas.Slice.Eq.{bytes_eq-Decides}
use Rattle.st_il.specs.declared.definition.ClauseDef.{ClauseDef}
use Rattle.st_il.specs.declared.definition.IlDef.{IlDef}
use Rattle.st_il.specs.declared.definition.IlDef.TheVariants.{Syntax, Var, Relation, Rule, Fun, Clause}
use Rattle.st_il.specs.declared.definition.RuleDef.{RuleDef}
use Rattle.st_il.specs.Names.{Name, has_name, flattened}
use Rattle.st_il.specs.Definitions.{rules_in, rules_from, clauses_in, clauses_from}
use Rattle.st_order.specs.Known.{at}
use Rattle.st_order.specs.inner.Index.{names_in}
use Rattle.st_modes.specs.inner.Citing.{functions_in_clause}
use Rattle.st_modes.specs.inner.Citations.{relations_in_rule, cited_by_relation, called_by_function}
use Rattle.st_modes.specs.inner.CitedBy.{AreCiting, AreCalling}
use Rattle.st_modes.specs.inner.Reaching.{Entries, cited_under}
use Rattle.st_order.proofs.NamesIn.{names_in_last, has_name_append}
use Rattle.st_modes.proofs.HasRead.{last, cited_head, calls_head, says_nothing, one_told}

-- ---- one more name

pub push-under : (old mid new : Entries) (key name : Bor (List ℕ)) (was : Option (List (Bor (List ℕ)))) (empty row pushed : List (Bor (List ℕ))) → was ≡ at old key.now
    → ((q : Name) → at mid q ≡ (if bytes_eq q key.now then Some empty else at old q)) → row ≡ unwrap_or was [] → pushed ≡ row ++ name ∷ []
    → ((q : Name) → at new q ≡ (if bytes_eq q key.now then Some pushed else at mid q))
    → (q : Name) → cited_under new q ≡ cited_under old q ++ (if bytes_eq q key.now then name.now ∷ [] else [])
push-under old mid new key name was empty row pushed w exchanged r p put q = by (bytes_eq q key.now) refl
  where
    by : (b : Bool) → bytes_eq q key.now ≡ b → cited_under new q ≡ cited_under old q ++ (if b then name.now ∷ [] else [])
    by true e =
        let same : q ≡ key.now = (bytes_eq-Decides q key.now).0 e in
        ap (λ o. names_in (unwrap_or o [])) (put q ∙ ap (λ b. if b then Some pushed else at mid q) e)
        ∙ ap names_in (p ∙ ap (λ z. z ++ name ∷ []) (r ∙ ap (λ o. unwrap_or o []) w))
        ∙ names_in_last (unwrap_or (at old key.now) []) name
        ∙ ap (λ k. cited_under old k ++ name.now ∷ []) (sym same)
    by false e =
        ap (λ o. names_in (unwrap_or o []))
        (put q ∙ ap (λ b. if b then Some pushed else at mid q) e ∙ exchanged q ∙ ap (λ b. if b then Some empty else at old q) e)
        ∙ sym (append-nil (cited_under old q))

more-or : (i k n q : Bool) → ((i || (k && n)) || (if q then (n || false) else false)) ≡ (i || ((k || (q || false)) && n))
more-or true k n q = refl
more-or false true true q = refl
more-or false true false true = refl
more-or false true false false = refl
more-or false false true true = refl
more-or false false true false = refl
more-or false false false true = refl
more-or false false false false = refl

has-if : (b : Bool) (name p : Name) → has_name (if b then name ∷ [] else []) p ≡ (if b then (bytes_eq p name || false) else false)
has-if true name p = refl
has-if false name p = refl

pub under-next : (initial now new : Entries) (keys : List (Bor (List ℕ))) (i : ℕ) (key : Bor (List ℕ)) (name : Name) → i < length keys → key ≡ get_or keys i key
    → ((p q : Name) → has_name (cited_under now q) p ≡ (has_name (cited_under initial q) p || (has_name (names_in (take i keys)) q && bytes_eq p name)))
    → ((q : Name) → cited_under new q ≡ cited_under now q ++ (if bytes_eq q key.now then name ∷ [] else []))
    → (p q : Name) → has_name (cited_under new q) p ≡ (has_name (cited_under initial q) p || (has_name (names_in (take (i + 1) keys)) q && bytes_eq p name))
under-next initial now new keys i key name within is inv one p q =
    ap (λ z. has_name z p) (one q) ∙ has_name_append (cited_under now q) (if bytes_eq q key.now then name ∷ [] else []) p
    ∙ ap₂ (λ a b. a || b) (inv p q) (has-if (bytes_eq q key.now) name p)
    ∙ more-or (has_name (cited_under initial q) p) (has_name (names_in (take i keys)) q) (bytes_eq p name) (bytes_eq q key.now)
    ∙ ap (λ z. has_name (cited_under initial q) p || (z && bytes_eq p name)) (sym front)
  where
    front : has_name (names_in (take (i + 1) keys)) q ≡ (has_name (names_in (take i keys)) q || (bytes_eq q key.now || false))
    front =
        ap (λ z. has_name (names_in z) q) (take_more keys i key within ∙ ap (λ z. take i keys ++ z ∷ []) (sym is))
        ∙ ap (λ z. has_name z q) (names_in_last (take i keys) key) ∙ has_name_append (names_in (take i keys)) (key.now ∷ []) q

or-none : (b : Bool) → b ≡ (b || false)
or-none true = refl
or-none false = refl

pub under-none : (entries : Entries) (keys : List (Bor (List ℕ))) (name : Name) (p q : Name)
    → has_name (cited_under entries q) p ≡ (has_name (cited_under entries q) p || (has_name (names_in (take 0 keys)) q && bytes_eq p name))
under-none entries keys name p q = or-none (has_name (cited_under entries q) p)

pub under-all : (initial new : Entries) (keys : List (Bor (List ℕ))) (i : ℕ) (name : Name) → length keys ≤ i
    → ((p q : Name) → has_name (cited_under new q) p ≡ (has_name (cited_under initial q) p || (has_name (names_in (take i keys)) q && bytes_eq p name)))
    → (p q : Name) → has_name (cited_under new q) p ≡ (has_name (cited_under initial q) p || (has_name (names_in keys) q && bytes_eq p name))
under-all initial new keys i name beyond inv p q = inv p q ∙ ap (λ z. has_name (cited_under initial q) p || (has_name (names_in z) q && bytes_eq p name)) (take_all i keys beyond)

-- ---- one more definition

and-true : (b : Bool) → b ≡ (b && true)
and-true true = refl
and-true false = refl

and-false : (b : Bool) → false ≡ (b && false)
and-false true = refl
and-false false = refl

gate : (b : Bool) (xs : List Name) (q : Name) → has_name (if b then xs else []) q ≡ (has_name xs q && b)
gate true xs q = and-true (has_name xs q)
gate false xs q = and-false (has_name xs q)

module _ (defs : List IlDef) (old new : Entries) where
  pub citing-rule : (d : IlDef) (r : RuleDef) (cited : List (Bor (List ℕ))) → d ≡ Rule r → names_in cited ≡ relations_in_rule r
      → ((p q : Name) → has_name (cited_under new q) p ≡ (has_name (cited_under old q) p || (has_name (names_in cited) q && bytes_eq p r.relation)))
      → AreCiting defs old → AreCiting (defs ++ d ∷ []) new
  citing-rule d r cited is are more h p q =
      more p q ∙ ap₂ (λ a b. a || (has_name b q && bytes_eq p r.relation)) (h p q) are
      ∙ ap (λ z. has_name (cited_by_relation p defs) q || z) (sym (gate (bytes_eq p r.relation) (relations_in_rule r) q))
      ∙ sym (has_name_append (cited_by_relation p defs) (if bytes_eq p r.relation then relations_in_rule r else []) q)
      ∙ ap (λ z. has_name (cited_by_relation p defs ++ z) q) (one_told relations_in_rule (bytes_eq p r.relation) r)
      ∙ ap (λ z. has_name z q) (sym (last (cited_by_relation p) refl (cited_head p) defs (Rule r)))
      ∙ ap (λ z. has_name (cited_by_relation p (defs ++ z ∷ [])) q) (sym is)

  pub calling-clause : (d : IlDef) (c : ClauseDef) (called : List (Bor (List ℕ))) → d ≡ Clause c → names_in called ≡ functions_in_clause c
      → ((p q : Name) → has_name (cited_under new q) p ≡ (has_name (cited_under old q) p || (has_name (names_in called) q && bytes_eq p c.fun)))
      → AreCalling defs old → AreCalling (defs ++ d ∷ []) new
  calling-clause d c called is are more h p q =
      more p q ∙ ap₂ (λ a b. a || (has_name b q && bytes_eq p c.fun)) (h p q) are
      ∙ ap (λ z. has_name (called_by_function p defs) q || z) (sym (gate (bytes_eq p c.fun) (functions_in_clause c) q))
      ∙ sym (has_name_append (called_by_function p defs) (if bytes_eq p c.fun then functions_in_clause c else []) q)
      ∙ ap (λ z. has_name (called_by_function p defs ++ z) q) (one_told functions_in_clause (bytes_eq p c.fun) c)
      ∙ ap (λ z. has_name z q) (sym (last (called_by_function p) refl (calls_head p) defs (Clause c)))
      ∙ ap (λ z. has_name (called_by_function p (defs ++ z ∷ [])) q) (sym is)

no_rule : (d : IlDef) → ((r : RuleDef) → d ≡ Rule r → ⊥) → rules_in (d ∷ []) ≡ []
no_rule (Syntax s) n = refl
no_rule (Var x t) n = refl
no_rule (Relation r) n = refl
no_rule (Rule r) n = absurd (n r refl)
no_rule (Fun f) n = refl
no_rule (Clause c) n = refl

no_clause : (d : IlDef) → ((c : ClauseDef) → d ≡ Clause c → ⊥) → clauses_in (d ∷ []) ≡ []
no_clause (Syntax s) n = refl
no_clause (Var x t) n = refl
no_clause (Relation r) n = refl
no_clause (Rule r) n = refl
no_clause (Fun f) n = refl
no_clause (Clause c) n = absurd (n c refl)

-- a definition that is no rule cites nothing
pub citing-other : (defs : List IlDef) (d : IlDef) (entries : Entries) → ((r : RuleDef) → d ≡ Rule r → ⊥) → AreCiting defs entries → AreCiting (defs ++ d ∷ []) entries
citing-other defs d entries n h p q =
    h p q
    ∙ ap (λ z. has_name z q)
    (says_nothing (cited_by_relation p) refl (cited_head p) defs d (cited_by_relation p defs) refl (ap (λ z. flattened (map relations_in_rule (rules_from p z))) (sym (no_rule d n))))

pub calling-other : (defs : List IlDef) (d : IlDef) (entries : Entries) → ((c : ClauseDef) → d ≡ Clause c → ⊥) → AreCalling defs entries → AreCalling (defs ++ d ∷ []) entries
calling-other defs d entries n h p q =
    h p q
    ∙ ap (λ z. has_name z q)
    (says_nothing (called_by_function p) refl (calls_head p) defs d (called_by_function p defs) refl (ap (λ z. flattened (map functions_in_clause (clauses_from p z))) (sym (no_clause d n))))
