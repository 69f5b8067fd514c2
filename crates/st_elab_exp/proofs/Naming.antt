-- Where the name of each occurrence leads to a type, so does each name of the table of dimensions.
use Rattle.std.proofs.Common.{◌≡◌, refl, sym, ap, ◌∙◌, ℕ, List, [], ◌∷◌, ◌++◌, map, Bool, true, false, ◌||◌, if◌then◌else◌, Option, Some, None, MatchOption}
use Rattle.std.specs.List.{filter, AllByRecursion, list_any}
use Rattle.std.proofs.lemmas.Slice.Eq.{bytes_eq-Decides}
use Rattle.st_num.specs.declared.span.Span.{Span}
use Rattle.st_num.specs.declared.dim.Kind.{Kind}
use Rattle.st_dims.specs.declared.mention.Occurrence.{Occurrence}
use Rattle.st_dims.specs.declared.mention.Mention.{Mention}
use Rattle.st_num.specs.Names.{same_name}
use Rattle.st_dims.specs.Mentions.{occurrences_in}
use Rattle.st_dims.specs.Dimensions.{Table, chains_of, dimension_in, IsFirstShortest, IsOnlyTable}
use Rattle.st_elab_table.specs.declared.decls.Decls.{Decls}
use Rattle.st_elab_table.specs.Variables.{type_of_name}
use Rattle.st_elab_table.specs.Scopes.{is_none, is_untyped, untyped}
use Rattle.st_elab_exp.specs.inner.Typing.{AreTyped}

abbrev Untyped : Decls → List ℕ → Type 0
Untyped D name = type_of_name D name ≡ None

abbrev places : Decls → List Occurrence → List Span
places D os = map (λ (occurrence : Occurrence). occurrence.at) (filter (is_untyped D) os)

no_place : (at : Span) (rest : List Span) → at ∷ rest ≡ [] → ⊥
no_place at rest e = cc

differ : true ≡ false → ⊥
differ e = cc

-- a name that leads to no type does not occur where each occurrence leads to one
no_chains : (D : Decls) (name : List ℕ) (os : List Occurrence) → Untyped D name → places D os ≡ [] → chains_of name os ≡ []
no_chains D name [] t e = refl
no_chains D name (o ∷ os) t e = step (no_chains D name os t) (is_untyped D o) (same_name name o.name) refl refl
  where
    kept : (u : Bool) → is_untyped D o ≡ u → map (λ (occurrence : Occurrence). occurrence.at) (if u then o ∷ filter (is_untyped D) os else filter (is_untyped D) os) ≡ []
    kept u n = ap (λ b. map (λ (occurrence : Occurrence). occurrence.at) (if b then o ∷ filter (is_untyped D) os else filter (is_untyped D) os)) (sym n) ∙ e

    chains : (b : Bool) → same_name name o.name ≡ b
        → chains_of name (o ∷ os) ≡ map (λ (occurrence : Occurrence). occurrence.chain) (if b then o ∷ filter (λ occurrence. same_name name occurrence.name) os else filter (λ occurrence. same_name name occurrence.name) os)
    chains b s = ap (λ z. map (λ (occurrence : Occurrence). occurrence.chain) (if z then o ∷ filter (λ occurrence. same_name name occurrence.name) os else filter (λ occurrence. same_name name occurrence.name) os)) s

    step : (places D os ≡ [] → chains_of name os ≡ []) → (u b : Bool) → is_untyped D o ≡ u → same_name name o.name ≡ b → chains_of name (o ∷ os) ≡ []
    step others true b n s = absurd (no_place o.at (places D os) (kept true n))
    step others false true n s =
        let same : name ≡ o.name = (bytes_eq-Decides name o.name).0 s in
        absurd (differ (sym (ap is_none (sym (ap (type_of_name D) same) ∙ t)) ∙ n))
    step others false false n s = chains false s ∙ others (kept false n)

-- ---- names of a table

abbrev has : List ℕ → Table → Bool
has name table = list_any (λ (entry : List ℕ × List Kind). same_name name entry.0) table

found : (name : List ℕ) (table : Table) → has name table ≡ true → dimension_in table name ≡ None → ⊥
found name [] h e = differ (sym h)
found name (entry ∷ table) h e = step (found name table) (same_name name entry.0) refl
  where
    step : (has name table ≡ true → dimension_in table name ≡ None → ⊥) → (b : Bool) → same_name name entry.0 ≡ b → ⊥
    step others true s = some_none entry.1 (ap (λ b. if b then Some entry.1 else dimension_in table name) (sym s) ∙ e)
      where
        some_none : (d : List Kind) → Some d ≡ None → ⊥
        some_none d k = cc
    step others false s =
        others (ap (λ b. b || has name table) (sym s) ∙ h) (ap (λ b. if b then Some entry.1 else dimension_in table name) (sym s) ∙ e)

cons_none : (before behind : List (List Kind)) (d : List Kind) → before ++ d ∷ behind ≡ [] → ⊥
cons_none [] behind d e = cc
cons_none (x ∷ before) behind d e = cc

or_right : (b c : Bool) → c ≡ true → (b || c) ≡ true
or_right true c e = refl
or_right false c e = e

module _ (D : Decls) (os : List Occurrence) (typed : places D os ≡ []) where
  named : (name : List ℕ) (dimension : Option (List Kind)) → (dimension ≡ None → ⊥)
      → MatchOption dimension (chains_of name os ≡ []) (IsFirstShortest (chains_of name os)) → Untyped D name → ⊥
  named name None there h t = there refl
  named name (Some d) there h t = cons_none h.before h.behind d (sym h.are ∙ no_chains D name os t typed)

  each_named : (table : Table) → ((name : List ℕ) → has name table ≡ true → Untyped D name → ⊥) → AllByRecursion (λ (entry : List ℕ × List Kind). Untyped D entry.0 → ⊥) table
  each_named [] h = tt
  each_named (entry ∷ table) h = (
    h entry.0 (ap (λ b. b || has entry.0 table) ((bytes_eq-Decides entry.0 entry.0).1 refl)),
    each_named table (λ name k. h name (or_right (same_name name entry.0) (has name table) k)),
  )

pub all_named : (D : Decls) (mentions : List Mention) (table : Table) → untyped D mentions ≡ [] → IsOnlyTable mentions table
    → AreTyped D table
all_named D mentions table typed only =
    each_named D (occurrences_in mentions) typed table
    (λ name k. named D (occurrences_in mentions) typed name (dimension_in table name) (found name table k) (only.is.dimensions name))
