-- Of which definitions the relation or function is known once one more is.
use Rattle.std.proofs.Common.{◌≡◌, ◌⊎◌, inl, inr, refl, sym, ap, ◌∙◌, subst, ℕ, ◌+◌, ◌<◌, ◌≤◌, Bool, true, false, ◌||◌, List, [], ◌∷◌, ◌++◌, length, get_or, take, bytes_eq}
use Rattle.std.specs.Prelude.{Contains}
use Rattle.std.proofs.lemmas.List.{take_all}
use Rattle.std.proofs.lemmas.List.Elements.{Contains-push_cases}
use Rattle.std.proofs.lemmas.Slice.Eq.{bytes_eq-Decides}
use Rattle.st_graph.proofs.Positions.{take-more}
use Rattle.st_il.specs.declared.definition.ClauseDef.{ClauseDef}
use Rattle.st_il.specs.declared.definition.IlDef.{IlDef}
use Rattle.st_il.specs.declared.definition.IlDef.TheVariants as def
use Rattle.st_il.specs.declared.definition.RuleDef.{RuleDef}
use Rattle.st_il.specs.Names.{Name, has_name}
use Rattle.st_modes.specs.declared.citers.Citers.{Citers}
use Rattle.st_order.specs.inner.Index.{names_in, SameNames}
use Rattle.st_modes.specs.inner.Circles.{knows, KnowsAll}
use Rattle.st_order.proofs.NamesIn.{has_name_append}

module _ (old new : List Name) (x : Name) (s : SameNames new (old ++ x ∷ [])) where
  parts : (q : Name) → has_name new q ≡ (has_name old q || (bytes_eq q x || false))
  parts q = s q ∙ has_name_append old (x ∷ []) q

  pub has_more : (q : Name) → has_name old q ≡ true → has_name new q ≡ true
  has_more q h = parts q ∙ ap (λ b. b || (bytes_eq q x || false)) h

  pub has_new : has_name new x ≡ true
  has_new = parts x ∙ by (has_name old x) (bytes_eq x x) ((bytes_eq-Decides x x).1 refl)
    where
      by : (a b : Bool) → b ≡ true → (a || (b || false)) ≡ true
      by true b h = refl
      by false true h = refl
      by false false h = h

module _ (c : Citers) (d : IlDef) where
  pub knows_rule : (r : RuleDef) → d ≡ def.Rule r → has_name (names_in c.relations.keys) r.relation ≡ true → knows c d ≡ true
  knows_rule r is h = ap (knows c) is ∙ h

  pub knows_clause : (k : ClauseDef) → d ≡ def.Clause k → has_name (names_in c.functions.keys) k.fun ≡ true → knows c d ≡ true
  knows_clause k is h = ap (knows c) is ∙ h

-- what was known is known
pub knows_kept : (old new : Citers) → ((q : Name) → has_name (names_in old.relations.keys) q ≡ true → has_name (names_in new.relations.keys) q ≡ true)
    → ((q : Name) → has_name (names_in old.functions.keys) q ≡ true → has_name (names_in new.functions.keys) q ≡ true) → (d : IlDef) → knows old d ≡ true → knows new d ≡ true
knows_kept old new r f (def.Rule rule) h = r rule.relation h
knows_kept old new r f (def.Clause k) h = f k.fun h
knows_kept old new r f (def.Syntax s) h = refl
knows_kept old new r f (def.Var x t) h = refl
knows_kept old new r f (def.Relation s) h = refl
knows_kept old new r f (def.Fun s) h = refl

-- ---- one definition after another

pub knows_more : (old new : Citers) (defs : List IlDef) (i : ℕ) (x : IlDef) → i < length defs → x ≡ get_or defs i x → KnowsAll old (take i defs) → knows new x ≡ true
    → ((d : IlDef) → knows old d ≡ true → knows new d ≡ true) → KnowsAll new (take (i + 1) defs)
knows_more old new defs i x h is all one kept d c = by (Contains-push_cases (take i defs) x d (subst (λ z. Contains z d) front c))
  where
    front : take (i + 1) defs ≡ take i defs ++ x ∷ []
    front = take-more defs i x h ∙ ap (λ z. take i defs ++ z ∷ []) (sym is)

    by : Contains (take i defs) d ⊎ (x ≡ d) → knows new d ≡ true
    by (inl there) = kept d (all d there)
    by (inr same) = ap (knows new) (sym same) ∙ one

pub knows_end : (c : Citers) (defs : List IlDef) (i : ℕ) → length defs ≤ i → KnowsAll c (take i defs) → KnowsAll c defs
knows_end c defs i beyond all = subst (KnowsAll c) (take_all i defs beyond) all
