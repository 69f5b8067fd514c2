-- What stands under names once one more definition is read.
use Rattle.std.proofs.Common.{◌≡◌, refl, sym, ◌∙◌, ap, ap₂, subst, Bool, true, false, if◌then◌else◌, List, [], ◌∷◌, ◌++◌, append_assoc, append-nil, map, bytes_eq, is_some, ◌⊎◌, inl, inr}
use Rattle.std.proofs.lemmas.List.{map-append}
use Rattle.st_il.specs.declared.definition.ClauseDef.{ClauseDef}
use Rattle.st_il.specs.declared.definition.FunDef.{FunDef}
use Rattle.st_il.specs.declared.definition.IlDef.{IlDef}
use Rattle.st_il.specs.declared.definition.IlDef.TheVariants.{Syntax, Var, Relation, Rule, Fun, Clause}
use Rattle.st_il.specs.declared.definition.RelationDef.{RelationDef}
use Rattle.st_il.specs.declared.definition.RuleDef.{RuleDef}
use Rattle.st_il.specs.declared.definition.SyntaxDef.{SyntaxDef}
use Rattle.st_il.specs.declared.ty.Ty.{Ty}
use Rattle.st_il.specs.Names.{Name, flattened}
use Rattle.st_il.specs.Definitions.{rules_in, rules_from, clauses_in, clauses_from, funs_in}
use Rattle.st_modes.specs.declared.citations.Citations.{Citations}
use Rattle.st_order.specs.Known.{all_now, at}
use Rattle.st_modes.specs.inner.Citing.{functions_in_rule, functions_in_clause}
use Rattle.st_modes.specs.inner.Reaching.{cited_under}
use Rattle.st_modes.specs.inner.Citations.{rules_under, relations_in_rule, is_any, called_by_relation, cited_by_relation, called_by_function, HasRead}
use Rattle.st_order.proofs.RuleParts.{rules_head}
use Rattle.st_order.proofs.VariableParts.{flattened_append}

-- ---- lists of definitions, with one more

module _ {B : Type 0} (f : List IlDef → List B) (none : f [] ≡ []) (head : (d : IlDef) (ds : List IlDef) → f (d ∷ ds) ≡ f (d ∷ []) ++ f ds) where
  pub last : (ds : List IlDef) (d : IlDef) → f (ds ++ d ∷ []) ≡ f ds ++ f (d ∷ [])
  last [] d = sym (ap (λ z. z ++ f (d ∷ [])) none)
  last (e ∷ ds) d =
      head e (ds ++ d ∷ []) ∙ ap (λ z. f (e ∷ []) ++ z) (last ds d) ∙ sym (append_assoc (f (e ∷ [])) (f ds) (f (d ∷ []))) ∙ ap (λ z. z ++ f (d ∷ [])) (sym (head e ds))

  -- one that says something of it
  says : (ds : List IlDef) (d : IlDef) (old new more : List B) → old ≡ f ds → new ≡ old ++ more → more ≡ f (d ∷ []) → new ≡ f (ds ++ d ∷ [])
  says ds d old new more o n m = n ∙ ap₂ (λ a b. a ++ b) o m ∙ sym (last ds d)

  -- one that says nothing of it
  pub says_nothing : (ds : List IlDef) (d : IlDef) (old : List B) → old ≡ f ds → [] ≡ f (d ∷ []) → old ≡ f (ds ++ d ∷ [])
  says_nothing ds d old o m = says ds d old old [] o (sym (append-nil old)) m

clauses_head : (name : Name) (d : IlDef) (ds : List IlDef) → clauses_from name (clauses_in (d ∷ ds)) ≡ clauses_from name (clauses_in (d ∷ [])) ++ clauses_from name (clauses_in ds)
clauses_head name (Syntax s) ds = refl
clauses_head name (Var x t) ds = refl
clauses_head name (Relation r) ds = refl
clauses_head name (Rule r) ds = refl
clauses_head name (Fun f) ds = refl
clauses_head name (Clause c) ds = at_clause (bytes_eq name c.fun)
  where
    at_clause : (b : Bool) → (if b then c ∷ clauses_from name (clauses_in ds) else clauses_from name (clauses_in ds)) ≡ (if b then c ∷ [] else []) ++ clauses_from name (clauses_in ds)
    at_clause true = refl
    at_clause false = refl

funs_head : (d : IlDef) (ds : List IlDef) → funs_in (d ∷ ds) ≡ funs_in (d ∷ []) ++ funs_in ds
funs_head (Syntax s) ds = refl
funs_head (Var x t) ds = refl
funs_head (Relation r) ds = refl
funs_head (Rule r) ds = refl
funs_head (Fun f) ds = refl
funs_head (Clause c) ds = refl

-- what is told of each of several, one list behind the other
told_append : {A : Type 0} (f : A → List Name) (all xs ys : List A) → all ≡ xs ++ ys → flattened (map f all) ≡ flattened (map f xs) ++ flattened (map f ys)
told_append f all xs ys e = ap (λ z. flattened (map f z)) e ∙ ap flattened (map-append f xs ys) ∙ flattened_append (map f xs) (map f ys)

module _ (q : Name) where
  abbrev rules_at : List IlDef → List RuleDef
  rules_at ds = rules_from q (rules_in ds)

  abbrev clauses_at : List IlDef → List ClauseDef
  clauses_at ds = clauses_from q (clauses_in ds)

  called_head : (d : IlDef) (ds : List IlDef) → called_by_relation q (d ∷ ds) ≡ called_by_relation q (d ∷ []) ++ called_by_relation q ds
  called_head d ds = told_append functions_in_rule (rules_at (d ∷ ds)) (rules_at (d ∷ [])) (rules_at ds) (rules_head q d ds)

  pub cited_head : (d : IlDef) (ds : List IlDef) → cited_by_relation q (d ∷ ds) ≡ cited_by_relation q (d ∷ []) ++ cited_by_relation q ds
  cited_head d ds = told_append relations_in_rule (rules_at (d ∷ ds)) (rules_at (d ∷ [])) (rules_at ds) (rules_head q d ds)

  pub calls_head : (d : IlDef) (ds : List IlDef) → called_by_function q (d ∷ ds) ≡ called_by_function q (d ∷ []) ++ called_by_function q ds
  calls_head d ds = told_append functions_in_clause (clauses_at (d ∷ ds)) (clauses_at (d ∷ [])) (clauses_at ds) (clauses_head q d ds)

-- what one rule or one clause says
pub one_told : {A : Type 0} (f : A → List Name) (b : Bool) (x : A) → (if b then f x else []) ≡ flattened (map f (if b then x ∷ [] else []))
one_told f true x = sym (append-nil (f x))
one_told f false x = refl

any_last : {A : Type 0} (b : Bool) (xs : List A) (x : A) → is_any (xs ++ (if b then x ∷ [] else [])) ≡ (if b then true else is_any xs)
any_last true [] x = refl
any_last true (y ∷ ys) x = refl
any_last false xs x = ap is_any (append-nil xs)

-- whether a function has a clause, where the definition is none
defined_still : (q : Name) (ds : List IlDef) (d : IlDef) → [] ≡ clauses_at q (d ∷ []) → is_any (clauses_at q ds) ≡ is_any (clauses_at q (ds ++ d ∷ []))
defined_still q ds d none = ap is_any (says_nothing (clauses_at q) refl (clauses_head q) ds d (clauses_at q ds) refl none)

-- ---- one more definition is read

pub reads_rule : (ds : List IlDef) (r : RuleDef) (old new : Citations) → HasRead ds old
    → ((q : Name) → rules_under new.rules.entries q ≡ rules_under old.rules.entries q ++ (if bytes_eq q r.relation then r ∷ [] else []))
    → ((q : Name) → cited_under new.called.entries q ≡ cited_under old.called.entries q ++ (if bytes_eq q r.relation then functions_in_rule r else []))
    → ((q : Name) → cited_under new.cited.entries q ≡ cited_under old.cited.entries q ++ (if bytes_eq q r.relation then relations_in_rule r else []))
    → new.calls ≡ old.calls → new.funs ≡ old.funs → HasRead (ds ++ Rule r ∷ []) new
reads_rule ds r old new h rules called cited calls funs = record {
  rules = λ q. says (rules_at q) refl (rules_head q) ds (Rule r) (rules_under old.rules.entries q) (rules_under new.rules.entries q) (if bytes_eq q r.relation then r ∷ [] else []) (h.rules q) (rules q) refl;
  called = λ q.
      says (called_by_relation q) refl (called_head q) ds (Rule r) (cited_under old.called.entries q) (cited_under new.called.entries q)
      (if bytes_eq q r.relation then functions_in_rule r else []) (h.called q) (called q) (one_told functions_in_rule (bytes_eq q r.relation) r);
  cited = λ q.
      says (cited_by_relation q) refl (cited_head q) ds (Rule r) (cited_under old.cited.entries q) (cited_under new.cited.entries q)
      (if bytes_eq q r.relation then relations_in_rule r else []) (h.cited q) (cited q) (one_told relations_in_rule (bytes_eq q r.relation) r);
  calls = λ q.
      ap (λ (m : _). cited_under m.entries q) calls ∙ says_nothing (called_by_function q) refl (calls_head q) ds (Rule r) (cited_under old.calls.entries q) (h.calls q) refl;
  defined = λ q. ap (λ (m : _). is_some (at m.entries q)) calls ∙ h.defined q ∙ defined_still q ds (Rule r) refl;
  funs = ap all_now funs ∙ says_nothing funs_in refl funs_head ds (Rule r) (all_now old.funs) h.funs refl;
}

pub reads_clause : (ds : List IlDef) (d : IlDef) (c : ClauseDef) (old new : Citations) → d ≡ Clause c → HasRead ds old
    → ((q : Name) → cited_under new.calls.entries q ≡ cited_under old.calls.entries q ++ (if bytes_eq q c.fun then functions_in_clause c else []))
    → ((q : Name) → is_some (at new.calls.entries q) ≡ (if bytes_eq q c.fun then true else is_some (at old.calls.entries q)))
    → new.rules ≡ old.rules → new.called ≡ old.called → new.cited ≡ old.cited → new.funs ≡ old.funs → HasRead (ds ++ d ∷ []) new
reads_clause ds d c old new is h calls there rules called cited funs = subst (λ z. HasRead (ds ++ z ∷ []) new) (sym is) (record {
  rules = λ q. ap (λ (m : _). rules_under m.entries q) rules ∙ says_nothing (rules_at q) refl (rules_head q) ds (Clause c) (rules_under old.rules.entries q) (h.rules q) refl;
  called = λ q. ap (λ (m : _). cited_under m.entries q) called ∙ says_nothing (called_by_relation q) refl (called_head q) ds (Clause c) (cited_under old.called.entries q) (h.called q) refl;
  cited = λ q. ap (λ (m : _). cited_under m.entries q) cited ∙ says_nothing (cited_by_relation q) refl (cited_head q) ds (Clause c) (cited_under old.cited.entries q) (h.cited q) refl;
  calls = λ q.
      says (called_by_function q) refl (calls_head q) ds (Clause c) (cited_under old.calls.entries q) (cited_under new.calls.entries q)
      (if bytes_eq q c.fun then functions_in_clause c else []) (h.calls q) (calls q) (one_told functions_in_clause (bytes_eq q c.fun) c);
  defined = λ q.
      there q ∙ ap (λ z. if bytes_eq q c.fun then true else z) (h.defined q) ∙ sym (any_last (bytes_eq q c.fun) (clauses_at q ds) c)
      ∙ ap is_any (sym (last (clauses_at q) refl (clauses_head q) ds (Clause c)));
  funs = ap all_now funs ∙ says_nothing funs_in refl funs_head ds (Clause c) (all_now old.funs) h.funs refl;
})

-- a definition that is neither a rule nor a clause
reads_other : (ds : List IlDef) (d : IlDef) (old new : Citations) → HasRead ds old → rules_in (d ∷ []) ≡ [] → clauses_in (d ∷ []) ≡ []
    → all_now new.funs ≡ all_now old.funs ++ funs_in (d ∷ []) → new.rules ≡ old.rules → new.called ≡ old.called → new.cited ≡ old.cited → new.calls ≡ old.calls → HasRead (ds ++ d ∷ []) new
reads_other ds d old new h no_rule no_clause funs rules called cited calls = record {
  rules = λ q. ap (λ (m : _). rules_under m.entries q) rules ∙ says_nothing (rules_at q) refl (rules_head q) ds d (rules_under old.rules.entries q) (h.rules q) (ap (rules_from q) (sym no_rule));
  called = λ q.
      ap (λ (m : _). cited_under m.entries q) called
      ∙ says_nothing (called_by_relation q) refl (called_head q) ds d (cited_under old.called.entries q) (h.called q) (ap (λ z. flattened (map functions_in_rule (rules_from q z))) (sym no_rule));
  cited = λ q.
      ap (λ (m : _). cited_under m.entries q) cited
      ∙ says_nothing (cited_by_relation q) refl (cited_head q) ds d (cited_under old.cited.entries q) (h.cited q) (ap (λ z. flattened (map relations_in_rule (rules_from q z))) (sym no_rule));
  calls = λ q.
      ap (λ (m : _). cited_under m.entries q) calls
      ∙ says_nothing (called_by_function q) refl (calls_head q) ds d (cited_under old.calls.entries q) (h.calls q) (ap (λ z. flattened (map functions_in_clause (clauses_from q z))) (sym no_clause));
  defined = λ q. ap (λ (m : _). is_some (at m.entries q)) calls ∙ h.defined q ∙ defined_still q ds d (ap (clauses_from q) (sym no_clause));
  funs = says funs_in refl funs_head ds d (all_now old.funs) (all_now new.funs) (funs_in (d ∷ [])) h.funs funs refl;
}

pub reads_fun : (ds : List IlDef) (d : IlDef) (f : FunDef) (old new : Citations) → d ≡ Fun f → HasRead ds old → all_now new.funs ≡ all_now old.funs ++ f ∷ []
    → new.rules ≡ old.rules → new.called ≡ old.called → new.cited ≡ old.cited → new.calls ≡ old.calls → HasRead (ds ++ d ∷ []) new
reads_fun ds d f old new is h funs rules called cited calls =
    subst (λ z. HasRead (ds ++ z ∷ []) new) (sym is) (reads_other ds (Fun f) old new h refl refl funs rules called cited calls)

reads_nothing : (ds : List IlDef) (d e : IlDef) (old : Citations) → d ≡ e → rules_in (e ∷ []) ≡ [] → clauses_in (e ∷ []) ≡ [] → funs_in (e ∷ []) ≡ [] → HasRead ds old → HasRead (ds ++ d ∷ []) old
reads_nothing ds d e old is no_rule no_clause no_fun h =
    subst (λ z. HasRead (ds ++ z ∷ []) old) (sym is)
    (reads_other ds e old old h no_rule no_clause (sym (append-nil (all_now old.funs)) ∙ ap (λ z. all_now old.funs ++ z) (sym no_fun)) refl refl refl refl)

-- a definition that says nothing of rules, clauses and functions
pub reads_silent : (ds : List IlDef) (d : IlDef) (old : Citations)
    → ((s : SyntaxDef) × (d ≡ Syntax s)) ⊎ ((x : Name) × (t : Ty) × (d ≡ Var x t)) ⊎ ((r : RelationDef) × (d ≡ Relation r)) → HasRead ds old → HasRead (ds ++ d ∷ []) old
reads_silent ds d old (inl is) h = reads_nothing ds d (Syntax is.0) old is.1 refl refl refl h
reads_silent ds d old (inr (inl is)) h = reads_nothing ds d (Var is.0 is.1) old is.2 refl refl refl h
reads_silent ds d old (inr (inr is)) h = reads_nothing ds d (Relation is.0) old is.1 refl refl refl h
