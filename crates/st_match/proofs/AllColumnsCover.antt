-- What an iteration is given covers all that give it its value.
use Rattle.std.proofs.Common.{◌≡◌, ℕ, suc, ◌+◌, ◌<◌, ◌≤◌, pos, refl, sym, ◌∙◌, ap, subst, List, [], ◌∷◌, ◌++◌, map, length, take, get_or, inl, inr, Bool, true, false, ◌&&◌, ◌||◌, if◌then◌else◌, Option, Some, None, bytes_eq}
use Rattle.std.proofs.lemmas.List.{take_more, take_all}
use Rattle.st_num.specs.declared.dim.Kind.{Kind}
use Rattle.st_num.specs.declared.dim.Kind.TheVariants as kind
use Rattle.st_il.specs.declared.definition.SyntaxDef.{SyntaxDef}
use Rattle.st_il.specs.declared.expression.IlExp.{IlExp, out-IlExp}
use Rattle.st_il.specs.declared.expression.IlExp.TheOpen.{IlExp-F, Iteration-F}
use Rattle.st_il.specs.declared.expression.IlExp.TheVariants as exp
use Rattle.st_il.specs.declared.expression.Iteration.{Iteration, out-Iteration}
use Rattle.st_il.specs.declared.expression.ListItem.{ListItem}
use Rattle.st_il.specs.declared.expression.PathSeg.{PathSeg}
use Rattle.st_il.specs.declared.value.Env.{Env}
use Rattle.st_il.specs.declared.value.Value.{Value}
use Rattle.st_il.specs.declared.value.Value.TheVariants as value
use Rattle.st_semantics.specs.declared.outcome.Outcome.TheVariants.{Val}
use Rattle.st_il.specs.Names.{Name, has_name, without}
use Rattle.st_semantics.specs.Environments.{value_in}
use Rattle.st_semantics.specs.Forms.{Iterates, form_at, by_itself}
use Rattle.st_semantics.specs.Iterations.{count_of, count_at, index_of, kind_of, Column, columns, size_of, gathered_as}
use Rattle.st_semantics.specs.Depth.{ValuesAt}
use Rattle.st_semantics.specs.Evaluation.{tasks}
use Rattle.st_semantics.specs.Holding.{value_by, HaveValues}
use Rattle.st_semantics.specs.Matching.{no_answers}
use Rattle.st_semantics.specs.Patterns.{binds}
use Rattle.st_semantics.proofs.Names.{bytes-same, or-cases, or-left, or-right}
use Rattle.st_semantics.proofs.Premises.{without-parts}
use Rattle.st_semantics.proofs.Wider.{among-parts}
use Rattle.st_semantics.proofs.Inverse.{Elements}
use Rattle.st_semantics.proofs.Columns.{spread_parts, parts_number, natural_is, values_at}
use Rattle.st_semantics.proofs.PatternParts.{pattern-form}
use Rattle.st_semantics.proofs.Lengths.{limited_is}
use Rattle.st_semantics.proofs.PatternValues.{quest_count, few_elements}
use Rattle.st_match.specs.inner.Fitting.{Fits, FitAll, FitEach, FitCount, HasValue, column_value, IsElementCount}
use Rattle.st_match.specs.inner.Covering.{joined, bound, all_bound, Stands, Covers, AreCandidates, AreCandidatesOfCount, AreCandidatesOfElements, IsVariable, IsColumn}
use Rattle.st_match.specs.inner.Rows.{RowStands, IsSized, AreRowsOf, row_values, are_there, in_columns, HasColumns, ColumnsCover, AllColumnsCover}
use Rattle.st_match.proofs.Covers.{OneOf-map, OneOf-left, OneOf-right, OneOf-cases, OneOf-fewer}
use Rattle.st_match.proofs.Binds.{iterated, binds-Iter}
use Rattle.st_match.proofs.Fits.{Fits-Iter}
use Rattle.st_match.proofs.AreRows.{row_values-at, row_values-there, column_value-is}

-- ---- one environment after another

pub AllColumnsCover-none : (how : Iteration) (xs : List Name) (rows : List (List Env)) (found : List Env) → AllColumnsCover how xs rows [] found
AllColumnsCover-none how xs rows found = record { covers = λ s b n t o. absurd t }

pub AllColumnsCover-step : (how : Iteration) (xs : List Name) (rows qs : List (List Env)) (es found more after : List Env) (i : ℕ) (env : Env) → i < length es → env ≡ get_or es i env → qs ≡ rows
    → after ≡ found ++ more → AllColumnsCover how xs rows (take i es) found → ColumnsCover how xs qs env more → AllColumnsCover how xs rows (take (i + 1) es) after
AllColumnsCover-step how xs rows qs es found more after i env h is same made c d =
    subst (AllColumnsCover how xs rows (take (i + 1) es)) (sym made)
    (subst (λ z. AllColumnsCover how xs rows z (found ++ more)) (sym (take_more es i env h ∙ ap (λ z. take i es ++ z ∷ []) (sym is)))
    (record {
      covers = λ s b n t o. elim (OneOf-cases (Stands s b) (take i es) (env ∷ []) t) [
        | inl q ↦ OneOf-left (Stands s (joined b n)) found more (c.covers s b n q o)
        | inr q ↦ elim q [
          | inl p ↦ OneOf-right (Stands s (joined b n)) found more ((subst (λ z. ColumnsCover how xs z env more) same d).covers s b n p o)
          | inr p ↦ absurd p
        ]
      ];
    }))

pub AllColumnsCover-end : (how : Iteration) (xs : List Name) (rows : List (List Env)) (es found : List Env) (i : ℕ) → length es ≤ i → AllColumnsCover how xs rows (take i es) found → AllColumnsCover how xs rows es found
AllColumnsCover-end how xs rows es found i h c = subst (λ z. AllColumnsCover how xs rows z found) (take_all i es h) c

-- ---- how many elements there are

module _ (defs : List SyntaxDef) (s : Env) (how : Iteration) (xs : List Name) (body : IlExp) (v : Value) (el : Elements defs no_answers s how xs body v) where
  sized : IsSized (kind_of how) el.envs
  sized = at (kind_of how) refl
    where
      at : (k : Kind) → kind_of how ≡ k → IsSized k el.envs
      at kind.List e = tt
      at kind.Opt e = few_elements (value_by defs no_answers) how xs s el.count el.envs e el.counted el.over

  values_length : (us : List Env) (vs : List Value) → FitEach defs body vs us → length vs ≡ length us
  values_length [] [] h = refl
  values_length [] (w ∷ vs) h = absurd h
  values_length (u ∷ us) [] h = absurd h
  values_length (u ∷ us) (w ∷ vs) h = ap suc (values_length us vs h.1)

  count_is : (y : Iteration-F IlExp Iteration ListItem PathSeg) (count : List Value) (n : ℕ) (cs : Option (List Column)) → HaveValues (value_by defs no_answers) (tasks s (count_at y)) count → size_of count cs ≡ Some n
      → FitAll defs (count_at y) (map (λ (e : IlExp). value.Num (pos n)) (count_at y)) s
  count_is Iteration-F.Star count n cs h e = tt
  count_is Iteration-F.Plus count n cs h e = tt
  count_is Iteration-F.Quest count n cs h e = tt
  count_is (Iteration-F.Times g) [] n cs h e = absurd h
  count_is (Iteration-F.Times g) (c ∷ []) n cs h e = (subst (λ z. Fits defs g z s) (natural_is c n e) h.0, tt)
  count_is (Iteration-F.Times g) (c ∷ d ∷ count) n cs h e = absurd h.1
  count_is (Iteration-F.Below i g) [] n cs h e = absurd h
  count_is (Iteration-F.Below i g) (c ∷ []) n cs h e = (subst (λ z. Fits defs g z s) (natural_is c n e) h.0, tt)
  count_is (Iteration-F.Below i g) (c ∷ d ∷ count) n cs h e = absurd h.1

  -- the count is the number of the elements
  fit_count : FitCount defs how (length el.values) s
  fit_count =
      let p = spread_parts how xs s el.count el.envs el.over in
      let number : p.0 ≡ length el.values = sym (parts_number how xs s el.count el.envs p) ∙ sym (values_length el.envs el.values el.each) in
      subst (λ z. FitCount defs how z s) number (count_is (out-Iteration how) el.count p.0 (columns (kind_of how) xs s.entries) el.counted p.2)

  -- so it is where nothing is known of the number, but that it is that of a list
  fit_number : (n : ℕ) → IsElementCount v n → FitCount defs how n s
  fit_number n long = at (kind_of how) refl
    where
      at : (k : Kind) → kind_of how ≡ k → FitCount defs how n s
      at kind.List e = subst (λ z. FitCount defs how z s) (sym (long el.values (sym (limited_is (value.List el.values) v (subst (λ z. gathered_as z el.values ≡ Val v) e el.makes))))) fit_count
      at kind.Opt e = subst (λ z. FitAll defs z (map (λ (g : IlExp). value.Num (pos n)) z) s) (sym (quest_count how e)) tt

  -- a row that stands for the elements has the columns of the iterated variables
  row_columns : (row : List Env) → RowStands (bound body) el.envs row
      → HasColumns (kind_of how) (index_of how) xs row s × ((x : Name) → has_name (iterated how xs body) x ≡ true → in_columns (index_of how) xs row x ≡ true)
  row_columns row r = (
    record { are = λ x h vs k. has x h vs (has_name (index_of how) x) refl k },
    λ x h.
        let a = among-parts xs (without (index_of how) (binds body)) x h in
        let w = without-parts (index_of how) (binds body) x a.1 in
        both (has_name xs x) (has_name (index_of how) x) (row_values x row) a.0 w.0 (row_values-there x (bound body) el.envs row w.1 r),
  )
    where
      has : (x : Name) → has_name xs x ≡ true → (vs : List Value) (t : Bool) → has_name (index_of how) x ≡ t → (if t then None else row_values x row) ≡ Some vs → HasValue x (column_value (kind_of how) vs) s
      has x h vs true i e = cc
      has x h vs false i e = column_value-is (kind_of how) (value_in s x) vs (values_at how xs s el.count el.envs x vs el.over h i (row_values-at x (bound body) el.envs row vs r e))

      both : (a t : Bool) (o : Option (List Value)) → a ≡ true → t ≡ false → are_there o ≡ true → (a && are_there (if t then None else o)) ≡ true
      both true true o h i k = cc
      both true false o h i k = k
      both false t o h i k = cc

-- ---- the iteration

pub candidates-Iter : (p : IlExp) (how : Iteration) (xs : List Name) (body : IlExp) (v : Value) (n : ℕ) (rows : List (List Env)) (es cs fs : List Env) → out-IlExp p ≡ IlExp-F.Iter how xs body
    → IsElementCount v n → AreCandidatesOfCount how n es cs → AreRowsOf (kind_of how) body v rows → AllColumnsCover how xs rows cs fs → AreCandidates p v es fs
candidates-Iter p how xs body v n rows es cs fs o long counted r all = record {
  cover = λ defs pat. record {
    covers = λ s b f a.
        let el = Fits-Iter defs s p how xs body v o f in
        let pats = pattern-form defs p (Iterates how xs body) (by_itself (ap form_at o)) pat in
        let count = all_bound (count_of how) in
        let new = has_name (iterated how xs body) in
        let start = (counted.cover defs pats.0).covers s b (fit_number defs s how xs body v el n long) a in
        let row = r.cover defs el.envs el.values pats.1 (sized defs s how xs body v el) el.each el.makes in
        OneOf-fewer s (joined (joined b count) new) (joined b (bound p)) fs
        (λ x k. elim (or-cases (b x) (bound p x) k) [
          | inl c ↦ or-left (b x || count x) (new x) (or-left (b x) (count x) c)
          | inr c ↦ elim (or-cases (count x) (new x) (binds-Iter p how xs body o x c)) [
            | inl d ↦ or-left (b x || count x) (new x) (or-right (b x) (count x) d)
            | inr d ↦ or-right (b x || count x) (new x) d
          ]
        ])
        (all.covers s (joined b count) new start (OneOf-map _ _ (row_columns defs s how xs body v el) rows row));
  };
}

-- ---- the iteration of one variable

value-gathered : (k : Kind) (vs : List Value) (v : Value) → gathered_as k vs ≡ Val v → column_value k vs ≡ v
value-gathered kind.List vs v e = limited_is (value.List vs) v e
value-gathered kind.Opt [] v e = limited_is (value.Opt None) v e
value-gathered kind.Opt (w ∷ vs) v e = limited_is (value.Opt (Some w)) v e

values_of_variable : (defs : List SyntaxDef) (body : IlExp) (x : Name) → IsVariable body x → (us : List Env) (vs : List Value) → FitEach defs body vs us → ValuesAt x us vs
values_of_variable defs body x i [] [] f = tt
values_of_variable defs body x i [] (v ∷ vs) f = absurd f
values_of_variable defs body x i (u ∷ us) [] f = absurd f
values_of_variable defs body x i (u ∷ us) (v ∷ vs) f = (i.value defs u v f.0, values_of_variable defs body x i us vs f.1)

column_has : (defs : List SyntaxDef) (s : Env) (how : Iteration) (xs : List Name) (body : IlExp) (v : Value) (x : Name) → IsColumn how xs body x → Elements defs no_answers s how xs body v → HasValue x v s
column_has defs s how xs body v x i el =
    let there : has_name xs x ≡ true = subst (λ z. has_name z x ≡ true) (sym i.names) (or-left (bytes_eq x x) false (bytes-same x)) in
    let at = values_at how xs s el.count el.envs x el.values el.over there i.apart (values_of_variable defs body x i.variable el.envs el.values el.each) in
    column_value-is (kind_of how) (value_in s x) el.values at ∙ ap Some (value-gathered (kind_of how) el.values v el.makes)

pub candidates-column : (how : Iteration) (xs : List Name) (body : IlExp) (v : Value) (x : Name) (cs fs : List Env) → IsColumn how xs body x → Covers (HasValue x v) (has_name (x ∷ [])) cs fs
    → AreCandidatesOfElements how xs body v cs fs
candidates-column how xs body v x cs fs i c = record {
  are = λ es n long counted. record {
    cover = λ defs pat. record {
      covers = λ s b f a.
          let p = exp.Iter how xs body in
          let o = exp.outs-Iter how xs body in
          let el = Fits-Iter defs s p how xs body v o f in
          let pats = pattern-form defs p (Iterates how xs body) (by_itself (ap form_at o)) pat in
          let count = all_bound (count_of how) in
          let one = has_name (x ∷ []) in
          let start = (counted.cover defs pats.0).covers s b (fit_number defs s how xs body v el n long) a in
          OneOf-fewer s (joined (joined b count) one) (joined b (bound p)) fs
          (λ y k. elim (or-cases (b y) (bound p y) k) [
            | inl d ↦ or-left (b y || count y) (one y) (or-left (b y) (count y) d)
            | inr d ↦ elim (or-cases (count y) (has_name (iterated how xs body) y) (binds-Iter p how xs body o y d)) [
              | inl e ↦ or-left (b y || count y) (one y) (or-right (b y) (count y) e)
              | inr e ↦ or-right (b y || count y) (one y) (subst (λ z. has_name z y ≡ true) i.names (among-parts xs (without (index_of how) (binds body)) y e).0)
            ]
          ])
          (c.covers s (joined b count) (column_has defs s how xs body v x i el) start);
    };
  };
}

-- ---- the parts of an iteration as they stand in the pattern

pub candidates-elements : (how : Iteration) (xs : List Name) (body : IlExp) (v : Value) (k : Kind) (rows qs : List (List Env)) (cs fs : List Env) → k ≡ kind_of how → qs ≡ rows
    → AreRowsOf k body v rows → AllColumnsCover how xs qs cs fs → AreCandidatesOfElements how xs body v cs fs
candidates-elements how xs body v k rows qs cs fs kind those r all = record {
  are = λ es n long counted.
      candidates-Iter (exp.Iter how xs body) how xs body v n rows es cs fs (exp.outs-Iter how xs body) long counted (subst (λ z. AreRowsOf z body v rows) kind r)
      (subst (λ z. AllColumnsCover how xs z cs fs) those all);
}

iter_same : (how : Iteration) (xs ys : List Name) (body g : IlExp) → ys ≡ xs → g ≡ body → exp.Iter how ys g ≡ exp.Iter how xs body
iter_same how xs ys body g names same = (λ i. exp.Iter how (names i) (same i))

pub iteration_candidates : (p : IlExp) (how : Iteration) (xs ys : List Name) (body g : IlExp) (v : Value) (n : ℕ) (es cs ds fs : List Env) → p ≡ exp.Iter how xs body → ys ≡ xs → g ≡ body
    → IsElementCount v n → ds ≡ cs → AreCandidatesOfCount how n es cs → AreCandidatesOfElements how ys g v ds fs → AreCandidates p v es fs
iteration_candidates p how xs ys body g v n es cs ds fs is names same long counted c e =
    subst (λ z. AreCandidates z v es fs) (iter_same how xs ys body g names same ∙ sym is) (e.are es n long (subst (AreCandidatesOfCount how n es) (sym counted) c))
