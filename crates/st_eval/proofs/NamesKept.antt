-- Expressions and premises whose iterations name what they go over: what occurs in them is a variable,
-- and an occurrence.
use Rattle.std.proofs.Common.{◌≡◌, refl, sym, ap, ap₂, ◌∙◌, subst, List, [], ◌∷◌, ◌++◌, map, append-nil, Bool, true, false, ◌||◌, ◌&&◌, not, inl, inr, Option, bytes_eq}
use Rattle.std.specs.Prelude.{cond, filter, IsTrue}
use Rattle.std.specs.List.{AllByRecursion, list_all}
use Rattle.std.proofs.lemmas.List.{map-append}
use Rattle.std.proofs.lemmas.List.Folds.{list_any-append}
use Rattle.st_num.specs.Names.{same_name}
use Rattle.st_num.specs.declared.dim.Kind.{Kind}
use Rattle.st_il.specs.Occurrences.{occurs, occurs_in_prem}
use Rattle.st_il.specs.declared.definition.Il.{Il}
use Rattle.st_il.specs.declared.definition.Listed.{Listed}
use Rattle.st_il.specs.declared.definition.SyntaxDef.{SyntaxDef}
use Rattle.st_il.specs.declared.expression.IlExp.{IlExp, out-IlExp}
use Rattle.st_il.specs.declared.expression.IlExp.TheOpen.{IlExp-F}
use Rattle.st_il.specs.declared.expression.IlExp.TheVariants as exp
use Rattle.st_il.specs.declared.expression.IlPrem.{IlPrem, out-IlPrem}
use Rattle.st_il.specs.declared.expression.IlPrem.TheOpen.{IlPrem-F}
use Rattle.st_il.specs.declared.expression.Iteration.{Iteration}
use Rattle.st_il.specs.declared.ty.Ty.{Ty}
use Rattle.st_il.specs.declared.type_rule.TypeRule.{TypeRule}
use Rattle.st_il.specs.declared.type_rule.TypeRule.TheVariants.{T14}
use Rattle.st_il.specs.Names.{Name, has_name, without}
use Rattle.st_il.specs.Definitions.{syntaxes}
use Rattle.st_semantics.specs.Environments.{listed_as}
use Rattle.st_semantics.specs.Formed.{IsFormed}
use Rattle.st_semantics.specs.Forms.{form_at, by_itself, Variable, Iterates}
use Rattle.st_semantics.specs.Iterations.{count_of, index_of, kind_of}
use Rattle.st_semantics.specs.Operands.{operands_at, item_exp, segment_exps}
use Rattle.st_semantics.specs.OperationTypes.{Level}
use Rattle.st_semantics.specs.Scopes.{listed_inside}
use Rattle.st_semantics.specs.Variables.{vars, vars_of, prem_vars, has_otherwise}
use Rattle.st_semantics.proofs.Names.{bytes-path, or-cases, and-both, vars-form, prem-level}
use Rattle.st_ilcheck.specs.Naming.{has_dimension, goes_over, is_once, is_repeated, is_named, names_exactly, names_kept, each_kept}
use Rattle.st_ilcheck.specs.Parts.{Part, parts_at, standing}
use Rattle.st_ilcheck.specs.Premises as premise
use Rattle.st_ilcheck.specs.Premises.{PremBreaks}
use Rattle.st_ilcheck.specs.Typings.{HasTyping, HaveTypings, typing}
use Rattle.st_ilcheck.specs.Typings as typings
use Rattle.st_ilcheck.specs.Variables.{Occurrence, deeper, inside, occurrences, occurrences_in, prem_occurrences, names_of}
use Rattle.st_eval.proofs.BoundParts.{operand_parts}
use Rattle.st_eval.proofs.IsFormedLemmas.{Told-holds, none-left, none-right, IsFormed-typed}
use Rattle.st_eval.proofs.Occurring.{IsPlain, in_some, in_iteration, occurrences-Var, occurrences-plain, occurrences-Iter, occurs-Var, occurs-plain, occurs-Iter, occurs_in_prem-If, occurs_in_prem-Goal, occurs_in_prem-Otherwise, occurs_in_prem-Each, prem_occurrences-If, prem_occurrences-Goal, prem_occurrences-Otherwise, prem_occurrences-Each}

mutual
  -- Where the variables are listed so, each iteration in an expression names exactly what it goes
  -- over. It is told by its parts what the expression's variables and occurrences are.
  pub data KeepsNames : List Listed → IlExp → Type 0 where
    strict : {ls : List Listed} {e : IlExp} (es : List IlExp) → vars e ≡ vars_of es → occurrences e ≡ occurrences_in es
        → ((x : Name) → occurs x e ≡ in_some x es) → AllKeepNames ls es → KeepsNames ls e
    variable : {ls : List Listed} {e : IlExp} (v : Name) → vars e ≡ v ∷ [] → occurrences e ≡ (v, []) ∷ []
        → ((x : Name) → occurs x e ≡ same_name x v) → KeepsNames ls e
    iteration : {ls : List Listed} {e : IlExp} (how : Iteration) (xs : List Name) (body : IlExp)
        → vars e ≡ vars_of (count_of how) ++ xs ++ without (index_of how) (vars body)
        → occurrences e ≡ occurrences_in (count_of how) ++ inside (index_of how) (kind_of how) (occurrences body)
        → ((x : Name) → occurs x e ≡ in_iteration x how (occurs x body))
        → names_exactly how xs ls (λ x. occurs x body) ≡ true
        → AllKeepNames ls (count_of how) → KeepsNames (listed_inside how xs ls) body → KeepsNames ls e

  pub data AllKeepNames : List Listed → List IlExp → Type 0 where
    none : {ls : List Listed} → AllKeepNames ls []
    more : {ls : List Listed} {e : IlExp} {es : List IlExp} → KeepsNames ls e → AllKeepNames ls es → AllKeepNames ls (e ∷ es)

-- So it is in a premise.
pub data PremKeepsNames : List Listed → IlPrem → Type 0 where
  plain : {ls : List Listed} {p : IlPrem} (es : List IlExp)
      → ((how : Iteration) (xs : List Name) (body : IlPrem) → out-IlPrem p ≡ IlPrem-F.Each how xs body → ⊥)
      → prem_vars p ≡ vars_of es → prem_occurrences p ≡ occurrences_in es
      → ((x : Name) → occurs_in_prem x p ≡ in_some x es) → AllKeepNames ls es → PremKeepsNames ls p
  each : {ls : List Listed} {p : IlPrem} (how : Iteration) (xs : List Name) (body : IlPrem) → out-IlPrem p ≡ IlPrem-F.Each how xs body
      → names_exactly how xs ls (λ x. occurs_in_prem x body) ≡ true → AllKeepNames ls (count_of how)
      → PremKeepsNames (listed_inside how xs ls) body → PremKeepsNames ls p

-- ---- lists of names

skipped : (i d h : Bool) → (d ≡ true → i ≡ true) → (not i && h) ≡ (not i && (d || h))
skipped true d h k = refl
skipped false true h k = let bad : false ≡ true = k refl in absurd (cc)
skipped false false h k = refl

kept : (i d h r : Bool) → (d ≡ true → i ≡ false) → r ≡ (not i && h) → (d || r) ≡ (not i && (d || h))
kept true true h r k e = let bad : true ≡ false = k refl in absurd (cc)
kept false true h r k e = refl
kept i false h r k e = e

nothing : (i : Bool) → false ≡ (not i && false)
nothing true = refl
nothing false = refl

one_name : (a : Bool) → a ≡ (a || false)
one_name true = refl
one_name false = refl

absorbed : (a s r : Bool) → (s ≡ true → r ≡ true) → ((a || s) || r) ≡ (a || r)
absorbed true s r k = refl
absorbed false true r k = sym (k refl)
absorbed false false r k = refl

without-is : (some ys : List Name) (x : Name) → has_name (without some ys) x ≡ (not (has_name some x) && has_name ys x)
without-is some [] x = nothing (has_name some x)
without-is some (y ∷ ys) x = by (has_name some y) refl (without-is some ys x)
  where
    by : (b : Bool) → has_name some y ≡ b → has_name (without some ys) x ≡ (not (has_name some x) && has_name ys x)
        → has_name (cond (not b) (y ∷ without some ys) (without some ys)) x ≡ (not (has_name some x) && (bytes_eq x y || has_name ys x))
    by true e ih = ih ∙ skipped (has_name some x) (bytes_eq x y) (has_name ys x) (λ d. ap (has_name some) (bytes-path x y d) ∙ e)
    by false e ih = kept (has_name some x) (bytes_eq x y) (has_name ys x) (has_name (without some ys) x) (λ d. ap (has_name some) (bytes-path x y d) ∙ e) ih

pub names_of-inside : (index : List Name) (kind : Kind) (os : List Occurrence) (x : Name) → has_name (names_of (inside index kind os)) x ≡ (not (has_name index x) && has_name (names_of os) x)
names_of-inside index kind [] x = nothing (has_name index x)
names_of-inside index kind (o ∷ os) x = by (has_name index o.0) refl (names_of-inside index kind os x)
  where
    by : (b : Bool) → has_name index o.0 ≡ b → has_name (names_of (inside index kind os)) x ≡ (not (has_name index x) && has_name (names_of os) x)
        → has_name (names_of (map (deeper kind) (cond (not b) (o ∷ filter (λ (z : Occurrence). not (has_name index z.0)) os) (filter (λ (z : Occurrence). not (has_name index z.0)) os)))) x
        ≡ (not (has_name index x) && (bytes_eq x o.0 || has_name (names_of os) x))
    by true e ih = ih ∙ skipped (has_name index x) (bytes_eq x o.0) (has_name (names_of os) x) (λ d. ap (has_name index) (bytes-path x o.0 d) ∙ e)
    by false e ih = kept (has_name index x) (bytes_eq x o.0) (has_name (names_of os) x) (has_name (names_of (inside index kind os)) x) (λ d. ap (has_name index) (bytes-path x o.0 d) ∙ e) ih

pub names_of-append : (as' bs : List Occurrence) (x : Name) → has_name (names_of (as' ++ bs)) x ≡ (has_name (names_of as') x || has_name (names_of bs) x)
names_of-append as' bs x = ap (λ z. has_name z x) (map-append (λ (o : Occurrence). o.0) as' bs) ∙ list_any-append (bytes_eq x) (names_of as') (names_of bs)

list_all-has : (f : Name → Bool) (xs : List Name) → list_all f xs ≡ true → (x : Name) → has_name xs x ≡ true → f x ≡ true
list_all-has f [] h x i = absurd (cc)
list_all-has f (y ∷ ys) h x i = elim (or-cases (bytes_eq x y) (has_name ys x) i) [
  | inl e ↦ subst (λ z. f z ≡ true) (sym (bytes-path x y e)) (and-both (f y) (list_all f ys) h).0
  | inr e ↦ list_all-has f ys (and-both (f y) (list_all f ys) h).1 x e
]

-- what an iteration names has a dimension left, is not its index, and occurs in its body
pub names_exactly-named : (how : Iteration) (xs : List Name) (ls : List Listed) (test : Name → Bool) → names_exactly how xs ls test ≡ true → (x : Name) → has_name xs x ≡ true
    → (has_dimension (listed_as x ls) ≡ true) × (has_name (index_of how) x ≡ false) × (test x ≡ true)
names_exactly-named how xs ls test exact x i =
    let last = (and-both (is_once xs) (list_all (goes_over how ls test) xs && (list_all (is_named how xs ls test) ls && is_repeated xs (count_of how))) exact).1 in
    parts (has_dimension (listed_as x ls)) (has_name (index_of how) x) (test x)
    (list_all-has (goes_over how ls test) xs (and-both (list_all (goes_over how ls test) xs) (list_all (is_named how xs ls test) ls && is_repeated xs (count_of how)) last).0 x i)
  where
    parts : (a b c : Bool) → (a && (not b && c)) ≡ true → (a ≡ true) × (b ≡ false) × (c ≡ true)
    parts true false true h = (refl, refl, refl)
    parts true false false h = absurd (cc)
    parts true true c h = absurd (cc)
    parts false b c h = absurd (cc)

-- ---- what occurs is an occurrence

mutual
  pub KeepsNames-occurs : {ls : List Listed} {e : IlExp} → KeepsNames ls e → (x : Name) → occurs x e ≡ has_name (names_of (occurrences e)) x
  KeepsNames-occurs (strict es v o n k) x = n x ∙ (AllKeepNames-occurs k x ∙ ap (λ z. has_name (names_of z) x) (sym o))
  KeepsNames-occurs (variable w v o n) x = n x ∙ (one_name (same_name x w) ∙ ap (λ z. has_name (names_of z) x) (sym o))
  KeepsNames-occurs (iteration how xs body v o n exact k b) x =
      n x
      ∙ (ap₂ (λ a c. a || not (has_name (index_of how) x) && c) (AllKeepNames-occurs k x) (KeepsNames-occurs b x)
      ∙ (ap (λ c. has_name (names_of (occurrences_in (count_of how))) x || c) (sym (names_of-inside (index_of how) (kind_of how) (occurrences body) x))
      ∙ (sym (names_of-append (occurrences_in (count_of how)) (inside (index_of how) (kind_of how) (occurrences body)) x) ∙ ap (λ z. has_name (names_of z) x) (sym o))))

  pub AllKeepNames-occurs : {ls : List Listed} {es : List IlExp} → AllKeepNames ls es → (x : Name) → in_some x es ≡ has_name (names_of (occurrences_in es)) x
  AllKeepNames-occurs none x = refl
  AllKeepNames-occurs (more {e = e} {es = es} k ks) x = ap₂ (λ a b. a || b) (KeepsNames-occurs k x) (AllKeepNames-occurs ks x) ∙ sym (names_of-append (occurrences e) (occurrences_in es) x)

pub PremKeepsNames-occurs : {ls : List Listed} {p : IlPrem} → PremKeepsNames ls p → (x : Name) → occurs_in_prem x p ≡ has_name (names_of (prem_occurrences p)) x
PremKeepsNames-occurs (plain es none' v o n k) x = n x ∙ (AllKeepNames-occurs k x ∙ ap (λ z. has_name (names_of z) x) (sym o))
PremKeepsNames-occurs {p = p} (each how xs body is exact k b) x =
    occurs_in_prem-Each x p how xs body is
    ∙ (ap₂ (λ a c. a || not (has_name (index_of how) x) && c) (AllKeepNames-occurs k x) (PremKeepsNames-occurs b x)
    ∙ (ap (λ c. has_name (names_of (occurrences_in (count_of how))) x || c) (sym (names_of-inside (index_of how) (kind_of how) (prem_occurrences body) x))
    ∙ (sym (names_of-append (occurrences_in (count_of how)) (inside (index_of how) (kind_of how) (prem_occurrences body)) x) ∙ ap (λ z. has_name (names_of z) x) (sym (prem_occurrences-Each p how xs body is)))))

-- ---- what occurs is a variable

-- the variables of an iteration
iterated : (how : Iteration) (xs body : List Name) (x : Name) (count occurring : Bool) → has_name (vars_of (count_of how)) x ≡ count → has_name body x ≡ occurring
    → (has_name xs x ≡ true → (has_name (index_of how) x ≡ false) × (occurring ≡ true))
    → has_name (vars_of (count_of how) ++ xs ++ without (index_of how) body) x ≡ (count || not (has_name (index_of how) x) && occurring)
iterated how xs body x count occurring c b named =
    list_any-append (bytes_eq x) (vars_of (count_of how) ++ xs) (without (index_of how) body)
    ∙ (ap₂ (λ p q. p || q) (list_any-append (bytes_eq x) (vars_of (count_of how)) xs ∙ ap (λ z. z || has_name xs x) c) (without-is (index_of how) body x ∙ ap (λ z. not (has_name (index_of how) x) && z) b)
    ∙ absorbed count (has_name xs x) (not (has_name (index_of how) x) && occurring) (λ i. let n = named i in ap₂ (λ p q. not p && q) n.0 n.1))

mutual
  pub KeepsNames-vars : {ls : List Listed} {e : IlExp} → KeepsNames ls e → (x : Name) → has_name (vars e) x ≡ occurs x e
  KeepsNames-vars (strict es v o n k) x = ap (λ z. has_name z x) v ∙ (AllKeepNames-vars k x ∙ sym (n x))
  KeepsNames-vars (variable w v o n) x = ap (λ z. has_name z x) v ∙ (sym (one_name (same_name x w)) ∙ sym (n x))
  KeepsNames-vars {ls = ls} (iteration how xs body v o n exact k b) x =
      ap (λ z. has_name z x) v
      ∙ (iterated how xs (vars body) x (in_some x (count_of how)) (occurs x body) (AllKeepNames-vars k x) (KeepsNames-vars b x)
      (λ i. let g = names_exactly-named how xs ls (λ z. occurs z body) exact x i in (g.1, g.2)) ∙ sym (n x))

  pub AllKeepNames-vars : {ls : List Listed} {es : List IlExp} → AllKeepNames ls es → (x : Name) → has_name (vars_of es) x ≡ in_some x es
  AllKeepNames-vars none x = refl
  AllKeepNames-vars (more {e = e} {es = es} k ks) x = list_any-append (bytes_eq x) (vars e) (vars_of es) ∙ ap₂ (λ a b. a || b) (KeepsNames-vars k x) (AllKeepNames-vars ks x)

pub PremKeepsNames-vars : {ls : List Listed} {p : IlPrem} → PremKeepsNames ls p → (x : Name) → has_name (prem_vars p) x ≡ occurs_in_prem x p
PremKeepsNames-vars (plain es none' v o n k) x = ap (λ z. has_name z x) v ∙ (AllKeepNames-vars k x ∙ sym (n x))
PremKeepsNames-vars {ls = ls} {p = p} (each how xs body is exact k b) x =
    ap (λ z. has_name z x) (prem-level p (IlPrem-F.Each how xs body) is)
    ∙ (iterated how xs (prem_vars body) x (in_some x (count_of how)) (occurs_in_prem x body) (AllKeepNames-vars k x) (PremKeepsNames-vars b x)
    (λ i. let g = names_exactly-named how xs ls (λ z. occurs_in_prem z body) exact x i in (g.1, g.2)) ∙ sym (occurs_in_prem-Each x p how xs body is))

-- ---- what is typed keeps its names

module _ {X : Type 0} (P : X → Type 0) where
  pub Each-split : (xs ys : List X) → AllByRecursion P (xs ++ ys) → AllByRecursion P xs × AllByRecursion P ys
  Each-split [] ys h = (tt, h)
  Each-split (x ∷ xs) ys h = let r = Each-split xs ys h.1 in ((h.0, r.0), r.1)

abbrev PartKeeps : Part → Type 0
PartKeeps p = KeepsNames p.0 p.1

keeps_standing : (ls : List Listed) (es : List IlExp) → AllByRecursion PartKeeps (standing ls es) → AllKeepNames ls es
keeps_standing ls [] h = none
keeps_standing ls (e ∷ es) h = more h.0 (keeps_standing ls es h.1)

plain_vars : (defs : List SyntaxDef) (e : IlExp) (y : Level) → out-IlExp e ≡ y → IsPlain y → IsFormed defs e → vars e ≡ vars_of (operands_at item_exp segment_exps y)
plain_vars defs e y is p f =
    (operand_parts defs e f (λ x q. subst IsPlain (sym is ∙ (ap out-IlExp q ∙ exp.outs-Var x)) p) (λ how xs body q. subst IsPlain (sym is ∙ (ap out-IlExp q ∙ exp.outs-Iter how xs body)) p)).vars_are
    ∙ ap (λ z. vars_of (operands_at item_exp segment_exps z)) is

keeps_level : (defs : List SyntaxDef) (ls : List Listed) (e : IlExp) (y : Level) → out-IlExp e ≡ y → IsFormed defs e → IsTrue (names_kept ls y) → AllByRecursion PartKeeps (parts_at ls y) → KeepsNames ls e
keeps_level defs ls e (IlExp-F.Var x) is f n h = variable x (vars-form defs e (Variable x) (by_itself (ap form_at is))) (occurrences-Var e x is) (λ z. occurs-Var z e x is)
keeps_level defs ls e (IlExp-F.Iter how xs body) is f n h =
    let parts = Each-split PartKeeps (standing ls (count_of how)) ((listed_inside how xs ls, body) ∷ []) h in
    iteration how xs body (vars-form defs e (Iterates how xs body) (by_itself (ap form_at is))) (occurrences-Iter e how xs body is) (λ z. occurs-Iter z e how xs body is) n
    (keeps_standing ls (count_of how) parts.0) parts.1.0
keeps_level defs ls e y is f n h =
    strict (operands_at item_exp segment_exps y) (plain_vars defs e y is tt f) (occurrences-plain e y is tt) (λ z. occurs-plain z e y is tt) (keeps_standing ls (operands_at item_exp segment_exps y) h)

module _ (il : Il) where
  mutual
    pub KeepsNames-typed : {ls : List Listed} {e : IlExp} {o : Option Ty} {bs : List TypeRule} → HasTyping il ls e o bs → bs ≡ [] → KeepsNames ls e
    KeepsNames-typed {ls = ls} {e = e} (typing os inside' here hs from broken whole) clean =
        let later = none-right broken.by_form (broken.by_path ++ broken.by_names) here broken.whole (none-right inside' here _ whole clean) in
        keeps_level (syntaxes il) ls e (out-IlExp e) refl (IsFormed-typed il (typing os inside' here hs from broken whole) clean)
        (Told-holds T14 (IsTrue (names_kept ls (out-IlExp e))) broken.by_names broken.names (none-right broken.by_path broken.by_names _ refl later)) (parts_keep hs (none-left inside' here _ whole clean))

    parts_keep : {ps : List Part} {os : List (Option Ty)} {bs : List TypeRule} → HaveTypings il ps os bs → bs ≡ [] → AllByRecursion PartKeeps ps
    parts_keep typings.none clean = tt
    parts_keep (typings.more first rest t h whole) clean = (KeepsNames-typed t (none-left first rest _ whole clean), parts_keep h (none-right first rest _ whole clean))

  -- expressions that stand in one scope
  pub AllKeepNames-typed : (ls : List Listed) (es : List IlExp) {os : List (Option Ty)} {bs : List TypeRule} → HaveTypings il (standing ls es) os bs → bs ≡ [] → AllKeepNames ls es
  AllKeepNames-typed ls es h clean = keeps_standing ls es (parts_keep h clean)

  pub PremKeepsNames-typed : {ls : List Listed} {p : IlPrem} {bs : List TypeRule} → PremBreaks il ls p bs → bs ≡ [] → PremKeepsNames ls p
  PremKeepsNames-typed {p = p} (premise.PremBreaks.condition e o inside' here is h t whole) clean =
      plain (e ∷ []) (λ how xs body q. cc) (prem-level p (IlPrem-F.If e) is ∙ sym (append-nil (vars e))) (prem_occurrences-If p e is) (λ x. occurs_in_prem-If x p e is)
      (more (KeepsNames-typed h (none-left inside' here _ whole clean)) none)
  PremKeepsNames-typed {ls = ls} {p = p} (premise.PremBreaks.goal relation es os inside' here is h t whole) clean =
      plain es (λ how xs body q. cc) (prem-level p (IlPrem-F.Goal relation es) is) (prem_occurrences-Goal p relation es is) (λ x. occurs_in_prem-Goal x p relation es is)
      (AllKeepNames-typed ls es h (none-left inside' here _ whole clean))
  PremKeepsNames-typed {p = p} (premise.PremBreaks.otherwise is whole) clean =
      plain [] (λ how xs body q. cc) (prem-level p IlPrem-F.Otherwise is) (prem_occurrences-Otherwise p is) (λ x. occurs_in_prem-Otherwise x p is) none
  PremKeepsNames-typed {ls = ls} (premise.PremBreaks.each how xs body os counted here named inside' is hs t n h whole) clean =
      let rest = none-right counted (here ++ (named ++ inside')) _ whole clean in
      let last = none-right here (named ++ inside') _ refl rest in
      each how xs body is (and-both (names_exactly how xs ls (λ x. occurs_in_prem x body)) (not (has_otherwise body)) (Told-holds T14 (IsTrue (each_kept how xs ls body)) named n (none-left named inside' _ refl last))).0
      (AllKeepNames-typed ls (count_of how) hs (none-left counted (here ++ (named ++ inside')) _ whole clean))
      (PremKeepsNames-typed h (none-right named inside' _ refl last))
