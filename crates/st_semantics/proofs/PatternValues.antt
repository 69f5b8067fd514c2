-- One value of a pattern tells the values of the variables that it binds.
use Rattle.std.proofs.Common.{◌≡◌, ℕ, suc, ◌≤◌, pos, refl, sym, ◌∙◌, ap, ap₂, subst, List, [], ◌∷◌, ◌++◌, map, length, inl, inr, true, false, Option, Some, None, arith, append-nil, bytes_eq}
use Rattle.std.specs.List.{list_all}
use Rattle.st_num.specs.declared.dim.Kind.{Kind}
use Rattle.st_num.specs.declared.dim.Kind.TheVariants as kind
use Rattle.st_il.specs.declared.definition.SyntaxDef.{SyntaxDef}
use Rattle.st_il.specs.declared.expression.IlExp.{IlExp, out-IlExp}
use Rattle.st_il.specs.declared.expression.IlExp.TheOpen.{IlExp-F, Iteration-F}
use Rattle.st_il.specs.declared.expression.Iteration.{Iteration, out-Iteration}
use Rattle.st_il.specs.declared.expression.ListItem.{ListItem}
use Rattle.st_il.specs.declared.expression.PathSeg.{PathSeg}
use Rattle.st_il.specs.declared.value.Env.{Env}
use Rattle.st_il.specs.declared.value.Value.{Value, out-Value}
use Rattle.st_il.specs.declared.value.Value.TheOpen.{Value-F}
use Rattle.st_il.specs.declared.value.Value.TheVariants as value
use Rattle.st_semantics.specs.declared.outcome.Outcome.{Outcome}
use Rattle.st_semantics.specs.declared.outcome.Outcome.TheVariants.{Val}
use Rattle.st_semantics.specs.declared.outcome.Outcomes.{Outcomes}
use Rattle.st_semantics.specs.declared.outcome.Outcomes.TheVariants.{Values, Stopped}
use Rattle.st_il.specs.Names.{Name, has_name, flattened, among, without}
use Rattle.st_semantics.specs.Environments.{Entry, lookup, value_in, AgreeOn}
use Rattle.st_semantics.specs.Parts.{constant, elements_at, elements, option_at, natural}
use Rattle.st_semantics.specs.Forms.{Strict, Variable, Calls, Iterates, form_at, HasForm, by_itself}
use Rattle.st_semantics.specs.Iterations.{count_of, count_at, index_of, kind_of, kind_at, Column, column_of, columns, first_length, size_of, Over, spread, gathered, gathered_as}
use Rattle.st_semantics.specs.Evaluation.{Answers, Task, tasks, each_task, then_all, Ends, Gives, GivesAll, strict, variable, call, iteration_ends, iteration, none, stop, next}
use Rattle.st_semantics.specs.Patterns.{is_pattern, binds}
use Rattle.st_semantics.specs.OpenParts.{is_doubly_open}
use Rattle.st_semantics.specs.Holding.{value_by, HaveValues}
use Rattle.st_semantics.proofs.Names.{and-both, or-cases, bytes-path, within-cases}
use Rattle.st_semantics.proofs.Agree.{EnvsAgree}
use Rattle.st_semantics.proofs.Elements.{before_parts}
use Rattle.st_semantics.proofs.PatternParts.{pattern-form, TasksArePatterns, tasks_patterns}
use Rattle.st_semantics.proofs.Premises.{without-parts}
use Rattle.st_semantics.proofs.Wider.{among-parts}
use Rattle.st_semantics.proofs.Inverse.{values_of_all, operands, variable_value, Elements, elements_of, elements_in, not_ended}
use Rattle.st_semantics.proofs.Columns.{spread_parts, parts_number, list_agrees, counts_same, elements-list}
use Rattle.st_semantics.proofs.Lengths.{lengths, SameLength, LengthsAgree, limited_is, IsLiteral}
use Rattle.st_semantics.proofs.CanRun.{IsShort, count_short}
use Rattle.st_semantics.proofs.PatternForms.{bound, own_of, own_variable, AllSingly, Known, KnownEach, form_known, form_fixed}

-- ---- tasks

abbrev exps : List Task → List IlExp
exps [] = []
exps (t ∷ ts) = t.1 ∷ exps ts

exps-tasks : (env : Env) (es : List IlExp) → exps (tasks env es) ≡ es
exps-tasks env [] = refl
exps-tasks env (e ∷ es) = ap (λ z. e ∷ z) (exps-tasks env es)

-- patterns, in two environments
abbrev Patterns : List Task → List Task → Type 0
Patterns [] [] = Unit {0}
Patterns (t ∷ ts) (u ∷ us) = (t.1 ≡ u.1) × (is_pattern t.1 ≡ true) × (is_doubly_open t.1 ≡ false) × Patterns ts us
Patterns _ _ = ⊥

-- what each binds has the same value
abbrev AllAgree : List Task → List Task → Type 0
AllAgree [] [] = Unit {0}
AllAgree (t ∷ ts) (u ∷ us) = AgreeOn (binds t.1) t.0 u.0 × AllAgree ts us
AllAgree _ _ = ⊥

tasks_both : (a b : Env) (es : List IlExp) → list_all is_pattern es ≡ true → AllSingly es → Patterns (tasks a es) (tasks b es)
tasks_both a b [] h s = tt
tasks_both a b (e ∷ es) h s = let p = and-both (is_pattern e) (list_all is_pattern es) h in (refl, p.0, s.0, tasks_both a b es p.1 s.1)

each_both : (as' bs : List Env) (e : IlExp) → length as' ≡ length bs → is_pattern e ≡ true → is_doubly_open e ≡ false → Patterns (each_task as' e) (each_task bs e)
each_both [] [] e n h s = tt
each_both [] (b ∷ bs) e n h s = absurd (omega (arith, n))
each_both (a ∷ as') [] e n h s = absurd (omega (arith, n))
each_both (a ∷ as') (b ∷ bs) e n h s = (refl, h, s, each_both as' bs e (omega (arith, n)) h s)

tasks_agreed : (a b : Env) (es : List IlExp) → AllAgree (tasks a es) (tasks b es) → AgreeOn (flattened (map binds es)) a b
tasks_agreed a b [] g x h = cc
tasks_agreed a b (e ∷ es) g x h = elim (within-cases (binds e) (flattened (map binds es)) x h) [ inl i ↦ g.0 x i | inr i ↦ tasks_agreed a b es g.1 x i ]

each_agreed : (as' bs : List Env) (e : IlExp) → AllAgree (each_task as' e) (each_task bs e) → EnvsAgree (binds e) as' bs
each_agreed [] [] e g = tt
each_agreed [] (b ∷ bs) e g = absurd g
each_agreed (a ∷ as') [] e g = absurd g
each_agreed (a ∷ as') (b ∷ bs) e g = (g.0, each_agreed as' bs e g.1)

-- ---- the elements of an iteration

pub quest_count : (how : Iteration) → kind_of how ≡ kind.Opt → count_of how ≡ []
quest_count how e = at (out-Iteration how) e
  where
    at : (y : Iteration-F IlExp Iteration ListItem PathSeg) → kind_at y ≡ kind.Opt → count_at y ≡ []
    at Iteration-F.Star e = cc
    at Iteration-F.Plus e = cc
    at Iteration-F.Quest e = refl
    at (Iteration-F.Times c) e = cc
    at (Iteration-F.Below i c) e = cc

option_few : (y : Value-F Value) (c : Column) → option_at y ≡ Some c → length c ≤ 1
option_few (Value-F.Opt None) [] e = omega arith
option_few (Value-F.Opt None) (v ∷ vs) e = cc
option_few (Value-F.Opt (Some x)) [] e = omega arith
option_few (Value-F.Opt (Some x)) (v ∷ []) e = omega arith
option_few (Value-F.Opt (Some x)) (v ∷ w ∷ vs) e = cc
option_few _ c e = cc

column_few : (o : Option Value) (c : Column) → column_of kind.Opt o ≡ Some c → length c ≤ 1
column_few None c e = cc
column_few (Some v) c e = option_few (out-Value v) c e

first_few : (xs : List Name) (env : List Entry) (n : ℕ) (o : Option (List Column)) → columns kind.Opt xs env ≡ o → first_length o ≡ Some n → n ≤ 1
first_few xs env n None k e = cc
first_few xs env n (Some []) k e = cc
first_few [] env n (Some (c ∷ cs)) k e = cc
first_few (x ∷ xs) env n (Some (c ∷ cs)) k e =
    let w = before_parts (column_of kind.Opt (lookup x env)) (columns kind.Opt xs env) (c ∷ cs) k in
    let first : w.0 ≡ c = cc in
    let long : length c ≡ n = cc in
    let few = column_few (lookup x env) w.0 w.2 in
    let same : length w.0 ≡ length c = ap length first in
    omega (arith, long, few, same)

no_count : (V : Env → IlExp → Value → Type 0) (env : Env) (es : List IlExp) (cs : List Value) → es ≡ [] → HaveValues V (tasks env es) cs → cs ≡ []
no_count V env [] [] e h = refl
no_count V env [] (c ∷ cs) e h = absurd h
no_count V env (g ∷ es) cs e h = cc

-- an option has one element at most
pub few_elements : (V : Env → IlExp → Value → Type 0) (how : Iteration) (xs : List Name) (env : Env) (count : List Value) (envs : List Env) → kind_of how ≡ kind.Opt → HaveValues V (tasks env (count_of how)) count
    → spread how xs env count ≡ Over envs → length envs ≤ 1
few_elements V how xs env count envs is have over =
    let p = spread_parts how xs env count envs over in
    let empty = no_count V env (count_of how) count (quest_count how is) have in
    let size : first_length (columns kind.Opt xs env.entries) ≡ Some p.0 = subst (λ z. size_of [] (columns z xs env.entries) ≡ Some p.0) is (subst (λ z. size_of z (columns (kind_of how) xs env.entries) ≡ Some p.0) empty p.2) in
    let few = first_few xs env.entries p.0 (columns kind.Opt xs env.entries) refl size in
    let n = parts_number how xs env count envs p in
    omega (arith, few, n)

values_length : (V : Env → IlExp → Value → Type 0) (envs : List Env) (e : IlExp) (vs : List Value) → HaveValues V (each_task envs e) vs → length vs ≡ length envs
values_length V [] e [] h = refl
values_length V [] e (v ∷ vs) h = absurd h
values_length V (env ∷ envs) e [] h = absurd h
values_length V (env ∷ envs) e (v ∷ vs) h = ap suc (values_length V envs e vs h.1)

-- what was gathered tells the values
gathered_same : (k : Kind) (vs ws : List Value) (v : Value) → (k ≡ kind.Opt → (length vs ≤ 1) × (length ws ≤ 1)) → gathered_as k vs ≡ Val v → gathered_as k ws ≡ Val v → vs ≡ ws
gathered_same kind.List vs ws v few p q =
    let both : value.List vs ≡ value.List ws = limited_is (value.List vs) v p ∙ sym (limited_is (value.List ws) v q) in
    let opened : Value-F.List vs ≡ Value-F.List ws = sym (value.outs-List vs) ∙ (ap out-Value both ∙ value.outs-List ws) in cc
gathered_same kind.Opt [] [] v few p q = refl
gathered_same kind.Opt [] (w ∷ ws) v few p q =
    let both : value.Opt None ≡ value.Opt (Some w) = limited_is (value.Opt None) v p ∙ sym (limited_is (value.Opt (Some w)) v q) in
    let opened : Value-F.Opt None ≡ Value-F.Opt (Some w) = sym (value.outs-Opt None) ∙ (ap out-Value both ∙ value.outs-Opt (Some w)) in cc
gathered_same kind.Opt (u ∷ vs) [] v few p q =
    let both : value.Opt (Some u) ≡ value.Opt None = limited_is (value.Opt (Some u)) v p ∙ sym (limited_is (value.Opt None) v q) in
    let opened : Value-F.Opt (Some u) ≡ Value-F.Opt None = sym (value.outs-Opt (Some u)) ∙ (ap out-Value both ∙ value.outs-Opt None) in cc
gathered_same kind.Opt (u ∷ vs) (w ∷ ws) v few p q =
    let both : value.Opt (Some u) ≡ value.Opt (Some w) = limited_is (value.Opt (Some u)) v p ∙ sym (limited_is (value.Opt (Some w)) v q) in
    let opened : Value-F.Opt (Some u) ≡ Value-F.Opt (Some w) = sym (value.outs-Opt (Some u)) ∙ (ap out-Value both ∙ value.outs-Opt (Some w)) in
    let first : u ≡ w = cc in
    let n = few refl in
    ap₂ (λ y z. y ∷ z) first (short u vs n.0 ∙ sym (short w ws n.1))
  where
    short : (u : Value) (vs : List Value) → length (u ∷ vs) ≤ 1 → vs ≡ []
    short u [] n = refl
    short u (v ∷ vs) n = absurd (omega (arith, n))

-- the list that was gathered
gathered_list : (k : Kind) (vs : List Value) (v : Value) (xs : List Value) → gathered_as k vs ≡ Val v → elements v ≡ Some xs → xs ≡ vs
gathered_list kind.List vs v xs p e =
    let is = limited_is (value.List vs) v p in
    let both : Some xs ≡ Some vs = sym e ∙ (ap elements (sym is) ∙ elements-list vs) in cc
gathered_list kind.Opt [] v xs p e =
    let is = limited_is (value.Opt None) v p in
    let bad : None ≡ Some xs = sym (ap elements_at (value.outs-Opt None)) ∙ (ap elements is ∙ e) in cc
gathered_list kind.Opt (u ∷ vs) v xs p e =
    let is = limited_is (value.Opt (Some u)) v p in
    let bad : None ≡ Some xs = sym (ap elements_at (value.outs-Opt (Some u))) ∙ (ap elements is ∙ e) in cc

pub one_name : (x z : Name) → has_name (z ∷ []) x ≡ true → x ≡ z
one_name x z h = elim (or-cases (bytes_eq x z) false h) [ inl same ↦ bytes-path x z same | inr bad ↦ cc ]

module _ (defs : List SyntaxDef) (C : Answers) where
  -- the value of a number
  number_value : (env : Env) (e : IlExp) (n : ℕ) (v : Value) → out-IlExp e ≡ IlExp-F.Number n → Gives defs C env e (Val v) → v ≡ value.Num (pos n)
  number_value env e n v is g =
      let w = operands defs C env e [] (constant (value.Num (pos n))) v (by_itself (ap form_at is)) g in
      let both : Val (value.Num (pos n)) ≡ Val v = w.2 in cc

  literal_values : (env : Env) (es : List IlExp) (e : IlExp) (n : ℕ) (cs : List Value) → es ≡ e ∷ [] → out-IlExp e ≡ IlExp-F.Number n → HaveValues (value_by defs C) (tasks env es) cs → cs ≡ value.Num (pos n) ∷ []
  literal_values env es e n cs one is have = at cs (subst (λ z. HaveValues (value_by defs C) (tasks env z) cs) one have)
    where
      at : (cs : List Value) → HaveValues (value_by defs C) (tasks env (e ∷ [])) cs → cs ≡ value.Num (pos n) ∷ []
      at [] h = absurd h
      at (c ∷ []) h = ap (λ z. z ∷ []) (number_value env e n c is h.0)
      at (c ∷ d ∷ cs) h = absurd h.1

  -- by a literal count there are as many elements
  literal_number : (a b : Env) (k : Iteration) (xs : List Name) (body : IlExp) (v w : Value) → IsLiteral k → (p : Elements defs C a k xs body v) (q : Elements defs C b k xs body w) → length p.envs ≡ length q.envs
  literal_number a b k xs body v w (e, n, one, is) p q =
      let ca = literal_values a (count_of k) e n p.count one is p.counted in
      let cb = literal_values b (count_of k) e n q.count one is q.counted in
      let sa = spread_parts k xs a p.count p.envs p.over in
      let sb = spread_parts k xs b q.count q.envs q.over in
      let na : natural (value.Num (pos n)) ≡ Some sa.0 = ap (λ z. size_of z (columns (kind_of k) xs a.entries)) (sym ca) ∙ sa.2 in
      let nb : natural (value.Num (pos n)) ≡ Some sb.0 = ap (λ z. size_of z (columns (kind_of k) xs b.entries)) (sym cb) ∙ sb.2 in
      let both : Some sa.0 ≡ Some sb.0 = sym na ∙ nb in
      let same : sa.0 ≡ sb.0 = cc in
      parts_number k xs a p.count p.envs sa ∙ (same ∙ sym (parts_number k xs b q.count q.envs sb))

  literal_lengths : (a b : Env) (k : Iteration) (xs : List Name) (body : IlExp) (v w : Value) → IsLiteral k → Elements defs C a k xs body v → Elements defs C b k xs body w → SameLength v w
  literal_lengths a b k xs body v w lit p q ys zs e f =
      ap length (gathered_list (kind_of k) p.values v ys p.makes e)
      ∙ (values_length (value_by defs C) p.envs body p.values p.each
      ∙ (literal_number a b k xs body v w lit p q
      ∙ (sym (values_length (value_by defs C) q.envs body q.values q.each) ∙ sym (ap length (gathered_list (kind_of k) q.values w zs q.makes f)))))

  more_values : (v : Value) (rest : Outcomes) (vs : List Value) → then_all v rest ≡ Values vs → (ws : List Value) × (rest ≡ Values ws) × (v ∷ ws ≡ vs)
  more_values v (Values ws) vs e = let same : v ∷ ws ≡ vs = cc in (ws, refl, same)
  more_values v (Stopped o) vs e = cc

  -- the value of a count
  pub one_count : (env : Env) (es : List IlExp) (e : IlExp) (cs : List Value) → es ≡ e ∷ [] → HaveValues (value_by defs C) (tasks env es) cs → (c : Value) × (cs ≡ c ∷ []) × Gives defs C env e (Val c)
  one_count env es e cs one have = at cs (subst (λ z. HaveValues (value_by defs C) (tasks env z) cs) one have)
    where
      at : (cs : List Value) → HaveValues (value_by defs C) (tasks env (e ∷ [])) cs → (c : Value) × (cs ≡ c ∷ []) × Gives defs C env e (Val c)
      at [] h = absurd h
      at (c ∷ []) h = (c, refl, h.0)
      at (c ∷ d ∷ cs) h = absurd h.1

  module _ (a b : Env) (k : Iteration) (xs : List Name) (body : IlExp) (v : Value) (p : Elements defs C a k xs body v) (q : Elements defs C b k xs body v) where
    same_values : p.values ≡ q.values
    same_values =
        let np = values_length (value_by defs C) p.envs body p.values p.each in
        let nq = values_length (value_by defs C) q.envs body q.values q.each in
        gathered_same (kind_of k) p.values q.values v (λ is.
        let fp = few_elements (value_by defs C) k xs a p.count p.envs is p.counted p.over in
        let fq = few_elements (value_by defs C) k xs b q.count q.envs is q.counted q.over in (omega (arith, np, fp), omega (arith, nq, fq))) p.makes q.makes

    module _ (g : EnvsAgree (binds body) p.envs q.envs) where
      own_agrees : (es : List IlExp) → count_of k ≡ es → IsShort es → (x : Name) → has_name (flattened (map (λ (e : IlExp). (bound e).own) es)) x ≡ true → value_in a x ≡ value_in b x
      own_agrees [] is s x h = cc
      own_agrees (e ∷ e' ∷ more) is s x h = absurd s
      own_agrees (e ∷ []) is s x h =
          let found = own_variable e x (subst (λ z. has_name z x ≡ true) (append-nil (bound e).own) h) in
          let c = one_count a (count_of k) e p.count is p.counted in
          let d = one_count b (count_of k) e q.count is q.counted in
          let same : c.0 ≡ d.0 = counts_same k (binds body) xs a b p.count q.count p.envs q.envs p.over q.over g c.0 d.0 c.1 d.1 in
          let form : HasForm defs e (Variable found.0) = by_itself (ap form_at found.1) in
          subst (λ z. value_in a z ≡ value_in b z) (sym (one_name x found.0 (subst (λ z. has_name z x ≡ true) found.2 (subst (λ z. has_name z x ≡ true) (append-nil (bound e).own) h))))
          (variable_value defs C a e found.0 c.0 form c.2 ∙ (ap Some same ∙ sym (variable_value defs C b e found.0 d.0 form d.2)))

      iterated_agree : AgreeOn (own_of k ++ among xs (without (index_of k) (binds body))) a b
      iterated_agree x h = elim (within-cases (own_of k) (among xs (without (index_of k) (binds body))) x h) [
        | inl i ↦ own_agrees (count_of k) refl (count_short k) x i
        | inr i ↦
            let both = among-parts xs (without (index_of k) (binds body)) x i in
            let named = without-parts (index_of k) (binds body) x both.1 in
            list_agrees k (binds body) xs a b p.count q.count p.envs q.envs p.over q.over g x both.0 named.1 named.0
      ]

  -- ---- parts of fixed length

  mutual
    -- a part of fixed length has one length
    fixed_length : {a : Env} {e : IlExp} {o : Outcome} → Gives defs C a e o → (v : Value) → o ≡ Val v → is_pattern e ≡ true → (lengths e).fixed ≡ true → (b : Env) (w : Value) → Gives defs C b e (Val w) → SameLength v w
    fixed_length {a = a} {e = e} (strict es f r fe all oe) v is h l b w g =
        let p = values_of_all defs C (tasks a es) r f v all (sym is ∙ oe) in
        let q = operands defs C b e es f w fe g in
        form_fixed defs e (Strict es f) fe l p.0 q.0 v w
        (subst (λ z. LengthsAgree z p.0 q.0) (exps-tasks a es)
        (fixed_lengths all p.0 p.1 (tasks_patterns a es (pattern-form defs e (Strict es f) fe h)) b q.0 (subst (λ z. HaveValues (value_by defs C) (tasks b z) q.0) (sym (exps-tasks a es)) q.1)))
        p.2 q.2
    fixed_length {e = e} (variable x fe oe) v is h l b w g = absurd (form_fixed defs e (Variable x) fe l)
    fixed_length {e = e} (call fun args r fe all c) v is h l b w g = absurd (form_fixed defs e (Calls fun args) fe l)
    fixed_length {a = a} (iteration_ends k xs body r fe all we) v is h l b w g = absurd (not_ended defs C a k xs r v all (we ∙ ap Ends is))
    fixed_length {a = a} {e = e} (iteration k xs body r envs s fe all we every oe) v is h l b w g =
        literal_lengths a b k xs body v w (form_fixed defs e (Iterates k xs body) fe l) (elements_of defs C a k xs body v r s envs all we every (sym is ∙ oe)) (elements_in defs C b e k xs body w fe g)

    fixed_lengths : {ts : List Task} {r : Outcomes} → GivesAll defs C ts r → (vs : List Value) → r ≡ Values vs → TasksArePatterns ts → (b : Env) (ws : List Value) → HaveValues (value_by defs C) (tasks b (exps ts)) ws
        → LengthsAgree (exps ts) vs ws
    fixed_lengths (none e) vs is h b ws g = nothing vs ws (sym e ∙ is) g
      where
        nothing : (vs ws : List Value) → Values [] ≡ Values vs → HaveValues (value_by defs C) [] ws → LengthsAgree [] vs ws
        nothing [] [] e g = tt
        nothing [] (w ∷ ws) e g = absurd g
        nothing (v ∷ vs) ws e g = cc
    fixed_lengths (stop o x b' e) vs is h b ws g = let bad : Stopped o ≡ Values vs = sym e ∙ is in cc
    fixed_lengths (next {t = t} {ts = ts} v rest x all e) vs is h b [] g = absurd g
    fixed_lengths (next {t = t} {ts = ts} v rest x all e) vs is h b (w ∷ ws) g =
        let m = more_values v rest vs (sym e ∙ is) in
        subst (λ z. LengthsAgree (t.1 ∷ exps ts) z (w ∷ ws)) m.2
        ((λ l. fixed_length x v refl h.0 l b w g.0), fixed_lengths all m.0 m.1 h.1 b ws g.1)

  -- ---- what is bound

  mutual
    -- One value of a pattern tells the values of what it binds.
    pub pattern_agrees : {a : Env} {e : IlExp} {o : Outcome} → Gives defs C a e o → (v : Value) → o ≡ Val v → is_pattern e ≡ true → is_doubly_open e ≡ false → (b : Env) → Gives defs C b e (Val v) → AgreeOn (binds e) a b
    pattern_agrees {a = a} {e = e} (strict es f r fe all oe) v is h l b g =
        let known : Known es f (binds e) = form_known defs e (Strict es f) fe h l in
        let p = values_of_all defs C (tasks a es) r f v all (sym is ∙ oe) in
        let q = operands defs C b e es f v fe g in
        let pats = pattern-form defs e (Strict es f) fe h in
        let n : LengthsAgree es p.0 q.0 = subst (λ z. LengthsAgree z p.0 q.0) (exps-tasks a es)
        (fixed_lengths all p.0 p.1 (tasks_patterns a es pats) b q.0 (subst (λ z. HaveValues (value_by defs C) (tasks b z) q.0) (sym (exps-tasks a es)) q.1)) in
        let same = known.same p.0 q.0 v n p.2 q.2 in
        subst (λ z. AgreeOn z a b) (sym known.binding)
        (tasks_agreed a b es (patterns_agree all p.0 p.1 (tasks b es) (tasks_both a b es pats known.singly) (subst (HaveValues (value_by defs C) (tasks b es)) (sym same) q.1)))
    pattern_agrees {a = a} {e = e} (variable x fe oe) v is h l b g =
        let p = variable_value defs C a e x v fe (variable x fe (sym is ∙ oe)) in
        let q = variable_value defs C b e x v fe g in
        subst (λ z. AgreeOn z a b) (sym (form_known defs e (Variable x) fe h l)) (λ y i. subst (λ z. value_in a z ≡ value_in b z) (sym (one_name y x i)) (p ∙ sym q))
    pattern_agrees {e = e} (call fun args r fe all c) v is h l b g = absurd (pattern-form defs e (Calls fun args) fe h)
    pattern_agrees {a = a} (iteration_ends k xs body r fe all we) v is h l b g = absurd (not_ended defs C a k xs r v all (we ∙ ap Ends is))
    pattern_agrees {a = a} {e = e} (iteration k xs body r envs s fe all we every oe) v is h l b g =
        let known : KnownEach k xs body (binds e) = form_known defs e (Iterates k xs body) fe h l in
        let pats = pattern-form defs e (Iterates k xs body) fe h in
        let p = elements_of defs C a k xs body v r s envs all we every (sym is ∙ oe) in
        let q = elements_in defs C b e k xs body v fe g in
        let same : p.values ≡ q.values = same_values a b k xs body v p q in
        let n : length envs ≡ length q.envs = sym (values_length (value_by defs C) envs body p.values p.each) ∙ (ap length same ∙ values_length (value_by defs C) q.envs body q.values q.each) in
        let made = values_of_all defs C (each_task envs body) s (gathered k) v every (sym is ∙ oe) in
        let all_agree = patterns_agree every made.0 made.1 (each_task q.envs body) (each_both envs q.envs body n pats.1 known.singly)
        (subst (HaveValues (value_by defs C) (each_task q.envs body)) (sym same) q.each) in
        subst (λ z. AgreeOn z a b) (sym known.binding) (iterated_agree a b k xs body v p q (each_agreed envs q.envs body all_agree))

    pub patterns_agree : {ts : List Task} {r : Outcomes} → GivesAll defs C ts r → (vs : List Value) → r ≡ Values vs → (us : List Task) → Patterns ts us → HaveValues (value_by defs C) us vs → AllAgree ts us
    patterns_agree (none e) vs is [] h g = tt
    patterns_agree (none e) vs is (u ∷ us) h g = absurd h
    patterns_agree (stop o x b e) vs is us h g = let bad : Stopped o ≡ Values vs = sym e ∙ is in cc
    patterns_agree (next {t = t} v rest x all e) vs is [] h g = absurd h
    patterns_agree (next {t = t} v rest x all e) vs is (u ∷ us) h g =
        let m = more_values v rest vs (sym e ∙ is) in
        let have = subst (HaveValues (value_by defs C) (u ∷ us)) (sym m.2) g in
        (pattern_agrees x v refl h.1 h.2 u.0 (subst (λ z. Gives defs C u.0 z (Val v)) (sym h.0) have.0), patterns_agree all m.0 m.1 us h.3 have.1)
