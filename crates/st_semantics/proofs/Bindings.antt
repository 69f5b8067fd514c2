-- What a premise of a clause binds, where the rules M3 and M4 are kept.
use Rattle.std.proofs.Common.{◌≡◌, refl, sym, ◌∙◌, ap, subst, List, [], ◌∷◌, ◌++◌, ◌⊎◌, inl, inr, Bool, true, false, not, ◌&&◌, if◌then◌else◌, Option, Some, None, bytes_eq}
use Rattle.std.specs.List.{list_all, list_any}
use Rattle.st_il.specs.declared.definition.Il.{Il}
use Rattle.st_il.specs.declared.expression.IlExp.{IlExp, out-IlExp}
use Rattle.st_il.specs.declared.expression.IlExp.TheOpen.{IlExp-F}
use Rattle.st_il.specs.declared.expression.IlPrem.{IlPrem, out-IlPrem, map-IlPrem, roll-IlPrem, out-roll-IlPrem}
use Rattle.st_il.specs.declared.expression.IlPrem.TheOpen.{IlPrem-F}
use Rattle.st_il.specs.declared.expression.Iteration.{Iteration}
use Rattle.st_il.specs.declared.expression.ListItem.{ListItem}
use Rattle.st_il.specs.declared.expression.PathSeg.{PathSeg}
use Rattle.st_il.specs.Names.{Name, has_name, all_known, without}
use Rattle.st_semantics.specs.Iterations.{count_of, index_of}
use Rattle.st_semantics.specs.Variables.{vars, prem_vars, prem_vars_at}
use Rattle.st_semantics.specs.Patterns.{is_pattern, binds}
use Rattle.st_semantics.specs.OpenParts.{is_doubly_open}
use Rattle.st_semantics.specs.Executable as run
use Rattle.st_semantics.specs.Executable.{Class, Test, Equation, class_of, class_of_condition, class_of_equation, is_matched, is_anchored, is_countable, bound_inside, runs_at}
use Rattle.st_semantics.specs.ModeRules.{has_one_open}
use Rattle.st_semantics.specs.Kinds.{AreOfItsBody, NamesOccurring}
use Rattle.st_semantics.specs.Kinds as named
use Rattle.st_semantics.proofs.Names.{Within, and-both, or-cases, or-left, or-right, bytes-same, prem-level}
use Rattle.st_semantics.proofs.CanRun.{known-wider, runs_of, runs-level, class-level, IsShort, count_short, within-index, inside-within}
use Rattle.st_semantics.proofs.Wider.{prem-ind, Parts, all-wider, countable-wider, append-wider}

-- a pattern that binds its variables, with at most one part of open length in each list
abbrev pub IsBinding : List Name → IlExp → Type 0
IsBinding bound e = (is_pattern e ≡ true) × (is_doubly_open e ≡ false) × (all_known (bound ++ binds e) (vars e) ≡ true)

-- one of the named lists is bound, or the count is
abbrev pub IsReached : List Name → Iteration → List Name → Type 0
IsReached bound how xs = ((x : Name) × (has_name xs x ≡ true) × (has_name bound x ≡ true)) ⊎ ((e : IlExp) × (count_of how ≡ e ∷ []) × (all_known bound (vars e) ≡ true))

-- what an iteration needs
pub record EachBinds (bound : List Name) (how : Iteration) (xs : List Name) (body : IlPrem) : Type 0 where
  pub reached : IsReached bound how xs
  pub counted : list_all (is_countable bound) (count_of how) ≡ true
  pub own : AreOfItsBody how xs body
  pub others : all_known bound (without xs (without (index_of how) (prem_vars body))) ≡ true

-- a premise can be met, and binds its variables; so does a goal, since none holds in a clause
pub data Binds : List Name → IlPrem → Type 0 where
  test : {bound : List Name} {p : IlPrem} (e : IlExp) → out-IlPrem p ≡ IlPrem-F.If e → all_known bound (vars e) ≡ true → Binds bound p
  left : {bound : List Name} {p : IlPrem} (e a b : IlExp) → out-IlPrem p ≡ IlPrem-F.If e → out-IlExp e ≡ IlExp-F.Eq a b → all_known bound (vars a) ≡ true → IsBinding bound b → Binds bound p
  right : {bound : List Name} {p : IlPrem} (e a b : IlExp) → out-IlPrem p ≡ IlPrem-F.If e → out-IlExp e ≡ IlExp-F.Eq a b → all_known bound (vars b) ≡ true → IsBinding bound a → Binds bound p
  otherwise : {bound : List Name} {p : IlPrem} → out-IlPrem p ≡ IlPrem-F.Otherwise → Binds bound p
  goal : {bound : List Name} {p : IlPrem} (relation : Name) (es : List IlExp) → out-IlPrem p ≡ IlPrem-F.Goal relation es → Binds bound p
  each : {bound : List Name} {p : IlPrem} (how : Iteration) (xs : List Name) (body : IlPrem) → out-IlPrem p ≡ IlPrem-F.Each how xs body → EachBinds bound how xs body
      → Binds (index_of how ++ bound) body → Binds bound p

abbrev pub BindsInside : List Name → Iteration → List Name → IlPrem → Type 0
BindsInside bound how xs body = EachBinds bound how xs body × Binds (index_of how ++ bound) body

pub binds_inside : {bound : List Name} {p : IlPrem} → Binds bound p → (how : Iteration) (xs : List Name) (body : IlPrem) → out-IlPrem p ≡ IlPrem-F.Each how xs body → BindsInside bound how xs body
binds_inside (test e is k) how xs body h = cc
binds_inside (left e a b is eq k f) how xs body h = cc
binds_inside (right e a b is eq k f) how xs body h = cc
binds_inside (otherwise is) how xs body h = cc
binds_inside (goal relation es is) how xs body h = cc
binds_inside {bound = bound} (each how' xs' body' is n b) how xs body h =
    let kk : how' ≡ how = cc in
    let xx : xs' ≡ xs = cc in
    let bb : body' ≡ body = cc in
    subst (BindsInside bound how xs) bb (subst (λ z. BindsInside bound how z body') xx (subst (λ z. BindsInside bound z xs' body') kk (n, b)))

-- ---- more that is bound

binding-wider : (few many : List Name) (e : IlExp) → Within few many → IsBinding few e → IsBinding many e
binding-wider few many e w (p, o, k) = (p, o, known-wider (few ++ binds e) (many ++ binds e) (vars e) (append-wider few many (binds e) w) k)

reached-wider : (few many : List Name) (how : Iteration) (xs : List Name) → Within few many → IsReached few how xs → IsReached many how xs
reached-wider few many how xs w (inl (x, i, k)) = inl (x, i, w x k)
reached-wider few many how xs w (inr (e, is, k)) = inr (e, is, known-wider few many (vars e) w k)

each-wider : (few many : List Name) (how : Iteration) (xs : List Name) (body : IlPrem) → Within few many → EachBinds few how xs body → EachBinds many how xs body
each-wider few many how xs body w n = record {
  reached = reached-wider few many how xs w n.reached;
  counted = all-wider (is_countable few) (is_countable many) (countable-wider few many w) (count_of how) n.counted;
  own = n.own;
  others = known-wider few many (without xs (without (index_of how) (prem_vars body))) w n.others;
}

pub Binds-wider : {few : List Name} {p : IlPrem} → Binds few p → (many : List Name) → Within few many → Binds many p
Binds-wider {few = few} (test e is k) many w = test e is (known-wider few many (vars e) w k)
Binds-wider {few = few} (left e a b is eq k f) many w = left e a b is eq (known-wider few many (vars a) w k) (binding-wider few many b w f)
Binds-wider {few = few} (right e a b is eq k f) many w = right e a b is eq (known-wider few many (vars b) w k) (binding-wider few many a w f)
Binds-wider (otherwise is) many w = otherwise is
Binds-wider (goal relation es is) many w = goal relation es is
Binds-wider {few = few} (each how xs body is n b) many w = each how xs body is (each-wider few many how xs body w n) (Binds-wider b (index_of how ++ many) (within-index (index_of how) few many w))

-- ---- from the class of a premise

-- what is told of a premise has its variables
runs-vars : (il : Il) (p : IlPrem) → (runs_of il p).vars ≡ prem_vars p
runs-vars il = prem-ind (λ p. (runs_of il p).vars ≡ prem_vars p) (λ y parts. told y ∙ (level y parts ∙ sym (prem-level (roll-IlPrem y) y (out-roll-IlPrem y))))
  where
    told : (y : IlPrem-F IlPrem) → (runs_of il (roll-IlPrem y)).vars ≡ (runs_at il (map-IlPrem IlPrem run.Runs (runs_of il) y)).vars
    told y = ap (λ (z : run.Runs). z.vars) (runs-level il (roll-IlPrem y) y (out-roll-IlPrem y))

    level : (y : IlPrem-F IlPrem) → Parts (λ p. (runs_of il p).vars ≡ prem_vars p) y → (runs_at il (map-IlPrem IlPrem run.Runs (runs_of il) y)).vars ≡ prem_vars_at (map-IlPrem IlPrem (List Name) prem_vars y)
    level (IlPrem-F.If e) parts = refl
    level (IlPrem-F.Goal relation es) parts = refl
    level IlPrem-F.Otherwise parts = refl
    level (IlPrem-F.Each how xs body) parts = ap (λ z. prem_vars_at (IlPrem-F.Each how xs z)) parts

not_false : (b : Bool) → not b ≡ true → b ≡ false
not_false true h = cc
not_false false h = refl

matched : (bound : List Name) (e g : IlExp) → is_matched bound e g ≡ true → not (is_doubly_open g) ≡ true → (all_known bound (vars e) ≡ true) × IsBinding bound g
matched bound e g h o =
    let b = and-both (all_known bound (vars e) && is_pattern g) (all_known (bound ++ binds g) (vars g)) h in
    let d = and-both (all_known bound (vars e)) (is_pattern g) b.0 in
    (d.0, (d.1, not_false (is_doubly_open g) o, b.1))

condition_binds : (bound : List Name) (p : IlPrem) (e : IlExp) (c : Class) → out-IlPrem p ≡ IlPrem-F.If e → class_of_condition bound e ≡ Some c → has_one_open (Some c) ≡ true → Binds bound p
condition_binds bound p e c is h o = whole (all_known bound (vars e)) refl h
  where
    sides : (y : IlExp-F IlExp Iteration ListItem PathSeg) → out-IlExp e ≡ y → class_of_equation bound y ≡ Some c → Binds bound p
    sides (IlExp-F.Eq a b) eq h = first (is_matched bound a b) refl (is_matched bound b a) refl h
      where
        first : (m : Bool) → is_matched bound a b ≡ m → (n : Bool) → is_matched bound b a ≡ n → (if m then Some (Equation b) else if n then Some (Equation a) else None) ≡ Some c → Binds bound p
        first true m n k h = let x = matched bound a b m (ap has_one_open h ∙ o) in left e a b is eq x.0 x.1
        first false m true k h = let x = matched bound b a k (ap has_one_open h ∙ o) in right e a b is eq x.0 x.1
        first false m false k h = cc
    sides _ eq h = cc

    whole : (k : Bool) → all_known bound (vars e) ≡ k → (if k then Some Test else class_of_equation bound (out-IlExp e)) ≡ Some c → Binds bound p
    whole true k h = test e is k
    whole false k h = sides (out-IlExp e) refl h

any_name : (bound xs : List Name) → list_any (has_name bound) xs ≡ true → (x : Name) × (has_name xs x ≡ true) × (has_name bound x ≡ true)
any_name bound [] h = cc
any_name bound (x ∷ xs) h = elim (or-cases (has_name bound x) (list_any (has_name bound) xs) h) [
  | inl here ↦ (x, or-left (bytes_eq x x) (has_name xs x) (bytes-same x), here)
  | inr later ↦ (let more = any_name bound xs later in (more.0, or-right (bytes_eq more.0 x) (has_name xs more.0) more.1, more.2))
]

any_count : (bound : List Name) (es : List IlExp) → IsShort es → list_any (λ (e : IlExp). all_known bound (vars e)) es ≡ true → (e : IlExp) × (es ≡ e ∷ []) × (all_known bound (vars e) ≡ true)
any_count bound [] s h = cc
any_count bound (e ∷ g ∷ more) s h = absurd s
any_count bound (e ∷ []) s h = elim (or-cases (all_known bound (vars e)) false h) [ inl k ↦ (e, refl, k) | inr bad ↦ cc ]

anchored_reached : (bound : List Name) (how : Iteration) (xs : List Name) → is_anchored bound how xs ≡ true → IsReached bound how xs
anchored_reached bound how xs h = elim (or-cases (list_any (has_name bound) xs) (list_any (λ (e : IlExp). all_known bound (vars e)) (count_of how)) h) [
  | inl names ↦ inl (any_name bound xs names)
  | inr count ↦ inr (any_count bound (count_of how) (count_short how) count)
]

-- A premise that is executable, its pattern with one open part at most, binds.
pub class_binds : (il : Il) {p : IlPrem} → NamesOccurring p → (bound : List Name) (c : Class) → class_of il bound p ≡ Some c → has_one_open (Some c) ≡ true → Binds bound p
class_binds il {p = p} (named.condition e is) bound c h o = condition_binds bound p e c is (sym (class-level il bound p (IlPrem-F.If e) is) ∙ h) o
class_binds il (named.goal relation es is) bound c h o = goal relation es is
class_binds il (named.otherwise is) bound c h o = otherwise is
class_binds il {p = p} (named.each how xs body is own deeper) bound c h o =
    let others : List Name = without xs (without (index_of how) (runs_of il body).vars) in
    let t = tests (is_anchored bound how xs) (list_all (is_countable bound) (count_of how)) (all_known bound others) ((runs_of il body).class (bound_inside bound how xs others)) (sym (class-level il bound p (IlPrem-F.Each how xs body) is) ∙ h) in
    each how xs body is (record {
      reached = anchored_reached bound how xs t.0;
      counted = t.1;
      own = own;
      others = subst (λ z. all_known bound (without xs (without (index_of how) z)) ≡ true) (runs-vars il body) t.2;
    })
    (Binds-wider (class_binds il deeper (bound_inside bound how xs others) c t.3 o) (index_of how ++ bound) (inside-within bound how xs others t.2))
  where
    tests : (a b d : Bool) (class : Option Class) → (if a && b && d then class else None) ≡ Some c → (a ≡ true) × (b ≡ true) × (d ≡ true) × (class ≡ Some c)
    tests true true true class h = (refl, refl, refl, h)
    tests true true false class h = cc
    tests true false d class h = cc
    tests false b d class h = cc
