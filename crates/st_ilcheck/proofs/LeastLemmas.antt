-- The least of some rules, found from the last one on.
use Rattle.std.proofs.Common.{◌≡◌, refl, sym, ap, List, [], ◌∷◌, ◌++◌, Option, Some, None, true, false, cond, nat_le, Bool}
use Rattle.st_il.specs.declared.type_rule.TypeRule.{TypeRule}
use Rattle.st_ilcheck.specs.Least.{number, lesser, least}
use Rattle.st_ilcheck.specs.inner.Leasts.{least_before}

pub before-none : (ms : List TypeRule) → least_before ms None ≡ least ms
before-none [] = refl
before-none (m ∷ ms) = ap (lesser (Some m)) (before-none ms)

pub before-last : (ms : List TypeRule) (m : TypeRule) (found : Option TypeRule) → least_before (ms ++ m ∷ []) found ≡ least_before ms (lesser (Some m) found)
before-last [] m found = refl
before-last (n ∷ ms) m found = ap (lesser (Some n)) (before-last ms m found)

some-lesser : (m : TypeRule) (o : Option TypeRule) → lesser (Some m) o ≡ None → ⊥
some-lesser m None e = cc
some-lesser m (Some n) e = by (nat_le (number m) (number n)) e
  where
    by : (b : Bool) → cond b (Some m) (Some n) ≡ None → ⊥
    by true h = cc
    by false h = cc

pub none-least : (ms : List TypeRule) → None ≡ least ms → ms ≡ []
none-least [] e = refl
none-least (m ∷ ms) e = absurd (some-lesser m (least ms) (sym e))
