-- Expressions, premises and definitions that are proper, by their levels and one after another.
use Rattle.std.proofs.Common.{◌≡◌, ℕ, suc, ◌+◌, ◌<◌, ◌≤◌, refl, sym, ◌∙◌, ap, subst, List, [], ◌∷◌, ◌++◌, drop, drop-cons, add-one, length, get_or, Result, Ok, Err, OnOk}
use Rattle.std.specs.List.{AllByRecursion}
use Rattle.std.proofs.lemmas.List.{drop_all}
use Rattle.std.specs.Borrow.{Bor}
use Rattle.st_il.specs.declared.expression.IlExp.{IlExp, out-IlExp, roll-IlExp, roll-out-IlExp}
use Rattle.st_il.specs.declared.expression.IlExp.TheOpen.{IlExp-F}
use Rattle.st_il.specs.declared.expression.IlExp.TheVariants as exp
use Rattle.st_il.specs.declared.expression.IlPrem.{IlPrem, out-IlPrem}
use Rattle.st_il.specs.declared.expression.IlPrem.TheVariants as prem
use Rattle.st_il.specs.declared.expression.Iteration.{Iteration}
use Rattle.st_semantics.specs.Iterations.{count_of}
use Rattle.st_il.specs.Names.{Name}
use Rattle.st_semantics.specs.Operands.{operands_at, item_exp, segment_exps}
use Rattle.st_semantics.specs.OperationTypes.{Level}
use Rattle.st_semantics.specs.References.{exps_now}
use Rattle.st_search.specs.Proper as properly
use Rattle.st_search.specs.Proper.{IsProperAt, parts_at, IsProperExp, AreProperExps, IsProperPrem}

next_left : {A : Type 0} (xs : List A) (i : ℕ) (x : A) → i < length xs → x ≡ get_or xs i x → drop i xs ≡ x ∷ drop (i + 1) xs
next_left xs i x h is = drop-cons xs i x h ∙ (ap (λ z. z ∷ drop (suc i) xs) (sym is) ∙ ap (λ n. x ∷ drop n xs) (sym (add-one i)))

-- ---- expressions

other_at : (y : Level) → ((n : ℕ) → y ≡ IlExp-F.Number n → ⊥) → ((text : Name) → y ≡ IlExp-F.Text text → ⊥) → ((type tag : Name) (es : List IlExp) → y ≡ IlExp-F.Case type tag es → ⊥) → IsProperAt y
other_at (IlExp-F.Number n) a b c = absurd (a n refl)
other_at (IlExp-F.Text text) a b c = absurd (b text refl)
other_at (IlExp-F.Case type tag es) a b c = absurd (c type tag es refl)
other_at y a b c = tt

-- an expression that is no number, no text and no case
pub other_proper : (e : IlExp) → ((n : ℕ) → e ≡ exp.Number n → ⊥) → ((text : Name) → e ≡ exp.Text text → ⊥) → ((type tag : Name) (es : List IlExp) → e ≡ exp.Case type tag es → ⊥) → IsProperAt (out-IlExp e)
other_proper e a b c =
    other_at (out-IlExp e)
    (λ n h. a n (sym (roll-out-IlExp e) ∙ (ap roll-IlExp h ∙ exp.rolls-Number n)))
    (λ text h. b text (sym (roll-out-IlExp e) ∙ (ap roll-IlExp h ∙ exp.rolls-Text text)))
    (λ type tag es h. c type tag es (sym (roll-out-IlExp e) ∙ (ap roll-IlExp h ∙ exp.rolls-Case type tag es)))

with_last : (es : List IlExp) (g : IlExp) → AreProperExps es → IsProperExp g → AreProperExps (es ++ g ∷ [])
with_last [] g h k = properly.more k properly.none
with_last (e ∷ es) g (properly.more h hs) k = properly.more h (with_last es g hs k)

pub proper_Iter : (e : IlExp) (how : Iteration) (xs : List Name) (body : IlExp) → e ≡ exp.Iter how xs body → IsProperAt (out-IlExp e) → AreProperExps (count_of how) → IsProperExp body → IsProperExp e
proper_Iter e how xs body is at counts h =
    properly.proper at (subst (λ z. AreProperExps (parts_at z)) (sym (ap out-IlExp is ∙ exp.outs-Iter how xs body)) (with_last (count_of how) body counts h))

parts_other : (y : Level) → ((how : Iteration) (xs : List Name) (body : IlExp) → y ≡ IlExp-F.Iter how xs body → ⊥) → parts_at y ≡ operands_at item_exp segment_exps y
parts_other (IlExp-F.Iter how xs body) i = absurd (i how xs body refl)
parts_other y i = refl

pub proper_other : (e : IlExp) (gs : List IlExp) → ((how : Iteration) (xs : List Name) (body : IlExp) → e ≡ exp.Iter how xs body → ⊥) → gs ≡ operands_at item_exp segment_exps (out-IlExp e) → IsProperAt (out-IlExp e) → AreProperExps gs → IsProperExp e
proper_other e gs i are at h =
    properly.proper at
    (subst AreProperExps (are ∙ sym (parts_other (out-IlExp e) (λ how xs body h. i how xs body (sym (roll-out-IlExp e) ∙ (ap roll-IlExp h ∙ exp.rolls-Iter how xs body))))) h)

-- where those that are left are proper, all are
abbrev pub AreProperFrom : List (Bor IlExp) → ℕ → Type 0
AreProperFrom es i = AreProperExps (exps_now (drop i es)) → AreProperExps (exps_now es)

pub proper_next : (es : List (Bor IlExp)) (i : ℕ) (x : Bor IlExp) → i < length es → x ≡ get_or es i x → AreProperFrom es i → IsProperExp x.now → AreProperFrom es (i + 1)
proper_next es i x h is k one rest = k (subst (λ z. AreProperExps (exps_now z)) (sym (next_left es i x h is)) (properly.more one rest))

pub proper_end : (es : List (Bor IlExp)) (i : ℕ) → length es ≤ i → AreProperFrom es i → AreProperExps (exps_now es)
proper_end es i h k = k (subst (λ z. AreProperExps (exps_now z)) (sym (drop_all i es h)) properly.none)

-- ---- premises

pub proper_If : (p : IlPrem) (e : IlExp) → p ≡ prem.If e → IsProperExp e → IsProperPrem p
proper_If p e is h = properly.condition e (ap out-IlPrem is ∙ prem.outs-If e) h

pub proper_Goal : (p : IlPrem) (relation : Name) (es : List IlExp) → p ≡ prem.Goal relation es → AreProperExps es → IsProperPrem p
proper_Goal p relation es is h = properly.goal relation es (ap out-IlPrem is ∙ prem.outs-Goal relation es) h

pub proper_Otherwise : (p : IlPrem) → p ≡ prem.Otherwise → IsProperPrem p
proper_Otherwise p is = properly.otherwise (ap out-IlPrem is ∙ prem.outs-Otherwise)

pub proper_Each : (p : IlPrem) (how : Iteration) (xs : List Name) (body : IlPrem) → p ≡ prem.Each how xs body → AreProperExps (count_of how) → IsProperPrem body → IsProperPrem p
proper_Each p how xs body is counts h = properly.each how xs body (ap out-IlPrem is ∙ prem.outs-Each how xs body) counts h

-- ---- members of a list

module _ {X : Type 0} (P : X → Type 0) where
  -- where it holds of those that are left, it holds of all
  abbrev pub EachFrom : List X → ℕ → Type 0
  EachFrom xs i = AllByRecursion P (drop i xs) → AllByRecursion P xs

  pub each_next : (xs : List X) (i : ℕ) (x : X) → i < length xs → x ≡ get_or xs i x → EachFrom xs i → P x → EachFrom xs (i + 1)
  each_next xs i x h is k one rest = k (subst (AllByRecursion P) (sym (next_left xs i x h is)) (one, rest))

  pub each_end : (xs : List X) (i : ℕ) → length xs ≤ i → EachFrom xs i → AllByRecursion P xs
  each_end xs i h k = k (subst (AllByRecursion P) (sym (drop_all i xs h)) tt)

-- ---- answers

pub then_ok : {A E P Q : Type 0} (r : Result A E) → (P → Q) → OnOk r P → OnOk r Q
then_ok (Ok x) f h = f h
then_ok (Err e) f h = tt
