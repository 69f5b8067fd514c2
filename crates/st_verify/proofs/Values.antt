-- Expressions and their values.
use Rattle.std.proofs.Common.{◌≡◌, ◌↔◌, ℕ, zero, suc, ◌+◌, ◌<◌, List, [], ◌∷◌, ◌++◌, length, get_or, take, refl, ◌∙◌, sym, ap, arith}
use Rattle.std.proofs.lemmas.List.{take_more}
use Rattle.st_il.specs.declared.expression.IlExp.{IlExp, out-IlExp}
use Rattle.st_il.specs.declared.expression.IlExp.TheOpen.{IlExp-F}
use Rattle.st_il.specs.declared.expression.IlExp.TheVariants as exp
use Rattle.st_il.specs.declared.value.Value.{Value}
use Rattle.st_il.specs.declared.value.Value.TheVariants as value
use Rattle.st_il.specs.Small.{atom_exp}
use Rattle.st_verify.specs.SmallValues.{IsCaseValue, AreCaseValues, case}

-- a case without operands has the value of that case alone
value_of_case : (one : IlExp) (type tag : List ℕ) (val : Value) → one ≡ exp.Case type tag [] → IsCaseValue one val → val ≡ value.Case tag []
value_of_case one type tag val is (case other_type other layer val_is) =
    let layers : ◌≡◌ {A = IlExp-F IlExp _ _ _} _ _ = sym (exp.outs-Case type tag []) ∙ sym (ap out-IlExp is) ∙ layer in
    cc

pub case_has_value : (one : IlExp) (type tag : List ℕ) (operands : List IlExp) (val : Value) → one ≡ exp.Case type tag operands → operands ≡ []
    → (val ≡ value.Case tag []) ↔ IsCaseValue one val
case_has_value one type tag operands val is empty =
    let here : one ≡ exp.Case type tag [] = is ∙ ap (exp.Case type tag) empty in
    (λ val_is. case type tag (ap out-IlExp here ∙ exp.outs-Case type tag []) val_is, value_of_case one type tag val here)

-- as many values as expressions
pub AreCaseValues-length : (exps : List IlExp) (vals : List Value) → AreCaseValues exps vals → length exps ≡ length vals
AreCaseValues-length [] [] have = refl
AreCaseValues-length [] (val ∷ vals) have = absurd have
AreCaseValues-length (one ∷ exps) [] have = absurd have
AreCaseValues-length (one ∷ exps) (val ∷ vals) have = ap suc (AreCaseValues-length exps vals have.1)

-- each expression has its value
pub AreCaseValues-at : (exps : List IlExp) (vals : List Value) (i : ℕ) (one : IlExp) (val : Value) → AreCaseValues exps vals → i < length exps
    → one ≡ get_or exps i one → val ≡ get_or vals i val → IsCaseValue one val
AreCaseValues-at [] vals i one val have at is val_is = absurd (omega arith)
AreCaseValues-at (e ∷ exps) [] i one val have at is val_is = absurd have
AreCaseValues-at (e ∷ exps) (v ∷ vals) zero one val have at is val_is = rw (is, val_is) have.0
AreCaseValues-at (e ∷ exps) (v ∷ vals) (suc i) one val have at is val_is = AreCaseValues-at exps vals i one val have.1 (omega arith) is val_is

-- one expression and one value more
AreCaseValues-push : (exps : List IlExp) (vals : List Value) (one : IlExp) (val : Value) → AreCaseValues exps vals → IsCaseValue one val
    → AreCaseValues (exps ++ one ∷ []) (vals ++ val ∷ [])
AreCaseValues-push [] [] one val have has = (has, tt)
AreCaseValues-push [] (v ∷ vals) one val have has = absurd have
AreCaseValues-push (e ∷ exps) [] one val have has = absurd have
AreCaseValues-push (e ∷ exps) (v ∷ vals) one val have has = (have.0, AreCaseValues-push exps vals one val have.1 has)

pub AreCaseValues-more : (exps : List IlExp) (vals : List Value) (i : ℕ) (one : IlExp) (val : Value) → i < length exps → i < length vals
    → one ≡ get_or exps i one → val ≡ get_or vals i val → AreCaseValues (take i exps) (take i vals) → IsCaseValue one val
    → AreCaseValues (take (i + 1) exps) (take (i + 1) vals)
AreCaseValues-more exps vals i one val at at_val is val_is have has =
    let front : take (i + 1) exps ≡ take i exps ++ one ∷ [] = take_more exps i one at ∙ ap (λ e. take i exps ++ e ∷ []) (sym is) in
    let front_vals : take (i + 1) vals ≡ take i vals ++ val ∷ [] = take_more vals i val at_val ∙ ap (λ v. take i vals ++ v ∷ []) (sym val_is) in
    rw (front, front_vals) (AreCaseValues-push (take i exps) (take i vals) one val have has)

-- ---- atoms

pub atom_exp_value : (syntax atom : List ℕ) → IsCaseValue (atom_exp syntax atom) (value.Case atom [])
atom_exp_value syntax atom = case syntax atom (exp.outs-Case syntax atom []) refl

pub value_of_atom_exp : (syntax one other : List ℕ) (vals : List Value) → AreCaseValues (atom_exp syntax one ∷ atom_exp syntax other ∷ []) vals
    → vals ≡ value.Case one [] ∷ value.Case other [] ∷ []
value_of_atom_exp syntax one other [] have = absurd have
value_of_atom_exp syntax one other (x ∷ []) have = absurd have.1
value_of_atom_exp syntax one other (x ∷ y ∷ z ∷ vals) have = absurd have.1.1
value_of_atom_exp syntax one other (x ∷ y ∷ []) have =
    let first = value_of_case (atom_exp syntax one) syntax one x refl have.0 in
    let second = value_of_case (atom_exp syntax other) syntax other y refl have.1.0 in
    cc
