-- The variables of expressions, one expression after another.
use Rattle.std.proofs.Common.{◌≡◌, ℕ, suc, ◌+◌, ◌<◌, sym, ◌∙◌, ap, List, ◌∷◌, ◌++◌, drop, length, get_or, append_assoc, add-one, drop-cons}
use Rattle.std.proofs.lemmas.List.{map-append}
use Rattle.std.specs.Borrow.{Bor}
use Rattle.st_il.specs.declared.expression.IlExp.{IlExp}
use Rattle.st_il.specs.Names.{Name}
use Rattle.st_semantics.specs.Variables.{vars, vars_of}
use Rattle.st_semantics.specs.References.{exps_now}
use Rattle.st_eval.specs.inner.Known.{names_now}

pub names_now-append : (xs ys : List (Bor Name)) → names_now (xs ++ ys) ≡ names_now xs ++ names_now ys
names_now-append xs ys = map-append (λ (x : Bor Name). x.now) xs ys

pub vars_of-next : (first found longer : List (Bor Name)) (es : List (Bor IlExp)) (i : ℕ) (x : Bor IlExp) → longer ≡ first ++ found → names_now found ≡ vars x.now → i < length es → x ≡ get_or es i x
    → names_now longer ++ vars_of (exps_now (drop (i + 1) es)) ≡ names_now first ++ vars_of (exps_now (drop i es))
vars_of-next first found longer es i x more has h is =
    ap (λ z. z ++ vars_of (exps_now (drop (i + 1) es))) (ap names_now more ∙ (names_now-append first found ∙ ap (λ z. names_now first ++ z) has))
    ∙ (append_assoc (names_now first) (vars x.now) (vars_of (exps_now (drop (i + 1) es)))
    ∙ ap (λ z. names_now first ++ vars_of (exps_now z)) (sym (drop-cons es i x h ∙ (ap (λ z. z ∷ drop (suc i) es) (sym is) ∙ ap (λ n. x ∷ drop n es) (sym (add-one i))))))
