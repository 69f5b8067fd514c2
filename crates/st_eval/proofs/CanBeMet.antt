-- What a premise that can be met is by its form, what an `otherwise` comes to, and how high an
-- iterated premise is.
use Rattle.std.proofs.Common.{◌≡◌, ℕ, ◌+◌, refl, sym, ◌∙◌, ap, subst, List, [], ◌++◌, append-nil}
use Rattle.st_il.specs.declared.definition.Il.{Il}
use Rattle.st_il.specs.declared.definition.Listed.{Listed}
use Rattle.st_il.specs.declared.expression.IlExp.{IlExp}
use Rattle.st_il.specs.declared.expression.Iteration.{Iteration}
use Rattle.st_il.specs.declared.expression.IlPrem.{IlPrem, out-IlPrem, map-IlPrem, fold_out-IlPrem}
use Rattle.st_il.specs.declared.expression.IlPrem.TheOpen.{IlPrem-F}
use Rattle.st_il.specs.declared.value.Env.{Env}
use Rattle.st_il.specs.Names.{Name}
use Rattle.st_semantics.specs.Holding as h
use Rattle.st_semantics.proofs.Names.{prem-level}
use Rattle.st_eval.specs.Steps.{HasOnly, HoldsWith}
use Rattle.st_eval.specs.Meeting.{IsCondition}
use Rattle.st_eval.specs.CanBeMet as can
use Rattle.st_eval.specs.CanBeMet.{CanBeMet}
use Rattle.st_eval.specs.inner.Beside.{beside}
use Rattle.st_eval.specs.inner.AtElements.{CanMeetEach, prem_height, prem_height_at}

module _ (il : Il) (bound : List Name) (ls : List Listed) (p : IlPrem) where
  pub CanBeMet-condition : CanBeMet il bound ls p → (e : IlExp) → out-IlPrem p ≡ IlPrem-F.If e → IsCondition il bound ls e
  CanBeMet-condition (can.condition g eq c) e is =
      let both : IlPrem-F.If g ≡ IlPrem-F.If e = sym eq ∙ is in
      let same : g ≡ e = cc in
      subst (IsCondition il bound ls) same c
  CanBeMet-condition (can.otherwise eq) e is = let bad : IlPrem-F.Otherwise ≡ IlPrem-F.If e = sym eq ∙ is in cc
  CanBeMet-condition (can.each how xs body each f inside) e is = let bad : IlPrem-F.Each how xs body ≡ IlPrem-F.If e = sym each.is ∙ is in cc

  pub CanBeMet-goal : CanBeMet il bound ls p → (relation : Name) (es : List IlExp) → out-IlPrem p ≡ IlPrem-F.Goal relation es → ⊥
  CanBeMet-goal (can.condition g eq c) relation es is = let bad : IlPrem-F.If g ≡ IlPrem-F.Goal relation es = sym eq ∙ is in cc
  CanBeMet-goal (can.otherwise eq) relation es is = let bad : IlPrem-F.Otherwise ≡ IlPrem-F.Goal relation es = sym eq ∙ is in cc
  CanBeMet-goal (can.each how xs body each f inside) relation es is = let bad : IlPrem-F.Each how xs body ≡ IlPrem-F.Goal relation es = sym each.is ∙ is in cc

  pub CanBeMet-each : CanBeMet il bound ls p → (how : Iteration) (xs : List Name) (body : IlPrem) → out-IlPrem p ≡ IlPrem-F.Each how xs body → CanMeetEach il bound ls p how xs body
  CanBeMet-each (can.condition g eq c) how xs body is = let bad : IlPrem-F.If g ≡ IlPrem-F.Each how xs body = sym eq ∙ is in cc
  CanBeMet-each (can.otherwise eq) how xs body is = let bad : IlPrem-F.Otherwise ≡ IlPrem-F.Each how xs body = sym eq ∙ is in cc
  CanBeMet-each (can.each k ys b each f inside) how xs body is =
      let both : IlPrem-F.Each k ys b ≡ IlPrem-F.Each how xs body = sym each.is ∙ is in
      let kk : k ≡ how = cc in
      let yy : ys ≡ xs = cc in
      let bb : b ≡ body = cc in
      subst (CanMeetEach il bound ls p how xs) bb (subst (λ z. CanMeetEach il bound ls p how z b) yy (subst (λ z. CanMeetEach il bound ls p z ys b) kk (record { each = each; formed = f; inside = inside })))

  pub CanBeMet-parts : CanBeMet il bound ls p → (how : Iteration) (xs ys : List Name) (body b : IlPrem) → out-IlPrem p ≡ IlPrem-F.Each how xs body → ys ≡ xs → b ≡ body → CanMeetEach il bound ls p how ys b
  CanBeMet-parts can how xs ys body b is yy bb = subst (CanMeetEach il bound ls p how ys) (sym bb) (subst (λ z. CanMeetEach il bound ls p how z body) (sym yy) (CanBeMet-each can how xs body is))

-- an `otherwise` holds, and binds nothing
pub HoldsWith-otherwise : (il : Il) (n : ℕ) (bound : List Name) (ls : List Listed) (env : Env) (p : IlPrem) → out-IlPrem p ≡ IlPrem-F.Otherwise → HasOnly il ls bound env → HoldsWith il n bound ls env p (beside env (record { entries = [] }))
HoldsWith-otherwise il n bound ls env p is only = record {
  agrees = λ x i. refl;
  variables = subst (λ z. HasOnly il ls (bound ++ z) env) (sym (prem-level p IlPrem-F.Otherwise is)) (subst (λ z. HasOnly il ls z env) (sym (append-nil bound)) only);
  holds = h.otherwise is tt;
}

pub prem_height-each : (p : IlPrem) (how : Iteration) (xs : List Name) (body : IlPrem) → out-IlPrem p ≡ IlPrem-F.Each how xs body → prem_height p ≡ 3 + prem_height body
prem_height-each p how xs body is = fold_out-IlPrem ℕ prem_height_at p ∙ ap (λ z. prem_height_at (map-IlPrem IlPrem ℕ prem_height z)) is
