-- What is broken in premises, rules and clauses, made of what is broken in their parts.
use Rattle.std.proofs.Common.{◌≡◌, ◌↔◌, ℕ, ◌+◌, ◌<◌, ◌≤◌, refl, sym, ap, ◌∙◌, subst, List, [], ◌∷◌, ◌++◌, Bool, Option, length, drop, get_or, append_assoc, append-nil}
use Rattle.std.specs.Prelude.{IsTrue, if◌then◌else◌}
use Rattle.std.proofs.lemmas.List.{drop_all}
use Rattle.st_il.specs.declared.definition.ClauseDef.{ClauseDef}
use Rattle.st_il.specs.declared.definition.Il.{Il}
use Rattle.st_il.specs.declared.definition.Listed.{Listed}
use Rattle.st_il.specs.declared.definition.RuleDef.{RuleDef}
use Rattle.st_il.specs.declared.expression.IlExp.{IlExp}
use Rattle.st_il.specs.declared.expression.IlPrem.{IlPrem, out-IlPrem}
use Rattle.st_il.specs.declared.expression.IlPrem.TheOpen.{IlPrem-F}
use Rattle.st_il.specs.declared.expression.Iteration.{Iteration}
use Rattle.st_il.specs.declared.ty.Ty.{Ty}
use Rattle.st_il.specs.declared.ty.Ty.TheVariants as ty
use Rattle.st_il.specs.declared.type_rule.TypeRule.{TypeRule}
use Rattle.st_il.specs.declared.type_rule.TypeRule.TheVariants.{T4, T12, T14}
use Rattle.st_il.specs.Names.{Name}
use Rattle.st_il.specs.Definitions.{syntaxes}
use Rattle.st_semantics.specs.Iterations.{count_of}
use Rattle.st_semantics.specs.Scopes.{listed_inside}
use Rattle.st_ilcheck.specs.Naming.{each_kept}
use Rattle.st_ilcheck.specs.Parts.{standing}
use Rattle.st_ilcheck.specs.Rules.{Is, AllAre, IsCallOf}
use Rattle.st_ilcheck.specs.Typings.{HasTyping, HaveTypings}
use Rattle.st_ilcheck.specs.Premises as premise
use Rattle.st_ilcheck.specs.Premises.{IsJudgementOf, PremBreaks, PremsBreak}
use Rattle.st_ilcheck.specs.Definitions.{RuleBreaks, ClauseBreaks, IsResultOf}
use Rattle.st_ilcheck.specs.inner.Counts.{CountBreaks}
use Rattle.st_ilcheck.specs.inner.Clauses.{ArgumentsBreak, ResultBreaks}
use Rattle.st_ilcheck.proofs.Drops.{from}
use Rattle.st_ilcheck.proofs.Builds.{told-kept, told-by}

module _ (il : Il) (ls : List Listed) where
  pub condition-made : (e : IlExp) (o : Option Ty) (inside all : List TypeRule) (kept : Bool) → HasTyping il ls e o inside → (IsTrue kept ↔ Is (syntaxes il) o ty.Bool)
      → all ≡ inside ++ (if kept then [] else T4 ∷ []) → (p : IlPrem) → out-IlPrem p ≡ IlPrem-F.If e → PremBreaks il ls p all
  condition-made e o inside all kept t h w p is =
      premise.PremBreaks.condition e o inside (if kept then [] else T4 ∷ []) is t (told-kept T4 (Is (syntaxes il) o ty.Bool) kept h) w

  pub goal-made : (relation : Name) (es : List IlExp) (os us : List (Option Ty)) (inside all : List TypeRule) (kept : Bool) → HaveTypings il (standing ls es) os inside → us ≡ os → (IsTrue kept ↔ IsJudgementOf il relation us)
      → all ≡ inside ++ (if kept then [] else T12 ∷ []) → (p : IlPrem) → out-IlPrem p ≡ IlPrem-F.Goal relation es → PremBreaks il ls p all
  goal-made relation es os us inside all kept hs e h w p is =
      premise.PremBreaks.goal relation es os inside (if kept then [] else T12 ∷ []) is hs
      (told-kept T12 (IsJudgementOf il relation os) kept (subst (λ z. IsTrue kept ↔ IsJudgementOf il relation z) e h)) w

  pub count-made : (how : Iteration) (es : List IlExp) (os us : List (Option Ty)) (inside all : List TypeRule) (kept : Bool) → es ≡ count_of how → HaveTypings il (standing ls es) os inside → us ≡ os
      → (IsTrue kept ↔ AllAre (syntaxes il) ty.Nat us) → all ≡ inside ++ (if kept then [] else T14 ∷ []) → CountBreaks il ls how all
  count-made how es os us inside all kept p hs e h w = record {
    os = os;
    counted = inside;
    here = if kept then [] else T14 ∷ [];
    count = subst (λ z. HaveTypings il (standing ls z) os inside) p hs;
    natural = told-kept T14 (AllAre (syntaxes il) ty.Nat os) kept (subst (λ z. IsTrue kept ↔ AllAre (syntaxes il) ty.Nat z) e h);
    whole = w;
  }

  pub each-made : (p : IlPrem) (how : Iteration) (xs ns ms : List Name) (body b d : IlPrem) (given : List Listed) (counted named inside all : List TypeRule) (kept : Bool)
      → out-IlPrem p ≡ IlPrem-F.Each how xs body → ns ≡ xs → ms ≡ xs → b ≡ body → d ≡ body → CountBreaks il ls how counted → kept ≡ each_kept how ns ls b
      → named ≡ counted ++ (if kept then [] else T14 ∷ []) → given ≡ listed_inside how ms ls → PremBreaks il given d inside → all ≡ named ++ inside → PremBreaks il ls p all
  each-made p how xs ns ms body b d given counted named inside all kept is e f g k c h n l t w =
      let same : each_kept how ns ls b ≡ each_kept how xs ls body = ap (λ z. each_kept how z ls b) e ∙ ap (each_kept how xs ls) g in
      let scope : given ≡ listed_inside how xs ls = l ∙ ap (λ z. listed_inside how z ls) f in
      let one : List TypeRule = if kept then [] else T14 ∷ [] in
      premise.PremBreaks.each how xs body c.os c.counted c.here one inside is c.count c.natural (told-by T14 kept (each_kept how xs ls body) (h ∙ same))
      (subst (λ z. PremBreaks il (listed_inside how xs ls) z inside) k (subst (λ z. PremBreaks il z d inside) scope t))
      (w ∙ (ap (λ z. z ++ inside) (n ∙ ap (λ z. z ++ one) c.whole)
      ∙ (append_assoc (c.counted ++ c.here) one inside ∙ append_assoc c.counted c.here (one ++ inside))))

  module _ (ps : List IlPrem) (i : ℕ) (broken : List TypeRule) (so_far : (bs : List TypeRule) → PremsBreak il ls (drop i ps) bs → PremsBreak il ls ps (broken ++ bs)) where
    pub prems-next : (p : IlPrem) (first longer : List TypeRule) → i < length ps → p ≡ get_or ps i p → PremBreaks il ls p first → longer ≡ broken ++ first
        → (bs : List TypeRule) → PremsBreak il ls (drop (i + 1) ps) bs → PremsBreak il ls ps (longer ++ bs)
    prems-next p first longer h is t a bs k =
        let whole = so_far (first ++ bs) (subst (λ z. PremsBreak il ls z (first ++ bs)) (sym (from ps i p h is)) (premise.PremsBreak.more first bs t k refl)) in
        subst (PremsBreak il ls ps) (sym (ap (λ z. z ++ bs) a ∙ append_assoc broken first bs)) whole

    pub prems-end : length ps ≤ i → PremsBreak il ls ps broken
    prems-end h = subst (PremsBreak il ls ps) (append-nil broken) (so_far [] (subst (λ z. PremsBreak il ls z []) (sym (drop_all i ps h)) premise.PremsBreak.none))

module _ (il : Il) where
  pub rule-made : (r : RuleDef) (ls : List Listed) (es : List IlExp) (ps : List IlPrem) (os us : List (Option Ty)) (inside concluded premises all : List TypeRule) (kept : Bool) → ls ≡ r.variables → es ≡ r.conclusion → ps ≡ r.premises
      → HaveTypings il (standing ls es) os inside → us ≡ os → (IsTrue kept ↔ IsJudgementOf il r.relation us) → concluded ≡ inside ++ (if kept then [] else T12 ∷ [])
      → PremsBreak il ls ps premises → all ≡ concluded ++ premises → RuleBreaks il r all
  rule-made r ls es ps os us inside concluded premises all kept a b d hs e h c m w = record {
    os = os;
    inside = inside;
    here = if kept then [] else T12 ∷ [];
    premises = premises;
    conclusion = subst (λ z. HaveTypings il (standing z r.conclusion) os inside) a (subst (λ z. HaveTypings il (standing ls z) os inside) b hs);
    concluded = told-kept T12 (IsJudgementOf il r.relation os) kept (subst (λ z. IsTrue kept ↔ IsJudgementOf il r.relation z) e h);
    met = subst (λ z. PremsBreak il z r.premises premises) a (subst (λ z. PremsBreak il ls z premises) d m);
    whole = w ∙ (ap (λ z. z ++ premises) c ∙ append_assoc inside (if kept then [] else T12 ∷ []) premises);
  }

  pub arguments-made : (c : ClauseDef) (ls : List Listed) (es : List IlExp) (os us : List (Option Ty)) (inside all : List TypeRule) (kept : Bool) → ls ≡ c.variables → es ≡ c.args → HaveTypings il (standing ls es) os inside → us ≡ os
      → (IsTrue kept ↔ IsCallOf il c.fun us) → all ≡ inside ++ (if kept then [] else T12 ∷ []) → ArgumentsBreak il c all
  arguments-made c ls es os us inside all kept a b hs e h w = record {
    os = os;
    inside = inside;
    here = if kept then [] else T12 ∷ [];
    arguments = subst (λ z. HaveTypings il (standing z c.args) os inside) a (subst (λ z. HaveTypings il (standing ls z) os inside) b hs);
    applied = told-kept T12 (IsCallOf il c.fun os) kept (subst (λ z. IsTrue kept ↔ IsCallOf il c.fun z) e h);
    whole = w;
  }

  pub result-made : (c : ClauseDef) (ls : List Listed) (o : Option Ty) (inside all : List TypeRule) (kept : Bool) → ls ≡ c.variables → HasTyping il ls c.result o inside → (IsTrue kept ↔ IsResultOf il c.fun o)
      → all ≡ inside ++ (if kept then [] else T12 ∷ []) → ResultBreaks il c all
  result-made c ls o inside all kept a t h w = record {
    o = o;
    inside = inside;
    here = if kept then [] else T12 ∷ [];
    result = subst (λ z. HasTyping il z c.result o inside) a t;
    given = told-kept T12 (IsResultOf il c.fun o) kept h;
    whole = w;
  }

  pub clause-made : (c : ClauseDef) (ls : List Listed) (ps : List IlPrem) (arguments results premises more all : List TypeRule) → ls ≡ c.variables → ps ≡ c.premises → ArgumentsBreak il c arguments → ResultBreaks il c results
      → PremsBreak il ls ps premises → more ≡ results ++ premises → all ≡ arguments ++ more → ClauseBreaks il c all
  clause-made c ls ps arguments results premises more all a b x y m p w = record {
    os = x.os;
    o = y.o;
    in_arguments = x.inside;
    by_arguments = x.here;
    in_result = y.inside;
    by_result = y.here;
    premises = premises;
    arguments = x.arguments;
    applied = x.applied;
    result = y.result;
    given = y.given;
    met = subst (λ z. PremsBreak il z c.premises premises) a (subst (λ z. PremsBreak il ls z premises) b m);
    whole = w ∙ (ap (λ z. z ++ more) x.whole ∙ (append_assoc x.inside x.here more
        ∙ ap (λ z. x.inside ++ (x.here ++ z)) (p ∙ (ap (λ z. z ++ premises) y.whole ∙ append_assoc y.inside y.here premises))));
  }
