-- An expression has one type at most, and the same rules are broken in it; so of premises, rules and clauses.
use Rattle.std.proofs.Common.{◌≡◌, refl, sym, ap, ap₂, ◌∙◌, subst, List, ◌∷◌, ◌++◌, Option, Some, None, inl, inr}
use Rattle.std.specs.Prelude.{IsTrue}
use Rattle.st_il.specs.declared.definition.ClauseDef.{ClauseDef}
use Rattle.st_il.specs.declared.definition.Il.{Il}
use Rattle.st_il.specs.declared.definition.Listed.{Listed}
use Rattle.st_il.specs.declared.definition.RuleDef.{RuleDef}
use Rattle.st_il.specs.declared.definition.SyntaxDef.{SyntaxDef}
use Rattle.st_il.specs.declared.expression.IlExp.{IlExp, out-IlExp}
use Rattle.st_il.specs.declared.expression.IlPrem.{IlPrem}
use Rattle.st_il.specs.declared.expression.IlPrem.TheOpen.{IlPrem-F}
use Rattle.st_il.specs.declared.ty.Ty.{Ty, out-Ty}
use Rattle.st_il.specs.declared.ty.Ty.TheOpen.{Ty-F}
use Rattle.st_il.specs.declared.ty.Ty.TheVariants as ty
use Rattle.st_il.specs.declared.type_rule.TypeRule.{TypeRule}
use Rattle.st_il.specs.declared.type_rule.TypeRule.TheVariants.{T4, T12, T14}
use Rattle.st_type_table.proofs.MeansLemmas.{Means-single}
use Rattle.st_type_table.proofs.CasesLemmas.{HasFields-single}
use Rattle.st_il.specs.Names.{Name}
use Rattle.st_il.specs.Definitions.{syntaxes}
use Rattle.st_semantics.specs.Iterations.{count_of}
use Rattle.st_semantics.specs.OperationTypes.{Level, field_type}
use Rattle.st_semantics.specs.Scopes.{listed_inside}
use Rattle.st_ilcheck.specs.FoundTypes.{Origin, Named, OfFirst, OfField, OfElement, OfParts, OfOption, OfBody, origin, TypeFrom, Chosen, ChosenFrom, IsFieldOf, IsElementOf, first_type}
use Rattle.st_ilcheck.specs.Naming.{each_kept}
use Rattle.st_ilcheck.specs.Parts.{Part, standing}
use Rattle.st_ilcheck.specs.Rules.{Is, AllAre, IsCallOf, Told}
use Rattle.st_ilcheck.specs.Typings.{HasTyping, HaveTypings, BreaksHere, typing, none, more}
use Rattle.st_ilcheck.specs.Premises as premise
use Rattle.st_ilcheck.specs.Premises.{PremBreaks, PremsBreak, IsJudgementOf}
use Rattle.st_ilcheck.specs.Definitions.{RuleBreaks, ClauseBreaks, IsResultOf}

-- the elements, where the type is a list
abbrev list_element : {X : Type 0} → Ty-F X → Option X
list_element (Ty-F.List t) = Some t
list_element _ = None

-- the elements of a list
list-elements : (x : Ty) → list_element (out-Ty (ty.List x)) ≡ Some x
list-elements x = ap list_element (ty.outs-List x)

-- lists are one only where their elements are
list-same : (x y : Ty) → ty.List x ≡ ty.List y → x ≡ y
list-same x y e = let f : Some x ≡ Some y = sym (list-elements x) ∙ ap (λ z. list_element (out-Ty z)) e ∙ list-elements y in cc

pub Told-single : (rule : TypeRule) (P : Type 0) (a b : List TypeRule) → Told rule P a → Told rule P b → a ≡ b
Told-single rule P a b (inl h) (inl k) = h.1 ∙ sym k.1
Told-single rule P a b (inl h) (inr k) = absurd (k.0 h.0)
Told-single rule P a b (inr h) (inl k) = absurd (h.0 k.0)
Told-single rule P a b (inr h) (inr k) = h.1 ∙ sym k.1

Chosen-single : (P : Ty → Type 0) → ((t u : Ty) → P t → P u → t ≡ u) → (o p : Option Ty) → Chosen P o → Chosen P p → o ≡ p
Chosen-single P one None None h k = refl
Chosen-single P one None (Some t) h k = absurd (h t k)
Chosen-single P one (Some t) None h k = absurd (k t h)
Chosen-single P one (Some t) (Some u) h k = ap Some (one t u h k)

ChosenFrom-single : (R : Ty → Ty → Type 0) → ((s t u : Ty) → R s t → R s u → t ≡ u) → (f o p : Option Ty)
    → ChosenFrom R f o → ChosenFrom R f p → o ≡ p
ChosenFrom-single R one None o p h k = h ∙ sym k
ChosenFrom-single R one (Some s) o p h k = Chosen-single (R s) (one s) o p h k

module _ (defs : List SyntaxDef) where
  pub IsFieldOf-single : (name : Name) (s t u : Ty) → IsFieldOf defs name s t → IsFieldOf defs name s u → t ≡ u
  IsFieldOf-single name s t u h k =
      let e : h.declared ≡ k.declared = HasFields-single defs s h.declared k.declared h.has k.has in
      let f : Some t ≡ Some u = sym h.found ∙ ap (field_type name) e ∙ k.found in cc

  pub IsElementOf-single : (s t u : Ty) → IsElementOf defs s t → IsElementOf defs s u → t ≡ u
  IsElementOf-single s t u h k = list-same t u (Means-single defs s (ty.List t) (ty.List u) h k)

  TypeFrom-single : (from : Origin) (os : List (Option Ty)) (o p : Option Ty) → TypeFrom defs from os o → TypeFrom defs from os p → o ≡ p
  TypeFrom-single (Named t) os o p h k = h ∙ sym k
  TypeFrom-single OfFirst os o p h k = h ∙ sym k
  TypeFrom-single (OfField name) os o p h k = ChosenFrom-single (IsFieldOf defs name) (IsFieldOf-single name) (first_type os) o p h k
  TypeFrom-single OfElement os o p h k = ChosenFrom-single (IsElementOf defs) IsElementOf-single (first_type os) o p h k
  TypeFrom-single OfParts os o p h k = h ∙ sym k
  TypeFrom-single OfOption os o p h k = h ∙ sym k
  TypeFrom-single (OfBody kind) os o p h k = h ∙ sym k

pub joined : (a b c d : List TypeRule) → a ≡ c → b ≡ d → a ++ b ≡ c ++ d
joined a b c d e f = ap (λ z. z ++ b) e ∙ ap (λ z. c ++ z) f

module _ (il : Il) where
  BreaksHere-single : (ls : List Listed) (y : Level) (os : List (Option Ty)) (a b : List TypeRule) → BreaksHere il ls y os a → BreaksHere il ls y os b → a ≡ b
  BreaksHere-single ls y os a b h k =
      h.whole
      ∙ joined h.by_form (h.by_path ++ h.by_names) k.by_form (k.by_path ++ k.by_names) (Told-single _ _ h.by_form k.by_form h.form k.form)
      (joined h.by_path h.by_names k.by_path k.by_names (Told-single _ _ h.by_path k.by_path h.path k.path) (Told-single _ _ h.by_names k.by_names h.names k.names))
      ∙ sym k.whole

  mutual
    pub HasTyping-single : {ls : List Listed} {e : IlExp} {o p : Option Ty} {bs cs : List TypeRule}
        → HasTyping il ls e o bs → HasTyping il ls e p cs → (o ≡ p) × (bs ≡ cs)
    HasTyping-single {ls = ls} {e = e} {o = o} {p = p} (typing os inside here hs from broken whole) (typing us within other ks turned breaks all) =
        let s = HaveTypings-single hs ks in
        let b : here ≡ other =
        BreaksHere-single ls (out-IlExp e) us here other (subst (λ z. BreaksHere il ls (out-IlExp e) z here) s.0 broken) breaks in (
          TypeFrom-single (syntaxes il) (origin il ls (out-IlExp e)) us o p
              (subst (λ z. TypeFrom (syntaxes il) (origin il ls (out-IlExp e)) z o) s.0 from) turned,
          whole ∙ joined inside here within other s.1 b ∙ sym all,
        )

    pub HaveTypings-single : {ps : List Part} {os us : List (Option Ty)} {bs cs : List TypeRule}
        → HaveTypings il ps os bs → HaveTypings il ps us cs → (os ≡ us) × (bs ≡ cs)
    HaveTypings-single none none = (refl, refl)
    HaveTypings-single (more first rest t h e) (more first' rest' u k f) =
        let a = HasTyping-single t u in
        let b = HaveTypings-single h k in
        (ap₂ (λ x y. x ∷ y) a.0 b.0, e ∙ joined first rest first' rest' a.1 b.1 ∙ sym f)

  -- ---- premises

  pub PremBreaks-single : {ls : List Listed} {p : IlPrem} {bs cs : List TypeRule} → PremBreaks il ls p bs → PremBreaks il ls p cs → bs ≡ cs
  PremBreaks-single {ls = ls} (premise.PremBreaks.condition e o inside here is h t w) (premise.PremBreaks.condition e' o' inside' here' is' h' t' w') =
      let q : IlPrem-F.If e ≡ IlPrem-F.If e' = sym is ∙ is' in
      let r : e ≡ e' = cc in
      let s = HasTyping-single (subst (λ z. HasTyping il ls z o inside) r h) h' in
      let u = Told-single T4 _ here here' (subst (λ z. Told T4 (Is (syntaxes il) z ty.Bool) here) s.0 t) t' in
      w ∙ joined inside here inside' here' s.1 u ∙ sym w'
  PremBreaks-single {ls = ls} (premise.PremBreaks.condition e o inside here is h t w) (premise.PremBreaks.goal relation' es' os' inside' here' is' h' t' w') =
      let q : IlPrem-F.If e ≡ IlPrem-F.Goal relation' es' = sym is ∙ is' in cc
  PremBreaks-single {ls = ls} (premise.PremBreaks.condition e o inside here is h t w) (premise.PremBreaks.otherwise is' w') =
      let q : IlPrem-F.If e ≡ IlPrem-F.Otherwise = sym is ∙ is' in cc
  PremBreaks-single {ls = ls} (premise.PremBreaks.condition e o inside here is h t w) (premise.PremBreaks.each how' xs' body' os' counted' here' named' inside' is' hs' t' n' h' w') =
      let q : IlPrem-F.If e ≡ IlPrem-F.Each how' xs' body' = sym is ∙ is' in cc
  PremBreaks-single {ls = ls} (premise.PremBreaks.goal relation es os inside here is h t w) (premise.PremBreaks.condition e' o' inside' here' is' h' t' w') =
      let q : IlPrem-F.Goal relation es ≡ IlPrem-F.If e' = sym is ∙ is' in cc
  PremBreaks-single {ls = ls} (premise.PremBreaks.goal relation es os inside here is h t w) (premise.PremBreaks.goal relation' es' os' inside' here' is' h' t' w') =
      let q : IlPrem-F.Goal relation es ≡ IlPrem-F.Goal relation' es' = sym is ∙ is' in
      let r : relation ≡ relation' = cc in
      let v : es ≡ es' = cc in
      let s = HaveTypings-single (subst (λ z. HaveTypings il (standing ls z) os inside) v h) h' in
      let u = Told-single T12 _ here here'
      (subst (λ z. Told T12 (IsJudgementOf il relation' z) here) s.0 (subst (λ z. Told T12 (IsJudgementOf il z os) here) r t)) t' in
      w ∙ joined inside here inside' here' s.1 u ∙ sym w'
  PremBreaks-single {ls = ls} (premise.PremBreaks.goal relation es os inside here is h t w) (premise.PremBreaks.otherwise is' w') =
      let q : IlPrem-F.Goal relation es ≡ IlPrem-F.Otherwise = sym is ∙ is' in cc
  PremBreaks-single {ls = ls} (premise.PremBreaks.goal relation es os inside here is h t w) (premise.PremBreaks.each how' xs' body' os' counted' here' named' inside' is' hs' t' n' h' w') =
      let q : IlPrem-F.Goal relation es ≡ IlPrem-F.Each how' xs' body' = sym is ∙ is' in cc
  PremBreaks-single {ls = ls} (premise.PremBreaks.otherwise is w) (premise.PremBreaks.condition e' o' inside' here' is' h' t' w') =
      let q : IlPrem-F.Otherwise ≡ IlPrem-F.If e' = sym is ∙ is' in cc
  PremBreaks-single {ls = ls} (premise.PremBreaks.otherwise is w) (premise.PremBreaks.goal relation' es' os' inside' here' is' h' t' w') =
      let q : IlPrem-F.Otherwise ≡ IlPrem-F.Goal relation' es' = sym is ∙ is' in cc
  PremBreaks-single {ls = ls} (premise.PremBreaks.otherwise is w) (premise.PremBreaks.otherwise is' w') = w ∙ sym w'
  PremBreaks-single {ls = ls} (premise.PremBreaks.otherwise is w) (premise.PremBreaks.each how' xs' body' os' counted' here' named' inside' is' hs' t' n' h' w') =
      let q : IlPrem-F.Otherwise ≡ IlPrem-F.Each how' xs' body' = sym is ∙ is' in cc
  PremBreaks-single {ls = ls} (premise.PremBreaks.each how xs body os counted here named inside is hs t n h w) (premise.PremBreaks.condition e' o' inside' here' is' h' t' w') =
      let q : IlPrem-F.Each how xs body ≡ IlPrem-F.If e' = sym is ∙ is' in cc
  PremBreaks-single {ls = ls} (premise.PremBreaks.each how xs body os counted here named inside is hs t n h w) (premise.PremBreaks.goal relation' es' os' inside' here' is' h' t' w') =
      let q : IlPrem-F.Each how xs body ≡ IlPrem-F.Goal relation' es' = sym is ∙ is' in cc
  PremBreaks-single {ls = ls} (premise.PremBreaks.each how xs body os counted here named inside is hs t n h w) (premise.PremBreaks.otherwise is' w') =
      let q : IlPrem-F.Each how xs body ≡ IlPrem-F.Otherwise = sym is ∙ is' in cc
  PremBreaks-single {ls = ls} (premise.PremBreaks.each how xs body os counted here named inside is hs t n h w) (premise.PremBreaks.each how' xs' body' os' counted' here' named' inside' is' hs' t' n' h' w') =
      let q : IlPrem-F.Each how xs body ≡ IlPrem-F.Each how' xs' body' = sym is ∙ is' in
      let a : how ≡ how' = cc in
      let b : xs ≡ xs' = cc in
      let c : body ≡ body' = cc in
      let s = HaveTypings-single (subst (λ z. HaveTypings il (standing ls (count_of z)) os counted) a hs) hs' in
      let u = Told-single T14 _ here here' (subst (λ z. Told T14 (AllAre (syntaxes il) ty.Nat z) here) s.0 t) t' in
      let k : each_kept how xs ls body ≡ each_kept how' xs' ls body' =
      ap (λ z. each_kept z xs ls body) a ∙ ap (λ z. each_kept how' z ls body) b ∙ ap (each_kept how' xs' ls) c in
      let v = Told-single T14 _ named named' (subst (λ z. Told T14 (IsTrue z) named) k n) n' in
      let l : listed_inside how xs ls ≡ listed_inside how' xs' ls = ap (λ z. listed_inside z xs ls) a ∙ ap (λ z. listed_inside how' z ls) b in
      let m : PremBreaks il (listed_inside how' xs' ls) body' inside =
      subst (λ z. PremBreaks il z body' inside) l (subst (λ z. PremBreaks il (listed_inside how xs ls) z inside) c h) in
      let i = PremBreaks-single m h' in
      w
      ∙ joined counted (here ++ (named ++ inside)) counted' (here' ++ (named' ++ inside')) s.1
      (joined here (named ++ inside) here' (named' ++ inside') u (joined named inside named' inside' v i))
      ∙ sym w'

  pub PremsBreak-single : {ls : List Listed} {ps : List IlPrem} {bs cs : List TypeRule} → PremsBreak il ls ps bs → PremsBreak il ls ps cs → bs ≡ cs
  PremsBreak-single premise.PremsBreak.none premise.PremsBreak.none = refl
  PremsBreak-single (premise.PremsBreak.more first rest h hs w) (premise.PremsBreak.more first' rest' k ks v) =
      w ∙ joined first rest first' rest' (PremBreaks-single h k) (PremsBreak-single hs ks) ∙ sym v

  -- ---- rules and clauses

  pub RuleBreaks-single : (r : RuleDef) (bs cs : List TypeRule) → RuleBreaks il r bs → RuleBreaks il r cs → bs ≡ cs
  RuleBreaks-single r bs cs h k =
      let s = HaveTypings-single h.conclusion k.conclusion in
      let u = Told-single T12 _ h.here k.here (subst (λ z. Told T12 (IsJudgementOf il r.relation z) h.here) s.0 h.concluded) k.concluded in
      h.whole ∙ joined h.inside (h.here ++ h.premises) k.inside (k.here ++ k.premises) s.1
      (joined h.here h.premises k.here k.premises u (PremsBreak-single h.met k.met)) ∙ sym k.whole

  pub ClauseBreaks-single : (c : ClauseDef) (bs cs : List TypeRule) → ClauseBreaks il c bs → ClauseBreaks il c cs → bs ≡ cs
  ClauseBreaks-single c bs cs h k =
      let s = HaveTypings-single h.arguments k.arguments in
      let u = Told-single T12 _ h.by_arguments k.by_arguments (subst (λ z. Told T12 (IsCallOf il c.fun z) h.by_arguments) s.0 h.applied) k.applied in
      let r = HasTyping-single h.result k.result in
      let v = Told-single T12 _ h.by_result k.by_result (subst (λ z. Told T12 (IsResultOf il c.fun z) h.by_result) r.0 h.given) k.given in
      h.whole
      ∙ joined h.in_arguments (h.by_arguments ++ (h.in_result ++ (h.by_result ++ h.premises))) k.in_arguments (k.by_arguments ++ (k.in_result ++ (k.by_result ++ k.premises))) s.1
      (joined h.by_arguments (h.in_result ++ (h.by_result ++ h.premises)) k.by_arguments (k.in_result ++ (k.by_result ++ k.premises)) u
      (joined h.in_result (h.by_result ++ h.premises) k.in_result (k.by_result ++ k.premises) r.1
      (joined h.by_result h.premises k.by_result k.premises v (PremsBreak-single h.met k.met))))
      ∙ sym k.whole
