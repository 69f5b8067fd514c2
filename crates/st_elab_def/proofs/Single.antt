-- A source has one outcome at most.
use Rattle.std.proofs.Common.{◌≡◌, refl, sym, ap, ◌∙◌, subst, ℕ, List, [], ◌∷◌, Some, inl, inr}
use Rattle.st_num.specs.declared.span.Span.{Span}
use Rattle.st_el.specs.declared.expression.Exp.{Exp}
use Rattle.st_el.specs.declared.definition.Def.{Def}
use Rattle.st_el.specs.declared.definition.DefNode.{DefNode}
use Rattle.st_el.specs.declared.definition.DefNode.TheVariants.{Rule, Clause}
use Rattle.st_el.specs.declared.definition.Prem.{Prem}
use Rattle.st_il.specs.declared.definition.ClauseDef.{ClauseDef}
use Rattle.st_il.specs.declared.definition.FunDef.{FunDef}
use Rattle.st_il.specs.declared.definition.IlDef.{IlDef}
use Rattle.st_il.specs.declared.definition.IlDef.TheVariants as il
use Rattle.st_il.specs.declared.definition.RelationDef.{RelationDef}
use Rattle.st_il.specs.declared.definition.RuleDef.{RuleDef}
use Rattle.st_elab_table.specs.declared.decls.Decls.{Decls}
use Rattle.st_elab_table.specs.Questions.{Breach as PartBreach}
use Rattle.st_elab_table.specs.Rules.{ElabRule, RuleBreach}
use Rattle.st_elab_table.specs.Clauses.{ClauseParts, parts_of, ElabClause, ClauseBreach}
use Rattle.st_elab_exp.proofs.Defining.{rule_one, clause_one}
use Rattle.st_elab_def.specs.declared.breach.Breach.{Breach}
use Rattle.st_elab_def.specs.declared.elaborated.Elaborated.{Elaborated}
use Rattle.st_elab_def.specs.DeclsOf.{declared_at, declared_by, decls_of}
use Rattle.st_elab_def.specs.Fragments.{joined}
use Rattle.st_elab_def.specs.Contents.{ElabRuleOf, RuleBreachOf, ElabClauseOf, ClauseBreachOf}
use Rattle.st_elab_def.specs.Phases.{Asked, condition, rule, clause, Question, questions}
use Rattle.st_elab_def.specs.Breaches.{Passes, Fails, IsBrokenBy, AllPass, FirstBreach, IsBreach}
use Rattle.st_elab_def.specs.Elaboration.{ElabDef, declaration, rule as rule_def, clause as clause_def, ElabDefs, IsElaborated}

module _ (D : Decls) where
  -- ---- rules and clauses, by the names of what they belong to

  rule_at : (r name : List ℕ) (e : Exp) (ps : List Prem) (x : RuleDef) (h : ElabRuleOf D r name e ps x) (R : RelationDef)
      → Some h.relation ≡ Some R → ElabRule D R name e ps x
  rule_at r name e ps x h R s =
      let same : h.relation ≡ R = cc in
      subst (λ S. ElabRule D S name e ps x) same h.elaborated

  rule_breach_at : (r : List ℕ) (e : Exp) (ps : List Prem) (b : PartBreach) (h : RuleBreachOf D r e ps b) (R : RelationDef)
      → Some h.relation ≡ Some R → RuleBreach D R e ps b
  rule_breach_at r e ps b h R s =
      let same : h.relation ≡ R = cc in
      subst (λ S. RuleBreach D S e ps b) same h.broken

  clause_at : (name : List ℕ) (c : ClauseParts) (x : ClauseDef) (h : ElabClauseOf D name c x) (f : FunDef)
      → Some h.fun ≡ Some f → ElabClause D f c x
  clause_at name c x h f s =
      let same : h.fun ≡ f = cc in
      subst (λ g. ElabClause D g c x) same h.elaborated

  clause_breach_at : (name : List ℕ) (at : Span) (c : ClauseParts) (b : PartBreach) (h : ClauseBreachOf D name at c b) (f : FunDef)
      → Some h.fun ≡ Some f → ClauseBreach D f at c b
  clause_breach_at name at c b h f s =
      let same : h.fun ≡ f = cc in
      subst (λ g. ClauseBreach D g at c b) same h.broken

  -- ---- what is asked

  Passes-Fails : (at : Span) (a : Asked) (b : PartBreach) → Passes D a → Fails D at a b → ⊥
  Passes-Fails at (condition c) b h f = f.0 h
  Passes-Fails at (rule r name e ps) b (x, h) f =
      (rule_one D f.relation name e ps).not_both x b (rule_at r name e ps x h f.relation (sym h.declared ∙ f.declared)) f.broken
  Passes-Fails at (clause name c) b (x, h) f =
      (clause_one D f.fun at c).not_both x b (clause_at name c x h f.fun (sym h.declared ∙ f.declared)) f.broken

  Fails-single : (at : Span) (a : Asked) (b c : PartBreach) → Fails D at a b → Fails D at a c → b ≡ c
  Fails-single at (condition k) b c f g = f.1 ∙ sym g.1
  Fails-single at (rule r name e ps) b c f g =
      (rule_one D g.relation name e ps).one_breach b c (rule_breach_at r e ps b f g.relation (sym f.declared ∙ g.declared)) g.broken
  Fails-single at (clause name k) b c f g =
      (clause_one D g.fun at k).one_breach b c (clause_breach_at name at k b f g.fun (sym f.declared ∙ g.declared)) g.broken

  -- the same number, place and rule make the same breach
  same_breach : (q : Question) (b c : Breach) → IsBrokenBy D q b → IsBrokenBy D q c → b ≡ c
  same_breach q b c (e, f) (g, h) =
      let same = Fails-single q.placed.at q.placed.asked _ _ f h in
      let number : b.definition ≡ c.definition = e ∙ sym g in
      λ i. record { definition = number i; at = (same i).at; rule = (same i).rule }

  pub FirstBreach-single : (qs : List Question) (b c : Breach) → FirstBreach D qs b → FirstBreach D qs c → b ≡ c
  FirstBreach-single [] b c h k = absurd h
  FirstBreach-single (q ∷ qs) b c (inl h) (inl k) = same_breach q b c h k
  FirstBreach-single (q ∷ qs) b c (inl h) (inr (a, k)) = absurd (Passes-Fails q.placed.at q.placed.asked _ a h.1)
  FirstBreach-single (q ∷ qs) b c (inr (a, h)) (inl k) = absurd (Passes-Fails q.placed.at q.placed.asked _ a k.1)
  FirstBreach-single (q ∷ qs) b c (inr (a, h)) (inr (z, k)) = FirstBreach-single qs b c h k

  pub AllPass-FirstBreach : (qs : List Question) (b : Breach) → AllPass D qs → FirstBreach D qs b → ⊥
  AllPass-FirstBreach [] b h k = k
  AllPass-FirstBreach (q ∷ qs) b (a, h) (inl k) = Passes-Fails q.placed.at q.placed.asked _ a k.1
  AllPass-FirstBreach (q ∷ qs) b (a, h) (inr (z, k)) = AllPass-FirstBreach qs b h k

  -- ---- definitions

  declares_none : (def : Def) (node : DefNode) (x : IlDef) → def.node ≡ node → declared_at def.hints node ≡ [] → declared_by def ≡ x ∷ [] → ⊥
  declares_none def node x e none h =
      let same : declared_at def.hints def.node ≡ declared_at def.hints node = ap (declared_at def.hints) e in cc

  ElabDef-single : (def : Def) (x y : IlDef) → ElabDef D def x → ElabDef D def y → x ≡ y
  ElabDef-single def x y (declaration h) (declaration k) = cc
  ElabDef-single def x y (declaration h) (rule_def r name e ps z n k s) = absurd (declares_none def (Rule r name e ps) x n refl h)
  ElabDef-single def x y (declaration h) (clause_def name args e ps z n k s) = absurd (declares_none def (Clause name args e ps) x n refl h)
  ElabDef-single def x y (rule_def r name e ps z n k s) (declaration h) = absurd (declares_none def (Rule r name e ps) y n refl h)
  ElabDef-single def x y (clause_def name args e ps z n k s) (declaration h) = absurd (declares_none def (Clause name args e ps) y n refl h)
  ElabDef-single def x y (rule_def r name e ps z n k s) (clause_def name2 args e2 ps2 z2 n2 k2 s2) = absurd (differ (sym n ∙ n2))
    where
      differ : Rule r name e ps ≡ Clause name2 args e2 ps2 → ⊥
      differ p = cc
  ElabDef-single def x y (clause_def name args e ps z n k s) (rule_def r name2 e2 ps2 z2 n2 k2 s2) = absurd (differ (sym n2 ∙ n))
    where
      differ : Rule r name2 e2 ps2 ≡ Clause name args e ps → ⊥
      differ p = cc
  ElabDef-single def x y (rule_def r name e ps z n k s) (rule_def r2 name2 e2 ps2 z2 n2 k2 s2) =
      let node : Rule r2 name2 e2 ps2 ≡ Rule r name e ps = sym n2 ∙ n in
      let a : r2 ≡ r = cc in
      let b : name2 ≡ name = cc in
      let c : e2 ≡ e = cc in
      let d : ps2 ≡ ps = cc in
      let other : ElabRuleOf D r name e ps z2 =
      subst (λ u. ElabRuleOf D u name e ps z2) a (subst (λ u. ElabRuleOf D r2 u e ps z2) b (subst (λ u. ElabRuleOf D r2 name2 u ps z2) c (subst (λ u. ElabRuleOf D r2 name2 e2 u z2) d k2))) in
      let same : z ≡ z2 = (rule_one D other.relation name e ps).one z z2 (rule_at r name e ps z k other.relation (sym k.declared ∙ other.declared)) other.elaborated in
      s ∙ ap il.Rule same ∙ sym s2
  ElabDef-single def x y (clause_def name args e ps z n k s) (clause_def name2 args2 e2 ps2 z2 n2 k2 s2) =
      let node : Clause name2 args2 e2 ps2 ≡ Clause name args e ps = sym n2 ∙ n in
      let a : name2 ≡ name = cc in
      let b : args2 ≡ args = cc in
      let c : e2 ≡ e = cc in
      let d : ps2 ≡ ps = cc in
      let parts : parts_of args2 e2 ps2 ≡ parts_of args e ps = λ i. parts_of (b i) (c i) (d i) in
      let other : ElabClauseOf D name (parts_of args e ps) z2 =
      subst (λ u. ElabClauseOf D u (parts_of args e ps) z2) a (subst (λ u. ElabClauseOf D name2 u z2) parts k2) in
      let same : z ≡ z2 = (clause_one D other.fun def.at (parts_of args e ps)).one z z2 (clause_at name (parts_of args e ps) z k other.fun (sym k.declared ∙ other.declared)) other.elaborated in
      s ∙ ap il.Clause same ∙ sym s2

  ElabDefs-single : (defs : List Def) (xs ys : List IlDef) → ElabDefs D defs xs → ElabDefs D defs ys → xs ≡ ys
  ElabDefs-single [] [] [] h k = refl
  ElabDefs-single [] [] (y ∷ ys) h k = absurd k
  ElabDefs-single [] (x ∷ xs) ys h k = absurd h
  ElabDefs-single (def ∷ defs) [] ys h k = absurd h
  ElabDefs-single (def ∷ defs) (x ∷ xs) [] h k = absurd k
  ElabDefs-single (def ∷ defs) (x ∷ xs) (y ∷ ys) (h, hs) (k, ks) =
      let a = ElabDef-single def x y h k in
      let b = ElabDefs-single defs xs ys hs ks in
      λ i. a i ∷ b i

-- ---- sources

pub IsElaborated-single : (defs : List Def) (x y : Elaborated) → IsElaborated defs x → IsElaborated defs y → x ≡ y
IsElaborated-single defs x y h k =
    let same = ElabDefs-single (decls_of defs) (joined defs) x.il.defs y.il.defs h.definitions k.definitions in
    let sources : x.sources ≡ y.sources = h.sources ∙ sym k.sources in
    λ i. record { il = record { defs = same i }; sources = sources i }

pub IsBreach-single : (defs : List Def) (b c : Breach) → IsBreach defs b → IsBreach defs c → b ≡ c
IsBreach-single defs b c h k = FirstBreach-single (decls_of defs) (questions defs) b c h k

pub IsElaborated-IsBreach : (defs : List Def) (x : Elaborated) (b : Breach) → IsElaborated defs x → IsBreach defs b → ⊥
IsElaborated-IsBreach defs x b h k = AllPass-FirstBreach (decls_of defs) (questions defs) b h.sound k
