-- Rules and clauses that are elaborated break no rule on types.
use Rattle.std.proofs.Common.{◌≡◌, refl, sym, ap, ◌∙◌, subst, ℕ, List, [], ◌∷◌, ◌++◌, map, Some, inl}
use Rattle.std.specs.List.{AllByRecursion}
use Rattle.std.proofs.lemmas.List.Elements.{recursion_from_All}
use Rattle.st_el.specs.declared.expression.Exp.{Exp}
use Rattle.st_el.specs.declared.definition.Prem.{Prem}
use Rattle.st_il.specs.declared.definition.ClauseDef.{ClauseDef}
use Rattle.st_il.specs.declared.definition.FunDef.{FunDef}
use Rattle.st_il.specs.declared.definition.Il.{Il}
use Rattle.st_il.specs.declared.definition.Listed.{Listed}
use Rattle.st_il.specs.declared.definition.RelationDef.{RelationDef}
use Rattle.st_il.specs.declared.definition.RuleDef.{RuleDef}
use Rattle.st_il.specs.declared.expression.IlExp.{IlExp}
use Rattle.st_il.specs.declared.expression.IlPrem.{IlPrem}
use Rattle.st_il.specs.declared.ty.Ty.{Ty}
use Rattle.st_type_table.specs.Breach.{IsSound}
use Rattle.st_type_table.specs.Meaning.{Means}
use Rattle.st_type_table.proofs.Measure.{Means-total}
use Rattle.st_il.specs.Names.{flattened}
use Rattle.st_il.specs.Definitions.{syntaxes, relations, funs_in, relation_named as declared_relation}
use Rattle.st_semantics.specs.Typing.{function_named}
use Rattle.st_elab_table.specs.declared.decls.Decls.{Decls}
use Rattle.st_elab_table.specs.Inferred.{fun_named}
use Rattle.st_elab_table.specs.Steps.{made, asked}
use Rattle.st_elab_table.specs.Elaboration.{around}
use Rattle.st_elab_table.specs.Judgements.{relation_named}
use Rattle.st_elab_table.specs.Rules.{ElabRule}
use Rattle.st_elab_table.specs.Clauses.{ClauseParts, argument_questions, ElabClause}
use Rattle.st_ilcheck.specs.Definitions.{RuleBreaks, ClauseBreaks}
use Rattle.st_ilcheck.specs.Parts.{standing}
use Rattle.st_ilcheck.specs.Variables.{occurrences_in, prem_occurrences, IsListed}
use Rattle.st_elab_typed.specs.inner.IsPlaced.{IsPlaced, ArePlaced, none as unplaced, more as place_more}
use Rattle.st_elab_typed.proofs.Claims.{decls_of}
use Rattle.st_elab_typed.proofs.EachHas.{EachHas, found_all, each_typed, Are-found}
use Rattle.st_elab_typed.proofs.IsPlacedLemmas.{ArePlaced-first}
use Rattle.st_elab_typed.proofs.Members.{Each-split}
use Rattle.st_elab_typed.proofs.Placing.{ArePlaced-listed, each_listed}
use Rattle.st_elab_typed.proofs.Recording.{each_asked_has, function_named-found}
use Rattle.st_elab_typed.proofs.Table.{Answered-claims, ListingKeepsTypes-holds}
use Rattle.st_elab_typed.specs.RuleNames.{RuleKeepsNames, ClauseKeepsNames}
use Rattle.st_elab_typed.specs.RuleLaw.{AreDeclaredIn, RuleIsTyped, ClauseIsTyped}
use Rattle.st_elab_typed.proofs.PremTyping.{declared_relation-found, D, Ok, claims_of, exps_typed, judged_has, is_judgement, prems_typed}

-- the premises are listed where their occurrences are
prems_listed : (ls : List Listed) (ps : List IlPrem) → AllByRecursion (IsListed ls) (flattened (map prem_occurrences ps)) → AllByRecursion (λ (p : IlPrem). AllByRecursion (IsListed ls) (prem_occurrences p)) ps
prems_listed ls [] h = tt
prems_listed ls (p ∷ ps) h = let r = Each-split (IsListed ls) (prem_occurrences p) (flattened (map prem_occurrences ps)) h in (r.0, prems_listed ls ps r.1)

-- of expressions with one behind them, those in front and that one
place_split : (ls : List Listed) (es : List IlExp) (g : IlExp) → ArePlaced (standing ls (es ++ g ∷ [])) → ArePlaced (standing ls es) × IsPlaced ls g
place_split ls [] g k = (unplaced, (ArePlaced-first (ls, g) [] k).0)
place_split ls (e ∷ es) g k =
    let n = ArePlaced-first (ls, e) (standing ls (es ++ g ∷ [])) k in
    let r = place_split ls es g n.1 in
    (place_more n.0 r.0, r.1)

module _ (il : Il) (vars : List (List ℕ × Ty)) (total : (t : Ty) → (u : Ty) × Means (syntaxes il) t u) where
  rule_typed : (R : RelationDef) → relation_named (relations il) R.name ≡ Some R → (name : List ℕ) (conclusion : Exp) (premises : List Prem) (rule : RuleDef)
      → ElabRule (decls_of il vars (relations il)) R name conclusion premises rule → RuleKeepsNames rule → RuleBreaks il rule []
  rule_typed R is name conclusion premises rule h k =
      let S = h.scope in
      let ls = rule.variables in
      let ok : Ok il vars S total (around S) ls = subst (Ok il vars S total (around S)) (sym h.variables_are) (ListingKeepsTypes-holds (decls_of il vars (relations il)) S).outside in
      let split = Each-split (IsListed ls) (occurrences_in rule.conclusion) (flattened (map prem_occurrences rule.premises)) (recursion_from_All (IsListed ls) _ (k.variables).listed) in
      let r = exps_typed il vars S total (around S) ls rule.conclusion R.holes ok (judged_has il vars S total (around S) R conclusion rule.conclusion h.judged) k.conclusion split.0 in
      let found : declared_relation il rule.relation ≡ Some R = ap (declared_relation il) h.relation_is ∙ declared_relation-found il R.name R is in
      record {
        os = found_all r.os;
        inside = [];
        here = [];
        premises = [];
        conclusion = r.typings;
        concluded = inl (is_judgement il vars S total rule.relation R r.os found r.holds, refl);
        met = prems_typed il vars S total (around S) premises rule.premises h.holding ls ok k.premises (prems_listed ls rule.premises split.1);
        whole = refl;
      }

  clause_typed : (f : FunDef) → fun_named (funs_in il.defs) f.name ≡ Some f → (c : ClauseParts) (clause : ClauseDef) → ElabClause (decls_of il vars (relations il)) f c clause → ClauseKeepsNames clause → ClauseBreaks il clause []
  clause_typed f is c clause h k =
      let S = h.scope in
      let ls = clause.variables in
      let ok : Ok il vars S total (around S) ls = subst (Ok il vars S total (around S)) (sym h.variables_are) (ListingKeepsTypes-holds (decls_of il vars (relations il)) S).outside in
      let split = Each-split (IsListed ls) (occurrences_in (clause.args ++ clause.result ∷ [])) (flattened (map prem_occurrences clause.premises)) (recursion_from_All (IsListed ls) _ (k.variables).listed) in
      let placed = place_split ls clause.args clause.result (ArePlaced-listed (standing ls (clause.args ++ clause.result ∷ [])) k.arguments (each_listed ls (clause.args ++ clause.result ∷ []) split.0)) in
      let has : EachHas il (Ok il vars S total (around S)) clause.args f.params = subst (λ z. EachHas il (Ok il vars S total (around S)) z f.params) (h.arguments).parts
      (each_asked_has il vars (relations il) S total (around S) c.args f.params (h.arguments).mades h.number (claims_of il vars S total (argument_questions S f c) (h.arguments).mades (h.arguments).asked)) in
      let r = each_typed il (Ok il vars S total (around S)) ls clause.args f.params ok placed.0 has in
      let s = (Answered-claims il vars (relations il) S total (asked (around S) c.result f.result) (made clause.result f.result) h.result_is).0 ls ok placed.1 in
      let found : function_named il clause.fun ≡ Some f = ap (function_named il) h.fun_is ∙ function_named-found il f.name f is in
      record {
        os = found_all r.os;
        o = Some s.0;
        in_arguments = [];
        by_arguments = [];
        in_result = [];
        by_result = [];
        premises = [];
        arguments = r.typings;
        applied = inl (record { declared = f; found = found; typed = Are-found (syntaxes il) r.os f.params r.holds }, refl);
        result = s.1.0;
        given = inl (record { declared = f; found = found; typed = s.1.1 }, refl);
        met = prems_typed il vars S total (around S) c.premises clause.premises h.holding ls ok k.premises (prems_listed ls clause.premises split.1);
        whole = refl;
      }

-- ---- the law

declared_is : (il : Il) (D : Decls) → AreDeclaredIn il D → D ≡ decls_of il D.vars (relations il)
declared_is il D h = λ i. record { types = h.expressions.types i; vars = D.vars; funs = h.expressions.funs i; relations = h.relations_are i }

pub RuleIsTyped-holds : RuleIsTyped
RuleIsTyped-holds il D declared sound R is name conclusion premises rule h k =
    rule_typed il D.vars (Means-total (syntaxes il) (subst IsSound (declared.expressions).types sound)) R (subst (λ z. relation_named z R.name ≡ Some R) declared.relations_are is) name conclusion premises rule
    (subst (λ z. ElabRule z R name conclusion premises rule) (declared_is il D declared) h) k

pub ClauseIsTyped-holds : ClauseIsTyped
ClauseIsTyped-holds il D declared sound f is c clause h k =
    clause_typed il D.vars (Means-total (syntaxes il) (subst IsSound (declared.expressions).types sound)) f (subst (λ z. fun_named z f.name ≡ Some f) (declared.expressions).funs is) c clause
    (subst (λ z. ElabClause z f c clause) (declared_is il D declared) h) k
