-- Rules and clauses are erased to what they came from.
use Rattle.std.proofs.Common.{◌≡◌, refl, sym, ◌∙◌, ap, subst, ℕ, List, [], ◌∷◌, map, length, Bool, true, false, Some}
use Rattle.std.specs.Prelude.{if◌then◌else◌, flat_map, Result, Ok, Err, IfOk}
use Rattle.st_el.specs.declared.expression.Exp.{Exp}
use Rattle.st_el.specs.declared.expression.Count.{Count, out-Count}
use Rattle.st_el.specs.Plain.{nowhere, plain_exp, plain_count, plain_prem, plain_prem_node, plain_prem_at, plain_prem_node_at}
use Rattle.st_el.specs.declared.definition.DefNode.TheVariants.{Rule, Clause}
use Rattle.st_el.specs.declared.definition.Prem.{Prem, Prem-F, out-Prem, out-roll-Prem, fold_out-Prem}
use Rattle.st_el.specs.declared.definition.PremNode.{PremNode, out-PremNode, roll-PremNode, map-PremNode, fold_out-PremNode}
use Rattle.st_el.specs.declared.definition.PremNode.TheOpen.{PremNode-F}
use Rattle.st_el.specs.declared.definition.PremNode.TheVariants as node
use Rattle.st_il.specs.declared.ty.Ty.TheVariants as ty
use Rattle.st_il.specs.declared.ty.Ty.{Ty}
use Rattle.st_il.specs.declared.definition.ClauseDef.{ClauseDef}
use Rattle.st_il.specs.declared.definition.FunDef.{FunDef}
use Rattle.st_il.specs.declared.definition.Il.{Il}
use Rattle.st_il.specs.declared.definition.IlDef.{IlDef}
use Rattle.st_il.specs.declared.definition.IlDef.TheVariants as def
use Rattle.st_il.specs.declared.definition.RelationDef.{RelationDef}
use Rattle.st_il.specs.declared.definition.RuleDef.{RuleDef}
use Rattle.st_il.specs.declared.expression.IlExp.{IlExp, out-IlExp}
use Rattle.st_il.specs.declared.expression.IlExp.TheOpen.{IlExp-F}
use Rattle.st_il.specs.declared.expression.IlExp.TheVariants as il_exp
use Rattle.st_il.specs.declared.expression.IlPrem.{IlPrem, out-IlPrem, map-IlPrem, fold_out-IlPrem}
use Rattle.st_il.specs.declared.expression.IlPrem.TheOpen.{IlPrem-F}
use Rattle.st_il.specs.declared.expression.IlPrem.TheVariants as premise
use Rattle.st_il.specs.declared.expression.Iteration.{Iteration}
use Rattle.st_il.specs.declared.expression.ListItem.{ListItem}
use Rattle.st_il.specs.declared.expression.PathSeg.{PathSeg}
use Rattle.st_il.specs.Occurrences.{occurs_in_prem}
use Rattle.st_num.specs.Names.{same_name}
use Rattle.st_num.specs.declared.fault.Fault.{Fault as ExpFault}
use Rattle.st_erase.specs.Places.{whole}
use Rattle.st_erase.specs.Erasure.{erased, erased_iteration}
use Rattle.st_erase.specs.Definitions.{tag_of, judged, judgement as written_judgement, prem, prem_at, erased_prem}
use Rattle.st_dims.specs.declared.within.Within.{Within}
use Rattle.st_elab_table.specs.declared.decls.Decls.{Decls}
use Rattle.st_elab_table.specs.declared.decls.Scope.{Scope}
use Rattle.st_elab_table.specs.Forms.{place}
use Rattle.st_dims.specs.Around.{inside}
use Rattle.st_elab_table.specs.Iterations.{iterated}
use Rattle.st_elab_table.specs.Collections.{counted_at}
use Rattle.st_elab_table.specs.Questions.{Question, Made, Breach, Gives, Step}
use Rattle.st_elab_table.specs.Steps.{made, give, asked, each_asked, exp_of, exps}
use Rattle.st_elab_table.specs.Elaboration.{Leads, ends, Reached, around}
use Rattle.st_elab_table.proofs.Keeps.{Keeps}
use Rattle.st_elab_law.specs.Agreement.{IsTableOf, relation_in, Declares}
use Rattle.st_elab_law.proofs.Claims.{Claim, Claims}
use Rattle.st_elab_law.proofs.Writing.{whole_source}
use Rattle.st_elab_law.proofs.Listing.{counted_keeps}
use Rattle.st_elab_law.proofs.Recording.{each_written}
use Rattle.st_elab_law.proofs.Casing.{case-is, fills_written}
use Rattle.st_elab_law.proofs.Table.{Answered-claims, Leads-claims}
use Rattle.st_elab_table.specs.Parts.{Asked, AskedAs}
use Rattle.st_elab_rows.specs.Told.{Told}
use Rattle.st_elab_table.specs.Inside.{ElabInside}
use Rattle.st_elab_table.specs.Judgements.{relation_named, case_of, judgement_questions, Judged, IsRelationOf}
use Rattle.st_elab_table.specs.Premises.{node_of, ElabPrem, condition, judgement, otherwise, each, ElabPrems}
use Rattle.st_elab_table.specs.Rules.{ElabRule}
use Rattle.st_elab_table.specs.Clauses.{ClauseParts, ElabClause}
use Rattle.st_elab_exp.specs.Erasing.{RuleErases, ClauseErases}

-- ---- premises, by what they are

-- a premise of this form, once its parts are plain
abbrev plain_of : PremNode-F PremNode Prem → Prem
plain_of y = prem (plain_prem_node_at (map-PremNode PremNode Prem PremNode Prem plain_prem_node plain_prem y))

prem-is : (p : Prem) (y : PremNode-F PremNode Prem) → node_of p ≡ y → plain_prem p ≡ plain_of y
prem-is p y is =
    fold_out-Prem PremNode Prem plain_prem_node_at plain_prem_at p
    ∙ ap prem (fold_out-PremNode PremNode Prem plain_prem_node_at plain_prem_at (out-Prem p).node) ∙ ap plain_of is

-- a premise that stands in no text, by its form
new-is : (n : PremNode) (y : PremNode-F PremNode Prem) → out-PremNode n ≡ y → plain_prem (prem n) ≡ plain_of y
new-is n y is =
    prem-is (prem n) y (ap (λ (z : Prem-F PremNode Prem). out-PremNode z.node) (out-roll-Prem (record { at = nowhere; node = n })) ∙ is)

erased-is : (defs : List IlDef) (x : IlPrem) (y : IlPrem-F IlPrem) → out-IlPrem x ≡ y → erased_prem defs x ≡ prem_at defs (map-IlPrem IlPrem Prem (erased_prem defs) y)
erased-is defs x y is = fold_out-IlPrem Prem (prem_at defs) x ∙ ap (λ z. prem_at defs (map-IlPrem IlPrem Prem (erased_prem defs) z)) is

-- a premise is erased to one of this form
erased_to : (defs : List IlDef) (p : Prem) (x : IlPrem) (n : PremNode) (y z : PremNode-F PremNode Prem) → erased_prem defs x ≡ prem n → out-PremNode n ≡ y → node_of p ≡ z → plain_of y ≡ plain_of z
    → plain_prem (erased_prem defs x) ≡ plain_prem p
erased_to defs p x n y z is out at same = ap plain_prem is ∙ new-is n y out ∙ same ∙ sym (prem-is p z at)

-- ---- relations

-- the definition of a relation that is declared has its tag
tag_named : (name : List ℕ) (ds : List IlDef) (R : RelationDef) → relation_named (flat_map relation_in ds) name ≡ Some R → tag_of name ds ≡ Some R.tag
tag_named name [] R h = absurd (cc)
tag_named name (def.Relation r ∷ ds) R h = by (same_name name r.name) h (tag_named name ds R)
  where
    by : (b : Bool) → (if b then Some r else relation_named (flat_map relation_in ds) name) ≡ Some R → (relation_named (flat_map relation_in ds) name ≡ Some R → tag_of name ds ≡ Some R.tag)
        → (if b then Some r.tag else tag_of name ds) ≡ Some R.tag
    by true k later = let same : r ≡ R = cc in ap (λ z. Some z.tag) same
    by false k later = later k
tag_named name (def.Syntax d ∷ ds) R h = tag_named name ds R h
tag_named name (def.Var x t ∷ ds) R h = tag_named name ds R h
tag_named name (def.Rule d ∷ ds) R h = tag_named name ds R h
tag_named name (def.Fun d ∷ ds) R h = tag_named name ds R h
tag_named name (def.Clause d ∷ ds) R h = tag_named name ds R h

module _ (il : Il) (D : Decls) (declares : Declares il D) where
  table : IsTableOf il.defs D
  table = ap (λ (d : Decls). d.types) declares

  tagged : (name : List ℕ) (R : RelationDef) → relation_named D.relations name ≡ Some R → tag_of name il.defs ≡ Some R.tag
  tagged name R h = tag_named name il.defs R (ap (λ (d : Decls). relation_named d.relations name) (sym declares) ∙ h)

  module _ (S : Scope) where
    -- ---- parts

    all_claims : (qs : List Question) (ms : List Made) → Asked D S qs ms → Claims (Claim il.defs D) qs ms
    all_claims [] [] h = tt
    all_claims [] (m ∷ ms) h = absurd h
    all_claims (q ∷ qs) [] h = absurd h
    all_claims (q ∷ qs) (m ∷ ms) h = (Answered-claims il.defs D S table q m h.0, all_claims qs ms h.1)

    inside_erases : (w : Within) (e : Exp) (t : Ty) (x : IlExp) → ElabInside D S w e t x → plain_exp (whole (erased il.defs x)) ≡ plain_exp e
    inside_erases w e t x h = whole_source (erased il.defs x) e (Answered-claims il.defs D S table (asked w e t) (made x t) h).same

    -- ---- judgements

    judged_erases : (w : Within) (R : RelationDef) (e : Exp) (xs : List IlExp) → Judged D S w R e xs → plain_exp (judged (Some R.tag) (map (erased il.defs) xs)) ≡ plain_exp e
    judged_erases w R e xs h =
        let ms = h.filled.mades in
        let f = h.fits in
        ap (λ z. plain_exp (judged (Some R.tag) (map (erased il.defs) z))) (sym h.filled.parts)
        ∙ ap (λ z. plain_exp (whole z)) (case-is il.defs D R.tag f.template (map (erased il.defs) (exps ms)) f.tagged)
        ∙ fills_written il.defs D w (place e) [] e (case_of R) h.fillings ms f (all_claims (judgement_questions w e h.fillings R) ms h.filled.asked)

    named_erases : (w : Within) (name : List ℕ) (R : RelationDef) (e : Exp) (xs : List IlExp) → relation_named D.relations name ≡ Some R → Judged D S w R e xs
        → plain_exp (written_judgement il.defs name xs) ≡ plain_exp e
    named_erases w name R e xs named h =
        ap (λ z. plain_exp (judged z (map (erased il.defs) xs))) (tagged name R named) ∙ judged_erases w R e xs h

    -- ---- counts

    -- an expression that shows how often an iteration goes
    abbrev shown : Iteration → Step
    shown k = give (il_exp.Iter k [] (il_exp.Bool true)) ty.Bool

    abbrev CountsAt : Count → IlExp-F IlExp Iteration ListItem PathSeg → Type 0
    CountsAt c (IlExp-F.Iter k names x) = plain_count (erased_iteration il.defs k) ≡ plain_count c
    CountsAt c y = Unit {0}

    abbrev Counts : Count → Made → Type 0
    Counts c m = CountsAt c (out-IlExp m.exp)

    shown_leads : (k : Iteration) → Leads D S (shown k) (Gives (made (il_exp.Iter k [] (il_exp.Bool true)) ty.Bool))
    shown_leads k = ends

    counted_erases : (w : Within) (c : Count) (k : Iteration) → Reached D S (counted_at w (out-Count c)) k → plain_count (erased_iteration il.defs k) ≡ plain_count c
    counted_erases w c k h =
        let kept : Keeps D (Claim il.defs D) (Counts c) (counted_at w (out-Count c) shown) =
        counted_keeps il.defs D (Counts c) w c (out-Count c) shown refl (λ l g. subst (CountsAt c) (sym (il_exp.outs-Iter l [] (il_exp.Bool true))) g) in
        let counted : Counts c (made (il_exp.Iter k [] (il_exp.Bool true)) ty.Bool) =
        Leads-claims il.defs D S table (Counts c) (counted_at w (out-Count c) shown) (made (il_exp.Iter k [] (il_exp.Bool true)) ty.Bool) (h shown _ (shown_leads k)) kept in
        subst (CountsAt c) (il_exp.outs-Iter k [] (il_exp.Bool true)) counted

    -- ---- premises

    prem_erases : (w : Within) (p : Prem) (x : IlPrem) → ElabPrem D S w p x → plain_prem (erased_prem il.defs x) ≡ plain_prem p
    prem_erases w p x (condition e y is h) =
        let same = inside_erases w e ty.Bool y h in
        erased_to il.defs p (premise.If y) (node.If (whole (erased il.defs y))) _ _ (erased-is il.defs (premise.If y) _ (premise.outs-If y)) (node.outs-If (whole (erased il.defs y))) is
        (λ i. prem (roll-PremNode (PremNode-F.If (same i))))
    prem_erases w p x (judgement name e R xs is named h) =
        let same = named_erases w name R e xs named h in
        erased_to il.defs p (premise.Goal name xs) (node.Goal name (written_judgement il.defs name xs)) _ _ (erased-is il.defs (premise.Goal name xs) _ (premise.outs-Goal name xs)) (node.outs-Goal name (written_judgement il.defs name xs)) is
        (λ i. prem (roll-PremNode (PremNode-F.Goal name (same i))))
    prem_erases w p x (otherwise is) =
        erased_to il.defs p premise.Otherwise node.Otherwise _ _ (erased-is il.defs premise.Otherwise _ premise.outs-Otherwise) node.outs-Otherwise is refl
    prem_erases w p x (each q c y k is h n) =
        let names : List (List ℕ) = iterated S w c (λ name. occurs_in_prem name y) in
        let same = prem_erases (inside w c) q y h in
        let times = counted_erases w c k n in
        erased_to il.defs p (premise.Each k names y) (node.Each (erased_prem il.defs y) (erased_iteration il.defs k)) _ _ (erased-is il.defs (premise.Each k names y) _ (premise.outs-Each k names y))
        (node.outs-Each (erased_prem il.defs y) (erased_iteration il.defs k)) is (λ i. prem (roll-PremNode (PremNode-F.Each (same i) (times i))))

    prems_erase : (w : Within) (ps : List Prem) (xs : List IlPrem) → ElabPrems D S w ps xs → map plain_prem (map (erased_prem il.defs) xs) ≡ map plain_prem ps
    prems_erase w [] [] h = refl
    prems_erase w [] (x ∷ xs) h = absurd h
    prems_erase w (p ∷ ps) [] h = absurd h
    prems_erase w (p ∷ ps) (x ∷ xs) h =
        let first = prem_erases w p x h.0 in
        let rest = prems_erase w ps xs h.1 in
        λ i. first i ∷ rest i

    args_erase : (w : Within) (es : List Exp) (ts : List Ty) (xs : List IlExp) → length es ≡ length ts → AskedAs D S (each_asked w es ts) IlExp exp_of xs
        → map plain_exp (map whole (map (erased il.defs) xs)) ≡ map plain_exp es
    args_erase w es ts xs number h =
        ap (λ z. map plain_exp (map whole (map (erased il.defs) z))) (sym h.parts)
        ∙ each_written il.defs D w es ts h.mades number (all_claims (each_asked w es ts) h.mades h.asked)

  -- ---- rules and clauses

  pub rule_erases : (R : RelationDef) (name : List ℕ) (e : Exp) (ps : List Prem) (rule : RuleDef) → IsRelationOf D R → ElabRule D R name e ps rule → RuleErases il R name e ps rule
  rule_erases R name e ps rule known h =
      let w = around h.scope in
      let conclusion : plain_exp (written_judgement il.defs rule.relation rule.conclusion) ≡ plain_exp e =
      ap (λ z. plain_exp (written_judgement il.defs z rule.conclusion)) h.relation_is ∙ named_erases h.scope w R.name R e rule.conclusion known h.judged in
      let premises = prems_erase h.scope w ps rule.premises h.holding in
      λ i. Rule (h.relation_is i) (h.name_is i) (conclusion i) (premises i)

  pub clause_erases : (f : FunDef) (c : ClauseParts) (clause : ClauseDef) → ElabClause D f c clause → ClauseErases il f c clause
  clause_erases f c clause h =
      let w = around h.scope in
      let args = args_erase h.scope w c.args f.params clause.args h.number h.arguments in
      let result = inside_erases h.scope w c.result f.result clause.result h.result_is in
      let premises = prems_erase h.scope w c.premises clause.premises h.holding in
      λ i. Clause (h.fun_is i) (args i) (result i) (premises i)

-- what is told of a result, where it is one
pub told_ok : {A : Type 0} (P Q : A → Type 0) (F : Breach → Type 0) (r : Result A ExpFault) → ((x : A) → P x → Q x) → Told P F r → IfOk r Q
told_ok P Q F (Ok x) goes h = goes x h
told_ok P Q F (Err fault) goes h = tt
