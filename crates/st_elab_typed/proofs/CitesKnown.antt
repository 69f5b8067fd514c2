-- What an elaborated rule or clause cites is declared.
use Rattle.std.proofs.Common.{◌≡◌, refl, sym, ap, ◌∙◌, subst, ℕ, List, [], ◌∷◌, ◌++◌, map, Bool, true, false, append-nil}
use Rattle.std.specs.Prelude.{if◌then◌else◌, Some, None}
use Rattle.std.specs.List.{AllByRecursion}
use Rattle.std.proofs.lemmas.List.{length-map}
use Rattle.std.proofs.lemmas.List.Elements.{All-from_recursion}
use Rattle.st_num.specs.Names.{same_name}
use Rattle.st_el.specs.declared.expression.Exp.{Exp}
use Rattle.st_el.specs.declared.expression.Count.{Count, out-Count}
use Rattle.st_el.specs.declared.definition.Prem.{Prem}
use Rattle.st_il.specs.declared.definition.ClauseDef.{ClauseDef}
use Rattle.st_il.specs.declared.definition.FunDef.{FunDef}
use Rattle.st_il.specs.declared.definition.IlDef.TheVariants as def
use Rattle.st_il.specs.declared.definition.Listed.{Listed}
use Rattle.st_il.specs.declared.definition.RelationDef.{RelationDef}
use Rattle.st_il.specs.declared.definition.RuleDef.{RuleDef}
use Rattle.st_il.specs.declared.ty.Ty.{Ty}
use Rattle.st_il.specs.declared.ty.Ty.TheVariants as ty
use Rattle.st_il.specs.declared.expression.IlExp.{IlExp, out-IlExp}
use Rattle.st_il.specs.declared.expression.IlExp.TheOpen.{IlExp-F}
use Rattle.st_il.specs.declared.expression.IlPrem.{IlPrem, out-IlPrem, map-IlPrem, fold_out-IlPrem}
use Rattle.st_il.specs.declared.expression.IlPrem.TheOpen.{IlPrem-F}
use Rattle.st_il.specs.declared.expression.IlPrem.TheVariants as premise
use Rattle.st_il.specs.declared.expression.Iteration.{Iteration, out-Iteration}
use Rattle.st_il.specs.Occurrences.{occurs_in_prem}
use Rattle.st_type_table.specs.Leads.{names_in}
use Rattle.st_dims.specs.declared.within.Within.{Within}
use Rattle.st_dims.specs.Around.{inside}
use Rattle.st_il.specs.Names.{Name, flattened}
use Rattle.st_semantics.specs.Iterations.{count_of}
use Rattle.st_semantics.specs.Operands.{operands_at, item_exp, segment_exps}
use Rattle.st_semantics.specs.Variables.{Counted, counted_at, called, called_at, called_in, prem_called, prem_called_at, relations_cited, relations_cited_at}
use Rattle.st_ilcheck.specs.Declarations.{Tagged, IsTag, tags, tags_at, tags_in, count_tags_at, prem_tags, prem_tags_at, types_cited, syntaxes_at, syntaxes_cited, syntaxes_cited_in, prem_syntaxes, prem_syntaxes_at, listed_types, cited_by, cited}
use Rattle.st_ilcheck.specs.inner.Contents.{own_at}
use Rattle.st_elab_table.specs.declared.decls.Decls.{Decls}
use Rattle.st_elab_table.specs.declared.decls.Scope.{Scope}
use Rattle.st_elab_table.specs.Elaboration.{around, Reached}
use Rattle.st_elab_table.specs.Collections.{counted_at as table_counted_at}
use Rattle.st_elab_table.specs.Forms.{place}
use Rattle.st_elab_table.specs.Inferred.{fun_named}
use Rattle.st_elab_table.specs.Iterations.{Variable, iterated}
use Rattle.st_elab_table.specs.Questions.{Question, Made}
use Rattle.st_elab_table.specs.Steps.{made, asked, each_asked}
use Rattle.st_elab_table.proofs.Keeps.{Reached-keeps}
use Rattle.st_elab_law.proofs.Claims.{Claims, claims_of}
use Rattle.st_elab_table.specs.Parts.{Asked}
use Rattle.st_elab_table.specs.Judgements.{IsRelationOf, relation_named, judgement_questions, Judged}
use Rattle.st_elab_table.specs.Inside.{ElabInside}
use Rattle.st_elab_table.specs.Premises.{ElabPrem, condition, judgement, otherwise, each, ElabPrems}
use Rattle.st_elab_table.specs.Clauses.{ClauseParts, ElabClause}
use Rattle.st_elab_table.specs.Rules.{ElabRule}
use Rattle.st_elab_table.specs.Scopes.{HasItsType, listed}
use Rattle.st_elab_typed.specs.Citations.{IsSyntax, IsFunction, IsRelation, IsKnown, AreKnown, CitesKnown}
use Rattle.st_elab_typed.specs.inner.Named.{IsNoIteration}
use Rattle.st_elab_typed.specs.inner.Cited.{ScopeKnown, OwnKnown, Cites, by_parts, by_body, AllCite, none, more}
use Rattle.st_elab_typed.proofs.ExpInduction.{Level}
use Rattle.st_elab_typed.proofs.Collected.{mapped, of_count, items-are, operands-are, opened, opened-count, counted-are}
use Rattle.st_elab_typed.proofs.Members.{Each-append}
use Rattle.st_elab_typed.proofs.KnownTypes.{known-Bool, name_type_known, fun_known}
use Rattle.st_elab_typed.proofs.CitedRows.{Claim, each_cites, holes_cite, counted_cites, row_cites, Answered-cites}

-- ---- what a level cites by itself, and what its operands cite

tags-plain : (y : Level) → IsNoIteration y → tags_at (mapped tags_at count_tags_at y) ≡ (own_at y).tags ++ tags_in (operands_at item_exp segment_exps y)
tags-plain (IlExp-F.Iter how xs body) n = absurd n
tags-plain (IlExp-F.Case type tag es) n = ap (λ k. (tag, k) ∷ flattened (map tags es)) (length-map es tags)
tags-plain y n = ap flattened (operands-are tags_at count_tags_at y)

called-plain : (y : Level) → IsNoIteration y → called_at (mapped called_at counted_at y) ≡ (own_at y).functions ++ called_in (operands_at item_exp segment_exps y)
called-plain (IlExp-F.Iter how xs body) n = absurd n
called-plain (IlExp-F.Call fun es) n = refl
called-plain y n = ap flattened (operands-are called_at counted_at y)

syntaxes-plain : (y : Level) → IsNoIteration y → syntaxes_at (mapped syntaxes_at counted_at y) ≡ (own_at y).syntaxes ++ syntaxes_cited_in (operands_at item_exp segment_exps y)
syntaxes-plain (IlExp-F.Iter how xs body) n = absurd n
syntaxes-plain (IlExp-F.Case type tag es) n = refl
syntaxes-plain (IlExp-F.Fields type es) n = refl
syntaxes-plain (IlExp-F.List t items) n = ap (λ z. names_in t ++ flattened z) (items-are syntaxes_at counted_at items)
syntaxes-plain (IlExp-F.Empty t) n = sym (append-nil (names_in t))
syntaxes-plain (IlExp-F.Absent t) n = sym (append-nil (names_in t))
syntaxes-plain (IlExp-F.Up t e) n = ap (λ z. names_in t ++ z) (sym (append-nil (syntaxes_cited e)))
syntaxes-plain y n = ap flattened (operands-are syntaxes_at counted_at y)

tags-counted : (how : Iteration) → of_count tags_at count_tags_at how ≡ tags_in (count_of how)
tags-counted how = opened-count tags_at count_tags_at how ∙ counted-are tags_at count_tags_at (out-Iteration how)

called-counted : (how : Iteration) → (of_count called_at counted_at how).count ≡ called_in (count_of how)
called-counted how = ap (λ (z : Counted). z.count) (opened-count called_at counted_at how) ∙ counted-are called_at counted_at (out-Iteration how)

syntaxes-counted : (how : Iteration) → (of_count syntaxes_at counted_at how).count ≡ syntaxes_cited_in (count_of how)
syntaxes-counted how = ap (λ (z : Counted). z.count) (opened-count syntaxes_at counted_at how) ∙ counted-are syntaxes_at counted_at (out-Iteration how)

module _ (D : Decls) where
  -- what stands in a part is known
  pub record AllKnown (syntaxes functions : List Name) (tagged : List Tagged) : Type 0 where
    pub of_syntaxes : AllByRecursion (IsSyntax D) syntaxes
    pub of_functions : AllByRecursion (IsFunction D) functions
    pub of_tags : AllByRecursion IsTag tagged

  abbrev pub ExpKnown : IlExp → Type 0
  ExpKnown x = AllKnown (syntaxes_cited x) (called x) (tags x)

  abbrev pub ExpsKnown : List IlExp → Type 0
  ExpsKnown xs = AllKnown (syntaxes_cited_in xs) (called_in xs) (tags_in xs)

  known_both : (a b c d : List Name) (t u : List Tagged) → AllKnown a c t → AllKnown b d u → AllKnown (a ++ b) (c ++ d) (t ++ u)
  known_both a b c d t u h k = record {
    of_syntaxes = Each-append (IsSyntax D) a b h.of_syntaxes k.of_syntaxes;
    of_functions = Each-append (IsFunction D) c d h.of_functions k.of_functions;
    of_tags = Each-append IsTag t u h.of_tags k.of_tags;
  }

  known_same : (a b c d : List Name) (t u : List Tagged) → a ≡ b → c ≡ d → t ≡ u → AllKnown b d u → AllKnown a c t
  known_same a b c d t u p q r h = record {
    of_syntaxes = subst (AllByRecursion (IsSyntax D)) (sym p) h.of_syntaxes;
    of_functions = subst (AllByRecursion (IsFunction D)) (sym q) h.of_functions;
    of_tags = subst (AllByRecursion IsTag) (sym r) h.of_tags;
  }

  own_known : (y : Level) → OwnKnown D y → IsNoIteration y → AllKnown (own_at y).syntaxes (own_at y).functions (own_at y).tags
  own_known (IlExp-F.Case type tag es) o n = record { of_syntaxes = (o.0, tt); of_functions = tt; of_tags = (o.1, tt) }
  own_known (IlExp-F.Fields type es) o n = record { of_syntaxes = (o, tt); of_functions = tt; of_tags = tt }
  own_known (IlExp-F.List t items) o n = record { of_syntaxes = o; of_functions = tt; of_tags = tt }
  own_known (IlExp-F.Empty t) o n = record { of_syntaxes = o; of_functions = tt; of_tags = tt }
  own_known (IlExp-F.Absent t) o n = record { of_syntaxes = o; of_functions = tt; of_tags = tt }
  own_known (IlExp-F.Up t e) o n = record { of_syntaxes = o; of_functions = tt; of_tags = tt }
  own_known (IlExp-F.Call f es) o n = record { of_syntaxes = tt; of_functions = (o, tt); of_tags = tt }
  own_known (IlExp-F.Iter how xs body) o n = absurd n
  own_known y o n = record { of_syntaxes = tt; of_functions = tt; of_tags = tt }

  mutual
    pub cites_known : (x : IlExp) → Cites D x → ExpKnown x
    cites_known x (by_parts n o h) =
        let y = out-IlExp x in
        let es = operands_at item_exp segment_exps y in
        known_same (syntaxes_cited x) ((own_at y).syntaxes ++ syntaxes_cited_in es) (called x) ((own_at y).functions ++ called_in es) (tags x) ((own_at y).tags ++ tags_in es)
        (opened syntaxes_at counted_at x ∙ syntaxes-plain y n) (opened called_at counted_at x ∙ called-plain y n) (opened tags_at count_tags_at x ∙ tags-plain y n)
        (known_both (own_at y).syntaxes (syntaxes_cited_in es) (own_at y).functions (called_in es) (own_at y).tags (tags_in es) (own_known y o n) (all_known es h))
    cites_known x (by_body how names body is h counts) =
        known_same (syntaxes_cited x) (syntaxes_cited_in (count_of how) ++ syntaxes_cited body) (called x) (called_in (count_of how) ++ called body) (tags x) (tags_in (count_of how) ++ tags body)
        (opened syntaxes_at counted_at x ∙ ap (λ y. syntaxes_at (mapped syntaxes_at counted_at y)) is ∙ ap (λ z. z ++ syntaxes_cited body) (syntaxes-counted how))
        (opened called_at counted_at x ∙ ap (λ y. called_at (mapped called_at counted_at y)) is ∙ ap (λ z. z ++ called body) (called-counted how))
        (opened tags_at count_tags_at x ∙ ap (λ y. tags_at (mapped tags_at count_tags_at y)) is ∙ ap (λ z. z ++ tags body) (tags-counted how))
        (known_both (syntaxes_cited_in (count_of how)) (syntaxes_cited body) (called_in (count_of how)) (called body) (tags_in (count_of how)) (tags body) (all_known (count_of how) counts) (cites_known body h))

    pub all_known : (xs : List IlExp) → AllCite D xs → ExpsKnown xs
    all_known [] none = record { of_syntaxes = tt; of_functions = tt; of_tags = tt }
    all_known (x ∷ xs) (more h hs) = known_both (syntaxes_cited x) (syntaxes_cited_in xs) (called x) (called_in xs) (tags x) (tags_in xs) (cites_known x h) (all_known xs hs)

  -- ---- declarations that are found

  relation_known : (Rs : List RelationDef) (P : RelationDef → Type 0) (name : List ℕ) (R : RelationDef) → AllByRecursion P Rs → relation_named Rs name ≡ Some R → P R
  relation_known [] P name R h s = let bad : None ≡ Some R = s in cc
  relation_known (g ∷ gs) P name R h s = by (same_name name g.name) s (relation_known gs P name R h.1)
    where
      by : (b : Bool) → (if b then Some g else relation_named gs name) ≡ Some R → (relation_named gs name ≡ Some R → P R) → P R
      by true k rest = let same : g ≡ R = cc in subst P same h.0
      by false k rest = rest k

  module _ (known : AreKnown D) where
    variables_known : (vs : List Variable) → AllByRecursion (HasItsType D) vs → AllByRecursion (λ (v : Variable). IsKnown D v.1) vs
    variables_known [] h = tt
    variables_known (v ∷ vs) h = (name_type_known D known v.0 v.1 h.0, variables_known vs h.1)

    listed_known : (vs : List Variable) → AllByRecursion (λ (v : Variable). IsKnown D v.1) vs → AllByRecursion (IsSyntax D) (types_cited (listed_types (map listed vs)))
    listed_known [] h = tt
    listed_known (v ∷ vs) h = Each-append (IsSyntax D) (names_in v.1) (types_cited (listed_types (map listed vs))) h.0 (listed_known vs h.1)

    module _ (S : Scope) (scope : ScopeKnown D S) where
      claims : (qs : List Question) (ms : List Made) → Asked D S qs ms → Claims (Claim D S known scope) qs ms
      claims qs ms h = claims_of D S (Claim D S known scope) (λ q m k. Answered-cites D S known scope q m k) qs ms h

      inside_cites : (w : Within) (e : Exp) (t : Ty) (x : IlExp) → IsKnown D t → ElabInside D S w e t x → Cites D x
      inside_cites w e t x o h = (Answered-cites D S known scope (asked w e t) (made x t) h o).0

      judged_cites : (w : Within) (R : RelationDef) (e : Exp) (xs : List IlExp) → AllByRecursion (IsKnown D) R.holes → Judged D S w R e xs → AllCite D xs
      judged_cites w R e xs o h =
          subst (AllCite D) h.filled.parts
          (holes_cite D S known scope w (place e) [] h.fillings R.holes h.filled.mades o (claims (judgement_questions w e h.fillings R) h.filled.mades h.filled.asked))

      counts_cite : (w : Within) (c : Count) (k : Iteration) → Reached D S (table_counted_at w (out-Count c)) k → AllCite D (count_of k)
      counts_cite w c k h =
          Reached-keeps D S (Claim D S known scope) (λ q. row_cites D S known scope q) (λ l. AllCite D (count_of l)) (table_counted_at w (out-Count c))
          (λ Q next g. counted_cites D S known scope w Q (out-Count c) next g) k h

      -- ---- premises

      -- what a premise cites is known
      record PremKnown (p : IlPrem) : Type 0 where
        stands : AllKnown (prem_syntaxes p) (prem_called p) (prem_tags p)
        relations : AllByRecursion (IsRelation D) (relations_cited p)

      prem_level : (x : IlPrem) (y : IlPrem-F IlPrem) → out-IlPrem x ≡ y
          → AllKnown (prem_syntaxes_at (map-IlPrem IlPrem (List Name) prem_syntaxes y)) (prem_called_at (map-IlPrem IlPrem (List Name) prem_called y)) (prem_tags_at (map-IlPrem IlPrem (List Tagged) prem_tags y))
          → AllByRecursion (IsRelation D) (relations_cited_at (map-IlPrem IlPrem (List Name) relations_cited y)) → PremKnown x
      prem_level x y is h r = record {
        stands = known_same (prem_syntaxes x) _ (prem_called x) _ (prem_tags x) _
            (fold_out-IlPrem (List Name) prem_syntaxes_at x ∙ ap (λ z. prem_syntaxes_at (map-IlPrem IlPrem (List Name) prem_syntaxes z)) is)
            (fold_out-IlPrem (List Name) prem_called_at x ∙ ap (λ z. prem_called_at (map-IlPrem IlPrem (List Name) prem_called z)) is)
            (fold_out-IlPrem (List Tagged) prem_tags_at x ∙ ap (λ z. prem_tags_at (map-IlPrem IlPrem (List Tagged) prem_tags z)) is) h;
        relations = subst (AllByRecursion (IsRelation D)) (sym (fold_out-IlPrem (List Name) relations_cited_at x ∙ ap (λ z. relations_cited_at (map-IlPrem IlPrem (List Name) relations_cited z)) is)) r;
      }

      prem_cites : (w : Within) (p : Prem) (x : IlPrem) → ElabPrem D S w p x → PremKnown x
      prem_cites w p x (condition e y is h) = prem_level (premise.If y) _ (premise.outs-If y) (cites_known y (inside_cites w e ty.Bool y (known-Bool D) h)) tt
      prem_cites w p x (judgement name e R xs is named h) =
          prem_level (premise.Goal name xs) _ (premise.outs-Goal name xs)
          (all_known xs (judged_cites w R e xs (relation_known D.relations (λ (r : RelationDef). AllByRecursion (IsKnown D) r.holes) name R known.holes named) h)) ((R, named), tt)
      prem_cites w p x (otherwise is) = prem_level premise.Otherwise _ premise.outs-Otherwise (record { of_syntaxes = tt; of_functions = tt; of_tags = tt }) tt
      prem_cites w p x (each q c y k is h n) =
          let names : List (List ℕ) = iterated S w c (λ name. occurs_in_prem name y) in
          let body = prem_cites (inside w c) q y h in
          prem_level (premise.Each k names y) _ (premise.outs-Each k names y)
          (known_both (syntaxes_cited_in (count_of k)) (prem_syntaxes y) (called_in (count_of k)) (prem_called y) (tags_in (count_of k)) (prem_tags y) (all_known (count_of k) (counts_cite w c k n)) body.stands) body.relations

      -- what several premises cite is known
      record PremsKnown (ps : List IlPrem) : Type 0 where
        stands : AllKnown (flattened (map prem_syntaxes ps)) (flattened (map prem_called ps)) (flattened (map prem_tags ps))
        relations : AllByRecursion (IsRelation D) (flattened (map relations_cited ps))

      prems_cite : (w : Within) (ps : List Prem) (xs : List IlPrem) → ElabPrems D S w ps xs → PremsKnown xs
      prems_cite w [] [] h = record { stands = record { of_syntaxes = tt; of_functions = tt; of_tags = tt }; relations = tt }
      prems_cite w [] (x ∷ xs) h = absurd h
      prems_cite w (p ∷ ps) [] h = absurd h
      prems_cite w (p ∷ ps) (x ∷ xs) h =
          let a = prem_cites w p x h.0 in
          let b = prems_cite w ps xs h.1 in record {
            stands = known_both (prem_syntaxes x) (flattened (map prem_syntaxes xs)) (prem_called x) (flattened (map prem_called xs)) (prem_tags x) (flattened (map prem_tags xs)) a.stands b.stands;
            relations = Each-append (IsRelation D) (relations_cited x) (flattened (map relations_cited xs)) a.relations b.relations;
          }

      -- ---- a rule or a clause

      cited_known : (ls : List Listed) (es : List IlExp) (ps : List IlPrem) (relations functions : List Name) → ls ≡ map listed S.variables → AllCite D es → PremsKnown ps
          → AllByRecursion (IsRelation D) relations → AllByRecursion (IsFunction D) functions → CitesKnown D (cited_by ls es ps relations functions)
      cited_known ls es ps relations functions e h k r f =
          let here = all_known es h in record {
            syntaxes = All-from_recursion (IsSyntax D) _ (Each-append (IsSyntax D) (types_cited (listed_types ls)) (syntaxes_cited_in es ++ flattened (map prem_syntaxes ps))
                (subst (λ z. AllByRecursion (IsSyntax D) (types_cited (listed_types z))) (sym e) (listed_known S.variables scope))
                (Each-append (IsSyntax D) (syntaxes_cited_in es) (flattened (map prem_syntaxes ps)) here.of_syntaxes k.stands.of_syntaxes));
            relations = All-from_recursion (IsRelation D) _ (Each-append (IsRelation D) relations (flattened (map relations_cited ps)) r k.relations);
            functions = All-from_recursion (IsFunction D) _ (Each-append (IsFunction D) functions (called_in es ++ flattened (map prem_called ps)) f
                (Each-append (IsFunction D) (called_in es) (flattened (map prem_called ps)) here.of_functions k.stands.of_functions));
            tagged = All-from_recursion IsTag _ (Each-append IsTag (tags_in es) (flattened (map prem_tags ps)) here.of_tags k.stands.of_tags);
          }

pub rule_cites : (D : Decls) (R : RelationDef) (name : List ℕ) (conclusion : Exp) (premises : List Prem) (rule : RuleDef) → AreKnown D → IsRelationOf D R
    → ElabRule D R name conclusion premises rule → CitesKnown D (cited (def.Rule rule))
rule_cites D R name conclusion premises rule known declared h =
    let scope : ScopeKnown D h.scope = variables_known D known h.scope.variables h.is_scope.types in
    let holes = relation_known D D.relations (λ (r : RelationDef). AllByRecursion (IsKnown D) r.holes) R.name R known.holes declared in
    cited_known D known h.scope scope rule.variables rule.conclusion rule.premises (rule.relation ∷ []) [] h.variables_are
    (judged_cites D known h.scope scope (around h.scope) R conclusion rule.conclusion holes h.judged) (prems_cite D known h.scope scope (around h.scope) premises rule.premises h.holding)
    (subst (IsRelation D) (sym h.relation_is) (R, declared), tt) tt

all_last : (D : Decls) (xs : List IlExp) (y : IlExp) → AllCite D xs → Cites D y → AllCite D (xs ++ y ∷ [])
all_last D [] y none k = more k none
all_last D (x ∷ xs) y (more h hs) k = more h (all_last D xs y hs k)

pub clause_cites : (D : Decls) (f : FunDef) (c : ClauseParts) (clause : ClauseDef) → AreKnown D → fun_named D.funs f.name ≡ Some f
    → ElabClause D f c clause → CitesKnown D (cited (def.Clause clause))
clause_cites D f c clause known declared h =
    let scope : ScopeKnown D h.scope = variables_known D known h.scope.variables h.is_scope.types in
    let w = around h.scope in
    let params = fun_known D known D.funs (λ (g : FunDef). AllByRecursion (IsKnown D) g.params) f.name f known.params declared in
    let result = fun_known D known D.funs (λ (g : FunDef). IsKnown D g.result) f.name f known.results declared in
    let args : AllCite D clause.args = subst (AllCite D) h.arguments.parts
    (each_cites D h.scope known scope w c.args f.params h.arguments.mades params (claims D known h.scope scope (each_asked w c.args f.params) h.arguments.mades h.arguments.asked)) in
    cited_known D known h.scope scope clause.variables (clause.args ++ clause.result ∷ []) clause.premises [] (clause.fun ∷ []) h.variables_are
    (all_last D clause.args clause.result args (inside_cites D known h.scope scope w c.result f.result clause.result result h.result_is))
    (prems_cite D known h.scope scope w c.premises clause.premises h.holding) tt (subst (IsFunction D) (sym h.fun_is) (f, declared), tt)
