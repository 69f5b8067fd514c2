-- Rules and clauses have the notes of what they came from.
use Rattle.std.proofs.Common.{◌≡◌, refl, sym, ◌∙◌, ap, ℕ, List, [], ◌∷◌, ◌++◌, map, length}
use Rattle.std.proofs.lemmas.List.{map-append, append-nil}
use Rattle.st_num.specs.declared.span.Span.{Span}
use Rattle.st_el.specs.declared.expression.Exp.{Exp}
use Rattle.st_el.specs.declared.expression.Count.{Count, out-Count}
use Rattle.st_el.specs.declared.definition.Prem.{Prem, out-Prem, fold_out-Prem}
use Rattle.st_el.specs.declared.definition.PremNode.{PremNode, map-PremNode, fold_out-PremNode}
use Rattle.st_el.specs.declared.definition.PremNode.TheOpen.{PremNode-F}
use Rattle.st_il.specs.declared.ty.Ty.{Ty}
use Rattle.st_il.specs.declared.ty.Ty.TheVariants as ty
use Rattle.st_il.specs.declared.definition.ClauseDef.{ClauseDef}
use Rattle.st_il.specs.declared.definition.FunDef.{FunDef}
use Rattle.st_il.specs.declared.definition.RelationDef.{RelationDef}
use Rattle.st_il.specs.declared.definition.RuleDef.{RuleDef}
use Rattle.st_il.specs.declared.expression.IlExp.{IlExp}
use Rattle.st_il.specs.declared.expression.IlPrem.{IlPrem, out-IlPrem, map-IlPrem, fold_out-IlPrem}
use Rattle.st_il.specs.declared.expression.IlPrem.TheOpen.{IlPrem-F}
use Rattle.st_il.specs.declared.expression.IlPrem.TheVariants as premise
use Rattle.st_il.specs.declared.expression.Iteration.{Iteration}
use Rattle.st_il.specs.Occurrences.{occurs_in_prem}
use Rattle.st_dims.specs.declared.within.Within.{Within}
use Rattle.st_dims.specs.Around.{inside, outside}
use Rattle.st_dims.specs.Mentions.{Sees as Mentions, count_meaning, mentions_exp, seen_in, mentions_prem, mentions_prem_node, mentions_prem_at, mentions_prem_node_at, mentions_in}
use Rattle.st_elab_table.specs.declared.decls.Decls.{Decls}
use Rattle.st_elab_table.specs.declared.decls.Scope.{Scope}
use Rattle.st_elab_table.specs.Forms.{place}
use Rattle.st_elab_table.specs.Collections.{counted_at}
use Rattle.st_elab_table.specs.Iterations.{iterated as iterated_names}
use Rattle.st_elab_table.specs.Questions.{Question, Made}
use Rattle.st_elab_table.specs.Steps.{made, asked, each_asked, exps}
use Rattle.st_elab_table.specs.Elaboration.{Reached, around}
use Rattle.st_elab_table.proofs.Keeps.{Reached-keeps}
use Rattle.st_elab_law.specs.Notes.{Notes, beside, all_of, mentioned, written}
use Rattle.st_elab_law.specs.Noted.{iterated, noted, round_of, prem_noted_at, prem_noted, all_noted}
use Rattle.st_elab_law.proofs.Claims.{Claims, claims_of}
use Rattle.st_elab_law.proofs.NotesOfSources.{mentioned-append, read, round_written, iterated-read}
use Rattle.st_elab_law.proofs.NotesOfOperators.{Noted}
use Rattle.st_elab_law.proofs.NotesOfParts.{counted_occurs, fills_occur}
use Rattle.st_elab_law.proofs.NotesOfRows.{row_occurs, Answered-notes}
use Rattle.st_elab_table.specs.Parts.{Asked}
use Rattle.st_elab_table.specs.Inside.{ElabInside}
use Rattle.st_elab_table.specs.Judgements.{case_of, judgement_questions, Judged}
use Rattle.st_elab_table.specs.Premises.{place_of, node_of, ElabPrem, condition, judgement, otherwise, each, ElabPrems}
use Rattle.st_elab_table.specs.Rules.{ElabRule}
use Rattle.st_elab_table.specs.Clauses.{ClauseParts, mentions_of, ElabClause}

-- ---- several parts

parts-read : {A : Type 0} (f : A → Mentions) (xs : List A) (w : Within) → mentioned (seen_in (map f xs) w) ≡ all_of (map (λ x. read (f x)) xs) w
parts-read f [] w = refl
parts-read f (x ∷ xs) w = mentioned-append (f x w) (seen_in (map f xs) w) ∙ ap (λ z. mentioned (f x w) ++ z) (parts-read f xs w)

-- ---- premises, by what they are

-- what is noted of a premise of a source
abbrev prem_written : Prem → Notes
prem_written p = read (mentions_prem p)

-- what is mentioned in a premise of this form
abbrev level : Prem → PremNode-F PremNode Prem → Mentions
level p y within = mentions_prem_node_at (map-PremNode PremNode Prem (Span → Mentions) Mentions mentions_prem_node mentions_prem y) (place_of p) within

prem-level : (p : Prem) (y : PremNode-F PremNode Prem) → node_of p ≡ y → prem_written p ≡ read (level p y)
prem-level p y is =
    ap read (fold_out-Prem (Span → Mentions) Mentions mentions_prem_node_at mentions_prem_at p
    ∙ (λ i w. fold_out-PremNode (Span → Mentions) Mentions mentions_prem_node_at mentions_prem_at (out-Prem p).node i (place_of p) w)
    ∙ ap (level p) is)

noted-level : (x : IlPrem) (y : IlPrem-F IlPrem) → out-IlPrem x ≡ y → prem_noted x ≡ prem_noted_at (map-IlPrem IlPrem Notes prem_noted y)
noted-level x y is = fold_out-IlPrem Notes prem_noted_at x ∙ ap (λ z. prem_noted_at (map-IlPrem IlPrem Notes prem_noted z)) is

module _ (D : Decls) where
  module _ (S : Scope) where
    -- ---- parts

    all_occur : (qs : List Question) (ms : List Made) → Asked D S qs ms → Claims Noted qs ms
    all_occur qs ms h = claims_of D S Noted (λ q m k. Answered-notes D S q m k) qs ms h

    inside_occurs : (w : Within) (e : Exp) (t : Ty) (x : IlExp) → ElabInside D S w e t x → noted x ≡ written e
    inside_occurs w e t x h = Answered-notes D S (asked w e t) (made x t) h

    judged_occurs : (w : Within) (R : RelationDef) (e : Exp) (xs : List IlExp) → Judged D S w R e xs → all_of (map noted xs) ≡ written e
    judged_occurs w R e xs h =
        ap (λ z. all_of (map noted z)) (sym h.filled.parts)
        ∙ fills_occur D w (place e) [] e (case_of R) h.fillings h.filled.mades h.fits (all_occur (judgement_questions w e h.fillings R) h.filled.mades h.filled.asked)

    args_occur : (w : Within) (es : List Exp) (ts : List Ty) (ms : List Made) → length es ≡ length ts → Claims Noted (each_asked w es ts) ms → map noted (exps ms) ≡ map written es
    args_occur w [] ts [] l c = refl
    args_occur w [] ts (m ∷ ms) l c = absurd c
    args_occur w (e ∷ es) [] ms l c = absurd (cc)
    args_occur w (e ∷ es) (t ∷ ts) [] l c = absurd c
    args_occur w (e ∷ es) (t ∷ ts) (m ∷ ms) l c =
        let rest = args_occur w es ts ms (cc) c.1 in
        λ i. c.0 i ∷ rest i

    -- ---- counts

    counted_alike : (w : Within) (c : Count) (k : Iteration) → Reached D S (counted_at w (out-Count c)) k → round_of k ≡ round_written c
    counted_alike w c k h =
        Reached-keeps D S Noted (λ q. row_occurs D S q) (λ l. round_of l ≡ round_written c) (counted_at w (out-Count c)) (λ Q next g. counted_occurs D Q w c (out-Count c) next refl g) k h

    -- ---- premises

    prem_occurs : (w : Within) (p : Prem) (x : IlPrem) → ElabPrem D S w p x → prem_noted x ≡ prem_written p
    prem_occurs w p x (condition e y is h) = noted-level (premise.If y) _ (premise.outs-If y) ∙ inside_occurs w e ty.Bool y h ∙ sym (prem-level p _ is)
    prem_occurs w p x (judgement name e R xs is named h) =
        noted-level (premise.Goal name xs) _ (premise.outs-Goal name xs) ∙ judged_occurs w R e xs h ∙ sym (prem-level p _ is)
    prem_occurs w p x (otherwise is) = noted-level premise.Otherwise _ premise.outs-Otherwise ∙ sym (prem-level p _ is)
    prem_occurs w p x (each q c y k is h n) =
        let names : List (List ℕ) = iterated_names S w c (λ name. occurs_in_prem name y) in
        let body = prem_occurs (inside w c) q y h in
        let times = counted_alike w c k n in
        noted-level (premise.Each k names y) _ (premise.outs-Each k names y) ∙ (λ i. iterated (times i) (body i))
        ∙ sym (iterated-read (count_meaning c) (mentions_prem q) (place_of p)) ∙ sym (prem-level p _ is)

    prems_occur : (w : Within) (ps : List Prem) (xs : List IlPrem) → ElabPrems D S w ps xs → map prem_noted xs ≡ map prem_written ps
    prems_occur w [] [] h = refl
    prems_occur w [] (x ∷ xs) h = absurd h
    prems_occur w (p ∷ ps) [] h = absurd h
    prems_occur w (p ∷ ps) (x ∷ xs) h =
        let first = prem_occurs w p x h.0 in
        let rest = prems_occur w ps xs h.1 in
        λ i. first i ∷ rest i

  -- ---- rules and clauses

  mentions_read : (es : List Exp) (ps : List Prem) → beside (all_of (map written es)) (all_of (map prem_written ps)) outside ≡ mentioned (mentions_in es ps)
  mentions_read es ps =
      (λ i. sym (parts-read mentions_exp es outside) i ++ sym (parts-read mentions_prem ps outside) i)
      ∙ sym (mentioned-append (seen_in (map mentions_exp es) outside) (seen_in (map mentions_prem ps) outside))

  single : (a : Notes) → all_of (a ∷ []) ≡ a
  single a = λ i w. append-nil (a w) i

  pub rule_notes : (R : RelationDef) (name : List ℕ) (e : Exp) (ps : List Prem) (rule : RuleDef) → ElabRule D R name e ps rule → all_noted rule.conclusion rule.premises ≡ mentioned (mentions_in (e ∷ []) ps)
  rule_notes R name e ps rule h =
      let w = around h.scope in
      let conclusion : all_of (map noted rule.conclusion) ≡ all_of (map written (e ∷ [])) = judged_occurs h.scope w R e rule.conclusion h.judged ∙ sym (single (written e)) in
      let premises = prems_occur h.scope w ps rule.premises h.holding in
      (λ i. beside (conclusion i) (all_of (premises i)) outside) ∙ mentions_read (e ∷ []) ps

  pub clause_notes : (f : FunDef) (c : ClauseParts) (clause : ClauseDef) → ElabClause D f c clause → all_noted (clause.args ++ clause.result ∷ []) clause.premises ≡ mentioned (mentions_of c)
  clause_notes f c clause h =
      let w = around h.scope in
      let args : map noted clause.args ≡ map written c.args = ap (map noted) (sym h.arguments.parts)
      ∙ args_occur h.scope w c.args f.params h.arguments.mades h.number (all_occur h.scope (each_asked w c.args f.params) h.arguments.mades h.arguments.asked) in
      let result = inside_occurs h.scope w c.result f.result clause.result h.result_is in
      let parts : map noted (clause.args ++ clause.result ∷ []) ≡ map written (c.args ++ c.result ∷ []) =
      map-append noted clause.args (clause.result ∷ []) ∙ (λ i. args i ++ (result i ∷ [])) ∙ sym (map-append written c.args (c.result ∷ [])) in
      let premises = prems_occur h.scope w c.premises clause.premises h.holding in
      (λ i. beside (all_of (parts i)) (all_of (premises i)) outside) ∙ mentions_read (c.args ++ c.result ∷ []) c.premises
