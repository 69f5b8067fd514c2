-- The first breach of a rule or clause begins where its expressions and premises do.
use Rattle.std.proofs.Common.{ℕ, List, [], ◌∷◌, ◌++◌, inl, inr}
use Rattle.std.specs.Prelude.{true}
use Rattle.std.specs.List.{AllByRecursion}
use Rattle.st_num.specs.declared.span.Span.{Span}
use Rattle.st_el.specs.declared.expression.Exp.{Exp}
use Rattle.st_el.specs.declared.expression.Count.{Count, out-Count}
use Rattle.st_el.specs.declared.definition.Prem.{Prem}
use Rattle.st_el.specs.declared.definition.PremNode.TheOpen.{PremNode-F}
use Rattle.st_il.specs.declared.ty.Ty.TheVariants as ty
use Rattle.st_il.specs.declared.definition.RelationDef.{RelationDef}
use Rattle.st_il.specs.declared.definition.FunDef.{FunDef}
use Rattle.st_il.specs.declared.expression.IlExp.TheVariants as il
use Rattle.st_il.specs.declared.expression.Iteration.{Iteration}
use Rattle.st_dims.specs.declared.within.Within.{Within}
use Rattle.st_dims.specs.declared.mention.Mention.{Mention}
use Rattle.st_dims.specs.declared.mention.Occurrence.{Occurrence}
use Rattle.st_dims.specs.declared.mention.Iteration.{Iteration as Mentioned}
use Rattle.st_dims.specs.Mentions.{occurrences_in, iterations_in, indices_in, mentions_in}
use Rattle.st_dims.specs.Breaches.{is_misplaced, is_idle}
use Rattle.st_notation.specs.Elements.{bare}
use Rattle.st_elab_table.specs.declared.decls.Decls.{Decls}
use Rattle.st_elab_table.specs.declared.decls.Scope.{Scope}
use Rattle.st_elab_table.specs.Forms.{place}
use Rattle.st_elab_table.specs.Questions.{Question, Breach, Answer, Gives, Step, Ends}
use Rattle.st_elab_table.specs.Steps.{made, each_asked}
use Rattle.st_elab_table.specs.Elaboration.{Answered, by_row, Leads, ends, goes_on, stops, passes, misses, opens, fills, fits_none, around}
use Rattle.st_elab_table.specs.Parts.{Breaks}
use Rattle.st_elab_table.specs.Judgements.{JudgedBreach, unfit, filling}
use Rattle.st_elab_table.specs.Premises.{PremBreach, in_condition, undeclared, in_judgement, in_premise, in_count, PremsBreach}
use Rattle.st_elab_table.specs.Scopes.{is_untyped, VariableBreach, no_type, misplaced, idle}
use Rattle.st_elab_table.specs.Rules.{RuleBreach}
use Rattle.st_elab_table.specs.Rules as rules
use Rattle.st_elab_table.specs.Clauses.{ClauseParts, mentions_of, ClauseBreach}
use Rattle.st_elab_table.specs.Clauses as clauses
use Rattle.st_elab_law.proofs.ExpStands.{ExpStands, ExpsStand, no_exps, exps, CountStands, ExpStands-place, ExpsStand-append}
use Rattle.st_source.proofs.breach_places.Definitions.{PremStands, PremNodeStands, of_if, of_goal, of_each, PremsStand, prems, PremStands-place, PremStands-opened}
use Rattle.st_elab_law.proofs.FillingStands.{ExpStands-bare, Fits-stands}
use Rattle.st_elab_law.proofs.StepStands.{AnswerStands, QuestionStands, StepStands, asked_stands, each_asked_stands, holes_stand, counted_stands, row_stands}
use Rattle.st_source.proofs.breach_places.Mentions.{MentionsStand, MentionsStand-in, occurrences_stand, iterations_stand, first_stands}

module _ (P : Span → Type 0) (D : Decls) where
  mutual
    -- a breach that answers a question
    pub answered_stands : {S : Scope} {q : Question} {a : Answer} → Answered D S q a → QuestionStands D P q → AnswerStands D P a
    answered_stands {S} {q} (by_row l) h = leads_stands l (row_stands D P S q h)

    pub leads_stands : {S : Scope} {s : Step} {a : Answer} → Leads D S s a → StepStands D P s → AnswerStands D P a
    leads_stands ends h = h
    leads_stands (goes_on m k l) h = leads_stands l (h.1 m)
    leads_stands (stops b k) h = answered_stands k h.0
    leads_stands (passes k l) h = leads_stands l h.0
    leads_stands (misses k l) h = leads_stands l h.1
    leads_stands (opens u m l) h = leads_stands l (h u)
    leads_stands (fills c k l) h = leads_stands l (h.0 c k)
    leads_stands (fits_none never l) h = leads_stands l h.1

  breaks_stand : (S : Scope) (qs : List Question) (b : Breach) → AllByRecursion (QuestionStands D P) qs → Breaks D S qs b → P b.at
  breaks_stand S [] b h k = absurd k
  breaks_stand S (q ∷ qs) b h (inl k) = answered_stands k h.0
  breaks_stand S (q ∷ qs) b h (inr later) = breaks_stand S qs b h.1 later.2

  -- ---- judgements and premises

  judged_stands : {S : Scope} {w : Within} {R : RelationDef} {e : Exp} {b : Breach} → JudgedBreach D S w R e b → ExpStands P e → P b.at
  judged_stands (unfit none) h = ExpStands-place P h
  judged_stands {S} {w} {R} {e} {b} (filling fs fits breaks) h =
      breaks_stand S _ b (holes_stand D P w (place e) [] fs R.holes (ExpStands-place P h) (Fits-stands P fits.template fits.shapes (bare e) fs fits.fits (ExpStands-bare P e h))) breaks

  if_part : (e : Exp) → PremNodeStands P (PremNode-F.If e) → ExpStands P e
  if_part e (of_if h) = h

  goal_part : (name : List ℕ) (e : Exp) → PremNodeStands P (PremNode-F.Goal name e) → ExpStands P e
  goal_part name e (of_goal h) = h

  each_parts : (q : Prem) (c : Count) → PremNodeStands P (PremNode-F.Each q c) → PremStands P q × CountStands P (out-Count c)
  each_parts q c (of_each h k) = (h, k)

  -- whatever follows a count, a breach is in it
  abbrev nothing_more : Iteration → Step
  nothing_more k = Ends (Gives (made (il.Bool true) ty.Bool))

  premise_stands : {S : Scope} {w : Within} {p : Prem} {b : Breach} → PremBreach D S w p b → PremStands P p → P b.at
  premise_stands {S} {w} (in_condition e is breach) h = answered_stands breach (asked_stands D P e (if_part e (PremStands-opened P (PremNode-F.If e) is h)) w ty.Bool)
  premise_stands (undeclared name e is none) h = PremStands-place P h
  premise_stands (in_judgement name e R is found breach) h = judged_stands breach (goal_part name e (PremStands-opened P (PremNode-F.Goal name e) is h))
  premise_stands (in_premise q c is breach) h = premise_stands breach (each_parts q c (PremStands-opened P (PremNode-F.Each q c) is h)).0
  premise_stands {S} {w} (in_count q c x is elaborated stopped) h =
      leads_stands (stopped nothing_more) (counted_stands D P w (out-Count c) nothing_more (each_parts q c (PremStands-opened P (PremNode-F.Each q c) is h)).1 (λ k. tt))

  premises_stand : (S : Scope) (w : Within) (ps : List Prem) (b : Breach) → PremsBreach D S w ps b → PremsStand P ps → P b.at
  premises_stand S w [] b k h = absurd k
  premises_stand S w (p ∷ ps) b (inl k) (prems h hs) = premise_stands k h
  premises_stand S w (p ∷ ps) b (inr later) (prems h hs) = premises_stand S w ps b later.2 hs

  -- ---- rules and clauses

  variable_stands : (ms : List Mention) (b : Breach) → MentionsStand P ms → VariableBreach D ms b → P b.at
  variable_stands ms b h (no_type at first) = first_stands P (λ (o : Occurrence). o.at) (is_untyped D) (occurrences_in ms) at (occurrences_stand P ms h) first
  variable_stands ms b h (misplaced at typed is) = first_stands P (λ (o : Occurrence). o.at) (is_misplaced (indices_in ms) is.table) (occurrences_in ms) at (occurrences_stand P ms h) is.first
  variable_stands ms b h (idle at typed is) = first_stands P (λ (i : Mentioned). i.at) (is_idle is.table) (iterations_in ms) at (iterations_stand P ms h) is.first

  -- the first breach of a rule
  pub RuleBreach-stands : (R : RelationDef) (e : Exp) (ps : List Prem) (b : Breach) → RuleBreach D R e ps b → ExpStands P e → PremsStand P ps → P b.at
  RuleBreach-stands R e ps b (rules.at_variable k) h hs = variable_stands (mentions_in (e ∷ []) ps) b (MentionsStand-in P (e ∷ []) ps (exps h no_exps) hs) k
  RuleBreach-stands R e ps b (rules.in_conclusion S scope k) h hs = judged_stands k h
  RuleBreach-stands R e ps b (rules.in_premises S xs scope judged k) h hs = premises_stand S (around S) ps b k hs

  -- the first breach of a clause, whose definition stands there
  pub ClauseBreach-stands : (f : FunDef) (at : Span) (c : ClauseParts) (b : Breach) → ClauseBreach D f at c b → P at → ExpsStand P c.args → ExpStands P c.result → PremsStand P c.premises → P b.at
  ClauseBreach-stands f at c b (clauses.in_number other) there args result hs = there
  ClauseBreach-stands f at c b (clauses.at_variable number k) there args result hs =
      variable_stands (mentions_of c) b (MentionsStand-in P (c.args ++ c.result ∷ []) c.premises (ExpsStand-append P args (exps result no_exps)) hs) k
  ClauseBreach-stands f at c b (clauses.in_arguments S number scope k) there args result hs = breaks_stand S (each_asked (around S) c.args f.params) b (each_asked_stands D P (around S) c.args f.params args) k
  ClauseBreach-stands f at c b (clauses.in_result S xs number scope asked_args k) there args result hs = answered_stands k (asked_stands D P c.result result (around S) f.result)
  ClauseBreach-stands f at c b (clauses.in_premises S xs x number scope asked_args given k) there args result hs = premises_stand S (around S) c.premises b k hs
