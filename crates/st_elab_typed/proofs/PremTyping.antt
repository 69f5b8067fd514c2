-- Premises that are elaborated break no rule on types.
use Rattle.std.proofs.Common.{◌≡◌, refl, sym, ◌∙◌, subst, ℕ, List, [], ◌∷◌, Option, Some, inl}
use Rattle.std.specs.Prelude.{IsTrue}
use Rattle.std.specs.List.{AllByRecursion}
use Rattle.st_el.specs.declared.expression.Exp.{Exp}
use Rattle.st_el.specs.declared.expression.Count.{Count, out-Count}
use Rattle.st_el.specs.declared.definition.Prem.{Prem}
use Rattle.st_il.specs.Occurrences.{occurs_in_prem}
use Rattle.st_il.specs.declared.definition.Il.{Il}
use Rattle.st_il.specs.declared.definition.Listed.{Listed}
use Rattle.st_il.specs.declared.definition.RelationDef.{RelationDef}
use Rattle.st_il.specs.declared.expression.IlExp.{IlExp}
use Rattle.st_il.specs.declared.expression.IlPrem.{IlPrem, out-IlPrem}
use Rattle.st_il.specs.declared.expression.IlPrem.TheOpen.{IlPrem-F}
use Rattle.st_il.specs.declared.expression.IlPrem.TheVariants as premise
use Rattle.st_il.specs.declared.expression.Iteration.{Iteration}
use Rattle.st_il.specs.declared.ty.Ty.{Ty}
use Rattle.st_il.specs.declared.ty.Ty.TheVariants as ty
use Rattle.st_type_table.specs.Meaning.{Means}
use Rattle.st_type_table.specs.Same.{SameAll}
use Rattle.st_dims.specs.declared.within.Within.{Within}
use Rattle.st_dims.specs.Around.{inside}
use Rattle.st_il.specs.Names.{Name}
use Rattle.st_il.specs.Definitions.{syntaxes, relations, relation_named as declared_relation}
use Rattle.st_semantics.specs.Iterations.{count_of, index_of, kind_of}
use Rattle.st_semantics.specs.Scopes.{listed_inside}
use Rattle.st_elab_table.specs.declared.decls.Decls.{Decls}
use Rattle.st_elab_table.specs.declared.decls.Scope.{Scope}
use Rattle.st_elab_table.specs.Forms.{place}
use Rattle.st_elab_table.specs.Iterations.{iterated}
use Rattle.st_elab_table.specs.Collections.{counted_at}
use Rattle.st_elab_table.specs.Questions.{Question, Made}
use Rattle.st_elab_table.specs.Steps.{made, asked}
use Rattle.st_elab_table.specs.Elaboration.{Reached}
use Rattle.st_elab_table.proofs.Keeps.{Reached-keeps}
use Rattle.st_elab_table.proofs.FoundByName.{relation_named-found}
use Rattle.st_elab_table.specs.Parts.{Asked}
use Rattle.st_elab_table.specs.Judgements.{relation_named, case_of, judgement_questions, Judged}
use Rattle.st_elab_table.specs.Premises.{ElabPrem, ElabPrems}
use Rattle.st_ilcheck.specs.Naming.{each_kept}
use Rattle.st_ilcheck.specs.Parts.{standing}
use Rattle.st_ilcheck.specs.Premises.{IsJudgementOf, PremBreaks, PremsBreak}
use Rattle.st_ilcheck.specs.Rules.{AllAre}
use Rattle.st_ilcheck.specs.Typings.{HaveTypings, none}
use Rattle.st_ilcheck.specs.Variables.{occurrences_in, prem_occurrences, IsListed, inside as inside_of}
use Rattle.st_elab_typed.specs.KeepsNames.{KeepsNames, AllKeepNames}
use Rattle.st_elab_typed.specs.inner.IsPlaced.{ArePlaced}
use Rattle.st_elab_typed.specs.Law.{AreListedAs}
use Rattle.st_elab_typed.proofs.Claims.{decls_of, Claim, Claims}
use Rattle.st_elab_typed.proofs.EachHas.{EachHas, found_all, each_typed, Are-found, TypedAs}
use Rattle.st_elab_typed.proofs.HasTypingLemmas.{HaveTypings-more}
use Rattle.st_elab_typed.proofs.IsPlacedLemmas.{ArePlaced-first}
use Rattle.st_elab_typed.proofs.Iterating.{AreListedAs-inside, IsCounted, counted_keeps}
use Rattle.st_elab_typed.proofs.Members.{Each-split}
use Rattle.st_elab_typed.proofs.Placing.{IsPlaced-listed, ArePlaced-listed, each_listed, body_listed, and-left}
use Rattle.st_elab_typed.proofs.Recording.{FillTypes-case, each_hole_has}
use Rattle.st_elab_typed.proofs.Table.{row_keeps, Answered-claims}
use Rattle.st_elab_typed.proofs.Walking.{AreNatural}
use Rattle.st_elab_typed.specs.RuleNames.{PremKeepsNames}
use Rattle.st_elab_typed.proofs.PremOccurring.{prem_occurrences-If, prem_occurrences-Goal, prem_occurrences-Each, prem_occurring}

-- ---- names that are kept of each form of premise

module _ (ls : List Listed) (p : IlPrem) where
  kept_If : (e : IlExp) → out-IlPrem p ≡ IlPrem-F.If e → PremKeepsNames ls p → KeepsNames ls e
  kept_If e is (PremKeepsNames.condition g o k) = let same : IlPrem-F.If g ≡ IlPrem-F.If e = sym o ∙ is in let d : g ≡ e = cc in subst (KeepsNames ls) d k
  kept_If e is (PremKeepsNames.goal relation es o k) = absurd (cc)
  kept_If e is (PremKeepsNames.otherwise o) = absurd (cc)
  kept_If e is (PremKeepsNames.each how xs body o c n k) = absurd (cc)

  kept_Goal : (relation : Name) (es : List IlExp) → out-IlPrem p ≡ IlPrem-F.Goal relation es → PremKeepsNames ls p → AllKeepNames (standing ls es)
  kept_Goal relation es is (PremKeepsNames.condition g o k) = absurd (cc)
  kept_Goal relation es is (PremKeepsNames.goal other gs o k) =
      let same : IlPrem-F.Goal other gs ≡ IlPrem-F.Goal relation es = sym o ∙ is in let d : gs ≡ es = cc in subst (λ z. AllKeepNames (standing ls z)) d k
  kept_Goal relation es is (PremKeepsNames.otherwise o) = absurd (cc)
  kept_Goal relation es is (PremKeepsNames.each how xs body o c n k) = absurd (cc)

  record EachKept (how : Iteration) (xs : List Name) (body : IlPrem) : Type 0 where
    count : AllKeepNames (standing ls (count_of how))
    exact : IsTrue (each_kept how xs ls body)
    within : PremKeepsNames (listed_inside how xs ls) body

  kept_Each : (how : Iteration) (xs : List Name) (body : IlPrem) → out-IlPrem p ≡ IlPrem-F.Each how xs body → PremKeepsNames ls p → EachKept how xs body
  kept_Each how xs body is (PremKeepsNames.condition g o k) = absurd (cc)
  kept_Each how xs body is (PremKeepsNames.goal other gs o k) = absurd (cc)
  kept_Each how xs body is (PremKeepsNames.otherwise o) = absurd (cc)
  kept_Each how xs body is (PremKeepsNames.each other ys inner o c n k) =
      let same : IlPrem-F.Each other ys inner ≡ IlPrem-F.Each how xs body = sym o ∙ is in
      let a : other ≡ how = cc in
      let b : ys ≡ xs = cc in
      let d : inner ≡ body = cc in
      subst (EachKept how xs) d (subst (λ z. EachKept how z inner) b (subst (λ z. EachKept z ys inner) a (record { count = c; exact = n; within = k })))

-- ---- relations by their names

pub declared_relation-found : (il : Il) (name : Name) (R : RelationDef) → relation_named (relations il) name ≡ Some R → declared_relation il name ≡ Some R
declared_relation-found il name R h = relation_named-found name (relations il) ∙ h

module _ (il : Il) (vars : List (List ℕ × Ty)) (S : Scope) (total : (t : Ty) → (u : Ty) × Means (syntaxes il) t u) where
  abbrev pub D : Decls
  D = decls_of il vars (relations il)

  abbrev pub Ok : Within → List Listed → Type 0
  Ok w = AreListedAs D S w

  -- ---- several expressions

  pub claims_of : (qs : List Question) (ms : List Made) → Asked D S qs ms → Claims il vars (relations il) S qs ms
  claims_of [] [] h = tt
  claims_of [] (m ∷ ms) h = absurd h
  claims_of (q ∷ qs) [] h = absurd h
  claims_of (q ∷ qs) (m ∷ ms) h = (Answered-claims il vars (relations il) S total q m h.0, claims_of qs ms h.1)

  pub exps_typed : (w : Within) (ls : List Listed) (es : List IlExp) (ts : List Ty) → Ok w ls → EachHas il (Ok w) es ts → AllKeepNames (standing ls es) → AllByRecursion (IsListed ls) (occurrences_in es)
      → TypedAs il (Ok w) ls es (λ os. SameAll (syntaxes il) os ts)
  exps_typed w ls es ts ok h k listed = each_typed il (Ok w) ls es ts ok (ArePlaced-listed (standing ls es) k (each_listed ls es listed)) h

  pub judged_has : (w : Within) (R : RelationDef) (e : Exp) (xs : List IlExp) → Judged D S w R e xs → EachHas il (Ok w) xs R.holes
  judged_has w R e xs h = subst (λ z. EachHas il (Ok w) z R.holes) h.filled.parts
      (each_hole_has il vars (relations il) S total w (place e) [] h.fillings R.holes h.filled.mades (FillTypes-case (syntaxes il) (case_of R) e h.fillings h.fits)
      (claims_of (judgement_questions w e h.fillings R) h.filled.mades h.filled.asked))

  pub is_judgement : (name : Name) (R : RelationDef) (os : List Ty) → declared_relation il name ≡ Some R → SameAll (syntaxes il) os R.holes → IsJudgementOf il name (found_all os)
  is_judgement name R os is same = record { declared = R; found = is; typed = Are-found (syntaxes il) os R.holes same }

  -- ---- counts

  natural_typed : (w : Within) (ls : List Listed) (es : List IlExp) → Ok w ls → ArePlaced (standing ls es) → AreNatural il (Ok w) es → (os : List (Option Ty)) × (HaveTypings il (standing ls es) os [] × AllAre (syntaxes il) ty.Nat os)
  natural_typed w ls [] ok k h = ([], (none, tt))
  natural_typed w ls (e ∷ es) ok k h =
      let n = ArePlaced-first (ls, e) (standing ls es) k in
      let r = h.0 ls ok n.0 in
      let rest = natural_typed w ls es ok n.1 h.1 in
      (Some r.0 ∷ rest.0, (HaveTypings-more il (ls, e) (standing ls es) (Some r.0) rest.0 r.1.0 rest.1.0, (r.1.1, rest.1.1)))

  reached_counted : (w : Within) (c : Count) (k : Iteration) → Reached D S (counted_at w (out-Count c)) k → IsCounted il vars (relations il) S w (out-Count c) k
  reached_counted w c k h =
      Reached-keeps D S (Claim il vars (relations il) S) (λ q. row_keeps il vars (relations il) S total q) (λ l. IsCounted il vars (relations il) S w (out-Count c) l) (counted_at w (out-Count c))
      (λ Q next g. counted_keeps il vars (relations il) S w Q (out-Count c) next g) k h

  -- ---- premises

  -- the occurrences in a premise are listed
  abbrev pub PremListed : List Listed → IlPrem → Type 0
  PremListed ls p = AllByRecursion (IsListed ls) (prem_occurrences p)

  prem_typed : (w : Within) (p : Prem) (x : IlPrem) → ElabPrem D S w p x → (ls : List Listed) → Ok w ls → PremKeepsNames ls x → PremListed ls x → PremBreaks il ls x []
  prem_typed w p y (ElabPrem.condition e x is h) ls ok k listed =
      let out = premise.outs-If x in
      let r = (Answered-claims il vars (relations il) S total (asked w e ty.Bool) (made x ty.Bool) h).0 ls ok
      (IsPlaced-listed ls x (kept_If ls (premise.If x) x out k) (subst (AllByRecursion (IsListed ls)) (prem_occurrences-If (premise.If x) x out) listed)) in
      PremBreaks.condition x (Some r.0) [] [] out r.1.0 (inl (r.1.1, refl)) refl
  prem_typed w p y (ElabPrem.judgement name e R xs is found h) ls ok k listed =
      let out = premise.outs-Goal name xs in
      let r = exps_typed w ls xs R.holes ok (judged_has w R e xs h) (kept_Goal ls (premise.Goal name xs) name xs out k) (subst (AllByRecursion (IsListed ls)) (prem_occurrences-Goal (premise.Goal name xs) name xs out) listed) in
      PremBreaks.goal name xs (found_all r.os) [] [] out r.typings (inl (is_judgement name R r.os (declared_relation-found il name R found) r.holds, refl)) refl
  prem_typed w p y (ElabPrem.otherwise is) ls ok k listed = PremBreaks.otherwise premise.outs-Otherwise refl
  prem_typed w p y (ElabPrem.each q c x how is h reached) ls ok k listed =
      let xs = iterated S w c (λ name. occurs_in_prem name x) in
      let out = premise.outs-Each how xs x in
      let names = kept_Each ls (premise.Each how xs x) how xs x out k in
      let made = reached_counted w c how reached in
      let split = Each-split (IsListed ls) (occurrences_in (count_of how)) (inside_of (index_of how) (kind_of how) (prem_occurrences x)) (subst (AllByRecursion (IsListed ls)) (prem_occurrences-Each (premise.Each how xs x) how xs x out) listed) in
      let counts = natural_typed w ls (count_of how) ok (ArePlaced-listed (standing ls (count_of how)) names.count (each_listed ls (count_of how) split.0)) made.natural in
      let body = body_listed how xs ls (λ z. occurs_in_prem z x) (and-left _ _ names.exact) (prem_occurrences x) (prem_occurring (listed_inside how xs ls) x names.within) split.1 in
      let typed = prem_typed (inside w c) q x h (listed_inside how xs ls) (AreListedAs-inside D S w c how xs ls made.index ok) names.within body in
      PremBreaks.each how xs x counts.0 [] [] [] [] out counts.1.0 (inl (counts.1.1, refl)) (inl (names.exact, refl)) typed refl

  pub prems_typed : (w : Within) (ps : List Prem) (xs : List IlPrem) → ElabPrems D S w ps xs → (ls : List Listed) → Ok w ls → AllByRecursion (PremKeepsNames ls) xs → AllByRecursion (PremListed ls) xs → PremsBreak il ls xs []
  prems_typed w [] [] h ls ok k listed = PremsBreak.none
  prems_typed w [] (x ∷ xs) h ls ok k listed = absurd h
  prems_typed w (p ∷ ps) [] h ls ok k listed = absurd h
  prems_typed w (p ∷ ps) (x ∷ xs) h ls ok k listed = PremsBreak.more [] [] (prem_typed w p x h.0 ls ok k.0 listed.0) (prems_typed w ps xs h.1 ls ok k.1 listed.1) refl
