-- Accepted lines vouch for their nodes and steps.
use Rattle.std.proofs.Common.{◌≡◌, refl, ℕ, zero, suc, ◌+◌, sym, ◌∙◌, ap, subst, List, [], ◌∷◌, ◌++◌, Option, Some, None, ◌⊎◌, inl, inr, arith, length}
use Rattle.std.specs.Prelude.{slice_get, IsSomeAnd, option_and_then, option_map}
use Rattle.st_deriv.specs.declared.line.Line.{Line}
use Rattle.st_deriv.specs.declared.line.Line.TheVariants.{Head, From, Node, Step, End}
use Rattle.st_deriv.specs.declared.line.NodeLine.{NodeLine}
use Rattle.st_il.specs.declared.definition.Il.{Il}
use Rattle.st_il.specs.declared.value.Value.{Value}
use Rattle.st_semantics.specs.declared.verify_rule.VerifyRule.TheVariants.{V3, V4, V11}
use Rattle.st_semantics.specs.declared.notes.Judgement.{Judgement}
use Rattle.st_semantics.specs.declared.notes.Notes.{Notes}
use Rattle.st_il.specs.Names.{Name}
use Rattle.st_semantics.specs.Directions.{inputs_of, outputs_of}
use Rattle.st_semantics.specs.Breaches.{KeepModes}
use Rattle.st_semantics.specs.Derivation.{HasTree}
use Rattle.st_semantics.specs.Notes.{nothing_noted, judgement_on, noted}
use Rattle.st_semantics.specs.Checks.{asks}
use Rattle.st_semantics.specs.Walks.{Judges}
use Rattle.st_semantics.specs.Verdict.{Verdict, IsInPlace, IsNode, Continues, tests, tests_node, rule_named}
use Rattle.st_semantics.specs.Accepts as reads
use Rattle.st_semantics.specs.Accepts.{ReadsTo, Accepts, IsDerivedStep, AreSound}
use Rattle.st_semantics.specs.inner.Trials.{TrialsAreStable}
use Rattle.st_semantics.proofs.Trials.{trials_are_stable}
use Rattle.st_semantics.specs.Laws.{LawOfReading, LawOfAcceptance}
use Rattle.st_semantics.proofs.Nodes.{both, asked, node_tree}

-- ---- lists

last_or : {X : Type 0} (xs : List X) (x : X) (k : ℕ) (y : X) → slice_get (xs ++ x ∷ []) k ≡ Some y → (slice_get xs k ≡ Some y) ⊎ (x ≡ y)
last_or [] x zero y e = inr cc
last_or [] x (suc k) y e = cc
last_or (z ∷ zs) x zero y e = inl e
last_or (z ∷ zs) x (suc k) y e = last_or zs x k y e

not_nil : {X : Type 0} (bs : List X) (x : X) (as' : List X) → [] ≡ bs ++ x ∷ as' → ⊥
not_nil [] x as' e = cc
not_nil (b ∷ bs) x as' e = cc

abbrev Split : {X : Type 0} → List X → X → List X → X → Type 0
Split {X} ls l bs x = ((bs ≡ ls) × (l ≡ x)) ⊎ ((more : List X) × (ls ≡ bs ++ x ∷ more))

split_next : {X : Type 0} (y b : X) (ys : List X) (l : X) (bs : List X) (x : X) → y ≡ b → Split ys l bs x → Split (y ∷ ys) l (b ∷ bs) x
split_next y b ys l bs x e (inl p) = let h : b ∷ bs ≡ y ∷ ys = cc in inl (h, p.1)
split_next y b ys l bs x e (inr p) = let h : y ∷ ys ≡ b ∷ (bs ++ x ∷ p.0) = cc in inr (p.0, h)

split_last : {X : Type 0} (ls : List X) (l : X) (bs : List X) (x : X) (as' : List X) → ls ++ l ∷ [] ≡ bs ++ x ∷ as' → Split ls l bs x
split_last [] l [] x as' e = let h : l ≡ x = cc in inl (refl, h)
split_last [] l (b ∷ bs) x as' e = let h : [] ≡ bs ++ x ∷ as' = cc in absurd (not_nil bs x as' h)
split_last (y ∷ ys) l [] x as' e = let h : y ∷ ys ≡ x ∷ ys = cc in inr (ys, h)
split_last (y ∷ ys) l (b ∷ bs) x as' e =
    let h : y ≡ b = cc in
    let t : ys ++ l ∷ [] ≡ bs ++ x ∷ as' = cc in
    split_next y b ys l bs x h (split_last ys l bs x as' t)

length_last : {X : Type 0} (xs : List X) (x : X) → length (xs ++ x ∷ []) ≡ length xs + 1
length_last [] x = refl
length_last (y ∷ ys) x = let h = length_last ys x in omega (arith, h)

no_members : {X : Type 0} (xs : List X) → length xs ≡ 0 → xs ≡ []
no_members [] e = refl
no_members (x ∷ xs) e = absurd (omega (arith, e))

-- ---- what is noted

module _ (il : Il) (modes : KeepModes il) (stable : TrialsAreStable il) where
  -- each judgement that is noted is derived
  abbrev Trees : Notes → Type 0
  Trees notes = (line : ℕ) (relation : Name) (vs : List Value) → Judges notes line relation vs → HasTree il relation vs

  node_here : (before : Notes) (node : NodeLine) → Trees before → Verdict il before (Node node) None → HasTree il node.relation node.values
  node_here before node trees v =
      node_tree il modes stable before trees node
      (both (asks (IsInPlace before (Node node)) V3) (tests_node il before node (rule_named il node)) None v refl).1

  old_or_new : (before : Notes) (x : Option Judgement) (k : ℕ) (j : Judgement) → option_and_then (λ (n : Option Judgement). n) (slice_get (before.lines ++ x ∷ []) k) ≡ Some j
      → (judgement_on before (suc k) ≡ Some j) ⊎ (x ≡ Some j)
  old_or_new before x k j e = pick (slice_get (before.lines ++ x ∷ []) k) refl e
    where
      pick : (found : Option (Option Judgement)) → slice_get (before.lines ++ x ∷ []) k ≡ found → option_and_then (λ (n : Option Judgement). n) found ≡ Some j
          → (judgement_on before (suc k) ≡ Some j) ⊎ (x ≡ Some j)
      pick None is e = cc
      pick (Some y) is e = elim (last_or before.lines x k y is) [
        | inl old ↦ inl (ap (option_and_then (λ (n : Option Judgement). n)) old ∙ e)
        | inr new ↦ inr (new ∙ e)
      ]

  trees_next : (before : Notes) (line : Line) → Trees before → Verdict il before line None → Trees (noted il before line)
  trees_next before line trees v zero relation vs j = cc
  trees_next before (Head format r) trees v (suc k) relation vs j = elim (old_or_new before None k _ j) [ inl old ↦ trees (suc k) relation vs old | inr new ↦ cc ]
  trees_next before (From values) trees v (suc k) relation vs j = elim (old_or_new before None k _ j) [ inl old ↦ trees (suc k) relation vs old | inr new ↦ cc ]
  trees_next before (Step l) trees v (suc k) relation vs j = elim (old_or_new before None k _ j) [ inl old ↦ trees (suc k) relation vs old | inr new ↦ cc ]
  trees_next before (End ending) trees v (suc k) relation vs j = elim (old_or_new before None k _ j) [ inl old ↦ trees (suc k) relation vs old | inr new ↦ cc ]
  trees_next before (Node node) trees v (suc k) relation vs j = elim (old_or_new before (Some (record { relation = node.relation; values = node.values })) k _ j) [
    | inl old ↦ trees (suc k) relation vs old
    | inr new ↦
        let A : Judgement = record { relation = node.relation; values = node.values } in
        let B : Judgement = record { relation = relation; values = vs } in
        let same : A ≡ B = cc in
        let r : node.relation ≡ relation = ap (λ (z : Judgement). z.relation) same in
        let s : node.values ≡ vs = ap (λ (z : Judgement). z.values) same in
        subst (λ z. HasTree il z vs) r (subst (HasTree il node.relation) s (node_here before node trees v))
  ]

  trees_of : (lines : List Line) (notes : Notes) → ReadsTo il lines notes → Trees notes
  trees_of lines notes (reads.none e) = subst Trees (sym e) nothing
    where
      nothing : Trees nothing_noted
      nothing zero relation vs j = cc
      nothing (suc k) relation vs j = cc
  trees_of lines notes (reads.more {lines = ls} {before = before} line r v all e) =
      subst Trees (sym e) (trees_next before line (trees_of ls before r) v)

  -- a line among those that were taken, with what was noted before it
  abbrev Taken : List Line → Line → Type 0
  Taken bs x = (before : Notes) × ReadsTo il bs before × Verdict il before x None

  taken_at : (lines : List Line) (notes : Notes) → ReadsTo il lines notes → (bs : List Line) (x : Line) (as' : List Line) → lines ≡ bs ++ x ∷ as' → Taken bs x
  taken_at lines notes (reads.none e) bs x as' is = absurd (not_nil bs x as' is)
  taken_at lines notes (reads.more {lines = ls} {before = before} line r v all e) bs x as' is = elim (split_last ls line bs x as' (sym all ∙ is)) [
    | inl p ↦ (before, subst (λ z. ReadsTo il z before) (sym p.0) r, subst (λ z. Verdict il before z None) p.1 v)
    | inr p ↦ taken_at ls before r bs x p.0 p.1
  ]

  -- ---- the first line

  reads_length : (lines : List Line) (notes : Notes) → ReadsTo il lines notes → length notes.lines ≡ length lines
  reads_length lines notes (reads.none e) = ap (λ (n : Notes). length n.lines) e
  reads_length lines notes (reads.more {lines = ls} {before = before} line r v all e) =
      let ih = reads_length ls before r in
      ap (λ (n : Notes). length n.lines) e ∙ (one_more before line ∙ (omega (arith, ih) ∙ sym (ap length all ∙ length_last ls line)))
    where
      one_more : (before : Notes) (line : Line) → length (noted il before line).lines ≡ length before.lines + 1
      one_more before (Head format r) = length_last before.lines None
      one_more before (From values) = length_last before.lines None
      one_more before (Node node) = length_last before.lines _
      one_more before (Step l) = length_last before.lines None
      one_more before (End ending) = length_last before.lines None

  abbrev Headed : List Line → Name → Type 0
  Headed lines r = (format : ℕ) × ((rest : List Line) × (lines ≡ Head format r ∷ rest))

  headed_more : (ls all : List Line) (line : Line) (r : Name) → all ≡ ls ++ line ∷ [] → Headed ls r → Headed all r
  headed_more ls all line r a h = (h.0, (h.1.0 ++ line ∷ [], a ∙ ap (λ zs. zs ++ line ∷ []) h.1.1))

  head_next : (ls all : List Line) (before notes : Notes) (line : Line) → ReadsTo il ls before → Verdict il before line None → all ≡ ls ++ line ∷ []
      → notes ≡ noted il before line → ((r : Name) → before.relation ≡ Some r → Headed ls r) → (r : Name) → notes.relation ≡ Some r → Headed all r
  head_next ls all before notes (Head format x) taken v a e ih r is =
      let place = asked (IsInPlace before (Head format x)) V3 (both (asks (IsInPlace before (Head format x)) V3) (tests il before (Head format x)) None v refl).0 in
      let empty : ls ≡ [] = no_members ls (sym (reads_length ls before taken) ∙ place.0) in
      let name : Some x ≡ Some r = sym (ap (λ (n : Notes). n.relation) e) ∙ is in
      let same : x ≡ r = cc in
      (format, ([], a ∙ (ap (λ zs. zs ++ Head format x ∷ []) empty ∙ ap (λ z. Head format z ∷ []) same)))
  head_next ls all before notes (From values) taken v a e ih r is = headed_more ls all _ r a (ih r (sym (ap (λ (n : Notes). n.relation) e) ∙ is))
  head_next ls all before notes (Node node) taken v a e ih r is = headed_more ls all _ r a (ih r (sym (ap (λ (n : Notes). n.relation) e) ∙ is))
  head_next ls all before notes (Step l) taken v a e ih r is = headed_more ls all _ r a (ih r (sym (ap (λ (n : Notes). n.relation) e) ∙ is))
  head_next ls all before notes (End ending) taken v a e ih r is = headed_more ls all _ r a (ih r (sym (ap (λ (n : Notes). n.relation) e) ∙ is))

  head_of : (lines : List Line) (notes : Notes) → ReadsTo il lines notes → (r : Name) → notes.relation ≡ Some r → Headed lines r
  head_of lines notes (reads.none e) r is = let bad : None ≡ Some r = sym (ap (λ (n : Notes). n.relation) e) ∙ is in cc
  head_of lines notes (reads.more {lines = ls} {before = before} line taken v all e) r is =
      head_next ls lines before notes line taken v all e (head_of ls before taken) r is

  -- ---- steps

  some_and : {X : Type 0} (o : Option X) (P : X → Type 0) → IsSomeAnd o P → (x : X) × ((o ≡ Some x) × P x)
  some_and (Some x) P h = (x, (refl, h))
  some_and None P h = absurd h

  step_at : (bs : List Line) (line : ℕ) → Taken bs (Step line) → IsDerivedStep il bs line
  step_at bs line (before, taken, v) =
      let t = (both (asks (IsInPlace before (Step line)) V3) (tests il before (Step line)) None v refl).1 in
      let goes = asked (IsSomeAnd (judgement_on before line) (Continues il before)) V11
      (both (asks (IsNode before line) V4) (asks (IsSomeAnd (judgement_on before line) (Continues il before)) V11) None t refl).1 in
      let found = some_and (judgement_on before line) (Continues il before) goes in
      let j : Judgement = found.0 in
      let head = head_of bs before taken j.relation found.1.1.0 in
      record {
        format = head.0;
        relation = j.relation;
        lines = head.1.0;
        head = head.1.1;
        notes = before;
        read = taken;
        from = inputs_of il j.relation j.values;
        to = outputs_of il j.relation j.values;
        term_before = found.1.1.1;
        term_after = ap (option_map (λ (z : Judgement). outputs_of il z.relation z.values)) found.1.0;
        derivable = record { values = j.values; is_derived = trees_of bs before taken line j.relation j.values found.1.0; inputs_are = refl; outputs_are = refl };
      }

  pub sound : (lines : List Line) (notes : Notes) → ReadsTo il lines notes → AreSound il lines
  sound lines notes taken = record {
    nodes = λ bs after node is.
        let at = taken_at lines notes taken bs (Node node) after is in node_here at.0 node (trees_of bs at.0 at.1) at.2;
    steps = λ bs after line is. step_at bs line (taken_at lines notes taken bs (Step line) after is);
  }

pub law_of_reading : LawOfReading
law_of_reading il modes kinds lines notes taken = sound il modes (trials_are_stable il modes kinds) lines notes taken

pub law_of_acceptance : (Typed : Il → Type 0) → LawOfAcceptance Typed
law_of_acceptance Typed il kinds lines accepts = sound il accepts.modes (trials_are_stable il accepts.modes kinds) lines accepts.notes accepts.read
