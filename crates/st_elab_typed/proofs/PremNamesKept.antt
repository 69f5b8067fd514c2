-- The iterations of an elaborated premise name exactly what they go over.
use Rattle.std.proofs.Common.{◌≡◌, inl, inr, refl, sym, ap, ◌∙◌, subst, ℕ, List, [], ◌++◌, map, length, Bool, true, false, not}
use Rattle.st_el.specs.declared.expression.Exp.{Exp}
use Rattle.st_el.specs.declared.expression.Count.{Count, out-Count}
use Rattle.st_el.specs.declared.definition.Prem.{Prem, out-Prem, fold_out-Prem}
use Rattle.st_el.specs.declared.definition.PremNode.{PremNode, map-PremNode, fold-PremNode, fold_out-PremNode}
use Rattle.st_el.specs.declared.definition.PremNode.TheOpen.{PremNode-F}
use Rattle.st_il.specs.declared.definition.Listed.{Listed}
use Rattle.st_il.specs.declared.definition.RelationDef.{RelationDef}
use Rattle.st_il.specs.declared.ty.Ty.{Ty}
use Rattle.st_il.specs.declared.ty.Ty.TheVariants as ty
use Rattle.st_il.specs.declared.expression.IlExp.{IlExp}
use Rattle.st_il.specs.declared.expression.IlPrem.{IlPrem, out-IlPrem, roll-IlPrem, out-roll-IlPrem, map-IlPrem, fold_out-IlPrem}
use Rattle.st_il.specs.declared.expression.IlPrem.TheOpen.{IlPrem-F}
use Rattle.st_il.specs.declared.expression.IlPrem.TheVariants as premise
use Rattle.st_il.specs.declared.expression.Iteration.{Iteration}
use Rattle.st_il.specs.Occurrences.{in_any, occurs, occurs_prem_at, occurs_in_prem}
use Rattle.st_dims.specs.declared.within.Within.{Within}
use Rattle.st_dims.specs.Around.{kind_at, index_at, inside, entered}
use Rattle.st_il.specs.Names.{has_name}
use Rattle.st_semantics.specs.Iterations.{count_of, index_of, kind_of}
use Rattle.st_semantics.specs.Scopes.{listed_inside}
use Rattle.st_semantics.specs.Variables.{has_otherwise, has_otherwise_at}
use Rattle.st_semantics.proofs.Wider.{Parts, prem-ind}
use Rattle.st_ilcheck.specs.Naming.{names_exactly}
use Rattle.st_elab_table.specs.declared.decls.Decls.{Decls}
use Rattle.st_elab_table.specs.declared.decls.Scope.{Scope}
use Rattle.st_elab_table.specs.Forms.{place}
use Rattle.st_elab_table.specs.Collections.{counted_at}
use Rattle.st_elab_table.specs.Iterations.{iterated, iterated_in}
use Rattle.st_elab_table.specs.Questions.{Question, Made}
use Rattle.st_elab_table.specs.Steps.{made, asked}
use Rattle.st_elab_table.specs.Elaboration.{Reached}
use Rattle.st_elab_table.proofs.Keeps.{Reached-keeps}
use Rattle.st_elab_law.proofs.Claims.{Claims, claims_of}
use Rattle.st_elab_table.specs.Parts.{Asked}
use Rattle.st_elab_table.specs.Inside.{ElabInside}
use Rattle.st_elab_table.specs.Judgements.{judgement_questions, Judged}
use Rattle.st_elab_table.specs.Premises.{node_of, ElabPrem, condition, judgement, otherwise, each}
use Rattle.st_elab_typed.specs.RuleNames.{PremKeepsNames, condition as kept_condition, goal as kept_goal, otherwise as kept_otherwise, each as kept_each}
use Rattle.st_elab_typed.specs.Sources.{otherwise_node, otherwise_prem, is_otherwise, repeats_otherwise, RepeatsNoOtherwise}
use Rattle.st_elab_law.specs.Notes.{Notes, all_of, occurs as occurring}
use Rattle.st_elab_law.specs.Noted.{iterated as iterated_notes, noted, prem_noted, prem_noted_at}
use Rattle.st_elab_typed.specs.inner.Named.{Names, AllName}
use Rattle.st_elab_typed.proofs.Members.{Has}
use Rattle.st_elab_typed.proofs.AreListed.{Rises}
use Rattle.st_elab_typed.proofs.OccurrencesSeen.{outside_some, outside_index}
use Rattle.st_elab_typed.proofs.NotedParts.{round-parts, prem_noted-level, in_iteration}
use Rattle.st_elab_typed.proofs.Occurring.{in_list, in_member}
use Rattle.st_elab_typed.proofs.PremOccurring.{prem_occurs-level, prem_occurs-count, prem_occurs-body}
use Rattle.st_elab_typed.proofs.OccursNoted.{occurs-noted, Shown, in_part}
use Rattle.st_elab_typed.proofs.NamedRows.{Claim, row_names, Answered-names, counted_names, holes_names}
use Rattle.st_elab_typed.proofs.NamesKept.{AreFine, Fits, fits_part, exactly, fits_inside, iteration_fine, names-kept, all-kept, noted_name, and_both}

-- ---- what occurs in a premise

module _ (n : List ℕ) where
  abbrev PremShown : IlPrem → Type 0
  PremShown p = Shown n (occurs_in_prem n p) (prem_noted p)

  by_level : (y : IlPrem-F IlPrem) → Shown n (occurs_prem_at n (map-IlPrem IlPrem Bool (occurs_in_prem n) y)) (prem_noted_at (map-IlPrem IlPrem Notes prem_noted y)) → PremShown (roll-IlPrem y)
  by_level y h w c m =
      let k = h w c (subst (λ (z : Notes). Has (z w) (occurring n c)) (prem_noted-level y) m) in
      (prem_occurs-level n (roll-IlPrem y) y (out-roll-IlPrem y) ∙ k.0, k.1)

  exps_shown : (xs : List IlExp) → Shown n (in_any (map (occurs n) xs)) (all_of (map noted xs))
  exps_shown xs w c m =
      let r = in_part n noted xs w (occurring n c) m in
      let k = occurs-noted n r.0 w c r.2 in
      (in_list n xs ∙ in_member n xs r.0 r.1 k.0, k.1)

  -- what is noted of a premise occurs in it
  pub premise-noted : (p : IlPrem) → PremShown p
  premise-noted = prem-ind PremShown step
    where
      step : (y : IlPrem-F IlPrem) → Parts PremShown y → PremShown (roll-IlPrem y)
      step (IlPrem-F.If e) h = by_level (IlPrem-F.If e) (occurs-noted n e)
      step (IlPrem-F.Goal relation es) h = by_level (IlPrem-F.Goal relation es) (exps_shown es)
      step IlPrem-F.Otherwise h = by_level IlPrem-F.Otherwise (λ w c m. absurd m)
      step (IlPrem-F.Each how names body) h = λ w c m.
          let x : IlPrem = roll-IlPrem (IlPrem-F.Each how names body) in
          let is : out-IlPrem x ≡ IlPrem-F.Each how names body = out-roll-IlPrem (IlPrem-F.Each how names body) in
          let there = subst (λ (z : Notes). Has (z w) (occurring n c)) (prem_noted-level (IlPrem-F.Each how names body) ∙ ap (λ r. iterated_notes r (prem_noted body)) (round-parts how)) m in
          elim (in_iteration n how (prem_noted body) w c there) [
            | inl a ↦ (let k = h (entered (kind_of how) (index_of how) w) c a in
                (prem_occurs-body x how names body is n (outside_index n w.indices (index_of how) k.1) k.0, outside_some n w.indices (index_of how) k.1))
            | inr b ↦ (let r = in_part n noted (count_of how) w (occurring n c) b in
                let k = occurs-noted n r.0 w c r.2 in
                (prem_occurs-count x how names body is n (in_member n (count_of how) r.0 r.1 k.0), k.1))
          ]

-- ---- `otherwise`

-- whether a premise of a source is an `otherwise`, by what it is
pub source_level : (p : Prem) (y : PremNode-F PremNode Prem) → node_of p ≡ y → is_otherwise p ≡ otherwise_node (map-PremNode PremNode Prem Bool Bool (fold-PremNode Bool Bool otherwise_node otherwise_prem) is_otherwise y)
source_level p y is =
    fold_out-Prem Bool Bool otherwise_node otherwise_prem p
    ∙ fold_out-PremNode Bool Bool otherwise_node otherwise_prem (out-Prem p).node
    ∙ ap (λ z. otherwise_node (map-PremNode PremNode Prem Bool Bool (fold-PremNode Bool Bool otherwise_node otherwise_prem) is_otherwise z)) is

il_level : (x : IlPrem) (y : IlPrem-F IlPrem) → out-IlPrem x ≡ y → has_otherwise x ≡ has_otherwise_at (map-IlPrem IlPrem Bool has_otherwise y)
il_level x y is = fold_out-IlPrem Bool has_otherwise_at x ∙ ap (λ z. has_otherwise_at (map-IlPrem IlPrem Bool has_otherwise z)) is

-- what is no `otherwise` repeats none
pub repeats_none : (p : Prem) → is_otherwise p ≡ false → RepeatsNoOtherwise p
repeats_none p h = by (node_of p) refl
  where
    by : (y : PremNode-F PremNode Prem) → node_of p ≡ y → repeats_otherwise y ≡ false
    by (PremNode-F.Each q c) is = sym (source_level p (PremNode-F.Each q c) is) ∙ h
    by y is = refl

module _ (D : Decls) (S : Scope) where
  same_otherwise : (w : Within) (p : Prem) (x : IlPrem) → ElabPrem D S w p x → has_otherwise x ≡ is_otherwise p
  same_otherwise w p x (condition e y is h) = il_level (premise.If y) _ (premise.outs-If y) ∙ sym (source_level p _ is)
  same_otherwise w p x (judgement name e R xs is named h) = il_level (premise.Goal name xs) _ (premise.outs-Goal name xs) ∙ sym (source_level p _ is)
  same_otherwise w p x (otherwise is) = il_level premise.Otherwise _ premise.outs-Otherwise ∙ sym (source_level p _ is)
  same_otherwise w p x (each q c y k is h n) =
      let names : List (List ℕ) = iterated S w c (λ name. occurs_in_prem name y) in
      il_level (premise.Each k names y) _ (premise.outs-Each k names y) ∙ same_otherwise (inside w c) q y h ∙ sym (source_level p _ is)

  -- ---- the count of an iteration

  -- an iteration as its source has it
  record IsMarked (w : Within) (c : Count) (k : Iteration) : Type 0 where
    kind : kind_of k ≡ kind_at (out-Count c)
    index : index_of k ≡ index_at (out-Count c)
    counts : AllName S w (count_of k)

  marked : (w : Within) (c : Count) (k : Iteration) → Reached D S (counted_at w (out-Count c)) k → IsMarked w c k
  marked w c k h =
      Reached-keeps D S (Claim D S) (λ q. row_names D S q) (λ l. IsMarked w c l) (counted_at w (out-Count c))
      (λ Q next g. counted_names D S w Q c (out-Count c) next refl (λ l same_kind same_index counts. g l (record { kind = same_kind; index = same_index; counts = counts }))) k h

  -- ---- parts

  pub inside_named : (w : Within) (e : Exp) (t : Ty) (x : IlExp) → ElabInside D S w e t x → Names S w x
  inside_named w e t x h = Answered-names D S (asked w e t) (made x t) h

  pub claims : (qs : List Question) (ms : List Made) → Asked D S qs ms → Claims (Claim D S) qs ms
  claims qs ms h = claims_of D S (Claim D S) (λ q m k. Answered-names D S q m k) qs ms h

  pub judged_named : (w : Within) (R : RelationDef) (e : Exp) (xs : List IlExp) → Judged D S w R e xs → AllName S w xs
  judged_named w R e xs h =
      subst (AllName S w) h.filled.parts (holes_names D S w (place e) [] h.fillings R.holes h.filled.mades (claims (judgement_questions w e h.fillings R) h.filled.mades h.filled.asked))

  -- ---- premises

  module _ (rises : Rises S.variables) where
    fine_level : (w : Within) (x : IlPrem) (y : IlPrem-F IlPrem) → out-IlPrem x ≡ y → AreFine S rises (prem_noted x w) → AreFine S rises (prem_noted_at (map-IlPrem IlPrem Notes prem_noted y) w)
    fine_level w x y is fine n k =
        fine n (subst (λ (z : Notes). Has (z w) n) (sym (fold_out-IlPrem Notes prem_noted_at x ∙ ap (λ z. prem_noted_at (map-IlPrem IlPrem Notes prem_noted z)) is)) k)

    -- the iterations in a premise name exactly what they go over
    pub prem-names-kept : (w : Within) (p : Prem) (x : IlPrem) (ls : List Listed) → ElabPrem D S w p x → RepeatsNoOtherwise p → Fits S rises w ls (λ n. occurs_in_prem n x)
        → AreFine S rises (prem_noted x w) → PremKeepsNames ls x
    prem-names-kept w p x ls (condition e y is h) r f fine =
        let out = premise.outs-If y in
        kept_condition y out
        (names-kept S rises w y ls (inside_named w e ty.Bool y h)
        (fits_part S rises w ls (λ n. occurs_in_prem n (premise.If y)) (λ n. occurs n y) (λ n o. prem_occurs-level n (premise.If y) _ out ∙ o) f) (fine_level w (premise.If y) _ out fine))
    prem-names-kept w p x ls (judgement name e R xs is named h) r f fine =
        let out = premise.outs-Goal name xs in
        kept_goal name xs out
        (all-kept S rises w xs ls (judged_named w R e xs h)
        (λ z k. fits_part S rises w ls (λ n. occurs_in_prem n (premise.Goal name xs)) (λ n. occurs n z) (λ n o. prem_occurs-level n (premise.Goal name xs) _ out ∙ (in_list n xs ∙ in_member n xs z k o)) f)
        (fine_level w (premise.Goal name xs) _ out fine))
    prem-names-kept w p x ls (otherwise is) r f fine = kept_otherwise premise.outs-Otherwise
    prem-names-kept w p x ls (each q c y k is h n) r f fine =
        let names : List (List ℕ) = iterated S w c (λ name. occurs_in_prem name y) in
        let out : out-IlPrem (premise.Each k names y) ≡ IlPrem-F.Each k names y = premise.outs-Each k names y in
        let m = marked w c k n in
        let are : names ≡ iterated_in S.variables (length w.kinds) (w.indices ++ index_of k) (λ name. occurs_in_prem name y) =
        ap (λ index. iterated_in S.variables (length w.kinds) (w.indices ++ index) (λ name. occurs_in_prem name y)) (sym m.index) in
        let notes = iteration_fine S rises k (prem_noted y) w
        (subst (λ (z : Notes). AreFine S rises (z w)) (ap (λ r. iterated_notes r (prem_noted y)) (round-parts k)) (fine_level w (premise.Each k names y) (IlPrem-F.Each k names y) out fine)) in
        let in_body = λ (v : List ℕ) (free : has_name (index_of k) v ≡ false) (o : occurs_in_prem v y ≡ true). prem_occurs-body (premise.Each k names y) k names y out v free o in
        let exact : names_exactly k names ls (λ v. occurs_in_prem v y) ≡ true =
        exactly S rises k w ls (λ v. occurs_in_prem v (premise.Each k names y)) (λ v. occurs_in_prem v y) names are f notes.no_index in_body (λ must.
        let v = notes.itself must in
        let s = noted_name (prem_noted y (entered (kind_of k) (index_of k) w)) v.0.0 v.2 in
        (v.0, v.1, v.3, (premise-noted v.0.0 y (entered (kind_of k) (index_of k) w) s.0 s.1).0)) in
        let no_otherwise : is_otherwise q ≡ false = ap repeats_otherwise (sym is) ∙ r in
        let around : inside w c ≡ entered (kind_of k) (index_of k) w = λ i. entered (sym m.kind i) (sym m.index i) w in
        let inner : PremKeepsNames (listed_inside k names ls) y =
        prem-names-kept (inside w c) q y (listed_inside k names ls) h (repeats_none q no_otherwise)
        (subst (λ z. Fits S rises z (listed_inside k names ls) (λ v. occurs_in_prem v y)) (sym around)
        (fits_inside S rises k w ls (λ v. occurs_in_prem v (premise.Each k names y)) (λ v. occurs_in_prem v y) names are f notes.no_index in_body))
        (subst (λ z. AreFine S rises (prem_noted y z)) (sym around) notes.inside) in
        kept_each k names y out
        (all-kept S rises w (count_of k) ls m.counts
        (λ z j. fits_part S rises w ls (λ v. occurs_in_prem v (premise.Each k names y)) (λ v. occurs v z) (λ v o. prem_occurs-count (premise.Each k names y) k names y out v (in_member v (count_of k) z j o)) f) notes.counted)
        (and_both (names_exactly k names ls (λ v. occurs_in_prem v y)) (not (has_otherwise y)) exact (ap not (same_otherwise (inside w c) q y h ∙ no_otherwise)))
        inner
