-- A premise that keeps the rules can be met at its position.
use Rattle.std.proofs.Common.{◌≡◌, refl, sym, ◌∙◌, ap₂, subst, List, [], ◌∷◌, ◌++◌, ◌⊎◌, inl, inr, Bool, true, false, ◌&&◌, if◌then◌else◌, Option, Some, None}
use Rattle.std.specs.List.{list_all}
use Rattle.st_il.specs.declared.definition.Il.{Il}
use Rattle.st_il.specs.declared.definition.Listed.{Listed}
use Rattle.st_il.specs.declared.definition.SyntaxDef.{SyntaxDef}
use Rattle.st_il.specs.declared.expression.IlExp.{IlExp, out-IlExp}
use Rattle.st_il.specs.declared.expression.IlExp.TheOpen.{IlExp-F}
use Rattle.st_il.specs.declared.expression.Iteration.{Iteration}
use Rattle.st_il.specs.declared.expression.ListItem.{ListItem}
use Rattle.st_il.specs.declared.expression.PathSeg.{PathSeg}
use Rattle.st_il.specs.declared.expression.IlPrem.{IlPrem, out-IlPrem}
use Rattle.st_il.specs.declared.expression.IlPrem.TheOpen.{IlPrem-F}
use Rattle.st_il.specs.Names.{Name, has_name, all_known, without}
use Rattle.st_il.specs.Definitions.{syntaxes}
use Rattle.st_semantics.specs.Environments.{listed_names}
use Rattle.st_semantics.specs.Parts.{binary}
use Rattle.st_semantics.specs.Operators.{equality}
use Rattle.st_semantics.specs.Forms.{Strict}
use Rattle.st_semantics.specs.Formed as formed
use Rattle.st_semantics.specs.Formed.{IsFormed, AreFormed, PremIsFormed}
use Rattle.st_semantics.specs.Iterations.{count_of, index_of}
use Rattle.st_semantics.specs.Scopes.{listed_inside}
use Rattle.st_semantics.specs.Variables.{vars, prem_vars, cites}
use Rattle.st_semantics.specs.Patterns.{is_pattern, binds}
use Rattle.st_semantics.specs.Executable.{Class, Test, Equation, class_of, class_of_condition, class_of_equation, is_matched, is_anchored, is_countable, bound_inside}
use Rattle.st_semantics.specs.ModeRules.{has_one_open}
use Rattle.st_semantics.specs.Kinds as kinds
use Rattle.st_semantics.specs.Kinds.{AreOfItsKind, IsKinded, NamesOccurring}
use Rattle.st_semantics.specs.Laws.{CallsAreSingle}
use Rattle.st_semantics.proofs.Names.{Within, within-cases, within-right, and-both, known-within, true_false, vars-form, prem-level}
use Rattle.st_semantics.proofs.Singles.{HasForm-single}
use Rattle.st_semantics.proofs.Acceptance.{cites-level}
use Rattle.st_semantics.proofs.CanRun.{known-wider, runs_of, class-level, within-index, inside-within}
use Rattle.st_semantics.proofs.Wider.{append-wider}
use Rattle.st_semantics.proofs.Values.{equation_form}
use Rattle.st_eval.specs.Elements.{IsEach}
use Rattle.st_eval.specs.Meeting.{IsEquation, IsCondition}
use Rattle.st_eval.specs.CanBeMet as met
use Rattle.st_eval.specs.CanBeMet.{CountsAreApart, CanBeMet, LawOfMeeting}
use Rattle.st_eval.proofs.Trying.{known_all}
use Rattle.st_eval.proofs.Unfolded.{inside_listed}
use Rattle.st_eval.proofs.Iterations.{iterates}

-- ---- what the parts of a premise keep

formed_condition : (defs : List SyntaxDef) (p : IlPrem) (e : IlExp) → PremIsFormed defs p → out-IlPrem p ≡ IlPrem-F.If e → IsFormed defs e
formed_condition defs p e (formed.condition g eq f) is = let same : g ≡ e = cc in subst (IsFormed defs) same f
formed_condition defs p e (formed.goal relation es eq f) is = cc
formed_condition defs p e (formed.otherwise eq) is = cc
formed_condition defs p e (formed.each how xs body eq f g) is = cc

abbrev EachFormed : List SyntaxDef → Iteration → IlPrem → Type 0
EachFormed defs how body = AreFormed defs (count_of how) × PremIsFormed defs body

formed_each : (defs : List SyntaxDef) (p : IlPrem) (how : Iteration) (xs : List Name) (body : IlPrem) → PremIsFormed defs p → out-IlPrem p ≡ IlPrem-F.Each how xs body → EachFormed defs how body
formed_each defs p how xs body (formed.condition g eq f) is = cc
formed_each defs p how xs body (formed.goal relation es eq f) is = cc
formed_each defs p how xs body (formed.otherwise eq) is = cc
formed_each defs p how xs body (formed.each k ys b eq f g) is =
    let kk : k ≡ how = cc in
    let bb : b ≡ body = cc in
    subst (EachFormed defs how) bb (subst (λ z. EachFormed defs z b) kk (f, g))

abbrev EachKinded : List Listed → Iteration → List Name → IlPrem → Type 0
EachKinded ls how xs body = AreOfItsKind how xs ls × IsKinded (listed_inside how xs ls) body

kinded_each : (ls : List Listed) (p : IlPrem) (how : Iteration) (xs : List Name) (body : IlPrem) → IsKinded ls p → out-IlPrem p ≡ IlPrem-F.Each how xs body → EachKinded ls how xs body
kinded_each ls p how xs body (kinds.condition g eq) is = cc
kinded_each ls p how xs body (kinds.goal relation es eq) is = cc
kinded_each ls p how xs body (kinds.otherwise eq) is = cc
kinded_each ls p how xs body (kinds.each k ys b eq f g) is =
    let kk : k ≡ how = cc in
    let yy : ys ≡ xs = cc in
    let bb : b ≡ body = cc in
    subst (EachKinded ls how xs) bb (subst (λ z. EachKinded ls how z b) yy (subst (λ z. EachKinded ls z ys b) kk (f, g)))

abbrev EachApart : Iteration → List Name → IlPrem → Type 0
EachApart how xs body =
    ((e : IlExp) (c : Name) → count_of how ≡ e ∷ [] → out-IlExp e ≡ IlExp-F.Var c → has_name xs c ≡ false) × CountsAreApart body

apart_each : (p : IlPrem) (how : Iteration) (xs : List Name) (body : IlPrem) → CountsAreApart p → out-IlPrem p ≡ IlPrem-F.Each how xs body → EachApart how xs body
apart_each p how xs body (met.plain none) is = absurd (none how xs body is)
apart_each p how xs body (met.each k ys b eq f g) is =
    let kk : k ≡ how = cc in
    let yy : ys ≡ xs = cc in
    let bb : b ≡ body = cc in
    subst (EachApart how xs) bb (subst (λ z. EachApart how z b) yy (subst (λ z. EachApart z ys b) kk (f, g)))

two_formed : (defs : List SyntaxDef) (a b : IlExp) → AreFormed defs (a ∷ b ∷ []) → IsFormed defs a × IsFormed defs b
two_formed defs a b (formed.more f (formed.more g rest)) = (f, g)

-- the sides of an equation have forms
sides_formed : (defs : List SyntaxDef) (e a b : IlExp) → out-IlExp e ≡ IlExp-F.Eq a b → IsFormed defs e → IsFormed defs a × IsFormed defs b
sides_formed defs e a b is (formed.strict es f h all) =
    let same = HasForm-single defs e _ _ h (equation_form defs e a b is) in
    let ee : es ≡ a ∷ b ∷ [] = cc in
    two_formed defs a b (subst (AreFormed defs) ee all)
sides_formed defs e a b is (formed.variable x h) = let same = HasForm-single defs e _ _ h (equation_form defs e a b is) in cc
sides_formed defs e a b is (formed.call fun args h all) = let same = HasForm-single defs e _ _ h (equation_form defs e a b is) in cc
sides_formed defs e a b is (formed.iteration how xs body h count g) = let same = HasForm-single defs e _ _ h (equation_form defs e a b is) in cc

-- ---- conditions

module _ (il : Il) (bound : List Name) (ls : List Listed) (few : List Name) (wider : Within few bound) (e : IlExp) (form : IsFormed (syntaxes il) e) (listed : all_known (listed_names ls) (vars e) ≡ true) (unknown : all_known bound (vars e) ≡ false) where
  -- the variables of an equation are those of its sides
  both_known : (a b : IlExp) → out-IlExp e ≡ IlExp-F.Eq a b → all_known bound (vars a) ≡ true → all_known bound (vars b) ≡ true → ⊥
  both_known a b is ka kb =
      let known : all_known bound (vars e) ≡ true = known_all bound (vars e) (λ x i.
      elim (within-cases (vars a) (vars b ++ []) x (subst (λ z. has_name z x ≡ true) (vars-form (syntaxes il) e (Strict (a ∷ b ∷ []) (binary equality)) (equation_form (syntaxes il) e a b is)) i)) [
        | inl j ↦ known-within bound (vars a) ka x j
        | inr j ↦ elim (within-cases (vars b) [] x j) [ inl k ↦ known-within bound (vars b) kb x k | inr k ↦ cc ]
      ]) in
      true_false (sym known ∙ unknown)

  not_known : (xs : List Name) → (all_known bound xs ≡ true → ⊥) → all_known bound xs ≡ false
  not_known xs f = at (all_known bound xs) refl
    where
      at : (b : Bool) → all_known bound xs ≡ b → all_known bound xs ≡ false
      at true k = absurd (f k)
      at false k = k

  abbrev Way : Type 0
  Way = (side : IlExp) × (pattern : IlExp) × IsEquation il bound ls e side pattern

  -- what is matched, as it is told at its position
  way_of : (a b side pattern : IlExp) → out-IlExp e ≡ IlExp-F.Eq a b → ((side ≡ a) × (pattern ≡ b)) ⊎ ((side ≡ b) × (pattern ≡ a)) → is_matched few side pattern ≡ true → Way
  way_of a b side pattern is which m =
      let w = and-both (all_known few (vars side) && is_pattern pattern) (all_known (few ++ binds pattern) (vars pattern)) m in
      let v = and-both (all_known few (vars side)) (is_pattern pattern) w.0 in
      let known : all_known bound (vars side) ≡ true = known-wider few bound (vars side) wider v.0 in
      let s = sides_formed (syntaxes il) e a b is form in
      let pair = by_which which in (
        side,
        pattern,
        record {
          sides = (pair.0, known, not_known (vars pattern) (pair.1 known));
          side_formed = (forms which s).0;
          pattern_formed = (forms which s).1;
          matched = v.1;
          bound_too = known-wider (few ++ binds pattern) (bound ++ binds pattern) (vars pattern) (append-wider few bound (binds pattern) wider) w.1;
          listed = listed;
        },
      )
    where
      by_which : ((side ≡ a) × (pattern ≡ b)) ⊎ ((side ≡ b) × (pattern ≡ a))
          → ((out-IlExp e ≡ IlExp-F.Eq side pattern) ⊎ (out-IlExp e ≡ IlExp-F.Eq pattern side)) × (all_known bound (vars side) ≡ true → all_known bound (vars pattern) ≡ true → ⊥)
      by_which (inl q) = (
        inl (is ∙ ap₂ (λ y z. IlExp-F.Eq y z) (sym q.0) (sym q.1)),
        λ ks kp. both_known a b is (subst (λ z. all_known bound (vars z) ≡ true) q.0 ks) (subst (λ z. all_known bound (vars z) ≡ true) q.1 kp),
      )
      by_which (inr q) = (
        inr (is ∙ ap₂ (λ y z. IlExp-F.Eq y z) (sym q.1) (sym q.0)),
        λ ks kp. both_known a b is (subst (λ z. all_known bound (vars z) ≡ true) q.1 kp) (subst (λ z. all_known bound (vars z) ≡ true) q.0 ks),
      )

      forms : ((side ≡ a) × (pattern ≡ b)) ⊎ ((side ≡ b) × (pattern ≡ a)) → IsFormed (syntaxes il) a × IsFormed (syntaxes il) b → IsFormed (syntaxes il) side × IsFormed (syntaxes il) pattern
      forms (inl q) s = (subst (IsFormed (syntaxes il)) (sym q.0) s.0, subst (IsFormed (syntaxes il)) (sym q.1) s.1)
      forms (inr q) s = (subst (IsFormed (syntaxes il)) (sym q.0) s.1, subst (IsFormed (syntaxes il)) (sym q.1) s.0)

  equation_way : (c : Class) (y : IlExp-F IlExp Iteration ListItem PathSeg) → out-IlExp e ≡ y → class_of_equation few y ≡ Some c → Way
  equation_way c (IlExp-F.Eq a b) is h = first (is_matched few a b) refl (is_matched few b a) refl h
    where
      first : (m : Bool) → is_matched few a b ≡ m → (k : Bool) → is_matched few b a ≡ k → (if m then Some (Equation b) else if k then Some (Equation a) else None) ≡ Some c → Way
      first true m k n h = way_of a b a b is (inl (refl, refl)) m
      first false m true n h = way_of a b b a is (inr (refl, refl)) n
      first false m false n h = cc
  equation_way c _ is h = cc

  condition_way : (c : Class) → class_of_condition few e ≡ Some c → Way
  condition_way c h = at (all_known few (vars e)) refl h
    where
      at : (k : Bool) → all_known few (vars e) ≡ k → (if k then Some Test else class_of_equation few (out-IlExp e)) ≡ Some c → Way
      at true k h = absurd (true_false (sym (known-wider few bound (vars e) wider k) ∙ unknown))
      at false k h = equation_way c (out-IlExp e) refl h

is_condition : (il : Il) (bound : List Name) (ls : List Listed) (few : List Name) → Within few bound → (e : IlExp) → IsFormed (syntaxes il) e → all_known (listed_names ls) (vars e) ≡ true → (c : Class) → class_of_condition few e ≡ Some c
    → IsCondition il bound ls e
is_condition il bound ls few wider e form listed c h = record { formed = form; way = at (all_known bound (vars e)) refl }
  where
    at : (k : Bool) → all_known bound (vars e) ≡ k → (all_known bound (vars e) ≡ true) ⊎ ((side : IlExp) × (pattern : IlExp) × IsEquation il bound ls e side pattern)
    at true k = inl k
    at false k = inr (condition_way il bound ls few wider e form listed k c h)

-- ---- premises

tests : (a b d : Bool) (class : Option Class) (c : Class) → (if a && b && d then class else None) ≡ Some c → (d ≡ true) × (class ≡ Some c)
tests true true true class c h = (refl, h)
tests true true false class c h = cc
tests true false d class c h = cc
tests false b d class c h = cc

module _ (il : Il) (single : CallsAreSingle il) where
  can_meet : {p : IlPrem} → NamesOccurring p → (bound : List Name) (ls : List Listed) (few : List Name) (class : Class) → all_known bound few ≡ true → class_of il few p ≡ Some class → has_one_open (Some class) ≡ true
      → PremIsFormed (syntaxes il) p → IsKinded ls p → CountsAreApart p → cites p ≡ false → all_known (listed_names ls) (bound ++ prem_vars p) ≡ true → CanBeMet il bound ls p
  can_meet {p = p} (kinds.condition e is) bound ls few class within h o form kinded apart free listed =
      met.condition e is (is_condition il bound ls few (known-within bound few within) e (formed_condition (syntaxes il) p e form is)
      (known_all (listed_names ls) (vars e) (λ x i. known-within (listed_names ls) (bound ++ prem_vars p) listed x (within-right bound (prem_vars p) x (subst (λ z. has_name z x ≡ true) (sym (prem-level p (IlPrem-F.If e) is)) i))))
      class (sym (class-level il few p (IlPrem-F.If e) is) ∙ h))
  can_meet {p = p} (kinds.goal relation es is) bound ls few class within h o form kinded apart free listed = absurd (true_false (sym (cites-level p (IlPrem-F.Goal relation es) is) ∙ free))
  can_meet (kinds.otherwise is) bound ls few class within h o form kinded apart free listed = met.otherwise is
  can_meet {p = p} (kinds.each how xs body is own deeper) bound ls few class within h o form kinded apart free listed =
      let others : List Name = without xs (without (index_of how) (runs_of il body).vars) in
      let t = tests (is_anchored few how xs) (list_all (is_countable few) (count_of how)) (all_known few others) ((runs_of il body).class (bound_inside few how xs others)) class
      (sym (class-level il few p (IlPrem-F.Each how xs body) is) ∙ h) in
      let forms = formed_each (syntaxes il) p how xs body form is in
      let kind = kinded_each ls p how xs body kinded is in
      let counts = apart_each p how xs body apart is in
      let each : IsEach il bound ls p how xs body = record {
        is = is;
        few = few;
        within = within;
        class = class;
        executable = h;
        one_open = o;
        names_occurring = kinds.each how xs body is own deeper;
        without_goal = free;
        listed = listed;
        kinded = kind.0;
        apart = λ e c one v unbound. counts.0 e c one v;
      } in
      met.each how xs body each forms.0
      (can_meet deeper (index_of how ++ bound) (listed_inside how xs ls) (bound_inside few how xs others) class
      (known_all (index_of how ++ bound) (bound_inside few how xs others)
      (λ x i. within-index (index_of how) few bound (known-within bound few within) x (inside-within few how xs others t.0 x i)))
      t.1 o forms.1 kind.1 counts.1 (sym (cites-level p (IlPrem-F.Each how xs body) is) ∙ free)
      (inside_listed il bound ls p how xs body (iterates il bound ls p how xs body each)))

  pub law_of_meeting : LawOfMeeting il
  law_of_meeting bound ls p few class within h o form occurring kinded apart free listed = can_meet occurring bound ls few class within h o form kinded apart free listed
