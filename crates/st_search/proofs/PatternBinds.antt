-- A pattern binds none but variables of its own.
use Rattle.std.proofs.Common.{◌≡◌, refl, sym, ◌∙◌, ap, ap₂, subst, List, [], ◌∷◌, ◌++◌, map, inl, inr, Bool, true, false, Option, Some, None}
use Rattle.std.specs.List.{list_all}
use Rattle.st_il.specs.declared.definition.SyntaxDef.{SyntaxDef}
use Rattle.st_il.specs.declared.expression.IlExp.{IlExp, out-IlExp, map-IlExp}
use Rattle.st_il.specs.declared.expression.IlExp.TheOpen.{IlExp-F}
use Rattle.st_il.specs.declared.expression.Iteration.{Iteration}
use Rattle.st_il.specs.declared.expression.ListItem.{ListItem}
use Rattle.st_il.specs.declared.expression.PathSeg.{PathSeg}
use Rattle.st_il.specs.Names.{Name, has_name, flattened, among, without}
use Rattle.st_semantics.specs.Forms.{Form, Strict, Variable, Calls, Iterates, form_at, HasForm, by_itself, structure, absent_list, absent_option}
use Rattle.st_semantics.specs.Formed as formed
use Rattle.st_semantics.specs.Formed.{IsFormed, AreFormed}
use Rattle.st_semantics.specs.Iterations.{count_of, index_of}
use Rattle.st_semantics.specs.Patterns.{Told, told, told_at, told_item, is_pattern, has_simple_count, binds}
use Rattle.st_semantics.specs.Variables.{vars, vars_of}
use Rattle.st_semantics.proofs.Names.{Within, within-cases, within-left, within-right, and-both, vars-form}
use Rattle.st_semantics.proofs.PatternParts.{told_segment, told-level, pattern-form}
use Rattle.st_semantics.proofs.PatternForms.{bound, bound_of, binds-level, names-map, items-names, own_of, own_variable, iteration-own, iteration-index}
use Rattle.st_semantics.proofs.Wider.{among-parts}

-- ---- by forms

-- what an expression of a form binds, where it is a pattern
abbrev FormBinds : List Name → Form → Type 0
FormBinds names (Strict es f) = names ≡ flattened (map binds es)
FormBinds names (Variable x) = names ≡ x ∷ []
FormBinds names (Calls fun es) = Unit {0}
FormBinds names (Iterates how xs body) = names ≡ own_of how ++ among xs (without (index_of how) (binds body))

abbrev pattern_of : IlExp-F IlExp Iteration ListItem PathSeg → Bool
pattern_of y = (told_at (map-IlExp IlExp Iteration ListItem PathSeg Told Bool Told (List Told) told has_simple_count told_item told_segment y)).pattern

abbrev LevelBinds : IlExp-F IlExp Iteration ListItem PathSeg → Option Form → Type 0
LevelBinds y None = Unit {0}
LevelBinds y (Some f) = pattern_of y ≡ true → FormBinds (bound_of y).names f

no : false ≡ true → ⊥
no e = cc

level_binds : (y : IlExp-F IlExp Iteration ListItem PathSeg) → LevelBinds y (form_at y)
level_binds (IlExp-F.Bool truth) = λ h. refl
level_binds (IlExp-F.Number n) = λ h. refl
level_binds (IlExp-F.Text text) = λ h. refl
level_binds (IlExp-F.Var x) = λ h. refl
level_binds (IlExp-F.Case type tag es) = λ h. ap flattened (names-map es)
level_binds (IlExp-F.Fields type es) = tt
level_binds (IlExp-F.Tuple es) = λ h. ap flattened (names-map es)
level_binds (IlExp-F.List type items) = λ h. ap flattened (items-names items)
level_binds (IlExp-F.Cat e g) = λ h. refl
level_binds (IlExp-F.Empty type) = λ h. refl
level_binds (IlExp-F.Present e) = λ h. refl
level_binds (IlExp-F.Absent type) = tt
level_binds (IlExp-F.Call fun es) = λ h. tt
level_binds (IlExp-F.Up type e) = λ h. refl
level_binds (IlExp-F.Iter how xs body) = λ h. ap₂ (λ a b. a ++ among xs (without b (binds body))) (iteration-own how) (iteration-index how)
level_binds _ = λ h. absurd (no h)

form_binds : (defs : List SyntaxDef) (e : IlExp) (f : Form) → HasForm defs e f → is_pattern e ≡ true → FormBinds (binds e) f
form_binds defs e f (by_itself is) h =
    subst (λ z. FormBinds z f) (sym (binds-level e (out-IlExp e) refl))
    (subst (LevelBinds (out-IlExp e)) is (level_binds (out-IlExp e)) (ap (λ (t : Told). t.pattern) (sym (told-level e (out-IlExp e) refl)) ∙ h))
form_binds defs e f (structure type es declared is has long k) h = subst (FormBinds (binds e)) (sym k) (binds-level e (IlExp-F.Fields type es) is ∙ ap flattened (names-map es))
form_binds defs e f (absent_list type element is means k) h = subst (FormBinds (binds e)) (sym k) (binds-level e (IlExp-F.Absent type) is)
form_binds defs e f (absent_option type element is means k) h = subst (FormBinds (binds e)) (sym k) (binds-level e (IlExp-F.Absent type) is)

-- ---- counts

-- a count that is bound is a variable
own_within : (es : List IlExp) → Within (flattened (map (λ (e : IlExp). (bound e).own) es)) (vars_of es)
own_within [] x i = i
own_within (e ∷ es) x i = elim (within-cases (bound e).own (flattened (map (λ (e : IlExp). (bound e).own) es)) x i) [
  | inl j ↦ (let v = own_variable e x j in
      within-left (vars e) (vars_of es) x (subst (λ z. has_name z x ≡ true) (v.2 ∙ sym (vars-form [] e (Variable v.0) (by_itself (ap form_at v.1)))) j))
  | inr j ↦ within-right (vars e) (vars_of es) x (own_within es x j)
]

-- ---- all patterns

module _ (defs : List SyntaxDef) where
  mutual
    pub binds_within : {e : IlExp} → IsFormed defs e → is_pattern e ≡ true → Within (binds e) (vars e)
    binds_within {e = e} (formed.strict es f has all) h x i =
        subst (λ z. has_name z x ≡ true) (sym (vars-form defs e (Strict es f) has))
        (all_within all (pattern-form defs e (Strict es f) has h) x (subst (λ z. has_name z x ≡ true) (form_binds defs e (Strict es f) has h) i))
    binds_within {e = e} (formed.variable y has) h x i =
        subst (λ z. has_name z x ≡ true) (form_binds defs e (Variable y) has h ∙ sym (vars-form defs e (Variable y) has)) i
    binds_within {e = e} (formed.call fun args has all) h x i = absurd (pattern-form defs e (Calls fun args) has h)
    binds_within {e = e} (formed.iteration how xs body has count inner) h x i =
        subst (λ z. has_name z x ≡ true) (sym (vars-form defs e (Iterates how xs body) has))
        (within-left (vars_of (count_of how) ++ xs) (without (index_of how) (vars body)) x
        (elim (within-cases (own_of how) (among xs (without (index_of how) (binds body))) x (subst (λ z. has_name z x ≡ true) (form_binds defs e (Iterates how xs body) has h) i)) [
          | inl j ↦ within-left (vars_of (count_of how)) xs x (own_within (count_of how) x j)
          | inr j ↦ within-right (vars_of (count_of how)) xs x (among-parts xs (without (index_of how) (binds body)) x j).0
        ]))

    all_within : {es : List IlExp} → AreFormed defs es → list_all is_pattern es ≡ true → Within (flattened (map binds es)) (vars_of es)
    all_within formed.none h x i = i
    all_within (formed.more {e = e} {es = es} first rest) h x i =
        let both = and-both (is_pattern e) (list_all is_pattern es) h in
        elim (within-cases (binds e) (flattened (map binds es)) x i) [
          | inl j ↦ within-left (vars e) (vars_of es) x (binds_within first both.0 x j)
          | inr j ↦ within-right (vars e) (vars_of es) x (all_within rest both.1 x j)
        ]
