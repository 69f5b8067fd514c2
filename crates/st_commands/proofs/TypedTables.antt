-- The syntaxes of an internal language that breaks no rule on types are sound.
use Rattle.std.proofs.Common.{◌≡◌, ℕ, zero, suc, List, [], ◌∷◌, ◌++◌, Some, None, refl, ap, sym, subst, ◌∙◌, take, append-nil, append_assoc}
use Rattle.std.specs.Prelude.{slice_get}
use Rattle.st_il.specs.declared.definition.Il.{Il}
use Rattle.st_il.specs.declared.definition.IlDef.{IlDef}
use Rattle.st_il.specs.declared.definition.IlDef.TheVariants.{Syntax, Var, Relation, Rule, Fun, Clause}
use Rattle.st_il.specs.declared.definition.SyntaxDef.{SyntaxDef}
use Rattle.st_type_table.specs.Breach.{AllHold, conditions_on, IsSound}
use Rattle.st_il.specs.Definitions.{syntaxes_in}
use Rattle.st_ilcheck.specs.Declarations.{AreNamed}
use Rattle.st_ilcheck.specs.Typed.{Typed, AllKeep, Breaks}
use Rattle.st_eval.proofs.IsFormedLemmas.{Told-holds, none-left}
use Rattle.st_elab_law.specs.Agreement.{syntaxes}

pub syntaxes-same : (ds : List IlDef) → syntaxes ds ≡ syntaxes_in ds
syntaxes-same [] = refl
syntaxes-same (Syntax s ∷ ds) = ap (λ z. s ∷ z) (syntaxes-same ds)
syntaxes-same (Var x t ∷ ds) = syntaxes-same ds
syntaxes-same (Relation r ∷ ds) = syntaxes-same ds
syntaxes-same (Rule r ∷ ds) = syntaxes-same ds
syntaxes-same (Fun f ∷ ds) = syntaxes-same ds
syntaxes-same (Clause c ∷ ds) = syntaxes-same ds

in-append : (xs ys : List IlDef) → syntaxes_in (xs ++ ys) ≡ syntaxes_in xs ++ syntaxes_in ys
in-append [] ys = refl
in-append (Syntax s ∷ xs) ys = ap (λ z. s ∷ z) (in-append xs ys)
in-append (Var x t ∷ xs) ys = in-append xs ys
in-append (Relation r ∷ xs) ys = in-append xs ys
in-append (Rule r ∷ xs) ys = in-append xs ys
in-append (Fun f ∷ xs) ys = in-append xs ys
in-append (Clause c ∷ xs) ys = in-append xs ys

-- the conditions on a syntax, behind these, hold
abbrev Holds : Il → List SyntaxDef → List SyntaxDef → Type 0
Holds il before behind =
    (i : ℕ) (s : SyntaxDef) → slice_get behind i ≡ Some s → AllHold (syntaxes_in il.defs) (conditions_on (before ++ take i behind) s)

named : (il : Il) (before : List IlDef) (d : IlDef) → Breaks il before d [] → AreNamed il before d
named il before d b = Told-holds _ _ b.by_names b.names (none-left b.by_names (b.by_variables ++ (b.by_indices ++ b.by_types)) [] b.whole refl)

-- behind a definition that is no syntax
other : (il : Il) (before : List IlDef) (d : IlDef) (behind : List SyntaxDef) → syntaxes_in (d ∷ []) ≡ [] → Holds il (syntaxes_in (before ++ d ∷ [])) behind → Holds il (syntaxes_in before) behind
other il before d behind none h =
    let same : syntaxes_in (before ++ d ∷ []) ≡ syntaxes_in before = in-append before (d ∷ []) ∙ ap (λ z. syntaxes_in before ++ z) none ∙ append-nil (syntaxes_in before) in
    subst (λ z. Holds il z behind) same h

more : (il : Il) (before : List IlDef) (d : SyntaxDef) (behind : List SyntaxDef) → AllHold (syntaxes_in il.defs) (conditions_on (syntaxes_in before) d)
    → Holds il (syntaxes_in (before ++ Syntax d ∷ [])) behind → Holds il (syntaxes_in before) (d ∷ behind)
more il before d behind here h zero s is =
    let same : d ≡ s = cc in
    subst (λ z. AllHold (syntaxes_in il.defs) (conditions_on z s)) (sym (append-nil (syntaxes_in before))) (subst (λ z. AllHold (syntaxes_in il.defs) (conditions_on (syntaxes_in before) z)) same here)
more il before d behind here h (suc i) s is =
    let front : syntaxes_in (before ++ Syntax d ∷ []) ++ take i behind ≡ syntaxes_in before ++ d ∷ take i behind =
    ap (λ z. z ++ take i behind) (in-append before (Syntax d ∷ [])) ∙ append_assoc (syntaxes_in before) (d ∷ []) (take i behind) in
    subst (λ z. AllHold (syntaxes_in il.defs) (conditions_on z s)) front (h i s is)

all_hold : (il : Il) (before ds : List IlDef) → AllKeep il before ds → Holds il (syntaxes_in before) (syntaxes_in ds)
all_hold il before [] keep = λ i s is. let none : None ≡ Some s = is in cc
all_hold il before (Syntax d ∷ ds) keep =
    more il before d (syntaxes_in ds) (named il before (Syntax d) keep.0).declared (all_hold il (before ++ Syntax d ∷ []) ds keep.1)
all_hold il before (Var x t ∷ ds) keep = other il before (Var x t) (syntaxes_in ds) refl (all_hold il (before ++ Var x t ∷ []) ds keep.1)
all_hold il before (Relation r ∷ ds) keep = other il before (Relation r) (syntaxes_in ds) refl (all_hold il (before ++ Relation r ∷ []) ds keep.1)
all_hold il before (Rule r ∷ ds) keep = other il before (Rule r) (syntaxes_in ds) refl (all_hold il (before ++ Rule r ∷ []) ds keep.1)
all_hold il before (Fun f ∷ ds) keep = other il before (Fun f) (syntaxes_in ds) refl (all_hold il (before ++ Fun f ∷ []) ds keep.1)
all_hold il before (Clause c ∷ ds) keep = other il before (Clause c) (syntaxes_in ds) refl (all_hold il (before ++ Clause c ∷ []) ds keep.1)

pub typed_sound : (il : Il) → Typed il → IsSound (syntaxes il.defs)
typed_sound il typed =
    subst IsSound (sym (syntaxes-same il.defs)) (λ i below s is. all_hold il [] il.defs typed i s is)
