-- What occurs in a premise is what occurs in its parts, and occurs there as a name.
use Rattle.std.proofs.Common.{◌≡◌, sym, ap, ap₂, ◌∙◌, subst, List, [], ◌++◌, Bool, true, false, ◌&&◌, not}
use Rattle.std.specs.List.{AllByRecursion}
use Rattle.st_il.specs.Occurrences.{occurs_in_count, occurs_in_prem, occurs_prem_at}
use Rattle.st_il.specs.declared.definition.Listed.{Listed}
use Rattle.st_il.specs.declared.expression.IlExp.{IlExp}
use Rattle.st_il.specs.declared.expression.IlPrem.{IlPrem, out-IlPrem, map-IlPrem, fold_out-IlPrem}
use Rattle.st_il.specs.declared.expression.IlPrem.TheOpen.{IlPrem-F}
use Rattle.st_il.specs.declared.expression.Iteration.{Iteration}
use Rattle.st_il.specs.Names.{Name, has_name}
use Rattle.st_semantics.specs.Iterations.{count_of, index_of, kind_of}
use Rattle.st_semantics.specs.Scopes.{listed_inside}
use Rattle.st_ilcheck.specs.Parts.{standing}
use Rattle.st_ilcheck.specs.Variables.{Occurrence, inside, occurrences, occurrences_in, prem_occurrences, prem_occurrences_at}
use Rattle.st_elab_typed.proofs.Members.{Each-append, Each-weaken, or_left, or_right}
use Rattle.st_elab_typed.proofs.Occurring.{in_some, in_list, counted-occurs, index-other}
use Rattle.st_elab_typed.proofs.Placing.{Occurs, some_occur, each_inside, occurring, parts_occur}
use Rattle.st_elab_typed.specs.RuleNames.{PremKeepsNames}

prem_occurrences-level : (p : IlPrem) (y : IlPrem-F IlPrem) → out-IlPrem p ≡ y → prem_occurrences p ≡ prem_occurrences_at (map-IlPrem IlPrem (List Occurrence) prem_occurrences y)
prem_occurrences-level p y is = fold_out-IlPrem (List Occurrence) prem_occurrences_at p ∙ ap (λ z. prem_occurrences_at (map-IlPrem IlPrem (List Occurrence) prem_occurrences z)) is

pub prem_occurrences-If : (p : IlPrem) (e : IlExp) → out-IlPrem p ≡ IlPrem-F.If e → prem_occurrences p ≡ occurrences e
prem_occurrences-If p e is = prem_occurrences-level p (IlPrem-F.If e) is

pub prem_occurrences-Goal : (p : IlPrem) (relation : Name) (es : List IlExp) → out-IlPrem p ≡ IlPrem-F.Goal relation es → prem_occurrences p ≡ occurrences_in es
prem_occurrences-Goal p relation es is = prem_occurrences-level p (IlPrem-F.Goal relation es) is

pub prem_occurrences-Otherwise : (p : IlPrem) → out-IlPrem p ≡ IlPrem-F.Otherwise → prem_occurrences p ≡ []
prem_occurrences-Otherwise p is = prem_occurrences-level p IlPrem-F.Otherwise is

pub prem_occurrences-Each : (p : IlPrem) (how : Iteration) (xs : List Name) (body : IlPrem) → out-IlPrem p ≡ IlPrem-F.Each how xs body
    → prem_occurrences p ≡ occurrences_in (count_of how) ++ inside (index_of how) (kind_of how) (prem_occurrences body)
prem_occurrences-Each p how xs body is = prem_occurrences-level p (IlPrem-F.Each how xs body) is

pub prem_occurs-level : (x : Name) (p : IlPrem) (y : IlPrem-F IlPrem) → out-IlPrem p ≡ y → occurs_in_prem x p ≡ occurs_prem_at x (map-IlPrem IlPrem Bool (occurs_in_prem x) y)
prem_occurs-level x p y is = fold_out-IlPrem Bool (occurs_prem_at x) p ∙ ap (λ z. occurs_prem_at x (map-IlPrem IlPrem Bool (occurs_in_prem x) z)) is

-- each occurrence in a premise is that of a name that occurs in it
abbrev pub PremOccurs : IlPrem → Occurrence → Type 0
PremOccurs p o = occurs_in_prem o.0 p ≡ true

pub prem_occurs-count : (p : IlPrem) (how : Iteration) (xs : List Name) (body : IlPrem) → out-IlPrem p ≡ IlPrem-F.Each how xs body → (x : Name) → in_some x (count_of how) ≡ true → occurs_in_prem x p ≡ true
prem_occurs-count p how xs body is x h = prem_occurs-level x p (IlPrem-F.Each how xs body) is
    ∙ or_left (occurs_in_count x how).in_count (not (occurs_in_count x how).is_index && occurs_in_prem x body) (counted-occurs x how h)

pub prem_occurs-body : (p : IlPrem) (how : Iteration) (xs : List Name) (body : IlPrem) → out-IlPrem p ≡ IlPrem-F.Each how xs body → (x : Name) → has_name (index_of how) x ≡ false → occurs_in_prem x body ≡ true → occurs_in_prem x p ≡ true
prem_occurs-body p how xs body is x other h = prem_occurs-level x p (IlPrem-F.Each how xs body) is
    ∙ or_right (occurs_in_count x how).in_count (not (occurs_in_count x how).is_index && occurs_in_prem x body) (ap₂ (λ a b. not a && b) (index-other x how other) h)

pub prem_occurring : (ls : List Listed) (p : IlPrem) → PremKeepsNames ls p → AllByRecursion (PremOccurs p) (prem_occurrences p)
prem_occurring ls p (PremKeepsNames.condition e is k) =
    subst (AllByRecursion (PremOccurs p)) (sym (prem_occurrences-If p e is))
    (Each-weaken (Occurs e) (PremOccurs p) (occurrences e) (λ o h. prem_occurs-level o.0 p (IlPrem-F.If e) is ∙ h) (occurring ls e k))
prem_occurring ls p (PremKeepsNames.goal relation es is k) =
    subst (AllByRecursion (PremOccurs p)) (sym (prem_occurrences-Goal p relation es is))
    (Each-weaken (λ (o : Occurrence). in_some o.0 es ≡ true) (PremOccurs p) (occurrences_in es) (λ o h. prem_occurs-level o.0 p (IlPrem-F.Goal relation es) is ∙ (in_list o.0 es ∙ h)) (some_occur ls es (parts_occur (standing ls es) k)))
prem_occurring ls p (PremKeepsNames.otherwise is) = subst (AllByRecursion (PremOccurs p)) (sym (prem_occurrences-Otherwise p is)) tt
prem_occurring ls p (PremKeepsNames.each how xs body is count exact k) =
    let within = prem_occurring (listed_inside how xs ls) body k in
    subst (AllByRecursion (PremOccurs p)) (sym (prem_occurrences-Each p how xs body is))
    (Each-append (PremOccurs p) (occurrences_in (count_of how)) (inside (index_of how) (kind_of how) (prem_occurrences body))
    (Each-weaken (λ (o : Occurrence). in_some o.0 (count_of how) ≡ true) (PremOccurs p) (occurrences_in (count_of how)) (λ o h. prem_occurs-count p how xs body is o.0 h) (some_occur ls (count_of how) (parts_occur (standing ls (count_of how)) count)))
    (each_inside (PremOccurs body) (PremOccurs p) (index_of how) (kind_of how) (prem_occurrences body) (λ o other h. prem_occurs-body p how xs body is o.0 other h) within))
