-- The occurrences in premises that are elaborated are those that are noted of them.
use Rattle.std.proofs.Common.{◌≡◌, refl, sym, ap, ◌∙◌, subst, List, [], ◌∷◌, ◌++◌, map}
use Rattle.std.specs.List.{AllByRecursion}
use Rattle.st_il.specs.declared.expression.IlExp.{IlExp}
use Rattle.st_il.specs.declared.expression.IlPrem.{IlPrem, roll-IlPrem, out-roll-IlPrem, map-IlPrem, fold_out-IlPrem}
use Rattle.st_il.specs.declared.expression.IlPrem.TheOpen.{IlPrem-F}
use Rattle.st_dims.specs.Around.{outside}
use Rattle.st_il.specs.Names.{flattened}
use Rattle.st_semantics.specs.Iterations.{count_of, index_of, kind_of}
use Rattle.st_semantics.proofs.Wider.{Parts, prem-ind}
use Rattle.st_ilcheck.specs.Variables.{Occurrence, inside, occurrences_in, prem_occurrences, prem_occurrences_at, all_occurrences}
use Rattle.st_elab_law.specs.Notes.{Notes, occurs as occurring, beside, all_of}
use Rattle.st_elab_law.specs.Noted.{iterated, noted, prem_noted, prem_noted_at}
use Rattle.st_elab_typed.proofs.Members.{Has}
use Rattle.st_elab_typed.proofs.NotedParts.{round-parts, prem_noted-level}
use Rattle.st_elab_typed.proofs.OccurrencesSeen.{IsSeen, seen_none, seen_both, seen_all, seen_iterated, occurrences-seen, occurrences_in-seen}

abbrev Seen : IlPrem → Type 0
Seen p = IsSeen (prem_occurrences p) (prem_noted p)

occurrences-level : (y : IlPrem-F IlPrem) → prem_occurrences (roll-IlPrem y) ≡ prem_occurrences_at (map-IlPrem IlPrem (List Occurrence) prem_occurrences y)
occurrences-level y = fold_out-IlPrem (List Occurrence) prem_occurrences_at (roll-IlPrem y) ∙ ap (λ z. prem_occurrences_at (map-IlPrem IlPrem (List Occurrence) prem_occurrences z)) (out-roll-IlPrem y)

by_level : (y : IlPrem-F IlPrem) → IsSeen (prem_occurrences_at (map-IlPrem IlPrem (List Occurrence) prem_occurrences y)) (prem_noted_at (map-IlPrem IlPrem Notes prem_noted y)) → Seen (roll-IlPrem y)
by_level y h = subst (λ os. IsSeen os (prem_noted (roll-IlPrem y))) (sym (occurrences-level y)) (subst (IsSeen (prem_occurrences_at (map-IlPrem IlPrem (List Occurrence) prem_occurrences y))) (sym (prem_noted-level y)) h)

-- the occurrences in a premise are what is noted of it
premise-seen : (p : IlPrem) → IsSeen (prem_occurrences p) (prem_noted p)
premise-seen = prem-ind Seen step
  where
    step : (y : IlPrem-F IlPrem) → Parts Seen y → Seen (roll-IlPrem y)
    step (IlPrem-F.If e) h = by_level (IlPrem-F.If e) (occurrences-seen e)
    step (IlPrem-F.Goal relation es) h = by_level (IlPrem-F.Goal relation es) (occurrences_in-seen es)
    step IlPrem-F.Otherwise h = by_level IlPrem-F.Otherwise seen_none
    step (IlPrem-F.Each how xs body) h =
        by_level (IlPrem-F.Each how xs body)
        (subst (IsSeen (occurrences_in (count_of how) ++ inside (index_of how) (kind_of how) (prem_occurrences body))) (ap (λ r. iterated r (prem_noted body)) (sym (round-parts how)))
        (seen_iterated how (prem_occurrences body) (occurrences_in (count_of how)) (prem_noted body) h (occurrences_in-seen (count_of how))))

each_premise : (ps : List IlPrem) → AllByRecursion Seen ps
each_premise [] = tt
each_premise (p ∷ ps) = (premise-seen p, each_premise ps)

-- the occurrences in a rule or a clause are what is noted of it
pub all_occurrences-seen : (es : List IlExp) (ps : List IlPrem) → IsSeen (all_occurrences es ps) (beside (all_of (map noted es)) (all_of (map prem_noted ps)))
all_occurrences-seen es ps =
    seen_both (occurrences_in es) (flattened (map prem_occurrences ps)) (all_of (map noted es)) (all_of (map prem_noted ps))
    (occurrences_in-seen es) (seen_all prem_occurrences prem_noted ps (each_premise ps))

-- noted from outside, they are the same
pub outside-shows : (os : List Occurrence) (s : Notes) → IsSeen os s → (o : Occurrence) → Has os o → Has (s outside) (occurring o.0 o.1)
outside-shows os s h o k = h.shows outside o k refl

pub outside-comes : (os : List Occurrence) (s : Notes) → IsSeen os s → (o : Occurrence) → Has (s outside) (occurring o.0 o.1) → Has os o
outside-comes os s h o k = let i = h.comes outside o k in subst (λ c. Has os (o.0, c)) (sym i.longer) i.occurs
