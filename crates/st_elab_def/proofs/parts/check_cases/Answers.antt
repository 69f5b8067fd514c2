use Rattle.std.proofs.Common.{◌≡◌, rules, subst, ◌+◌, ◌++◌, take, drop, arith}
use Rattle.std.specs.Prelude.{flat_map}
use Rattle.st_il.specs.declared.definition.SyntaxBody.TheVariants.{Variant}
use Rattle.st_elab_table.specs.Questions.{Breach}
use Rattle.st_elab_rows.proofs.Builds.{Told-stops}
use Rattle.st_elab_def.specs.DeclsOf.{alternative_of}
use Rattle.st_elab_def.specs.Phases.{on_alternatives}
use Rattle.st_elab_def.specs.inner.Bodies.{IsSyntax}
use Rattle.st_elab_def.specs.inner.Walk.{FirstBreachAt}
use Rattle.st_elab_def.proofs.BodyParts.{front-there, front-length, whole-passes}
use Rattle.st_elab_def.proofs.PartsAsked.{front-breach, bare-breach}
use Rattle.st_elab_def.proofs.PlaceLookups.{get-there}
use Rattle.st_elab_def.proofs.parts.check_cases.Goals as goal

pub returns-in_err-check_run : goal.returns-in_err-check_run
returns-in_err-check_run c = λ D name before later same e there.
    let ns = c.args.cases.now in
    let count = c.count_before_bare-count.result in
    let begun = c.args.begun in
    let all : begun.alternatives + count ≡ c.in-Some.to = omega (arith, c.in-Some.ensures) in
    let stand = c.count_before_bare-count.ensures in
    Told-stops _ _ (λ (b : Breach). FirstBreachAt D (on_alternatives name before (take count ns)) b) (λ (b : Breach). FirstBreachAt D (on_alternatives name before ns) b)
    c.check_run.result c.from_residual.result c.in_err-check_run.field-0.0 c.in_err-check_run.was (search rules) (λ b k. front-breach D name before ns count b k)
    (c.check_run.ensures D name before (flat_map alternative_of (drop count ns) ++ later) same e (front-length ns begun.alternatives count c.in-Some.to stand.within all) stand.alternatives
    (subst (λ xs. IsSyntax D begun.syntax name (Variant xs)) (front-there before later ns count) there))

pub returns-in-Some-get : goal.returns-in-Some-get
returns-in-Some-get c = λ D name before later same e there.
    let ns = c.args.cases.now in
    let count = c.count_before_bare-count.result in
    let begun = c.args.begun in
    let all : begun.alternatives + count ≡ c.in-Some.to = omega (arith, c.in-Some.ensures) in
    let stand = c.count_before_bare-count.ensures in
    let n = c.in-Some-get.notation.now in
    let found = c.in-Some-get.ensures.lookup in
    let here = get-there ns count n found.3.0 found.1 in
    let passes = c.in_ok-check_run.ensures D name before (flat_map alternative_of (drop count ns) ++ later) same e (front-length ns begun.alternatives count c.in-Some.to stand.within all) stand.alternatives
    (subst (λ xs. IsSyntax D begun.syntax name (Variant xs)) (front-there before later ns count) there) in
    bare-breach D name before ns count n here (stand.bare n here) passes.0

pub returns-in-None : goal.returns-in-None
returns-in-None c = λ D name before later same e there.
    let ns = c.args.cases.now in
    let count = c.count_before_bare-count.result in
    let begun = c.args.begun in
    let all : begun.alternatives + count ≡ c.in-Some.to = omega (arith, c.in-Some.ensures) in
    let stand = c.count_before_bare-count.ensures in
    let passes = c.in_ok-check_run.ensures D name before (flat_map alternative_of (drop count ns) ++ later) same e (front-length ns begun.alternatives count c.in-Some.to stand.within all) stand.alternatives
    (subst (λ xs. IsSyntax D begun.syntax name (Variant xs)) (front-there before later ns count) there) in
    whole-passes D begun.syntax name before ns count c.in-Some.to c.in-None.ensures.lookup.3 passes
