use Rattle.std.proofs.Common.{[], ◌≡◌, rules, sym, ap, ◌∙◌, subst, ℕ, ◌++◌}
use Rattle.std.specs.Prelude.{flat_map}
use Rattle.st_el.specs.declared.definition.Body.{Body}
use Rattle.st_el.specs.declared.definition.Body.TheVariants as el
use Rattle.st_elab_table.specs.Questions.{Breach}
use Rattle.st_elab_rows.specs.Told.{Told}
use Rattle.st_elab_rows.proofs.Builds.{Told-stops}
use Rattle.st_elab_def.specs.DeclsOf.{alternative_of}
use Rattle.st_elab_def.specs.Phases.{names_in, on_alias_name, on_alternatives, on_fields}
use Rattle.st_elab_def.specs.inner.Bodies.{IsSyntax, own, parts_asked, HaveBeen, BodyPasses}
use Rattle.st_elab_def.specs.inner.Gathering.{body_with}
use Rattle.st_elab_def.specs.inner.Walk.{AllPassAt, FirstBreachAt}
use Rattle.st_elab_def.proofs.ContentLemmas.{told_both}
use Rattle.st_elab_def.proofs.parts.check_parts.Goals as goal

pub returns-in_err-check_alias-in-Alias : goal.returns-in_err-check_alias-in-Alias
returns-in_err-check_alias-in-Alias c = λ D name before later same e there.
    let k = c.args.begun.syntax in
    let place = c.args.place in
    let is : c.args.body.now ≡ el.Alias c.in-Alias.typ = c.in-Alias.is in
    subst (λ (b : Body). Told (BodyPasses D (parts_asked place name before b) k before b) (FirstBreachAt D (parts_asked place name before b)) c.from_residual.result) (sym is)
    (Told-stops _ _ (λ (b : Breach). FirstBreachAt D (flat_map (on_alias_name name) (names_in c.in-Alias.typ)) b) (λ (b : Breach). FirstBreachAt D (flat_map (on_alias_name name) (names_in c.in-Alias.typ)) b)
    c.check_alias.result c.from_residual.result c.in_err-check_alias-in-Alias.field-0.0 c.in_err-check_alias-in-Alias.was (search rules) (λ b h. h)
    (c.check_alias.ensures D name same (subst (λ (b : Body). IsSyntax D k name (body_with b (before ++ (own b ++ later)))) is there)))

pub returns-in_ok-check_alias-in-Alias : goal.returns-in_ok-check_alias-in-Alias
returns-in_ok-check_alias-in-Alias c = λ D name before later same e there.
    let k = c.args.begun.syntax in
    let is : c.args.body.now ≡ el.Alias c.in-Alias.typ = c.in-Alias.is in
    subst (λ (b : Body). BodyPasses D (parts_asked c.args.place name before b) k before b c.args.begun.alternatives) (sym is)
    (record { passes = c.in_ok-check_alias-in-Alias.ensures D name same (subst (λ (b : Body). IsSyntax D k name (body_with b (before ++ (own b ++ later)))) is there); advances = tt })

pub returns-in-Cases : goal.returns-in-Cases
returns-in-Cases c = λ D name before later same e there.
    let k = c.args.begun.syntax in
    let place = c.args.place in
    let ns = c.as_slice.result.now in
    let is : c.args.body.now ≡ el.Cases c.in-Cases.before ns c.in-Cases.after =
    c.in-Cases.is ∙ ap (λ ms. el.Cases c.in-Cases.before ms c.in-Cases.after) (sym c.as_slice.ensures) in
    subst (λ (b : Body). Told (BodyPasses D (parts_asked place name before b) k before b) (FirstBreachAt D (parts_asked place name before b)) c.check_cases.result) (sym is)
    (told_both (λ (to : ℕ). AllPassAt D (on_alternatives name before ns) × HaveBeen D k (before ++ flat_map alternative_of ns) to)
    (BodyPasses D (on_alternatives name before ns) k before (el.Cases c.in-Cases.before ns c.in-Cases.after))
    (FirstBreachAt D (on_alternatives name before ns)) (FirstBreachAt D (on_alternatives name before ns)) c.check_cases.result
    (λ to h. record { passes = h.0; advances = h.1 }) (λ b h. h)
    (c.check_cases.ensures D name before later same e (subst (λ (b : Body). IsSyntax D k name (body_with b (before ++ (own b ++ later)))) is there)))

pub returns-in_err-check_fields-in-Fields : goal.returns-in_err-check_fields-in-Fields
returns-in_err-check_fields-in-Fields c = λ D name before later same e there.
    let k = c.args.begun.syntax in
    let place = c.args.place in
    let fs = c.as_slice-in-Fields.result.now in
    let is : c.args.body.now ≡ el.Fields fs = c.in-Fields.is ∙ ap el.Fields (sym c.as_slice-in-Fields.ensures) in
    subst (λ (b : Body). Told (BodyPasses D (parts_asked place name before b) k before b) (FirstBreachAt D (parts_asked place name before b)) c.from_residual-in_err-check_fields-in-Fields.result) (sym is)
    (Told-stops _ _ (λ (b : Breach). FirstBreachAt D (on_fields place [] fs) b) (λ (b : Breach). FirstBreachAt D (on_fields place [] fs) b)
    c.check_fields.result c.from_residual-in_err-check_fields-in-Fields.result c.in_err-check_fields-in-Fields.field-0.0 c.in_err-check_fields-in-Fields.was (search rules) (λ b h. h)
    (c.check_fields.ensures D name same (subst (λ (b : Body). IsSyntax D k name (body_with b (before ++ (own b ++ later)))) is there)))

pub returns-in_ok-check_fields-in-Fields : goal.returns-in_ok-check_fields-in-Fields
returns-in_ok-check_fields-in-Fields c = λ D name before later same e there.
    let k = c.args.begun.syntax in
    let fs = c.as_slice-in-Fields.result.now in
    let is : c.args.body.now ≡ el.Fields fs = c.in-Fields.is ∙ ap el.Fields (sym c.as_slice-in-Fields.ensures) in
    subst (λ (b : Body). BodyPasses D (parts_asked c.args.place name before b) k before b c.args.begun.alternatives) (sym is)
    (record { passes = c.in_ok-check_fields-in-Fields.ensures D name same (subst (λ (b : Body). IsSyntax D k name (body_with b (before ++ (own b ++ later)))) is there); advances = tt })
