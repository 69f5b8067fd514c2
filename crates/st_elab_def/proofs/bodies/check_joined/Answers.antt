use Rattle.std.proofs.Common.{◌≡◌, rules, true}
use Rattle.st_num.specs.declared.rule.RuleId.TheVariants.{B5}
use Rattle.st_elab_table.specs.Questions.{Breach}
use Rattle.st_elab_rows.proofs.Builds.{Told-stops}
use Rattle.st_elab_table.specs.Judgements.{broken}
use Rattle.st_elab_def.specs.Fragments.{dots_suit}
use Rattle.st_elab_def.specs.inner.Bodies.{parts_asked, body_asked, BodyPasses}
use Rattle.st_elab_def.specs.inner.Walk.{FirstBreachAt}
use Rattle.st_elab_def.proofs.ContentLemmas.{told_both}
use Rattle.st_elab_def.proofs.GoesBy.{dots-fail, dots-pass, dots-breach}
use Rattle.st_elab_def.proofs.bodies.check_joined.Goals as goal

pub returns-in_err-check_dots : goal.returns-in_err-check_dots
returns-in_err-check_dots c = λ D d name fragment parts later same at e suits there.
    let b = c.args.body.now in
    Told-stops _ _ (λ (x : Breach). (dots_suit c.args.before c.args.behind b ≡ true → ⊥) × (x ≡ broken c.args.place B5)) (λ (x : Breach). FirstBreachAt D (body_asked d name fragment parts b) x)
    c.check_dots.result c.from_residual.result c.in_err-check_dots.field-0.0 c.in_err-check_dots.was (search rules)
    (dots-fail D d name fragment c.args.before c.args.behind parts b c.args.place at suits) c.check_dots.ensures

pub returns : goal.returns
returns c = λ D d name fragment parts later same at e suits there.
    let b = c.args.body.now in
    let k = c.args.begun.syntax in
    let on : dots_suit c.args.before c.args.behind b ≡ true = c.in_ok-check_dots.ensures in
    told_both (BodyPasses D (parts_asked c.args.place name parts b) k parts b) (BodyPasses D (body_asked d name fragment parts b) k parts b)
    (FirstBreachAt D (parts_asked c.args.place name parts b)) (FirstBreachAt D (body_asked d name fragment parts b)) c.check_parts.result
    (λ to h. dots-pass D d name fragment c.args.before c.args.behind parts b c.args.place at suits on k to h)
    (λ x h. dots-breach D d name fragment c.args.before c.args.behind parts b c.args.place at suits on x h)
    (c.check_parts.ensures D name parts later same e (there on))
