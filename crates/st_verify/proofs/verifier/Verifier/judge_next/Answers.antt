use Rattle.std.proofs.Common.{◌<◌, ◌^◌, None, length, ◌∙◌, sym, ap, subst}
use Rattle.st_semantics.specs.Notes.{noted}
use Rattle.st_semantics.specs.Verdict.{Verdict}
use Rattle.st_verify.specs.SmallVerdict.{FirstBreach}
use Rattle.st_verify.specs.Verifier.{Checking}
use Rattle.st_verify.proofs.Judging.{refuses_next, wants_memory, kept_more, verdict_kept, noted_kept}
use Rattle.st_verify.proofs.verifier.Verifier.judge_next.Goals as goal

pub returns-in-Some : goal.returns-in-Some
returns-in-Some c =
    let verdict = subst (λ (one : Checking). Verdict one.il one.notes c.args.line.now c.broken_rule.result) c.self.view_is
    (verdict_kept c.self.inside.il c.self.inside.notes c.args.line.now c.broken_rule.result c.self.invariant c.broken_rule.ensures) in
    refuses_next c.args.self.now c.refuse.new.self c.args.line.now c.broken_rule.result c.in-Some.rule c.refuse.result
    verdict c.in-Some.is c.refuse.ensures.fault c.refuse.ensures.kept

pub returns-in_err-note : goal.returns-in_err-note
returns-in_err-note c =
    wants_memory c.args.self.now _ c.args.line.now c.from_residual.result c.from_residual.ensures.1
    (ap (λ notes. record { il = c.self.inside.il; notes = notes; refusal = c.self.inside.refusal }) c.in_err-note.ensures.err ∙ c.self.view_is)

pub invariant_of-self-2 : goal.invariant_of-self-2
invariant_of-self-2 c =
    let verdict = verdict_kept c.self.inside.il c.self.inside.notes c.args.line.now None c.self.invariant
    (subst (FirstBreach c.self.inside.il c.self.inside.notes c.args.line.now) c.in_default.is c.broken_rule.ensures) in
    let few = subst (λ (one : Checking). length one.notes.lines < 2 ^ 32) (sym c.self.view_is) c.requires in
    kept_more c.self.inside.il c.self.inside.notes c.note.new.notes c.args.line.now c.self.invariant verdict few
    (c.in_ok-note.ensures.ok ∙ noted_kept c.self.inside.il c.self.inside.notes c.args.line.now c.self.invariant)

pub returns : goal.returns
returns c =
    let verdict = verdict_kept c.self.inside.il c.self.inside.notes c.args.line.now None c.self.invariant
    (subst (FirstBreach c.self.inside.il c.self.inside.notes c.args.line.now) c.in_default.is c.broken_rule.ensures) in (
      subst (λ (one : Checking). Verdict one.il one.notes c.args.line.now None) c.self.view_is verdict,
      ap (λ notes. record { il = c.self.inside.il; notes = notes; refusal = c.self.inside.refusal })
          (c.in_ok-note.ensures.ok ∙ noted_kept c.self.inside.il c.self.inside.notes c.args.line.now c.self.invariant)
          ∙ ap (λ (one : Checking). record one { notes = noted one.il one.notes c.args.line.now }) c.self.view_is,
    )
