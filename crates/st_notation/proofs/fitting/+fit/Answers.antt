use Rattle.std.proofs.Common.{rules, refl, sym, ◌∙◌, ap, subst, drop}
use Rattle.st_il.specs.declared.template.Template.{out-Template}
use Rattle.st_il.specs.declared.template.Template.TheVariants as template
use Rattle.st_notation.specs.Elements.{opened}
use Rattle.st_notation.specs.Fits.{Fits}
use Rattle.st_notation.specs.Fitted.{fillings, Refuses}
use Rattle.st_notation.specs.inner.Steps.{plain_share, Reaches}
use Rattle.st_notation.proofs.Steps.{atom-took, atom-missed, hole-took, bracket-took, atom-fits, atom-fails, hole-fits, bracket-fails, bracket-answers, sequence-answers, sides-fail, sides-fit, right-refuses, first-is, turn, Reaches-end, Reaches-left, empty-is, empty-is_not, loop-end, Fitted-err}
use Rattle.st_notation.proofs.fitting.+fit.Goals as goal

pub fit_part-returns-then-begins : goal.fit_part-returns-then-begins
fit_part-returns-then-begins t c =
    atom-took c.args.part.now c.args.next.now c.args.shapes.now c.args.elements.now c.in-Atom.name c.new-filled.result (ap out-Template c.in-Atom.is ∙ template.outs-Atom _) (search rules) c.new-filled.ensures

pub fit_part-returns-else-begins : goal.fit_part-returns-else-begins
fit_part-returns-else-begins t c =
    (refl, atom-missed c.args.part.now c.args.next.now c.args.shapes.now c.args.elements.now c.in-Atom.name (ap out-Template c.in-Atom.is ∙ template.outs-Atom _) (search rules))

pub fit_part-returns-in_ok-filled-in-Hole : goal.fit_part-returns-in_ok-filled-in-Hole
fit_part-returns-in_ok-filled-in-Hole t c =
    hole-took c.args.part.now c.args.next.now c.in-Some.shape.now c.args.shapes.now (drop 1 c.args.shapes.now) c.args.elements.now (plain_share c.in-Some-share_of.share)
    c.in_ok-filled-in-Hole.filled c.in-Some-share_of.share.filling c.in-Some-share_of.share.count
    (ap out-Template c.in-Hole.is ∙ template.outs-Hole) (first-is c.args.shapes.now c.in-Some.shape.now (sym c.in-Some.ensures.value)) (sym c.in-Some-share_of.ensures) refl c.in_ok-filled-in-Hole.ensures

pub fit_part-returns-in_ok-filled-in-Bracket : goal.fit_part-returns-in_ok-filled-in-Bracket
fit_part-returns-in_ok-filled-in-Bracket t c =
    bracket-took c.args.part.now c.args.next.now c.args.shapes.now c.in-Some-first.first.now (drop 1 c.args.elements.now) c.args.elements.now c.in-Bracket.opening c.in-Bracket.inside_it c.in-Some-inside.inner.now c.in_ok-filled-in-Bracket.filled
    (ap out-Template c.in-Bracket.is ∙ template.outs-Bracket _ _) (first-is c.args.elements.now c.in-Some-first.first.now (sym c.in-Some-first.ensures.value)) c.in-Some-inside.ensures
    (subst (λ z. Fits z c.args.shapes.now c.in-Some-inside.inner.now (fillings c.in_ok-filled-in-Bracket.filled)) c.get.ensures c.in_ok-filled-in-Bracket.ensures)

pub fit_side-returns-in_default : goal.fit_side-returns-in_default
fit_side-returns-in_default t c = (
  refl,
  sides-fail c.args.template.now c.args.shapes.now c.args.exp.now c.in-Infix.left c.in-Infix.sign c.in-Infix.right (ap out-Template c.in-Infix.is ∙ template.outs-Infix _ _ _)
      (λ a b k. c.in_default.ensures a b (ap opened c.bare-in-Infix.ensures ∙ k)),
)

pub fit_side-returns-in_err-after-in-Infix : goal.fit_side-returns-in_err-after-in-Infix
fit_side-returns-in_err-after-in-Infix t c =
    Fitted-err c.args.at (Fits c.args.template.now c.args.shapes.now c.args.exp.now) c.from_residual-in_err-after-in-Infix.result c.in_err-after-in-Infix.field-0.0 (search rules)
    (right-refuses c.args.at c.args.template.now c.args.shapes.now c.args.exp.now c.in-Infix.left c.in-Infix.sign c.in-Infix.right c.in-Some.both.0.now c.in-Some.both.1.now c.in_ok-before-in-Infix.before c.in_err-after-in-Infix.field-0.0
    (ap out-Template c.in-Infix.is ∙ template.outs-Infix _ _ _) (sym (ap opened c.bare-in-Infix.ensures) ∙ c.in-Some.ensures)
    (subst (λ z. Fits z c.args.shapes.now c.in-Some.both.0.now (fillings c.in_ok-before-in-Infix.before)) c.get.ensures c.in_ok-before-in-Infix.ensures)
    (subst (λ z. Refuses c.args.at (Fits c.in-Infix.right z c.in-Some.both.1.now) c.in_err-after-in-Infix.field-0.0) (search rules)
    (subst (λ z. Refuses c.args.at (Fits z c.behind-shapes.result.now c.in-Some.both.1.now) c.in_err-after-in-Infix.field-0.0) c.get-in-Infix.ensures c.in_err-after-in-Infix.ensures)))

pub fit_side-returns-in_default-inside : goal.fit_side-returns-in_default-inside
fit_side-returns-in_default-inside t c = (
  refl,
  bracket-fails c.args.template.now c.args.shapes.now c.args.exp.now c.in-Bracket.opening c.in-Bracket.inside_it (ap out-Template c.in-Bracket.is ∙ template.outs-Bracket _ _)
      (λ x k. c.in_default-inside.ensures x (ap opened c.bare-in-Bracket.ensures ∙ k)),
)

pub fit_side-returns-then-is_atom : goal.fit_side-returns-then-is_atom
fit_side-returns-then-is_atom t c = atom-fits c.args.template.now c.args.shapes.now c.args.exp.now c.in-Atom.name c.new.result (ap out-Template c.in-Atom.is ∙ template.outs-Atom _) (search rules) c.new.ensures

pub fit_side-returns-else-is_atom : goal.fit_side-returns-else-is_atom
fit_side-returns-else-is_atom t c = (refl, atom-fails c.args.template.now c.args.shapes.now c.args.exp.now c.in-Atom.name (ap out-Template c.in-Atom.is ∙ template.outs-Atom _) (search rules))

pub fit_side-returns-in_ok-only-in-Hole : goal.fit_side-returns-in_ok-only-in-Hole
fit_side-returns-in_ok-only-in-Hole t c = hole-fits c.args.template.now c.args.shapes.now c.args.exp.now c.in_ok-only-in-Hole.field-0 (ap out-Template c.in-Hole.is ∙ template.outs-Hole) (search rules)

pub fit_side-returns-in-Seq : goal.fit_side-returns-in-Seq
fit_side-returns-in-Seq t c = sequence-answers c.args.at c.args.template.now c.args.shapes.now c.args.exp.now c.in-Seq.parts (ap out-Template c.in-Seq.is ∙ template.outs-Seq _) c.fit_sequence.result (search rules)

pub fit_side-returns-in_ok-joined-in-Infix : goal.fit_side-returns-in_ok-joined-in-Infix
fit_side-returns-in_ok-joined-in-Infix t c =
    sides-fit c.args.template.now c.args.shapes.now c.args.exp.now c.in-Infix.left c.in-Infix.sign c.in-Infix.right c.in-Some.both.0.now c.in-Some.both.1.now c.in_ok-before-in-Infix.before c.in_ok-after-in-Infix.after c.in_ok-joined-in-Infix.field-0
    (ap out-Template c.in-Infix.is ∙ template.outs-Infix _ _ _) (sym (ap opened c.bare-in-Infix.ensures) ∙ c.in-Some.ensures)
    (subst (λ z. Fits z c.args.shapes.now c.in-Some.both.0.now (fillings c.in_ok-before-in-Infix.before)) c.get.ensures c.in_ok-before-in-Infix.ensures)
    (search rules) c.in_ok-joined-in-Infix.ensures

pub fit_side-returns-in-Some-inside : goal.fit_side-returns-in-Some-inside
fit_side-returns-in-Some-inside t c =
    bracket-answers c.args.at c.args.template.now c.args.shapes.now c.args.exp.now c.in-Bracket.opening c.in-Bracket.inside_it c.in-Some-inside.inner.now (ap out-Template c.in-Bracket.is ∙ template.outs-Bracket _ _)
    (sym (ap opened c.bare-in-Bracket.ensures) ∙ c.in-Some-inside.ensures) c.fit_side-in-Bracket.result (search rules)

pub fit_sequence-loop-index-preserved : goal.fit_sequence-loop-index-preserved
fit_sequence-loop-index-preserved t c =
    turn c.args.parts.now c.loop-index.index c.index-parts-index.result c.behind-next.result.now c.args.shapes.now c.loop-index.shapes_left.now c.behind-shapes_left.result.now
    c.args.elements.now c.loop-index.left.now c.behind-left.result.now c.loop-index.filled c.in_ok-taken.taken.filled c.in_ok-filled.filled c.in_ok-taken.taken.count
    c.loop-index-test.true c.index-parts-index.is c.behind-next.ensures (search rules) c.behind-left.ensures c.in_ok-filled.ensures c.loop-index.invariant c.in_ok-taken.ensures

pub fit_sequence-returns-then-is_empty : goal.fit_sequence-returns-then-is_empty
fit_sequence-returns-then-is_empty t c =
    Reaches-end c.args.parts.now c.args.shapes.now c.loop-index.shapes_left.now c.args.elements.now c.loop-index.left.now (fillings c.loop-index.filled)
    (empty-is c.loop-index.left.now c.if-is_empty.ensures)
    (subst (λ z. Reaches c.args.parts.now c.args.shapes.now c.args.elements.now (fillings c.loop-index.filled) z c.loop-index.shapes_left.now c.loop-index.left.now)
    (loop-end c.args.parts.now c.loop-index.index c.loop-index-test.false c.loop-index.auto.index-end) c.loop-index.invariant)

pub fit_sequence-returns : goal.fit_sequence-returns
fit_sequence-returns t c = (
  refl,
  Reaches-left c.args.parts.now c.args.shapes.now c.loop-index.shapes_left.now c.args.elements.now c.loop-index.left.now (fillings c.loop-index.filled)
      (empty-is_not c.loop-index.left.now c.if-is_empty.ensures)
      (subst (λ z. Reaches c.args.parts.now c.args.shapes.now c.args.elements.now (fillings c.loop-index.filled) z c.loop-index.shapes_left.now c.loop-index.left.now)
      (loop-end c.args.parts.now c.loop-index.index c.loop-index-test.false c.loop-index.auto.index-end) c.loop-index.invariant),
)
