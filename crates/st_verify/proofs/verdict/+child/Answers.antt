use Rattle.std.proofs.Common.{◌≡◌, ◌↔◌, IsTrue, true, sym, ◌∙◌, ap, subst, refl, take_all}
use Rattle.std.specs.Prelude.{All, flat_map}
use Rattle.st_semantics.specs.Verdict.{IsNode}
use Rattle.st_verify.specs.SmallVerdict.{child_lines}
use Rattle.st_verify.proofs.Cited.{child_lines-many, All-child, All-more_children}
use Rattle.st_verify.proofs.verdict.+child.Goals as goal

pub is_child-returns-in-Many : goal.is_child-returns-in-Many
is_child-returns-in-Many t c =
    let same = ap child_lines c.in-Many.is ∙ child_lines-many c.in-Many.children ∙ ap (flat_map child_lines) (sym c.as_slice.ensures) in
    subst (λ lines. IsTrue c.are_children.result ↔ All (IsNode c.args.notes.now) lines) (sym same) c.are_children.ensures

pub are_children-returns-then-not-is_child : goal.are_children-returns-then-not-is_child
are_children-returns-then-not-is_child t c = (
  λ no. cc,
  λ all.
      let here = All-child (IsNode c.args.notes.now) child_lines c.args.children.now c.loop-child.child-index c.child-item.result c.loop-child-test.true c.child-item.is all in
      let yes : c.is_child.result ≡ true = c.is_child.ensures.1 here in
      cc,
)

pub are_children-loop-child-preserved : goal.are_children-loop-child-preserved
are_children-loop-child-preserved t c =
    All-more_children (IsNode c.args.notes.now) child_lines c.args.children.now c.loop-child.child-index c.child-item.result c.loop-child-test.true c.child-item.is
    c.loop-child.invariant (c.is_child.ensures.0 c.if-not-is_child.false)

pub are_children-returns : goal.are_children-returns
are_children-returns t c =
    (λ yes. subst (λ children. All (IsNode c.args.notes.now) (flat_map child_lines children)) (take_all _ _ c.loop-child-test.false) c.loop-child.invariant, λ all. refl)
