use Rattle.std.proofs.Common.{refl, sym, subst, take, inl}
use Rattle.std.specs.List.{list_any}
use Rattle.st_el.specs.declared.definition.Def.{Def}
use Rattle.st_dims.proofs.Lists.{next_taken}
use Rattle.st_elab_def.specs.Declarations.{declare_same}
use Rattle.st_elab_def.specs.Phases.{on_declaration}
use Rattle.st_elab_def.specs.inner.Declaring.{Knows}
use Rattle.st_elab_def.proofs.Knows.{new-passes, new-fails}
use Rattle.st_elab_def.proofs.Leaves.{number-here, Leaves-start, Leaves-next, Leaves-stop, Leaves-end}
use Rattle.st_elab_def.proofs.declarations.declarations.Goals as goal

pub loop-i-init : goal.loop-i-init
loop-i-init c = record { knows = c.new-declared.ensures; left = λ D. Leaves-start D on_declaration c.args.defs.now }

pub returns-then-not-branch : goal.returns-then-not-branch
returns-then-not-branch c = λ D.
    let defs = c.args.defs.now in
    let def = c.index-defs-i.result in
    Leaves-stop D on_declaration defs c.loop-i.i def c.loop-i-test.true c.index-defs-i.is (c.loop-i.invariant.left D) _
    (inl (
      number-here defs c.loop-i.i def c.loop-i-test.true,
      (
        new-fails c.in_ok-declare.field-0 (list_any (λ (other : Def). declare_same def.node other.node) (take c.loop-i.i defs))
            (c.in_ok-declare.ensures.new (take c.loop-i.i defs) c.loop-i.invariant.knows) c.if-not-branch.true,
        refl,
      ),
    ))

pub loop-i-preserved : goal.loop-i-preserved
loop-i-preserved c =
    let defs = c.args.defs.now in
    let def = c.index-defs-i.result in
    record {
      knows = subst (λ ds. Knows ds c.declare.new.declared) (sym (next_taken defs c.loop-i.i def c.loop-i-test.true c.index-defs-i.is))
          (c.in_ok-declare.ensures.more (take c.loop-i.i defs) def refl c.loop-i.invariant.knows);
      left = λ D. Leaves-next D on_declaration defs c.loop-i.i def c.loop-i-test.true c.index-defs-i.is (c.loop-i.invariant.left D) (
        new-passes c.in_ok-declare.field-0 (list_any (λ (other : Def). declare_same def.node other.node) (take c.loop-i.i defs))
            (c.in_ok-declare.ensures.new (take c.loop-i.i defs) c.loop-i.invariant.knows) c.if-not-branch.false,
        tt,
      );
    }

pub returns : goal.returns
returns c = λ D. Leaves-end D on_declaration c.args.defs.now c.loop-i.i c.loop-i-test.false (c.loop-i.invariant.left D)
