use Rattle.std.proofs.Common.{rules, arith}
use Rattle.std.proofs.lemmas.Grind.{common_steps}
use Rattle.st_elab_def.proofs.NamesIn.{holes-Hole, holes-Seq, holes-Infix, holes-Bracket}
use Rattle.st_elab_def.proofs.names.+notation.Goals as goal

pub push_hole_names-returns-in-Hole : goal.push_hole_names-returns-in-Hole
push_hole_names-returns-in-Hole t c = rw (holes-Hole c.args.notation.now c.in-Hole.typ c.in-Hole.is) (grind (arith, common_steps))

pub push_hole_names-returns-in-Seq : goal.push_hole_names-returns-in-Seq
push_hole_names-returns-in-Seq t c = rw (holes-Seq c.args.notation.now c.in-Seq.parts c.in-Seq.is) (search rules)

pub push_hole_names-returns-in_ok-push_hole_names-in-Infix : goal.push_hole_names-returns-in_ok-push_hole_names-in-Infix
push_hole_names-returns-in_ok-push_hole_names-in-Infix t c =
    rw (holes-Infix c.args.notation.now c.in-Infix.left c.in-Infix.field-1 c.in-Infix.right c.in-Infix.is) (grind (arith, common_steps))

pub push_hole_names-returns-in-Bracket : goal.push_hole_names-returns-in-Bracket
push_hole_names-returns-in-Bracket t c = rw (holes-Bracket c.args.notation.now c.in-Bracket.field-0 c.in-Bracket.inside c.in-Bracket.is) (search rules)
