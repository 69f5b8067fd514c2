use Rattle.std.proofs.Common.{refl, sym, ap, subst, ◌∙◌}
use Rattle.st_el.specs.Plain.{nowhere}
use Rattle.st_draft.specs.inner.Drafts.{begun, ended}
use Rattle.st_draft.proofs.Endings.{begun_clear}
use Rattle.st_parse.specs.inner.Kept.{ended_high, Stands}
use Rattle.st_parse.proofs.Notes.{turned}
use Rattle.st_parse.proofs.Trees.{ended_so}
use Rattle.st_parse.proofs.kept.end_kept.Goals as goal

pub returns : goal.returns
returns c d h m = (
  begun (ended c.args.ending d) nowhere,
  record {
    trees = subst (λ q. Stands c.ended_high-kept.result q c.turn.new.draft (begun (ended c.args.ending d) nowhere)) (sym c.no_heights-kept.ensures)
        (ended_so c.args.kept.now.tall c.ended_high-kept.result c.args.kept.now.heights c.args.ending c.args.kept.now.draft c.turn.new.draft d h.trees m c.in_ok-turn.ensures
        (c.ended_high-kept.ensures ∙ ap (λ ds. ended_high c.args.ending c.args.kept.now.heights.high ds c.args.kept.now.tall) c.as_slice.ensures));
    noted = turned c.args.ending d nowhere c.args.kept.now.variables c.count.new.variables h.noted m c.in_ok-count.ensures.past c.in_ok-count.ensures.before c.in_ok-count.ensures.inside;
  },
  refl,
  (begun_clear (ended c.args.ending d) nowhere).low,
)
