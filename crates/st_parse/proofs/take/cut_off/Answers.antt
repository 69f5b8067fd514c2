use Rattle.std.proofs.Common.{reverse, sym, subst, ◌∙◌}
use Rattle.std.proofs.lemmas.List.{length-reverse}
use Rattle.st_parse_automaton.specs.inner.Readings.{progress_of}
use Rattle.st_parse.specs.declared.kept.Kept.{Kept}
use Rattle.st_parse.specs.inner.Cuts.{Counts, Opens}
use Rattle.st_parse.proofs.Works.{counted_past, opened_or}
use Rattle.st_parse.proofs.take.cut_off.Goals as goal
use Rattle.st_parse.proofs.take.cut_off.Goals.{in-Inside+in_ok-part_off, in_default}

pub returns : goal.returns
returns c before vs h o =
    let counts : Counts c.match-progress.kept.variables before.draft.defs vs = elim c.match-progress.branch [
      | in-Inside+in_ok-part_off w ↦ subst (λ (k : Kept). Counts k.variables before.draft.defs vs) (sym w.kept-is)
          (w.in_ok-part_off.ensures before (reverse w.in-Inside.brackets) vs h (w.len.ensures ∙ sym (length-reverse w.in-Inside.brackets)) (subst (λ n. Opens (progress_of n) before vs) w.in-Inside.is o))
      | in_default w ↦ subst (λ (k : Kept). Counts k.variables before.draft.defs vs) (sym w.kept-is) (opened_or c.args.progress.now c.args.kept.now c.args.parts.now before vs w.in_default.not-Inside h o)
    ] in
    counted_past c.count.result c.match-progress.kept.variables c.count.new.variables before.draft.defs vs counts c.count.ensures.past
