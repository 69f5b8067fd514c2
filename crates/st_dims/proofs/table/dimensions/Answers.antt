use Rattle.std.proofs.Common.{List, [], sym, subst, take}
use Rattle.st_dims.specs.declared.mention.Mention.{Mention}
use Rattle.st_dims.specs.Mentions.{occurrences_in}
use Rattle.st_dims.specs.Dimensions.{Table, HasDimensions}
use Rattle.st_dims.proofs.Lists.{next_taken, all_taken}
use Rattle.st_dims.proofs.Shortest.{none}
use Rattle.st_dims.proofs.table.dimensions.Goals as goal

pub loop-mention-init : goal.loop-mention-init
loop-mention-init c = subst (λ (table : Table). HasDimensions [] table) (sym c.new-shortest.ensures.empty) none

pub loop-mention-preserved : goal.loop-mention-preserved
loop-mention-preserved c =
    let more = c.in_ok-note_mention.ensures (take c.loop-mention.mention-index c.args.mentions.now) c.loop-mention.invariant in
    subst (λ (mentions : List Mention). HasDimensions (occurrences_in mentions) c.note_mention.new.shortest.entries)
    (sym (next_taken c.args.mentions.now c.loop-mention.mention-index _ c.loop-mention-test.true c.mention-item.is)) more

pub returns : goal.returns
returns c =
    subst (λ (mentions : List Mention). HasDimensions (occurrences_in mentions) c.loop-mention.shortest.entries)
    (all_taken c.args.mentions.now c.loop-mention.mention-index c.loop-mention-test.false) c.loop-mention.invariant
