use Rattle.std.proofs.Common.{sym, ◌∙◌}
use Rattle.st_dims.proofs.Shortest.{kept, put}
use Rattle.st_dims.proofs.table.note.Goals as goal

pub returns-in_ok-insert : goal.returns-in_ok-insert
returns-in_ok-insert c = λ before h.
    put before c.args.occurrence.now c.args.shortest.now.entries c.insert.new.self.entries _ _
    c.in_ok-name.ensures (c.in_ok-chain.ensures ∙ c.as_slice.ensures) (sym c.is_shorter.ensures ∙ c.if-is_shorter.true)
    c.in_ok-insert.ensures.updates.0 h

pub returns-else-is_shorter : goal.returns-else-is_shorter
returns-else-is_shorter c = λ before h.
    kept before c.args.occurrence.now c.args.shortest.now.entries (sym c.is_shorter.ensures ∙ c.if-is_shorter.false) h
