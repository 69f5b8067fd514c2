use Rattle.st_commands.proofs.SmallTexts.{small_il_text}
use Rattle.st_commands.proofs.source.small_il.Goals as goal

pub returns-clause-bytes : goal.returns-clause-bytes
returns-clause-bytes c =
    small_il_text c.args.small.now c.in_ok-il.il c.new-bytes.result.items c.print_il.new.out.items c.requires
    c.in_ok-il.ensures c.new-bytes.ensures.items c.in_ok-print_il.ensures.ok
