use Rattle.std.proofs.Common.{map, string_bytes, subst}
use Rattle.st_tool.specs.Loads.{counts_of}
use Rattle.st_words.specs.Reads.{TellsUsage}
use Rattle.st_tool.proofs.Outcomes.{answers_unread}
use Rattle.st_tool.proofs.commands.answer_words.Goals as goal

pub returns-in-Err-Usage : goal.returns-in-Err-Usage
returns-in-Err-Usage g c =
    let held = g.F.Files.held c.args.files.now in
    let before = counts_of (g.F.Files.loads c.args.files.now) (g.F.Files.faults c.args.files.now) (g.F.Files.last c.args.files.now) in
    answers_unread held (map string_bytes c.args.words.now) before c.line_answer.result
    (subst (TellsUsage (map string_bytes c.args.words.now)) c.in-Err-Usage.field-0-is c.in-Err-Usage.ensures.usage) c.line_answer.ensures.status c.line_answer.ensures.bytes
