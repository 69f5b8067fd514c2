use Rattle.std.proofs.Common.{map, string_bytes, arith, ap, length, ◌<◌, ◌≤◌}
use Rattle.st_tool.specs.Loads.{counts_of}
use Rattle.st_tool.proofs.AnswerLemmas.{answerable}
use Rattle.st_tool.proofs.Outcomes.{answers_many, answers_unbuilt, answers_loads}
use Rattle.st_words.specs.FileNames.{file_names}
use Rattle.st_tool.proofs.commands.answer_read.Goals as goal

pub returns-then-len-gt-MOST_FILES : goal.returns-then-len-gt-MOST_FILES
returns-then-len-gt-MOST_FILES g c =
    let held = g.F.Files.held c.args.files.now in
    let before = counts_of (g.F.Files.loads c.args.files.now) (g.F.Files.faults c.args.files.now) (g.F.Files.last c.args.files.now) in
    let many : 64 < length (file_names c.args.command.now) = omega (arith, c.if-len-gt-MOST_FILES.true, c.len-2.ensures, ap length c.in_ok-file_names.ensures) in
    answers_many held (map string_bytes c.args.words.now) before c.args.command.now c.line_answer.result c.requires many c.line_answer.ensures.status c.line_answer.ensures.bytes

pub returns-then-not-is_built : goal.returns-then-not-is_built
returns-then-not-is_built g c =
    let held = g.F.Files.held c.args.files.now in
    let before = counts_of (g.F.Files.loads c.args.files.now) (g.F.Files.faults c.args.files.now) (g.F.Files.last c.args.files.now) in
    let few : length (file_names c.args.command.now) ≤ 64 = omega (arith, c.if-len-gt-MOST_FILES.false, c.len-2.ensures, ap length c.in_ok-file_names.ensures) in
    answers_unbuilt held (map string_bytes c.args.words.now) before c.args.command.now c.is_built.result c.unbuilt.result c.requires few c.is_built.ensures c.if-not-is_built.true c.unbuilt.ensures

pub answer_command-requires-clause-built : goal.answer_command-requires-clause-built
answer_command-requires-clause-built g c = answerable (map string_bytes c.args.words.now) c.args.command.now (c.is_built.ensures.0 c.if-not-is_built.false)

pub returns : goal.returns
returns g c =
    let held = g.F.Files.held c.args.files.now in
    let before = counts_of (g.F.Files.loads c.args.files.now) (g.F.Files.faults c.args.files.now) (g.F.Files.last c.args.files.now) in
    let after = counts_of (g.F.Files.loads c.answer_command.new.files) (g.F.Files.faults c.answer_command.new.files) (g.F.Files.last c.answer_command.new.files) in
    let few : length (file_names c.args.command.now) ≤ 64 = omega (arith, c.if-len-gt-MOST_FILES.false, c.len-2.ensures, ap length c.in_ok-file_names.ensures) in
    answers_loads held (map string_bytes c.args.words.now) before after c.args.command.now c.is_built.result c.answer_command.result c.requires few c.is_built.ensures c.if-not-is_built.false c.answer_command.ensures.loads
