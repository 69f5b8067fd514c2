use Rattle.std.proofs.Common.{map, string_bytes, subst}
use Rattle.st_outside.specs.Sink.{Takes}
use Rattle.st_tool.specs.Loads.{counts_of}
use Rattle.st_tool.specs.Outcome.{HasOutcome}
use Rattle.st_tool.proofs.DerivedAccepted.{derived_is_accepted, accepted_is_sound}
use Rattle.st_tool.proofs.ReadBack.{printed_is_read_back}
use Rattle.st_tool.proofs.WrittenLemmas.{all_written, load_fault, fault_told, no_write}
use Rattle.st_tool.proofs.serve.Goals as goal

pub returns-in-Ok-write_all_of-clause-written : goal.returns-in-Ok-write_all_of-clause-written
returns-in-Ok-write_all_of-clause-written g c =
    let held = g.F.Files.held c.args.files.now in
    let before = counts_of (g.F.Files.loads c.args.files.now) (g.F.Files.faults c.args.files.now) (g.F.Files.last c.args.files.now) in
    let after = counts_of (g.F.Files.loads c.answer_words.new.files) (g.F.Files.faults c.answer_words.new.files) (g.F.Files.last c.answer_words.new.files) in
    let taken = g.K.Sink.taken c.args.out.now in
    let now = g.K.Sink.taken c.write_all_of.new.sink in
    let answer = c.in-Ok.answer in
    let has = subst (λ words. HasOutcome held (map string_bytes words) before after answer.status answer.bytes.items) c.as_slice.ensures.value c.in-Ok.ensures in
    let takes = subst (λ bytes. Takes taken now bytes) c.as_slice-in-Ok.ensures.value c.in-Ok-write_all_of.ensures.all in
    all_written held (map string_bytes c.args.words.now.items) before after taken now answer.status answer.bytes.items has takes

pub returns-in-Ok-write_all_of-clause-load : goal.returns-in-Ok-write_all_of-clause-load
returns-in-Ok-write_all_of-clause-load g c is =
    let held = g.F.Files.held c.args.files.now in
    let before = counts_of (g.F.Files.loads c.args.files.now) (g.F.Files.faults c.args.files.now) (g.F.Files.last c.args.files.now) in
    let after = counts_of (g.F.Files.loads c.answer_words.new.files) (g.F.Files.faults c.answer_words.new.files) (g.F.Files.last c.answer_words.new.files) in
    let answer = c.in-Ok.answer in
    let has = subst (λ words. HasOutcome held (map string_bytes words) before after answer.status answer.bytes.items) c.as_slice.ensures.value c.in-Ok.ensures in
    load_fault held (map string_bytes c.args.words.now.items) before after answer.status answer.bytes.items has is

pub returns-in-Ok-write_all_of-clause-told : goal.returns-in-Ok-write_all_of-clause-told
returns-in-Ok-write_all_of-clause-told g c rose =
    let held = g.F.Files.held c.args.files.now in
    let before = counts_of (g.F.Files.loads c.args.files.now) (g.F.Files.faults c.args.files.now) (g.F.Files.last c.args.files.now) in
    let after = counts_of (g.F.Files.loads c.answer_words.new.files) (g.F.Files.faults c.answer_words.new.files) (g.F.Files.last c.answer_words.new.files) in
    let answer = c.in-Ok.answer in
    fault_told held (map string_bytes c.as_slice.result.now) before after answer.status answer.bytes.items c.in-Ok.ensures rose

pub returns-in-Ok-write_all_of-clause-write : goal.returns-in-Ok-write_all_of-clause-write
returns-in-Ok-write_all_of-clause-write g c is =
    let held = g.F.Files.held c.args.files.now in
    let before = counts_of (g.F.Files.loads c.args.files.now) (g.F.Files.faults c.args.files.now) (g.F.Files.last c.args.files.now) in
    let after = counts_of (g.F.Files.loads c.answer_words.new.files) (g.F.Files.faults c.answer_words.new.files) (g.F.Files.last c.answer_words.new.files) in
    let answer = c.in-Ok.answer in
    absurd (no_write held (map string_bytes c.as_slice.result.now) before after answer.status answer.bytes.items c.in-Ok.ensures is)

pub returns-in-Err-clause-accepted : goal.returns-in-Err-clause-accepted
returns-in-Err-clause-accepted g c = derived_is_accepted

pub returns-in-Ok-write_all_of-clause-accepted : goal.returns-in-Ok-write_all_of-clause-accepted
returns-in-Ok-write_all_of-clause-accepted g c = derived_is_accepted

pub returns-clause-accepted : goal.returns-clause-accepted
returns-clause-accepted g c = derived_is_accepted

pub returns-in-Err-clause-sound : goal.returns-in-Err-clause-sound
returns-in-Err-clause-sound g c = accepted_is_sound

pub returns-in-Ok-write_all_of-clause-sound : goal.returns-in-Ok-write_all_of-clause-sound
returns-in-Ok-write_all_of-clause-sound g c = accepted_is_sound

pub returns-clause-sound : goal.returns-clause-sound
returns-clause-sound g c = accepted_is_sound

pub returns-in-Err-clause-read_back : goal.returns-in-Err-clause-read_back
returns-in-Err-clause-read_back g c = printed_is_read_back

pub returns-in-Ok-write_all_of-clause-read_back : goal.returns-in-Ok-write_all_of-clause-read_back
returns-in-Ok-write_all_of-clause-read_back g c = printed_is_read_back

pub returns-clause-read_back : goal.returns-clause-read_back
returns-clause-read_back g c = printed_is_read_back
