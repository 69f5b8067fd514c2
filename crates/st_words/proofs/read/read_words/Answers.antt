use Rattle.std.proofs.Common.{refl, ap, map, rules, string_bytes, Err}
use Rattle.st_words.specs.Names.{name_spelling}
use Rattle.st_words.proofs.ReadsLemmas.{only_reading, tells-err, tells_usage}
use Rattle.st_words.proofs.read.read_words.Goals as goal

pub returns-in_err-found-clause-usage : goal.returns-in_err-found-clause-usage
returns-in_err-found-clause-usage c =
    tells-err (map string_bytes c.args.words.now) c.from_residual.result c.in_err-found.field-0.0 (search rules) (λ is. c.in_err-found.ensures.usage (ap Err is))

pub returns-clause-only : goal.returns-clause-only
returns-clause-only c =
    let is = c.in_ok-found.ensures.ok in
    only_reading (map string_bytes c.args.words.now) is.0 (name_spelling c.in_ok-found.found.0) c.in_ok-found.found.0 c.in_ok-found.found.1 is.1 refl is.2 c.command_of.result c.command_of.ensures

pub returns-clause-usage : goal.returns-clause-usage
returns-clause-usage c =
    let is = c.in_ok-found.ensures.ok in
    tells_usage (map string_bytes c.args.words.now) is.0 (name_spelling c.in_ok-found.found.0) c.in_ok-found.found.0 c.in_ok-found.found.1 is.1 refl is.2 c.command_of.result c.command_of.ensures
