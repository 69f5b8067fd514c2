use Rattle.std.proofs.Common.{ap, ◌∙◌, replicate, None, true≢false}
use Rattle.st_any_table.proofs.FlatsLemmas.{AreFlats-start}
use Rattle.st_any_table.proofs.flats.flats_of.Goals as goal

pub passes-init : goal.passes-init
passes-init c = record { flats_are = AreFlats-start c.args.defs.now _ c.new-cases.result (c.in_ok-flats.ensures ∙ ap (λ n. replicate n None) c.len.ensures); filled = λ e. absurd (true≢false e) }
