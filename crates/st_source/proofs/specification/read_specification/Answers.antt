use Rattle.std.proofs.Common.{subst, sym, ◌∙◌}
use Rattle.std.specs.Prelude.{IfErr}
use Rattle.st_source.specs.Faults.{AllTokens, TellsFault}
use Rattle.st_source.proofs.Checks.{token_stands}
use Rattle.st_small.proofs.ReaderLines.{is_nothing}
use Rattle.st_source.proofs.specification.read_specification.Goals as goal

pub of_faulty-requires : goal.of_faulty-requires
of_faulty-requires c = record {
  named = c.requires.named;
  stands = token_stands c.args.files.now c.in-Err.fault (subst (λ r. IfErr r (TellsFault c.args.files.now)) c.in-Err.is c.scan_all.ensures.refused);
}

pub returns-then-is_empty : goal.returns-then-is_empty
returns-then-is_empty c =
    let none = sym c.as_slice.ensures.value ∙ is_nothing c.as_slice.result.now c.is_empty.result c.is_empty.ensures c.if-is_empty.true in
    c.of_nothing.ensures c.args.names.now c.args.files.now (subst (AllTokens 0 c.args.files.now) none c.in-Ok.ensures.tokens)
