use Rattle.std.proofs.Common.{subst}
use Rattle.st_grammar.specs.Terminals.{declared_names}
use Rattle.st_parse.specs.Source.{Answers}
use Rattle.st_source.proofs.Checks.{syntax_stands, breaches_within, begin_within}
use Rattle.st_source.proofs.HasTemplates.{HasTemplates-source}
use Rattle.st_source.proofs.Specifications.{source_specifies}
use Rattle.st_source.proofs.ParsedPremises.{parsed_repeat_none}
use Rattle.st_source.proofs.specification.of_tokens.Goals as goal

pub of_faulty-requires : goal.of_faulty-requires
of_faulty-requires c = record {
  named = c.requires.named;
  stands = syntax_stands c.args.files.now c.args.tokens.now c.parse.result c.in-Err.fault c.requires.all c.requires.some c.parse.ensures c.in-Err.is;
}

pub of_source-requires : goal.of_source-requires
of_source-requires c =
    let source = subst (Answers c.args.tokens.now) c.in-Ok.is c.parse.ensures in record {
      templates = HasTemplates-source c.args.files.now c.args.tokens.now c.in-Ok.definitions c.requires.all source;
      repeats = parsed_repeat_none (declared_names c.args.tokens.now) c.args.tokens.now c.in-Ok.definitions source.0.1;
      within = breaches_within c.args.files.now c.args.names.now c.args.tokens.now c.in-Ok.definitions c.requires.all c.requires.some source c.requires.named;
      begin = begin_within c.args.files.now c.args.names.now c.args.tokens.now c.in-Ok.definitions c.requires.all c.requires.some source c.requires.named;
    }

pub returns-in-Ok : goal.returns-in-Ok
returns-in-Ok c =
    source_specifies c.args.names.now c.args.files.now c.args.tokens.now c.in-Ok.definitions c.of_source.result c.requires.all c.requires.some
    (subst (Answers c.args.tokens.now) c.in-Ok.is c.parse.ensures) c.of_source.ensures
