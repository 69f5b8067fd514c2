use Rattle.std.proofs.Common.{refl, sym}
use Rattle.st_parse.specs.inner.ExpressionFolding.{nothing_seen}
use Rattle.st_parse.proofs.ExpressionDrafted.{starts}
use Rattle.st_parse.proofs.ExpressionParsing.{read_breaks, read_answers}
use Rattle.st_parse.proofs.expression_parser.read_expressions.Goals as goal

pub returns-in-Some : goal.returns-in-Some
returns-in-Some c =
    read_breaks c.args.variables.now c.args.tokens.now c.in_ok-start.start c.begun_reader-reader.result c.in_ok-reached.reached.progress c.in_ok-reached.reached.fault c.read_tokens.new.reader
    (nothing_seen, refl, sym c.in_ok-start.ensures.value, starts c.begun_reader-reader.result c.begun_reader-reader.ensures)
    c.in_ok-reached.ensures c.in-Some.fault c.refused.result c.in-Some.is c.refused.ensures

pub returns : goal.returns
returns c =
    read_answers c.args.variables.now c.args.tokens.now c.in_ok-start.start c.begun_reader-reader.result c.in_ok-reached.reached.progress c.in_ok-reached.reached.fault c.read_tokens.new.reader c.last.result
    (nothing_seen, refl, sym c.in_ok-start.ensures.value, starts c.begun_reader-reader.result c.begun_reader-reader.ensures)
    c.in_ok-reached.ensures c.in_default.is c.last.ensures
