use Rattle.st_parse.proofs.Taking.{takes_token}
use Rattle.st_parse.proofs.parser.DefinitionReaderReader.take.Goals as goal

pub returns : goal.returns
returns c =
    takes_token c.take.result c.args.advance c.args.next.now c.args.class c.args.token.now c.args.added.now c.args.self.now _ c.take.ensures
