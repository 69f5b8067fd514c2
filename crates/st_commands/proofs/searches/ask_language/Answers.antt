use Rattle.st_commands.proofs.TypedTables.{typed_sound}
use Rattle.st_commands.proofs.searches.ask_language.Goals as goal

pub decls-requires : goal.decls-requires
decls-requires c = typed_sound c.args.il.now c.requires.accepted.typed
