use Rattle.std.proofs.Common.{◌≡◌, [], take}
use Rattle.st_elab_table.specs.Scopes.{untyped}
use Rattle.st_elab_exp.proofs.scope.first_untyped.Given as goal

abbrev pub invariant-loop-mention : goal.invariant-loop-mention
invariant-loop-mention l = untyped l.decls (take l.mention-index l.mentions) ≡ []
