use Rattle.std.proofs.Common.{◌≡◌, ◌++◌, sym, subst, List, map, true}
use Rattle.st_il.specs.Names.{all_known}
use Rattle.st_semantics.specs.Environments.{Entry}
use Rattle.st_semantics.specs.Variables.{vars}
use Rattle.st_semantics.specs.Patterns.{binds}
use Rattle.st_match_tests.proofs.splitting.count.Goals as goal

pub matches-requires : goal.matches-requires
matches-requires c = record {
  pattern = c.requires.pattern;
  formed = c.requires.formed c.args.types.now;
  bound = subst (λ (z : List Entry). all_known (map (λ (e : Entry). e.0) z ++ binds c.args.pattern.now) (vars c.args.pattern.now) ≡ true) (sym c.new-entries.ensures) c.requires.known;
}
