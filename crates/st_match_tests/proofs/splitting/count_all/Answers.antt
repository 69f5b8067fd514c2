use Rattle.st_match_tests.proofs.splitting.count_all.Goals as goal

pub all_match-requires : goal.all_match-requires
all_match-requires c = record {
  patterns = c.requires.patterns;
  formed = c.requires.formed c.args.types.now;
  bound = c.requires.known;
}
