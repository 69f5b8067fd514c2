use Rattle.std.proofs.Common.{rules}
use Rattle.st_elab_rows.proofs.Builds.{gives_made}
use Rattle.st_elab_exp.proofs.Collecting.{eps_list, eps_option, eps_fails}
use Rattle.st_elab_exp.proofs.collection.eps_row.Goals as goal

pub returns-in_ok-given-in-List : goal.returns-in_ok-given-in-List
returns-in_ok-given-in-List c = eps_list _ _ c.args.at c.args.ty.now c.args.meaning.now c.in-List.of _ c.in-List.is (gives_made _ _ _ _ _ (search rules))

pub returns-in_ok-given-in-Opt : goal.returns-in_ok-given-in-Opt
returns-in_ok-given-in-Opt c = eps_option _ _ c.args.at c.args.ty.now c.args.meaning.now c.in-Opt.of _ c.in-Opt.is (gives_made _ _ _ _ _ (search rules))

pub returns-in_default : goal.returns-in_default
returns-in_default c = eps_fails _ _ c.args.at c.args.ty.now c.args.meaning.now c.in_default.not-List c.in_default.not-Opt
