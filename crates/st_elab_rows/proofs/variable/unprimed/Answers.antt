use Rattle.std.proofs.Common.{sym, ap, ◌∙◌}
use Rattle.std.proofs.lemmas.Bool.Decides.{Decides-eqb}
use Rattle.std.proofs.lemmas.Slice.Eq.{strip_suffix_is}
use Rattle.std.specs.Prelude.{codes, None, Some}
use Rattle.st_elab_table.specs.Variables.{unprimed}
use Rattle.st_elab_rows.proofs.Names.{unprimed_prime, unprimed_none}
use Rattle.st_elab_rows.proofs.variable.unprimed.Goals as goal

pub loop-shorter-preserved : goal.loop-shorter-preserved
loop-shorter-preserved c =
    sym (unprimed_prime c.in-Some.shorter.now) ∙ sym (ap unprimed (strip_suffix_is Decides-eqb _ (codes "'") (Some c.in-Some.shorter) c.in-Some.ensures.cases)) ∙ c.loop-shorter.invariant

pub returns : goal.returns
returns c = sym (unprimed_none c.loop-shorter.front.now (strip_suffix_is Decides-eqb _ (codes "'") None c.in_default.ensures.cases)) ∙ c.loop-shorter.invariant
