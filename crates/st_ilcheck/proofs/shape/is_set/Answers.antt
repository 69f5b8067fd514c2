use Rattle.std.proofs.Common.{rules}
use Rattle.std.specs.Option.{option_copied}
use Rattle.st_il.specs.Definitions.{syntaxes}
use Rattle.st_ilcheck.proofs.Paths.{set-place, set-nowhere}
use Rattle.st_ilcheck.proofs.shape.is_set.Goals as goal

pub returns-in_ok-kept-in-Some-place : goal.returns-in_ok-kept-in-Some-place
returns-in_ok-kept-in-Some-place c =
    set-place (syntaxes c.args.language.now) c.args.path.now c.args.found c.in-Some.ty c.in-Some.is c.in-Some-place.place.now c.in-Some-place.ensures (option_copied c.args.new) c.in_ok-kept-in-Some-place.kept c.in_ok-kept-in-Some-place.ensures

pub returns-in-None-place : goal.returns-in-None-place
returns-in-None-place c =
    (λ f. search rules, λ h. absurd (set-nowhere (syntaxes c.args.language.now) c.args.path.now c.args.found c.in-Some.ty c.in-Some.is c.in-None-place.ensures (option_copied c.args.new) h))
