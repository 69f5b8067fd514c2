use Rattle.std.proofs.Common.{reverse, ap, ◌∙◌}
use Rattle.st_parse_builder.specs.declared.piece.Piece.TheVariants.{Done}
use Rattle.st_parse_builder.specs.Meaning.{changed}
use Rattle.st_parse_builder.specs.inner.Parts.{over, raised, both}
use Rattle.st_parse_builder.proofs.Steps.{change_applied}
use Rattle.st_parse_builder.proofs.path.change.Goals as goal

pub returns : goal.returns
returns c =
    change_applied c.args.mark (reverse c.args.stack.now) (reverse c.pop_done.new.stack) (reverse c.pop_path.new.stack) (reverse c.pop_done-2.new.stack)
    c.in-Some.value c.in-Some-pop_path.path c.in-Some-pop_done.whole c.in_ok-part.part
    c.in-Some.ensures c.in-Some-pop_path.ensures c.in-Some-pop_done.ensures
    (c.in_ok-part.ensures ∙ ap (λ p. over (λ x. Done (changed c.args.mark x.0 x.1.0 x.1.1)) (raised p)) (c.both-2.ensures ∙ ap (both c.in-Some-pop_done.whole) c.both.ensures))
