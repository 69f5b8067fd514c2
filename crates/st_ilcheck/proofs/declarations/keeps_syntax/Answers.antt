use Rattle.std.proofs.Common.{rules, sym, ap, ◌∙◌, take}
use Rattle.st_type_table.proofs.PartsLemmas.{FindsAt-none}
use Rattle.st_il.specs.Names.{has_name}
use Rattle.st_ilcheck.proofs.SyntaxLemmas.{unnamed, named_before, syntax-kept}
use Rattle.st_ilcheck.proofs.declarations.keeps_syntax.Goals as goal

pub check-requires-clause-before : goal.check-requires-clause-before
check-requires-clause-before c = FindsAt-none c.args.bodies.now c.args.number

pub returns-then-has : goal.returns-then-has
returns-then-has c = (
  λ f. search rules,
  λ a. absurd (named_before (take c.args.number c.args.bodies.now) c.args.syntax.now.name (sym (c.if-has.ensures ∙ ap (λ z. has_name z c.args.syntax.now.name) c.requires.names)) a.0),
)

pub returns : goal.returns
returns c =
    syntax-kept c.args.bodies.now c.args.number c.args.syntax.now c.part_count.result c.in_ok-found.found c.is_nothing.result c.requires.there c.part_count.ensures c.in_ok-found.ensures c.is_nothing.ensures
    (unnamed (take c.args.number c.args.bodies.now) c.args.syntax.now.name (sym (c.if-has.ensures ∙ ap (λ z. has_name z c.args.syntax.now.name) c.requires.names)))
