use Rattle.std.proofs.Common.{sym, ap, ◌∙◌}
use Rattle.std.specs.Prelude.{is_some}
use Rattle.st_type_table.specs.Meaning.{body_of}
use Rattle.st_elab_def.proofs.AllDeclared.{declared-next, declared-stop, declared-end}
use Rattle.st_elab_def.proofs.signatures.check_names.Goals as goal

pub returns-then-not-declares : goal.returns-then-not-declares
returns-then-not-declares c = λ D e.
    declared-stop D c.args.names.now c.loop-named.named-index c.named-item.result c.loop-named-test.true c.named-item.is
    (ap (λ ts. is_some (body_of ts c.named-item.result.name)) e ∙ sym c.declares.ensures ∙ c.if-not-declares.true) (c.loop-named.invariant D e)

pub loop-named-preserved : goal.loop-named-preserved
loop-named-preserved c = λ D e.
    declared-next D c.args.names.now c.loop-named.named-index c.named-item.result c.loop-named-test.true c.named-item.is
    (ap (λ ts. is_some (body_of ts c.named-item.result.name)) e ∙ sym c.declares.ensures ∙ c.if-not-declares.false) (c.loop-named.invariant D e)

pub returns : goal.returns
returns c = λ D e. declared-end D c.args.names.now c.loop-named.named-index c.loop-named-test.false (c.loop-named.invariant D e)
