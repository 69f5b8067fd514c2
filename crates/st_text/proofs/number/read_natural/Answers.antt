use Rattle.std.proofs.Common.{◌≡◌, sym, ap, ◌∙◌}
use Rattle.std.specs.Fmt.{decimal}
use Rattle.st_text.proofs.NumberWords.{decimal-reads, same_differ}
use Rattle.st_text.proofs.number.read_natural.Goals as goal

pub returns-in_default : goal.returns-in_default
returns-in_default c = λ n small is. c.in_default.not-Ok n (decimal-reads _ n _ c.read_number.ensures.value small is)

pub returns-then-ne : goal.returns-then-ne
returns-then-ne c = λ n small is.
    let read = decimal-reads _ n _ c.read_number.ensures.value small is in
    let number : c.in-Ok.n ≡ n = cc (read, c.in-Ok.is) in
    let printed : c.as_bytes.result.now ≡ c.args.word.now = c.as_bytes.ensures.value ∙ c.format.ensures.text ∙ ap decimal number ∙ sym is in
    same_differ _ _ _ c.ne.ensures c.if-ne.true printed
