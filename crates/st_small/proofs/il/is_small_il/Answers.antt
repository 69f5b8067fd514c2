use Rattle.std.proofs.Common.{sym, ◌∙◌, subst, true≢false}
use Rattle.st_il.specs.Small.{IsSmall, IsSmallIl}
use Rattle.st_small.proofs.SmallParts.{il_of-same}
use Rattle.st_small.proofs.SmallWords.{answers_also}
use Rattle.st_small.proofs.il.is_small_il.Goals as goal

pub returns-in-Some : goal.returns-in-Some
returns-in-Some c =
    let means = rw c.in-Some.is at c.in_ok-small.ensures in
    answers_also c.is_small.result (IsSmall c.in-Some.small) (IsSmallIl c.args.il.now)
    (λ small. record { source = c.in-Some.small; small = small; means = means })
    (λ is. subst IsSmall (il_of-same is.source c.in-Some.small (sym is.means ∙ means)) is.small)
    c.is_small.ensures

pub returns-in-None : goal.returns-in-None
returns-in-None c =
    let none = rw c.in-None.is at c.in_ok-small.ensures in
    (λ h. absurd (true≢false (sym h)), λ is. absurd (none is.source is.means))
