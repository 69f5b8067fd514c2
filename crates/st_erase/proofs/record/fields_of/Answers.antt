use Rattle.std.proofs.Common.{◌≡◌, sym, ◌∙◌, ap, ℕ, suc, ◌+◌, ◌-◌, ◌<◌, List, length, arith, rules}
use Rattle.std.specs.Prelude.{Some}
use Rattle.st_il.specs.declared.definition.IlDef.{IlDef}
use Rattle.st_il.specs.declared.definition.SyntaxBody.TheVariants as body
use Rattle.st_il.specs.declared.ty.Ty.{Ty, out-Ty}
use Rattle.st_erase.specs.Records.{body_of, next_name, on_by, fields_by, fields_of}
use Rattle.st_erase.proofs.record.fields_of.Goals as goal

-- one alias further, one less is left
step : (n k : ℕ) (ds : List IlDef) (name next : List ℕ) (t : Ty) → k < n → Some (body.Alias t) ≡ body_of name ds → Some next ≡ next_name (out-Ty t) → fields_of (n - (k + 1)) ds next ≡ fields_of (n - k) ds name
step n k ds name next t h b e =
    let left : n - k ≡ suc (n - (k + 1)) = omega arith in
    ap (on_by (fields_of (n - (k + 1)) ds)) e
    ∙ ap (fields_by (fields_of (n - (k + 1)) ds)) b
    ∙ sym (ap (λ m. fields_of m ds name) left)

pub loop-preserved : goal.loop-preserved
loop-preserved c =
    let here : Some (body.Alias c.in-Some-Alias.ty) ≡ body_of c.loop.name.now c.args.defs.now = search rules in
    let on : Some c.in-Some.next.now ≡ next_name (out-Ty c.in-Some-Alias.ty) = search rules in
    step (length c.args.defs.now) c.loop.counter c.args.defs.now c.loop.name.now c.in-Some.next.now c.in-Some-Alias.ty c.loop-test.true here on
    ∙ c.loop.invariant
