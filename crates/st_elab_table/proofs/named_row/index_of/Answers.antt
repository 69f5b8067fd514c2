use Rattle.std.proofs.Common.{◌≡◌, ◌-◌, length, refl, ◌∙◌, subst, ℕ, List, if◌then◌else◌, Some}
use Rattle.std.specs.Map.{lookup}
use Rattle.st_num.specs.Names.{same_name}
use Rattle.st_elab_table.proofs.NameIndexLemmas.{IsNameIndex-start, IsNameIndex-next, IsNameIndex-whole}
use Rattle.st_elab_table.proofs.named_row.index_of.Goals as goal

pub loop-i-init : goal.loop-i-init
loop-i-init g c = IsNameIndex-start g.T.Named.name c.args.items.now c.new-index.result.entries c.new-index.ensures.empty

pub loop-i-preserved : goal.loop-i-preserved
loop-i-preserved g c =
    let items = c.args.items.now in
    let number : ℕ = length items - 1 - c.loop-i.i in
    IsNameIndex-next g.T.Named.name items c.loop-i.i number c.index-items-number.result c.loop-i.index.entries c.put.new.index.entries c.loop-i-test.true refl c.index-items-number.is
    (subst (λ n. (q : List ℕ) → lookup (same_name q) c.put.new.index.entries ≡ (if same_name n q then Some number else lookup (same_name q) c.loop-i.index.entries))
    (c.in_ok-name.ensures ∙ c.name.ensures) c.in_ok-put.ensures) c.loop-i.invariant

pub returns : goal.returns
returns g c = IsNameIndex-whole g.T.Named.name c.args.items.now c.loop-i.i c.loop-i.index.entries c.loop-i-test.false c.loop-i.invariant
