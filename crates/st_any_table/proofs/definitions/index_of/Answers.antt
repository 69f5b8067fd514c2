use Rattle.std.proofs.Common.{◌≡◌, sym, subst, ℕ, List}
use Rattle.st_num.specs.Names.{same_name}
use Rattle.st_il.specs.declared.definition.SyntaxDef.{SyntaxDef}
use Rattle.st_type_table.specs.inner.Index.{adding}
use Rattle.st_type_table.specs.inner.Forms.{number_of}
use Rattle.st_type_table.proofs.PartLemmas.{read-at}
use Rattle.st_any_table.proofs.IndexLemmas.{index-next, index-whole}
use Rattle.st_any_table.proofs.definitions.index_of.Goals as goal

pub loop-k-preserved : goal.loop-k-preserved
loop-k-preserved c = index-next c.args.defs.now c.loop-k.k c.index-defs-k.result c.loop-k.index.entries c.add.new.index.entries
    (read-at c.args.defs.now c.loop-k.k c.index-defs-k.result c.loop-k-test.true c.index-defs-k.is) c.loop-k.invariant
    (subst (λ (d : SyntaxDef). (q : List ℕ) → number_of c.add.new.index.entries q ≡ adding (number_of c.loop-k.index.entries q) (same_name q d.name) c.loop-k.k) (sym c.index-defs-k.is) c.in_ok-add.ensures)

pub returns : goal.returns
returns c = index-whole c.args.defs.now c.loop-k.k c.loop-k.index.entries c.loop-k-test.false c.loop-k.invariant
