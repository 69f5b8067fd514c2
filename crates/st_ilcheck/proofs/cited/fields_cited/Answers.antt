use Rattle.std.proofs.Common.{refl, ap, ◌∙◌, ◌++◌, map, ℕ, List}
use Rattle.st_il.specs.declared.ty.Ty.{Ty}
use Rattle.st_type_table.specs.Leads.{names_in}
use Rattle.st_ilcheck.specs.Declarations.{types_cited}
use Rattle.st_ilcheck.proofs.Walks.{walk-next, walk-end}
use Rattle.st_ilcheck.proofs.cited.fields_cited.Goals as goal

pub loop-field-preserved : goal.loop-field-preserved
loop-field-preserved c =
    walk-next (λ (fs : List (List ℕ × Ty)). types_cited (map (λ (f : List ℕ × Ty). f.1) fs)) (λ (f : List ℕ × Ty). names_in f.1) c.args.fields.now c.loop-field.field-index (λ x rest. refl) c.field-item.result c.loop-field.names c.in_ok-longer.longer c.loop-field-test.true c.field-item.is
    (c.in_ok-longer.ensures ∙ ap (λ z. c.loop-field.names ++ z) c.in_ok-more.ensures) c.loop-field.invariant

pub returns : goal.returns
returns c = walk-end (λ (fs : List (List ℕ × Ty)). types_cited (map (λ (f : List ℕ × Ty). f.1) fs)) (λ (f : List ℕ × Ty). names_in f.1) c.args.fields.now c.loop-field.field-index refl c.loop-field.names c.loop-field-test.false c.loop-field.invariant
