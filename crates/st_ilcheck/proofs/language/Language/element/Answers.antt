use Rattle.std.proofs.Common.{◌≡◌, sym, subst}
use Rattle.st_il.specs.declared.ty.Ty.TheVariants as ty
use Rattle.st_type_table.specs.Meaning.{Means}
use Rattle.st_il.specs.Definitions.{syntaxes}
use Rattle.st_ilcheck.proofs.ElementLemmas.{element-exact}
use Rattle.st_ilcheck.proofs.language.Language.element.Goals as goal

pub returns-in-Some : goal.returns-in-Some
returns-in-Some c = let same : c.self.inside.table.now ≡ syntaxes c.args.self.now = cc in
    element-exact (syntaxes c.args.self.now) c.args.ty.now c.in-Some.meaning.now c.element_of.result (subst (λ z. Means z c.args.ty.now c.in-Some.meaning.now) same c.in-Some.ensures) c.element_of.ensures

pub returns-in-None : goal.returns-in-None
returns-in-None c = λ u h. let same : c.self.inside.table.now ≡ syntaxes c.args.self.now = cc in c.in-None.ensures (ty.List u) (subst (λ z. Means z c.args.ty.now (ty.List u)) (sym same) h)
