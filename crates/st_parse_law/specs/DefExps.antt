-- The expressions that definitions hold.
use Rattle.std.specs.Prelude.{List, [], ◌∷◌, ◌++◌, flat_map}
use Rattle.st_el.specs.declared.expression.Exp.{Exp}
use Rattle.st_el.specs.declared.expression.Node.{Node}
use Rattle.st_el.specs.declared.expression.Seg.{Seg}
use Rattle.st_el.specs.declared.expression.Count.{Count, out-Count}
use Rattle.st_el.specs.declared.expression.Count.TheOpen.{Count-F}
use Rattle.st_el.specs.declared.definition.Prem.{Prem, fold-Prem}
use Rattle.st_el.specs.declared.definition.PremNode.TheOpen.{PremNode-F}
use Rattle.st_el.specs.declared.definition.Def.{Def}
use Rattle.st_el.specs.declared.definition.DefNode.{DefNode}
use Rattle.st_el.specs.declared.definition.DefNode.TheVariants.{Rule, Clause}

-- the number behind `^`; a count that is a mark has none
abbrev pub count_exps_at : Count-F Count Node Seg Exp → List Exp
count_exps_at (Count-F.Times e) = e ∷ []
count_exps_at (Count-F.Below index e) = e ∷ []
count_exps_at c = []

-- the expression in a count, and none where the count is an iteration sign
abbrev pub count_exps : Count → List Exp
count_exps c = count_exps_at (out-Count c)

-- what a premise asks, and behind it the numbers of its counts
abbrev pub prem_exps_at : PremNode-F (List Exp) (List Exp) → List Exp
prem_exps_at (PremNode-F.If e) = e ∷ []
prem_exps_at (PremNode-F.Goal relation e) = e ∷ []
prem_exps_at PremNode-F.Otherwise = []
prem_exps_at (PremNode-F.Each held count) = held ++ count_exps count

-- the expressions that a premise holds
abbrev pub prem_exps : Prem → List Exp
prem_exps = fold-Prem (List Exp) (List Exp) prem_exps_at (λ p. p.node)

-- Only rules and clauses hold expressions.
abbrev pub exps_in : DefNode → List Exp
exps_in (Rule relation name conclusion premises) = conclusion ∷ flat_map prem_exps premises
exps_in (Clause name args result premises) = args ++ result ∷ flat_map prem_exps premises
exps_in d = []

-- the expressions that a definition holds, in the order of the text
abbrev pub exps_of : Def → List Exp
exps_of d = exps_in d.node
