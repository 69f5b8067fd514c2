-- What rules and clauses cite, by what stands in them.
use Rattle.std.proofs.Common.{◌≡◌, refl, sym, ap, ap₂, ◌∙◌, subst, List, [], ◌∷◌, ◌++◌, map, length}
use Rattle.st_il.specs.declared.definition.ClauseDef.{ClauseDef}
use Rattle.st_il.specs.declared.definition.IlDef.{IlDef}
use Rattle.st_il.specs.declared.definition.IlDef.TheVariants.{Rule, Clause}
use Rattle.st_il.specs.declared.definition.Listed.{Listed}
use Rattle.st_il.specs.declared.definition.RuleDef.{RuleDef}
use Rattle.st_il.specs.declared.expression.IlPrem.{IlPrem}
use Rattle.st_il.specs.declared.ty.Ty.{Ty}
use Rattle.st_il.specs.Names.{Name, flattened}
use Rattle.st_semantics.specs.Variables.{relations_cited}
use Rattle.st_ilcheck.specs.declared.cited.Citations.{Citations}
use Rattle.st_ilcheck.specs.declared.contents.Contents.{Contents}
use Rattle.st_ilcheck.specs.Declarations.{types_cited, listed_types, cited}
use Rattle.st_ilcheck.specs.inner.Cited.{AreCited}
use Rattle.st_ilcheck.specs.inner.Contents.{AreAllContents}

both : {A : Type 0} {a b c d : List A} → a ≡ c → b ≡ d → a ++ b ≡ c ++ d
both p q = ap₂ (λ x y. x ++ y) p q

pub rule-cited : (r : RuleDef) (contents : Contents) (found : Citations) (types own more : List Name) (ls : List Listed) (ps : List IlPrem) → AreAllContents r.conclusion r.premises contents
    → ls ≡ r.variables → types ≡ types_cited (listed_types ls) → found.syntaxes ≡ types ++ contents.syntaxes → own ≡ r.relation ∷ [] → ps ≡ r.premises → more ≡ flattened (map relations_cited ps)
    → found.relations ≡ own ++ more → found.functions ≡ contents.functions → found.tags ≡ contents.tags → AreCited (Rule r) found
rule-cited r contents found types own more ls ps h l t s o p m n f g = record {
  syntaxes = s ∙ both (t ∙ ap (λ z. types_cited (listed_types z)) l) (ap (λ (z : Contents). z.syntaxes) h.whole ∙ both h.first.syntaxes h.then_premises.syntaxes);
  relations = n ∙ both o (m ∙ ap (λ z. flattened (map relations_cited z)) p);
  functions = f ∙ (ap (λ (z : Contents). z.functions) h.whole ∙ both h.first.functions h.then_premises.functions);
  tagged = g ∙ (ap (λ (z : Contents). z.tags) h.whole ∙ both h.first.tagged h.then_premises.tagged);
}

pub clause-cited : (c : ClauseDef) (contents : Contents) (found : Citations) (types own : List Name) (ls : List Listed) (ps : List IlPrem) → AreAllContents (c.args ++ c.result ∷ []) c.premises contents
    → ls ≡ c.variables → types ≡ types_cited (listed_types ls) → found.syntaxes ≡ types ++ contents.syntaxes → ps ≡ c.premises → found.relations ≡ flattened (map relations_cited ps)
    → own ≡ c.fun ∷ [] → found.functions ≡ own ++ contents.functions → found.tags ≡ contents.tags → AreCited (Clause c) found
clause-cited c contents found types own ls ps h l t s p m o f g = record {
  syntaxes = s ∙ both (t ∙ ap (λ z. types_cited (listed_types z)) l) (ap (λ (z : Contents). z.syntaxes) h.whole ∙ both h.first.syntaxes h.then_premises.syntaxes);
  relations = m ∙ ap (λ z. flattened (map relations_cited z)) p;
  functions = f ∙ both o (ap (λ (z : Contents). z.functions) h.whole ∙ both h.first.functions h.then_premises.functions);
  tagged = g ∙ (ap (λ (z : Contents). z.tags) h.whole ∙ both h.first.tagged h.then_premises.tagged);
}

pub plainly-cited : (d : IlDef) (found : Citations) → found ≡ record { syntaxes = (cited d).syntaxes; relations = (cited d).relations; functions = (cited d).functions; tags = (cited d).tags } → AreCited d found
plainly-cited d found e = subst (AreCited d) (sym e) (record { syntaxes = refl; relations = refl; functions = refl; tagged = refl })

-- what a relation with this tag and these holes cites
abbrev pub relation_citations : Name → List Ty → Citations
relation_citations tag holes = record { syntaxes = types_cited holes; relations = []; functions = []; tags = (tag, length holes) ∷ [] }

-- what a function with this result and these parameters cites
abbrev pub function_citations : Ty → List Ty → Citations
function_citations result params = record { syntaxes = types_cited (result ∷ params); relations = []; functions = []; tags = [] }
