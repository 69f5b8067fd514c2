-- The first breach of a source: the first part that is asked and whose condition is false.
use Rattle.std.specs.Prelude.{◌≡◌, ◌⊎◌, List, [], ◌∷◌}
use Rattle.st_num.specs.declared.span.Span.{Span}
use Rattle.st_el.specs.declared.definition.Def.{Def}
use Rattle.st_il.specs.declared.definition.ClauseDef.{ClauseDef}
use Rattle.st_il.specs.declared.definition.RuleDef.{RuleDef}
use Rattle.st_elab_table.specs.declared.decls.Decls.{Decls}
use Rattle.st_elab_table.specs.Questions.{Breach as PartBreach}
use Rattle.st_elab_table.specs.Judgements.{broken}
use Rattle.st_elab_def.specs.declared.breach.Breach.{Breach}
use Rattle.st_elab_def.specs.DeclsOf.{decls_of}
use Rattle.st_elab_def.specs.Conditions.{Holds, rule_of}
use Rattle.st_elab_def.specs.Contents.{ElabRuleOf, RuleBreachOf, ElabClauseOf, ClauseBreachOf}
use Rattle.st_elab_def.specs.Phases.{Asked, condition, rule, clause, Question, questions}

-- What is asked is as it should be: a condition holds, or a rule or clause is elaborated.
abbrev pub Passes : Decls → Asked → Type 0
Passes D (condition c) = Holds D c
Passes D (rule r name conclusion premises) =
    (x : RuleDef) × ElabRuleOf D r name conclusion premises x
Passes D (clause name c) = (x : ClauseDef) × ElabClauseOf D name c x

-- What is asked there is not as it should be: a condition is false there, or there is a first
-- breach in a rule or clause.
abbrev pub Fails : Decls → Span → Asked → PartBreach → Type 0
Fails D at (condition c) b = (Holds D c → ⊥) × (b ≡ broken at (rule_of c))
Fails D at (rule r name conclusion premises) b = RuleBreachOf D r conclusion premises b
Fails D at (clause name c) b = ClauseBreachOf D name at c b

-- the breach as one of a part: its place and its rule, without its definition
abbrev pub part_of : Breach → PartBreach
part_of b = broken b.at b.rule

-- The question has this breach.
abbrev pub IsBrokenBy : Decls → Question → Breach → Type 0
IsBrokenBy D q b = (b.definition ≡ q.definition) × Fails D q.placed.at q.placed.asked (part_of b)

-- whatever is asked is as it should be
abbrev pub AllPass : Decls → List Question → Type 0
AllPass D [] = Unit {0}
AllPass D (q ∷ qs) = Passes D q.placed.asked × AllPass D qs

-- One question has this breach, and what is asked before it is as it should be.
abbrev pub FirstBreach : Decls → List Question → Breach → Type 0
FirstBreach D [] b = ⊥
FirstBreach D (q ∷ qs) b =
    IsBrokenBy D q b ⊎ (Passes D q.placed.asked × FirstBreach D qs b)

-- no condition on the source is false
abbrev pub IsSound : List Def → Type 0
IsSound defs = AllPass (decls_of defs) (questions defs)

-- the first breach of the source
abbrev pub IsBreach : List Def → Breach → Type 0
IsBreach defs b = FirstBreach (decls_of defs) (questions defs) b
