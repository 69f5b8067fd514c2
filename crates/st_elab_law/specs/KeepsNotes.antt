-- The law of variables: what is elaborated mentions what it came from does.
use Rattle.std.specs.Prelude.{◌≡◌, List, [], ◌∷◌, ◌++◌}
use Rattle.st_el.specs.declared.expression.Exp.{Exp}
use Rattle.st_el.specs.declared.definition.Prem.{Prem}
use Rattle.st_il.specs.declared.definition.ClauseDef.{ClauseDef}
use Rattle.st_il.specs.declared.definition.RuleDef.{RuleDef}
use Rattle.st_dims.specs.declared.within.Within.{Within}
use Rattle.st_dims.specs.Mentions.{mentions_in}
use Rattle.st_elab_table.specs.declared.decls.Decls.{Decls}
use Rattle.st_elab_table.specs.declared.decls.Scope.{Scope}
use Rattle.st_elab_table.specs.Questions.{Question, Made, Gives}
use Rattle.st_elab_table.specs.Elaboration.{Answered}
use Rattle.st_elab_table.specs.Clauses.{ClauseParts, mentions_of}
use Rattle.st_elab_law.specs.Notes.{mentioned, asked_written}
use Rattle.st_elab_law.specs.Noted.{noted, all_noted}

-- What answers a question has the notes of what the question is about, in their order, whatever is
-- round it: the same variables, each under the same iterations; the same indices; and the same
-- iterations, with the variables that occur in each.
abbrev pub AnswersKeepNotes : Type 0
AnswersKeepNotes = (D : Decls) (S : Scope) (q : Question) (m : Made) → Answered D S q (Gives m)
    → (within : Within) → noted m.exp within ≡ asked_written q within

-- The rule has the notes of this conclusion and these premises, in their order.
abbrev pub RuleKeepsNotes : Exp → List Prem → RuleDef → Type 0
RuleKeepsNotes conclusion premises rule =
    all_noted rule.conclusion rule.premises ≡ mentioned (mentions_in (conclusion ∷ []) premises)

-- The clause has the notes of these parts, in their order.
abbrev pub ClauseKeepsNotes : ClauseParts → ClauseDef → Type 0
ClauseKeepsNotes c clause =
    all_noted (clause.args ++ clause.result ∷ []) clause.premises ≡ mentioned (mentions_of c)
