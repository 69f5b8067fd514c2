-- A small specification keeps the rules M1 to M7, and its premises, of which it has none, are of
-- their kinds.
use Rattle.std.proofs.Common.{ℕ, List, [], ◌∷◌, map, sym, subst}
use Rattle.std.specs.Prelude.{All}
use Rattle.std.proofs.lemmas.List.Elements.{All-nil, All-cons, All-map}
use Rattle.st_num.specs.declared.rule.RuleId.{RuleId}
use Rattle.st_num.specs.declared.rule.RuleId.TheVariants.{M1, M2, M5}
use Rattle.st_il.specs.declared.definition.ClauseDef.{ClauseDef}
use Rattle.st_il.specs.declared.definition.Il.{Il}
use Rattle.st_il.specs.declared.definition.IlDef.{IlDef}
use Rattle.st_il.specs.declared.definition.RuleDef.{RuleDef}
use Rattle.st_il.specs.declared.small.Small.{Small}
use Rattle.st_il.specs.declared.small.SmallRule.{SmallRule}
use Rattle.st_il.specs.Small.{il_of, rule_def, syntax_def, relation_def, IsSmallIl}
use Rattle.st_semantics.specs.Breaches.{Standing, standings, Breaks, RuleBreaks, ClauseKeeps, KeepModes, ClausesKeep}
use Rattle.st_semantics.specs.Kinds.{IsKinded, AreKinded, NamesOccurring, ClausesNameOccurring}
use Rattle.st_verify.proofs.SmallIl.{rule_of, clauses-small, all_rules-small}

abbrev Keeps : Il → Standing → Type 0
Keeps il at = (m : RuleId) → Breaks il at m → ⊥

rule_keeps : (il : Il) (relation syntax : List ℕ) (rule : SmallRule) (after : List IlDef) (m : RuleId) → RuleBreaks il (rule_of relation syntax rule) after m → ⊥
rule_keeps il relation syntax rule after M1 breaks = let never = breaks.0 in cc
rule_keeps il relation syntax rule after M2 breaks = let never = breaks.0 in cc
rule_keeps il relation syntax rule after M5 breaks = let never = breaks.0 in cc
rule_keeps il relation syntax rule after _ breaks = breaks

rules_keep : (il : Il) (relation syntax : List ℕ) (some : List SmallRule) → All (Keeps il) (standings (map (rule_def relation syntax) some))
rules_keep il relation syntax [] = All-nil (Keeps il)
rules_keep il relation syntax (rule ∷ some) =
    All-cons (Keeps il) (rule_def relation syntax rule, map (rule_def relation syntax) some) (standings (map (rule_def relation syntax) some))
    (rule_keeps il relation syntax rule (map (rule_def relation syntax) some)) (rules_keep il relation syntax some)

pub keep_modes : (s : Small) → KeepModes (il_of s)
keep_modes s =
    let rules = map (rule_def s.relation s.syntax) s.rules in
    let relation = relation_def s.relation s.syntax in
    All-cons (Keeps (il_of s)) (syntax_def s.syntax s.atoms, relation ∷ rules) (standings (relation ∷ rules)) (λ m breaks. breaks)
    (All-cons (Keeps (il_of s)) (relation, rules) (standings rules) (λ m breaks. breaks) (rules_keep (il_of s) s.relation s.syntax s.rules))

abbrev PremisesName : ClauseDef → Type 0
PremisesName c = All NamesOccurring c.premises

abbrev RuleKinded : RuleDef → Type 0
RuleKinded r = All (IsKinded r.variables) r.premises

abbrev ClauseKinded : ClauseDef → Type 0
ClauseKinded c = All (IsKinded c.variables) c.premises

pub are_kinded : (s : Small) → AreKinded (il_of s)
are_kinded s = record {
  rules = subst (All RuleKinded) (sym (all_rules-small s)) (All-map RuleKinded (rule_of s.relation s.syntax) s.rules (λ k d at. All-nil (IsKinded [])));
  clauses = subst (All ClauseKinded) (sym (clauses-small s)) (All-nil ClauseKinded);
}

-- it has no clauses
pub clauses_keep : (s : Small) (rules : List RuleId) → ClausesKeep (il_of s) rules
clauses_keep s rules = subst (All (ClauseKeeps (il_of s) rules)) (sym (clauses-small s)) (All-nil (ClauseKeeps (il_of s) rules))

pub clauses_name_occurring : (s : Small) → ClausesNameOccurring (il_of s)
clauses_name_occurring s = subst (All PremisesName) (sym (clauses-small s)) (All-nil PremisesName)

-- so it is with each internal language that a small specification means
pub small_keeps_modes : (il : Il) → IsSmallIl il → KeepModes il
small_keeps_modes il small = subst KeepModes (sym small.means) (keep_modes small.source)

pub small_kinded : (il : Il) → IsSmallIl il → AreKinded il
small_kinded il small = subst AreKinded (sym small.means) (are_kinded small.source)

pub small_clauses_keep : (il : Il) (rules : List RuleId) → IsSmallIl il → ClausesKeep il rules
small_clauses_keep il rules small = subst (λ z. ClausesKeep z rules) (sym small.means) (clauses_keep small.source rules)

pub small_clauses_name : (il : Il) → IsSmallIl il → ClausesNameOccurring il
small_clauses_name il small = subst ClausesNameOccurring (sym small.means) (clauses_name_occurring small.source)
