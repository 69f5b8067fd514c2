-- The checker accepts the lines of a derivation of a small specification, one after another.
use Rattle.std.proofs.Common.{◌≡◌, ℕ, ◌+◌, ◌≤◌, List, [], ◌∷◌, ◌++◌, Some, None, length, false, ◌∙◌, sym, ap, refl, subst, arith, inl, add-one, length-append}
use Rattle.std.specs.Prelude.{slice_get, Any, Contains, is_some, IsSomeAnd}
use Rattle.std.specs.Option.{option_map, option_and_then}
use Rattle.std.proofs.lemmas.List.Elements.{All-nil}
use Rattle.st_deriv.specs.declared.line.Line.{Line}
use Rattle.st_deriv.specs.declared.line.Line.TheVariants.{Head, From, Node, Step, End}
use Rattle.st_il.specs.declared.small.Small.{Small}
use Rattle.st_il.specs.declared.small.SmallRule.{SmallRule}
use Rattle.st_il.specs.declared.value.Value.TheVariants.{Case as CaseOf}
use Rattle.st_il.specs.Small.{il_of, IsSmall}
use Rattle.st_semantics.specs.declared.notes.Judgement.{Judgement}
use Rattle.st_semantics.specs.declared.notes.Notes.{Notes}
use Rattle.st_semantics.specs.Directions.{outputs_of}
use Rattle.st_semantics.specs.Notes.{nothing_noted, noted, judgement_on}
use Rattle.st_semantics.specs.Verdict.{Verdict, Continues, IsNode}
use Rattle.st_runs.specs.declared.transcript.Ending.{Ending}
use Rattle.st_commands.specs.Derivation.{last_line}
use Rattle.st_commands.specs.inner.Nodes.{rule_node}
use Rattle.st_runs.specs.Transcript.{atom_term}
use Rattle.st_verify.specs.SmallVerdict.{IsRelationNamed, IsRuleNamed, Concludes}
use Rattle.st_verify.proofs.SmallDefinitions.{relation_there, rule_def_there}
use Rattle.st_verify.proofs.SmallLines.{can_step, atom_inputs}
use Rattle.st_verify.proofs.SmallTrees.{inputs-small, outputs-small}
use Rattle.st_verify.proofs.SmallVerdicts.{node_verdict as verdict_of_node}
use Rattle.st_verify.proofs.Values.{atom_exp_value}

-- what is noted where a run has come to an atom
pub record IsAt (s : Small) (atom : List ℕ) (lines : List Line) (notes : Notes) : Type 0 where
  pub relation : notes.relation ≡ Some s.relation
  pub term : notes.term ≡ Some (atom_term atom)
  pub ended : notes.ended ≡ false
  pub same : length notes.lines ≡ length lines
  pub some : 2 ≤ length lines

-- the first line
pub head_verdict : (s : Small) → Verdict (il_of s) nothing_noted (Head 1 s.relation) None
head_verdict s = inl (inl ((refl, refl, refl), refl), inl (can_step s s.relation refl, refl))

abbrev pub behind_head : Small → Notes
behind_head s = noted (il_of s) nothing_noted (Head 1 s.relation)

-- the second
pub from_verdict : (s : Small) (start : List ℕ) → IsSmall s → Contains s.atoms start → Verdict (il_of s) (behind_head s) (From (atom_term start)) None
from_verdict s start small known = inl (inl ((refl, refl), refl), inl (atom_inputs s start small known, refl))

pub at_start : (s : Small) (start : List ℕ) (lines : List Line) → length lines ≡ 2 → IsAt s start lines (noted (il_of s) (behind_head s) (From (atom_term start)))
at_start s start lines two = record { relation = refl; term = refl; ended = refl; same = sym two; some = omega (arith, two) }

-- a node
pub node_verdict : (s : Small) (atom : List ℕ) (lines : List Line) (notes : Notes) (k : ℕ) (rule : SmallRule) → IsSmall s → IsAt s atom lines notes → slice_get s.rules k ≡ Some rule
    → Verdict (il_of s) notes (Node (rule_node s.relation rule)) None
node_verdict s atom lines notes k rule small at is_rule =
    let node = rule_node s.relation rule in
    let rule_there = rule_def_there s (IsRuleNamed s.relation rule.name) k rule is_rule (refl, refl) in
    let known : Any (IsRelationNamed s.relation) (il_of s).defs × Any (IsRuleNamed s.relation rule.name) (il_of s).defs = (relation_there s, rule_there) in
    let values = rule_def_there s (Concludes node) k rule is_rule ((refl, refl), (atom_exp_value s.syntax rule.from, (atom_exp_value s.syntax rule.to, tt))) in
    verdict_of_node s small notes None node
    (inl ((omega (arith, at.same, at.some), at.ended), inl (known, inl (refl, inl (All-nil (IsNode notes), inl (values, inl (refl, inl (refl, inl (tt, refl)))))))))

abbrev judgement_of : Small → SmallRule → Judgement
judgement_of s rule = record { relation = s.relation; values = (rule_node s.relation rule).values }

abbrev pub behind_node : Small → Notes → SmallRule → Notes
behind_node s notes rule = noted (il_of s) notes (Node (rule_node s.relation rule))

-- the judgement that a node behind the lines leaves
judged : (s : Small) (atom : List ℕ) (lines : List Line) (notes : Notes) (rule : SmallRule) → IsAt s atom lines notes
    → judgement_on (behind_node s notes rule) (length lines + 1) ≡ Some (judgement_of s rule)
judged s atom lines notes rule at =
    ap (judgement_on (behind_node s notes rule)) (add-one (length lines))
    ∙ ap (option_and_then (λ one. one)) (ap (slice_get (notes.lines ++ Some (judgement_of s rule) ∷ [])) (sym at.same) ∙ last notes.lines (Some (judgement_of s rule)))
  where
    last : {X : Type 0} (xs : List X) (x : X) → slice_get (xs ++ x ∷ []) (length xs) ≡ Some x
    last [] x = refl
    last (y ∷ xs) x = last xs x

-- the step that names it
pub step_verdict : (s : Small) (atom : List ℕ) (lines : List Line) (notes : Notes) (rule : SmallRule) → IsAt s atom lines notes → rule.from ≡ atom
    → Verdict (il_of s) (behind_node s notes rule) (Step (length lines + 1)) None
step_verdict s atom lines notes rule at from =
    let then = behind_node s notes rule in
    let here = judged s atom lines notes rule at in
    let long : length then.lines ≡ length notes.lines + 1 = length-append notes.lines (Some (judgement_of s rule) ∷ []) in
    let term = at.term ∙ ap (λ a. Some (atom_term a)) (sym from) ∙ ap Some (sym (inputs-small s (CaseOf rule.from []) (CaseOf rule.to []))) in
    inl (
      inl ((omega (arith, at.same, at.some, long), at.ended), refl),
      inl (
        inl (ap is_some here, refl),
        inl (subst (λ found. IsSomeAnd found (Continues (il_of s) then)) (sym here) (at.relation, term), refl),
      ),
    )

pub at_next : (s : Small) (atom : List ℕ) (lines all : List Line) (notes : Notes) (rule : SmallRule) → IsAt s atom lines notes
    → length all ≡ length lines + 2
    → IsAt s rule.to all (noted (il_of s) (behind_node s notes rule) (Step (length lines + 1)))
at_next s atom lines all notes rule at longer =
    let one = length-append notes.lines (Some (judgement_of s rule) ∷ []) in
    let two = length-append (notes.lines ++ Some (judgement_of s rule) ∷ []) (None ∷ []) in
    record {
      relation = at.relation;
      term = ap (option_map (λ (j : Judgement). outputs_of (il_of s) j.relation j.values)) (judged s atom lines notes rule at)
          ∙ ap Some (outputs-small s (CaseOf rule.from []) (CaseOf rule.to []));
      ended = at.ended;
      same = omega (arith, at.same, longer, one, two);
      some = omega (arith, at.some, longer);
    }

-- the last line
pub end_verdict : (s : Small) (atom : List ℕ) (lines : List Line) (notes : Notes) (ending : Ending) → IsAt s atom lines notes
    → Verdict (il_of s) notes (End (last_line ending)) None
end_verdict s atom lines notes ending at = inl (inl ((omega (arith, at.same, at.some), at.ended), refl), refl)
