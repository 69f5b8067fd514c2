use Rattle.std.proofs.Common.{ℕ, ◌<◌, List, take, drop}
use Rattle.st_il.specs.declared.expression.ListItem.TheVariants as item
use Rattle.st_il.specs.declared.value.Env.{Env}
use Rattle.st_match.specs.inner.Fitting.{field_values}
use Rattle.st_match.specs.inner.Covering.{AreCandidatesOfAll, AreCandidatesOfItems, AreCandidatesOfCut, IfCat}
use Rattle.st_match.specs.inner.Rows.{AreRows}
use Rattle.st_match.specs.inner.Positions.{FollowAll, PartLeads, ElementLeads, CutsLead}
use Rattle.st_match.proofs.covering.+candidates.Given as goal

-- what covers the patterns that are left covers all
abbrev pub invariant-all_candidates-loop-i : goal.invariant-all_candidates-loop-i
invariant-all_candidates-loop-i l = (after : List Env) → AreCandidatesOfAll (drop l.i l.parts) (drop l.i l.values) l.found after → AreCandidatesOfAll l.parts l.values l.envs after

abbrev pub invariant-field_candidates-loop-i : goal.invariant-field_candidates-loop-i
invariant-field_candidates-loop-i l = (after : List Env) → AreCandidatesOfAll (drop l.i l.parts) (field_values (drop l.i l.fields)) l.found after → AreCandidatesOfAll l.parts (field_values l.fields) l.envs after

-- what follows the positions under the parts that are left covers the whole list
abbrev pub invariant-item_candidates-loop-i : goal.invariant-item_candidates-loop-i
invariant-item_candidates-loop-i l = (found : List Env) → FollowAll (drop l.i l.items) l.values found l.positions → AreCandidatesOfItems l.items l.values l.envs found

abbrev pub invariant-after_element-loop-position : goal.invariant-after_element-loop-position
invariant-after_element-loop-position l = ElementLeads l.pattern l.values (take l.position-index l.positions) l.after

abbrev pub invariant-after_list-loop-position : goal.invariant-after_list-loop-position
invariant-after_list-loop-position l = PartLeads (item.All l.pattern) l.rest l.values (take l.position-index l.positions) l.after

abbrev pub invariant-positions_between-loop-count : goal.invariant-positions_between-loop-count
invariant-positions_between-loop-count l = CutsLead l.pattern l.values l.fn.ends.first l.count l.position l.after

abbrev pub invariant-cut_candidates-loop-count : goal.invariant-cut_candidates-loop-count
invariant-cut_candidates-loop-count l = IfCat l.pattern (λ left right. (k : ℕ) → k < l.count → AreCandidatesOfCut left right l.values k l.envs l.found)

abbrev pub invariant-element_rows-loop-value : goal.invariant-element_rows-loop-value
invariant-element_rows-loop-value l = AreRows l.body (take l.value-index l.values) l.rows
