-- What a part that ends changes of the draft.
use Rattle.std.proofs.Common.{◌≡◌, ◌-◌, List, [], ◌∷◌, length, false, Some, None, refl, sym, ap, append-nil}
use Rattle.st_grammar.specs.Terminals.{Terminal}
use Rattle.st_grammar.specs.Trees.{Tree}
use Rattle.st_grammar.specs.Definitions.{Hints, Members, Iterations, closings, Premises, Args, Defs}
use Rattle.st_grammar.specs.Positions.{Head, syntax_head, Rule, rule_head, clause_head, field_slot, case_slot, var_slot, notation_slot, fun_slot, rule_slot, cond_slot, count_slot, filled}
use Rattle.st_parse_automaton.specs.declared.position.Slot.TheVariants as slot
use Rattle.st_parse_automaton.proofs.DefinitionView.{rounds}
use Rattle.st_el.specs.declared.expression.Exp.{Exp}
use Rattle.st_el.specs.declared.definition.PremNode.TheVariants as prem
use Rattle.st_parse_builder.specs.Meaning.{meaning, count_of}
use Rattle.st_parse_builder.specs.Notations.{typ_meaning, notation_meaning}
use Rattle.st_parse_builder.specs.Definitions as meant
use Rattle.st_parse_builder.specs.Definitions.{place_in, condition, hints_meaning, prem_at}
use Rattle.st_parse.specs.inner.Drafts.{no_sides, premises_so_far, condition_node, typ_filled, notation_filled, condition_filled, exp_filled, count_filled}
use Rattle.st_parse.proofs.DraftOf.{drafted, cases_body, rule_draft, goal_of, premise_at, slot_draft, position_draft}
use Rattle.st_parse.proofs.DraftSteps.{span_opened}

pub field_fills : (h : Head) (o : Terminal) (ms : Members) (pre : List Terminal) (t : Tree) → position_draft (filled (field_slot h o ms pre) t) ≡ typ_filled slot.Field (typ_meaning t) (slot_draft (field_slot h o ms pre))
field_fills (syntax_head ds w x ls js e) o ms pre t = refl

pub case_fills : (h : Head) (ms : Members) (pre : List Terminal) (t : Tree) → position_draft (filled (case_slot h ms pre) t) ≡ notation_filled (notation_meaning t) (slot_draft (case_slot h ms pre))
case_fills (syntax_head ds w x ls js e) ms pre t = refl

pub var_fills : (ds : Defs) (w x c : Terminal) (t : Tree) → position_draft (filled (var_slot ds w x c) t) ≡ typ_filled slot.Var (typ_meaning t) (slot_draft (var_slot ds w x c))
var_fills ds w x c t = refl

pub notation_fills : (ds : Defs) (w r : Terminal) (hs : Hints) (c : Terminal) (t : Tree)
    → position_draft (filled (notation_slot ds w r hs c) t) ≡ notation_filled (notation_meaning t) (slot_draft (notation_slot ds w r hs c))
notation_fills ds w r hs c t = ap (λ js. drafted ds w r None js (cases_body false (notation_meaning t ∷ [])) no_sides (premises_so_far [])) (append-nil (hints_meaning hs))

pub fun_fills : (ds : Defs) (w f : Terminal) (a : Args) (c : Terminal) (t : Tree) → position_draft (filled (fun_slot ds w f a c) t) ≡ typ_filled slot.Fun (typ_meaning t) (slot_draft (fun_slot ds w f a c))
fun_fills ds w f a c t = refl

pub rule_fills : (r : Rule) (t : Tree) → position_draft (filled (rule_slot r) t) ≡ exp_filled (meaning t) (slot_draft (rule_slot r))
rule_fills (rule_head ds w r ls c) t = refl
rule_fills (clause_head ds w f a c) t = refl

node_is : (ls : List Terminal) (e : Exp) → meant.condition_node ls e ≡ condition_node (goal_of ls) e
node_is [] e = refl
node_is (l ∷ []) e = refl
node_is (r ∷ c ∷ ls) e = refl

pub cond_fills : (r : Rule) (t : Tree) (ps : Premises) (d : Terminal) (os ls : List Terminal) (u : Tree)
    → position_draft (filled (cond_slot r t ps d os ls) u) ≡ condition_filled (meaning u) (slot_draft (cond_slot r t ps d os ls))
cond_fills (rule_head ds w r js c) t ps d os ls u =
    ap (λ n. rule_draft (rule_head ds w r js c) (Some (meaning t)) (premise_at ps d os (place_in ls) None (Some (prem_at (place_in ls) n)))) (node_is ls (meaning u))
cond_fills (clause_head ds w f a c) t ps d os ls u =
    ap (λ n. rule_draft (clause_head ds w f a c) (Some (meaning t)) (premise_at ps d os (place_in ls) None (Some (prem_at (place_in ls) n)))) (node_is ls (meaning u))

pub count_fills : (r : Rule) (t : Tree) (ps : Premises) (d : Terminal) (os ls : List Terminal) (u : Tree) (i : Iterations) (l : Terminal) (c : Tree)
    → position_draft (filled (count_slot r t ps d os ls u i l) c) ≡ count_filled (length (rounds (length os - closings i))) (count_of c (meaning c)) (slot_draft (count_slot r t ps d os ls u i l))
count_fills (rule_head ds w r js k) t ps d os ls u i l c =
    ap (λ y. rule_draft (rule_head ds w r js k) (Some (meaning t)) (premise_at ps d os (place_in ls) None (Some (prem_at y (prem.Each (meant.iterated os (condition ls (meaning u)) i) (count_of c (meaning c))))))) (sym (span_opened os (closings i)))
count_fills (clause_head ds w f a k) t ps d os ls u i l c =
    ap (λ y. rule_draft (clause_head ds w f a k) (Some (meaning t)) (premise_at ps d os (place_in ls) None (Some (prem_at y (prem.Each (meant.iterated os (condition ls (meaning u)) i) (count_of c (meaning c))))))) (sym (span_opened os (closings i)))
