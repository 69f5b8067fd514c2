-- How a step of definitions is put together.
use Rattle.std.proofs.Common.{◌≡◌, ℕ, List, [], ◌++◌, length, reverse, Option, Some, None, Result, Ok, Err, IfOk, option_map, refl, sym, ap, ◌∙◌}
use Rattle.std.proofs.lemmas.List.{length-reverse}
use Rattle.st_num.specs.declared.token.Token.{Token}
use Rattle.st_grammar.specs.declared.sort.Bracket.{Bracket}
use Rattle.st_grammar.specs.declared.action.Action.{Action}
use Rattle.st_parse_automaton.specs.declared.part_automaton.Part.{Part}
use Rattle.st_parse_automaton.specs.declared.position.Advance.{Advance}
use Rattle.st_parse_automaton.specs.declared.position.Advance.TheVariants.{Behind}
use Rattle.st_parse_automaton.specs.declared.position.Position.{Position}
use Rattle.st_parse_automaton.specs.declared.position.Slot.{Slot}
use Rattle.st_parse_automaton.specs.declared.position.Step.{Step}
use Rattle.st_parse_automaton.specs.declared.position.TokenClass.{TokenClass}
use Rattle.st_parse_automaton.specs.inner.PartAutomaton as parts
use Rattle.st_parse_automaton.specs.inner.DefinitionAutomaton.{State, Taken, stands, taken, filled, position_step, behind_part, advanced}
use Rattle.st_parse_automaton.specs.inner.Readings.{step_of}

-- a part that takes the token does so whatever else the token could make
pub taken_more : (x : Token) (s : Slot) (ks : List Bracket) (o : Option parts.Move) (r : Option Taken) (t : Advance × State × List Action) → Some t ≡ advanced x (taken s ks o None) → Some t ≡ advanced x (taken s ks o r)
taken_more x s ks None r t e = absurd (cc)
taken_more x s ks (Some m) r t e = e

-- where a part does not take the token, it makes what else it may
pub taken_other : {E : Type 0} (result : Result (Option Step) E) (x : Token) (s : Slot) (ks : List Bracket) (o : Option parts.Move) (r : Option Taken) → None ≡ advanced x (taken s ks o None)
    → IfOk result (λ step. option_map step_of step ≡ advanced x r) → IfOk result (λ step. option_map step_of step ≡ advanced x (taken s ks o r))
taken_other result x s ks None r e h = h
taken_other result x s ks (Some m) r e h = absurd (cc)

pub same_step : {E : Type 0} (result : Result (Option Step) E) (o p : Option (Advance × State × List Action)) → o ≡ p → IfOk result (λ step. option_map step_of step ≡ o) → IfOk result (λ step. option_map step_of step ≡ p)
same_step (Ok step) o p e h = h ∙ e
same_step (Err fault) o p e h = tt

-- a part that ends before the token
pub left : (x : Token) (s : Slot) (l : TokenClass) (brackets copy : List Bracket) (st : parts.State) (p : Part) (n : ℕ) (place : Position) (before acts : List Action) (o : Option State) (q : Option Part)
    → q ≡ Some p → place ≡ filled s p → n ≡ length brackets → before ≡ [] → acts ≡ before ++ parts.finishing st → o ≡ position_step place l (reverse copy) → copy ≡ brackets
    → advanced x (stands (Behind s n place) (λ y. acts) o) ≡ advanced x (behind_part s l (reverse brackets) (parts.finishing st) q)
left x s l brackets copy st p n place before acts o q e f g i j k m =
    ap (λ v. advanced x (stands (Behind s v place) (λ y. acts) o)) (g ∙ sym (length-reverse brackets))
    ∙ ap (λ v. advanced x (stands (Behind s (length (reverse brackets)) v) (λ y. acts) o)) f
    ∙ ap (λ v. advanced x (stands (Behind s (length (reverse brackets)) (filled s p)) (λ y. v) o)) (j ∙ ap (λ v. v ++ parts.finishing st) i)
    ∙ ap (λ v. advanced x (stands (Behind s (length (reverse brackets)) (filled s p)) (λ y. parts.finishing st) v))
    (k ∙ ap (λ v. position_step v l (reverse copy)) f ∙ ap (λ v. position_step (filled s p) l (reverse v)) m)
    ∙ ap (λ v. advanced x (behind_part s l (reverse brackets) (parts.finishing st) v)) (sym e)
