-- What closes over a part, one frame after another, and what is added before a move.
use Rattle.std.proofs.Common.{◌≡◌, ℕ, List, [], ◌∷◌, ◌++◌, Bool, false, ◌&&◌, Option, Some, None, Result, Ok, Err, IfOk, nat_le, if◌then◌else◌, refl, sym, ap, append_assoc, ◌∙◌}
use Rattle.st_parse_automaton.specs.declared.part_automaton.Lead.{Lead}
use Rattle.st_parse_automaton.specs.declared.part_automaton.Frame.{Frame}
use Rattle.st_parse_automaton.specs.inner.PartAutomaton as parts
use Rattle.st_num.specs.declared.token.Token.{Token}
use Rattle.st_grammar.specs.declared.action.Action.{Action}
use Rattle.st_num.specs.declared.mark.Mark.{Mark}
use Rattle.st_grammar.specs.declared.sort.Sort.{Sort}
use Rattle.st_grammar.specs.Levels.{left_of}
use Rattle.st_parse_automaton.specs.declared.part_automaton.Reading.{Reading}
use Rattle.st_parse_automaton.specs.declared.part_automaton.Lead.TheVariants.{Left}
use Rattle.st_parse_automaton.specs.declared.part_automaton.Frame.TheVariants.{Over}
use Rattle.st_parse_automaton.specs.declared.part_automaton.Expected.TheVariants.{Operand}
use Rattle.st_parse_automaton.specs.inner.Readings.{reached}
use Rattle.st_parse_automaton.specs.inner.PartAutomaton.{Move, State, Lowered, acting, leads, lead_end, lead_closes, lowering}

pub lowering_stays : (n : ℕ) (f : Frame) (fs : List Frame) → parts.closes f n ≡ None → lowering n (f ∷ fs) ≡ []
lowering_stays n f fs e = ap (lead_closes (lowering n fs)) e

pub lowering_goes : (n : ℕ) (f : Frame) (fs : List Frame) (g : Lead) → parts.closes f n ≡ Some g → lowering n (f ∷ fs) ≡ lead_end g ++ lowering n fs
lowering_goes n f fs g e = ap (lead_closes (lowering n fs)) e

pub acts_go : (n : ℕ) (f : Frame) (fs rs : List Frame) (g : Lead) (old new : List Action)
    → rs ≡ f ∷ fs → parts.closes f n ≡ Some g → new ≡ old ++ lead_end g → new ++ lowering n fs ≡ old ++ lowering n rs
acts_go n f fs rs g old new r e h =
    ap (λ a. a ++ lowering n fs) h ∙ append_assoc old (lead_end g) (lowering n fs)
    ∙ ap (λ a. old ++ a) (sym (lowering_goes n f fs g e) ∙ ap (lowering n) (sym r))

-- a move behind more actions
pub leads_more : (more acts : List Action) (x : Token) (o : Option Move) → leads acts x (acting more o) ≡ leads (acts ++ more) x o
leads_more more acts x None = refl
leads_more more acts x (Some m) = ap (λ l. Some (m.0, l)) (sym (append_assoc acts more (m.1 x)))

pub leads_behind : (old more mid : List Action) (x : Token) (o : Option Move) (r : Option (State × List Action))
    → mid ≡ old ++ more → r ≡ leads mid x o → r ≡ leads old x (acting more o)
leads_behind old more mid x o r e f = f ∙ ap (λ l. leads l x o) e ∙ sym (leads_more more old x o)

pub acts_first : {E : Type 0} (r : Result (Option Reading) E) (old more mid new : List Action) (x : Token) (o p : Option Move) → mid ≡ old ++ more → o ≡ p
    → IfOk r (λ next. reached next new ≡ leads mid x o) → IfOk r (λ next. reached next new ≡ leads old x (acting more p))
acts_first (Ok next) old more mid new x o p e f h = leads_behind old more mid x p (reached next new) e (h ∙ ap (leads mid x) f)
acts_first (Err fault) old more mid new x o p e f h = tt

-- a sign that stands between no two sides there sets off a part
pub joins_not : {E : Type 0} (r : Result (Option Reading) E) (base : Sort) (m : Mark) (q : Lowered) (old new : List Action) (x : Token) → parts.is_joined base m q.2 ≡ false
    → IfOk r (λ next. reached next new ≡ leads old x (parts.separate base m q)) → IfOk r (λ next. reached next new ≡ leads old x (parts.join base m q))
joins_not (Ok next) base m q old new x e h = h ∙ ap (leads old x) (sym (ap (λ c. if c then (if nat_le (left_of m) q.0 then Some ((Operand, Over (Left m) (parts.top base q.2) ∷ q.2), parts.adds_nothing) else None) else parts.separate base m q) e))
joins_not (Err fault) base m q old new x e h = tt

pub same_move : {E : Type 0} (r : Result (Option Reading) E) (old new : List Action) (x : Token) (o p : Option Move) → o ≡ p → IfOk r (λ next. reached next new ≡ leads old x o) → IfOk r (λ next. reached next new ≡ leads old x p)
same_move (Ok next) old new x o p e h = h ∙ ap (leads old x) e
same_move (Err fault) old new x o p e h = tt
