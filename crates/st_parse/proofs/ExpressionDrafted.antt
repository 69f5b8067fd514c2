-- What is built while the tokens of expressions are read.
use Rattle.std.proofs.Common.{◌≡◌, ℕ, List, [], ◌∷◌, ◌++◌, Bool, true, false, ◌&&◌, Option, Some, None, Result, Ok, Err, IfOk, option_and_then, option_map, if◌then◌else◌, refl, sym, ap, subst, ◌∙◌, append_assoc, append-nil, arith}
use Rattle.st_num.specs.declared.token.Token.{Token}
use Rattle.st_grammar.specs.declared.sort.Sort.TheVariants.{Expression as expression}
use Rattle.st_grammar.specs.Terminals.{Terminal, terminal}
use Rattle.st_grammar.specs.Levels.{is_comma}
use Rattle.st_grammar.specs.Trees.{Tree, more}
use Rattle.st_grammar.specs.Grammar.{Fits}
use Rattle.st_grammar.specs.Definitions.{signed, token_in}
use Rattle.st_grammar.specs.Reading as part
use Rattle.st_grammar.proofs.TerminalTokens.{terminal_token}
use Rattle.st_grammar.proofs.Steps as steps
use Rattle.st_grammar.proofs.Completions as completions
use Rattle.st_grammar.proofs.PositionSteps.{signed_is}
use Rattle.st_el.specs.declared.expression.Exp.{Exp}
use Rattle.st_grammar.specs.declared.action.Action.{Action}
use Rattle.st_parse_builder.specs.Meaning.{meaning, meanings}
use Rattle.st_parse_builder.specs.Heights.{height}
use Rattle.st_grammar.specs.inner.Actions.{acts}
use Rattle.st_parse_builder.specs.inner.Entries.{exp_part}
use Rattle.st_parse_builder.proofs.PartLemmas.{by_tree}
use Rattle.st_grammar.specs.inner.Emission as emission
use Rattle.st_parse_builder.proofs.Tallness.{highest_behind}
use Rattle.st_parse_automaton.specs.declared.part_automaton.Expected.TheVariants.{Operand}
use Rattle.st_parse_automaton.specs.inner.PartAutomaton as parts
use Rattle.st_parse_automaton.specs.declared.part_automaton.Part.{Part}
use Rattle.st_parse_automaton.specs.declared.position.Advance.{Advance}
use Rattle.st_parse_automaton.specs.declared.position.Advance.TheVariants as advances
use Rattle.st_parse_automaton.specs.declared.position.TokenClass.{TokenClass}
use Rattle.st_parse_automaton.specs.declared.position.Slot.TheVariants as slots
use Rattle.st_parse_automaton.specs.declared.position.Position.TheVariants as positions
use Rattle.st_parse_automaton.specs.inner.DefinitionAutomaton as definitions
use Rattle.st_parse_automaton.specs.inner.Readings.{progress_of}
use Rattle.st_parse_faults.specs.declared.judge.Seen.{Seen as CodeSeen}
use Rattle.st_parse_faults.specs.declared.judge.TokenVerdict.TheVariants as code
use Rattle.st_grammar.specs.declared.sort.Bracket.{Bracket}
use Rattle.st_grammar.specs.declared.keyword.Keyword.{Keyword}
use Rattle.st_grammar.specs.declared.keyword.Keyword.TheVariants as key
use Rattle.st_parse_automaton.specs.inner.Shapes.{shape}
use Rattle.st_parse_automaton.proofs.View.{state_of}
use Rattle.st_parse_automaton.proofs.Simulation.{Agree, moves_are, agreed}
use Rattle.st_parse_automaton.proofs.DefinitionSimulation.{is_some}
use Rattle.st_parse_automaton.specs.inner.PartAutomaton.{finishing, followed, emissions}
use Rattle.st_parse_automaton.proofs.Emissions.{part_emits}
use Rattle.st_parse.specs.inner.ExpressionReading.{State, begun, turn, goes, step, start}
use Rattle.st_parse_faults.specs.inner.Judging.{passed, limited}
use Rattle.st_parse.specs.inner.ExpressionFolding.{Seen, opens_too_many, passes_limit, seen_after, judged, judge}
use Rattle.st_parse.specs.inner.ExpressionDrafts.{IsBuilt, AreBuilt, with_exp, draft, with_actions, Completes, Ends, Turns, Takes}
use Rattle.st_parse.specs.declared.expression_draft.ExpressionReader.{ExpressionReader as Draft}
use Rattle.st_parse.specs.inner.ExpressionSeen.{is_inside, Adds}
use Rattle.st_parse.proofs.ExpressionReadings.{at, comma_ends}

-- ---- one more expression

pub one_more_built : (es : List Exp) (e : Exp) (old : Option (List Exp)) (built : Option Exp) → AreBuilt es old → IsBuilt e built → AreBuilt (es ++ e ∷ []) (with_exp old built)
one_more_built es e (Some fs) (Some f) a b =
    (ap (λ l. l ++ f ∷ []) a.0 ∙ ap (λ g. es ++ g ∷ []) b.0, omega (arith, highest_behind height es e, a.1, b.1))
one_more_built es e (Some fs) None a b = omega (arith, highest_behind height es e, b)
one_more_built es e None o a b = omega (arith, highest_behind height es e, a)

-- the tree of an expression, where it is not too high
pub built_is : (e : Exp) (from : ℕ) (o : Option Exp) → o ≡ (exp_part from e).tree → IsBuilt e o
built_is e from o is =
    by_tree from (height e) e
    (λ low i. subst (IsBuilt e) (sym (is ∙ i)) (refl, low))
    (λ tall i. subst (IsBuilt e) (sym (is ∙ i)) tall)

-- ---- an expression that ends

pub completes : {A E : Type 0} (r : Result A E) (old mid new : Draft) → mid ≡ old → IfOk r (λ v. new.actions ≡ [])
    → ((t : Tree) (es : List Exp) → Fits (expression false) t → acts t ≡ mid.actions → AreBuilt es mid.exps → IfOk r (λ v. AreBuilt (es ++ meaning t ∷ []) new.exps))
    → IfOk r (λ v. Completes old new)
completes (Ok v) old mid new e p q = record {
  actions = p;
  exps = λ t es f h a. q t es f (h ∙ ap (λ (d : Draft). d.actions) (sym e)) (subst (λ (d : Draft). AreBuilt es d.exps) (sym e) a);
}
completes (Err fault) old mid new e p q = tt

-- ---- what a token adds

abbrev Between : Option definitions.State → Type 0
Between None = Unit {0}
Between (Some st) = is_inside st ≡ false

-- no part begins directly behind a conclusion
behind_rule : (ks : List Bracket) (k : Keyword) → Between (definitions.first_of_two (definitions.next_premise k ks) (definitions.begin_def k ks))
behind_rule ks key.SyntaxWord = refl
behind_rule ks key.RelationWord = refl
behind_rule ks key.RuleWord = refl
behind_rule ks key.VarWord = refl
behind_rule ks key.DefWord = refl
behind_rule ks key.HintWord = tt
behind_rule ks key.IfWord = tt
behind_rule ks key.OtherwiseWord = tt
behind_rule ks key.Dashes = refl
behind_rule ks key.NoWord = tt

-- a token that goes on with an expression adds what the part says
pub goes_adds : (st : parts.State) (ks : List Bracket) (l : TokenClass) (x : Token) (a : Advance) (next : definitions.State) (added : List Action)
    → definitions.advanced x (definitions.advance (definitions.inside slots.Rule st ks) l) ≡ Some (a, next, added) → is_inside next ≡ true
    → (a ≡ advances.On slots.Rule) × (added ≡ parts.emits (expression false) st l.shape x)
goes_adds st ks l x a next added e i = go (parts.step (expression false) st l.shape) (parts.finish st) e
  where
    stood : (o : Option definitions.State) (how : Advance) (ends : List Action) → Between o → definitions.advanced x (definitions.stands how (λ y. ends) o) ≡ Some (a, next, added) → ⊥
    stood None how ends b f = absurd (cc)
    stood (Some last) how ends b f =
        let is : Some last ≡ Some next = ap (option_map (λ (q : Advance × definitions.State × List Action). q.1)) f in
        let same : last ≡ next = cc in
        let no : is_inside next ≡ false = ap is_inside (sym same) ∙ b in
        absurd (cc)

    go : (o : Option parts.Move) (q : Option Part) → definitions.advanced x (definitions.taken slots.Rule ks o (definitions.behind_part slots.Rule l ks (parts.finishing st) q)) ≡ Some (a, next, added) → (a ≡ advances.On slots.Rule) × (added ≡ parts.added x o)
    go (Some m) q f =
        let how : Some (advances.On slots.Rule) ≡ Some a = ap (option_map (λ (r : Advance × definitions.State × List Action). r.0)) f in
        let is : Some (m.1 x) ≡ Some added = ap (option_map (λ (r : Advance × definitions.State × List Action). r.2)) f in
        (cc, cc)
    go None None f = absurd (cc)
    go None (Some p) f = absurd (stood (definitions.position_step positions.Premised l ks) _ (parts.finishing st) (behind_rule ks l.keyword) f)

-- what a token makes of a draft, by how it stands and what it adds
pub takes : (b : Bool) (st : parts.State) (ks : List Bracket) (l : TokenClass) (x : Token) (q : CodeSeen) (a : Advance) (added : List Action) (d e : Draft)
    → Adds b (definitions.inside slots.Rule st ks) l x (code.Passed q a added) → Turns a (with_actions added d) e → Takes b st l.shape x d e
takes true st ks l x q a added d e h n =
    subst (λ acts. Completes (with_actions acts d) e) h.1 (subst (λ how. Turns how (with_actions added d) e) h.0 n)
takes false st ks l x q a added d e h n =
    let went = goes_adds st ks l x a (progress_of q.progress) added h.0 h.1 in
    let same : e ≡ with_actions added d = subst (λ how. Turns how (with_actions added d) e) went.0 n in
    same ∙ ap (λ acts. with_actions acts d) went.1

-- ---- what is built where this much is read

pub record DraftOf (st : State) (d : Draft) : Type 0 where
  pub built : AreBuilt (meanings st.before) d.exps
  pub now : List Terminal
  pub read : part.reading (part.start (expression false)) now ≡ Some st.here
  pub acts : (w : List Terminal) → emissions (expression false) (Operand, []) (now ++ w) ≡ d.actions ++ emissions (expression false) (state_of st.here) w

start_drafted : DraftOf start (draft (Some []) [])
start_drafted = record { built = (refl, omega arith); now = []; read = refl; acts = λ w. refl }

pub starts : (d : Draft) → d ≡ draft (Some []) [] → DraftOf start d
starts d e = subst (DraftOf start) (sym e) start_drafted

part_steps : (st : State) (d : Draft) (l : Terminal) (next : part.State) → DraftOf st d → part.step st.here l ≡ Some next
    → (m : parts.Move) × (parts.step (expression false) (state_of st.here) (shape l) ≡ Some m) × (m.0 ≡ state_of next) × (m.1 (token_in l) ≡ emission.emitted st.here l)
part_steps st d l next r e =
    let p = steps.reached_by (expression false) r.now st.here r.read in
    agreed (token_in l) (emission.emitted st.here l) (parts.step (expression false) (state_of st.here) (shape l)) (part.step st.here l) next
    (subst (λ σ. Agree (token_in l) (emission.emitted st.here l) (parts.step σ (state_of st.here) (shape l)) (part.step st.here l)) p.based (moves_are st.here l p.holds)) e

followed_added : (f : parts.State → List Action) (x : Token) (o : Option parts.Move) (m : parts.Move) → o ≡ Some m → followed f x o ≡ parts.added x o ++ f m.0
followed_added f x o m e = ap (followed f x) e ∙ ap (λ acts. acts ++ f m.0) (sym (ap (parts.added x) e))

goes_on : (st : State) (d : Draft) (l : Terminal) (next : part.State) → DraftOf st d → part.step st.here l ≡ Some next
    → DraftOf (at st.before st.apart next) (draft d.exps (d.actions ++ parts.emits (expression false) (state_of st.here) (shape l) (token_in l)))
goes_on st d l next r e =
    let σ = expression false in
    let added = parts.emits σ (state_of st.here) (shape l) (token_in l) in
    let m = part_steps st d l next r e in
    record {
      built = r.built;
      now = r.now ++ l ∷ [];
      read =
          completions.reading_append (part.start σ) r.now (l ∷ [])
          ∙ ap (option_and_then (λ s. part.reading s (l ∷ []))) r.read
          ∙ ap (option_and_then (λ s. Some s)) e;
      acts = λ w.
          ap (emissions σ (Operand, [])) (append_assoc r.now (l ∷ []) w)
          ∙ r.acts (l ∷ w)
          ∙ ap (λ o. d.actions ++ o) (followed_added (λ later. emissions σ later w) (token_in l) (parts.step σ (state_of st.here) (shape l)) m.0 m.1 ∙ ap (λ v. added ++ emissions σ v w) m.2)
          ∙ sym (append_assoc d.actions added (emissions σ (state_of next) w));
    }

-- the actions of an expression that ends
pub end_acts : (st : State) (d : Draft) (t : Tree) → DraftOf st d → part.finish st.here ≡ Some t → acts t ≡ d.actions ++ finishing (state_of st.here)
end_acts st d t r e =
    part_emits (expression false) r.now t (ap (option_and_then part.finish) r.read ∙ e)
    ∙ ap (emissions (expression false) (Operand, [])) (sym (append-nil r.now))
    ∙ r.acts []

turns : (st : State) (d e : Draft) (l : Terminal) (t : Tree) → DraftOf st d → part.finish st.here ≡ Some t → Ends (state_of st.here) d e → DraftOf (begun (more st.before st.apart t) (l ∷ [])) e
turns st d e l t r f n =
    let p = steps.sound (expression false) r.now st.here t r.read f in
    record {
      built = n.exps t (meanings st.before) p.fits (end_acts st d t r f) r.built;
      now = [];
      read = refl;
      acts = λ w. ap (λ done. done ++ emissions (expression false) (Operand, []) w) (sym n.actions);
    }

-- ---- one token

passes_step : (s : Seen) (x : Token) (l : Terminal) (o : Option State) (last : Seen) → judged s x l o ≡ passed last → o ≡ Some last.state
passes_step s x l None last e = absurd (cc)
passes_step s x l (Some next) last e =
    let t = seen_after s l next in
    go t (opens_too_many t l) (passes_limit t) e
  where
    go : (t : Seen) (b c : Bool) → limited b c t ≡ passed last → Some t.state ≡ Some last.state
    go t true c f = absurd (cc)
    go t false true f = absurd (cc)
    go t false false f = let is : t ≡ last = cc in ap (λ u. Some u.state) is

abbrev Takes_by : State → Terminal → Bool → Draft → Draft → Type 0
Takes_by st l b d e = Takes b (state_of st.here) (shape l) (token_in l) d e

-- a comma behind a whole expression is none of it
whole_turns : (st : State) (l : Terminal) (next : part.State) → part.step st.here l ≡ Some next → (signed is_comma l && is_some (part.finish st.here)) ≡ true → ⊥
whole_turns st l next e b = go (part.finish st.here) refl (signed is_comma l) refl b
  where
    go : (q : Option Tree) → part.finish st.here ≡ q → (c : Bool) → signed is_comma l ≡ c → (signed is_comma l && is_some (part.finish st.here)) ≡ true → ⊥
    go None f c g h = let k : (signed is_comma l && false) ≡ true = ap (λ r. signed is_comma l && is_some r) (sym f) ∙ h in no (signed is_comma l) k
      where
        no : (c : Bool) → (c && false) ≡ true → ⊥
        no true i = absurd (cc)
        no false i = absurd (cc)
    go (Some t) f false g h = let k : (false && is_some (part.finish st.here)) ≡ true = ap (λ r. r && is_some (part.finish st.here)) (sym g) ∙ h in absurd (cc)
    go (Some t) f true g h =
        let s = signed_is is_comma l g in
        let n : part.step st.here l ≡ None = ap (part.step st.here) s.2 ∙ comma_ends s.0 s.1 st.here t s.3 f in
        absurd (cc)

steps_draft : (st last : State) (l : Terminal) (d e : Draft) → DraftOf st d → Takes_by st l (signed is_comma l && is_some (part.finish st.here)) d e → step st l ≡ Some last → DraftOf last e
steps_draft st last l d e r k h = go (part.step st.here l) refl h
  where
    on : (next : part.State) → part.step st.here l ≡ Some next → (b : Bool) → (signed is_comma l && is_some (part.finish st.here)) ≡ b → Takes_by st l b d e → DraftOf (at st.before st.apart next) e
    on next i true j n = absurd (whole_turns st l next i j)
    on next i false j n = subst (DraftOf (at st.before st.apart next)) (sym n) (goes_on st d l next r i)

    comma : (t : Tree) → part.finish st.here ≡ Some t → (b : Bool) → signed is_comma l ≡ b → Takes_by st l (b && true) d e → (if b then Some (begun (more st.before st.apart t) (l ∷ [])) else None) ≡ Some last → DraftOf last e
    comma t f false g n i = absurd (cc)
    comma t f true g n i =
        let is : begun (more st.before st.apart t) (l ∷ []) ≡ last = cc in
        subst (λ v. DraftOf v e) is (turns st d e l t r f n)

    ends : (q : Option Tree) → part.finish st.here ≡ q → turn st l q ≡ Some last → DraftOf last e
    ends None f i = absurd (cc)
    ends (Some t) f i = comma t f (signed is_comma l) refl (subst (λ o. Takes_by st l (signed is_comma l && is_some o) d e) f k) i

    go : (o : Option part.State) → part.step st.here l ≡ o → goes st l o ≡ Some last → DraftOf last e
    go (Some next) i j =
        let is : at st.before st.apart next ≡ last = cc in
        subst (λ v. DraftOf v e) is (on next i (signed is_comma l && is_some (part.finish st.here)) refl k)
    go None i j = ends (part.finish st.here) refl j

pub drafted : (names : List (List ℕ)) (s last : Seen) (x : Token) (d e : Draft) → DraftOf s.state d → judge names s x ≡ passed last
    → Takes (signed is_comma (terminal names x) && is_some (part.finish s.state.here)) (state_of s.state.here) (shape (terminal names x)) x d e
    → DraftOf last.state e
drafted names s last x d e r p k =
    steps_draft s.state last.state (terminal names x) d e r
    (subst (λ y. Takes (signed is_comma (terminal names x) && is_some (part.finish s.state.here)) (state_of s.state.here) (shape (terminal names x)) y d e) (sym (terminal_token names x)) k)
    (passes_step s x (terminal names x) (step s.state (terminal names x)) last p)
