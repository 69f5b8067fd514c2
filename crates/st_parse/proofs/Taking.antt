-- The loop over the tokens: each is judged, and then taken.
use Rattle.std.proofs.Common.{◌≡◌, ℕ, ◌+◌, ◌≤◌, ◌<◌, List, [], length, take, get_or, Bool, true, false, if◌then◌else◌, Option, Some, None, Result, Ok, Err, IfOk, refl, sym, ap, subst, ◌∙◌}
use Rattle.std.proofs.lemmas.Option.{slice_get_within, get_or_from_slice_get}
use Rattle.st_num.specs.declared.token.Token.{Token}
use Rattle.st_grammar.specs.Terminals.{Terminal, terminal, declared_names}
use Rattle.st_grammar.specs.Definitions.{token_in}
use Rattle.st_grammar.specs.Positions.{step, reading, start}
use Rattle.st_grammar.proofs.TerminalTokens.{terminal_token}
use Rattle.st_parse_automaton.specs.Refusal.{terminals_of}
use Rattle.st_parse_automaton.specs.declared.position.TokenClass.{TokenClass}
use Rattle.st_parse_automaton.specs.declared.position.Advance.{Advance}
use Rattle.st_parse_automaton.specs.declared.position.Progress.{Progress}
use Rattle.st_grammar.specs.declared.action.Action.{Action}
use Rattle.st_parse_automaton.specs.inner.DefinitionAutomaton as definitions
use Rattle.st_parse_automaton.specs.inner.Shapes.{class_of}
use Rattle.st_parse_automaton.specs.inner.Readings.{progress_of}
use Rattle.st_parse_automaton.proofs.DefinitionView.{definitions_of}
use Rattle.st_parse_automaton.proofs.Loop.{last_step, one_more}
use Rattle.st_parse_faults.specs.declared.judge.Seen.{Seen as CodeSeen}
use Rattle.st_parse_faults.specs.declared.judge.TokenVerdict.{TokenVerdict as Code}
use Rattle.st_parse_faults.specs.declared.judge.TokenVerdict.TheVariants as code
use Rattle.st_parse_faults.specs.declared.fault.TokenFault.{TokenFault}
use Rattle.st_parse_faults.specs.inner.Judging.{passed}
use Rattle.st_parse_faults.specs.inner.Folding.{Seen, judge, verdict, nothing_seen}
use Rattle.st_parse_faults.specs.inner.Seen as seen
use Rattle.st_parse_faults.proofs.SeenView.{summary}
use Rattle.st_parse_faults.proofs.JudgingLemmas as judging
use Rattle.st_parse_faults.proofs.Verdicts.{verdict_reads}
use Rattle.st_parse_faults.proofs.Loop.{Passes, passes_holds, token_passes, ends_well, ends_early}
use Rattle.st_el.specs.Plain.{nowhere}
use Rattle.st_parse.specs.inner.Work.{Work, added_work, turned_work, MayTurn}
use Rattle.st_parse.specs.inner.Drafts.{begun}
use Rattle.st_parse.proofs.BeforeLemmas.{nothing_kept}
use Rattle.st_parse.proofs.WorkSteps.{state_work}
use Rattle.st_parse.proofs.WorkPositions.{turns}
use Rattle.st_parse.specs.inner.Kept.{Keeps}
use Rattle.st_parse.specs.inner.Found.{Judged, end_of}
use Rattle.st_parse.specs.inner.Readers.{early_end, fault_of, Runs, none, more}
use Rattle.st_parse.specs.inner.DefinitionReading.{Begins, JudgesToken, TakesToken}
use Rattle.st_parse.specs.declared.parser.DefinitionReader.{DefinitionReader}

-- these tokens passed up to here, and this is kept of them
abbrev pub HasRead : List Token → ℕ → CodeSeen → DefinitionReader → Type 0
HasRead tokens k p d = (s : Seen) × (verdict tokens k ≡ passed s) × (summary s ≡ seen.summary_of p) × Keeps d.kept d.parts (state_work s.state)

pub passing : (tokens : List Token) (k : ℕ) (p : CodeSeen) (d : DefinitionReader) → HasRead tokens k p d → Passes tokens k p
passing tokens k p d (s, e, o, r) = (s, e, o)

-- the state behind the token
stepped : (tokens : List Token) (i : ℕ) (d : Token) (s next : Seen) → i < length tokens → verdict tokens i ≡ passed s → verdict tokens (i + 1) ≡ passed next
    → step s.state (terminal (declared_names tokens) (get_or tokens i d)) ≡ Some next.state
stepped tokens i d s next h e f =
    let us = take i (terminals_of tokens) in
    sym (last_step us (terminal (declared_names tokens) (get_or tokens i d)) s.state (verdict_reads tokens i s e))
    ∙ ap (reading start) (sym (one_more tokens i d h)) ∙ verdict_reads tokens (i + 1) next f

-- Before the first token this is kept.
pub starts : (d : DefinitionReader) → Begins d → Keeps d.kept d.parts (state_work start)
starts d b = record { drawn = b.kept; same = sym (nothing_kept (begun [] nowhere) d.parts refl b.arguments b.actions b.words) }

-- what is made of all works, where there is memory
pub takes_token : {A E : Type 0} (r : Result A E) (a : Advance) (next : Progress) (l : TokenClass) (x : Token) (acts : List Action) (old new : DefinitionReader)
    → ((before after : Work) → Keeps old.kept old.parts before → MayTurn a (progress_of next) (added_work acts before) → turned_work a (progress_of next) l x (added_work acts before) ≡ Some after → IfOk r (λ v. Keeps new.kept new.parts after))
    → IfOk r (λ v. TakesToken a next l x acts old new)
takes_token (Ok v) a next l x acts old new h = h
takes_token (Err e) a next l x acts old new h = tt

pub token_taken : (tokens : List Token) (names : List (List ℕ)) (i : ℕ) (x : Token) (l : TokenClass) (p : CodeSeen) (v : Code) (q : CodeSeen) (a : Advance) (acts : List Action) (old new : DefinitionReader)
    → i < length tokens → HasRead tokens i p old → x ≡ get_or tokens i x → names ≡ declared_names tokens → l ≡ class_of (terminal names x)
    → seen.verdict_of v ≡ seen.judge (seen.summary_of p) x.kind l → seen.Stands (progress_of p.progress) l x v → v ≡ code.Passed q a acts → TakesToken a q.progress l x acts old new
    → HasRead tokens (i + 1) q new
token_taken tokens names i x l p v q a acts old new h (s, e, o, r) t g k f stands c taken =
    let next = token_passes tokens names i x l p v q a acts h (s, e, o) t g k f c in
    let m : Terminal = terminal (declared_names tokens) (get_or tokens i x) in
    let held = passes_holds tokens i s e in
    let on : step s.state m ≡ Some next.0.state = stepped tokens i x s next.0 h e next.1 in
    let before : definitions_of s.state ≡ progress_of p.progress = ap (λ w. w.state) o in
    let after : definitions_of next.0.state ≡ progress_of q.progress = ap (λ w. w.state) next.2 in
    let lex : class_of m ≡ l = ap (λ y. class_of (terminal (declared_names tokens) y)) (sym t) ∙ ap (λ ns. class_of (terminal ns x)) (sym g) ∙ sym k in
    let token : token_in m ≡ x = terminal_token (declared_names tokens) (get_or tokens i x) ∙ sym t in
    let work = added_work acts (state_work s.state) in
    let told : definitions.advanced x (definitions.advance (progress_of p.progress) l) ≡ Some (a, progress_of q.progress, acts) = subst (seen.Stands (progress_of p.progress) l x) c stands in
    let led : definitions.advanced (token_in m) (definitions.advance (definitions_of s.state) (class_of m)) ≡ Some (a, progress_of q.progress, acts) =
    ap (λ y. definitions.advanced y (definitions.advance (definitions_of s.state) (class_of m))) token
    ∙ ap (λ y. definitions.advanced x (definitions.advance y (class_of m))) before
    ∙ ap (λ y. definitions.advanced x (definitions.advance (progress_of p.progress) y)) lex ∙ told in
    let turn = turns s.state m next.0.state a (progress_of q.progress) acts held on led in
    let worked : turned_work a (progress_of q.progress) l x work ≡ Some (state_work next.0.state) =
    ap (λ y. turned_work a y l x work) (sym after)
    ∙ ap (λ y. turned_work a (definitions_of next.0.state) y x work) (sym lex)
    ∙ ap (λ y. turned_work a (definitions_of next.0.state) (class_of m) y work) (sym token)
    ∙ turn.works in
    let may : MayTurn a (progress_of q.progress) work = subst (λ y. MayTurn a y work) after turn.may in
    (next.0, next.1, next.2, taken (state_work s.state) (state_work next.0.state) r may worked)

-- the tokens that one after another passed and were taken
pub taken_all : (tokens : List Token) (names : List (List ℕ)) (start : CodeSeen) (old : DefinitionReader) → names ≡ declared_names tokens → HasRead tokens 0 start old
    → (k : ℕ) (known : CodeSeen) (new : DefinitionReader) → Runs JudgesToken TakesToken names tokens start old k known new → HasRead tokens k known new
taken_all tokens names start old g r k known new (none i e f) =
    subst (HasRead tokens k known) (sym f) (subst (λ s. HasRead tokens k s old) (sym e) (subst (λ n. HasRead tokens n start old) (sym i) r))
taken_all tokens names start old g r k known new (more {k = j} {known = here} {kept = kept} x run i s n) =
    subst (λ m. HasRead tokens m known new) (sym i)
    (token_taken tokens names j x (class_of (terminal names x)) here (code.Passed known n.advance n.added) known n.advance n.added kept new
    (slice_get_within tokens j x s) (taken_all tokens names start old g r j here kept run) (sym (get_or_from_slice_get tokens j x x s)) g refl n.judged.value n.judged.step refl n.taken)

-- ---- the end of the tokens

pub all_read : (tokens : List Token) (i : ℕ) (p : CodeSeen) (d : DefinitionReader) → length tokens ≤ i → HasRead tokens i p d → HasRead tokens (length tokens) p d
all_read tokens i p d h (s, e, o, r) = (s, sym (judging.all_tokens Seen (judge (declared_names tokens)) nothing_seen tokens i h) ∙ e, o, r)

pub end_judged : (tokens : List Token) (i : ℕ) (p : CodeSeen) (found : Option TokenFault) → length tokens ≤ i → Passes tokens i p → found ≡ fault_of tokens (progress_of p.progress) → Judged tokens found × (length tokens ≡ end_of tokens found)
end_judged tokens i p found h r is = go (definitions.may_end (progress_of p.progress)) refl
  where
    go : (b : Bool) → definitions.may_end (progress_of p.progress) ≡ b → Judged tokens found × (length tokens ≡ end_of tokens found)
    go true e =
        let none : found ≡ None = is ∙ ap (λ b. if b then None else Some (early_end tokens)) e in
        (subst (Judged tokens) (sym none) (ends_well tokens i p true h r (sym e) refl), ap (end_of tokens) (sym none))
    go false e =
        let some : found ≡ Some (early_end tokens) = is ∙ ap (λ b. if b then None else Some (early_end tokens)) e in
        (subst (Judged tokens) (sym some) (ends_early tokens i p false h r (sym e) refl), ap (end_of tokens) (sym some))
