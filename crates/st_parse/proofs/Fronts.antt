-- The tokens before the first one with a fault, and what is found of them.
use Rattle.std.proofs.Common.{◌≡◌, ℕ, ◌≤◌, inl, inr, List, length, take, Option, Some, None, refl, sym, ap, subst, ◌∙◌, arith}
use Rattle.st_num.specs.declared.span.Span.{Span}
use Rattle.st_num.specs.declared.rule.RuleId.TheVariants.{S3}
use Rattle.st_num.specs.declared.token.Token.{Token}
use Rattle.st_grammar.specs.Positions.{State, start, finish, reading}
use Rattle.st_grammar.proofs.PositionTexts.{Holds}
use Rattle.st_parse_automaton.specs.declared.position.Progress.{Progress}
use Rattle.st_parse_automaton.specs.inner.Readings.{progress_of}
use Rattle.st_parse_automaton.specs.Refusal.{terminals_of}
use Rattle.std.proofs.lemmas.Option.{slice_get_within, get_or_from_slice_get}
use Rattle.st_grammar.specs.Terminals.{terminal, declared_names}
use Rattle.st_parse_automaton.specs.inner.Shapes.{class_of}
use Rattle.st_parse_automaton.proofs.DefinitionView.{definitions_of}
use Rattle.st_parse_faults.specs.declared.judge.Seen.{Seen as CodeSeen}
use Rattle.st_parse_faults.specs.declared.judge.TokenVerdict.TheVariants as code
use Rattle.st_parse_faults.specs.declared.fault.TokenFault.{TokenFault}
use Rattle.st_parse_faults.specs.inner.Judging.{passed}
use Rattle.st_parse_faults.specs.inner.Folding.{Seen, verdict, AllPass, FirstBreak}
use Rattle.st_parse_faults.specs.Place.{place_at}
use Rattle.st_parse_faults.proofs.Loop.{passes_holds, token_breaks}
use Rattle.st_parse_faults.proofs.Verdicts.{verdict_reads}
use Rattle.st_parse_faults.proofs.NumberVerdicts.{kept_front}
use Rattle.st_parse_faults.proofs.BrokenFirst.{faultless, first_broken}
use Rattle.st_el.specs.declared.definition.Def.{Def}
use Rattle.st_parse_builder.specs.Definitions.{defs_meaning}
use Rattle.st_parse_builder.specs.Variables.{Occurrence}
use Rattle.st_parse.specs.declared.draft.Draft.{Draft}
use Rattle.st_parse.specs.inner.Heights.{IsLow}
use Rattle.st_parse.specs.inner.Work.{Work, ended_defs, MayClose}
use Rattle.st_parse.proofs.WorkSteps.{state_work}
use Rattle.st_parse.proofs.WorkPositions.{closes}
use Rattle.st_parse.proofs.BeforeLemmas.{stands_before, ended_is}
use Rattle.st_parse.specs.declared.kept.Kept.{Kept}
use Rattle.st_parse.specs.Limits.{variable_past, too_tall, first_that}
use Rattle.st_parse.specs.Open.{open_variables, first_past}
use Rattle.st_parse.specs.Source.{Front, Past, IsParsed, FaultAt}
use Rattle.st_parse.specs.declared.kept.Heights.{Heights}
use Rattle.st_parse.specs.inner.Kept.{Stands, Keeps, Tells}
use Rattle.st_parse.specs.inner.Cuts.{Opens, past_in}
use Rattle.st_parse.specs.inner.Found.{Judged, end_of, Found}
use Rattle.st_parse.specs.inner.Readers.{fault_of, Ends, Stops, at_end, at_token}
use Rattle.st_parse.specs.inner.DefinitionReading.{JudgesToken, TakesToken}
use Rattle.st_parse.specs.declared.parser.DefinitionReader.{DefinitionReader}
use Rattle.st_parse.proofs.Sources.{parsed, meant}
use Rattle.st_parse.proofs.Opens.{opens, past_whole}
use Rattle.st_parse.proofs.Taking.{HasRead, passing, all_read, end_judged, taken_all}

-- ---- fronts

abbrev pub all_of : (tokens : List Token) → AllPass tokens → Front tokens
all_of tokens h = record {
  count = length tokens;
  state = h.0.state;
  read = verdict_reads tokens (length tokens) h.0 h.2;
  kept = kept_front tokens (length tokens) h.0 (omega arith) h.2;
  longest = inl refl;
}

up_to : (tokens : List Token) (f : TokenFault) → FirstBreak tokens f.token f.rule → (front : Front tokens) × (front.count ≡ f.token)
up_to tokens f (inl h) = (
  record {
    count = f.token;
    state = h.1.0.state;
    read = verdict_reads tokens f.token h.1.0 h.1.1;
    kept = kept_front tokens f.token h.1.0 (omega (arith, h.0)) h.1.1;
    longest = inr (f.rule, first_broken tokens f.token f.rule (inl h));
  },
  refl,
)
up_to tokens f (inr h) = (
  record {
    count = f.token;
    state = h.2.0.state;
    read = verdict_reads tokens f.token h.2.0 h.2.1;
    kept = kept_front tokens f.token h.2.0 (omega (arith, h.0)) h.2.1;
    longest = inl h.0;
  },
  refl,
)

front_of : (tokens : List Token) (found : Option TokenFault) → Judged tokens found → (front : Front tokens) × (front.count ≡ end_of tokens found)
front_of tokens None h = (all_of tokens h, refl)
front_of tokens (Some f) h = up_to tokens f h

-- The tokens in front are read in one way.
same_state : (tokens : List Token) (front : Front tokens) (i : ℕ) (s : Seen) → front.count ≡ i → verdict tokens i ≡ passed s → front.state ≡ s.state
same_state tokens front i s e v =
    let both : Some front.state ≡ Some s.state = sym front.read ∙ ap (λ n. reading start (take n (terminals_of tokens))) e ∙ verdict_reads tokens i s v in cc

all_hold : (tokens : List Token) (h : AllPass tokens) → Holds h.0.state
all_hold tokens h = passes_holds tokens (length tokens) h.0 h.2

-- the first variable past the limit, of the definitions that tokens mean
pub parsed_past : (tokens : List Token) (defs : List Def) → IsParsed tokens defs → Past tokens (first_that variable_past defs)
parsed_past tokens defs p =
    let h = faultless tokens p.0 in
    (all_of tokens h, past_whole h.0.state h.1 (all_hold tokens h) h.3 ∙ ap (first_that variable_past) (meant tokens defs p h))

-- ---- what is cut off

found_cut : (tokens : List Token) (found : Option TokenFault) (f : TokenFault) (i : ℕ) (p : CodeSeen) (b : Progress) (old : DefinitionReader) (new : Kept) → found ≡ Some f → Judged tokens found → i ≡ end_of tokens found → HasRead tokens i p old → progress_of b ≡ progress_of p.progress
    → ((w : Work) (vs : List Occurrence) → Keeps old.kept old.parts w → Opens (progress_of b) w vs → new.variables.past ≡ past_in w.draft.defs vs) → Found tokens found new
found_cut tokens found f i p b old new is j e (s, v, o, r) same cut =
    let st : State = s.state in
    let front = front_of tokens found j in
    let there : definitions_of st ≡ progress_of b = ap (λ w. w.state) o ∙ sym same in
    let opened : Opens (progress_of b) (state_work st) (open_variables st) =
    subst (λ a. Opens a (state_work st) (open_variables st)) there (opens st (passes_holds tokens i s v)) in
    record {
      judged = j;
      past = (
        front.0,
        ap first_past (same_state tokens front.0 i s (front.1 ∙ sym e) v)
            ∙ ap (λ defs. past_in defs (open_variables st)) (sym (stands_before st))
            ∙ sym (cut (state_work st) (open_variables st) r opened),
      );
      built = λ none. let never : Some f ≡ None = sym is ∙ none in absurd (cc);
    }

-- ---- what is whole

told_tall : (o : Option Span) (g : Heights) (k d : Draft) → Stands o g k d → IsLow d → o ≡ first_that too_tall d.defs
told_tall None g k d h low = sym h.1
told_tall (Some at) g k d (inl h) low = sym h
told_tall (Some at) g k d (inr h) low = absurd (h.2 low)

told_trees : (o : Option Span) (g : Heights) (k d : Draft) → Stands o g k d → o ≡ None → k.defs ≡ d.defs
told_trees None g k d h none = ap (λ (q : Draft). q.defs) h.0
told_trees (Some at) g k d h none = absurd (cc)

found_all : (tokens : List Token) (h : AllPass tokens) (new : Kept) → Tells new (defs_meaning h.1) → Found tokens None new
found_all tokens h new (d, draws, defs_are, low) =
    let defs = defs_meaning h.1 in
    let past : new.variables.past ≡ first_that variable_past defs = draws.noted.past ∙ ap (first_that variable_past) defs_are in
    record {
      judged = h;
      past = (all_of tokens h, past_whole h.0.state h.1 (all_hold tokens h) h.3 ∙ sym past);
      built = λ none. (
        defs,
        parsed tokens h,
        sym past,
        record {
          tall = told_tall new.tall new.heights new.draft d draws.trees low ∙ ap (first_that too_tall) defs_are;
          trees = λ t. told_trees new.tall new.heights new.draft d draws.trees t ∙ defs_are;
        },
      );
    }

found_whole : (tokens : List Token) (found : Option TokenFault) (i : ℕ) (p : CodeSeen) (old : DefinitionReader) (new : Kept) → found ≡ None → Judged tokens found → i ≡ length tokens → HasRead tokens i p old
    → ((w : Work) (defs : List Def) → Keeps old.kept old.parts w → MayClose (progress_of p.progress) w → ended_defs (progress_of p.progress) w ≡ Some defs → Tells new defs) → Found tokens found new
found_whole tokens found i p old new is j e (s, v, o, r) tells =
    let h : AllPass tokens = subst (Judged tokens) is j in
    let st : State = s.state in
    let same : h.0.state ≡ s.state = same_state tokens (all_of tokens h) i s (sym e) v in
    let held : Holds st = passes_holds tokens i s v in
    let whole : finish st ≡ Some h.1 = ap finish (sym same) ∙ h.3 in
    let there : definitions_of st ≡ progress_of p.progress = ap (λ w. w.state) o in
    let may : MayClose (progress_of p.progress) (state_work st) = subst (λ a. MayClose a (state_work st)) there (closes st h.1 held whole) in
    let ends : ended_defs (progress_of p.progress) (state_work st) ≡ Some (defs_meaning h.1) =
    ap (λ a. ended_defs a (state_work st)) (sym there) ∙ ended_is st h.1 held whole in
    subst (λ q. Found tokens q new) (sym is) (found_all tokens h new (tells (state_work st) (defs_meaning h.1) r may ends))

-- the end of the tokens, which may end early
found_end : (tokens : List Token) (i : ℕ) (p : CodeSeen) (found : Option TokenFault) (old : DefinitionReader) (new : Kept) → length tokens ≤ i → HasRead tokens i p old → found ≡ fault_of tokens (progress_of p.progress)
    → (found ≡ None → (w : Work) (defs : List Def) → Keeps old.kept old.parts w → MayClose (progress_of p.progress) w → ended_defs (progress_of p.progress) w ≡ Some defs → Tells new defs)
    → ((f : TokenFault) → found ≡ Some f → (w : Work) (vs : List Occurrence) → Keeps old.kept old.parts w → Opens (progress_of p.progress) w vs → new.variables.past ≡ past_in w.draft.defs vs) → Found tokens found new
found_end tokens i p found old new h reads is whole cut =
    let all = all_read tokens i p old h reads in
    let j = end_judged tokens i p found h (passing tokens i p old reads) is in
    go all j found refl
  where
    go : HasRead tokens (length tokens) p old → Judged tokens found × (length tokens ≡ end_of tokens found) → (o : Option TokenFault) → found ≡ o → Found tokens found new
    go all j None e = found_whole tokens found (length tokens) p old new e j.0 refl all (whole e)
    go all j (Some f) e = found_cut tokens found f (length tokens) p p.progress old new e j.0 j.1 all refl (cut f e)

-- ---- what is read

abbrev Finishes : Progress → Option TokenFault → DefinitionReader → Kept → Type 0
Finishes last found old new =
    found ≡ None → (w : Work) (defs : List Def) → Keeps old.kept old.parts w → MayClose (progress_of last) w → ended_defs (progress_of last) w ≡ Some defs → Tells new defs

abbrev CutsOff : Progress → Option TokenFault → DefinitionReader → Kept → Type 0
CutsOff last found old new =
    (f : TokenFault) → found ≡ Some f → (w : Work) (vs : List Occurrence) → Keeps old.kept old.parts w → Opens (progress_of last) w vs → new.variables.past ≡ past_in w.draft.defs vs

-- what is found where the tokens end, or where one breaks a rule
found_stop : (tokens : List Token) (names : List (List ℕ)) (k : ℕ) (p : CodeSeen) (last : Progress) (found : Option TokenFault) (old : DefinitionReader) (new : Kept) → names ≡ declared_names tokens → HasRead tokens k p old → Stops JudgesToken names tokens k p last found
    → Finishes last found old new → CutsOff last found old new → Found tokens found new
found_stop tokens names k p last found old new g reads (at_end l q e) whole cut =
    found_end tokens k p found old new (omega (arith, l)) reads (e ∙ ap (λ r. fault_of tokens (progress_of r)) q)
    (subst (λ r. Finishes r found old new) q whole) (subst (λ r. CutsOff r found old new) q cut)
found_stop tokens names k p last found old new g reads (at_token x rule s e j) whole cut =
    let f : TokenFault = record { token = k; rule = rule } in
    let breaks = token_breaks tokens names k x (class_of (terminal names x)) p (code.Broken rule last) rule last (slice_get_within tokens k x s) (passing tokens k p old reads) (sym (get_or_from_slice_get tokens k x x s)) g refl j.value refl in
    found_cut tokens found f k p last old new e (subst (Judged tokens) (sym e) breaks) (ap (end_of tokens) (sym e)) reads j.step (cut f e)

pub found_read : (tokens : List Token) (names : List (List ℕ)) (start : CodeSeen) (begun : DefinitionReader) (last : Progress) (found : Option TokenFault) (old : DefinitionReader) (new : Kept)
    → names ≡ declared_names tokens → HasRead tokens 0 start begun → Ends JudgesToken TakesToken names tokens start begun last found old
    → Finishes last found old new → CutsOff last found old new → Found tokens found new
found_read tokens names start begun last found old new g r ends whole cut =
    found_stop tokens names ends.count ends.known last found old new g (taken_all tokens names start begun g r ends.count ends.known old ends.run) ends.stops whole cut

-- ---- answers

pub many : (tokens : List Token) (found : Option TokenFault) (k : Kept) (at : Span) → Found tokens found k → k.variables.past ≡ Some at → FaultAt tokens at S3
many tokens found k at h e = inl ((h.past.0, h.past.1 ∙ e), refl)

pub token_fault : (tokens : List Token) (found : Option TokenFault) (k : Kept) (f : TokenFault) → Found tokens found k → k.variables.past ≡ None → found ≡ Some f → FaultAt tokens (place_at tokens f.token) f.rule
token_fault tokens found k f h e g = inr (inl ((h.past.0, h.past.1 ∙ e), (f.token, first_broken tokens f.token f.rule (subst (Judged tokens) g h.judged), refl)))
