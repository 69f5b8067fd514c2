-- The loop over the tokens.
use Rattle.std.proofs.Common.{◌≡◌, ℕ, ◌+◌, ◌≤◌, ◌<◌, inl, inr, List, [], ◌∷◌, ◌++◌, length, take, drop, map, get_or, Bool, true, false, Option, Some, None, option_map, option_and_then, refl, sym, ap, subst, ◌∙◌, arith, append_assoc, if◌then◌else◌}
use Rattle.std.proofs.lemmas.List.{take_more, take_all, drop_more, get_or-map, length-map}
use Rattle.st_num.specs.declared.token.Token.{Token}
use Rattle.st_grammar.specs.Terminals as terminals
use Rattle.st_grammar.specs.Terminals.{terminal, declared_names, names_behind, name_in, is_var}
use Rattle.st_grammar.specs.Definitions.{Defs, ParseDefs, ViableDefs}
use Rattle.st_grammar.specs.Positions.{State, step, finish, reading, start}
use Rattle.st_grammar.proofs.PositionTexts.{Holds}
use Rattle.st_grammar.proofs.PositionReading.{reached_by, sound_defs}
use Rattle.st_grammar.proofs.PositionEnds.{viable}
use Rattle.st_grammar.proofs.PositionComplete.{reading_append, dead_defs, complete_defs}
use Rattle.st_parse_automaton.specs.declared.position.TokenClass.{TokenClass}
use Rattle.st_parse_automaton.specs.declared.position.Progress.{Progress}
use Rattle.st_parse_automaton.specs.declared.position.Step.{Step}
use Rattle.st_parse_automaton.specs.declared.position.Advance.{Advance}
use Rattle.st_grammar.specs.declared.action.Action.{Action}
use Rattle.st_parse_automaton.specs.inner.DefinitionAutomaton as definitions
use Rattle.st_parse_automaton.specs.inner.Shapes.{class_of}
use Rattle.st_parse_automaton.specs.inner.Readings.{progress_of, step_of}
use Rattle.st_parse_automaton.specs.Refusal.{terminals_of, AreDefinitions, RefusedAt}
use Rattle.st_parse_automaton.proofs.DefinitionView.{definitions_of}
use Rattle.st_parse_automaton.proofs.DefinitionSimulation.{led, step_is, may_end_is, is_some}

-- these tokens were read up to here
abbrev pub Follows : List terminals.Terminal → Progress → Type 0
Follows us p = (st : State) × (reading start us ≡ Some st) × (definitions_of st ≡ progress_of p)

pub begins : (us : List terminals.Terminal) (p : Progress) → us ≡ [] → progress_of p ≡ definitions_of start → Follows us p
begins us p e f = subst (λ v. Follows v p) (sym e) (start, refl, sym f)

pub last_step : (us : List terminals.Terminal) (l : terminals.Terminal) (st : State) → reading start us ≡ Some st → reading start (us ++ l ∷ []) ≡ step st l
last_step us l st e = reading_append start us (l ∷ []) ∙ ap (option_and_then (λ next. reading next (l ∷ []))) e ∙ go (step st l)
  where
    go : (o : Option State) → option_and_then (λ next. reading next []) o ≡ o
    go None = refl
    go (Some next) = refl

pub holds : (us : List terminals.Terminal) (st : State) → reading start us ≡ Some st → Holds st
holds us st e = (reached_by us st e).holds

-- one more token is that of the list
pub one_more : (tokens : List Token) (i : ℕ) (d : Token) → i < length tokens
    → take (i + 1) (terminals_of tokens) ≡ take i (terminals_of tokens) ++ terminal (declared_names tokens) (get_or tokens i d) ∷ []
one_more tokens i d h =
    let f = terminal (declared_names tokens) in
    take_more (map f tokens) i (f d) (omega (arith, length-map tokens f))
    ∙ ap (λ l. take i (map f tokens) ++ l ∷ []) (get_or-map f tokens i d (f d) h)

pub taken : (o : Option State) (q : Option Progress) (last : Progress) → option_map progress_of q ≡ option_map definitions_of o → q ≡ Some last → (st : State) × (o ≡ Some st) × (definitions_of st ≡ progress_of last)
taken None q last e f = let never : Some (progress_of last) ≡ None = ap (option_map progress_of) (sym f) ∙ e in absurd (cc)
taken (Some st) q last e f =
    let same : Some (progress_of last) ≡ Some (definitions_of st) = ap (option_map progress_of) (sym f) ∙ e in
    let is : progress_of last ≡ definitions_of st = cc in
    (st, refl, sym is)

pub refused : (o : Option State) (q : Option Progress) → option_map progress_of q ≡ option_map definitions_of o → q ≡ None → o ≡ None
refused None q e f = refl
refused (Some st) q e f = let never : None ≡ Some (definitions_of st) = ap (option_map progress_of) (sym f) ∙ e in absurd (cc)

pub goes_on : (tokens : List Token) (i : ℕ) (d : Token) (p : Progress) (next : Option Progress) (last : Progress) → i < length tokens → Follows (take i (terminals_of tokens)) p
    → option_map progress_of next ≡ definitions.step (progress_of p) (class_of (terminal (declared_names tokens) (get_or tokens i d))) → next ≡ Some last
    → Follows (take (i + 1) (terminals_of tokens)) last
goes_on tokens i d p next last h f e n =
    let l = terminal (declared_names tokens) (get_or tokens i d) in
    let us = take i (terminals_of tokens) in
    let same = e ∙ ap (λ s. definitions.step s (class_of l)) (sym f.2) ∙ step_is f.0 l (holds us f.0 f.1) in
    let t = taken (step f.0 l) next last same n in
    (t.0, ap (reading start) (one_more tokens i d h) ∙ last_step us l f.0 f.1 ∙ t.1, t.2)

pub stops : (tokens : List Token) (i : ℕ) (d : Token) (p : Progress) (next : Option Progress) → i < length tokens → Follows (take i (terminals_of tokens)) p
    → option_map progress_of next ≡ definitions.step (progress_of p) (class_of (terminal (declared_names tokens) (get_or tokens i d))) → next ≡ None
    → RefusedAt tokens i
stops tokens i d p next h f e n =
    let l = terminal (declared_names tokens) (get_or tokens i d) in
    let us = take i (terminals_of tokens) in
    let same = e ∙ ap (λ s. definitions.step s (class_of l)) (sym f.2) ∙ step_is f.0 l (holds us f.0 f.1) in
    let none = refused (step f.0 l) next same n in
    inl (h, viable (declared_names tokens) us f.0 f.1, λ v. dead_defs (declared_names tokens) (take (i + 1) (terminals_of tokens)) (ap (reading start) (one_more tokens i d h) ∙ last_step us l f.0 f.1 ∙ none) v)

-- how far the parser has read behind a step
abbrev pub progress_in : Option Step → Option Progress
progress_in None = None
progress_in (Some s) = Some s.progress

pub leads_on : (x : Token) (r : Option Step) (o : Option definitions.Taken) → option_map step_of r ≡ definitions.advanced x o → option_map progress_of (progress_in r) ≡ led o
leads_on x None None e = refl
leads_on x None (Some t) e = absurd (cc)
leads_on x (Some s) None e = absurd (cc)
leads_on x (Some s) (Some t) e = ap (option_map (λ (q : Advance × definitions.State × List Action). q.1)) e

pub step_leads : (r : Option Step) (s : Step) → r ≡ Some s → progress_in r ≡ Some s.progress
step_leads r s e = ap progress_in e

-- the step of the code at the token of the list
pub at_token : (tokens : List Token) (names : List (List ℕ)) (i : ℕ) (x : Token) (l : TokenClass) (p : Progress) (next : Option Progress) → x ≡ get_or tokens i x → names ≡ declared_names tokens → l ≡ class_of (terminal names x)
    → option_map progress_of next ≡ definitions.step (progress_of p) l → option_map progress_of next ≡ definitions.step (progress_of p) (class_of (terminal (declared_names tokens) (get_or tokens i x)))
at_token tokens names i x l p next h n e f =
    f ∙ ap (definitions.step (progress_of p)) (e ∙ ap (λ ns. class_of (terminal ns x)) n ∙ ap (λ y. class_of (terminal (declared_names tokens) y)) h)

pub token_goes_on : (tokens : List Token) (names : List (List ℕ)) (i : ℕ) (x : Token) (l : TokenClass) (p : Progress) (next : Option Step) (last : Step) → i < length tokens → Follows (take i (terminals_of tokens)) p
    → x ≡ get_or tokens i x → names ≡ declared_names tokens → l ≡ class_of (terminal names x) → option_map step_of next ≡ definitions.advanced x (definitions.advance (progress_of p) l) → next ≡ Some last
    → Follows (take (i + 1) (terminals_of tokens)) last.progress
token_goes_on tokens names i x l p next last h f t n e s k =
    goes_on tokens i x p (progress_in next) last.progress h f (at_token tokens names i x l p (progress_in next) t n e (leads_on x next (definitions.advance (progress_of p) l) s)) (step_leads next last k)

pub token_stops : (tokens : List Token) (names : List (List ℕ)) (i : ℕ) (x : Token) (l : TokenClass) (p : Progress) (next : Option Step) → i < length tokens → Follows (take i (terminals_of tokens)) p
    → x ≡ get_or tokens i x → names ≡ declared_names tokens → l ≡ class_of (terminal names x) → option_map step_of next ≡ definitions.advanced x (definitions.advance (progress_of p) l) → next ≡ None
    → RefusedAt tokens i
token_stops tokens names i x l p next h f t n e s k =
    stops tokens i x p (progress_in next) h f (at_token tokens names i x l p (progress_in next) t n e (leads_on x next (definitions.advance (progress_of p) l) s)) (ap progress_in k)

pub whole_list : (tokens : List Token) (i : ℕ) → length tokens ≤ i → take i (terminals_of tokens) ≡ terminals_of tokens
whole_list tokens i h = take_all i (terminals_of tokens) (omega (arith, length-map tokens (terminal (declared_names tokens))))

pub found : (o : Option Defs) → is_some o ≡ true → (ds : Defs) × (o ≡ Some ds)
found None e = absurd (cc)
found (Some ds) e = (ds, refl)

pub not_found : (o : Option Defs) → is_some o ≡ false → o ≡ None
not_found None e = refl
not_found (Some ds) e = absurd (cc)

pub ends_well : (tokens : List Token) (i : ℕ) (p : Progress) (b : Bool) → length tokens ≤ i → Follows (take i (terminals_of tokens)) p → b ≡ definitions.may_end (progress_of p) → b ≡ true → AreDefinitions tokens
ends_well tokens i p b h f e t =
    let us = take i (terminals_of tokens) in
    let yes : is_some (finish f.0) ≡ true = sym (may_end_is f.0 (holds us f.0 f.1)) ∙ ap definitions.may_end f.2 ∙ sym e ∙ t in
    let r = found (finish f.0) yes in
    (r.0, subst (λ v. ParseDefs v r.0) (whole_list tokens i h) (sound_defs us f.0 r.0 f.1 r.1))

pub ends_early : (tokens : List Token) (i : ℕ) (p : Progress) (b : Bool) → length tokens ≤ i → Follows (take i (terminals_of tokens)) p → b ≡ definitions.may_end (progress_of p) → b ≡ false → RefusedAt tokens (length tokens)
ends_early tokens i p b h f e t =
    let us = take i (terminals_of tokens) in
    let same : us ≡ take (length tokens) (terminals_of tokens) = whole_list tokens i h ∙ sym (whole_list tokens (length tokens) (omega arith)) in
    let no : is_some (finish f.0) ≡ false = sym (may_end_is f.0 (holds us f.0 f.1)) ∙ ap definitions.may_end f.2 ∙ sym e ∙ t in
    let none = not_found (finish f.0) no in
    inr (
      refl,
      subst (ViableDefs (declared_names tokens)) same (viable (declared_names tokens) us f.0 f.1),
      λ s.
          let done = complete_defs (terminals_of tokens) s.0 s.1 in
          let nothing : option_and_then finish (reading start (terminals_of tokens)) ≡ None = ap (option_and_then finish) (ap (reading start) (sym (whole_list tokens i h)) ∙ f.1) ∙ none in
          absurd (cc),
    )

-- ---- names behind `var`

pub names_more : (names : List (List ℕ)) (added : List (List ℕ)) (tokens : List Token) (i : ℕ) (d : Token) (b : Bool) → i < length tokens
    → names ++ names_behind b (drop i tokens) ≡ declared_names tokens
    → added ≡ names ++ (if b then name_in (get_or tokens i d).kind else [])
    → added ++ names_behind (is_var (get_or tokens i d).kind) (drop (i + 1) tokens) ≡ declared_names tokens
names_more names added tokens i d b h e f =
    ap (λ ns. ns ++ names_behind (is_var (get_or tokens i d).kind) (drop (i + 1) tokens)) f
    ∙ append_assoc names (if b then name_in (get_or tokens i d).kind else []) (names_behind (is_var (get_or tokens i d).kind) (drop (i + 1) tokens))
    ∙ ap (λ ts. names ++ names_behind b ts) (sym (drop_more tokens i d h))
    ∙ e
