-- What the parser keeps gives the verdict on expressions: each is read as the conclusion of a rule.
use Rattle.std.proofs.Common.{◌≡◌, ℕ, List, [], ◌∷◌, ◌++◌, Bool, true, false, ◌&&◌, Option, Some, None, option_and_then, if◌then◌else◌, refl, sym, ap, ◌∙◌}
use Rattle.st_num.specs.declared.mark.Mark.{Mark}
use Rattle.st_num.specs.declared.mark.Mark.TheVariants as mark
use Rattle.st_num.specs.declared.rule.RuleId.TheVariants.{S1, S4}
use Rattle.st_num.specs.declared.span.Span.{Span}
use Rattle.st_scan.specs.Spelling.{has_lower}
use Rattle.st_num.specs.declared.word.Word.TheVariants as word
use Rattle.st_num.specs.declared.token.Token.{Token}
use Rattle.st_num.specs.declared.token.TokenKind.{TokenKind}
use Rattle.st_num.specs.declared.token.TokenKind.TheVariants as kind
use Rattle.st_grammar.specs.declared.sort.Leaf.TheVariants.{Variable as variable, Atom as atom}
use Rattle.st_grammar.specs.declared.sort.Bracket.{Bracket}
use Rattle.st_grammar.specs.declared.sort.Bracket.TheVariants.{Dollar as dollar}
use Rattle.st_grammar.specs.declared.sort.Sort.{Sort}
use Rattle.st_grammar.specs.declared.sort.Sort.TheVariants.{Expression as expression, Arithmetic as arithmetic, Notation as notation, Typ as typ, Count as count, Bound as bound}
use Rattle.st_grammar.specs.Terminals.{Terminal, terminal, kind_terminal, is_variable, leaf, dot, sign, opening, closing, other}
use Rattle.st_grammar.specs.Levels.{is_comma, inside}
use Rattle.st_grammar.specs.Trees.{Tree, Heading, plain, length, arguments, index, segment, update, below, more}
use Rattle.st_grammar.specs.Grammar.{sort_in}
use Rattle.st_grammar.specs.Definitions.{signed, no_defs, no_premises}
use Rattle.st_grammar.specs.Reading as part
use Rattle.st_grammar.specs.Positions as positions
use Rattle.st_grammar.specs.Positions.{Slot, rule_slot, rule_head, premised}
use Rattle.st_grammar.proofs.Completions.{token_of}
use Rattle.st_grammar.proofs.PositionComplete as complete
use Rattle.st_grammar.proofs.PositionSteps.{signed_is}
use Rattle.st_grammar.proofs.PositionTexts as texts
use Rattle.st_grammar.proofs.Sound as sound
use Rattle.st_parse_automaton.specs.inner.DefinitionAutomaton as definitions
use Rattle.st_parse_automaton.specs.inner.Shapes.{class_of}
use Rattle.st_parse_automaton.proofs.DefinitionView.{definitions_of}
use Rattle.st_parse_automaton.proofs.DefinitionSimulation.{may_end_is, is_some}
use Rattle.st_parse_automaton.proofs.Loop as loop
use Rattle.st_parse_faults.specs.declared.before.Before.TheVariants as before
use Rattle.st_parse_faults.specs.inner.Counts.{no_counts}
use Rattle.st_parse_faults.specs.inner.LeftOut.{is_type_in, type_or_other, before_next, left_out}
use Rattle.st_parse_faults.specs.inner.Folding as defs
use Rattle.st_parse_faults.specs.inner.Seen as judging
use Rattle.st_parse_faults.proofs.SeenView as view
use Rattle.st_parse.specs.inner.ExpressionReading.{begun, turn, goes, step}
use Rattle.st_parse_faults.specs.inner.Judging.{TokenVerdict, passed, broken, limited}
use Rattle.st_parse.specs.inner.ExpressionFolding.{Seen, opens_too_many, passes_limit, refusal, seen_after, judged, judge}
use Rattle.st_parse.specs.inner.ExpressionSeen as spec
use Rattle.st_parse.proofs.ExpressionReadings.{comma_ends}

-- ---- the rule

abbrev rule_word : Terminal
rule_word = other (token_of (kind.Reserved word.Rule))

abbrev rule_name : Terminal
rule_name = other (token_of (kind.Mix (65 ∷ [])))

abbrev rule_colon : Terminal
rule_colon = sign mark.Colon (token_of (kind.Sign mark.Colon))

abbrev front : List Terminal
front = rule_word ∷ rule_name ∷ rule_colon ∷ []

abbrev pub slot : Slot
slot = rule_slot (rule_head no_defs rule_word rule_name [] rule_colon)

lift : (st last : part.State) (w : List Terminal) → part.reading st w ≡ Some last → positions.reading (positions.inside slot st) w ≡ Some (positions.inside slot last)
lift st last [] e = let is : st ≡ last = cc in ap (λ s. Some (positions.inside slot s)) is
lift st last (l ∷ w) e = go (part.step st l) (λ next. lift next last w) e
  where
    go : (o : Option part.State) → ((next : part.State) → part.reading next w ≡ Some last → positions.reading (positions.inside slot next) w ≡ Some (positions.inside slot last))
        → option_and_then (λ next. part.reading next w) o ≡ Some last
        → option_and_then (λ next. positions.reading next w) (positions.taken slot st l o) ≡ Some (positions.inside slot last)
    go None k e = absurd (cc)
    go (Some next) k e = k next e

-- a part of the tokens is read in order as the conclusion of the rule
pub rule_holds : (st : part.State) (w : List Terminal) → part.reading (part.start (expression false)) w ≡ Some st → texts.Holds (positions.inside slot st)
rule_holds st w e =
    loop.holds (front ++ w) (positions.inside slot st)
    (complete.reading_append positions.start front w ∙ lift (part.start (expression false)) st w e)

abbrev pub as_rule : Seen → defs.Seen
as_rule s = record { state = positions.inside slot s.state.here; nesting = s.nesting; counts = no_counts }

abbrev pub summary_of : Seen → judging.Summary
summary_of s = view.summary (as_rule s)

abbrev pub verdict_view : TokenVerdict Seen → judging.TokenVerdict
verdict_view (passed s) = judging.passed (summary_of s)
verdict_view (broken r) = judging.broken r

-- ---- no type stands in an expression

abbrev is_plain : Sort → Bool
is_plain notation = false
is_plain typ = false
is_plain σ = true

plain_bracket : (σ : Sort) (k : Bracket) → is_plain σ ≡ true → is_plain (inside σ k) ≡ true
plain_bracket σ dollar e = refl
plain_bracket arithmetic k e = refl
plain_bracket (expression b) k e = refl
plain_bracket count k e = refl
plain_bracket bound k e = refl
plain_bracket notation k e = absurd (cc)
plain_bracket typ k e = absurd (cc)

plain_in : (σ : Sort) (h : Heading) → is_plain σ ≡ true → is_plain (sort_in σ h) ≡ true
plain_in σ (plain k o) e = plain_bracket σ k e
plain_in σ (length o) e = refl
plain_in σ (arguments f o) e = refl
plain_in σ (index t o) e = refl
plain_in σ (segment p o) e = refl
plain_in σ (update p m x) e = refl
plain_in σ (below o i m x) e = refl

plain_sort : (fs : part.Frames) → is_plain (sound.base fs) ≡ true → is_plain (part.sort fs) ≡ true
plain_sort (part.bottom σ) e = e
plain_sort (part.within h ts pre fs) e = plain_in (part.sort fs) h (plain_sort fs e)
plain_sort (part.over g fs) e = plain_sort fs e
plain_sort (part.timing t m x fs) e = refl

no_type : (σ : Sort) (t : Tree) → is_plain σ ≡ true → is_type_in σ t ≡ false
no_type (expression b) t e = refl
no_type arithmetic t e = refl
no_type notation t e = absurd (cc)
no_type typ t e = absurd (cc)
no_type count t e = refl
no_type bound t e = refl

before_is : (st : part.State) → texts.Holds (positions.inside slot st) → before_next (positions.inside slot st) ≡ before.Other
before_is (part.got t fs) h = ap type_or_other (no_type (part.sort fs) t (plain_sort fs (ap is_plain h.2)))
before_is (part.want fs) h = refl
before_is (part.naming k ts pre fs) h = refl
before_is (part.pathed p fs) h = refl
before_is (part.indexing o fs) h = refl
before_is (part.comparing o i fs) h = refl

refusal_is : (s : Seen) (x : Token) → texts.Holds (positions.inside slot s.state.here) → judging.broken (defs.refusal (as_rule s) x) ≡ judging.broken (refusal s x)
refusal_is s x h = ap (λ b. judging.broken (if left_out b s.nesting x.kind then S4 else S1)) (before_is s.state.here h)

-- ---- a token that goes on with an expression

limited_is : (s : Seen) (b c : Bool) → spec.alone (view.view (limited b c (as_rule s))) ≡ verdict_view (limited b c s)
limited_is s true c = refl
limited_is s false true = refl
limited_is s false false = refl

-- ---- a token behind a whole expression

abbrev Behind : Seen → Tree → Token → Terminal → Type 0
Behind s t x l =
    texts.Holds (positions.inside slot s.state.here)
    → spec.alone (view.view (defs.judged (as_rule s) x l (positions.position_step (premised (rule_head no_defs rule_word rule_name [] rule_colon) t no_premises) l))) ≡ judging.broken (refusal s x)

abbrev token : Span → Bool → TokenKind → Token
token a b k = record { at = a; touching = b; kind = k }

-- The words and the sign that go on with a rule or begin a definition are left out of no grammar.
behind_kind : (names : List (List ℕ)) (s : Seen) (t : Tree) (a : Span) (b : Bool) (k : TokenKind) → Behind s t (token a b k) (kind_terminal names k (token a b k))
behind_kind names s t a b (kind.Low name) h = refusal_is s (token a b (kind.Low name)) h
behind_kind names s t a b (kind.Up name) h = go (is_variable names name)
  where
    x : Token
    x = token a b (kind.Up name)

    go : (v : Bool)
        → spec.alone (view.view (defs.judged (as_rule s) (token a b (kind.Up name)) (if v then leaf variable (token a b (kind.Up name)) else leaf atom (token a b (kind.Up name)))
        (positions.position_step (premised (rule_head no_defs rule_word rule_name [] rule_colon) t no_premises) (if v then leaf variable (token a b (kind.Up name)) else leaf atom (token a b (kind.Up name))))))
        ≡ judging.broken (refusal s (token a b (kind.Up name)))
    go true = refusal_is s (token a b (kind.Up name)) h
    go false = refusal_is s (token a b (kind.Up name)) h
behind_kind names s t a b (kind.Mix name) h = refusal_is s (token a b (kind.Mix name)) h
behind_kind names s t a b (kind.Number n) h = refusal_is s (token a b (kind.Number n)) h
behind_kind names s t a b (kind.Text text) h = refusal_is s (token a b (kind.Text text)) h
behind_kind names s t a b (kind.Fun name) h = refusal_is s (token a b (kind.Fun name)) h
behind_kind names s t a b (kind.Dot name) h = go (has_lower name)
  where
    go : (v : Bool)
        → spec.alone (view.view (defs.judged (as_rule s) (token a b (kind.Dot name)) (if v then other (token a b (kind.Dot name)) else dot (token a b (kind.Dot name)))
        (positions.position_step (premised (rule_head no_defs rule_word rule_name [] rule_colon) t no_premises) (if v then other (token a b (kind.Dot name)) else dot (token a b (kind.Dot name))))))
        ≡ judging.broken (refusal s (token a b (kind.Dot name)))
    go true = refusal_is s (token a b (kind.Dot name)) h
    go false = refusal_is s (token a b (kind.Dot name)) h
behind_kind names s t a b (kind.Reserved word.Syntax) h = refl
behind_kind names s t a b (kind.Reserved word.Relation) h = refl
behind_kind names s t a b (kind.Reserved word.Rule) h = refl
behind_kind names s t a b (kind.Reserved word.Var) h = refl
behind_kind names s t a b (kind.Reserved word.Def) h = refl
behind_kind names s t a b (kind.Reserved w) h = refusal_is s (token a b (kind.Reserved w)) h
behind_kind names s t a b (kind.Sign mark.DashDash) h = refl
behind_kind names s t a b (kind.Sign m) h = refusal_is s (token a b (kind.Sign m)) h

behind : (names : List (List ℕ)) (s : Seen) (t : Tree) (x : Token) → Behind s t x (terminal names x)
behind names s t x = behind_kind names s t x.at x.touching x.kind

-- ---- verdicts

comma_is : (l : Terminal) → definitions.signed is_comma (class_of l) ≡ signed is_comma l
comma_is (leaf k x) = refl
comma_is (dot x) = refl
comma_is (sign m x) = refl
comma_is (opening k x) = refl
comma_is (closing c x) = refl
comma_is (other x) = refl

ends_is : (q : Option Tree) → is_some (option_and_then (λ t. positions.whole (positions.filled slot t)) q) ≡ is_some q
ends_is None = refl
ends_is (Some t) = refl

pub separates_is : (s : Seen) (l : Terminal) → texts.Holds (positions.inside slot s.state.here)
    → spec.separates (definitions_of (positions.inside slot s.state.here)) (class_of l) ≡ (signed is_comma l && is_some (part.finish s.state.here))
separates_is s l h =
    ap (λ b. b && definitions.may_end (definitions_of (positions.inside slot s.state.here))) (comma_is l)
    ∙ ap (λ b. signed is_comma l && b) (may_end_is (positions.inside slot s.state.here) h ∙ ends_is (part.finish s.state.here))

abbrev Judged : List (List ℕ) → Seen → Token → Type 0
Judged names s x = spec.judge (summary_of s) x.kind (class_of (terminal names x)) ≡ verdict_view (judge names s x)

-- no comma behind a whole expression
goes_on : (names : List (List ℕ)) (s : Seen) (x : Token) → texts.Holds (positions.inside slot s.state.here) → (signed is_comma (terminal names x) && is_some (part.finish s.state.here)) ≡ false
    → Judged names s x
goes_on names s x h e =
    ap (λ b. if b then judging.passed (spec.begun (summary_of s)) else spec.alone (judging.judge (summary_of s) x.kind (class_of (terminal names x)))) (separates_is s (terminal names x) h ∙ e)
    ∙ ap spec.alone (view.judge_is names (as_rule s) x h)
    ∙ go (part.step s.state.here (terminal names x)) (part.finish s.state.here) refl e
  where
    comma : (l : Terminal) (t : Tree) (b : Bool) → signed is_comma l ≡ b → (b && true) ≡ false
        → judging.broken (refusal s x) ≡ verdict_view (judged s x l (if b then Some (begun (more s.state.before s.state.apart t) (l ∷ [])) else None))
    comma l t true i e = absurd (cc)
    comma l t false i e = refl

    go : (o : Option part.State) (q : Option Tree) → part.finish s.state.here ≡ q → (signed is_comma (terminal names x) && is_some (part.finish s.state.here)) ≡ false
        → spec.alone (view.view (defs.judged (as_rule s) x (terminal names x) (positions.taken slot s.state.here (terminal names x) o))) ≡ verdict_view (judged s x (terminal names x) (goes s.state (terminal names x) o))
    go (Some next) q i e =
        let after = seen_after s (terminal names x) (record { before = s.state.before; apart = s.state.apart; here = next }) in
        limited_is after (opens_too_many after (terminal names x)) (passes_limit after)
    go None None i e =
        ap (λ r. spec.alone (view.view (defs.judged (as_rule s) x (terminal names x) (option_and_then (λ t. positions.position_step (positions.filled slot t) (terminal names x)) r)))) i
        ∙ refusal_is s x h
        ∙ sym (ap (λ r. verdict_view (judged s x (terminal names x) (turn s.state (terminal names x) r))) i)
    go None (Some t) i e =
        ap (λ r. spec.alone (view.view (defs.judged (as_rule s) x (terminal names x) (option_and_then (λ u. positions.position_step (positions.filled slot u) (terminal names x)) r)))) i
        ∙ behind names s t x h
        ∙ comma (terminal names x) t (signed is_comma (terminal names x)) refl (ap (λ r. signed is_comma (terminal names x) && is_some r) (sym i) ∙ e)
        ∙ sym (ap (λ r. verdict_view (judged s x (terminal names x) (turn s.state (terminal names x) r))) i)

-- a comma behind a whole expression
comma_turns : (s : Seen) (x : Token) (l : Terminal) (m : Mark) (y : Token) (t : Tree) → l ≡ sign m y → is_comma m ≡ true → part.finish s.state.here ≡ Some t
    → verdict_view (judged s x l (step s.state l)) ≡ judging.passed (spec.begun (summary_of s))
comma_turns s x l m y t i e f =
    ap (λ k. verdict_view (judged s x k (step s.state k))) i
    ∙ ap (λ o. verdict_view (judged s x (sign m y) (goes s.state (sign m y) o))) (comma_ends m y s.state.here t e f)
    ∙ ap (λ q. verdict_view (judged s x (sign m y) (turn s.state (sign m y) q))) f
    ∙ ap (λ b. verdict_view (judged s x (sign m y) (if b then Some (begun (more s.state.before s.state.apart t) (sign m y ∷ [])) else None))) e

turns : (names : List (List ℕ)) (s : Seen) (x : Token) (t : Tree) → texts.Holds (positions.inside slot s.state.here) → part.finish s.state.here ≡ Some t → signed is_comma (terminal names x) ≡ true
    → Judged names s x
turns names s x t h f e =
    let l = terminal names x in
    let c = signed_is is_comma l e in
    ap (λ b. if b then judging.passed (spec.begun (summary_of s)) else spec.alone (judging.judge (summary_of s) x.kind (class_of l)))
    (separates_is s l h ∙ ap (λ q. signed is_comma l && is_some q) f ∙ ap (λ b. b && true) e)
    ∙ sym (comma_turns s x l c.0 c.1 t c.2 c.3 f)

pub and_false : (b : Bool) → (b && false) ≡ false
and_false true = refl
and_false false = refl

pub judge_is : (names : List (List ℕ)) (s : Seen) (x : Token) → texts.Holds (positions.inside slot s.state.here) → Judged names s x
judge_is names s x h = go (part.finish s.state.here) refl (signed is_comma (terminal names x)) refl
  where
    go : (q : Option Tree) → part.finish s.state.here ≡ q → (b : Bool) → signed is_comma (terminal names x) ≡ b → Judged names s x
    go None f b e = goes_on names s x h (ap (λ q. signed is_comma (terminal names x) && is_some q) f ∙ and_false (signed is_comma (terminal names x)))
    go (Some t) f true e = turns names s x t h f e
    go (Some t) f false e = goes_on names s x h (ap (λ b. b && is_some (part.finish s.state.here)) e)

-- The expressions may end here.
pub may_end_as : (s : Seen) → texts.Holds (positions.inside slot s.state.here) → definitions.may_end (definitions_of (positions.inside slot s.state.here)) ≡ is_some (part.finish s.state.here)
may_end_as s h = may_end_is (positions.inside slot s.state.here) h ∙ ends_is (part.finish s.state.here)
