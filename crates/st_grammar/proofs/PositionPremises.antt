-- Hints and premises are read as themselves.
use Rattle.std.proofs.Common.{◌≡◌, ◌≤◌, List, [], ◌∷◌, ◌++◌, length, Bool, true, false, not, ◌&&◌, ◌==◌, Option, Some, None, option_and_then, if◌then◌else◌, refl, sym, ap, subst, ◌∙◌, append_assoc, append-nil, arith}
use Rattle.std.specs.List.{AllByRecursion}
use Rattle.st_num.specs.declared.token.Token.{Token}
use Rattle.st_grammar.specs.declared.keyword.Keyword.{Keyword}
use Rattle.st_grammar.specs.declared.keyword.Keyword.TheVariants.{SyntaxWord as syntax_word, RelationWord as relation_word, RuleWord as rule_word, VarWord as var_word, DefWord as def_word, HintWord as hint_word, IfWord as if_word, OtherwiseWord as otherwise_word, Dashes as dashes, NoWord as no_word}
use Rattle.st_grammar.specs.declared.sort.Bracket.{Bracket}
use Rattle.st_grammar.specs.declared.sort.Closing.TheVariants.{ByRound as by_round}
use Rattle.st_grammar.specs.declared.sort.Sort.{Sort}
use Rattle.st_grammar.specs.declared.sort.Sort.TheVariants.{Expression as expression, Arithmetic as arithmetic, Notation as notation, Typ as typ, Count as count, Bound as bound}
use Rattle.st_grammar.specs.Terminals.{Terminal, leaf, dot, sign, opening, closing, other}
use Rattle.st_grammar.specs.Levels.{is_iteration_sign, is_caret, is_colon}
use Rattle.st_grammar.specs.Trees.{Tree, text}
use Rattle.st_grammar.specs.Grammar.{Fits}
use Rattle.st_grammar.specs.Definitions.{keyword, signed, opens_round, names_relation, is_name, scan, balance_step, Hint, hint, hint_text, Hints, no_hints, more_hints, hints_text, HintsFit, Iterations, no_iterations, closed, marked, counted, iterations_text, closings, has_closed, wants_iteration, IterationsFit, CondFits, Premise, default, given, premise_text, OpensRound, Premises, no_premises, more_premises, premises_text, PremisesFit, Defs}
use Rattle.st_grammar.specs.Positions.{Rule, Host, Slot, rule_slot, cond_slot, count_slot, slot_sort, Position, between, hinted, hint_open, hint_name, hint_words, premised, premise_open, goal_colon, iterated, at, rule_whole, is_whole, whole, begin_def, begun, when, host_step, hint_or, hint_step, premise_word, next_premise, own, first_of_two, filled, finish, reading, reads}
use Rattle.st_num.specs.declared.mark.Mark.TheVariants as mark
use Rattle.st_grammar.specs.Definitions.{mark_keyword, HintFits, PremiseFits}
use Rattle.st_grammar.proofs.Complete.{grip}
use Rattle.st_grammar.proofs.PositionSteps.{signed_is}
use Rattle.st_grammar.proofs.PositionEnds.{same_is, differs, both_true}
use Rattle.st_grammar.proofs.PositionParts.{at_caret, at_close, at_open, at_dashes, at_word, is_reserved, mix_no_word, own_step, when_step, Stops, slot_read}

-- ---- hints

pub words_read : (h : Host) (hs : Hints) (w o n : Terminal) (ws us : List Terminal) (ks js : List Bracket) (v : List Terminal) → scan balance_step ks ws ≡ Some js
    → reads (at (hint_words h hs w o n us ks)) (ws ++ v) ≡ reads (at (hint_words h hs w o n (us ++ ws) js)) v
words_read h hs w o n [] us ks js v e =
    let same : ks ≡ js = cc in
    ap (λ q. reads (at (hint_words h hs w o n us q)) v) same ∙ ap (λ q. reads (at (hint_words h hs w o n q js)) v) (sym (append-nil us))
words_read h hs w o n (l ∷ ws) us ks js v e = go (balance_step ks l) refl e (λ ds k. words_read h hs w o n ws (us ++ l ∷ []) ds js v k)
  where
    go : (q : Option (List Bracket)) → balance_step ks l ≡ q → option_and_then (λ r. scan balance_step r ws) q ≡ Some js
        → ((ds : List Bracket) → scan balance_step ds ws ≡ Some js → reads (at (hint_words h hs w o n (us ++ l ∷ []) ds)) (ws ++ v) ≡ reads (at (hint_words h hs w o n ((us ++ l ∷ []) ++ ws) js)) v)
        → reads (at (hint_words h hs w o n us ks)) (l ∷ (ws ++ v)) ≡ reads (at (hint_words h hs w o n (us ++ l ∷ ws) js)) v
    go None i k rest = absurd (cc)
    go (Some ds) i k rest =
        own_step (hint_words h hs w o n us ks) l (at (hint_words h hs w o n (us ++ l ∷ []) ds)) (ws ++ v) (ap (hint_step h hs w o n us ks l) i)
        ∙ rest ds k
        ∙ ap (λ q. reads (at (hint_words h hs w o n q js)) v) (append_assoc us (l ∷ []) ws)

pub hint_read : (h : Host) (hs : Hints) (k : Hint) (v : List Terminal) → HintFits k → reads (at (hinted h hs)) (hint_text k ++ v) ≡ reads (at (hinted h (more_hints hs k))) v
hint_read h hs (hint w o n ws c) v f =
    own_step (hinted h hs) w (at (hint_open h hs w)) (o ∷ n ∷ ((ws ++ c ∷ []) ++ v)) (ap (λ k. hint_or k h hs w) f.0)
    ∙ when_step (hint_open h hs w) o (opens_round o) (at (hint_name h hs w o)) (n ∷ ((ws ++ c ∷ []) ++ v)) refl f.1
    ∙ when_step (hint_name h hs w o) n (is_name n) (at (hint_words h hs w o n [] [])) ((ws ++ c ∷ []) ++ v) refl f.2
    ∙ ap (reads (at (hint_words h hs w o n [] []))) (append_assoc ws (c ∷ []) v)
    ∙ words_read h hs w o n ws [] [] [] (c ∷ v) f.3
    ∙ own_step (hint_words h hs w o n ws []) c (at (hinted h (more_hints hs (hint w o n ws c)))) v
    (subst (λ l. own (hint_words h hs w o n ws []) l ≡ Some (at (hinted h (more_hints hs (hint w o n ws l))))) (sym (at_close c f.4).1) refl)

pub hints_read : (h : Host) (hs : Hints) (v : List Terminal) → HintsFit hs → reads (at (hinted h no_hints)) (hints_text hs ++ v) ≡ reads (at (hinted h hs)) v
hints_read h no_hints v f = refl
hints_read h (more_hints hs k) v f =
    ap (reads (at (hinted h no_hints))) (append_assoc (hints_text hs) (hint_text k) v)
    ∙ hints_read h hs (hint_text k ++ v) f.0
    ∙ hint_read h hs k v f.1

pub hint_stops : (σ : Sort) (k : Hint) (v : List Terminal) → HintFits k → Stops σ (hint_text k ++ v)
hint_stops σ (hint w o n ws c) v f = subst (λ l. grip σ l ≡ 0) (sym (at_word w (ap is_reserved f.0)).1) refl

pub hints_stop : (σ : Sort) (hs : Hints) (v : List Terminal) → HintsFit hs → Stops σ v → Stops σ (hints_text hs ++ v)
hints_stop σ no_hints v f s = s
hints_stop σ (more_hints hs k) v f s = subst (Stops σ) (sym (append_assoc (hints_text hs) (hint_text k) v)) (hints_stop σ hs (hint_text k ++ v) f.0 (hint_stops σ k v f.1))

-- a part with its hints
pub hinted_read : (s : Slot) (h : Host) (t : Tree) (hs : Hints) (v : List Terminal) → ((u : Tree) → u ≡ t → filled s u ≡ hinted h no_hints) → Fits (slot_sort s) t → HintsFit hs → Stops (slot_sort s) v
    → reads (begun s) (text t ++ (hints_text hs ++ v)) ≡ reads (at (hinted h hs)) v
hinted_read s h t hs v e f g k =
    slot_read s t (hints_text hs ++ v) f (hints_stop (slot_sort s) hs v g k)
    ∙ ap (λ p. reads (at p) (hints_text hs ++ v)) (e t refl)
    ∙ hints_read h hs v g

-- ---- what follows a definition

abbrev pub is_def_word : Keyword → Bool
is_def_word syntax_word = true
is_def_word relation_word = true
is_def_word rule_word = true
is_def_word var_word = true
is_def_word def_word = true
is_def_word k = false

-- nothing, or the word of a definition
abbrev pub Turns : List Terminal → Type 0
Turns [] = Unit {0}
Turns (l ∷ w) = is_def_word (keyword l) ≡ true

pub def_word_reserved : (k : Keyword) → is_def_word k ≡ true → is_reserved k ≡ true
def_word_reserved syntax_word e = refl
def_word_reserved relation_word e = refl
def_word_reserved rule_word e = refl
def_word_reserved var_word e = refl
def_word_reserved def_word e = refl
def_word_reserved hint_word e = refl
def_word_reserved if_word e = refl
def_word_reserved otherwise_word e = refl
def_word_reserved dashes e = absurd (cc)
def_word_reserved no_word e = absurd (cc)

pub turns_stop : (σ : Sort) (w : List Terminal) → Turns w → Stops σ w
turns_stop σ [] t = tt
turns_stop σ (l ∷ w) t = subst (λ k. grip σ k ≡ 0) (sym (at_word l (def_word_reserved (keyword l) t)).1) refl

-- Nothing of the position itself begins with the word of a definition.
abbrev pub Leaves : Position → Type 0
Leaves p = (x : Token) → is_def_word (keyword (other x)) ≡ true → own p (other x) ≡ None

pub turn_read : (p : Position) (ds : Defs) (w : List Terminal) → whole p ≡ Some ds → Leaves p → Turns w → reads (at p) w ≡ reads (at (between ds)) w
turn_read p ds [] e n t = e
turn_read p ds (l ∷ w) e n t =
    let k = at_word l (def_word_reserved (keyword l) t) in
    let none : own p l ≡ None = subst (λ j. own p j ≡ None) (sym k.1) (n k.0 (subst (λ j. is_def_word (keyword j) ≡ true) k.1 t)) in
    ap (λ o. option_and_then finish (option_and_then (λ next. reading next w) (first_of_two o (option_and_then (λ js. begin_def js l (keyword l)) (whole p))))) none
    ∙ ap (λ o. option_and_then finish (option_and_then (λ next. reading next w) (option_and_then (λ js. begin_def js l (keyword l)) o))) e

abbrev pub LeavesHost : Host → Hints → Type 0
LeavesHost h hs = (x : Token) → host_step h hs (other x) ≡ None

pub hinted_leaves : (h : Host) (hs : Hints) → LeavesHost h hs → Leaves (hinted h hs)
hinted_leaves h hs n x e = go (keyword (other x)) e
  where
    go : (k : Keyword) → is_def_word k ≡ true → hint_or k h hs (other x) ≡ None
    go syntax_word i = n x
    go relation_word i = n x
    go rule_word i = n x
    go var_word i = n x
    go def_word i = n x
    go hint_word i = absurd (cc)
    go if_word i = n x
    go otherwise_word i = n x
    go dashes i = n x
    go no_word i = n x

pub no_premise : (r : Rule) (t : Tree) (ps : Premises) (l : Terminal) → is_def_word (keyword l) ≡ true → next_premise (keyword l) r t ps l ≡ None
no_premise r t ps l e = go (keyword l) e
  where
    go : (k : Keyword) → is_def_word k ≡ true → next_premise k r t ps l ≡ None
    go syntax_word i = refl
    go relation_word i = refl
    go rule_word i = refl
    go var_word i = refl
    go def_word i = refl
    go hint_word i = refl
    go if_word i = refl
    go otherwise_word i = refl
    go dashes i = absurd (cc)
    go no_word i = refl

-- ---- premises

-- where these premises lead to
abbrev pub premises_place : Rule → Tree → Premises → Position
premises_place r t no_premises = premised r t no_premises
premises_place r t (more_premises ps (default d o)) = premised r t (more_premises ps (default d o))
premises_place r t (more_premises ps (given d os ls u i)) = iterated r t ps d os ls u i

pub whole_given : (os : List Terminal) (i : Iterations) → closings i ≡ length os → wants_iteration i ≡ false → is_whole os i ≡ true
whole_given os i e f = both_true (closings i == length os) (not (wants_iteration i)) (same_is (closings i) (length os) e) (ap not f)

pub next_read : (r : Rule) (t : Tree) (ps : Premises) (d : Terminal) (w : List Terminal) → PremisesFit ps → keyword d ≡ dashes
    → reads (at (premises_place r t ps)) (d ∷ w) ≡ reads (at (premise_open r t ps d [])) w
next_read r t no_premises d w f e = own_step (premised r t no_premises) d (at (premise_open r t no_premises d [])) w (ap (λ k. next_premise k r t no_premises d) e)
next_read r t (more_premises ps (default c o)) d w f e =
    own_step (premised r t (more_premises ps (default c o))) d (at (premise_open r t (more_premises ps (default c o)) d [])) w (ap (λ k. next_premise k r t (more_premises ps (default c o)) d) e)
next_read r t (more_premises ps (given c os ls u i)) d w f e =
    own_step (iterated r t ps c os ls u i) d (at (premise_open r t (more_premises ps (given c os ls u i)) d [])) w
    (subst (λ l. own (iterated r t ps c os ls u i) l ≡ Some (at (premise_open r t (more_premises ps (given c os ls u i)) l []))) (sym (at_dashes d e).1)
    (ap (λ b. if b then Some (at (premise_open r t (more_premises ps (given c os ls u i)) (sign mark.DashDash (at_dashes d e).0) [])) else None) (whole_given os i f.1.5 f.1.6)))

pub premises_turn : (r : Rule) (t : Tree) (ps : Premises) (w : List Terminal) → PremisesFit ps → Turns w → reads (at (premises_place r t ps)) w ≡ reads (at (between (rule_whole r t ps))) w
premises_turn r t no_premises w f n = turn_read (premised r t no_premises) (rule_whole r t no_premises) w refl (λ x e. no_premise r t no_premises (other x) e) n
premises_turn r t (more_premises ps (default d o)) w f n =
    turn_read (premised r t (more_premises ps (default d o))) (rule_whole r t (more_premises ps (default d o))) w refl (λ x e. no_premise r t (more_premises ps (default d o)) (other x) e) n
premises_turn r t (more_premises ps (given d os ls u i)) w f n =
    let b = whole_given os i f.1.5 f.1.6 in
    turn_read (iterated r t ps d os ls u i) (rule_whole r t (more_premises ps (given d os ls u i))) w
    (ap (λ c. if c then Some (rule_whole r t (more_premises ps (given d os ls u i))) else None) b)
    (λ x e. ap (λ c. if c then next_premise (keyword (other x)) r t (more_premises ps (given d os ls u i)) (other x) else None) b ∙ no_premise r t (more_premises ps (given d os ls u i)) (other x) e) n

pub opens_read : (r : Rule) (t : Tree) (ps : Premises) (d : Terminal) (os us : List Terminal) (v : List Terminal) → AllByRecursion OpensRound os
    → reads (at (premise_open r t ps d us)) (os ++ v) ≡ reads (at (premise_open r t ps d (us ++ os))) v
opens_read r t ps d [] us v f = ap (λ q. reads (at (premise_open r t ps d q)) v) (sym (append-nil us))
opens_read r t ps d (o ∷ os) us v f =
    own_step (premise_open r t ps d us) o (at (premise_open r t ps d (us ++ o ∷ []))) (os ++ v)
    (subst (λ l. own (premise_open r t ps d us) l ≡ Some (at (premise_open r t ps d (us ++ l ∷ [])))) (sym (at_open o f.0).1) refl)
    ∙ opens_read r t ps d os (us ++ o ∷ []) v f.1
    ∙ ap (λ q. reads (at (premise_open r t ps d q)) v) (append_assoc us (o ∷ []) os)

pub goal_step : (r : Rule) (t : Tree) (ps : Premises) (d : Terminal) (os : List Terminal) (n : Terminal) → names_relation n ≡ true → own (premise_open r t ps d os) n ≡ Some (at (goal_colon r t ps d os n))
goal_step r t ps d os (leaf k x) e = ap (λ b. when b (at (goal_colon r t ps d os (leaf k x)))) e
goal_step r t ps d os (dot x) e = absurd (cc)
goal_step r t ps d os (sign m x) e = absurd (cc)
goal_step r t ps d os (opening k x) e = absurd (cc)
goal_step r t ps d os (closing c x) e = absurd (cc)
goal_step r t ps d os (other x) e = ap (λ k. premise_word k r t ps d os (other x)) (mix_no_word x.kind e) ∙ ap (λ b. when b (at (goal_colon r t ps d os (other x)))) e

pub cond_read : (r : Rule) (t : Tree) (ps : Premises) (d : Terminal) (os ls v : List Terminal) → CondFits ls → reads (at (premise_open r t ps d os)) (ls ++ v) ≡ reads (begun (cond_slot r t ps d os ls)) v
cond_read r t ps d os [] v f = absurd f
cond_read r t ps d os (l ∷ []) v f = own_step (premise_open r t ps d os) l (begun (cond_slot r t ps d os (l ∷ []))) v (ap (λ k. premise_word k r t ps d os l) f)
cond_read r t ps d os (n ∷ c ∷ []) v f =
    own_step (premise_open r t ps d os) n (at (goal_colon r t ps d os n)) (c ∷ v) (goal_step r t ps d os n f.0)
    ∙ when_step (goal_colon r t ps d os n) c (signed is_colon c) (begun (cond_slot r t ps d os (n ∷ c ∷ []))) v refl f.1
cond_read r t ps d os (n ∷ c ∷ l ∷ ls) v f = absurd f

pub iterations_stop : (σ : Sort) (i : Iterations) (v : List Terminal) → IterationsFit i → has_closed i ≡ true → Stops σ (iterations_text i ++ v)
iterations_stop σ no_iterations v f e = absurd (cc)
iterations_stop σ (closed no_iterations l) v f e = subst (λ k. grip σ k ≡ 0) (sym (at_close l f.2).1) refl
iterations_stop σ (closed (closed i k) l) v f e = subst (Stops σ) (sym (append_assoc (iterations_text (closed i k)) (l ∷ []) v)) (iterations_stop σ (closed i k) (l ∷ v) f.0 refl)
iterations_stop σ (closed (marked i k) l) v f e = subst (Stops σ) (sym (append_assoc (iterations_text (marked i k)) (l ∷ []) v)) (iterations_stop σ (marked i k) (l ∷ v) f.0 refl)
iterations_stop σ (closed (counted i k c) l) v f e = subst (Stops σ) (sym (append_assoc (iterations_text (counted i k c)) (l ∷ []) v)) (iterations_stop σ (counted i k c) (l ∷ v) f.0 refl)
iterations_stop σ (marked i l) v f e = subst (Stops σ) (sym (append_assoc (iterations_text i) (l ∷ []) v)) (iterations_stop σ i (l ∷ v) f.0 f.1)
iterations_stop σ (counted i l c) v f e = subst (Stops σ) (sym (append_assoc (iterations_text i) (l ∷ text c) v)) (iterations_stop σ i (l ∷ (text c ++ v)) f.0 f.1)

pub iterations_end : (σ : Sort) (i : Iterations) (v : List Terminal) → IterationsFit i → Stops σ v → Stops σ (iterations_text i ++ v)
iterations_end σ no_iterations v f s = s
iterations_end σ (closed i l) v f s = iterations_stop σ (closed i l) v f refl
iterations_end σ (marked i l) v f s = iterations_stop σ (marked i l) v f refl
iterations_end σ (counted i l c) v f s = iterations_stop σ (counted i l c) v f refl

pub iterations_read : (r : Rule) (t : Tree) (ps : Premises) (d : Terminal) (os ls : List Terminal) (u : Tree) (i : Iterations) (v : List Terminal) → IterationsFit i → closings i ≤ length os → Stops count v
    → reads (at (iterated r t ps d os ls u no_iterations)) (iterations_text i ++ v) ≡ reads (at (iterated r t ps d os ls u i)) v
iterations_read r t ps d os ls u no_iterations v f h s = refl
iterations_read r t ps d os ls u (closed i l) v f h s =
    let c = at_close l f.2 in
    ap (reads (at (iterated r t ps d os ls u no_iterations))) (append_assoc (iterations_text i) (l ∷ []) v)
    ∙ iterations_read r t ps d os ls u i (l ∷ v) f.0 (omega arith) (subst (λ k. grip count k ≡ 0) (sym c.1) refl)
    ∙ own_step (iterated r t ps d os ls u i) l (at (iterated r t ps d os ls u (closed i l))) v
    (subst (λ k. own (iterated r t ps d os ls u i) k ≡ Some (at (iterated r t ps d os ls u (closed i k)))) (sym c.1)
    (ap (λ b. if b then Some (at (iterated r t ps d os ls u (closed i (closing by_round c.0)))) else if is_whole os i then None else None)
    (both_true _ _ (ap not (differs (closings i) (length os) (omega arith))) (ap not f.1))))
iterations_read r t ps d os ls u (marked i l) v f h s =
    let m = signed_is is_iteration_sign l f.2 in
    ap (reads (at (iterated r t ps d os ls u no_iterations))) (append_assoc (iterations_text i) (l ∷ []) v)
    ∙ iterations_read r t ps d os ls u i (l ∷ v) f.0 h (subst (λ k. grip count k ≡ 0) (sym m.2) refl)
    ∙ own_step (iterated r t ps d os ls u i) l (at (iterated r t ps d os ls u (marked i l))) v
    (subst (λ k. own (iterated r t ps d os ls u i) k ≡ Some (at (iterated r t ps d os ls u (marked i k)))) (sym m.2)
    (ap (λ b. if b then Some (at (iterated r t ps d os ls u (marked i (sign m.0 m.1)))) else if is_caret m.0 && has_closed i then Some (begun (count_slot r t ps d os ls u i (sign m.0 m.1))) else if is_whole os i then next_premise (mark_keyword m.0) r t (more_premises ps (given d os ls u i)) (sign m.0 m.1) else None)
    (both_true _ _ m.3 f.1)))
iterations_read r t ps d os ls u (counted i l c) v f h s =
    let m = at_caret l f.2 in
    ap (reads (at (iterated r t ps d os ls u no_iterations))) (append_assoc (iterations_text i) (l ∷ text c) v)
    ∙ iterations_read r t ps d os ls u i (l ∷ (text c ++ v)) f.0 h (subst (λ k. grip count k ≡ 0) (sym m.1) refl)
    ∙ own_step (iterated r t ps d os ls u i) l (begun (count_slot r t ps d os ls u i l)) (text c ++ v)
    (subst (λ k. own (iterated r t ps d os ls u i) k ≡ Some (begun (count_slot r t ps d os ls u i k))) (sym m.1)
    (ap (λ b. if b then Some (begun (count_slot r t ps d os ls u i (sign mark.Caret m.0))) else if is_whole os i then None else None) f.1))
    ∙ slot_read (count_slot r t ps d os ls u i l) c v f.3 s

-- what may follow a premise
abbrev pub Follows : List Terminal → Type 0
Follows v = (σ : Sort) → Stops σ v

pub dashes_stop : (d : Terminal) (v : List Terminal) → keyword d ≡ dashes → Follows (d ∷ v)
dashes_stop d v e σ = subst (λ l. grip σ l ≡ 0) (sym (at_dashes d e).1) (go σ)
  where
    x : Token
    x = (at_dashes d e).0

    go : (τ : Sort) → grip τ (sign mark.DashDash (at_dashes d e).0) ≡ 0
    go (expression b) = refl
    go arithmetic = refl
    go notation = refl
    go typ = refl
    go count = refl
    go bound = refl

pub premise_read : (r : Rule) (t : Tree) (ps : Premises) (p : Premise) (v : List Terminal) → PremisesFit ps → PremiseFits p → Follows v
    → reads (at (premises_place r t ps)) (premise_text p ++ v) ≡ reads (at (premises_place r t (more_premises ps p))) v
premise_read r t ps (default d o) v g f n =
    next_read r t ps d (o ∷ v) g f.0
    ∙ own_step (premise_open r t ps d []) o (at (premised r t (more_premises ps (default d o)))) v (ap (λ k. premise_word k r t ps d [] o) f.1)
premise_read r t ps (given d os ls u i) v g f n =
    next_read r t ps d ((os ++ (ls ++ (text u ++ iterations_text i))) ++ v) g f.0
    ∙ ap (reads (at (premise_open r t ps d []))) (append_assoc os (ls ++ (text u ++ iterations_text i)) v)
    ∙ opens_read r t ps d os [] ((ls ++ (text u ++ iterations_text i)) ++ v) f.1
    ∙ ap (reads (at (premise_open r t ps d os))) (append_assoc ls (text u ++ iterations_text i) v)
    ∙ cond_read r t ps d os ls ((text u ++ iterations_text i) ++ v) f.2
    ∙ ap (reads (begun (cond_slot r t ps d os ls))) (append_assoc (text u) (iterations_text i) v)
    ∙ slot_read (cond_slot r t ps d os ls) u (iterations_text i ++ v) f.3 (iterations_end (expression false) i v f.4 (n (expression false)))
    ∙ iterations_read r t ps d os ls u i v f.4 (omega (arith, f.5)) (n count)

pub premise_follows : (p : Premise) (v : List Terminal) → PremiseFits p → Follows (premise_text p ++ v)
premise_follows (default d o) v f = dashes_stop d (o ∷ v) f.0
premise_follows (given d os ls u i) v f = dashes_stop d ((os ++ (ls ++ (text u ++ iterations_text i))) ++ v) f.0

pub premises_read : (r : Rule) (t : Tree) (ps : Premises) (v : List Terminal) → PremisesFit ps → Follows v → reads (at (premised r t no_premises)) (premises_text ps ++ v) ≡ reads (at (premises_place r t ps)) v
premises_read r t no_premises v f n = refl
premises_read r t (more_premises ps p) v f n =
    ap (reads (at (premised r t no_premises))) (append_assoc (premises_text ps) (premise_text p) v)
    ∙ premises_read r t ps (premise_text p ++ v) f.0 (premise_follows p v f.1)
    ∙ premise_read r t ps p v f.0 f.1 n

pub premises_stop : (ps : Premises) (v : List Terminal) → PremisesFit ps → Follows v → Follows (premises_text ps ++ v)
premises_stop no_premises v f n σ = n σ
premises_stop (more_premises ps p) v f n σ = subst (Stops σ) (sym (append_assoc (premises_text ps) (premise_text p) v)) (premises_stop ps (premise_text p ++ v) f.0 (premise_follows p v f.1) σ)

pub turns_follow : (w : List Terminal) → Turns w → Follows w
turns_follow w t σ = turns_stop σ w t

pub rule_read : (r : Rule) (t : Tree) (ps : Premises) (w : List Terminal) → Fits (expression false) t → PremisesFit ps → Turns w
    → reads (begun (rule_slot r)) ((text t ++ premises_text ps) ++ w) ≡ reads (at (between (rule_whole r t ps))) w
rule_read r t ps w f g n =
    ap (reads (begun (rule_slot r))) (append_assoc (text t) (premises_text ps) w)
    ∙ slot_read (rule_slot r) t (premises_text ps ++ w) f (premises_stop ps w g (turns_follow w n) (expression false))
    ∙ premises_read r t ps w g (turns_follow w n)
    ∙ premises_turn r t ps w g n
