-- What is known of the numbers at a position: what tokens open and close, and what is counted.
use Rattle.std.proofs.Common.{◌≡◌, ℕ, ◌+◌, ◌-◌, List, [], ◌∷◌, ◌++◌, length, Bool, true, false, ◌&&◌, ◌||◌, Option, Some, None, option_and_then, nat_lt, if◌then◌else◌, refl, sym, ap, ◌∙◌, append_assoc, append-nil, arith}
use Rattle.std.specs.List.{list_any}
use Rattle.st_num.specs.declared.mark.Mark.{Mark}
use Rattle.st_num.specs.declared.token.Token.{Token}
use Rattle.st_num.specs.declared.limit.TheConstants.{MOST_DEFINITIONS, MOST_PREMISES, MOST_PARTS, MOST_SIGNS}
use Rattle.st_grammar.specs.declared.keyword.Keyword.{Keyword}
use Rattle.st_grammar.specs.declared.keyword.Keyword.TheVariants as key
use Rattle.st_grammar.specs.declared.sort.Bracket.{Bracket}
use Rattle.st_grammar.specs.declared.sort.Bracket.TheVariants as bracket_of
use Rattle.st_grammar.specs.declared.sort.Closing.TheVariants as closings
use Rattle.st_grammar.specs.declared.sort.Closing.{Closing}
use Rattle.st_grammar.specs.Terminals.{Terminal, leaf, dot, sign, opening, closing, other}
use Rattle.st_grammar.specs.Trees.{Tree, closed_by, agree}
use Rattle.st_grammar.specs.Grammar.{is_label}
use Rattle.st_grammar.specs.Definitions.{keyword, signed, is_bar, opens_round, closes_round, opens_brace, closes_brace, is_low, is_fun, names_relation, is_name, id_step, scan, balance_step, Hints, Members, member, Body, fields, cases, Iterations, closings, given, Premises, more_premises, syntax_def, var_def, relation_def, rule_def, fun_def, clause_def, Defs, no_defs, more_defs}
use Rattle.st_grammar.specs.Positions.{Head, syntax_head, Rule, rule_head, clause_head, Host, of_syntax, of_field, of_case, of_var, of_relation, of_notation, of_fun, Slot, field_slot, case_slot, var_slot, notation_slot, fun_slot, arg_slot, rule_slot, cond_slot, count_slot, Position, between, syntax_name, var_name, var_colon, relation_name, rule_name, rule_colon, fun_name, fun_named, argued, args_closed, syntax_id, rule_id, hinted, hint_open, hint_name, hint_words, entering, dotted, field_name, premised, premise_open, goal_colon, iterated, at, syntax_whole, rule_whole, host_whole, is_whole, whole, filled}
use Rattle.st_grammar.proofs.PositionSteps.{is_same}
use Rattle.st_grammar.proofs.Sound.{and_left}
use Rattle.st_parse_faults.specs.declared.counts.Counts.{Counts}
use Rattle.st_parse_faults.specs.declared.counts.Event.{Event}
use Rattle.st_parse_faults.specs.declared.counts.Event.TheVariants.{Definition, Premise, Member, Iteration, Closed, Nothing}
use Rattle.st_parse_faults.specs.inner.Counts.{member_due, counts_after, counts_pass}
use Rattle.st_parse_faults.specs.Number as number
use Rattle.st_parse_faults.specs.Number.{Number, too_deep, too_many}
use Rattle.st_parse_faults.specs.Numbers.{no_entries, open_entry, numbers}
use Rattle.st_parse_faults.specs.DefinitionNumbers.{members_size, premises_size, defs_size, word_entry, word_numbers, body_numbers, paren_numbers, defs_numbers}
use Rattle.st_parse_faults.specs.Nesting.{nesting_after, brackets_behind}
use Rattle.st_parse_faults.specs.inner.Bars.{may_open}
use Rattle.st_parse_faults.specs.inner.PositionNumbers.{head_numbers, ruled_numbers, slot_numbers, slot_depth, slot_begins, slot_context, position_numbers, position_brackets, counts, last_row, defs_counts, head_number, rule_counts, inner_counts, position_counts}
use Rattle.st_parse_faults.proofs.KeptTallies.{neither}
use Rattle.st_parse_faults.proofs.NumberFacts.{or_false, no_test, first_test, second_test, third_test, fourth_test}

-- ---- tokens

pub no_way : false ≡ true → ⊥
no_way e = absurd (cc)

-- the token is no bracket; bars are none
abbrev pub still : Terminal → Bool
still (opening k x) = false
still (closing closings.ByBar x) = true
still (closing c x) = false
still l = true

pub still_nests : (l : Terminal) (n : ℕ) → still l ≡ true → nesting_after n l ≡ n
still_nests (leaf k x) n e = refl
still_nests (dot x) n e = refl
still_nests (sign m x) n e = refl
still_nests (opening k x) n e = absurd (no_way e)
still_nests (closing closings.ByRound x) n e = absurd (no_way e)
still_nests (closing closings.BySquare x) n e = absurd (no_way e)
still_nests (closing closings.ByBrace x) n e = absurd (no_way e)
still_nests (closing closings.ByBar x) n e = refl
still_nests (other x) n e = refl

-- the token is a word, or `--`
abbrev pub is_word : Keyword → Bool
is_word key.NoWord = false
is_word k = true

pub record Opens (l : Terminal) : Type 0 where
  pub more : (n : ℕ) → nesting_after n l ≡ n + 1
  pub may : may_open l ≡ true
  pub many : (k : ℕ) → word_entry k l ≡ open_entry [] (k + 1)

pub signed_still : (p : Mark → Bool) (l : Terminal) → signed p l ≡ true → still l ≡ true
signed_still p (leaf k x) e = refl
signed_still p (dot x) e = refl
signed_still p (sign m x) e = refl
signed_still p (opening k x) e = absurd (no_way e)
signed_still p (closing closings.ByRound x) e = absurd (no_way e)
signed_still p (closing closings.BySquare x) e = absurd (no_way e)
signed_still p (closing closings.ByBrace x) e = absurd (no_way e)
signed_still p (closing closings.ByBar x) e = refl
signed_still p (other x) e = refl

pub low_still : (l : Terminal) → is_low l ≡ true → still l ≡ true
low_still (leaf k x) e = refl
low_still (dot x) e = refl
low_still (sign m x) e = refl
low_still (opening k x) e = absurd (no_way e)
low_still (closing closings.ByRound x) e = absurd (no_way e)
low_still (closing closings.BySquare x) e = absurd (no_way e)
low_still (closing closings.ByBrace x) e = absurd (no_way e)
low_still (closing closings.ByBar x) e = refl
low_still (other x) e = refl

pub var_still : (l : Terminal) → (is_low l || is_label l) ≡ true → still l ≡ true
var_still (leaf k x) e = refl
var_still (dot x) e = refl
var_still (sign m x) e = refl
var_still (opening k x) e = absurd (no_way e)
var_still (closing closings.ByRound x) e = absurd (no_way e)
var_still (closing closings.BySquare x) e = absurd (no_way e)
var_still (closing closings.ByBrace x) e = absurd (no_way e)
var_still (closing closings.ByBar x) e = refl
var_still (other x) e = refl

pub label_still : (l : Terminal) → is_label l ≡ true → still l ≡ true
label_still (leaf k x) e = refl
label_still (dot x) e = refl
label_still (sign m x) e = refl
label_still (opening k x) e = absurd (no_way e)
label_still (closing closings.ByRound x) e = absurd (no_way e)
label_still (closing closings.BySquare x) e = absurd (no_way e)
label_still (closing closings.ByBrace x) e = absurd (no_way e)
label_still (closing closings.ByBar x) e = refl
label_still (other x) e = refl

pub fun_still : (l : Terminal) → is_fun l ≡ true → still l ≡ true
fun_still (leaf k x) e = refl
fun_still (dot x) e = refl
fun_still (sign m x) e = refl
fun_still (opening k x) e = absurd (no_way e)
fun_still (closing closings.ByRound x) e = absurd (no_way e)
fun_still (closing closings.BySquare x) e = absurd (no_way e)
fun_still (closing closings.ByBrace x) e = absurd (no_way e)
fun_still (closing closings.ByBar x) e = refl
fun_still (other x) e = refl

pub relation_still : (l : Terminal) → names_relation l ≡ true → still l ≡ true
relation_still (leaf k x) e = refl
relation_still (dot x) e = refl
relation_still (sign m x) e = refl
relation_still (opening k x) e = absurd (no_way e)
relation_still (closing closings.ByRound x) e = absurd (no_way e)
relation_still (closing closings.BySquare x) e = absurd (no_way e)
relation_still (closing closings.ByBrace x) e = absurd (no_way e)
relation_still (closing closings.ByBar x) e = refl
relation_still (other x) e = refl

pub name_still : (l : Terminal) → is_name l ≡ true → still l ≡ true
name_still (leaf k x) e = refl
name_still (dot x) e = refl
name_still (sign m x) e = refl
name_still (opening k x) e = absurd (no_way e)
name_still (closing closings.ByRound x) e = absurd (no_way e)
name_still (closing closings.BySquare x) e = absurd (no_way e)
name_still (closing closings.ByBrace x) e = absurd (no_way e)
name_still (closing closings.ByBar x) e = refl
name_still (other x) e = refl

pub bar_still : (l : Terminal) → is_bar l ≡ true → still l ≡ true
bar_still (leaf k x) e = refl
bar_still (dot x) e = refl
bar_still (sign m x) e = refl
bar_still (opening k x) e = absurd (no_way e)
bar_still (closing closings.ByRound x) e = absurd (no_way e)
bar_still (closing closings.BySquare x) e = absurd (no_way e)
bar_still (closing closings.ByBrace x) e = absurd (no_way e)
bar_still (closing closings.ByBar x) e = refl
bar_still (other x) e = refl

pub word_still : (l : Terminal) → is_word (keyword l) ≡ true → still l ≡ true
word_still (leaf k x) e = refl
word_still (dot x) e = refl
word_still (sign m x) e = refl
word_still (opening k x) e = absurd (no_way e)
word_still (closing closings.ByRound x) e = absurd (no_way e)
word_still (closing closings.BySquare x) e = absurd (no_way e)
word_still (closing closings.ByBrace x) e = absurd (no_way e)
word_still (closing closings.ByBar x) e = refl
word_still (other x) e = refl

pub round_opens : (l : Terminal) → opens_round l ≡ true → Opens l
round_opens (opening bracket_of.Round x) e = record { more = λ n. refl; may = refl; many = λ k. refl }
round_opens (opening bracket_of.Square x) e = absurd (no_way e)
round_opens (opening bracket_of.Brace x) e = absurd (no_way e)
round_opens (opening bracket_of.TickRound x) e = absurd (no_way e)
round_opens (opening bracket_of.TickSquare x) e = absurd (no_way e)
round_opens (opening bracket_of.TickBrace x) e = absurd (no_way e)
round_opens (opening bracket_of.Dollar x) e = absurd (no_way e)
round_opens (leaf k x) e = absurd (no_way e)
round_opens (dot x) e = absurd (no_way e)
round_opens (sign m x) e = absurd (no_way e)
round_opens (closing closings.ByRound x) e = absurd (no_way e)
round_opens (closing closings.BySquare x) e = absurd (no_way e)
round_opens (closing closings.ByBrace x) e = absurd (no_way e)
round_opens (closing closings.ByBar x) e = absurd (no_way e)
round_opens (other x) e = absurd (no_way e)

pub brace_opens : (l : Terminal) → opens_brace l ≡ true → Opens l
brace_opens (opening bracket_of.Round x) e = absurd (no_way e)
brace_opens (opening bracket_of.Square x) e = absurd (no_way e)
brace_opens (opening bracket_of.Brace x) e = record { more = λ n. refl; may = refl; many = λ k. refl }
brace_opens (opening bracket_of.TickRound x) e = absurd (no_way e)
brace_opens (opening bracket_of.TickSquare x) e = absurd (no_way e)
brace_opens (opening bracket_of.TickBrace x) e = absurd (no_way e)
brace_opens (opening bracket_of.Dollar x) e = absurd (no_way e)
brace_opens (leaf k x) e = absurd (no_way e)
brace_opens (dot x) e = absurd (no_way e)
brace_opens (sign m x) e = absurd (no_way e)
brace_opens (closing closings.ByRound x) e = absurd (no_way e)
brace_opens (closing closings.BySquare x) e = absurd (no_way e)
brace_opens (closing closings.ByBrace x) e = absurd (no_way e)
brace_opens (closing closings.ByBar x) e = absurd (no_way e)
brace_opens (other x) e = absurd (no_way e)

pub round_closes : (l : Terminal) (n : ℕ) → closes_round l ≡ true → nesting_after n l ≡ n - 1
round_closes (leaf k x) n e = absurd (no_way e)
round_closes (dot x) n e = absurd (no_way e)
round_closes (sign m x) n e = absurd (no_way e)
round_closes (opening k x) n e = absurd (no_way e)
round_closes (closing closings.ByRound x) n e = refl
round_closes (closing closings.BySquare x) n e = absurd (no_way e)
round_closes (closing closings.ByBrace x) n e = absurd (no_way e)
round_closes (closing closings.ByBar x) n e = absurd (no_way e)
round_closes (other x) n e = absurd (no_way e)

pub brace_closes : (l : Terminal) (n : ℕ) → closes_brace l ≡ true → nesting_after n l ≡ n - 1
brace_closes (leaf k x) n e = absurd (no_way e)
brace_closes (dot x) n e = absurd (no_way e)
brace_closes (sign m x) n e = absurd (no_way e)
brace_closes (opening k x) n e = absurd (no_way e)
brace_closes (closing closings.ByRound x) n e = absurd (no_way e)
brace_closes (closing closings.BySquare x) n e = absurd (no_way e)
brace_closes (closing closings.ByBrace x) n e = refl
brace_closes (closing closings.ByBar x) n e = absurd (no_way e)
brace_closes (other x) n e = absurd (no_way e)

no_piece : (b : Bool) (e : Bool) → (if b && false then Some false else None) ≡ Some e → ⊥
no_piece true e f = absurd (cc)
no_piece false e f = absurd (cc)

no_sign_or_dot : (b : Bool) (e : Bool) → (if b && false then Some true else if b && false then Some false else None) ≡ Some e → ⊥
no_sign_or_dot true e f = absurd (cc)
no_sign_or_dot false e f = absurd (cc)

pub id_still : (d : Bool) (l : Terminal) (b : Bool) → id_step d l ≡ Some b → still l ≡ true
id_still d (leaf k x) b e = refl
id_still d (dot x) b e = refl
id_still d (sign m x) b e = refl
id_still d (other x) b e = refl
id_still d (closing closings.ByBar x) b e = refl
id_still true (opening k x) b e = absurd (no_piece x.touching b e)
id_still true (closing closings.ByRound x) b e = absurd (no_piece x.touching b e)
id_still true (closing closings.BySquare x) b e = absurd (no_piece x.touching b e)
id_still true (closing closings.ByBrace x) b e = absurd (no_piece x.touching b e)
id_still false (opening k x) b e = absurd (no_sign_or_dot x.touching b e)
id_still false (closing closings.ByRound x) b e = absurd (no_sign_or_dot x.touching b e)
id_still false (closing closings.BySquare x) b e = absurd (no_sign_or_dot x.touching b e)
id_still false (closing closings.ByBrace x) b e = absurd (no_sign_or_dot x.touching b e)

-- ---- lists of entries

pub no_more : (ls ks : List Terminal) → no_entries (ls ++ ks) ≡ no_entries ls ++ no_entries ks
no_more [] ks = refl
no_more (l ∷ ls) ks = ap (λ v. [] ∷ v) (no_more ls ks)

pub parens_more : (k : ℕ) (os : List Terminal) (l : Terminal) (v : ℕ) → v ≡ (k + length os) + 1 → paren_numbers k (os ++ l ∷ []) ≡ paren_numbers k os ++ open_entry [] v ∷ []
parens_more k [] l v e = ap (λ n. open_entry [] n ∷ []) (omega (arith, e))
parens_more k (o ∷ os) l v e = ap (λ ns. open_entry [] (k + 1) ∷ ns) (parens_more (k + 1) os l v (omega (arith, e)))

pub words_more : (k : ℕ) (ws : List Terminal) (l : Terminal) → word_numbers k (ws ++ l ∷ []) ≡ word_numbers k ws ++ word_entry (brackets_behind k ws) l ∷ []
words_more k [] l = refl
words_more k (w ∷ ws) l = ap (λ ns. word_entry k w ∷ ns) (words_more (nesting_after k w) ws l)

pub behind_more : (k : ℕ) (ws : List Terminal) (l : Terminal) → brackets_behind k (ws ++ l ∷ []) ≡ nesting_after (brackets_behind k ws) l
behind_more k [] l = refl
behind_more k (w ∷ ws) l = behind_more (nesting_after k w) ws l

-- ---- hints

closes_one : (k : ℕ) (c : Closing) (x : Token) (b : Bracket) (bs ds : List Bracket) → nesting_after (k + length (b ∷ bs)) (closing c x) ≡ k + length bs → (a : Bool) → (if a then Some bs else None) ≡ Some ds
    → nesting_after (k + length (b ∷ bs)) (closing c x) ≡ k + length ds
closes_one k c x b bs ds n true e = let is : bs ≡ ds = cc in n ∙ ap (λ v. k + length v) is
closes_one k c x b bs ds n false e = absurd (cc)

pub balance_nests : (k : ℕ) (bs : List Bracket) (l : Terminal) (ds : List Bracket) → balance_step bs l ≡ Some ds → nesting_after (k + length bs) l ≡ k + length ds
balance_nests k bs (leaf j x) ds e = let is : bs ≡ ds = cc in ap (λ v. k + length v) is
balance_nests k bs (dot x) ds e = let is : bs ≡ ds = cc in ap (λ v. k + length v) is
balance_nests k bs (sign m x) ds e = let is : bs ≡ ds = cc in ap (λ v. k + length v) is
balance_nests k bs (other x) ds e = let is : bs ≡ ds = cc in ap (λ v. k + length v) is
balance_nests k bs (opening b x) ds e = let is : b ∷ bs ≡ ds = cc in omega (arith, ap (length {A = Bracket}) is)
balance_nests k [] (closing closings.ByBar x) ds e = let is : [] ≡ ds = cc in ap (λ v. k + length v) is
balance_nests k (b ∷ bs) (closing closings.ByBar x) ds e = let is : b ∷ bs ≡ ds = cc in ap (λ v. k + length v) is
balance_nests k [] (closing closings.ByRound x) ds e = absurd (cc)
balance_nests k [] (closing closings.BySquare x) ds e = absurd (cc)
balance_nests k [] (closing closings.ByBrace x) ds e = absurd (cc)
balance_nests k (b ∷ bs) (closing closings.ByRound x) ds e = closes_one k closings.ByRound x b bs ds (omega arith) (agree (closed_by b) closings.ByRound) e
balance_nests k (b ∷ bs) (closing closings.BySquare x) ds e = closes_one k closings.BySquare x b bs ds (omega arith) (agree (closed_by b) closings.BySquare) e
balance_nests k (b ∷ bs) (closing closings.ByBrace x) ds e = closes_one k closings.ByBrace x b bs ds (omega arith) (agree (closed_by b) closings.ByBrace) e

pub balanced : (k : ℕ) (ws : List Terminal) (bs ds : List Bracket) → scan balance_step bs ws ≡ Some ds → brackets_behind (k + length bs) ws ≡ k + length ds
balanced k [] bs ds e = let is : bs ≡ ds = cc in ap (λ v. k + length v) is
balanced k (l ∷ ws) bs ds e = go (balance_step bs l) refl e (λ cs f. balanced k ws cs ds f)
  where
    go : (o : Option (List Bracket)) → balance_step bs l ≡ o → option_and_then (λ r. scan balance_step r ws) o ≡ Some ds → ((cs : List Bracket) → scan balance_step cs ws ≡ Some ds → brackets_behind (k + length cs) ws ≡ k + length ds)
        → brackets_behind (nesting_after (k + length bs) l) ws ≡ k + length ds
    go None f g later = absurd (cc)
    go (Some cs) f g later = ap (λ n. brackets_behind n ws) (balance_nests k bs l cs f) ∙ later cs g

-- ---- counts

pub record CountsLow (c : Counts) : Type 0 where
  pub definition : nat_lt MOST_DEFINITIONS c.definitions ≡ false
  pub premise : nat_lt MOST_PREMISES c.premises ≡ false
  pub member : nat_lt MOST_PARTS c.members ≡ false
  pub iteration : nat_lt MOST_SIGNS c.iterations ≡ false

pub counts_low : (c : Counts) → counts_pass c ≡ false → CountsLow c
counts_low c e =
    let d = neither ((nat_lt MOST_DEFINITIONS c.definitions || nat_lt MOST_PREMISES c.premises) || nat_lt MOST_PARTS c.members) (nat_lt MOST_SIGNS c.iterations) e in
    let b = neither (nat_lt MOST_DEFINITIONS c.definitions || nat_lt MOST_PREMISES c.premises) (nat_lt MOST_PARTS c.members) d.0 in
    let a = neither (nat_lt MOST_DEFINITIONS c.definitions) (nat_lt MOST_PREMISES c.premises) b.0 in
    record { definition = a.0; premise = a.1; member = b.1; iteration = d.1 }

-- what begins with such an event, where so much is counted behind it
abbrev pub event_entry : Event → Counts → List Number
event_entry Definition c = number.definition c.definitions ∷ []
event_entry Premise c = number.premise c.premises ∷ []
event_entry Member c = number.member c.members ∷ []
event_entry Iteration c = number.iteration c.iterations ∷ []
event_entry Closed c = []
event_entry Nothing c = []

pub event_passes : (c : Counts) (e : Event) → counts_pass c ≡ false → list_any too_many (event_entry e (counts_after c e)) ≡ counts_pass (counts_after c e)
event_passes c Definition h = or_false (nat_lt MOST_DEFINITIONS (c.definitions + 1)) ∙ sym (first_test (nat_lt MOST_DEFINITIONS (c.definitions + 1)) _ _ _ refl refl refl)
event_passes c Premise h = let l = counts_low c h in or_false (nat_lt MOST_PREMISES (c.premises + 1)) ∙ sym (second_test _ (nat_lt MOST_PREMISES (c.premises + 1)) _ _ l.definition l.member refl)
event_passes c Member h = let l = counts_low c h in or_false (nat_lt MOST_PARTS (c.members + 1)) ∙ sym (third_test _ _ (nat_lt MOST_PARTS (c.members + 1)) _ l.definition l.premise l.iteration)
event_passes c Iteration h = let l = counts_low c h in or_false (nat_lt MOST_SIGNS (c.iterations + 1)) ∙ sym (fourth_test _ _ _ (nat_lt MOST_SIGNS (c.iterations + 1)) l.definition l.premise l.member)
event_passes c Closed h = let l = counts_low c h in sym (no_test _ _ _ _ l.definition l.premise l.member refl)
event_passes c Nothing h = sym h

-- ---- what is whole

pub syntax_numbers : (h : Head) (b : Body) → defs_numbers (syntax_whole h b) ≡ head_numbers h ++ body_numbers b
syntax_numbers (syntax_head ds w x ls hs e) b = simp append_assoc

pub fields_counts : (h : Head) (o : Terminal) (ms : Members) (c : Terminal) → defs_counts (syntax_whole h (fields o ms c)) ≡ counts (head_number h) 0 (members_size ms) 0
fields_counts (syntax_head ds w x ls hs e) o ms c = refl

pub cases_counts : (h : Head) (ms : Members) (es : List Terminal) → defs_counts (syntax_whole h (cases ms es)) ≡ counts (head_number h) 0 (members_size ms) 0
cases_counts (syntax_head ds w x ls hs e) ms es = refl

pub rule_numbers_whole : (r : Rule) (t : Tree) (ps : Premises) → defs_numbers (rule_whole r t ps) ≡ ruled_numbers r t ps
rule_numbers_whole (rule_head ds w r ls c) t ps = simp append_assoc
rule_numbers_whole (clause_head ds w f a e) t ps = simp append_assoc

pub rule_counts_whole : (r : Rule) (t : Tree) (ps : Premises) → defs_counts (rule_whole r t ps) ≡ rule_counts r (premises_size ps) (last_row ps)
rule_counts_whole (rule_head ds w r ls c) t ps = refl
rule_counts_whole (clause_head ds w f a e) t ps = refl

pub def_number : (ds : Defs) → (defs_counts ds).definitions ≡ defs_size ds
def_number no_defs = refl
def_number (more_defs ds (syntax_def w x ls hs e (fields o ms c))) = refl
def_number (more_defs ds (syntax_def w x ls hs e (cases ms es))) = refl
def_number (more_defs ds (var_def w x c t hs)) = refl
def_number (more_defs ds (relation_def w r hs c t ks)) = refl
def_number (more_defs ds (rule_def w r ls c t ps)) = refl
def_number (more_defs ds (fun_def w f a c t hs)) = refl
def_number (more_defs ds (clause_def w f a e t ps)) = refl

-- the position is the end of these definitions
pub record Whole (p : Position) (ds : Defs) : Type 0 where
  pub entries : position_numbers p ≡ defs_numbers ds
  pub counted : position_counts p ≡ defs_counts ds
  pub closed : position_brackets p ≡ 0

abbrev pub WholeAs : Position → Option Defs → Type 0
WholeAs p None = Unit {0}
WholeAs p (Some ds) = Whole p ds

host_wholes : (h : Host) (hs : Hints) → WholeAs (hinted h hs) (host_whole h hs)
host_wholes (of_syntax ds w x ls) hs = tt
host_wholes (of_field h o ms pre t) hs = tt
host_wholes (of_case h ms pre t) hs = record {
  entries = simp (append_assoc, append-nil, syntax_numbers h (cases (member ms pre t hs) []));
  counted = sym (cases_counts h (member ms pre t hs) []);
  closed = refl;
}
host_wholes (of_var ds w x c t) hs = record { entries = simp append_assoc; counted = refl; closed = refl }
host_wholes (of_relation ds w r) hs = tt
host_wholes (of_notation ds w r hs c t) ks = record { entries = simp append_assoc; counted = refl; closed = refl }
host_wholes (of_fun ds w f a c t) hs = record { entries = simp append_assoc; counted = refl; closed = refl }

pub given_numbers : (r : Rule) (t : Tree) (ps : Premises) (d : Terminal) (os ls : List Terminal) (u : Tree) (i : Iterations) → position_numbers (iterated r t ps d os ls u i) ≡ ruled_numbers r t (more_premises ps (given d os ls u i))
given_numbers r t ps d os ls u i = simp append_assoc

pub wholes : (p : Position) → WholeAs p (whole p)
wholes (between ds) = record { entries = refl; counted = refl; closed = refl }
wholes (hinted h hs) = host_wholes h hs
wholes (premised r t ps) = record { entries = sym (rule_numbers_whole r t ps); counted = sym (rule_counts_whole r t ps); closed = refl }
wholes (iterated r t ps d os ls u i) = go (is_whole os i) refl
  where
    qs : Premises
    qs = more_premises ps (given d os ls u i)

    go : (b : Bool) → is_whole os i ≡ b → WholeAs (iterated r t ps d os ls u i) (if b then Some (rule_whole r t (more_premises ps (given d os ls u i))) else None)
    go true e = record {
      entries = given_numbers r t ps d os ls u i ∙ sym (rule_numbers_whole r t qs);
      counted = sym (rule_counts_whole r t qs);
      closed = omega (arith, is_same (closings i) (length os) (and_left _ _ e));
    }
    go false e = tt
wholes (syntax_name ds w) = tt
wholes (var_name ds w) = tt
wholes (var_colon ds w x) = tt
wholes (relation_name ds w) = tt
wholes (rule_name ds w) = tt
wholes (rule_colon ds w r) = tt
wholes (fun_name ds w) = tt
wholes (fun_named ds w f) = tt
wholes (argued ds w f o ts) = tt
wholes (args_closed ds w f o ts c) = tt
wholes (syntax_id ds w x ls d) = tt
wholes (rule_id ds w r ls d) = tt
wholes (hint_open k hs w) = tt
wholes (hint_name k hs w o) = tt
wholes (hint_words k hs w o n ws cs) = tt
wholes (entering s) = tt
wholes (dotted k d) = tt
wholes (field_name k o ms pre) = tt
wholes (premise_open r t ps d os) = tt
wholes (goal_colon r t ps d os n) = tt

-- ---- parts that are read

pub filled_numbers : (s : Slot) (t : Tree) → position_numbers (filled s t) ≡ slot_numbers s ++ numbers (slot_context s) t
filled_numbers (field_slot h o ms pre) t = simp (append_assoc, append-nil)
filled_numbers (case_slot h ms pre) t = simp (append_assoc, append-nil)
filled_numbers (var_slot ds w x c) t = simp (append_assoc, append-nil)
filled_numbers (notation_slot ds w r hs c) t = simp (append_assoc, append-nil)
filled_numbers (fun_slot ds w k a c) t = simp (append_assoc, append-nil)
filled_numbers (arg_slot ds w k o ts pre) t = simp append_assoc
filled_numbers (rule_slot r) t = simp append-nil
filled_numbers (cond_slot r t ps d os ls) u = simp (append_assoc, append-nil)
filled_numbers (count_slot r t ps d os ls u i l) c = simp append_assoc

pub filled_brackets : (s : Slot) (t : Tree) → position_brackets (filled s t) ≡ slot_depth s
filled_brackets (field_slot h o ms pre) t = refl
filled_brackets (case_slot h ms pre) t = refl
filled_brackets (var_slot ds w x c) t = refl
filled_brackets (notation_slot ds w r hs c) t = refl
filled_brackets (fun_slot ds w k a c) t = refl
filled_brackets (arg_slot ds w k o ts pre) t = refl
filled_brackets (rule_slot r) t = refl
filled_brackets (cond_slot r t ps d os ls) u = omega arith
filled_brackets (count_slot r t ps d os ls u i l) c = refl

pub filled_counts : (s : Slot) (t : Tree) → inner_counts s ≡ position_counts (filled s t)
filled_counts (field_slot h o ms pre) t = refl
filled_counts (case_slot h ms pre) t = refl
filled_counts (var_slot ds w x c) t = refl
filled_counts (notation_slot ds w r hs c) t = refl
filled_counts (fun_slot ds w k a c) t = refl
filled_counts (arg_slot ds w k o ts pre) t = refl
filled_counts (rule_slot r) t = refl
filled_counts (cond_slot r t ps d os ls) u = refl
filled_counts (count_slot r t ps d os ls u i l) c = refl

pub filled_due : (s : Slot) (t : Tree) → member_due (at (filled s t)) ≡ false
filled_due (field_slot h o ms pre) t = refl
filled_due (case_slot h ms pre) t = refl
filled_due (var_slot ds w x c) t = refl
filled_due (notation_slot ds w r hs c) t = refl
filled_due (fun_slot ds w k a c) t = refl
filled_due (arg_slot ds w k o ts pre) t = refl
filled_due (rule_slot r) t = refl
filled_due (cond_slot r t ps d os ls) u = refl
filled_due (count_slot r t ps d os ls u i l) c = refl

pub slot_shallow : (s : Slot) → list_any too_deep (slot_begins s) ≡ false
slot_shallow (field_slot h o ms pre) = refl
slot_shallow (case_slot h ms pre) = refl
slot_shallow (var_slot ds w x c) = refl
slot_shallow (notation_slot ds w r hs c) = refl
slot_shallow (fun_slot ds w k a c) = refl
slot_shallow (arg_slot ds w k o ts pre) = refl
slot_shallow (rule_slot r) = refl
slot_shallow (cond_slot r t ps d os ls) = refl
slot_shallow (count_slot r t ps d os ls u i l) = refl
