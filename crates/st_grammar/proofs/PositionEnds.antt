-- Each front of definitions that is read has a completion.
use Rattle.std.proofs.Common.{◌≡◌, ℕ, zero, suc, ◌+◌, ◌-◌, ◌<◌, List, [], ◌∷◌, ◌++◌, map, length, Bool, true, false, not, ◌&&◌, ◌==◌, Some, None, if◌then◌else◌, refl, sym, ap, subst, ◌∙◌, append_assoc, append-nil, arith}
use Rattle.st_num.specs.declared.mark.Mark.{Mark}
use Rattle.st_num.specs.declared.token.Token.{Token}
use Rattle.st_grammar.specs.declared.sort.Leaf.TheVariants.{Low as low, Function as function}
use Rattle.st_grammar.specs.declared.sort.Bracket.{Bracket}
use Rattle.st_grammar.specs.declared.sort.Bracket.TheVariants.{Round as round, Square as square, Brace as brace, TickRound as tick_round, TickSquare as tick_square, TickBrace as tick_brace, Dollar as dollar}
use Rattle.st_grammar.specs.declared.sort.Closing.TheVariants.{ByRound as by_round, ByBrace as by_brace, ByBar as by_bar}
use Rattle.st_grammar.specs.declared.sort.Sort.TheVariants.{Expression as expression, Notation as notation, Typ as typ}
use Rattle.st_grammar.specs.Terminals.{Terminal, leaf, sign, opening, closing, other}
use Rattle.st_grammar.specs.Trees.{Tree, Trees, more}
use Rattle.st_grammar.specs.Grammar.{Fits}
use Rattle.st_grammar.specs.Reading as part
use Rattle.st_grammar.specs.Definitions.{balance_step, hint, Hints, no_hints, more_hints, Members, no_members, member, fields, Iterations, no_iterations, closed, marked, counted, closings, has_closed, wants_iteration, given, Premises, no_premises, more_premises, no_args, args, Defs}
use Rattle.st_grammar.specs.Positions.{Head, syntax_head, Rule, rule_head, clause_head, Host, of_syntax, of_field, of_case, of_var, of_relation, of_notation, of_fun, Slot, field_slot, case_slot, var_slot, notation_slot, fun_slot, arg_slot, rule_slot, cond_slot, count_slot, slot_sort, Position, between, syntax_name, var_name, var_colon, relation_name, rule_name, rule_colon, fun_name, fun_named, argued, args_closed, syntax_id, rule_id, hinted, hint_open, hint_name, hint_words, entering, dotted, field_name, premised, premise_open, goal_colon, iterated, State, at, inside, syntax_whole, rule_whole, is_whole, whole, begun, when, hint_step, own, filled, reading, start}
use Rattle.st_grammar.proofs.Sound as sound
use Rattle.st_grammar.proofs.Sound.{and_left, and_right}
use Rattle.st_grammar.proofs.PositionTexts.{slot_text, position_text, seen, Holds, ReachedBy, filled_holds, filled_text}
use Rattle.st_num.specs.declared.mark.Mark.TheVariants as mark
use Rattle.st_num.specs.declared.word.Word.TheVariants as word
use Rattle.st_num.specs.declared.token.TokenKind.{TokenKind}
use Rattle.st_num.specs.declared.token.TokenKind.TheVariants as kind
use Rattle.st_grammar.specs.Terminals.{terminal}
use Rattle.st_grammar.specs.Trees.{closed_by}
use Rattle.st_grammar.specs.Definitions.{ViableDefs}
use Rattle.st_grammar.proofs.Completions as completions
use Rattle.st_grammar.proofs.Completions.{token_of, closing_token, closing_is, label_token, label_is, name_token}
use Rattle.st_grammar.proofs.PositionSteps.{ParsedAs, wholes}
use Rattle.st_grammar.proofs.PositionReading.{owns, reached_by}

-- ---- numbers

pub same_is : (a b : ℕ) → a ≡ b → a == b ≡ true
same_is a b e = grind arith

pub differs : (a b : ℕ) → a < b → a == b ≡ false
differs a b h = grind arith

pub both_true : (b c : Bool) → b ≡ true → c ≡ true → b && c ≡ true
both_true true c e f = f
both_true false c e f = absurd (cc)

-- ---- tokens

pub before_token : (ns : List (List ℕ)) (us : List Terminal) (x : Token) (l : Terminal) → terminal ns x ≡ l → ViableDefs ns (us ++ l ∷ []) → ViableDefs ns us
before_token ns us x l e v =
    (x ∷ v.0, v.1, record { fits = v.2.fits; spelled = ap (λ k. us ++ k ∷ map (terminal ns) v.0) e ∙ sym (append_assoc us (l ∷ []) (map (terminal ns) v.0)) ∙ v.2.spelled })

pub before_tokens : (ns : List (List ℕ)) (us : List Terminal) (xs : List Token) → ViableDefs ns (us ++ map (terminal ns) xs) → ViableDefs ns us
before_tokens ns us [] v = subst (ViableDefs ns) (append-nil us) v
before_tokens ns us (x ∷ xs) v =
    before_token ns us x (terminal ns x) refl (before_tokens ns (us ++ terminal ns x ∷ []) xs (subst (ViableDefs ns) (sym (append_assoc us (terminal ns x ∷ []) (map (terminal ns) xs))) v))

abbrev pub Ends : List (List ℕ) → State → Type 0
Ends ns st = Holds st → ViableDefs ns (seen st)

-- a token leads to a state with a completion
pub by_token : (ns : List (List ℕ)) (p : Position) (x : Token) (l : Terminal) (st : State) → terminal ns x ≡ l → own p l ≡ Some st → Ends ns st → Ends ns (at p)
by_token ns p x l st e s k h =
    let r = subst (ReachedBy (position_text p ++ l ∷ [])) s (owns p l h) in
    before_token ns (position_text p) x l e (subst (ViableDefs ns) r.spelled (k r.holds))

pub whole_ends : (ns : List (List ℕ)) (p : Position) (ds : Defs) → whole p ≡ Some ds → Ends ns (at p)
whole_ends ns p ds e h =
    let q = subst (ParsedAs (position_text p)) e (wholes p h) in
    ([], ds, record { fits = q.fits; spelled = append-nil (position_text p) ∙ q.spelled })

-- a part that is read has a completion, where each position behind it has one
pub slot_ends : (ns : List (List ℕ)) (s : Slot) (st : part.State) → ((t : Tree) → Ends ns (at (filled s t))) → Ends ns (inside s st)
slot_ends ns s st k h =
    let v = completions.can_end ns st h.1 in
    let f = subst (λ σ. Fits σ v.1) h.2 v.2.fits in
    before_tokens ns (slot_text s ++ sound.seen st) v.0
    (subst (ViableDefs ns) (filled_text s v.1 ∙ ap (λ u. slot_text s ++ u) (sym v.2.spelled) ∙ sym (append_assoc (slot_text s) (sound.seen st) (map (terminal ns) v.0)))
    (k v.1 (filled_holds s v.1 h.0 f)))

pub enter_ends : (ns : List (List ℕ)) (s : Slot) → Ends ns (begun s) → Ends ns (at (entering s))
enter_ends ns s k h = subst (ViableDefs ns) (append-nil (slot_text s)) (k (h, (tt, tt), refl))

abbrev pub token : TokenKind → Token
token k = token_of k

abbrev pub mark_token : Mark → Token
mark_token m = token_of (kind.Sign m)

abbrev pub piece_token : Token
piece_token = record { at = record { file = 0; line = 0; column = 0 }; touching = true; kind = kind.Low (105 ∷ []) }

-- ---- premises

pub premised_ends : (ns : List (List ℕ)) (r : Rule) (t : Tree) (ps : Premises) → Ends ns (at (premised r t ps))
premised_ends ns r t ps = whole_ends ns (premised r t ps) (rule_whole r t ps) refl

pub iterated_whole : (ns : List (List ℕ)) (r : Rule) (t : Tree) (ps : Premises) (d : Terminal) (os ls : List Terminal) (u : Tree) (i : Iterations) → closings i ≡ length os → wants_iteration i ≡ false
    → Ends ns (at (iterated r t ps d os ls u i))
iterated_whole ns r t ps d os ls u i e f =
    whole_ends ns (iterated r t ps d os ls u i) (rule_whole r t (more_premises ps (given d os ls u i)))
    (ap (λ b. if b then Some (rule_whole r t (more_premises ps (given d os ls u i))) else None) (both_true _ _ (same_is (closings i) (length os) e) (ap not f)))

pub marking : (ns : List (List ℕ)) (r : Rule) (t : Tree) (ps : Premises) (d : Terminal) (os ls : List Terminal) (u : Tree) (i : Iterations) → wants_iteration i ≡ true
    → Ends ns (at (iterated r t ps d os ls u (marked i (sign mark.Star (mark_token mark.Star))))) → Ends ns (at (iterated r t ps d os ls u i))
marking ns r t ps d os ls u i e k =
    by_token ns (iterated r t ps d os ls u i) (mark_token mark.Star) (sign mark.Star (mark_token mark.Star)) (at (iterated r t ps d os ls u (marked i (sign mark.Star (mark_token mark.Star))))) refl
    (ap (λ b. if b then Some (at (iterated r t ps d os ls u (marked i (sign mark.Star (mark_token mark.Star))))) else if is_whole os i then None else None) (wanting_closed i e)) k
  where
    wanting_closed : (j : Iterations) → wants_iteration j ≡ true → has_closed j ≡ true
    wanting_closed no_iterations f = absurd (cc)
    wanting_closed (closed j l) f = refl
    wanting_closed (marked j l) f = absurd (cc)
    wanting_closed (counted j l c) f = absurd (cc)

pub closing_one : (ns : List (List ℕ)) (r : Rule) (t : Tree) (ps : Premises) (d : Terminal) (os ls : List Terminal) (u : Tree) (i : Iterations) → wants_iteration i ≡ false → closings i < length os
    → Ends ns (at (iterated r t ps d os ls u (closed i (closing by_round (mark_token mark.CloseParen))))) → Ends ns (at (iterated r t ps d os ls u i))
closing_one ns r t ps d os ls u i e h k =
    by_token ns (iterated r t ps d os ls u i) (mark_token mark.CloseParen) (closing by_round (mark_token mark.CloseParen)) (at (iterated r t ps d os ls u (closed i (closing by_round (mark_token mark.CloseParen))))) refl
    (ap (λ b. if b then Some (at (iterated r t ps d os ls u (closed i (closing by_round (mark_token mark.CloseParen))))) else if is_whole os i then None else None) (both_true _ _ (ap not (differs (closings i) (length os) h)) (ap not e))) k

-- one `)` more, where it can be closed from there on
pub iterated_step : (ns : List (List ℕ)) (r : Rule) (t : Tree) (ps : Premises) (d : Terminal) (os ls : List Terminal) (u : Tree) (n : ℕ) (i : Iterations) → closings i + suc n ≡ length os
    → ((j : Iterations) → closings j + n ≡ length os → Ends ns (at (iterated r t ps d os ls u j))) → Ends ns (at (iterated r t ps d os ls u i))
iterated_step ns r t ps d os ls u n i e more_ends = go (wants_iteration i) refl
  where
    go : (b : Bool) → wants_iteration i ≡ b → Ends ns (at (iterated r t ps d os ls u i))
    go true f =
        marking ns r t ps d os ls u i f
        (closing_one ns r t ps d os ls u (marked i (sign mark.Star (mark_token mark.Star))) refl (omega arith)
        (more_ends (closed (marked i (sign mark.Star (mark_token mark.Star))) (closing by_round (mark_token mark.CloseParen))) (omega arith)))
    go false f =
        closing_one ns r t ps d os ls u i f (omega arith)
        (more_ends (closed i (closing by_round (mark_token mark.CloseParen))) (omega arith))

pub iterated_ends : (ns : List (List ℕ)) (r : Rule) (t : Tree) (ps : Premises) (d : Terminal) (os ls : List Terminal) (u : Tree) (n : ℕ) (i : Iterations) → closings i + n ≡ length os
    → Ends ns (at (iterated r t ps d os ls u i))
iterated_ends ns r t ps d os ls u zero i e = go (wants_iteration i) refl
  where
    go : (b : Bool) → wants_iteration i ≡ b → Ends ns (at (iterated r t ps d os ls u i))
    go true f = marking ns r t ps d os ls u i f (iterated_whole ns r t ps d os ls u (marked i (sign mark.Star (mark_token mark.Star))) (omega arith) refl)
    go false f = iterated_whole ns r t ps d os ls u i (omega arith) f
iterated_ends ns r t ps d os ls u (suc n) i e = iterated_step ns r t ps d os ls u n i e (λ j k. iterated_ends ns r t ps d os ls u n j k)

pub iterated_end : (ns : List (List ℕ)) (r : Rule) (t : Tree) (ps : Premises) (d : Terminal) (os ls : List Terminal) (u : Tree) (i : Iterations) → Ends ns (at (iterated r t ps d os ls u i))
iterated_end ns r t ps d os ls u i h = iterated_ends ns r t ps d os ls u (length os - closings i) i (omega (arith, h.enough)) h

-- ---- arguments

pub rule_begun_ends : (ns : List (List ℕ)) (r : Rule) (st : part.State) → Ends ns (inside (rule_slot r) st)
rule_begun_ends ns r st = slot_ends ns (rule_slot r) st (λ t. premised_ends ns r t no_premises)

pub closed_ends : (ns : List (List ℕ)) (ds : Defs) (w f o : Terminal) (ts : Trees) (c : Terminal) → Ends ns (at (args_closed ds w f o ts c))
closed_ends ns ds w f o ts c =
    by_token ns (args_closed ds w f o ts c) (mark_token mark.Equal) (sign mark.Equal (mark_token mark.Equal)) (begun (rule_slot (clause_head ds w f (args o ts c) (sign mark.Equal (mark_token mark.Equal))))) refl refl
    (rule_begun_ends ns (clause_head ds w f (args o ts c) (sign mark.Equal (mark_token mark.Equal))) (part.start (expression false)))

pub argued_ends : (ns : List (List ℕ)) (ds : Defs) (w f o : Terminal) (ts : Trees) → Ends ns (at (argued ds w f o ts))
argued_ends ns ds w f o ts =
    by_token ns (argued ds w f o ts) (mark_token mark.CloseParen) (closing by_round (mark_token mark.CloseParen)) (at (args_closed ds w f o ts (closing by_round (mark_token mark.CloseParen)))) refl refl
    (closed_ends ns ds w f o ts (closing by_round (mark_token mark.CloseParen)))

-- ---- parts

pub field_ends : (ns : List (List ℕ)) (h : Head) (o : Terminal) (ms : Members) (pre : List Terminal) (t : Tree) (hs : Hints) → Ends ns (at (hinted (of_field h o ms pre t) hs))
field_ends ns h o ms pre t hs =
    by_token ns (hinted (of_field h o ms pre t) hs) (mark_token mark.CloseBrace) (closing by_brace (mark_token mark.CloseBrace)) (at (between (syntax_whole h (fields o (member ms pre t hs) (closing by_brace (mark_token mark.CloseBrace)))))) refl refl
    (whole_ends ns (between (syntax_whole h (fields o (member ms pre t hs) (closing by_brace (mark_token mark.CloseBrace))))) _ refl)

pub filled_ends : (ns : List (List ℕ)) (s : Slot) (t : Tree) → Ends ns (at (filled s t))
filled_ends ns (field_slot h o ms pre) t = field_ends ns h o ms pre t no_hints
filled_ends ns (case_slot h ms pre) t = whole_ends ns (hinted (of_case h ms pre t) no_hints) _ refl
filled_ends ns (var_slot ds w x c) t = whole_ends ns (hinted (of_var ds w x c t) no_hints) _ refl
filled_ends ns (notation_slot ds w r hs c) t = whole_ends ns (hinted (of_notation ds w r hs c t) no_hints) _ refl
filled_ends ns (fun_slot ds w f a c) t = whole_ends ns (hinted (of_fun ds w f a c t) no_hints) _ refl
filled_ends ns (arg_slot ds w f o ts pre) t = argued_ends ns ds w f o (more ts pre t)
filled_ends ns (rule_slot r) t = premised_ends ns r t no_premises
filled_ends ns (cond_slot r t ps d os ls) u = iterated_end ns r t ps d os ls u no_iterations
filled_ends ns (count_slot r t ps d os ls u i l) c = iterated_end ns r t ps d os ls u (counted i l c)

pub part_ends : (ns : List (List ℕ)) (s : Slot) (st : part.State) → Ends ns (inside s st)
part_ends ns s st = slot_ends ns s st (filled_ends ns s)

pub entering_ends : (ns : List (List ℕ)) (s : Slot) → Ends ns (at (entering s))
entering_ends ns s = enter_ends ns s (part_ends ns s (part.start (slot_sort s)))

-- ---- hints

pub syntax_ends : (ns : List (List ℕ)) (ds : Defs) (w x : Terminal) (ls : List Terminal) (hs : Hints) → Ends ns (at (hinted (of_syntax ds w x ls) hs))
syntax_ends ns ds w x ls hs =
    by_token ns (hinted (of_syntax ds w x ls) hs) (mark_token mark.Equal) (sign mark.Equal (mark_token mark.Equal)) (at (entering (case_slot (syntax_head ds w x ls hs (sign mark.Equal (mark_token mark.Equal))) no_members []))) refl (equals ls hs)
    (entering_ends ns (case_slot (syntax_head ds w x ls hs (sign mark.Equal (mark_token mark.Equal))) no_members []))
  where
    equals : (ks : List Terminal) (js : Hints) → own (hinted (of_syntax ds w x ks) js) (sign mark.Equal (mark_token mark.Equal)) ≡ Some (at (entering (case_slot (syntax_head ds w x ks js (sign mark.Equal (mark_token mark.Equal))) no_members [])))
    equals [] no_hints = refl
    equals [] (more_hints js k) = refl
    equals (s ∷ ks) no_hints = refl
    equals (s ∷ ks) (more_hints js k) = refl

pub hinted_ends : (ns : List (List ℕ)) (h : Host) (hs : Hints) → Ends ns (at (hinted h hs))
hinted_ends ns (of_syntax ds w x ls) hs = syntax_ends ns ds w x ls hs
hinted_ends ns (of_field h o ms pre t) hs = field_ends ns h o ms pre t hs
hinted_ends ns (of_case h ms pre t) hs = whole_ends ns (hinted (of_case h ms pre t) hs) _ refl
hinted_ends ns (of_var ds w x c t) hs = whole_ends ns (hinted (of_var ds w x c t) hs) _ refl
hinted_ends ns (of_relation ds w r) hs =
    by_token ns (hinted (of_relation ds w r) hs) (mark_token mark.Colon) (sign mark.Colon (mark_token mark.Colon)) (begun (notation_slot ds w r hs (sign mark.Colon (mark_token mark.Colon)))) refl refl
    (part_ends ns (notation_slot ds w r hs (sign mark.Colon (mark_token mark.Colon))) (part.start notation))
hinted_ends ns (of_notation ds w r hs c t) ks = whole_ends ns (hinted (of_notation ds w r hs c t) ks) _ refl
hinted_ends ns (of_fun ds w f a c t) hs = whole_ends ns (hinted (of_fun ds w f a c t) hs) _ refl

pub balance_closes : (k : Bracket) (ks : List Bracket) → balance_step (k ∷ ks) (closing (closed_by k) (closing_token (closed_by k))) ≡ Some ks
balance_closes round ks = refl
balance_closes square ks = refl
balance_closes brace ks = refl
balance_closes tick_round ks = refl
balance_closes tick_square ks = refl
balance_closes tick_brace ks = refl
balance_closes dollar ks = refl

pub words_end : (ns : List (List ℕ)) (h : Host) (hs : Hints) (w o n : Terminal) (ks : List Bracket) (ws : List Terminal) → Ends ns (at (hint_words h hs w o n ws ks))
words_end ns h hs w o n [] ws =
    by_token ns (hint_words h hs w o n ws []) (mark_token mark.CloseParen) (closing by_round (mark_token mark.CloseParen)) (at (hinted h (more_hints hs (hint w o n ws (closing by_round (mark_token mark.CloseParen)))))) refl refl
    (hinted_ends ns h (more_hints hs (hint w o n ws (closing by_round (mark_token mark.CloseParen)))))
words_end ns h hs w o n (k ∷ ks) ws =
    let c = closed_by k in
    by_token ns (hint_words h hs w o n ws (k ∷ ks)) (closing_token c) (closing c (closing_token c)) (at (hint_words h hs w o n (ws ++ closing c (closing_token c) ∷ []) ks)) (closing_is ns c)
    (ap (hint_step h hs w o n ws (k ∷ ks) (closing c (closing_token c))) (balance_closes k ks))
    (words_end ns h hs w o n ks (ws ++ closing c (closing_token c) ∷ []))

pub name_ends : (ns : List (List ℕ)) (h : Host) (hs : Hints) (w o : Terminal) → Ends ns (at (hint_name h hs w o))
name_ends ns h hs w o =
    by_token ns (hint_name h hs w o) name_token (leaf low name_token) (at (hint_words h hs w o (leaf low name_token) [] [])) refl refl
    (words_end ns h hs w o (leaf low name_token) [] [])

-- ---- names

pub syntax_id_ends : (ns : List (List ℕ)) (ds : Defs) (w x : Terminal) (ls : List Terminal) → Ends ns (at (syntax_id ds w x ls false))
syntax_id_ends ns ds w x ls =
    by_token ns (syntax_id ds w x ls false) (mark_token mark.Equal) (sign mark.Equal (mark_token mark.Equal)) (at (entering (case_slot (syntax_head ds w x ls no_hints (sign mark.Equal (mark_token mark.Equal))) no_members []))) refl (equals ls)
    (entering_ends ns (case_slot (syntax_head ds w x ls no_hints (sign mark.Equal (mark_token mark.Equal))) no_members []))
  where
    equals : (ks : List Terminal) → own (syntax_id ds w x ks false) (sign mark.Equal (mark_token mark.Equal)) ≡ Some (at (entering (case_slot (syntax_head ds w x ks no_hints (sign mark.Equal (mark_token mark.Equal))) no_members [])))
    equals [] = refl
    equals (s ∷ ks) = refl

pub rule_colon_ends : (ns : List (List ℕ)) (r : Rule) → Ends ns (begun (rule_slot r))
rule_colon_ends ns r = rule_begun_ends ns r (part.start (expression false))

pub fun_ends : (ns : List (List ℕ)) (ds : Defs) (w f : Terminal) → Ends ns (at (fun_named ds w f))
fun_ends ns ds w f =
    by_token ns (fun_named ds w f) (mark_token mark.Equal) (sign mark.Equal (mark_token mark.Equal)) (begun (rule_slot (clause_head ds w f no_args (sign mark.Equal (mark_token mark.Equal))))) refl refl
    (rule_colon_ends ns (clause_head ds w f no_args (sign mark.Equal (mark_token mark.Equal))))

abbrev pub colon : Terminal
colon = sign mark.Colon (mark_token mark.Colon)

pub field_name_ends : (ns : List (List ℕ)) (h : Head) (o : Terminal) (ms : Members) (pre : List Terminal) → Ends ns (at (field_name h o ms pre))
field_name_ends ns h o no_members pre =
    by_token ns (field_name h o no_members pre) (mark_token mark.CloseBrace) (closing by_brace (mark_token mark.CloseBrace)) (at (between (syntax_whole h (fields o no_members (closing by_brace (mark_token mark.CloseBrace)))))) refl refl
    (whole_ends ns (between (syntax_whole h (fields o no_members (closing by_brace (mark_token mark.CloseBrace))))) _ refl)
field_name_ends ns h o (member ms q t hs) pre =
    let l = terminal ns label_token in
    by_token ns (field_name h o (member ms q t hs) pre) label_token l (begun (field_slot h o (member ms q t hs) (pre ++ l ∷ []))) refl
    (ap (λ b. when b (begun (field_slot h o (member ms q t hs) (pre ++ l ∷ [])))) (label_is ns))
    (part_ends ns (field_slot h o (member ms q t hs) (pre ++ l ∷ [])) (part.start typ))

pub position_ends : (ns : List (List ℕ)) (p : Position) → Ends ns (at p)
position_ends ns (between ds) = whole_ends ns (between ds) ds refl
position_ends ns (syntax_name ds w) =
    by_token ns (syntax_name ds w) name_token (leaf low name_token) (at (hinted (of_syntax ds w (leaf low name_token) []) no_hints)) refl refl (hinted_ends ns (of_syntax ds w (leaf low name_token) []) no_hints)
position_ends ns (var_name ds w) =
    by_token ns (var_name ds w) name_token (leaf low name_token) (at (var_colon ds w (leaf low name_token))) refl refl
    (by_token ns (var_colon ds w (leaf low name_token)) (mark_token mark.Colon) colon (begun (var_slot ds w (leaf low name_token) colon)) refl refl (part_ends ns (var_slot ds w (leaf low name_token) colon) (part.start typ)))
position_ends ns (var_colon ds w x) =
    by_token ns (var_colon ds w x) (mark_token mark.Colon) colon (begun (var_slot ds w x colon)) refl refl (part_ends ns (var_slot ds w x colon) (part.start typ))
position_ends ns (relation_name ds w) =
    let x = token_of (kind.Mix (65 ∷ 97 ∷ [])) in
    by_token ns (relation_name ds w) x (other x) (at (hinted (of_relation ds w (other x)) no_hints)) refl refl (hinted_ends ns (of_relation ds w (other x)) no_hints)
position_ends ns (rule_name ds w) =
    let x = token_of (kind.Mix (65 ∷ 97 ∷ [])) in
    by_token ns (rule_name ds w) x (other x) (at (rule_colon ds w (other x))) refl refl
    (by_token ns (rule_colon ds w (other x)) (mark_token mark.Colon) colon (begun (rule_slot (rule_head ds w (other x) [] colon))) refl refl (rule_colon_ends ns (rule_head ds w (other x) [] colon)))
position_ends ns (rule_colon ds w r) =
    by_token ns (rule_colon ds w r) (mark_token mark.Colon) colon (begun (rule_slot (rule_head ds w r [] colon))) refl refl (rule_colon_ends ns (rule_head ds w r [] colon))
position_ends ns (fun_name ds w) =
    let x = token_of (kind.Fun (105 ∷ [])) in
    by_token ns (fun_name ds w) x (leaf function x) (at (fun_named ds w (leaf function x))) refl refl (fun_ends ns ds w (leaf function x))
position_ends ns (fun_named ds w f) = fun_ends ns ds w f
position_ends ns (argued ds w f o ts) = argued_ends ns ds w f o ts
position_ends ns (args_closed ds w f o ts c) = closed_ends ns ds w f o ts c
position_ends ns (syntax_id ds w x ls true) =
    by_token ns (syntax_id ds w x ls true) piece_token (leaf low piece_token) (at (syntax_id ds w x (ls ++ leaf low piece_token ∷ []) false)) refl refl (syntax_id_ends ns ds w x (ls ++ leaf low piece_token ∷ []))
position_ends ns (syntax_id ds w x ls false) = syntax_id_ends ns ds w x ls
position_ends ns (rule_id ds w r ls true) =
    by_token ns (rule_id ds w r ls true) piece_token (leaf low piece_token) (at (rule_id ds w r (ls ++ leaf low piece_token ∷ []) false)) refl refl
    (by_token ns (rule_id ds w r (ls ++ leaf low piece_token ∷ []) false) (mark_token mark.Colon) colon (begun (rule_slot (rule_head ds w r (ls ++ leaf low piece_token ∷ []) colon))) refl refl (rule_colon_ends ns (rule_head ds w r (ls ++ leaf low piece_token ∷ []) colon)))
position_ends ns (rule_id ds w r ls false) =
    by_token ns (rule_id ds w r ls false) (mark_token mark.Colon) colon (begun (rule_slot (rule_head ds w r ls colon))) refl refl (rule_colon_ends ns (rule_head ds w r ls colon))
position_ends ns (hinted h hs) = hinted_ends ns h hs
position_ends ns (hint_open h hs w) =
    by_token ns (hint_open h hs w) (mark_token mark.OpenParen) (opening round (mark_token mark.OpenParen)) (at (hint_name h hs w (opening round (mark_token mark.OpenParen)))) refl refl (name_ends ns h hs w (opening round (mark_token mark.OpenParen)))
position_ends ns (hint_name h hs w o) = name_ends ns h hs w o
position_ends ns (hint_words h hs w o n ws ks) = words_end ns h hs w o n ks ws
position_ends ns (entering s) = entering_ends ns s
position_ends ns (dotted h d) =
    by_token ns (dotted h d) (mark_token mark.Bar) (closing by_bar (mark_token mark.Bar)) (at (entering (case_slot h no_members (d ∷ closing by_bar (mark_token mark.Bar) ∷ [])))) refl refl
    (entering_ends ns (case_slot h no_members (d ∷ closing by_bar (mark_token mark.Bar) ∷ [])))
position_ends ns (field_name h o ms pre) = field_name_ends ns h o ms pre
position_ends ns (premised r t ps) = premised_ends ns r t ps
position_ends ns (premise_open r t ps d os) =
    let x = token_of (kind.Reserved word.If) in
    by_token ns (premise_open r t ps d os) x (other x) (begun (cond_slot r t ps d os (other x ∷ []))) refl refl (part_ends ns (cond_slot r t ps d os (other x ∷ [])) (part.start (expression false)))
position_ends ns (goal_colon r t ps d os n) =
    by_token ns (goal_colon r t ps d os n) (mark_token mark.Colon) colon (begun (cond_slot r t ps d os (n ∷ colon ∷ []))) refl refl (part_ends ns (cond_slot r t ps d os (n ∷ colon ∷ [])) (part.start (expression false)))
position_ends ns (iterated r t ps d os ls u i) = iterated_end ns r t ps d os ls u i

pub can_end : (ns : List (List ℕ)) (st : State) → Ends ns st
can_end ns (at p) = position_ends ns p
can_end ns (inside s st) = part_ends ns s st

pub viable : (ns : List (List ℕ)) (us : List Terminal) (st : State) → reading start us ≡ Some st → ViableDefs ns us
viable ns us st e = let r = reached_by us st e in subst (ViableDefs ns) r.spelled (can_end ns st r.holds)
