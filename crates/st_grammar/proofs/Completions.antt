-- Each front of tokens that is read has a completion, and one that is not read has none.
use Rattle.std.proofs.Common.{◌≡◌, ℕ, List, [], ◌∷◌, ◌++◌, map, Bool, true, false, Option, Some, None, option_and_then, if◌then◌else◌, refl, sym, ap, subst, ◌∙◌, append_assoc, append-nil, arith}
use Rattle.st_num.specs.declared.mark.Mark.{Mark}
use Rattle.st_num.specs.declared.mark.Mark.TheVariants as mark
use Rattle.st_num.specs.declared.word.Word.TheVariants as word
use Rattle.st_num.specs.declared.token.Token.{Token}
use Rattle.st_num.specs.declared.token.TokenKind.{TokenKind}
use Rattle.st_num.specs.declared.token.TokenKind.TheVariants as kind
use Rattle.st_grammar.specs.declared.sort.Leaf.{Leaf}
use Rattle.st_grammar.specs.declared.sort.Leaf.TheVariants.{Low as low, Basic as basic, Variable as variable, Atom as atom, Number as number}
use Rattle.st_grammar.specs.declared.sort.Bracket.TheVariants.{Round as round, Square as square}
use Rattle.st_grammar.specs.declared.sort.Closing.{Closing}
use Rattle.st_grammar.specs.declared.sort.Closing.TheVariants.{ByRound as by_round, BySquare as by_square, ByBrace as by_brace, ByBar as by_bar}
use Rattle.st_grammar.specs.declared.sort.Sort.{Sort}
use Rattle.st_grammar.specs.declared.sort.Sort.TheVariants.{Expression as expression, Arithmetic as arithmetic, Notation as notation, Typ as typ, Count as count, Bound as bound}
use Rattle.st_grammar.specs.Terminals.{Terminal, leaf, sign, opening, closing, terminal, is_variable}
use Rattle.st_grammar.specs.Levels.{takes}
use Rattle.st_grammar.specs.Trees.{Tree, operand, times, bracket, led, Trees, none, more, Heading, plain, length, arguments, index, segment, update, below, Path, head, field, part, closes, text, texts, heading_text, path_text}
use Rattle.st_grammar.specs.Grammar.{is_label, is_operand, has_step, PathFits, Parse, Viable}
use Rattle.st_grammar.specs.Reading.{Frames, bottom, within, over, timing, State, want, got, naming, pathed, indexing, comparing, sort, finish, step, reading, reads, start}
use Rattle.st_grammar.proofs.CompleteTrees.{complete}
use Rattle.st_grammar.proofs.Sound.{frames_text, seen, base, state_base, MayBegin, Stand, Placed, Naming, IsNoSequence, Holds, ReachedBy, least_low, begin_more, closed_lead, lead_spelled, bracket_spelled, segment_spelled, bracket_placed, one_part}
use Rattle.st_grammar.proofs.Steps.{no_sequence_begins, in_index_begins, names, reached_by}

-- ---- tokens to complete with

abbrev pub token_of : TokenKind → Token
token_of k = record { at = record { file = 0; line = 0; column = 0 }; touching = false; kind = k }

abbrev pub closing_token : Closing → Token
closing_token by_round = token_of (kind.Sign mark.CloseParen)
closing_token by_square = token_of (kind.Sign mark.CloseBracket)
closing_token by_brace = token_of (kind.Sign mark.CloseBrace)
closing_token by_bar = token_of (kind.Sign mark.Bar)

pub closing_is : (ns : List (List ℕ)) (c : Closing) → terminal ns (closing_token c) ≡ closing c (closing_token c)
closing_is ns by_round = refl
closing_is ns by_square = refl
closing_is ns by_brace = refl
closing_is ns by_bar = refl

-- the least operand of a sort of part
abbrev pub filler : Sort → Token
filler notation = token_of (kind.Reserved word.Nat)
filler typ = token_of (kind.Reserved word.Nat)
filler σ = token_of (kind.Number 0)

abbrev pub filler_leaf : Sort → Leaf
filler_leaf notation = basic
filler_leaf typ = basic
filler_leaf σ = number

pub filler_is : (ns : List (List ℕ)) (σ : Sort) → terminal ns (filler σ) ≡ leaf (filler_leaf σ) (filler σ)
filler_is ns (expression b) = refl
filler_is ns arithmetic = refl
filler_is ns notation = refl
filler_is ns typ = refl
filler_is ns count = refl
filler_is ns bound = refl

pub filler_takes : (σ : Sort) → takes σ (filler_leaf σ) ≡ true
filler_takes (expression b) = refl
filler_takes arithmetic = refl
filler_takes notation = refl
filler_takes typ = refl
filler_takes count = refl
filler_takes bound = refl

abbrev pub label_token : Token
label_token = token_of (kind.Up (65 ∷ []))

pub label_is : (ns : List (List ℕ)) → is_label (terminal ns label_token) ≡ true
label_is ns = go (is_variable ns (65 ∷ []))
  where
    go : (b : Bool) → is_label (if b then leaf variable label_token else leaf atom label_token) ≡ true
    go true = refl
    go false = refl

abbrev pub equal_token : Token
equal_token = token_of (kind.Sign mark.Equal)

abbrev pub zero_token : Token
zero_token = token_of (kind.Number 0)

abbrev pub name_token : Token
name_token = token_of (kind.Low (105 ∷ []))

abbrev pub less_token : Token
less_token = token_of (kind.Sign mark.Less)

-- ---- completions

-- what is viable with one more token is viable
pub before_token : (ns : List (List ℕ)) (σ : Sort) (us : List Terminal) (x : Token) (l : Terminal) → terminal ns x ≡ l → Viable ns σ (us ++ l ∷ []) → Viable ns σ us
before_token ns σ us x l e v =
    (x ∷ v.0, v.1, record { fits = v.2.fits; spelled = ap (λ k. us ++ k ∷ map (terminal ns) v.0) e ∙ sym (append_assoc us (l ∷ []) (map (terminal ns) v.0)) ∙ v.2.spelled })

-- a part that is read here has a completion
abbrev pub Completes : List (List ℕ) → Frames → Type 0
Completes ns fs = (t : Tree) → Placed t fs → Viable ns (base fs) (frames_text fs ++ text t)

pub update_placed : (p : Path) (fs : Frames) (c : Token) → Stand fs → PathFits (sort fs) p → MayBegin fs (path_text p) → has_step p ≡ true
    → Placed (bracket (update p mark.Equal equal_token) (more none [] (operand number zero_token)) c) fs
update_placed p fs c s f b e = record {
  frames = s;
  fits = (refl, (f, e, refl), (tt, refl, refl, omega arith, tt), tt);
  level = least_low fs;
  begins =
      begin_more fs (heading_text (update p mark.Equal equal_token)) (leaf number zero_token ∷ closing by_square c ∷ [])
      (begin_more fs (path_text p) (sign mark.Equal equal_token ∷ []) b);
}

pub update_spelled : (fs : Frames) (p : Path) (c : Token)
    → frames_text fs ++ text (bracket (update p mark.Equal equal_token) (more none [] (operand number zero_token)) c)
    ≡ (((frames_text fs ++ path_text p) ++ sign mark.Equal equal_token ∷ []) ++ leaf number zero_token ∷ []) ++ closing by_square c ∷ []
update_spelled fs p c = simp append_assoc

-- a path with a step goes on with `= 0 ]`
pub path_completed : (ns : List (List ℕ)) (p : Path) (fs : Frames) → Completes ns fs → Stand fs → PathFits (sort fs) p → MayBegin fs (path_text p) → has_step p ≡ true
    → Viable ns (base fs) (frames_text fs ++ path_text p)
path_completed ns p fs ends s f b e =
    let v = ends (bracket (update p mark.Equal equal_token) (more none [] (operand number zero_token)) (closing_token by_square)) (update_placed p fs (closing_token by_square) s f b e) in
    before_token ns (base fs) (frames_text fs ++ path_text p) equal_token (sign mark.Equal equal_token) refl
    (before_token ns (base fs) ((frames_text fs ++ path_text p) ++ sign mark.Equal equal_token ∷ []) zero_token (leaf number zero_token) refl
    (before_token ns (base fs) (((frames_text fs ++ path_text p) ++ sign mark.Equal equal_token ∷ []) ++ leaf number zero_token ∷ []) (closing_token by_square) (closing by_square (closing_token by_square)) refl
    (subst (Viable ns (base fs)) (update_spelled fs p (closing_token by_square)) v)))

pub times_placed : (t u : Tree) (m : Mark) (x : Token) (fs : Frames) → Placed t (timing u m x fs) → Placed (times u m x t) fs
times_placed t u m x fs p = record {
  frames = p.frames.0;
  fits = (p.frames.1, p.frames.2, p.frames.3, p.frames.4, p.fits);
  level = least_low fs;
  begins = begin_more fs (text u) (sign m x ∷ text t) p.frames.5;
}

pub times_spelled : (t u : Tree) (m : Mark) (x : Token) (fs : Frames) → frames_text fs ++ text (times u m x t) ≡ frames_text (timing u m x fs) ++ text t
times_spelled t u m x fs = simp append_assoc

pub bracket_completed : (ns : List (List ℕ)) (t : Tree) (h : Heading) (ts : Trees) (pre : List Terminal) (fs : Frames) → Completes ns fs → is_operand h ≡ true → Placed t (within h ts pre fs)
    → Viable ns (base fs) (frames_text (within h ts pre fs) ++ text t)
bracket_completed ns t h ts pre fs ends i p =
    before_token ns (base fs) (frames_text (within h ts pre fs) ++ text t) (closing_token (closes h)) (closing (closes h) (closing_token (closes h))) (closing_is ns (closes h))
    (subst (Viable ns (base fs)) (bracket_spelled fs h ts pre t (closing (closes h) (closing_token (closes h))))
    (ends (bracket h (more ts pre t) (closing_token (closes h))) (bracket_placed h ts pre t (closing_token (closes h)) fs i p)))

pub segment_completed : (ns : List (List ℕ)) (t : Tree) (q : Path) (o : Token) (ts : Trees) (pre : List Terminal) (fs : Frames) → Completes ns fs → Placed t (within (segment q o) ts pre fs)
    → Viable ns (base fs) (frames_text (within (segment q o) ts pre fs) ++ text t)
segment_completed ns t q o ts pre fs ends p =
    let c = closing_token by_square in
    before_token ns (base fs) (frames_text (within (segment q o) ts pre fs) ++ text t) c (closing by_square c) refl
    (subst (Viable ns (base fs)) (segment_spelled fs q o ts pre t c)
    (path_completed ns (part q o (more ts pre t) c) fs ends p.frames.0 (p.frames.1, one_part (segment q o) ts pre t fs p, omega arith)
    (subst (MayBegin fs) (append_assoc (path_text q) (opening square o ∷ []) ((texts ts ++ (pre ++ text t)) ++ closing by_square c ∷ [])) (begin_more fs (heading_text (segment q o)) ((texts ts ++ (pre ++ text t)) ++ closing by_square c ∷ []) p.frames.4))
    refl))

pub completed : (ns : List (List ℕ)) (fs : Frames) → Completes ns fs
completed ns (bottom σ) t p = ([], t, record { fits = p.fits; spelled = append-nil (text t) })
completed ns (over g fs) t p = subst (Viable ns (base fs)) (lead_spelled t g fs) (completed ns fs (led g t) (closed_lead t g fs p))
completed ns (timing u m x fs) t p = subst (Viable ns (base fs)) (times_spelled t u m x fs) (completed ns fs (times u m x t) (times_placed t u m x fs p))
completed ns (within (plain k o) ts pre fs) t p = bracket_completed ns t (plain k o) ts pre fs (completed ns fs) refl p
completed ns (within (length o) ts pre fs) t p = bracket_completed ns t (length o) ts pre fs (completed ns fs) refl p
completed ns (within (arguments f o) ts pre fs) t p = bracket_completed ns t (arguments f o) ts pre fs (completed ns fs) refl p
completed ns (within (index u o) ts pre fs) t p = bracket_completed ns t (index u o) ts pre fs (completed ns fs) refl p
completed ns (within (segment q o) ts pre fs) t p = segment_completed ns t q o ts pre fs (completed ns fs) p
completed ns (within (update q m x) ts pre fs) t p = bracket_completed ns t (update q m x) ts pre fs (completed ns fs) refl p
completed ns (within (below o i m x) ts pre fs) t p = bracket_completed ns t (below o i m x) ts pre fs (completed ns fs) refl p

pub want_ends : (ns : List (List ℕ)) (fs : Frames) → Stand fs → IsNoSequence fs → Viable ns (base fs) (frames_text fs)
want_ends ns fs s n =
    before_token ns (base fs) (frames_text fs) (filler (sort fs)) (leaf (filler_leaf (sort fs)) (filler (sort fs))) (filler_is ns (sort fs))
    (completed ns fs (operand (filler_leaf (sort fs)) (filler (sort fs))) (record {
      frames = s;
      fits = filler_takes (sort fs);
      level = least_low fs;
      begins = no_sequence_begins fs (leaf (filler_leaf (sort fs)) (filler (sort fs)) ∷ []) n;
    }))

pub bound_ends : (ns : List (List ℕ)) (o i : Token) (fs : Frames) → Holds (comparing o i fs) → Viable ns (base fs) (seen (comparing o i fs))
bound_ends ns o i fs h =
    before_token ns (base fs) (seen (comparing o i fs)) less_token (sign mark.Less less_token) refl
    (subst (Viable ns (base fs)) (ap (λ v. frames_text fs ++ v) (append-nil (heading_text (below o i mark.Less less_token))) ∙ sym (append_assoc (frames_text fs) (opening round o ∷ leaf low i ∷ []) (sign mark.Less less_token ∷ [])))
    (want_ends ns (within (below o i mark.Less less_token) none [] fs) (h.0, (h.1, refl), tt, refl, begin_more fs (opening round o ∷ leaf low i ∷ []) (sign mark.Less less_token ∷ []) h.2) tt))

pub name_ends : (ns : List (List ℕ)) (h : Heading) (ts : Trees) (pre : List Terminal) (fs : Frames) → Naming h ts pre fs → Viable ns (base fs) (seen (naming h ts pre fs))
name_ends ns h ts pre fs n =
    let l = terminal ns label_token in
    let r = subst (λ b. ReachedBy (base fs) (seen (naming h ts pre fs) ++ l ∷ []) (if b then Some (want (within h ts (pre ++ l ∷ []) fs)) else None)) (label_is ns) (names h ts pre fs l n) in
    before_token ns (base fs) (seen (naming h ts pre fs)) label_token l refl
    (subst (Viable ns (base fs)) r.spelled (want_ends ns (within h ts (pre ++ l ∷ []) fs) r.holds.0 r.holds.1))

pub path_ends : (ns : List (List ℕ)) (p : Path) (fs : Frames) → Holds (pathed p fs) → Viable ns (base fs) (seen (pathed p fs))
path_ends ns (field p x) fs h = path_completed ns (field p x) fs (completed ns fs) h.0 h.1 h.2 refl
path_ends ns (part p o ts c) fs h = path_completed ns (part p o ts c) fs (completed ns fs) h.0 h.1 h.2 refl
path_ends ns (head t o) fs h =
    let r = in_index_begins (head t o) fs (leaf number zero_token) h in
    before_token ns (base fs) (seen (pathed (head t o) fs)) zero_token (leaf number zero_token) refl
    (subst (Viable ns (base fs)) r.spelled (completed ns (within (index t o) none [] fs) (operand number zero_token) r.holds.0))

pub can_end : (ns : List (List ℕ)) (st : State) → Holds st → Viable ns (state_base st) (seen st)
can_end ns (want fs) h = want_ends ns fs h.0 h.1
can_end ns (got t fs) h = completed ns fs t h.0
can_end ns (naming h ts pre fs) n = name_ends ns h ts pre fs n
can_end ns (pathed p fs) h = path_ends ns p fs h
can_end ns (comparing o i fs) h = bound_ends ns o i fs h
can_end ns (indexing o fs) h =
    before_token ns (base fs) (seen (indexing o fs)) name_token (leaf low name_token) refl
    (subst (Viable ns (base fs)) (sym (append_assoc (frames_text fs) (opening round o ∷ []) (leaf low name_token ∷ [])))
    (bound_ends ns o name_token fs (h.0, h.1, begin_more fs (opening round o ∷ []) (leaf low name_token ∷ []) h.2)))

-- ---- what the reading says of the grammar

pub viable : (ns : List (List ℕ)) (σ : Sort) (us : List Terminal) (st : State) → reading (start σ) us ≡ Some st → Viable ns σ us
viable ns σ us st e =
    let r = reached_by σ us st e in
    subst (λ τ. Viable ns τ us) r.based (subst (Viable ns (state_base st)) r.spelled (can_end ns st r.holds))

pub reading_append : (st : State) (us vs : List Terminal) → reading st (us ++ vs) ≡ option_and_then (λ next. reading next vs) (reading st us)
reading_append st [] vs = refl
reading_append st (l ∷ us) vs = go (step st l) (λ next. reading_append next us vs)
  where
    go : (o : Option State) → ((next : State) → reading next (us ++ vs) ≡ option_and_then (λ last. reading last vs) (reading next us))
        → option_and_then (λ next. reading next (us ++ vs)) o ≡ option_and_then (λ last. reading last vs) (option_and_then (λ next. reading next us) o)
    go None h = refl
    go (Some next) h = h next

pub dead : (ns : List (List ℕ)) (σ : Sort) (us : List Terminal) → reading (start σ) us ≡ None → Viable ns σ us → ⊥
dead ns σ us e v =
    let vs = map (terminal ns) v.0 in
    let whole = complete σ (us ++ vs) v.1 v.2 in
    let split = reading_append (start σ) us vs in
    let nothing : reads (start σ) (us ++ vs) ≡ None = ap (option_and_then finish) (split ∙ ap (option_and_then (λ next. reading next vs)) e) in
    absurd (cc)

pub one_tree_of : (σ : Sort) (us : List Terminal) (a b : Tree) → Parse σ us a → Parse σ us b → a ≡ b
one_tree_of σ us a b p q = let e = complete σ us a p in let f = complete σ us b q in cc
