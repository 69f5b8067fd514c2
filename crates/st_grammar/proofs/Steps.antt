-- Each step of the reading goes from a state in order to one in order.
use Rattle.std.proofs.Common.{◌≡◌, ℕ, ◌+◌, ◌≤◌, List, [], ◌∷◌, ◌++◌, Bool, true, false, not, ◌&&◌, Option, Some, None, option_and_then, if◌then◌else◌, refl, sym, ap, subst, ◌∙◌, append_assoc, append-nil, arith}
use Rattle.st_num.specs.declared.mark.Mark.{Mark}
use Rattle.st_num.specs.declared.mark.Mark.TheVariants as mark
use Rattle.st_num.specs.declared.token.Token.{Token}
use Rattle.st_grammar.specs.declared.sort.Style.TheVariants.{Fields as fields}
use Rattle.st_grammar.specs.declared.sort.Leaf.TheVariants.{Low as low, Basic as basic, Variable as variable, Atom as atom, Number as number, Literal as literal, Function as function}
use Rattle.st_grammar.specs.declared.sort.Bracket.TheVariants.{Round as round, Square as square, Brace as brace, TickRound as tick_round, TickSquare as tick_square, TickBrace as tick_brace, Dollar as dollar}
use Rattle.st_grammar.specs.declared.sort.Closing.TheVariants.{ByRound as by_round, BySquare as by_square, ByBrace as by_brace, ByBar as by_bar}
use Rattle.st_grammar.specs.declared.sort.Sort.{Sort}
use Rattle.st_grammar.specs.declared.sort.Sort.TheVariants.{Expression as expression, Arithmetic as arithmetic, Notation as notation, Typ as typ, Count as count, Bound as bound}
use Rattle.st_grammar.specs.Terminals.{Terminal, leaf, dot, sign, opening, closing, other}
use Rattle.st_num.specs.Signs.{level as level_of, prefix_level, grouping_at}
use Rattle.st_grammar.specs.Levels.{computes, is_expression, juxtaposes, tight, has_level, prefix_right, is_less, is_change}
use Rattle.st_grammar.specs.Trees.{Tree, operand, post, times, bracket, led, left, ahead, items, Trees, none, more, Heading, plain, length, arguments, index, segment, update, below, Path, head, field, part, text, texts, heading_text, path_text}
use Rattle.st_grammar.specs.Grammar.{opens_length, is_label, SetsOff, is_function, follows, may_post, level, has_step, Fits, Parse}
use Rattle.st_grammar.specs.Reading.{Frames, bottom, within, over, timing, State, want, got, naming, pathed, indexing, comparing, sort, least, lower, ended, begin, extend, behind_square, behind_round, behind, after, in_index, in_path, name_field, name_index, bound_index, step, finish, reading, start}
use Rattle.st_grammar.proofs.LevelLemmas.{gap_low}
use Rattle.st_grammar.proofs.Sound.{frames_text, seen, base, state_base, MayBegin, Stand, Placed, IsBeforeName, Naming, IsNoSequence, Holds, Reached, ReachedBy, begin_more, closings, signs, posts, enters, index_first, begins, and_left, and_right, Lowered, lowers}

-- ---- a next element

pub follows_juxtaposes : (σ : Sort) (t : Tree) (l : Terminal) → follows σ t l ≡ true → juxtaposes σ ≡ true
follows_juxtaposes σ t (leaf k x) e = e
follows_juxtaposes σ t (dot x) e = absurd (cc)
follows_juxtaposes σ t (sign m x) e = absurd (cc)
follows_juxtaposes σ t (opening round x) e = and_left (juxtaposes σ) (not (is_function t && x.touching)) e
follows_juxtaposes σ t (opening square x) e = absurd (cc)
follows_juxtaposes σ t (opening brace x) e = e
follows_juxtaposes σ t (opening tick_round x) e = e
follows_juxtaposes σ t (opening tick_square x) e = e
follows_juxtaposes σ t (opening tick_brace x) e = e
follows_juxtaposes σ t (opening dollar x) e = e
follows_juxtaposes σ t (closing by_round x) e = absurd (cc)
follows_juxtaposes σ t (closing by_square x) e = absurd (cc)
follows_juxtaposes σ t (closing by_brace x) e = absurd (cc)
follows_juxtaposes σ t (closing by_bar x) e = go σ e
  where
    go : (τ : Sort) → opens_length by_bar τ ≡ true → juxtaposes τ ≡ true
    go (expression b) i = refl
    go arithmetic i = absurd (cc)
    go notation i = refl
    go typ i = absurd (cc)
    go count i = absurd (cc)
    go bound i = absurd (cc)
follows_juxtaposes σ t (other x) e = absurd (cc)

pub juxtaposed_low : (σ : Sort) (n : ℕ) → juxtaposes σ ≡ true → has_level σ n ≡ true → n ≤ 13
juxtaposed_low (expression b) n j h = grind arith
juxtaposed_low arithmetic n j h = absurd (cc)
juxtaposed_low notation n j h = grind arith
juxtaposed_low typ n j h = absurd (cc)
juxtaposed_low count n j h = absurd (cc)
juxtaposed_low bound n j h = absurd (cc)

pub ahead_near : (m : Mark) → prefix_right m ≤ prefix_level m + 1
ahead_near mark.Turnstile = omega arith
ahead_near m = omega arith

pub wide_enough : (fs : Frames) → Stand fs → juxtaposes (sort fs) ≡ true → IsNoSequence fs → least fs ≤ 14
wide_enough (bottom σ) s j n = omega arith
wide_enough (within (index t o) ts pre fs) s j n = omega arith
wide_enough (within (segment p o) ts pre fs) s j n = omega arith
wide_enough (within (plain k o) ts pre fs) s j n = omega arith
wide_enough (within (length o) ts pre fs) s j n = omega arith
wide_enough (within (arguments f o) ts pre fs) s j n = omega arith
wide_enough (within (update p m x) ts pre fs) s j n = omega arith
wide_enough (within (below o i m x) ts pre fs) s j n = omega arith
wide_enough (over (left l m x) fs) s j n = omega (arith, juxtaposed_low (sort fs) (level_of m) j s.1.0, gap_low (grouping_at (level_of m)))
wide_enough (over (ahead m x) fs) s j n = omega (arith, juxtaposed_low (sort fs) (prefix_level m) j s.1, ahead_near m)
wide_enough (over (items ts) fs) s j n = absurd n
wide_enough (timing t m x fs) s j n = omega arith

pub first_element : (t : Tree) (fs : Frames) → Placed t fs → tight ≤ level t → juxtaposes (sort fs) ≡ true → IsNoSequence fs → Stand (over (items (more none [] t)) fs)
first_element t fs p h j n = (p.frames, (j, (tt, refl, p.fits, h, tt), omega arith), wide_enough fs p.frames j n)

pub extends : (t : Tree) (fs : Frames) → Placed t fs → tight ≤ level t → juxtaposes (sort fs) ≡ true → Stand (extend t fs)
extends t (bottom σ) p h j = first_element t (bottom σ) p h j tt
extends t (within k ts pre fs) p h j = first_element t (within k ts pre fs) p h j tt
extends t (over (left l m x) fs) p h j = first_element t (over (left l m x) fs) p h j tt
extends t (over (ahead m x) fs) p h j = first_element t (over (ahead m x) fs) p h j tt
extends t (over (items ts) fs) p h j = (p.frames.0, (j, (p.frames.1.1, refl, p.fits, h, p.begins), omega arith), p.frames.2)
extends t (timing u m x fs) p h j = first_element t (timing u m x fs) p h j tt

pub extend_spelled : (t : Tree) (fs : Frames) → frames_text (extend t fs) ≡ frames_text fs ++ text t
extend_spelled t (bottom σ) = refl
extend_spelled t (within k ts pre fs) = refl
extend_spelled t (over (left l m x) fs) = refl
extend_spelled t (over (ahead m x) fs) = refl
extend_spelled t (over (items ts) fs) = sym (append_assoc (frames_text fs) (texts ts) (text t))
extend_spelled t (timing u m x fs) = refl

pub extend_base : (t : Tree) (fs : Frames) → base (extend t fs) ≡ base fs
extend_base t (bottom σ) = refl
extend_base t (within k ts pre fs) = refl
extend_base t (over (left l m x) fs) = refl
extend_base t (over (ahead m x) fs) = refl
extend_base t (over (items ts) fs) = refl
extend_base t (timing u m x fs) = refl

pub extend_begins : (t : Tree) (fs : Frames) (l : Terminal) → follows (sort fs) t l ≡ true → MayBegin (extend t fs) (l ∷ [])
extend_begins t (bottom σ) l e = e
extend_begins t (within k ts pre fs) l e = e
extend_begins t (over (left k m x) fs) l e = e
extend_begins t (over (ahead m x) fs) l e = e
extend_begins t (over (items ts) fs) l e = e
extend_begins t (timing u m x fs) l e = e

pub next_begins : (t : Tree) (fs : Frames) (l : Terminal) → Placed t fs → tight ≤ level t → follows (sort fs) t l ≡ true → ReachedBy (base fs) ((frames_text fs ++ text t) ++ l ∷ []) (begin (extend t fs) l)
next_begins t fs l p h e =
    subst (λ σ. ReachedBy σ ((frames_text fs ++ text t) ++ l ∷ []) (begin (extend t fs) l)) (extend_base t fs)
    (subst (λ us. ReachedBy (base (extend t fs)) (us ++ l ∷ []) (begin (extend t fs) l)) (extend_spelled t fs)
    (begins (extend t fs) l (extends t fs p h (follows_juxtaposes (sort fs) t l e)) (extend_begins t fs l e)))

-- ---- behind a part

pub squares : (t : Tree) (x : Token) (fs : Frames) → Placed t fs → tight ≤ level t → ReachedBy (base fs) ((frames_text fs ++ text t) ++ opening square x ∷ []) (behind_square x t fs)
squares t x fs p h = go (is_expression (sort fs)) refl
  where
    computed : (b : Bool) → computes (sort fs) ≡ b → ReachedBy (base fs) ((frames_text fs ++ text t) ++ opening square x ∷ []) (if b then Some (want (within (index t x) none [] fs)) else None)
    computed true e =
        enters (index t x) fs ((frames_text fs ++ text t) ++ opening square x ∷ []) p.frames (e, p.fits, h) (index_first (sort fs)) (begin_more fs (text t) (opening square x ∷ []) p.begins)
        (sym (append_assoc (frames_text fs) (text t) (opening square x ∷ [])))
    computed false e = tt

    go : (b : Bool) → is_expression (sort fs) ≡ b → ReachedBy (base fs) ((frames_text fs ++ text t) ++ opening square x ∷ []) (if b then Some (pathed (head t x) fs) else if computes (sort fs) then Some (want (within (index t x) none [] fs)) else None)
    go true e = record {
      holds = (p.frames, (e, p.fits, h), begin_more fs (text t) (opening square x ∷ []) p.begins);
      spelled = sym (append_assoc (frames_text fs) (text t) (opening square x ∷ []));
      based = refl;
    }
    go false e = computed (computes (sort fs)) refl

pub calls : (t : Tree) (x : Token) (fs : Frames) → Placed t fs → ReachedBy (base fs) ((frames_text fs ++ text t) ++ opening round x ∷ []) (behind_round x t fs)
calls (operand low f) x fs p = tt
calls (operand basic f) x fs p = tt
calls (operand variable f) x fs p = tt
calls (operand atom f) x fs p = tt
calls (operand number f) x fs p = tt
calls (operand literal f) x fs p = tt
calls (operand function f) x fs p = go (computes (sort fs) && x.touching) refl
  where
    go : (b : Bool) → computes (sort fs) && x.touching ≡ b → ReachedBy (base fs) ((frames_text fs ++ leaf function f ∷ []) ++ opening round x ∷ []) (if b then Some (want (within (arguments f x) none [] fs)) else None)
    go true e =
        enters (arguments f x) fs ((frames_text fs ++ leaf function f ∷ []) ++ opening round x ∷ []) p.frames (and_left _ _ e, and_right _ _ e) refl (begin_more fs (leaf function f ∷ []) (opening round x ∷ []) p.begins)
        (sym (append_assoc (frames_text fs) (leaf function f ∷ []) (opening round x ∷ [])))
    go false e = tt
calls (post t l) x fs p = tt
calls (times t m y c) x fs p = tt
calls (bracket h ts c) x fs p = tt
calls (led g t) x fs p = tt

pub behinds : (t : Tree) (fs : Frames) (l : Terminal) → Placed t fs → tight ≤ level t → ReachedBy (base fs) ((frames_text fs ++ text t) ++ l ∷ []) (behind t fs l)
behinds t fs (leaf k x) p h = tt
behinds t fs (dot x) p h = go (may_post (sort fs) t (dot x)) refl
  where
    go : (b : Bool) → may_post (sort fs) t (dot x) ≡ b → ReachedBy (base fs) ((frames_text fs ++ text t) ++ dot x ∷ []) (if b then Some (got (post t (dot x)) fs) else None)
    go true e = posts t (dot x) fs p h e
    go false e = tt
behinds t fs (sign m x) p h = signs t m x fs p h
behinds t fs (opening round x) p h = calls t x fs p
behinds t fs (opening square x) p h = squares t x fs p h
behinds t fs (opening brace x) p h = tt
behinds t fs (opening tick_round x) p h = tt
behinds t fs (opening tick_square x) p h = tt
behinds t fs (opening tick_brace x) p h = tt
behinds t fs (opening dollar x) p h = tt
behinds t fs (closing c x) p h = closings c x 0 t fs p
behinds t fs (other x) p h = tt

pub afters : (t : Tree) (fs : Frames) (l : Terminal) → Placed t fs → tight ≤ level t → ReachedBy (base fs) ((frames_text fs ++ text t) ++ l ∷ []) (after t fs l)
afters t fs l p h = go (follows (sort fs) t l) refl
  where
    go : (b : Bool) → follows (sort fs) t l ≡ b → ReachedBy (base fs) ((frames_text fs ++ text t) ++ l ∷ []) (if b then begin (extend t fs) l else behind t fs l)
    go true e = next_begins t fs l p h e
    go false e = behinds t fs l p h

-- ---- paths, names and counts

pub expression_computes : (σ : Sort) → is_expression σ ≡ true → computes σ ≡ true
expression_computes (expression b) e = refl
expression_computes arithmetic e = absurd (cc)
expression_computes notation e = absurd (cc)
expression_computes typ e = absurd (cc)
expression_computes count e = absurd (cc)
expression_computes bound e = absurd (cc)

pub in_index_begins : (p : Path) (fs : Frames) (l : Terminal) → Holds (pathed p fs) → ReachedBy (base fs) ((frames_text fs ++ path_text p) ++ l ∷ []) (in_index p fs l)
in_index_begins (field p x) fs l h = tt
in_index_begins (part p o ts c) fs l h = tt
in_index_begins (head t o) fs l h =
    subst (λ us. ReachedBy (base fs) (us ++ l ∷ []) (begin (within (index t o) none [] fs) l)) (ap (λ v. frames_text fs ++ v) (append-nil (heading_text (index t o))))
    (begins (within (index t o) none [] fs) l (h.0, (expression_computes (sort fs) h.1.0, h.1.1, h.1.2), tt, index_first (sort fs), h.2) tt)

pub paths : (p : Path) (fs : Frames) (l : Terminal) → Holds (pathed p fs) → ReachedBy (base fs) ((frames_text fs ++ path_text p) ++ l ∷ []) (in_path p fs l)
paths p fs (dot x) h = record {
  holds = (h.0, h.1, begin_more fs (path_text p) (dot x ∷ []) h.2);
  spelled = sym (append_assoc (frames_text fs) (path_text p) (dot x ∷ []));
  based = refl;
}
paths p fs (opening square x) h =
    enters (segment p x) fs ((frames_text fs ++ path_text p) ++ opening square x ∷ []) h.0 h.1 refl (begin_more fs (path_text p) (opening square x ∷ []) h.2)
    (sym (append_assoc (frames_text fs) (path_text p) (opening square x ∷ [])))
paths p fs (sign m x) h = go (has_step p && is_change m) refl
  where
    go : (b : Bool) → has_step p && is_change m ≡ b → ReachedBy (base fs) ((frames_text fs ++ path_text p) ++ sign m x ∷ []) (if b then Some (want (within (update p m x) none [] fs)) else in_index p fs (sign m x))
    go true e =
        enters (update p m x) fs ((frames_text fs ++ path_text p) ++ sign m x ∷ []) h.0 (h.1, and_left _ _ e, and_right _ _ e) refl (begin_more fs (path_text p) (sign m x ∷ []) h.2)
        (sym (append_assoc (frames_text fs) (path_text p) (sign m x ∷ [])))
    go false e = in_index_begins p fs (sign m x) h
paths p fs (leaf k x) h = in_index_begins p fs (leaf k x) h
paths p fs (opening round x) h = in_index_begins p fs (opening round x) h
paths p fs (opening brace x) h = in_index_begins p fs (opening brace x) h
paths p fs (opening tick_round x) h = in_index_begins p fs (opening tick_round x) h
paths p fs (opening tick_square x) h = in_index_begins p fs (opening tick_square x) h
paths p fs (opening tick_brace x) h = in_index_begins p fs (opening tick_brace x) h
paths p fs (opening dollar x) h = in_index_begins p fs (opening dollar x) h
paths p fs (closing c x) h = in_index_begins p fs (closing c x) h
paths p fs (other x) h = in_index_begins p fs (other x) h

-- a name sets off a field
pub sets_off_field : (ts : Trees) (pre : List Terminal) (l : Terminal) → IsBeforeName ts pre → is_label l ≡ true → SetsOff fields ts (pre ++ l ∷ [])
sets_off_field none pre l b e = (l, ap (λ q. q ++ l ∷ []) b, e)
sets_off_field (more ts q t) pre l b e = (b.0, b.1, l, ap (λ r. r ++ l ∷ []) b.2, b.3, e)

pub names : (h : Heading) (ts : Trees) (pre : List Terminal) (fs : Frames) (l : Terminal) → Naming h ts pre fs → ReachedBy (base fs) (seen (naming h ts pre fs) ++ l ∷ []) (name_field h ts pre fs l)
names h ts pre fs l n = go (is_label l) refl
  where
    go : (b : Bool) → is_label l ≡ b → ReachedBy (base fs) (seen (naming h ts pre fs) ++ l ∷ []) (if b then Some (want (within h ts (pre ++ l ∷ []) fs)) else None)
    go true e = record {
      holds = ((n.frames, n.heading, n.each, subst (λ y. SetsOff y ts (pre ++ l ∷ [])) (sym n.is_fields) (sets_off_field ts pre l n.before e), n.begins), tt);
      spelled = simp append_assoc;
      based = refl;
    }
    go false e = tt

pub indexes : (o : Token) (fs : Frames) (l : Terminal) → Holds (indexing o fs) → ReachedBy (base fs) (seen (indexing o fs) ++ l ∷ []) (name_index o fs l)
indexes o fs (leaf low i) h = record {
  holds = (h.0, h.1, begin_more fs (opening round o ∷ []) (leaf low i ∷ []) h.2);
  spelled = sym (append_assoc (frames_text fs) (opening round o ∷ []) (leaf low i ∷ []));
  based = refl;
}
indexes o fs (leaf basic x) h = tt
indexes o fs (leaf variable x) h = tt
indexes o fs (leaf atom x) h = tt
indexes o fs (leaf number x) h = tt
indexes o fs (leaf literal x) h = tt
indexes o fs (leaf function x) h = tt
indexes o fs (dot x) h = tt
indexes o fs (sign m x) h = tt
indexes o fs (opening k x) h = tt
indexes o fs (closing c x) h = tt
indexes o fs (other x) h = tt

pub compares : (o i : Token) (fs : Frames) (l : Terminal) → Holds (comparing o i fs) → ReachedBy (base fs) (seen (comparing o i fs) ++ l ∷ []) (bound_index o i fs l)
compares o i fs (sign m x) h = go (is_less m) refl
  where
    go : (b : Bool) → is_less m ≡ b → ReachedBy (base fs) (seen (comparing o i fs) ++ sign m x ∷ []) (if b then Some (want (within (below o i m x) none [] fs)) else None)
    go true e =
        enters (below o i m x) fs (seen (comparing o i fs) ++ sign m x ∷ []) h.0 (h.1, e) refl (begin_more fs (opening round o ∷ leaf low i ∷ []) (sign m x ∷ []) h.2)
        (sym (append_assoc (frames_text fs) (opening round o ∷ leaf low i ∷ []) (sign m x ∷ [])))
    go false e = tt
compares o i fs (leaf k x) h = tt
compares o i fs (dot x) h = tt
compares o i fs (opening k x) h = tt
compares o i fs (closing c x) h = tt
compares o i fs (other x) h = tt

-- ---- steps

pub no_sequence_begins : (fs : Frames) (us : List Terminal) → IsNoSequence fs → MayBegin fs us
no_sequence_begins (bottom σ) us n = tt
no_sequence_begins (within k ts pre fs) us n = tt
no_sequence_begins (over (left t m x) fs) us n = tt
no_sequence_begins (over (ahead m x) fs) us n = tt
no_sequence_begins (over (items ts) fs) us n = absurd n
no_sequence_begins (timing t m x fs) us n = tt

pub steps : (st : State) (l : Terminal) → Holds st → ReachedBy (state_base st) (seen st ++ l ∷ []) (step st l)
steps (want fs) l h = begins fs l h.0 (no_sequence_begins fs (l ∷ []) h.1)
steps (got t fs) l h = afters t fs l h.0 h.1
steps (naming h ts pre fs) l n = names h ts pre fs l n
steps (pathed p fs) l h = paths p fs l h
steps (indexing o fs) l h = indexes o fs l h
steps (comparing o i fs) l h = compares o i fs l h

pub read_on : (σ : Sort) (w : List Terminal) (st : State) (us : List Terminal) → Reached σ us st → ReachedBy σ (us ++ w) (reading st w)
read_on σ [] st us r = record { holds = r.holds; spelled = r.spelled ∙ sym (append-nil us); based = r.based }
read_on σ (l ∷ w) st us r =
    go (step st l) (subst (λ τ. ReachedBy τ (us ++ l ∷ []) (step st l)) r.based (subst (λ u. ReachedBy (state_base st) (u ++ l ∷ []) (step st l)) r.spelled (steps st l r.holds))) (λ next h. read_on σ w next (us ++ l ∷ []) h)
  where
    go : (o : Option State) → ReachedBy σ (us ++ l ∷ []) o → ((next : State) → Reached σ (us ++ l ∷ []) next → ReachedBy σ ((us ++ l ∷ []) ++ w) (reading next w)) → ReachedBy σ (us ++ l ∷ w) (option_and_then (λ next. reading next w) o)
    go None h rest = tt
    go (Some next) h rest = subst (λ u. ReachedBy σ u (reading next w)) (append_assoc us (l ∷ []) w) (rest next h)

pub start_reached : (σ : Sort) → Reached σ [] (start σ)
start_reached σ = record { holds = (tt, tt); spelled = refl; based = refl }

pub reached_by : (σ : Sort) (us : List Terminal) (st : State) → reading (start σ) us ≡ Some st → Reached σ us st
reached_by σ us st e = subst (ReachedBy σ us) e (read_on σ us (start σ) [] (start_reached σ))

-- ---- the end

pub ends_lowered : (t : Tree) (fs : Frames) (σ τ : Sort) (us : List Terminal) (u : Tree) → Lowered σ τ us (t, fs) → ended (t, fs) ≡ Some u → Parse σ us u
ends_lowered t (bottom ρ) σ τ us u r e =
    let same : t ≡ u = cc in
    let based : ρ ≡ σ = r.based in
    subst (λ v. Parse σ us v) same (record { fits = subst (λ υ. Fits υ t) based r.placed.fits; spelled = sym r.spelled })
ends_lowered t (within h ts pre fs) σ τ us u r e = absurd (cc)
ends_lowered t (over g fs) σ τ us u r e = absurd (cc)
ends_lowered t (timing v m x fs) σ τ us u r e = absurd (cc)

pub finishes : (σ : Sort) (us : List Terminal) (st : State) (u : Tree) → Reached σ us st → finish st ≡ Some u → Parse σ us u
finishes σ us (want fs) u r e = absurd (cc)
finishes σ us (naming h ts pre fs) u r e = absurd (cc)
finishes σ us (pathed p fs) u r e = absurd (cc)
finishes σ us (indexing o fs) u r e = absurd (cc)
finishes σ us (comparing o i fs) u r e = absurd (cc)
finishes σ us (got t fs) u r e =
    subst (λ τ. Parse τ us u) r.based
    (ends_lowered (lower 0 t fs).0 (lower 0 t fs).1 (base fs) (sort fs) us u (lowers 0 t fs us r.holds.0 r.spelled) e)

pub sound : (σ : Sort) (us : List Terminal) (st : State) (u : Tree) → reading (start σ) us ≡ Some st → finish st ≡ Some u → Parse σ us u
sound σ us st u e f = finishes σ us st u (reached_by σ us st e) f
