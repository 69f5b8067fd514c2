-- What is read is a tree of the grammar: each step keeps what is open in order.
use Rattle.std.proofs.Common.{◌≡◌, ℕ, ◌≤◌, List, [], ◌∷◌, ◌++◌, Bool, true, false, ◌&&◌, Option, Some, None, nat_le, if◌then◌else◌, refl, sym, ap, subst, ◌∙◌, append_assoc, append-nil, arith}
use Rattle.st_num.specs.declared.mark.Mark.{Mark}
use Rattle.st_num.specs.declared.token.Token.{Token}
use Rattle.st_grammar.specs.declared.sort.Style.{Style}
use Rattle.st_grammar.specs.declared.sort.Style.TheVariants.{Lone as lone, Parts as parts, Fields as fields, Ends as ends, Run as run}
use Rattle.st_grammar.specs.declared.sort.Leaf.TheVariants.{Low as low}
use Rattle.st_grammar.specs.declared.sort.Bracket.{Bracket}
use Rattle.st_grammar.specs.declared.sort.Bracket.TheVariants.{Round as round, Square as square, Brace as brace, TickRound as tick_round, TickSquare as tick_square, TickBrace as tick_brace, Dollar as dollar}
use Rattle.st_grammar.specs.declared.sort.Closing.{Closing}
use Rattle.st_grammar.specs.declared.sort.Closing.TheVariants.{ByRound as by_round, BySquare as by_square, ByBrace as by_brace, ByBar as by_bar}
use Rattle.st_grammar.specs.declared.sort.Sort.{Sort}
use Rattle.st_grammar.specs.declared.sort.Sort.TheVariants.{Expression as expression, Arithmetic as arithmetic, Notation as notation, Typ as typ, Count as count, Bound as bound}
use Rattle.st_grammar.specs.Terminals.{Terminal, leaf, dot, sign, opening, closing, other}
use Rattle.st_num.specs.Signs.{level as level_of, prefix_level}
use Rattle.st_grammar.specs.Levels.{takes, encloses, computes, is_expression, is_count, tight, has_level, left_of, is_caret, is_comma, is_colon}
use Rattle.st_grammar.specs.Trees.{Tree, operand, post, bracket, led, Lead, left, ahead, items, Trees, none, more, Heading, plain, length, arguments, index, segment, update, below, Path, part, closes, text, lead_text, texts, heading_text, path_text, agree}
use Rattle.st_grammar.specs.Grammar.{bracket_style, index_style, style, sort_in, least_in, SetsOff, text_follows, FollowsAll, may_post, lead_level, level, is_operand, MayEnd, MayFollow, Fits, LeadFits, EachFits, HeadingFits, PathFits}
use Rattle.st_grammar.specs.Reading.{Frames, bottom, within, over, timing, State, want, got, naming, pathed, indexing, comparing, sort, least, settle, reach, lower, shut, close, no_arguments, begin_closing, begin_opening, begin, next_part, separate, join, pull, behind_sign}
use Rattle.st_grammar.proofs.LevelLemmas.{ahead_low, right_low}
use Rattle.st_grammar.proofs.Complete.{lead_low, least_tight, no_run}

-- ---- what was read, and what is in order

-- the tokens that led to the frames, and to a state
abbrev pub frames_text : Frames → List Terminal
frames_text (bottom σ) = []
frames_text (within h ts pre fs) = frames_text fs ++ (heading_text h ++ (texts ts ++ pre))
frames_text (over g fs) = frames_text fs ++ lead_text g
frames_text (timing t m x fs) = frames_text fs ++ (text t ++ sign m x ∷ [])

abbrev pub seen : State → List Terminal
seen (want fs) = frames_text fs
seen (got t fs) = frames_text fs ++ text t
seen (naming h ts pre fs) = frames_text fs ++ (heading_text h ++ (texts ts ++ pre))
seen (pathed p fs) = frames_text fs ++ path_text p
seen (indexing o fs) = frames_text fs ++ opening round o ∷ []
seen (comparing o i fs) = frames_text fs ++ opening round o ∷ leaf low i ∷ []

-- the sort of the whole
abbrev pub base : Frames → Sort
base (bottom σ) = σ
base (within h ts pre fs) = base fs
base (over g fs) = base fs
base (timing t m x fs) = base fs

abbrev pub state_base : State → Sort
state_base (want fs) = base fs
state_base (got t fs) = base fs
state_base (naming h ts pre fs) = base fs
state_base (pathed p fs) = base fs
state_base (indexing o fs) = base fs
state_base (comparing o i fs) = base fs

-- The tokens may begin a part there.
abbrev pub MayBegin : Frames → List Terminal → Type 0
MayBegin (over (items ts) fs) w = FollowsAll (sort fs) ts w
MayBegin fs w = Unit {0}

-- each frame holds what its part allows
abbrev pub Stand : Frames → Type 0
Stand (bottom σ) = Unit {0}
Stand (within h ts pre fs) =
    Stand fs × HeadingFits (sort fs) h × EachFits (sort_in (sort fs) h) (style (sort fs) h) (least_in h) ts
    × SetsOff (style (sort fs) h) ts pre × MayBegin fs (heading_text h)
Stand (over g fs) = Stand fs × LeadFits (sort fs) g × (least fs ≤ lead_level g)
Stand (timing t m x fs) =
    Stand fs × (is_caret m ≡ true) × (is_expression (sort fs) ≡ true) × Fits (sort fs) t × (tight ≤ level t) × MayBegin fs (text t)

-- the tree stands well in the frames
pub record Placed (t : Tree) (fs : Frames) : Type 0 where
  pub frames : Stand fs
  pub fits : Fits (sort fs) t
  pub level : least fs ≤ level t
  pub begins : MayBegin fs (text t)

-- what stands before the name of a field
abbrev pub IsBeforeName : Trees → List Terminal → Type 0
IsBeforeName none pre = pre ≡ []
IsBeforeName (more ts q t) pre = (m : Mark) × (x : Token) × (pre ≡ sign m x ∷ []) × (is_comma m ≡ true)

pub record Naming (h : Heading) (ts : Trees) (pre : List Terminal) (fs : Frames) : Type 0 where
  pub frames : Stand fs
  pub heading : HeadingFits (sort fs) h
  pub each : EachFits (sort_in (sort fs) h) (style (sort fs) h) (least_in h) ts
  pub before : IsBeforeName ts pre
  pub begins : MayBegin fs (heading_text h)
  pub is_fields : style (sort fs) h ≡ fields

-- The innermost frame is no sequence.
abbrev pub IsNoSequence : Frames → Type 0
IsNoSequence (over (items ts) fs) = ⊥
IsNoSequence fs = Unit {0}

abbrev pub Holds : State → Type 0
Holds (want fs) = Stand fs × IsNoSequence fs
Holds (got t fs) = Placed t fs × (tight ≤ level t)
Holds (naming h ts pre fs) = Naming h ts pre fs
Holds (pathed p fs) = Stand fs × PathFits (sort fs) p × MayBegin fs (path_text p)
Holds (indexing o fs) = Stand fs × (is_count (sort fs) ≡ true) × MayBegin fs (opening round o ∷ [])
Holds (comparing o i fs) = Stand fs × (is_count (sort fs) ≡ true) × MayBegin fs (opening round o ∷ leaf low i ∷ [])

-- a state in order, reached by these tokens
pub record Reached (σ : Sort) (us : List Terminal) (st : State) : Type 0 where
  pub holds : Holds st
  pub spelled : seen st ≡ us
  pub based : state_base st ≡ σ

abbrev pub ReachedBy : Sort → List Terminal → Option State → Type 0
ReachedBy σ us None = Unit {0}
ReachedBy σ us (Some st) = Reached σ us st

-- ---- small facts

pub least_low : (fs : Frames) → least fs ≤ tight
least_low (bottom σ) = omega arith
least_low (within h ts pre fs) = least_tight h
least_low (over (left l m x) fs) = omega (arith, right_low m)
least_low (over (ahead m x) fs) = omega (arith, ahead_low m)
least_low (over (items ts) fs) = omega arith
least_low (timing t m x fs) = omega arith

pub text_follows_more : (σ : Sort) (u : Tree) (us vs : List Terminal) → text_follows σ u us ≡ true → text_follows σ u (us ++ vs) ≡ true
text_follows_more σ u [] vs e = absurd (cc)
text_follows_more σ u (l ∷ us) vs e = e

pub begin_more : (fs : Frames) (us vs : List Terminal) → MayBegin fs us → MayBegin fs (us ++ vs)
begin_more (bottom σ) us vs e = tt
begin_more (within h ts pre fs) us vs e = tt
begin_more (over (left l m x) fs) us vs e = tt
begin_more (over (ahead m x) fs) us vs e = tt
begin_more (over (items none) fs) us vs e = tt
begin_more (over (items (more ts pre u)) fs) us vs e = text_follows_more (sort fs) u us vs e
begin_more (timing t m x fs) us vs e = tt

pub wide_begins : (fs : Frames) (us : List Terminal) → least fs ≤ 18 → MayBegin fs us
wide_begins (bottom σ) us h = tt
wide_begins (within k ts pre fs) us h = tt
wide_begins (over (left l m x) fs) us h = tt
wide_begins (over (ahead m x) fs) us h = tt
wide_begins (over (items ts) fs) us h = absurd (omega arith)
wide_begins (timing t m x fs) us h = tt

pub may_follow : (h : Heading) (σ τ : Sort) (ts : Trees) (w : List Terminal) → MayFollow τ (style σ h) ts w
may_follow h σ τ ts w = go (style σ h) refl
  where
    go : (y : Style) → style σ h ≡ y → MayFollow τ y ts w
    go lone e = tt
    go parts e = tt
    go fields e = tt
    go ends e = tt
    go run e = absurd (no_run h σ e)

-- a next part of a bracket
pub one_part : (h : Heading) (ts : Trees) (pre : List Terminal) (t : Tree) (fs : Frames) → Placed t (within h ts pre fs)
    → EachFits (sort_in (sort fs) h) (style (sort fs) h) (least_in h) (more ts pre t)
one_part h ts pre t fs p = (p.frames.2, p.frames.3, p.fits, p.level, may_follow h (sort fs) (sort_in (sort fs) h) ts (text t))

pub may_end : (g : Lead) (fs : Frames) (w : List Terminal) → MayBegin (over g fs) w → MayEnd (sort fs) g w
may_end (left l m x) fs w e = tt
may_end (ahead m x) fs w e = tt
may_end (items ts) fs w e = e

-- what leads to a last part closes over it
pub closed_lead : (t : Tree) (g : Lead) (fs : Frames) → Placed t (over g fs) → Placed (led g t) fs
closed_lead t g fs p = record {
  frames = p.frames.0;
  fits = (p.frames.1, p.fits, p.level, may_end g fs (text t) p.begins);
  level = p.frames.2;
  begins = wide_begins fs (text (led g t)) (omega (arith, p.frames.2, lead_low g));
}

pub lead_spelled : (t : Tree) (g : Lead) (fs : Frames) → frames_text fs ++ text (led g t) ≡ frames_text (over g fs) ++ text t
lead_spelled t g fs = sym (append_assoc (frames_text fs) (lead_text g) (text t))

-- a part with what is open round it, after some closed
pub record Lowered (σ τ : Sort) (us : List Terminal) (p : Tree × Frames) : Type 0 where
  pub placed : Placed p.0 p.1
  pub spelled : frames_text p.1 ++ text p.0 ≡ us
  pub based : base p.1 ≡ σ
  pub sorted : sort p.1 ≡ τ

pub lowers : (n : ℕ) (t : Tree) (fs : Frames) (us : List Terminal) → Placed t fs → frames_text fs ++ text t ≡ us → Lowered (base fs) (sort fs) us (lower n t fs)
lowers n t (bottom σ) us p e = record { placed = p; spelled = e; based = refl; sorted = refl }
lowers n t (within h ts pre fs) us p e = record { placed = p; spelled = e; based = refl; sorted = refl }
lowers n t (timing u m x fs) us p e = record { placed = p; spelled = e; based = refl; sorted = refl }
lowers n t (over g fs) us p e = go (nat_le (reach g) n) (lowers n (led g t) fs us (closed_lead t g fs p) (lead_spelled t g fs ∙ e))
  where
    go : (b : Bool) → Lowered (base fs) (sort fs) us (lower n (led g t) fs) → Lowered (base fs) (sort fs) us (if b then (t, over g fs) else lower n (led g t) fs)
    go true r = record { placed = p; spelled = e; based = refl; sorted = refl }
    go false r = r

-- a part that is read settles
pub settles : (t : Tree) (fs : Frames) (us : List Terminal) → Placed t fs → tight ≤ level t → frames_text fs ++ text t ≡ us → Reached (base fs) us (settle t fs)
settles t (bottom σ) us p h e = record { holds = (p, h); spelled = e; based = refl }
settles t (within k ts pre fs) us p h e = record { holds = (p, h); spelled = e; based = refl }
settles t (over g fs) us p h e = record { holds = (p, h); spelled = e; based = refl }
settles t (timing u m x fs) us p h e = record {
  holds = (
    record {
      frames = p.frames.0;
      fits = (p.frames.1, p.frames.2, p.frames.3, p.frames.4, p.fits);
      level = least_low fs;
      begins = begin_more fs (text u) (sign m x ∷ text t) p.frames.5;
    },
    omega arith,
  );
  spelled =
      ap (λ v. frames_text fs ++ v) (sym (append_assoc (text u) (sign m x ∷ []) (text t)))
      ∙ sym (append_assoc (frames_text fs) (text u ++ sign m x ∷ []) (text t)) ∙ e;
  based = refl;
}

-- ---- brackets

pub bracket_spelled : (fs : Frames) (h : Heading) (ts : Trees) (pre : List Terminal) (t : Tree) (c : Terminal)
    → frames_text fs ++ (heading_text h ++ ((texts ts ++ (pre ++ text t)) ++ c ∷ [])) ≡ (frames_text (within h ts pre fs) ++ text t) ++ c ∷ []
bracket_spelled fs h ts pre t c = simp append_assoc

pub segment_spelled : (fs : Frames) (p : Path) (o : Token) (ts : Trees) (pre : List Terminal) (t : Tree) (c : Token)
    → frames_text fs ++ path_text (part p o (more ts pre t) c) ≡ (frames_text (within (segment p o) ts pre fs) ++ text t) ++ closing by_square c ∷ []
segment_spelled fs p o ts pre t c = simp append_assoc

pub bracket_placed : (h : Heading) (ts : Trees) (pre : List Terminal) (t : Tree) (c : Token) (fs : Frames) → is_operand h ≡ true → Placed t (within h ts pre fs)
    → Placed (bracket h (more ts pre t) c) fs
bracket_placed h ts pre t c fs i p = record {
  frames = p.frames.0;
  fits = (i, p.frames.1, one_part h ts pre t fs p, tt);
  level = least_low fs;
  begins = begin_more fs (heading_text h) (texts (more ts pre t) ++ closing (closes h) c ∷ []) p.frames.4;
}

pub shuts : (h : Heading) (ts : Trees) (pre : List Terminal) (t : Tree) (x : Token) (fs : Frames) (us : List Terminal) → Placed t (within h ts pre fs)
    → frames_text (within h ts pre fs) ++ text t ≡ us → Reached (base fs) (us ++ closing (closes h) x ∷ []) (shut h (more ts pre t) x fs)
shuts h ts pre t x fs us p e = go h p e
  where
    whole : (k : Heading) → is_operand k ≡ true → Placed t (within k ts pre fs) → frames_text (within k ts pre fs) ++ text t ≡ us
        → Reached (base fs) (us ++ closing (closes k) x ∷ []) (settle (bracket k (more ts pre t) x) fs)
    whole k i q s = settles (bracket k (more ts pre t) x) fs (us ++ closing (closes k) x ∷ []) (bracket_placed k ts pre t x fs i q) (omega arith) (bracket_spelled fs k ts pre t (closing (closes k) x) ∙ ap (λ v. v ++ closing (closes k) x ∷ []) s)

    go : (k : Heading) → Placed t (within k ts pre fs) → frames_text (within k ts pre fs) ++ text t ≡ us
        → Reached (base fs) (us ++ closing (closes k) x ∷ []) (shut k (more ts pre t) x fs)
    go (plain b o) q s = whole (plain b o) refl q s
    go (length o) q s = whole (length o) refl q s
    go (arguments f o) q s = whole (arguments f o) refl q s
    go (index u o) q s = whole (index u o) refl q s
    go (segment r o) q s = record {
      holds = (q.frames.0, (q.frames.1, one_part (segment r o) ts pre t fs q, omega arith), subst (MayBegin fs) (append_assoc (path_text r) (opening square o ∷ []) ((texts ts ++ (pre ++ text t)) ++ closing by_square x ∷ [])) (begin_more fs (heading_text (segment r o)) ((texts ts ++ (pre ++ text t)) ++ closing by_square x ∷ []) q.frames.4));
      spelled = segment_spelled fs r o ts pre t x ∙ ap (λ v. v ++ closing by_square x ∷ []) s;
      based = refl;
    }
    go (update r m o) q s = whole (update r m o) refl q s
    go (below o i m y) q s = whole (below o i m y) refl q s

pub agree_same : (c d : Closing) → agree c d ≡ true → c ≡ d
agree_same by_round by_round e = refl
agree_same by_round by_square e = absurd (cc)
agree_same by_round by_brace e = absurd (cc)
agree_same by_round by_bar e = absurd (cc)
agree_same by_square by_round e = absurd (cc)
agree_same by_square by_square e = refl
agree_same by_square by_brace e = absurd (cc)
agree_same by_square by_bar e = absurd (cc)
agree_same by_brace by_round e = absurd (cc)
agree_same by_brace by_square e = absurd (cc)
agree_same by_brace by_brace e = refl
agree_same by_brace by_bar e = absurd (cc)
agree_same by_bar by_round e = absurd (cc)
agree_same by_bar by_square e = absurd (cc)
agree_same by_bar by_brace e = absurd (cc)
agree_same by_bar by_bar e = refl

pub closes_lowered : (c : Closing) (x : Token) (t : Tree) (fs : Frames) (σ τ : Sort) (us : List Terminal) → Lowered σ τ us (t, fs) → ReachedBy σ (us ++ closing c x ∷ []) (close c x (t, fs))
closes_lowered c x t (bottom ρ) σ τ us r = tt
closes_lowered c x t (over g fs) σ τ us r = tt
closes_lowered c x t (timing u m y fs) σ τ us r = tt
closes_lowered c x t (within h ts pre fs) σ τ us r = go (agree (closes h) c) refl
  where
    go : (b : Bool) → agree (closes h) c ≡ b → ReachedBy σ (us ++ closing c x ∷ []) (if b then Some (shut h (more ts pre t) x fs) else None)
    go true e =
        subst (λ ρ. Reached ρ (us ++ closing c x ∷ []) (shut h (more ts pre t) x fs)) r.based
        (subst (λ d. Reached (base fs) (us ++ closing d x ∷ []) (shut h (more ts pre t) x fs)) (agree_same (closes h) c e)
        (shuts h ts pre t x fs us r.placed r.spelled))
    go false e = tt

-- the same, of what is closed first
pub closings : (c : Closing) (x : Token) (n : ℕ) (t : Tree) (fs : Frames) → Placed t fs → ReachedBy (base fs) ((frames_text fs ++ text t) ++ closing c x ∷ []) (close c x (lower n t fs))
closings c x n t fs p = closes_lowered c x (lower n t fs).0 (lower n t fs).1 (base fs) (sort fs) (frames_text fs ++ text t) (lowers n t fs (frames_text fs ++ text t) p refl)

-- ---- signs

pub next_spelled : (fs : Frames) (h : Heading) (ts : Trees) (pre : List Terminal) (t : Tree) (l : Terminal)
    → frames_text fs ++ (heading_text h ++ ((texts ts ++ (pre ++ text t)) ++ l ∷ [])) ≡ (frames_text (within h ts pre fs) ++ text t) ++ l ∷ []
next_spelled fs h ts pre t l = bracket_spelled fs h ts pre t l

pub separates : (m : Mark) (x : Token) (t : Tree) (h : Heading) (ts : Trees) (pre : List Terminal) (fs : Frames) (us : List Terminal) → Placed t (within h ts pre fs)
    → frames_text (within h ts pre fs) ++ text t ≡ us → ReachedBy (base fs) (us ++ sign m x ∷ []) (next_part (style (sort fs) h) m x h ts (more ts pre t) fs)
separates m x t h ts pre fs us p e = go (style (sort fs) h) refl
  where
    spelled : frames_text fs ++ (heading_text h ++ (texts (more ts pre t) ++ sign m x ∷ [])) ≡ us ++ sign m x ∷ []
    spelled = next_spelled fs h ts pre t (sign m x) ∙ ap (λ v. v ++ sign m x ∷ []) e

    stands : SetsOff (style (sort fs) h) (more ts pre t) (sign m x ∷ []) → Reached (base fs) (us ++ sign m x ∷ []) (want (within h (more ts pre t) (sign m x ∷ []) fs))
    stands s = record { holds = ((p.frames.0, p.frames.1, one_part h ts pre t fs p, s, p.frames.4), tt); spelled = spelled; based = refl }

    first : (ws : Trees) → SetsOff ends (more ws pre t) (sign m x ∷ []) → SetsOff ends (more ws pre t) (sign m x ∷ [])
    first ws s = s

    go : (y : Style) → style (sort fs) h ≡ y → ReachedBy (base fs) (us ++ sign m x ∷ []) (next_part y m x h ts (more ts pre t) fs)
    go lone s = tt
    go parts s = comma (is_comma m) refl
      where
        comma : (b : Bool) → is_comma m ≡ b → ReachedBy (base fs) (us ++ sign m x ∷ []) (if b then Some (want (within h (more ts pre t) (sign m x ∷ []) fs)) else None)
        comma true i = stands (subst (λ y. SetsOff y (more ts pre t) (sign m x ∷ [])) (sym s) (m, x, refl, i))
        comma false i = tt
    go fields s = comma (is_comma m) refl
      where
        comma : (b : Bool) → is_comma m ≡ b → ReachedBy (base fs) (us ++ sign m x ∷ []) (if b then Some (naming h (more ts pre t) (sign m x ∷ []) fs) else None)
        comma true i = record {
          holds = record { frames = p.frames.0; heading = p.frames.1; each = one_part h ts pre t fs p; before = (m, x, refl, i); begins = p.frames.4; is_fields = s };
          spelled = spelled;
          based = refl;
        }
        comma false i = tt
    go ends s = colon ts refl
      where
        colon : (ws : Trees) → ts ≡ ws → ReachedBy (base fs) (us ++ sign m x ∷ []) (next_part ends m x h ws (more ts pre t) fs)
        colon none w = is_it (is_colon m) refl
          where
            is_it : (b : Bool) → is_colon m ≡ b → ReachedBy (base fs) (us ++ sign m x ∷ []) (if b then Some (want (within h (more ts pre t) (sign m x ∷ []) fs)) else None)
            is_it true i = stands (subst (λ y. SetsOff y (more ts pre t) (sign m x ∷ [])) (sym s) (subst (λ ws. SetsOff ends (more ws pre t) (sign m x ∷ [])) (sym w) (m, x, refl, i)))
            is_it false i = tt
        colon (more ws q u) w = tt
    go run s = tt

pub separates_lowered : (m : Mark) (x : Token) (t : Tree) (fs : Frames) (σ τ : Sort) (us : List Terminal) → Lowered σ τ us (t, fs) → ReachedBy σ (us ++ sign m x ∷ []) (separate m x (t, fs))
separates_lowered m x t (bottom ρ) σ τ us r = tt
separates_lowered m x t (over g fs) σ τ us r = tt
separates_lowered m x t (timing u k y fs) σ τ us r = tt
separates_lowered m x t (within h ts pre fs) σ τ us r =
    subst (λ ρ. ReachedBy ρ (us ++ sign m x ∷ []) (next_part (style (sort fs) h) m x h ts (more ts pre t) fs)) r.based (separates m x t h ts pre fs us r.placed r.spelled)

pub and_left : (b c : Bool) → b && c ≡ true → b ≡ true
and_left true c e = refl
and_left false c e = absurd (cc)

pub and_right : (b c : Bool) → b && c ≡ true → c ≡ true
and_right true c e = e
and_right false c e = absurd (cc)

pub is_above : (a b : ℕ) → nat_le a b ≡ true → a ≤ b
is_above a b e = grind arith

pub joins_lowered : (m : Mark) (x : Token) (t : Tree) (fs : Frames) (σ τ : Sort) (us : List Terminal) → Lowered σ τ us (t, fs) → ReachedBy σ (us ++ sign m x ∷ []) (join m x (t, fs))
joins_lowered m x t fs σ τ us r = go (has_level (sort fs) (level_of m) && nat_le (least fs) (level_of m)) refl
  where
    inner : has_level (sort fs) (level_of m) && nat_le (least fs) (level_of m) ≡ true → (b : Bool) → nat_le (left_of m) (level t) ≡ b → ReachedBy σ (us ++ sign m x ∷ []) (if b then Some (want (over (left t m x) fs)) else None)
    inner e true i = record {
      holds = ((r.placed.frames, (and_left _ _ e, r.placed.fits, is_above (left_of m) (level t) i), is_above (least fs) (level_of m) (and_right _ _ e)), tt);
      spelled = sym (append_assoc (frames_text fs) (text t) (sign m x ∷ [])) ∙ ap (λ v. v ++ sign m x ∷ []) r.spelled;
      based = r.based;
    }
    inner e false i = tt

    go : (b : Bool) → has_level (sort fs) (level_of m) && nat_le (least fs) (level_of m) ≡ b
        → ReachedBy σ (us ++ sign m x ∷ []) (if b then if nat_le (left_of m) (level t) then Some (want (over (left t m x) fs)) else None else separate m x (t, fs))
    go true e = inner e (nat_le (left_of m) (level t)) refl
    go false e = separates_lowered m x t fs σ τ us r

pub posts : (t : Tree) (l : Terminal) (fs : Frames) → Placed t fs → tight ≤ level t → may_post (sort fs) t l ≡ true → Reached (base fs) ((frames_text fs ++ text t) ++ l ∷ []) (got (post t l) fs)
posts t l fs p h e = record {
  holds = (record { frames = p.frames; fits = (e, p.fits, h); level = least_low fs; begins = begin_more fs (text t) (l ∷ []) p.begins }, omega arith);
  spelled = sym (append_assoc (frames_text fs) (text t) (l ∷ []));
  based = refl;
}

pub signs : (t : Tree) (m : Mark) (x : Token) (fs : Frames) → Placed t fs → tight ≤ level t → ReachedBy (base fs) ((frames_text fs ++ text t) ++ sign m x ∷ []) (behind_sign m x t fs)
signs t m x fs p h = go (may_post (sort fs) t (sign m x)) refl
  where
    caret : (b : Bool) → is_expression (sort fs) && is_caret m ≡ b → ReachedBy (base fs) ((frames_text fs ++ text t) ++ sign m x ∷ []) (if b then Some (want (timing t m x fs)) else join m x (lower (pull (sort fs) m) t fs))
    caret true e = record {
      holds = ((p.frames, and_right _ _ e, and_left _ _ e, p.fits, h, p.begins), tt);
      spelled = sym (append_assoc (frames_text fs) (text t) (sign m x ∷ []));
      based = refl;
    }
    caret false e = joins_lowered m x (lower (pull (sort fs) m) t fs).0 (lower (pull (sort fs) m) t fs).1 (base fs) (sort fs) (frames_text fs ++ text t) (lowers (pull (sort fs) m) t fs (frames_text fs ++ text t) p refl)

    go : (b : Bool) → may_post (sort fs) t (sign m x) ≡ b → ReachedBy (base fs) ((frames_text fs ++ text t) ++ sign m x ∷ [])
        (if b then Some (got (post t (sign m x)) fs) else if is_expression (sort fs) && is_caret m then Some (want (timing t m x fs)) else join m x (lower (pull (sort fs) m) t fs))
    go true e = posts t (sign m x) fs p h e
    go false e = caret (is_expression (sort fs) && is_caret m) refl

-- ---- what begins

-- an entry of a bracket whose parts have no names
pub enters : (h : Heading) (fs : Frames) (us : List Terminal) → Stand fs → HeadingFits (sort fs) h → SetsOff (style (sort fs) h) none [] → MayBegin fs (heading_text h)
    → frames_text fs ++ heading_text h ≡ us → Reached (base fs) us (want (within h none [] fs))
enters h fs us s f o b e = record {
  holds = ((s, f, tt, o, b), tt);
  spelled = ap (λ v. frames_text fs ++ v) (append-nil (heading_text h)) ∙ e;
  based = refl;
}

pub round_first : (σ : Sort) → SetsOff (bracket_style round σ) none []
round_first (expression b) = refl
round_first arithmetic = refl
round_first notation = refl
round_first typ = refl
round_first count = refl
round_first bound = refl

pub index_first : (σ : Sort) → SetsOff (index_style σ) none []
index_first (expression b) = refl
index_first arithmetic = refl
index_first notation = refl
index_first typ = refl
index_first count = refl
index_first bound = refl

pub opens : (k : Bracket) (x : Token) (fs : Frames) → Stand fs → MayBegin fs (opening k x ∷ []) → ReachedBy (base fs) (frames_text fs ++ opening k x ∷ []) (begin_opening k x fs)
opens round x fs s b = counts (is_count (sort fs)) refl
  where
    takes_it : (c : Bool) → encloses (sort fs) round ≡ c → ReachedBy (base fs) (frames_text fs ++ opening round x ∷ []) (if c then Some (want (within (plain round x) none [] fs)) else None)
    takes_it true e = enters (plain round x) fs (frames_text fs ++ opening round x ∷ []) s e (round_first (sort fs)) b refl
    takes_it false e = tt

    counts : (c : Bool) → is_count (sort fs) ≡ c → ReachedBy (base fs) (frames_text fs ++ opening round x ∷ []) (if c then Some (indexing x fs) else if encloses (sort fs) round then Some (want (within (plain round x) none [] fs)) else None)
    counts true e = record { holds = (s, e, b); spelled = refl; based = refl }
    counts false e = takes_it (encloses (sort fs) round) refl
opens square x fs s b = go (encloses (sort fs) square) refl
  where
    go : (c : Bool) → encloses (sort fs) square ≡ c → ReachedBy (base fs) (frames_text fs ++ opening square x ∷ []) (if c then Some (want (within (plain square x) none [] fs)) else None)
    go true e = enters (plain square x) fs (frames_text fs ++ opening square x ∷ []) s e refl b refl
    go false e = tt
opens brace x fs s b = go (encloses (sort fs) brace) refl
  where
    go : (c : Bool) → encloses (sort fs) brace ≡ c → ReachedBy (base fs) (frames_text fs ++ opening brace x ∷ []) (if c then Some (naming (plain brace x) none [] fs) else None)
    go true e = record {
      holds = record { frames = s; heading = e; each = tt; before = refl; begins = b; is_fields = refl };
      spelled = refl;
      based = refl;
    }
    go false e = tt
opens tick_round x fs s b = go (encloses (sort fs) tick_round) refl
  where
    go : (c : Bool) → encloses (sort fs) tick_round ≡ c → ReachedBy (base fs) (frames_text fs ++ opening tick_round x ∷ []) (if c then Some (want (within (plain tick_round x) none [] fs)) else None)
    go true e = enters (plain tick_round x) fs (frames_text fs ++ opening tick_round x ∷ []) s e refl b refl
    go false e = tt
opens tick_square x fs s b = go (encloses (sort fs) tick_square) refl
  where
    go : (c : Bool) → encloses (sort fs) tick_square ≡ c → ReachedBy (base fs) (frames_text fs ++ opening tick_square x ∷ []) (if c then Some (want (within (plain tick_square x) none [] fs)) else None)
    go true e = enters (plain tick_square x) fs (frames_text fs ++ opening tick_square x ∷ []) s e refl b refl
    go false e = tt
opens tick_brace x fs s b = go (encloses (sort fs) tick_brace) refl
  where
    go : (c : Bool) → encloses (sort fs) tick_brace ≡ c → ReachedBy (base fs) (frames_text fs ++ opening tick_brace x ∷ []) (if c then Some (want (within (plain tick_brace x) none [] fs)) else None)
    go true e = enters (plain tick_brace x) fs (frames_text fs ++ opening tick_brace x ∷ []) s e refl b refl
    go false e = tt
opens dollar x fs s b = go (encloses (sort fs) dollar) refl
  where
    go : (c : Bool) → encloses (sort fs) dollar ≡ c → ReachedBy (base fs) (frames_text fs ++ opening dollar x ∷ []) (if c then Some (want (within (plain dollar x) none [] fs)) else None)
    go true e = enters (plain dollar x) fs (frames_text fs ++ opening dollar x ∷ []) s e refl b refl
    go false e = tt

pub empties : (x : Token) (fs : Frames) → Stand fs → ReachedBy (base fs) (frames_text fs ++ closing by_round x ∷ []) (no_arguments x fs)
empties x (bottom σ) s = tt
empties x (over g fs) s = tt
empties x (timing t m y fs) s = tt
empties x (within (plain k o) ts pre fs) s = tt
empties x (within (length o) ts pre fs) s = tt
empties x (within (index t o) ts pre fs) s = tt
empties x (within (segment p o) ts pre fs) s = tt
empties x (within (update p m y) ts pre fs) s = tt
empties x (within (below o i m y) ts pre fs) s = tt
empties x (within (arguments f o) (more ts q t) pre fs) s = tt
empties x (within (arguments f o) none (l ∷ pre) fs) s = tt
empties x (within (arguments f o) none [] fs) s =
    settles (bracket (arguments f o) none x) fs (frames_text (within (arguments f o) none [] fs) ++ closing by_round x ∷ [])
    (record {
      frames = s.0;
      fits = (refl, s.1, tt, tt);
      level = least_low fs;
      begins = begin_more fs (heading_text (arguments f o)) (closing by_round x ∷ []) s.4;
    }) (omega arith) (simp append_assoc)

pub begin_closes : (c : Closing) (x : Token) (fs : Frames) → Stand fs → MayBegin fs (closing c x ∷ []) → ReachedBy (base fs) (frames_text fs ++ closing c x ∷ []) (begin_closing c x fs)
begin_closes by_bar x fs s b = go (computes (sort fs)) refl
  where
    go : (c : Bool) → computes (sort fs) ≡ c → ReachedBy (base fs) (frames_text fs ++ closing by_bar x ∷ []) (if c then Some (want (within (length x) none [] fs)) else None)
    go true e = enters (length x) fs (frames_text fs ++ closing by_bar x ∷ []) s e refl b refl
    go false e = tt
begin_closes by_round x fs s b = empties x fs s
begin_closes by_square x fs s b = tt
begin_closes by_brace x fs s b = tt

pub begins : (fs : Frames) (l : Terminal) → Stand fs → MayBegin fs (l ∷ []) → ReachedBy (base fs) (frames_text fs ++ l ∷ []) (begin fs l)
begins fs (leaf k x) s b = go (takes (sort fs) k) refl
  where
    go : (c : Bool) → takes (sort fs) k ≡ c → ReachedBy (base fs) (frames_text fs ++ leaf k x ∷ []) (if c then Some (settle (operand k x) fs) else None)
    go true e = settles (operand k x) fs (frames_text fs ++ leaf k x ∷ []) (record { frames = s; fits = e; level = least_low fs; begins = b }) (omega arith) refl
    go false e = tt
begins fs (dot x) s b = tt
begins fs (sign m x) s b = go (has_level (sort fs) (prefix_level m) && nat_le (least fs) (prefix_level m)) refl
  where
    go : (c : Bool) → has_level (sort fs) (prefix_level m) && nat_le (least fs) (prefix_level m) ≡ c → ReachedBy (base fs) (frames_text fs ++ sign m x ∷ []) (if c then Some (want (over (ahead m x) fs)) else None)
    go true e = record { holds = ((s, and_left _ _ e, is_above (least fs) (prefix_level m) (and_right _ _ e)), tt); spelled = refl; based = refl }
    go false e = tt
begins fs (opening k x) s b = opens k x fs s b
begins fs (closing c x) s b = begin_closes c x fs s b
begins fs (other x) s b = tt
