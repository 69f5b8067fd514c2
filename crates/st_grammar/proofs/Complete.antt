-- Each tree that the grammar allows is read as itself.
use Rattle.std.proofs.Common.{◌≡◌, ℕ, ◌≤◌, ◌<◌, List, [], ◌∷◌, ◌++◌, Bool, true, false, not, ◌&&◌, Option, Some, None, option_and_then, nat_le, if◌then◌else◌, refl, sym, ap, subst, ◌∙◌, arith}
use Rattle.st_num.specs.declared.mark.Mark.{Mark}
use Rattle.st_num.specs.declared.mark.Mark.TheVariants as mark
use Rattle.st_num.specs.declared.token.Token.{Token}
use Rattle.st_grammar.specs.declared.sort.Style.{Style}
use Rattle.st_grammar.specs.declared.sort.Style.TheVariants.{Lone as lone, Parts as parts, Fields as fields, Ends as ends, Run as run}
use Rattle.st_grammar.specs.declared.sort.Bracket.{Bracket}
use Rattle.st_grammar.specs.declared.sort.Bracket.TheVariants.{Round as round, Square as square, Brace as brace, TickRound as tick_round, TickSquare as tick_square, TickBrace as tick_brace, Dollar as dollar}
use Rattle.st_grammar.specs.declared.sort.Closing.{Closing}
use Rattle.st_grammar.specs.declared.sort.Closing.TheVariants.{ByRound as by_round, BySquare as by_square, ByBrace as by_brace, ByBar as by_bar}
use Rattle.st_grammar.specs.declared.sort.Sort.{Sort}
use Rattle.st_grammar.specs.declared.sort.Sort.TheVariants.{Expression as expression, Arithmetic as arithmetic, Notation as notation, Typ as typ, Count as count, Bound as bound}
use Rattle.st_grammar.specs.Terminals.{Terminal, leaf, dot, sign, opening, closing, other}
use Rattle.st_num.specs.Signs.{level as level_of, prefix_level}
use Rattle.st_grammar.specs.Levels.{encloses, computes, is_expression, is_count, juxtaposes, tight, has_level, left_of, is_iteration_sign, is_caret, is_comma, is_colon}
use Rattle.st_grammar.specs.Trees.{Tree, operand, post, times, bracket, led, Lead, left, ahead, items, Trees, none, more, Heading, plain, length, arguments, index, segment, update, below, Path, head, field, part, closes, text, lead_text, texts, heading_text, path_text, agree}
use Rattle.st_grammar.specs.Grammar.{style, opens_length, sort_in, least_in, is_label, SetsOff, IsFilled, size, follows, may_post, lead_level, wanted, level, is_operand, Fits, LeadFits, EachFits, HeadingFits, PathFits}
use Rattle.st_grammar.specs.Reading.{Frames, bottom, within, over, timing, State, want, got, naming, sort, least, settle, reach, lower, shut, close, ended, begin, extend, separate, join, pull, after, finish, reading, reads}
use Rattle.st_grammar.proofs.LevelLemmas.{level_low, ahead_low, ahead_below, right_low, level_after, level_before, has_low, ahead_after, may_iterate, comma_is, colon_is, caret_is, joins_no_iteration_sign, no_post, no_caret}

-- ---- levels and edges

-- a token binds into the right edge of the tree only from this level on
abbrev pub edge : Tree → ℕ
edge (led g t) = reach g
edge t = 21

-- directly in bars, and where there is no length, a bar ends what stands before it
abbrev pub bar_ends : Sort → Bool
bar_ends (expression b) = b
bar_ends σ = true

-- how tightly a token binds to what stands before it
abbrev pub grip : Sort → Terminal → ℕ
grip σ (leaf k x) = tight
grip σ (dot x) = tight
grip σ (sign m x) = if may_iterate σ m then tight else pull σ m
grip σ (opening k x) = tight
grip σ (closing by_bar x) = if bar_ends σ then 0 else tight
grip σ (closing c x) = 0
grip σ (other x) = 0

abbrev pub Ends : Sort → ℕ → List Terminal → Type 0
Ends σ m [] = Unit {0}
Ends σ m (l ∷ w) = grip σ l < m

pub reach_low : (g : Lead) → reach g ≤ 19
reach_low (left l m x) = right_low m
reach_low (ahead m x) = omega (arith, ahead_low m)
reach_low (items ts) = omega arith

pub lead_low : (g : Lead) → lead_level g ≤ 18
lead_low (left l m x) = level_low m
lead_low (ahead m x) = omega (arith, ahead_low m, ahead_below m)
lead_low (items ts) = omega arith

pub lead_reach : (g : Lead) → lead_level g ≤ reach g
lead_reach (left l m x) = omega arith
lead_reach (ahead m x) = ahead_below m
lead_reach (items ts) = omega arith

pub reach_wanted : (g : Lead) → reach g ≤ wanted g
reach_wanted (left l m x) = omega arith
reach_wanted (ahead m x) = omega arith
reach_wanted (items ts) = omega arith

pub lead_pos : (σ : Sort) (g : Lead) → LeadFits σ g → 1 ≤ lead_level g
lead_pos σ (left l m x) f = has_low σ (level_of m) f.0
lead_pos σ (ahead m x) f = has_low σ (prefix_level m) f
lead_pos σ (items ts) f = omega arith

pub level_pos : (σ : Sort) (t : Tree) → Fits σ t → 1 ≤ level t
level_pos σ (operand k x) f = omega arith
level_pos σ (post t l) f = omega arith
level_pos σ (times t m x c) f = omega arith
level_pos σ (bracket h ts c) f = omega arith
level_pos σ (led g t) f = lead_pos σ g f.0

pub level_edge : (t : Tree) → level t ≤ edge t
level_edge (operand k x) = omega arith
level_edge (post t l) = omega arith
level_edge (times t m x c) = omega arith
level_edge (bracket h ts c) = omega arith
level_edge (led g t) = lead_reach g

pub tight_edge : (t : Tree) → tight ≤ level t → edge t ≡ 21
tight_edge (operand k x) h = refl
tight_edge (post t l) h = refl
tight_edge (times t m x c) h = refl
tight_edge (bracket k ts c) h = refl
tight_edge (led g t) h = absurd (omega (arith, lead_low g))

pub pull_low : (σ : Sort) (m : Mark) → pull σ m ≤ 18
pull_low σ m = go (has_level σ (level_of m)) refl
  where
    go : (b : Bool) → has_level σ (level_of m) ≡ b → (if b then level_of m else 0) ≤ 18
    go true e = level_low m
    go false e = omega arith

pub pull_joins : (σ : Sort) (m : Mark) → has_level σ (level_of m) ≡ true → pull σ m ≡ level_of m
pull_joins σ m e = ap (λ b. if b then level_of m else 0) e

pub grip_low : (σ : Sort) (l : Terminal) → grip σ l ≤ tight
grip_low σ (leaf k x) = omega arith
grip_low σ (dot x) = omega arith
grip_low σ (sign m x) = go (may_iterate σ m)
  where
    go : (b : Bool) → (if b then tight else pull σ m) ≤ tight
    go true = omega arith
    go false = omega (arith, pull_low σ m)
grip_low σ (opening k x) = omega arith
grip_low σ (closing by_round x) = omega arith
grip_low σ (closing by_square x) = omega arith
grip_low σ (closing by_brace x) = omega arith
grip_low σ (closing by_bar x) = go (bar_ends σ)
  where
    go : (b : Bool) → (if b then 0 else tight) ≤ tight
    go true = omega arith
    go false = omega arith
grip_low σ (other x) = omega arith

pub Ends-more : (σ : Sort) (m n : ℕ) (w : List Terminal) → m ≤ n → Ends σ m w → Ends σ n w
Ends-more σ m n [] h e = tt
Ends-more σ m n (l ∷ w) h e = omega arith

pub Ends-tight : (σ : Sort) (t : Tree) (w : List Terminal) → tight ≤ level t → Ends σ (edge t) w
Ends-tight σ t [] h = tt
Ends-tight σ t (l ∷ w) h = omega (arith, tight_edge t h, grip_low σ l)

pub left_ends : (σ : Sort) (m : Mark) (t : Tree) → Fits σ t → left_of m ≤ level t → level_of m < edge t
left_ends σ m (operand k x) f h = omega (arith, level_low m)
left_ends σ m (post t l) f h = omega (arith, level_low m)
left_ends σ m (times t k x c) f h = omega (arith, level_low m)
left_ends σ m (bracket k ts c) f h = omega (arith, level_low m)
left_ends σ m (led (left l k x) t) f h = level_after (level_of m) (level_of k) h
left_ends σ m (led (ahead k x) t) f h = ahead_after m k (has_low σ (prefix_level k) f.0) h
left_ends σ m (led (items ts) t) f h = level_before (level_of m) 14 refl h

-- ---- the machine at one token

pub reads_by : (o p : Option State) (w : List Terminal) → o ≡ p
    → option_and_then finish (option_and_then (λ next. reading next w) o) ≡ option_and_then finish (option_and_then (λ next. reading next w) p)
reads_by o p w e = ap (λ q. option_and_then finish (option_and_then (λ next. reading next w) q)) e

pub settled : (t : Tree) (fs : Frames) → is_count (sort fs) ≡ false → settle t fs ≡ got t fs
settled t (bottom σ) e = refl
settled t (within h ts pre fs) e = refl
settled t (over g fs) e = refl
settled t (timing u m x fs) e = absurd (cc)

pub reads_settled : (t : Tree) (fs : Frames) (w : List Terminal) → is_count (sort fs) ≡ false → reads (settle t fs) w ≡ reads (got t fs) w
reads_settled t fs w e = ap (λ st. reads st w) (settled t fs e)

pub post_no_count : (σ : Sort) (t : Tree) (l : Terminal) → may_post σ t l ≡ true → is_count σ ≡ false
post_no_count (expression b) t l e = refl
post_no_count arithmetic t l e = refl
post_no_count notation t l e = refl
post_no_count typ t l e = refl
post_no_count count t l e = absurd (cc)
post_no_count bound t l e = refl

pub expression_no_count : (σ : Sort) → is_expression σ ≡ true → is_count σ ≡ false
expression_no_count (expression b) e = refl
expression_no_count arithmetic e = refl
expression_no_count notation e = refl
expression_no_count typ e = refl
expression_no_count count e = absurd (cc)
expression_no_count bound e = refl

pub level_no_count : (σ : Sort) (n : ℕ) → has_level σ n ≡ true → is_count σ ≡ false
level_no_count (expression b) n e = refl
level_no_count arithmetic n e = refl
level_no_count notation n e = refl
level_no_count typ n e = refl
level_no_count count n e = absurd (cc)
level_no_count bound n e = refl

pub juxtaposes_no_count : (σ : Sort) → juxtaposes σ ≡ true → is_count σ ≡ false
juxtaposes_no_count (expression b) e = refl
juxtaposes_no_count arithmetic e = refl
juxtaposes_no_count notation e = refl
juxtaposes_no_count typ e = refl
juxtaposes_no_count count e = absurd (cc)
juxtaposes_no_count bound e = refl

pub lead_no_count : (σ : Sort) (g : Lead) → LeadFits σ g → is_count σ ≡ false
lead_no_count σ (left l m x) f = level_no_count σ (level_of m) f.0
lead_no_count σ (ahead m x) f = level_no_count σ (prefix_level m) f
lead_no_count σ (items ts) f = juxtaposes_no_count σ f.0

pub computes_no_count : (σ : Sort) → computes σ ≡ true → is_count σ ≡ false
computes_no_count (expression b) e = refl
computes_no_count arithmetic e = refl
computes_no_count notation e = refl
computes_no_count typ e = refl
computes_no_count count e = absurd (cc)
computes_no_count bound e = refl

pub above : (a b : ℕ) → a ≤ b → nat_le a b ≡ true
above a b h = grind arith

pub not_above : (a b : ℕ) → a < b → nat_le b a ≡ false
not_above a b h = grind arith

-- what is looser than a lead closes it
pub lower_over : (n : ℕ) (t : Tree) (g : Lead) (fs : Frames) → n < reach g → lower n t (over g fs) ≡ lower n (led g t) fs
lower_over n t g fs h = ap (λ b. if b then (t, over g fs) else lower n (led g t) fs) (not_above n (reach g) h)

-- what the part wants is not closed
pub lower_stays : (n : ℕ) (t : Tree) (fs : Frames) → least fs ≤ n → n < tight → lower n t fs ≡ (t, fs)
lower_stays n t (bottom σ) h k = refl
lower_stays n t (within g ts pre fs) h k = refl
lower_stays n t (over g fs) h k =
    let yes : nat_le (reach g) n ≡ true = grind (arith, reach_wanted g) in
    ap (λ b. if b then (t, over g fs) else lower n (led g t) fs) yes
lower_stays n t (timing u m x fs) h k = refl

-- a sign that iterates nothing joins or separates
pub sign_joins : (t : Tree) (fs : Frames) (m : Mark) (x : Token) → may_iterate (sort fs) m ≡ false
    → after t fs (sign m x) ≡ join m x (lower (pull (sort fs) m) t fs)
sign_joins t fs m x e =
    ap (λ b. if b then Some (got (post t (sign m x)) fs) else if is_expression (sort fs) && is_caret m then Some (want (timing t m x fs)) else join m x (lower (pull (sort fs) m) t fs)) (no_post (sort fs) t m x e)
    ∙ ap (λ b. if b then Some (want (timing t m x fs)) else join m x (lower (pull (sort fs) m) t fs)) (no_caret (sort fs) m e)

pub bar_follows : (σ : Sort) (t : Tree) (x : Token) → bar_ends σ ≡ true → follows σ t (closing by_bar x) ≡ false
bar_follows (expression b) t x e = ap not e
bar_follows arithmetic t x e = refl
bar_follows notation t x e = refl
bar_follows typ t x e = refl
bar_follows count t x e = refl
bar_follows bound t x e = refl

pub bar_closes : (t : Tree) (fs : Frames) (x : Token) → bar_ends (sort fs) ≡ true → after t fs (closing by_bar x) ≡ close by_bar x (lower 0 t fs)
bar_closes t fs x e = ap (λ b. if b then begin (extend t fs) (closing by_bar x) else close by_bar x (lower 0 t fs)) (bar_follows (sort fs) t x e)

-- what ends a last part closes what leads to it
pub over_read : (t : Tree) (g : Lead) (fs : Frames) (w : List Terminal) → LeadFits (sort fs) g → Ends (sort fs) (reach g) w
    → reads (got t (over g fs)) w ≡ reads (got (led g t) fs) w
over_read t g fs [] f e = ap ended (lower_over 0 t g fs (omega (arith, lead_pos (sort fs) g f, lead_reach g)))
over_read t g fs (leaf k x ∷ w) f e = absurd (omega (arith, reach_low g))
over_read t g fs (dot x ∷ w) f e = absurd (omega (arith, reach_low g))
over_read t g fs (sign m x ∷ w) f e = go (may_iterate (sort fs) m) refl e
  where
    go : (b : Bool) → may_iterate (sort fs) m ≡ b → (if b then tight else pull (sort fs) m) < reach g
        → reads (got t (over g fs)) (sign m x ∷ w) ≡ reads (got (led g t) fs) (sign m x ∷ w)
    go true h k = absurd (omega (arith, reach_low g))
    go false h k = reads_by _ _ w (sign_joins t (over g fs) m x h ∙ ap (join m x) (lower_over (pull (sort fs) m) t g fs k) ∙ sym (sign_joins (led g t) fs m x h))
over_read t g fs (opening k x ∷ w) f e = absurd (omega (arith, reach_low g))
over_read t g fs (closing by_round x ∷ w) f e = reads_by _ _ w (ap (close by_round x) (lower_over 0 t g fs e))
over_read t g fs (closing by_square x ∷ w) f e = reads_by _ _ w (ap (close by_square x) (lower_over 0 t g fs e))
over_read t g fs (closing by_brace x ∷ w) f e = reads_by _ _ w (ap (close by_brace x) (lower_over 0 t g fs e))
over_read t g fs (closing by_bar x ∷ w) f e = go (bar_ends (sort fs)) refl e
  where
    go : (b : Bool) → bar_ends (sort fs) ≡ b → (if b then 0 else tight) < reach g
        → reads (got t (over g fs)) (closing by_bar x ∷ w) ≡ reads (got (led g t) fs) (closing by_bar x ∷ w)
    go true h k = reads_by _ _ w (bar_closes t (over g fs) x h ∙ ap (close by_bar x) (lower_over 0 t g fs k) ∙ sym (bar_closes (led g t) fs x h))
    go false h k = absurd (omega (arith, reach_low g))
over_read t g fs (other x ∷ w) f e = refl

-- ---- iterations, counts and signs behind a tree

pub read_post : (t : Tree) (l : Terminal) (fs : Frames) (w : List Terminal) → may_post (sort fs) t l ≡ true → reads (got t fs) (l ∷ w) ≡ reads (got (post t l) fs) w
read_post t (leaf k x) fs w f = absurd (no_leaf (sort fs) f)
  where
    no_leaf : (σ : Sort) → may_post σ t (leaf k x) ≡ true → ⊥
    no_leaf (expression b) e = absurd (cc)
    no_leaf arithmetic e = absurd (cc)
    no_leaf notation e = absurd (cc)
    no_leaf typ e = absurd (cc)
    no_leaf count e = absurd (cc)
    no_leaf bound e = absurd (cc)
read_post t (dot x) fs w f = reads_by _ _ w (ap (λ b. if b then Some (got (post t (dot x)) fs) else None) f)
read_post t (sign m x) fs w f = reads_by _ _ w (ap (λ b. if b then Some (got (post t (sign m x)) fs) else if is_expression (sort fs) && is_caret m then Some (want (timing t m x fs)) else join m x (lower (pull (sort fs) m) t fs)) f)
read_post t (opening k x) fs w f = absurd (no_opening (sort fs) f)
  where
    no_opening : (σ : Sort) → may_post σ t (opening k x) ≡ true → ⊥
    no_opening (expression b) e = absurd (cc)
    no_opening arithmetic e = absurd (cc)
    no_opening notation e = absurd (cc)
    no_opening typ e = absurd (cc)
    no_opening count e = absurd (cc)
    no_opening bound e = absurd (cc)
read_post t (closing k x) fs w f = absurd (no_closing (sort fs) f)
  where
    no_closing : (σ : Sort) → may_post σ t (closing k x) ≡ true → ⊥
    no_closing (expression b) e = absurd (cc)
    no_closing arithmetic e = absurd (cc)
    no_closing notation e = absurd (cc)
    no_closing typ e = absurd (cc)
    no_closing count e = absurd (cc)
    no_closing bound e = absurd (cc)
read_post t (other x) fs w f = absurd (no_other (sort fs) f)
  where
    no_other : (σ : Sort) → may_post σ t (other x) ≡ true → ⊥
    no_other (expression b) e = absurd (cc)
    no_other arithmetic e = absurd (cc)
    no_other notation e = absurd (cc)
    no_other typ e = absurd (cc)
    no_other count e = absurd (cc)
    no_other bound e = absurd (cc)

pub caret_no_post : (σ : Sort) (t : Tree) (m : Mark) (x : Token) → is_expression σ ≡ true → is_caret m ≡ true → may_post σ t (sign m x) ≡ false
caret_no_post (expression b) t m x e c = ap is_iteration_sign (caret_is m c)
caret_no_post arithmetic t m x e c = refl
caret_no_post notation t m x e c = absurd (cc)
caret_no_post typ t m x e c = absurd (cc)
caret_no_post count t m x e c = refl
caret_no_post bound t m x e c = refl

pub both_true : (b c : Bool) → b ≡ true → c ≡ true → b && c ≡ true
both_true true c e f = f
both_true false c e f = absurd (cc)

pub read_caret : (t : Tree) (m : Mark) (x : Token) (fs : Frames) (w : List Terminal) → is_caret m ≡ true → is_expression (sort fs) ≡ true
    → reads (got t fs) (sign m x ∷ w) ≡ reads (want (timing t m x fs)) w
read_caret t m x fs w c e =
    reads_by _ _ w
    (ap (λ b. if b then Some (got (post t (sign m x)) fs) else if is_expression (sort fs) && is_caret m then Some (want (timing t m x fs)) else join m x (lower (pull (sort fs) m) t fs)) (caret_no_post (sort fs) t m x e c)
    ∙ ap (λ b. if b then Some (want (timing t m x fs)) else join m x (lower (pull (sort fs) m) t fs)) (both_true _ _ e c))

pub read_join : (l : Tree) (m : Mark) (x : Token) (fs : Frames) (w : List Terminal) → has_level (sort fs) (level_of m) ≡ true → least fs ≤ level_of m → left_of m ≤ level l
    → reads (got l fs) (sign m x ∷ w) ≡ reads (want (over (left l m x) fs)) w
read_join l m x fs w j h k =
    let yes = above (least fs) (level_of m) h in
    let takes_left = above (left_of m) (level l) k in
    let n : pull (sort fs) m ≡ level_of m = pull_joins (sort fs) m j in
    reads_by _ _ w
    (sign_joins l fs m x (joins_no_iteration_sign (sort fs) m j)
    ∙ ap (λ i. join m x (lower i l fs)) n
    ∙ ap (join m x) (lower_stays (level_of m) l fs h (omega (arith, level_low m)))
    ∙ ap (λ b. if b then if nat_le (left_of m) (level l) then Some (want (over (left l m x) fs)) else None else separate m x (l, fs)) (both_true _ _ j yes)
    ∙ ap (λ b. if b then Some (want (over (left l m x) fs)) else None) takes_left)

pub read_ahead : (m : Mark) (x : Token) (fs : Frames) (w : List Terminal) → has_level (sort fs) (prefix_level m) ≡ true → least fs ≤ prefix_level m
    → reads (want fs) (sign m x ∷ w) ≡ reads (want (over (ahead m x) fs)) w
read_ahead m x fs w j h =
    let yes = above (least fs) (prefix_level m) h in
    reads_by _ _ w (ap (λ b. if b then Some (want (over (ahead m x) fs)) else None) (both_true _ _ j yes))

-- ---- what a tree begins with

-- neither a dot nor `[`
abbrev pub starts : Terminal → Bool
starts (dot x) = false
starts (opening square x) = false
starts l = true

abbrev pub starts_text : List Terminal → Bool
starts_text [] = false
starts_text (l ∷ w) = starts l

pub starts_append : (us vs : List Terminal) → starts_text us ≡ true → starts_text (us ++ vs) ≡ true
starts_append [] vs e = absurd (cc)
starts_append (l ∷ us) vs e = e

pub encloses_starts : (σ : Sort) (k : Bracket) (x : Token) → encloses σ k ≡ true → starts (opening k x) ≡ true
encloses_starts σ round x e = refl
encloses_starts (expression b) square x e = absurd (cc)
encloses_starts arithmetic square x e = absurd (cc)
encloses_starts notation square x e = absurd (cc)
encloses_starts typ square x e = absurd (cc)
encloses_starts count square x e = absurd (cc)
encloses_starts bound square x e = absurd (cc)
encloses_starts σ brace x e = refl
encloses_starts σ tick_round x e = refl
encloses_starts σ tick_square x e = refl
encloses_starts σ tick_brace x e = refl
encloses_starts σ dollar x e = refl

pub label_starts : (l : Terminal) → is_label l ≡ true → starts l ≡ true
label_starts (leaf k x) e = refl
label_starts (dot x) e = absurd (cc)
label_starts (sign m x) e = refl
label_starts (opening k x) e = absurd (cc)
label_starts (closing k x) e = refl
label_starts (other x) e = refl

pub first_starts : (y : Style) (pre us : List Terminal) → SetsOff y none pre → starts_text us ≡ true → starts_text (pre ++ us) ≡ true
first_starts lone pre us e h = subst (λ q. starts_text (q ++ us) ≡ true) (sym e) h
first_starts parts pre us e h = subst (λ q. starts_text (q ++ us) ≡ true) (sym e) h
first_starts ends pre us e h = subst (λ q. starts_text (q ++ us) ≡ true) (sym e) h
first_starts run pre us e h = subst (λ q. starts_text (q ++ us) ≡ true) (sym e) h
first_starts fields pre us e h = subst (λ q. starts_text (q ++ us) ≡ true) (sym e.1) (label_starts e.0 e.2)

mutual
  pub begins_tree : (t : Tree) (σ : Sort) → Fits σ t → starts_text (text t) ≡ true
  begins_tree (operand k x) σ f = refl
  begins_tree (post t l) σ f = starts_append (text t) (l ∷ []) (begins_tree t σ f.1)
  begins_tree (times t m x c) σ f = starts_append (text t) (sign m x ∷ text c) (begins_tree t σ f.2)
  begins_tree (bracket h ts c) σ f = starts_append (heading_text h) (texts ts ++ closing (closes h) c ∷ []) (begins_heading h σ f.1)
  begins_tree (led g t) σ f = starts_append (lead_text g) (text t) (begins_lead g σ f.0)

  pub begins_lead : (g : Lead) (σ : Sort) → LeadFits σ g → starts_text (lead_text g) ≡ true
  begins_lead (left l m x) σ f = starts_append (text l) (sign m x ∷ []) (begins_tree l σ f.1)
  begins_lead (ahead m x) σ f = refl
  begins_lead (items ts) σ f = begins_trees ts σ run tight f.1 f.2

  pub begins_trees : (ts : Trees) (σ : Sort) (y : Style) (n : ℕ) → EachFits σ y n ts → 1 ≤ size ts → starts_text (texts ts) ≡ true
  begins_trees none σ y n f h = absurd (omega arith)
  begins_trees (more none pre t) σ y n f h = first_starts y pre (text t) f.1 (begins_tree t σ f.2)
  begins_trees (more (more us q u) pre t) σ y n f h = starts_append (texts (more us q u)) (pre ++ text t) (begins_trees (more us q u) σ y n f.0 (omega arith))

  pub begins_heading : (h : Heading) (σ : Sort) → HeadingFits σ h → starts_text (heading_text h) ≡ true
  begins_heading (plain k o) σ f = encloses_starts σ k o f
  begins_heading (length o) σ f = refl
  begins_heading (arguments g o) σ f = refl
  begins_heading (index t o) σ f = starts_append (text t) (opening square o ∷ []) (begins_tree t σ f.1)
  begins_heading (segment p o) σ f = starts_append (path_text p) (opening square o ∷ []) (begins_path p σ f)
  begins_heading (update p m x) σ f = starts_append (path_text p) (sign m x ∷ []) (begins_path p σ f.0)
  begins_heading (below o i m x) σ f = refl

  pub begins_path : (p : Path) (σ : Sort) → PathFits σ p → starts_text (path_text p) ≡ true
  begins_path (head t o) σ f = starts_append (text t) (opening square o ∷ []) (begins_tree t σ f.1)
  begins_path (field p x) σ f = starts_append (path_text p) (dot x ∷ []) (begins_path p σ f)
  begins_path (part p o ts c) σ f = starts_append (path_text p) (opening square o ∷ (texts ts ++ closing by_square c ∷ [])) (begins_path p σ f.0)

pub starts_parts : (ts : Trees) (σ : Sort) (y : Style) (n : ℕ) (v : List Terminal) → EachFits σ y n ts → starts_text v ≡ true → starts_text (texts ts ++ v) ≡ true
starts_parts none σ y n v f h = h
starts_parts (more ts pre t) σ y n v f h = starts_append (texts (more ts pre t)) v (begins_trees (more ts pre t) σ y n f (omega arith))

-- ---- brackets

-- where a first part is due
abbrev pub entry : Style → Heading → Frames → State
entry fields h fs = naming h none [] fs
entry y h fs = want (within h none [] fs)

-- where the parts so far lead to
abbrev pub part_state : Heading → Trees → Frames → State
part_state h none fs = entry (style (sort fs) h) h fs
part_state h (more ts pre t) fs = got t (within h ts pre fs)

pub comma_mark : (σ : Sort) (m : Mark) → is_comma m ≡ true → may_iterate σ m ≡ false
comma_mark σ m e = subst (λ k. may_iterate σ k ≡ false) (sym (comma_is m e)) (at σ)
  where
    at : (τ : Sort) → may_iterate τ mark.Comma ≡ false
    at (expression b) = refl
    at arithmetic = refl
    at notation = refl
    at typ = refl
    at count = refl
    at bound = refl

pub comma_level : (σ : Sort) (m : Mark) → is_comma m ≡ true → has_level σ (level_of m) ≡ false
comma_level σ m e = subst (λ k. has_level σ (level_of k) ≡ false) (sym (comma_is m e)) (at σ)
  where
    at : (τ : Sort) → has_level τ 0 ≡ false
    at (expression b) = refl
    at arithmetic = refl
    at notation = refl
    at typ = refl
    at count = refl
    at bound = refl

pub comma_grip : (σ : Sort) (m : Mark) (x : Token) → is_comma m ≡ true → grip σ (sign m x) ≡ 0
comma_grip σ m x e = ap (λ b. if b then tight else pull σ m) (comma_mark σ m e) ∙ ap (λ b. if b then level_of m else 0) (comma_level σ m e)

pub ends_style : (h : Heading) (σ : Sort) → style σ h ≡ ends → (least_in h ≡ 13) × (sort_in σ h ≡ expression false)
ends_style (plain round o) (expression b) e = absurd (cc)
ends_style (plain round o) arithmetic e = absurd (cc)
ends_style (plain round o) notation e = absurd (cc)
ends_style (plain round o) typ e = absurd (cc)
ends_style (plain round o) count e = absurd (cc)
ends_style (plain round o) bound e = absurd (cc)
ends_style (plain square o) σ e = absurd (cc)
ends_style (plain brace o) σ e = absurd (cc)
ends_style (plain tick_round o) σ e = absurd (cc)
ends_style (plain tick_square o) σ e = absurd (cc)
ends_style (plain tick_brace o) σ e = absurd (cc)
ends_style (plain dollar o) σ e = absurd (cc)
ends_style (length o) σ e = absurd (cc)
ends_style (arguments f o) σ e = absurd (cc)
ends_style (index t o) σ e = (refl, refl)
ends_style (segment p o) σ e = (refl, refl)
ends_style (update p m x) σ e = absurd (cc)
ends_style (below o i m x) σ e = absurd (cc)

pub no_run : (h : Heading) (σ : Sort) → style σ h ≡ run → ⊥
no_run (plain round o) (expression b) e = absurd (cc)
no_run (plain round o) arithmetic e = absurd (cc)
no_run (plain round o) notation e = absurd (cc)
no_run (plain round o) typ e = absurd (cc)
no_run (plain round o) count e = absurd (cc)
no_run (plain round o) bound e = absurd (cc)
no_run (plain square o) σ e = absurd (cc)
no_run (plain brace o) σ e = absurd (cc)
no_run (plain tick_round o) σ e = absurd (cc)
no_run (plain tick_square o) σ e = absurd (cc)
no_run (plain tick_brace o) σ e = absurd (cc)
no_run (plain dollar o) σ e = absurd (cc)
no_run (length o) σ e = absurd (cc)
no_run (arguments f o) σ e = absurd (cc)
no_run (index t o) (expression b) e = absurd (cc)
no_run (index t o) arithmetic e = absurd (cc)
no_run (index t o) notation e = absurd (cc)
no_run (index t o) typ e = absurd (cc)
no_run (index t o) count e = absurd (cc)
no_run (index t o) bound e = absurd (cc)
no_run (segment p o) σ e = absurd (cc)
no_run (update p m x) σ e = absurd (cc)
no_run (below o i m x) σ e = absurd (cc)

pub least_pos : (h : Heading) → 1 ≤ least_in h
least_pos (plain k o) = omega arith
least_pos (length o) = omega arith
least_pos (arguments f o) = omega arith
least_pos (index t o) = omega arith
least_pos (segment p o) = omega arith
least_pos (update p m x) = omega arith
least_pos (below o i m x) = omega arith

pub least_tight : (h : Heading) → least_in h ≤ tight
least_tight (plain k o) = omega arith
least_tight (length o) = omega arith
least_tight (arguments f o) = omega arith
least_tight (index t o) = omega arith
least_tight (segment p o) = omega arith
least_tight (update p m x) = omega arith
least_tight (below o i m x) = omega arith

pub colon_grip : (m : Mark) (x : Token) → is_colon m ≡ true → grip (expression false) (sign m x) ≡ 9
colon_grip m x e = ap (λ k. grip (expression false) (sign k x)) (colon_is m e)

-- what sets off a next part ends the one before
pub set_off_ends : (h : Heading) (σ : Sort) (ts : Trees) (q : List Terminal) (t : Tree) (pre v : List Terminal)
    → SetsOff (style σ h) (more ts q t) pre → Ends (sort_in σ h) (least_in h) (pre ++ v)
set_off_ends h σ ts q t pre v f = go (style σ h) refl f
  where
    go : (y : Style) → style σ h ≡ y → SetsOff y (more ts q t) pre → Ends (sort_in σ h) (least_in h) (pre ++ v)
    go lone e s = absurd s
    go parts e s = subst (λ u. Ends (sort_in σ h) (least_in h) (u ++ v)) (sym s.2) (omega (arith, comma_grip (sort_in σ h) s.0 s.1 s.3, least_pos h))
    go fields e s = subst (λ u. Ends (sort_in σ h) (least_in h) (u ++ v)) (sym s.3) (omega (arith, comma_grip (sort_in σ h) s.0 s.1 s.4, least_pos h))
    go ends e s = colon ts s
      where
        colon : (us : Trees) → SetsOff ends (more us q t) pre → Ends (sort_in σ h) (least_in h) (pre ++ v)
        colon none r =
            let i = ends_style h σ e in
            subst (λ u. Ends (sort_in σ h) (least_in h) (u ++ v)) (sym r.2)
            (subst (λ τ. grip τ (sign r.0 r.1) < least_in h) (sym i.1) (omega (arith, colon_grip r.0 r.1 r.3, i.0)))
        colon (more us r u) r2 = absurd r2
    go run e s = absurd (no_run h σ e)

pub agrees : (c : Closing) → agree c c ≡ true
agrees by_round = refl
agrees by_square = refl
agrees by_brace = refl
agrees by_bar = refl

pub closer_follows : (h : Heading) (σ : Sort) → opens_length (closes h) (sort_in σ h) ≡ false
closer_follows (plain round o) σ = refl
closer_follows (plain square o) σ = refl
closer_follows (plain brace o) σ = refl
closer_follows (plain tick_round o) σ = refl
closer_follows (plain tick_square o) σ = refl
closer_follows (plain tick_brace o) σ = refl
closer_follows (plain dollar o) σ = refl
closer_follows (length o) σ = refl
closer_follows (arguments f o) σ = refl
closer_follows (index t o) σ = refl
closer_follows (segment p o) σ = refl
closer_follows (update p m x) σ = refl
closer_follows (below o i m x) σ = refl

pub closer_grip : (h : Heading) (σ : Sort) (c : Token) → grip (sort_in σ h) (closing (closes h) c) ≡ 0
closer_grip (plain round o) σ c = refl
closer_grip (plain square o) σ c = refl
closer_grip (plain brace o) σ c = refl
closer_grip (plain tick_round o) σ c = refl
closer_grip (plain tick_square o) σ c = refl
closer_grip (plain tick_brace o) σ c = refl
closer_grip (plain dollar o) σ c = refl
closer_grip (length o) σ c = refl
closer_grip (arguments f o) σ c = refl
closer_grip (index t o) σ c = refl
closer_grip (segment p o) σ c = refl
closer_grip (update p m x) σ c = refl
closer_grip (below o i m x) σ c = refl

pub read_close : (h : Heading) (ts : Trees) (c : Token) (fs : Frames) (w : List Terminal) → IsFilled h ts
    → reads (part_state h ts fs) (closing (closes h) c ∷ w) ≡ reads (shut h ts c fs) w
read_close h (more us pre t) c fs w f =
    reads_by _ _ w
    (ap (λ b. if b then begin (extend t (within h us pre fs)) (closing (closes h) c) else close (closes h) c (t, within h us pre fs)) (closer_follows h (sort fs))
    ∙ ap (λ b. if b then Some (shut h (more us pre t) c fs) else None) (agrees (closes h)))
read_close (arguments f o) none c fs w g = refl
read_close (plain k o) none c fs w g = absurd g
read_close (length o) none c fs w g = absurd g
read_close (index t o) none c fs w g = absurd g
read_close (segment p o) none c fs w g = absurd g
read_close (update p m x) none c fs w g = absurd g
read_close (below o i m x) none c fs w g = absurd g

pub shut_operand : (h : Heading) (ts : Trees) (c : Token) (fs : Frames) → is_operand h ≡ true → shut h ts c fs ≡ settle (bracket h ts c) fs
shut_operand (plain k o) ts c fs e = refl
shut_operand (length o) ts c fs e = refl
shut_operand (arguments f o) ts c fs e = refl
shut_operand (index t o) ts c fs e = refl
shut_operand (segment p o) ts c fs e = absurd (cc)
shut_operand (update p m x) ts c fs e = refl
shut_operand (below o i m x) ts c fs e = refl
