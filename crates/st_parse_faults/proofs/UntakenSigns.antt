-- Signs that a part does not take.
use Rattle.std.proofs.Common.{◌≡◌, ℕ, [], ◌∷◌, Bool, true, false, ◌&&◌, Option, Some, None, nat_le, if◌then◌else◌, refl, ap, ◌∙◌}
use Rattle.st_num.specs.declared.mark.Mark.{Mark}
use Rattle.st_num.specs.declared.token.Token.{Token}
use Rattle.st_num.specs.Signs.{level as level_of, prefix_level}
use Rattle.st_grammar.specs.declared.sort.Style.{Style}
use Rattle.st_grammar.specs.declared.sort.Style.TheVariants.{Lone as lone, Parts as listing, Fields as fields_of, Ends as ends, Run as run}
use Rattle.st_grammar.specs.declared.sort.Sort.{Sort}
use Rattle.st_grammar.specs.declared.sort.Sort.TheVariants.{Expression as expression, Arithmetic as arithmetic, Notation as notation, Typ as typ, Count as count, Bound as bound}
use Rattle.st_grammar.specs.Terminals.{sign}
use Rattle.st_grammar.specs.Levels.{is_expression, has_level, left_of, is_caret, is_comma, is_colon, is_less, is_change}
use Rattle.st_grammar.specs.Trees.{Tree, post, left, ahead, Trees, none, more, index, update, below, Path, head, field, part, led}
use Rattle.st_grammar.specs.Grammar.{style, may_post, level, has_step}
use Rattle.st_grammar.specs.Reading as reading_of
use Rattle.st_grammar.specs.Reading.{Frames, bottom, within, over, timing, want, got, naming, pathed, indexing, comparing, sort, least, reach, lower, next_part, separate, join, pull}

pub no_level : (σ : Sort) → has_level σ 0 ≡ false
no_level (expression b) = refl
no_level arithmetic = refl
no_level notation = refl
no_level typ = refl
no_level count = refl
no_level bound = refl

begin_none : (m : Mark) (x : Token) (fs : Frames) → prefix_level m ≡ 0 → reading_of.begin fs (sign m x) ≡ None
begin_none m x fs e =
    ap (λ n. if has_level (sort fs) n && nat_le (least fs) n then Some (want (over (ahead m x) fs)) else None) e
    ∙ ap (λ b. if b && nat_le (least fs) 0 then Some (want (over (ahead m x) fs)) else None) (no_level (sort fs))

index_none : (m : Mark) (x : Token) (p : Path) (fs : Frames) → prefix_level m ≡ 0 → reading_of.in_index p fs (sign m x) ≡ None
index_none m x (head t o) fs e = begin_none m x (within (index t o) none [] fs) e
index_none m x (field p y) fs e = refl
index_none m x (part p o ts c) fs e = refl

abbrev pub NoPart : reading_of.State → Type 0
NoPart (got t fs) = ⊥
NoPart st = Unit {0}

pub quiet_part : (m : Mark) (x : Token) (st : reading_of.State) → prefix_level m ≡ 0 → is_change m ≡ false → is_less m ≡ false → NoPart st → reading_of.step st (sign m x) ≡ None
quiet_part m x (want fs) e f g n = begin_none m x fs e
quiet_part m x (got t fs) e f g n = absurd n
quiet_part m x (naming h ts pre fs) e f g n = refl
quiet_part m x (pathed p fs) e f g n =
    ap (λ b. if has_step p && b then Some (want (within (update p m x) none [] fs)) else reading_of.in_index p fs (sign m x)) f
    ∙ go (has_step p)
  where
    go : (b : Bool) → (if b && false then Some (want (within (update p m x) none [] fs)) else reading_of.in_index p fs (sign m x)) ≡ None
    go true = index_none m x p fs e
    go false = index_none m x p fs e
quiet_part m x (indexing o fs) e f g n = refl
quiet_part m x (comparing o i fs) e f g n = ap (λ b. if b then Some (want (within (below o i m x) none [] fs)) else None) g

separate_none : (m : Mark) (x : Token) (p : Tree × Frames) → is_comma m ≡ false → is_colon m ≡ false → separate m x p ≡ None
separate_none m x (t, bottom σ) e f = refl
separate_none m x (t, over g fs) e f = refl
separate_none m x (t, timing u k z fs) e f = refl
separate_none m x (t, within h ts pre fs) e f = go (style (sort fs) h)
  where
    ends_none : (us : Trees) → next_part ends m x h us (more ts pre t) fs ≡ None
    ends_none none = ap (λ b. if b then Some (want (within h (more ts pre t) (sign m x ∷ []) fs)) else None) f
    ends_none (more us q u) = refl

    go : (v : Style) → next_part v m x h ts (more ts pre t) fs ≡ None
    go lone = refl
    go run = refl
    go listing = ap (λ b. if b then Some (want (within h (more ts pre t) (sign m x ∷ []) fs)) else None) e
    go fields_of = ap (λ b. if b then Some (naming h (more ts pre t) (sign m x ∷ []) fs) else None) e
    go ends = ends_none ts

pub join_none : (m : Mark) (x : Token) (p : Tree × Frames) → has_level (sort p.1) (level_of m) ≡ false → is_comma m ≡ false → is_colon m ≡ false → join m x p ≡ None
join_none m x p e f g =
    ap (λ b. if b && nat_le (least p.1) (level_of m) then (if nat_le (left_of m) (level p.0) then Some (want (over (left p.0 m x) p.1)) else None) else separate m x p) e
    ∙ separate_none m x p f g

-- what a sign makes behind a part, in a sort of part
abbrev pub behind_in : Sort → Mark → Token → Tree → Frames → Option reading_of.State
behind_in σ m x t fs =
    if may_post σ t (sign m x) then Some (got (post t (sign m x)) fs)
    else if is_expression σ && is_caret m then Some (want (timing t m x fs))
    else join m x (lower (pull σ m) t fs)

pub unjoined : (σ : Sort) (m : Mark) (x : Token) (t : Tree) (fs : Frames) → may_post σ t (sign m x) ≡ false → is_expression σ && is_caret m ≡ false → join m x (lower (pull σ m) t fs) ≡ None → behind_in σ m x t fs ≡ None
unjoined σ m x t fs e f g =
    ap (λ b. if b then Some (got (post t (sign m x)) fs) else if is_expression σ && is_caret m then Some (want (timing t m x fs)) else join m x (lower (pull σ m) t fs)) e
    ∙ ap (λ b. if b then Some (want (timing t m x fs)) else join m x (lower (pull σ m) t fs)) f
    ∙ g

pub lower_sort : (n : ℕ) (t : Tree) (fs : Frames) → sort (lower n t fs).1 ≡ sort fs
lower_sort n t (bottom σ) = refl
lower_sort n t (within h ts pre fs) = refl
lower_sort n t (timing u m x fs) = refl
lower_sort n t (over g fs) = go (nat_le (reach g) n) (lower_sort n (led g t) fs)
  where
    go : (b : Bool) → sort (lower n (led g t) fs).1 ≡ sort fs → sort (if b then (t, over g fs) else lower n (led g t) fs).1 ≡ sort fs
    go true e = refl
    go false e = e

pub and_none : (b : Bool) → (b && false) ≡ false
and_none true = refl
and_none false = refl
