-- What is emitted where a part or a bracket ends.
use Rattle.std.proofs.Common.{◌≡◌, ℕ, List, [], ◌∷◌, ◌++◌, Bool, true, false, Option, Some, None, nat_le, if◌then◌else◌, refl, sym, ap, ◌∙◌, append_assoc}
use Rattle.std.proofs.lemmas.List.{append-nil}
use Rattle.st_num.specs.declared.mark.Mark.{Mark}
use Rattle.st_num.specs.declared.token.Token.{Token}
use Rattle.st_grammar.specs.declared.sort.Style.{Style}
use Rattle.st_grammar.specs.declared.sort.Style.TheVariants.{Lone as lone, Parts as parts, Fields as fields, Ends as ends, Run as run}
use Rattle.st_grammar.specs.declared.sort.Leaf.{Leaf}
use Rattle.st_grammar.specs.declared.sort.Bracket.TheVariants.{Round as round, Square as square, Brace as brace, TickRound as tick_round, TickSquare as tick_square, TickBrace as tick_brace, Dollar as dollar}
use Rattle.st_grammar.specs.declared.sort.Closing.{Closing}
use Rattle.st_grammar.specs.Terminals.{Terminal, sign}
use Rattle.st_grammar.specs.Levels.{is_comma, is_colon}
use Rattle.st_grammar.specs.Trees.{Tree, operand, bracket, led, Trees, none, more, Heading, plain, length, arguments, index, segment, update, below, closes, agree}
use Rattle.st_grammar.specs.Grammar.{style}
use Rattle.st_grammar.specs.Reading.{Frames, bottom, within, over, timing, State, want, naming, sort, settle, reach, lower, shut, close, next_part, separate}
use Rattle.st_grammar.specs.declared.action.Action.{Action}
use Rattle.st_grammar.specs.declared.action.Action.TheVariants as action
use Rattle.st_grammar.specs.inner.Actions.{index_acts, count_act, label_acts, end_acts, closing_acts, inner_acts, acts, lead_acts, opening_acts, each_acts, part_acts, field_acts}
use Rattle.st_grammar.specs.inner.Emission.{index_label, heading_acts, frames_acts, state_acts, settling, lowering, part_end, shutting, closed, separating}

-- a step, if there is one, adds these actions
abbrev pub Emits : List Action → List Action → Option State → Type 0
Emits before new None = Unit {0}
Emits before new (Some next) = state_acts next ≡ before ++ new

abbrev pub pair_acts : Tree × Frames → List Action
pair_acts p = frames_acts p.1 ++ acts p.0

-- the actions of the parts of a bracket
abbrev pub bracket_acts : Heading → Trees → List Action
bracket_acts h ts = inner_acts h (each_acts ts) (part_acts ts) (field_acts ts)

abbrev pub open_acts : Heading → Trees → List Terminal → List Action
open_acts h ts pre = inner_acts h (each_acts ts) (part_acts ts) (field_acts ts ++ label_acts pre)

-- ---- parts that are read

pub operand_settles : (k : Leaf) (x : Token) (fs : Frames) → state_acts (settle (operand k x) fs) ≡ frames_acts fs ++ action.Operand k x ∷ settling (operand k x) fs
operand_settles k x (bottom σ) = refl
operand_settles k x (within h ts pre fs) = refl
operand_settles k x (over g fs) = refl
operand_settles k x (timing t m y fs) = sym (append_assoc (frames_acts fs) (acts t) (action.Operand k x ∷ action.Times ∷ []))

-- behind `^` the name of an index stands before the count
pub heading_behind : (h : Heading) (ts : Trees) (c : Token) (t : Tree) (m : Mark) (x : Token) (fs : Frames) → heading_acts h (timing t m x fs) ≡ index_acts (bracket h ts c) ++ opening_acts h
heading_behind (plain k o) ts c t m x fs = refl
heading_behind (length o) ts c t m x fs = refl
heading_behind (arguments f o) ts c t m x fs = refl
heading_behind (index u o) ts c t m x fs = refl
heading_behind (segment p o) ts c t m x fs = refl
heading_behind (update p k o) ts c t m x fs = refl
heading_behind (below o i k y) ts c t m x fs = refl

pub heading_alone : (h : Heading) (fs : Frames) → ((i : Token) → index_label i fs ≡ []) → heading_acts h fs ≡ opening_acts h
heading_alone (plain k o) fs e = refl
heading_alone (length o) fs e = refl
heading_alone (arguments f o) fs e = refl
heading_alone (index u o) fs e = refl
heading_alone (segment p o) fs e = refl
heading_alone (update p k o) fs e = refl
heading_alone (below o i k y) fs e = e i

pub alone_settles : (h : Heading) (ts : Trees) (c : Token) (fs : Frames) → ((i : Token) → index_label i fs ≡ [])
    → frames_acts fs ++ acts (bracket h ts c) ≡ frames_acts fs ++ (heading_acts h fs ++ (bracket_acts h ts ++ (closing_acts h ts ++ [])))
alone_settles h ts c fs e =
    ap (λ a. frames_acts fs ++ (a ++ (bracket_acts h ts ++ closing_acts h ts))) (sym (heading_alone h fs e))
    ∙ ap (λ a. frames_acts fs ++ (heading_acts h fs ++ (bracket_acts h ts ++ a))) (sym (append-nil (closing_acts h ts)))

pub bracket_settles : (h : Heading) (ts : Trees) (c : Token) (fs : Frames)
    → state_acts (settle (bracket h ts c) fs) ≡ frames_acts fs ++ (heading_acts h fs ++ (bracket_acts h ts ++ (closing_acts h ts ++ settling (bracket h ts c) fs)))
bracket_settles h ts c (bottom σ) = alone_settles h ts c (bottom σ) (λ i. refl)
bracket_settles h ts c (within k us pre fs) = alone_settles h ts c (within k us pre fs) (λ i. refl)
bracket_settles h ts c (over g fs) = alone_settles h ts c (over g fs) (λ i. refl)
bracket_settles h ts c (timing t m x fs) =
    regroup (frames_acts fs) (acts t) (index_acts (bracket h ts c)) (opening_acts h) (bracket_acts h ts) (closing_acts h ts) (count_act (bracket h ts c) ∷ [])
    ∙ ap (λ a. (frames_acts fs ++ acts t) ++ (a ++ (bracket_acts h ts ++ (closing_acts h ts ++ count_act (bracket h ts c) ∷ [])))) (sym (heading_behind h ts c t m x fs))
  where
    regroup : (f t i o b c n : List Action) → f ++ (t ++ (i ++ ((o ++ (b ++ c)) ++ n))) ≡ (f ++ t) ++ ((i ++ o) ++ (b ++ (c ++ n)))
    regroup f t i o b c n = simp append_assoc

-- ---- what is closed over a part

pub lowers : (n : ℕ) (t : Tree) (fs : Frames) → pair_acts (lower n t fs) ≡ (frames_acts fs ++ acts t) ++ lowering n fs
lowers n t (bottom σ) = sym (append-nil (acts t))
lowers n t (within h ts pre fs) = sym (append-nil (frames_acts (within h ts pre fs) ++ acts t))
lowers n t (timing u m x fs) = sym (append-nil (frames_acts (timing u m x fs) ++ acts t))
lowers n t (over g fs) = go (nat_le (reach g) n) (lowers n (led g t) fs)
  where
    regroup : (f g t e l : List Action) → (f ++ (g ++ (t ++ e))) ++ l ≡ ((f ++ g) ++ t) ++ (e ++ l)
    regroup f g t e l = simp append_assoc

    go : (b : Bool) → pair_acts (lower n (led g t) fs) ≡ (frames_acts fs ++ acts (led g t)) ++ lowering n fs
        → pair_acts (if b then (t, over g fs) else lower n (led g t) fs) ≡ (frames_acts (over g fs) ++ acts t) ++ (if b then [] else end_acts g ++ lowering n fs)
    go true e = sym (append-nil (frames_acts (over g fs) ++ acts t))
    go false e = e ∙ regroup (frames_acts fs) (lead_acts g) (acts t) (end_acts g) (lowering n fs)

-- ---- one more part of a bracket

pub part_more : (h : Heading) (ts : Trees) (pre : List Terminal) (t : Tree) → bracket_acts h (more ts pre t) ≡ open_acts h ts pre ++ (acts t ++ part_end h)
part_more (plain round o) ts pre t = refl
part_more (plain brace o) ts pre t = sym (append_assoc (field_acts ts) (label_acts pre) (acts t ++ action.Field ∷ []))
part_more (plain square o) ts pre t = ap (λ a. each_acts ts ++ a) (sym (append-nil (acts t)))
part_more (plain tick_round o) ts pre t = ap (λ a. each_acts ts ++ a) (sym (append-nil (acts t)))
part_more (plain tick_square o) ts pre t = ap (λ a. each_acts ts ++ a) (sym (append-nil (acts t)))
part_more (plain tick_brace o) ts pre t = ap (λ a. each_acts ts ++ a) (sym (append-nil (acts t)))
part_more (plain dollar o) ts pre t = ap (λ a. each_acts ts ++ a) (sym (append-nil (acts t)))
part_more (length o) ts pre t = ap (λ a. each_acts ts ++ a) (sym (append-nil (acts t)))
part_more (arguments f o) ts pre t = refl
part_more (index u o) ts pre t = ap (λ a. each_acts ts ++ a) (sym (append-nil (acts t)))
part_more (segment p o) ts pre t = ap (λ a. each_acts ts ++ a) (sym (append-nil (acts t)))
part_more (update p m x) ts pre t = ap (λ a. each_acts ts ++ a) (sym (append-nil (acts t)))
part_more (below o i m x) ts pre t = ap (λ a. each_acts ts ++ a) (sym (append-nil (acts t)))

pub more_emits : (h : Heading) (ts : Trees) (pre : List Terminal) (t : Tree) (fs : Frames) (rest : List Action)
    → frames_acts fs ++ (heading_acts h fs ++ (bracket_acts h (more ts pre t) ++ rest)) ≡ (frames_acts (within h ts pre fs) ++ acts t) ++ (part_end h ++ rest)
more_emits h ts pre t fs rest =
    ap (λ a. frames_acts fs ++ (heading_acts h fs ++ (a ++ rest))) (part_more h ts pre t)
    ∙ regroup (frames_acts fs) (heading_acts h fs) (open_acts h ts pre) (acts t) (part_end h) rest
  where
    regroup : (f h o t e r : List Action) → f ++ (h ++ ((o ++ (t ++ e)) ++ r)) ≡ ((f ++ (h ++ o)) ++ t) ++ (e ++ r)
    regroup f h o t e r = simp append_assoc

-- the same with nothing behind it
pub parts_emit : (h : Heading) (ts : Trees) (pre : List Terminal) (t : Tree) (fs : Frames)
    → frames_acts fs ++ (heading_acts h fs ++ bracket_acts h (more ts pre t)) ≡ (frames_acts (within h ts pre fs) ++ acts t) ++ part_end h
parts_emit h ts pre t fs =
    ap (λ a. frames_acts fs ++ (heading_acts h fs ++ a)) (sym (append-nil (bracket_acts h (more ts pre t))))
    ∙ more_emits h ts pre t fs []
    ∙ ap (λ a. (frames_acts (within h ts pre fs) ++ acts t) ++ a) (append-nil (part_end h))

-- in other brackets than braces no name stands before a part
pub unnamed : (y : Style) (m : Mark) (x : Token) (h : Heading) (before ts : Trees) (fs : Frames) (seen new : List Action)
    → open_acts h ts (sign m x ∷ []) ≡ bracket_acts h ts → frames_acts fs ++ (heading_acts h fs ++ bracket_acts h ts) ≡ seen ++ new
    → Emits seen new (next_part y m x h before ts fs)
unnamed lone m x h before ts fs seen new e is = tt
unnamed parts m x h before ts fs seen new e is = go (is_comma m)
  where
    go : (b : Bool) → Emits seen new (if b then Some (want (within h ts (sign m x ∷ []) fs)) else None)
    go true = ap (λ a. frames_acts fs ++ (heading_acts h fs ++ a)) e ∙ is
    go false = tt
unnamed fields m x h before ts fs seen new e is = go (is_comma m)
  where
    go : (b : Bool) → Emits seen new (if b then Some (naming h ts (sign m x ∷ []) fs) else None)
    go true = is
    go false = tt
unnamed ends m x h none ts fs seen new e is = go (is_colon m)
  where
    go : (b : Bool) → Emits seen new (if b then Some (want (within h ts (sign m x ∷ []) fs)) else None)
    go true = ap (λ a. frames_acts fs ++ (heading_acts h fs ++ a)) e ∙ is
    go false = tt
unnamed ends m x h (more us q u) ts fs seen new e is = tt
unnamed run m x h before ts fs seen new e is = tt

pub next_emits : (h : Heading) (m : Mark) (x : Token) (ts : Trees) (pre : List Terminal) (t : Tree) (fs : Frames)
    → Emits (frames_acts (within h ts pre fs) ++ acts t) (part_end h) (next_part (style (sort fs) h) m x h ts (more ts pre t) fs)
next_emits (plain brace o) m x ts pre t fs = go (is_comma m)
  where
    go : (b : Bool) → Emits (frames_acts (within (plain brace o) ts pre fs) ++ acts t) (part_end (plain brace o)) (if b then Some (naming (plain brace o) (more ts pre t) (sign m x ∷ []) fs) else None)
    go true = parts_emit (plain brace o) ts pre t fs
    go false = tt
next_emits (plain round o) m x ts pre t fs = unnamed (style (sort fs) (plain round o)) m x (plain round o) ts (more ts pre t) fs (frames_acts (within (plain round o) ts pre fs) ++ acts t) (part_end (plain round o)) refl (parts_emit (plain round o) ts pre t fs)
next_emits (plain square o) m x ts pre t fs = tt
next_emits (plain tick_round o) m x ts pre t fs = tt
next_emits (plain tick_square o) m x ts pre t fs = tt
next_emits (plain tick_brace o) m x ts pre t fs = tt
next_emits (plain dollar o) m x ts pre t fs = tt
next_emits (length o) m x ts pre t fs = tt
next_emits (arguments f o) m x ts pre t fs = unnamed (style (sort fs) (arguments f o)) m x (arguments f o) ts (more ts pre t) fs (frames_acts (within (arguments f o) ts pre fs) ++ acts t) (part_end (arguments f o)) refl (parts_emit (arguments f o) ts pre t fs)
next_emits (index u o) m x ts pre t fs = unnamed (style (sort fs) (index u o)) m x (index u o) ts (more ts pre t) fs (frames_acts (within (index u o) ts pre fs) ++ acts t) (part_end (index u o)) refl (parts_emit (index u o) ts pre t fs)
next_emits (segment p o) m x ts pre t fs = unnamed (style (sort fs) (segment p o)) m x (segment p o) ts (more ts pre t) fs (frames_acts (within (segment p o) ts pre fs) ++ acts t) (part_end (segment p o)) refl (parts_emit (segment p o) ts pre t fs)
next_emits (update p k o) m x ts pre t fs = tt
next_emits (below o i k y) m x ts pre t fs = tt

pub separates : (m : Mark) (x : Token) (p : Tree × Frames) → Emits (pair_acts p) (separating p.1) (separate m x p)
separates m x (t, bottom σ) = tt
separates m x (t, over g fs) = tt
separates m x (t, timing u k y fs) = tt
separates m x (t, within h ts pre fs) = next_emits h m x ts pre t fs

-- ---- a bracket that closes

pub shuts : (h : Heading) (ts : Trees) (pre : List Terminal) (t : Tree) (x : Token) (fs : Frames)
    → state_acts (shut h (more ts pre t) x fs) ≡ (frames_acts (within h ts pre fs) ++ acts t) ++ (part_end h ++ shutting h (more ts pre t) x fs)
shuts (segment p o) ts pre t x fs =
    more_emits (segment p o) ts pre t fs (closing_acts (segment p o) (more ts pre t))
shuts (plain k o) ts pre t x fs = bracket_settles (plain k o) (more ts pre t) x fs ∙ more_emits (plain k o) ts pre t fs _
shuts (length o) ts pre t x fs = bracket_settles (length o) (more ts pre t) x fs ∙ more_emits (length o) ts pre t fs _
shuts (arguments f o) ts pre t x fs = bracket_settles (arguments f o) (more ts pre t) x fs ∙ more_emits (arguments f o) ts pre t fs _
shuts (index u o) ts pre t x fs = bracket_settles (index u o) (more ts pre t) x fs ∙ more_emits (index u o) ts pre t fs _
shuts (update p m y) ts pre t x fs = bracket_settles (update p m y) (more ts pre t) x fs ∙ more_emits (update p m y) ts pre t fs _
shuts (below o i m y) ts pre t x fs = bracket_settles (below o i m y) (more ts pre t) x fs ∙ more_emits (below o i m y) ts pre t fs _

pub closes_emit : (c : Closing) (x : Token) (p : Tree × Frames) → Emits (pair_acts p) (closed x p) (close c x p)
closes_emit c x (t, bottom σ) = tt
closes_emit c x (t, over g fs) = tt
closes_emit c x (t, timing u m y fs) = tt
closes_emit c x (t, within h ts pre fs) = go (agree (closes h) c)
  where
    go : (b : Bool) → Emits (frames_acts (within h ts pre fs) ++ acts t) (part_end h ++ shutting h (more ts pre t) x fs) (if b then Some (shut h (more ts pre t) x fs) else None)
    go true = shuts h ts pre t x fs
    go false = tt
