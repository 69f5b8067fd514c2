-- Each step of the reading adds the actions that it emits, and the end adds the last ones.
use Rattle.std.proofs.Common.{◌≡◌, ℕ, List, [], ◌∷◌, ◌++◌, Bool, true, false, ◌&&◌, Option, Some, None, nat_le, option_and_then, if◌then◌else◌, refl, sym, ap, subst, ◌∙◌, append_assoc}
use Rattle.std.proofs.lemmas.List.{append-nil}
use Rattle.st_num.specs.declared.mark.Mark.{Mark}
use Rattle.st_num.specs.declared.token.Token.{Token}
use Rattle.st_grammar.specs.declared.sort.Leaf.TheVariants.{Low as low, Basic as basic, Variable as variable, Atom as atom, Number as number, Literal as literal, Function as function}
use Rattle.st_grammar.specs.declared.sort.Bracket.{Bracket}
use Rattle.st_grammar.specs.declared.sort.Bracket.TheVariants.{Round as round, Square as square, Brace as brace, TickRound as tick_round, TickSquare as tick_square, TickBrace as tick_brace, Dollar as dollar}
use Rattle.st_grammar.specs.declared.sort.Closing.{Closing}
use Rattle.st_grammar.specs.declared.sort.Closing.TheVariants.{ByRound as by_round, BySquare as by_square, ByBrace as by_brace, ByBar as by_bar}
use Rattle.st_grammar.specs.declared.sort.Sort.{Sort}
use Rattle.st_grammar.specs.Terminals.{Terminal, leaf, dot, sign, opening, closing, other}
use Rattle.st_num.specs.Signs.{level as level_of, prefix_level}
use Rattle.st_grammar.specs.Levels.{takes, encloses, computes, is_expression, is_count, has_level, left_of, is_caret, is_less, is_change}
use Rattle.st_grammar.specs.Trees.{Tree, operand, post, times, bracket, led, left, ahead, items, Trees, none, more, Heading, plain, length, arguments, index, segment, update, below, Path, head, field, part}
use Rattle.st_grammar.specs.Grammar.{is_label, follows, may_post, level, has_step}
use Rattle.st_grammar.specs.Reading.{Frames, bottom, within, over, timing, State, want, got, naming, pathed, indexing, comparing, sort, least, settle, lower, ended, no_arguments, close, begin_closing, begin_opening, opened, begin, extend, separate, join, pull, behind_sign, behind_square, behind_round, behind_opening, behind, after, in_index, in_path, name_field, name_index, bound_index, step, finish, reading, reads, start}
use Rattle.st_grammar.specs.Definitions.{token_in}
use Rattle.st_grammar.specs.declared.action.Action.{Action}
use Rattle.st_grammar.specs.declared.action.Action.TheVariants as action
use Rattle.st_grammar.specs.inner.Actions.{post_acts, label_acts, item_act, inner_acts, acts, opening_acts, path_acts, each_acts, part_acts, field_acts, item_acts}
use Rattle.st_grammar.specs.inner.Emission.{index_label, heading_acts, frames_acts, state_acts, settling, lowering, separating, closed, no_arguments_end, beginning_closing, beginning_opening, beginning, extending, joining, behind_sign_acts, behind_opening_acts, behind_acts, after_acts, index_acts_in, path_step_acts, name_acts, name_index_acts, emitted, finishing, on_next, emissions}
use Rattle.st_grammar.proofs.EmissionEnds.{Emits, pair_acts, operand_settles, bracket_settles, lowers, separates, closes_emit}

-- ---- what begins

pub no_arguments_emit : (x : Token) (fs : Frames) → Emits (frames_acts fs) (no_arguments_end x fs) (no_arguments x fs)
no_arguments_emit x (bottom σ) = tt
no_arguments_emit x (over g fs) = tt
no_arguments_emit x (timing t m y fs) = tt
no_arguments_emit x (within (plain k o) ts pre fs) = tt
no_arguments_emit x (within (length o) ts pre fs) = tt
no_arguments_emit x (within (index t o) ts pre fs) = tt
no_arguments_emit x (within (segment p o) ts pre fs) = tt
no_arguments_emit x (within (update p m y) ts pre fs) = tt
no_arguments_emit x (within (below o i m y) ts pre fs) = tt
no_arguments_emit x (within (arguments f o) none (l ∷ pre) fs) = tt
no_arguments_emit x (within (arguments f o) (more ts q t) pre fs) = tt
no_arguments_emit x (within (arguments f o) none [] fs) =
    bracket_settles (arguments f o) none x fs
    ∙ sym (append_assoc (frames_acts fs) (action.Operand function f ∷ action.Open o.at ∷ []) (action.EndCall ∷ settling (bracket (arguments f o) none x) fs))

pub closing_begins : (c : Closing) (x : Token) (fs : Frames) → Emits (frames_acts fs) (beginning_closing c x fs) (begin_closing c x fs)
closing_begins by_bar x fs = go (computes (sort fs))
  where
    go : (b : Bool) → Emits (frames_acts fs) (opening_acts (length x)) (if b then Some (want (within (length x) none [] fs)) else None)
    go true = refl
    go false = tt
closing_begins by_round x fs = no_arguments_emit x fs
closing_begins by_square x fs = tt
closing_begins by_brace x fs = tt

pub plain_begins : (k : Bracket) (x : Token) (fs : Frames) → state_acts (opened k x fs) ≡ frames_acts fs ++ opening_acts (plain k x)
plain_begins round x fs = refl
plain_begins square x fs = refl
plain_begins brace x fs = refl
plain_begins tick_round x fs = refl
plain_begins tick_square x fs = refl
plain_begins tick_brace x fs = refl
plain_begins dollar x fs = refl

pub plain_emits : (k : Bracket) (x : Token) (fs : Frames) → Emits (frames_acts fs) (opening_acts (plain k x)) (if encloses (sort fs) k then Some (opened k x fs) else None)
plain_emits k x fs = go (encloses (sort fs) k)
  where
    go : (b : Bool) → Emits (frames_acts fs) (opening_acts (plain k x)) (if b then Some (opened k x fs) else None)
    go true = plain_begins k x fs
    go false = tt

pub opening_begins : (k : Bracket) (x : Token) (fs : Frames) → Emits (frames_acts fs) (beginning_opening k x fs) (begin_opening k x fs)
opening_begins round x fs = go (is_count (sort fs))
  where
    go : (b : Bool) → Emits (frames_acts fs) (if b then [] else opening_acts (plain round x)) (if b then Some (indexing x fs) else if encloses (sort fs) round then Some (want (within (plain round x) none [] fs)) else None)
    go true = sym (append-nil (frames_acts fs))
    go false = plain_emits round x fs
opening_begins square x fs = plain_emits square x fs
opening_begins brace x fs = plain_emits brace x fs
opening_begins tick_round x fs = plain_emits tick_round x fs
opening_begins tick_square x fs = plain_emits tick_square x fs
opening_begins tick_brace x fs = plain_emits tick_brace x fs
opening_begins dollar x fs = plain_emits dollar x fs

pub begins : (fs : Frames) (l : Terminal) → Emits (frames_acts fs) (beginning fs l) (begin fs l)
begins fs (leaf k x) = go (takes (sort fs) k)
  where
    go : (b : Bool) → Emits (frames_acts fs) (action.Operand k x ∷ settling (operand k x) fs) (if b then Some (settle (operand k x) fs) else None)
    go true = operand_settles k x fs
    go false = tt
begins fs (dot x) = tt
begins fs (sign m x) = go (has_level (sort fs) (prefix_level m) && nat_le (least fs) (prefix_level m))
  where
    go : (b : Bool) → Emits (frames_acts fs) (action.Here x.at ∷ []) (if b then Some (want (over (ahead m x) fs)) else None)
    go true = refl
    go false = tt
begins fs (opening k x) = opening_begins k x fs
begins fs (closing c x) = closing_begins c x fs
begins fs (other x) = tt

-- ---- what stands behind a part

pub extend_emits : (t : Tree) (fs : Frames) → frames_acts (extend t fs) ≡ (frames_acts fs ++ acts t) ++ extending fs
extend_emits t (bottom σ) = refl
extend_emits t (within h ts pre fs) = sym (append_assoc (frames_acts (within h ts pre fs)) (acts t) (action.First ∷ []))
extend_emits t (over (left l m x) fs) = sym (append_assoc (frames_acts (over (left l m x) fs)) (acts t) (action.First ∷ []))
extend_emits t (over (ahead m x) fs) = sym (append_assoc (frames_acts (over (ahead m x) fs)) (acts t) (action.First ∷ []))
extend_emits t (over (items ts) fs) = regroup (frames_acts fs) (item_acts ts) (acts t) (item_act ts ∷ [])
  where
    regroup : (f i t e : List Action) → f ++ (i ++ (t ++ e)) ≡ ((f ++ i) ++ t) ++ e
    regroup f i t e = simp append_assoc
extend_emits t (timing u m x fs) = sym (append_assoc (frames_acts (timing u m x fs)) (acts t) (action.First ∷ []))

-- what one step adds behind what is added before
pub behind_emits : (o : Option State) (seen front new : List Action) (before : List Action) → before ≡ seen ++ front → Emits before new o → Emits seen (front ++ new) o
behind_emits None seen front new before e h = tt
behind_emits (Some next) seen front new before e h = h ∙ ap (λ a. a ++ new) e ∙ append_assoc seen front new

pub next_begins : (t : Tree) (fs : Frames) (l : Terminal) → Emits (frames_acts fs ++ acts t) (extending fs ++ beginning (extend t fs) l) (begin (extend t fs) l)
next_begins t fs l = behind_emits (begin (extend t fs) l) (frames_acts fs ++ acts t) (extending fs) (beginning (extend t fs) l) (frames_acts (extend t fs)) (extend_emits t fs) (begins (extend t fs) l)

pub joins : (m : Mark) (x : Token) (p : Tree × Frames) → Emits (pair_acts p) (joining m p.1) (join m x p)
joins m x p = go (has_level (sort p.1) (level_of m) && nat_le (least p.1) (level_of m))
  where
    stands : (b : Bool) → Emits (pair_acts p) [] (if b then Some (want (over (left p.0 m x) p.1)) else None)
    stands true = sym (append-nil (pair_acts p))
    stands false = tt

    go : (b : Bool) → Emits (pair_acts p) (if b then [] else separating p.1) (if b then (if nat_le (left_of m) (level p.0) then Some (want (over (left p.0 m x) p.1)) else None) else separate m x p)
    go true = stands (nat_le (left_of m) (level p.0))
    go false = separates m x p

pub signs : (m : Mark) (x : Token) (t : Tree) (fs : Frames) → Emits (frames_acts fs ++ acts t) (behind_sign_acts m x t fs) (behind_sign m x t fs)
signs m x t fs = go (may_post (sort fs) t (sign m x))
  where
    n : ℕ
    n = pull (sort fs) m

    seen : List Action
    seen = frames_acts fs ++ acts t

    counted : (b : Bool) → Emits seen (if b then [] else lowering n fs ++ joining m (lower n t fs).1) (if b then Some (want (timing t m x fs)) else join m x (lower n t fs))
    counted true = sym (append-nil seen)
    counted false = behind_emits (join m x (lower n t fs)) seen (lowering n fs) (joining m (lower n t fs).1) (pair_acts (lower n t fs)) (lowers n t fs) (joins m x (lower n t fs))

    go : (b : Bool) → Emits seen (if b then post_acts (sign m x) else if is_expression (sort fs) && is_caret m then [] else lowering n fs ++ joining m (lower n t fs).1)
        (if b then Some (got (post t (sign m x)) fs) else if is_expression (sort fs) && is_caret m then Some (want (timing t m x fs)) else join m x (lower n t fs))
    go true = sym (append_assoc (frames_acts fs) (acts t) (post_acts (sign m x)))
    go false = counted (is_expression (sort fs) && is_caret m)

pub squares : (x : Token) (t : Tree) (fs : Frames) → Emits (frames_acts fs ++ acts t) (action.OpenPath ∷ []) (behind_square x t fs)
squares x t fs = go (is_expression (sort fs))
  where
    is : frames_acts fs ++ (acts t ++ action.OpenPath ∷ []) ≡ (frames_acts fs ++ acts t) ++ action.OpenPath ∷ []
    is = sym (append_assoc (frames_acts fs) (acts t) (action.OpenPath ∷ []))

    computed : (b : Bool) → Emits (frames_acts fs ++ acts t) (action.OpenPath ∷ []) (if b then Some (want (within (index t x) none [] fs)) else None)
    computed true = ap (λ a. frames_acts fs ++ a) (append-nil (acts t ++ action.OpenPath ∷ [])) ∙ is
    computed false = tt

    go : (b : Bool) → Emits (frames_acts fs ++ acts t) (action.OpenPath ∷ []) (if b then Some (pathed (head t x) fs) else if computes (sort fs) then Some (want (within (index t x) none [] fs)) else None)
    go true = is
    go false = computed (computes (sort fs))

pub calls : (x : Token) (t : Tree) (fs : Frames) → Emits (frames_acts fs ++ acts t) (action.Open x.at ∷ []) (behind_round x t fs)
calls x (operand low f) fs = tt
calls x (operand basic f) fs = tt
calls x (operand variable f) fs = tt
calls x (operand atom f) fs = tt
calls x (operand number f) fs = tt
calls x (operand literal f) fs = tt
calls x (operand function f) fs = go (computes (sort fs) && x.touching)
  where
    go : (b : Bool) → Emits (frames_acts fs ++ action.Operand function f ∷ []) (action.Open x.at ∷ []) (if b then Some (want (within (arguments f x) none [] fs)) else None)
    go true = sym (append_assoc (frames_acts fs) (action.Operand function f ∷ []) (action.Open x.at ∷ []))
    go false = tt
calls x (post t l) fs = tt
calls x (times t m y c) fs = tt
calls x (bracket h ts c) fs = tt
calls x (led g t) fs = tt

pub openings : (k : Bracket) (x : Token) (t : Tree) (fs : Frames) → Emits (frames_acts fs ++ acts t) (behind_opening_acts k x) (behind_opening k x t fs)
openings square x t fs = squares x t fs
openings round x t fs = calls x t fs
openings brace x t fs = tt
openings tick_round x t fs = tt
openings tick_square x t fs = tt
openings tick_brace x t fs = tt
openings dollar x t fs = tt

pub behinds : (t : Tree) (fs : Frames) (l : Terminal) → Emits (frames_acts fs ++ acts t) (behind_acts t fs l) (behind t fs l)
behinds t fs (leaf k x) = tt
behinds t fs (dot x) = go (may_post (sort fs) t (dot x))
  where
    go : (b : Bool) → Emits (frames_acts fs ++ acts t) (post_acts (dot x)) (if b then Some (got (post t (dot x)) fs) else None)
    go true = sym (append_assoc (frames_acts fs) (acts t) (post_acts (dot x)))
    go false = tt
behinds t fs (sign m x) = signs m x t fs
behinds t fs (opening k x) = openings k x t fs
behinds t fs (closing c x) = behind_emits (close c x (lower 0 t fs)) (frames_acts fs ++ acts t) (lowering 0 fs) (closed x (lower 0 t fs)) (pair_acts (lower 0 t fs)) (lowers 0 t fs) (closes_emit c x (lower 0 t fs))
behinds t fs (other x) = tt

pub afters : (t : Tree) (fs : Frames) (l : Terminal) → Emits (frames_acts fs ++ acts t) (after_acts t fs l) (after t fs l)
afters t fs l = go (follows (sort fs) t l)
  where
    go : (b : Bool) → Emits (frames_acts fs ++ acts t) (if b then extending fs ++ beginning (extend t fs) l else behind_acts t fs l) (if b then begin (extend t fs) l else behind t fs l)
    go true = next_begins t fs l
    go false = behinds t fs l

-- ---- paths, names and counts

pub in_index_emits : (p : Path) (fs : Frames) (l : Terminal) → Emits (frames_acts fs ++ path_acts p) (index_acts_in p fs l) (in_index p fs l)
in_index_emits (head t o) fs l =
    subst (λ a. Emits (frames_acts fs ++ a) (beginning (within (index t o) none [] fs) l) (begin (within (index t o) none [] fs) l)) (append-nil (acts t ++ action.OpenPath ∷ []))
    (begins (within (index t o) none [] fs) l)
in_index_emits (field p x) fs l = tt
in_index_emits (part p o ts c) fs l = tt

pub paths_emit : (p : Path) (fs : Frames) (l : Terminal) → Emits (frames_acts fs ++ path_acts p) (path_step_acts p fs l) (in_path p fs l)
paths_emit p fs (dot x) = sym (append_assoc (frames_acts fs) (path_acts p) (action.StepField x ∷ []))
paths_emit p fs (opening square x) = ap (λ a. frames_acts fs ++ a) (append-nil (path_acts p)) ∙ sym (append-nil (frames_acts fs ++ path_acts p))
paths_emit p fs (sign m x) = go (has_step p && is_change m)
  where
    go : (b : Bool) → Emits (frames_acts fs ++ path_acts p) (if b then [] else index_acts_in p fs (sign m x)) (if b then Some (want (within (update p m x) none [] fs)) else in_index p fs (sign m x))
    go true = ap (λ a. frames_acts fs ++ a) (append-nil (path_acts p)) ∙ sym (append-nil (frames_acts fs ++ path_acts p))
    go false = in_index_emits p fs (sign m x)
paths_emit p fs (leaf k x) = in_index_emits p fs (leaf k x)
paths_emit p fs (opening round x) = in_index_emits p fs (opening round x)
paths_emit p fs (opening brace x) = in_index_emits p fs (opening brace x)
paths_emit p fs (opening tick_round x) = in_index_emits p fs (opening tick_round x)
paths_emit p fs (opening tick_square x) = in_index_emits p fs (opening tick_square x)
paths_emit p fs (opening tick_brace x) = in_index_emits p fs (opening tick_brace x)
paths_emit p fs (opening dollar x) = in_index_emits p fs (opening dollar x)
paths_emit p fs (closing c x) = in_index_emits p fs (closing c x)
paths_emit p fs (other x) = in_index_emits p fs (other x)

pub last_label : (pre : List Terminal) (l : Terminal) → label_acts (pre ++ l ∷ []) ≡ action.Label (token_in l) ∷ []
last_label [] l = refl
last_label (k ∷ []) l = refl
last_label (k ∷ j ∷ pre) l = last_label (j ∷ pre) l

pub named : (h : Heading) (ts : Trees) (pre : List Terminal) (l : Terminal)
    → inner_acts h (each_acts ts) (part_acts ts) (field_acts ts ++ label_acts (pre ++ l ∷ [])) ≡ inner_acts h (each_acts ts) (part_acts ts) (field_acts ts) ++ name_acts h l
named (plain round o) ts pre l = sym (append-nil (part_acts ts))
named (plain brace o) ts pre l = ap (λ a. field_acts ts ++ a) (last_label pre l)
named (plain square o) ts pre l = sym (append-nil (each_acts ts))
named (plain tick_round o) ts pre l = sym (append-nil (each_acts ts))
named (plain tick_square o) ts pre l = sym (append-nil (each_acts ts))
named (plain tick_brace o) ts pre l = sym (append-nil (each_acts ts))
named (plain dollar o) ts pre l = sym (append-nil (each_acts ts))
named (length o) ts pre l = sym (append-nil (each_acts ts))
named (arguments f o) ts pre l = sym (append-nil (part_acts ts))
named (index u o) ts pre l = sym (append-nil (each_acts ts))
named (segment p o) ts pre l = sym (append-nil (each_acts ts))
named (update p m x) ts pre l = sym (append-nil (each_acts ts))
named (below o i m x) ts pre l = sym (append-nil (each_acts ts))

pub names_emit : (h : Heading) (ts : Trees) (pre : List Terminal) (fs : Frames) (l : Terminal) → Emits (state_acts (naming h ts pre fs)) (name_acts h l) (name_field h ts pre fs l)
names_emit h ts pre fs l = go (is_label l)
  where
    regroup : (f h b n : List Action) → f ++ (h ++ (b ++ n)) ≡ (f ++ (h ++ b)) ++ n
    regroup f h b n = simp append_assoc

    go : (b : Bool) → Emits (state_acts (naming h ts pre fs)) (name_acts h l) (if b then Some (want (within h ts (pre ++ l ∷ []) fs)) else None)
    go true = ap (λ a. frames_acts fs ++ (heading_acts h fs ++ a)) (named h ts pre l) ∙ regroup (frames_acts fs) (heading_acts h fs) (inner_acts h (each_acts ts) (part_acts ts) (field_acts ts)) (name_acts h l)
    go false = tt

pub indexes_emit : (o : Token) (fs : Frames) (l : Terminal) → Emits (frames_acts fs) (name_index_acts fs l) (name_index o fs l)
indexes_emit o fs (leaf low i) = refl
indexes_emit o fs (leaf basic x) = tt
indexes_emit o fs (leaf variable x) = tt
indexes_emit o fs (leaf atom x) = tt
indexes_emit o fs (leaf number x) = tt
indexes_emit o fs (leaf literal x) = tt
indexes_emit o fs (leaf function x) = tt
indexes_emit o fs (dot x) = tt
indexes_emit o fs (sign m x) = tt
indexes_emit o fs (opening k x) = tt
indexes_emit o fs (closing c x) = tt
indexes_emit o fs (other x) = tt

pub compares_emit : (o i : Token) (fs : Frames) (l : Terminal) → Emits (frames_acts fs ++ index_label i fs) [] (bound_index o i fs l)
compares_emit o i fs (sign m x) = go (is_less m)
  where
    go : (b : Bool) → Emits (frames_acts fs ++ index_label i fs) [] (if b then Some (want (within (below o i m x) none [] fs)) else None)
    go true = sym (append_assoc (frames_acts fs) (index_label i fs) [])
    go false = tt
compares_emit o i fs (leaf k x) = tt
compares_emit o i fs (dot x) = tt
compares_emit o i fs (opening k x) = tt
compares_emit o i fs (closing c x) = tt
compares_emit o i fs (other x) = tt

-- ---- the reading

pub step_emits : (st : State) (l : Terminal) → Emits (state_acts st) (emitted st l) (step st l)
step_emits (want fs) l = begins fs l
step_emits (got t fs) l = afters t fs l
step_emits (naming h ts pre fs) l = names_emit h ts pre fs l
step_emits (pathed p fs) l = paths_emit p fs l
step_emits (indexing o fs) l = indexes_emit o fs l
step_emits (comparing o i fs) l = compares_emit o i fs l

pub emits_next : (st : State) (l : Terminal) (next : State) → step st l ≡ Some next → state_acts next ≡ state_acts st ++ emitted st l
emits_next st l next e = subst (Emits (state_acts st) (emitted st l)) e (step_emits st l)

pub ended_emits : (p : Tree × Frames) (t : Tree) → ended p ≡ Some t → acts t ≡ pair_acts p
ended_emits (u, bottom σ) t e = let is : u ≡ t = cc in ap acts (sym is)
ended_emits (u, within h ts pre fs) t e = absurd (cc)
ended_emits (u, over g fs) t e = absurd (cc)
ended_emits (u, timing v m x fs) t e = absurd (cc)

pub finish_emits : (st : State) (t : Tree) → finish st ≡ Some t → acts t ≡ state_acts st ++ finishing st
finish_emits (got u fs) t e = ended_emits (lower 0 u fs) t e ∙ lowers 0 u fs
finish_emits (want fs) t e = absurd (cc)
finish_emits (naming h ts pre fs) t e = absurd (cc)
finish_emits (pathed p fs) t e = absurd (cc)
finish_emits (indexing o fs) t e = absurd (cc)
finish_emits (comparing o i fs) t e = absurd (cc)

-- All that is emitted from a state on are the actions of the tree that are missing there.
pub emits_all : (w : List Terminal) (st : State) (t : Tree) → reads st w ≡ Some t → acts t ≡ state_acts st ++ emissions st w
emits_all [] st t e = finish_emits st t e
emits_all (l ∷ w) st t e = go (step st l) (step_emits st l) e (λ next. emits_all w next t)
  where
    go : (o : Option State) → Emits (state_acts st) (emitted st l) o → option_and_then finish (option_and_then (λ next. reading next w) o) ≡ Some t
        → ((next : State) → reads next w ≡ Some t → acts t ≡ state_acts next ++ emissions next w)
        → acts t ≡ state_acts st ++ (emitted st l ++ on_next (λ next. emissions next w) o)
    go None h f later = absurd (cc)
    go (Some next) h f later = later next f ∙ ap (λ a. a ++ emissions next w) h ∙ append_assoc (state_acts st) (emitted st l) (emissions next w)

pub emits_part : (σ : Sort) (us : List Terminal) (t : Tree) → reads (start σ) us ≡ Some t → acts t ≡ emissions (start σ) us
emits_part σ us t e = emits_all us (start σ) t e

-- the state in which a part ends
pub read_state : (st : State) (w : List Terminal) (t : Tree) → reads st w ≡ Some t → (end : State) × (reading st w ≡ Some end) × (finish end ≡ Some t)
read_state st w t e = go (reading st w) refl e
  where
    go : (o : Option State) → reading st w ≡ o → option_and_then finish o ≡ Some t → (end : State) × (reading st w ≡ Some end) × (finish end ≡ Some t)
    go None h f = absurd (cc)
    go (Some end) h f = (end, h, f)
