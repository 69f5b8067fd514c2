-- Each token behind a part changes the tallies as the parser counts them.
use Rattle.std.proofs.Common.{◌≡◌, ℕ, ◌+◌, List, [], ◌∷◌, ◌++◌, Bool, true, false, not, ◌&&◌, Some, None, nat_le, if◌then◌else◌, refl, sym, ap, subst, ◌∙◌, arith}
use Rattle.st_num.specs.declared.mark.Mark.{Mark}
use Rattle.st_num.specs.declared.token.Token.{Token}
use Rattle.st_grammar.specs.declared.sort.Style.{Style}
use Rattle.st_grammar.specs.declared.sort.Style.TheVariants.{Lone as lone, Parts as listing, Fields as fields, Ends as ends, Run as run}
use Rattle.st_grammar.specs.declared.sort.Leaf.TheVariants.{Low as low, Function as function}
use Rattle.st_grammar.specs.declared.sort.Leaf.TheVariants as leaves
use Rattle.st_grammar.specs.declared.sort.Bracket.TheVariants as bracket_of
use Rattle.st_grammar.specs.declared.sort.Closing.{Closing}
use Rattle.st_grammar.specs.declared.sort.Closing.TheVariants as closings
use Rattle.st_grammar.specs.declared.sort.Sort.TheVariants as sorts
use Rattle.st_grammar.specs.Terminals.{Terminal, leaf, dot, sign, opening, closing, other}
use Rattle.st_num.specs.Signs.{level as level_of}
use Rattle.st_grammar.specs.Levels.{takes, computes, is_expression, has_level, left_of, is_caret, is_comma, is_colon, is_less, is_change}
use Rattle.st_grammar.specs.Trees.{Tree, operand, post, times, bracket, led, Lead, left, ahead, items, Trees, none, more, Heading, plain, length, arguments, index, segment, update, below, Path, head, field, part, closes, agree}
use Rattle.st_grammar.specs.Grammar.{style, is_label, follows, may_post, level, size}
use Rattle.st_grammar.specs.Reading.{Frames, bottom, within, over, timing, State, want, got, naming, pathed, indexing, comparing, sort, least, settle, reach, lower, shut, close, next_part, begin, extend, separate, join, pull, behind_sign, behind_square, behind_round, behind, after, in_path, name_field, name_index, bound_index, step}
use Rattle.st_grammar.proofs.Sound.{Stand, base, state_base, Holds}
use Rattle.st_parse_automaton.specs.inner.PartAutomaton as parts
use Rattle.st_parse_automaton.specs.inner.Shapes.{shape}
use Rattle.st_parse_automaton.proofs.View.{part_of, state_of, top_sort}
use Rattle.st_parse_automaton.proofs.Simulation.{follows_is}
use Rattle.st_parse_faults.specs.declared.role.Attachment.{Attachment}
use Rattle.st_parse_faults.specs.declared.role.Attachment.TheVariants as attachment
use Rattle.st_parse_faults.specs.declared.role.TokenRole.TheVariants as role
use Rattle.st_parse_faults.specs.declared.tally.Tally.{Tally}
use Rattle.st_parse_faults.specs.Signs.{goes_on, is_in_name, unless, posts, signs, all_signs, ends_with_label}
use Rattle.st_parse_faults.specs.inner.Limits.{signs_in, parts_in, elements_in, elements_with, aheads, tally, fresh, due_tally, held_tally, tallies_round, part_tallies, with_one}
use Rattle.st_parse_faults.specs.inner.Roles as roles
use Rattle.st_parse_faults.specs.inner.Roles.{behind_attachment, part_attachment, counted, moved}
use Rattle.st_parse_faults.proofs.InName.{in_name_is}
use Rattle.st_parse_faults.proofs.NumberFacts.{NoCount, held, part_signs, round_parts, same_signs, last_label}
use Rattle.st_parse_faults.proofs.Tallies.{To, on_if, on_both, same_tally, settled, settled_open, RowReady, begins}

-- ---- counts

pub count_begins : (n : ℕ) (u : Tree) (m : Mark) (z : Token) (fs : Frames) (l : Terminal) → Stand (timing u m z fs)
    → To n attachment.Other l (due_tally n (timing u m z fs) ∷ tallies_round n fs) (begin (timing u m z fs) l)
count_begins n u m z fs (leaf k x) s =
    on_if n attachment.Other (leaf k x) (due_tally n (timing u m z fs) ∷ tallies_round n fs) (takes sorts.Count k) (settle (operand k x) (timing u m z fs)) None
    (λ e. (settled n (operand k x) (timing u m z fs) s, refl)) (λ e. tt)
count_begins n u m z fs (dot x) s = tt
count_begins n u m z fs (sign k x) s = tt
count_begins n u m z fs (opening bracket_of.Round x) s = (refl, refl)
count_begins n u m z fs (opening bracket_of.Square x) s = tt
count_begins n u m z fs (opening bracket_of.Brace x) s = tt
count_begins n u m z fs (opening bracket_of.TickRound x) s = tt
count_begins n u m z fs (opening bracket_of.TickSquare x) s = tt
count_begins n u m z fs (opening bracket_of.TickBrace x) s = tt
count_begins n u m z fs (opening bracket_of.Dollar x) s = (refl, refl)
count_begins n u m z fs (closing closings.ByBar x) s = tt
count_begins n u m z fs (closing closings.ByRound x) s = tt
count_begins n u m z fs (closing closings.BySquare x) s = tt
count_begins n u m z fs (closing closings.ByBrace x) s = tt
count_begins n u m z fs (other x) s = tt

-- ---- what is closed over a part

pub record Lowers (n : ℕ) (t : Tree) (fs : Frames) (p : Tree × Frames) : Type 0 where
  pub sign : signs p.0 + signs_in n p.1 ≡ signs t + signs_in n fs
  pub part : parts_in p.1 ≡ parts_in fs
  pub round : tallies_round n p.1 ≡ tallies_round n fs

pub lowers : (n m : ℕ) (t : Tree) (fs : Frames) → Lowers n t fs (lower m t fs)
lowers n m t (bottom σ) = record { sign = refl; part = refl; round = refl }
lowers n m t (within h ts pre fs) = record { sign = refl; part = refl; round = refl }
lowers n m t (timing u k x fs) = record { sign = refl; part = refl; round = refl }
lowers n m t (over g fs) = go (nat_le (reach g) m) (lowers n m (led g t) fs)
  where
    go : (b : Bool) → Lowers n (led g t) fs (lower m (led g t) fs) → Lowers n t (over g fs) (if b then (t, over g fs) else lower m (led g t) fs)
    go true r = record { sign = refl; part = refl; round = refl }
    go false r = record { sign = omega (arith, r.sign); part = r.part; round = r.round }

pub lowered_stands : (m : ℕ) (t : Tree) (fs : Frames) → Stand fs → Stand (lower m t fs).1
lowered_stands m t (bottom σ) s = s
lowered_stands m t (within h ts pre fs) s = s
lowered_stands m t (timing u k x fs) s = s
lowered_stands m t (over g fs) s = go (nat_le (reach g) m) (lowered_stands m (led g t) fs s.0)
  where
    go : (b : Bool) → Stand (lower m (led g t) fs).1 → Stand (if b then (t, over g fs) else lower m (led g t) fs).1
    go true r = s
    go false r = r

-- ---- what closes

-- the tally of a part that is read there
abbrev pub got_tally : ℕ → Tree → Frames → Tally
got_tally n t fs = tally (parts_in fs + 1) (elements_with fs) (signs t + signs_in n fs) (posts (sort fs) t) false

pub bars_close : (n : ℕ) (y : Tally) (o : Token) (ts : Trees) (pre : List Terminal) (t : Tree) (x : Token) (fs : Frames) → Stand (within (length o) ts pre fs)
    → y.signs ≡ signs t + (all_signs ts + signs_in n fs)
    → To n attachment.Behind (closing closings.ByBar x) (y ∷ tallies_round n (within (length o) ts pre fs)) (Some (settle (bracket (length o) (more ts pre t) x) fs))
bars_close n y o ts pre t x (bottom σ) s e = (ap (λ v. tally 1 1 v 0 false ∷ []) (omega (arith, e)), refl)
bars_close n y o ts pre t x (within h us q fs) s e =
    (ap (λ v. tally (size us + 1) 1 v 0 false ∷ tallies_round n (within h us q fs)) (omega (arith, e)), refl)
bars_close n y o ts pre t x (over g fs) s e =
    (ap (λ v. tally (parts_in fs + 1) (elements_with (over g fs)) v 0 false ∷ tallies_round n fs) (omega (arith, e)), refl)
bars_close n y o ts pre t x (timing u m z fs) s e = let no : false ≡ true = s.1 in absurd (cc)

-- a bracket that is no length closes
pub round_shuts : (n : ℕ) (y : Tally) (c : Closing) (h : Heading) (ts : Trees) (pre : List Terminal) (t : Tree) (x : Token) (fs : Frames) → Stand fs → agree (closes h) c ≡ true → (c ≡ closings.ByBar → ⊥)
    → To n attachment.Behind (closing c x) (y ∷ tallies_round n (within h ts pre fs)) (Some (shut h (more ts pre t) x fs))
round_shuts n y closings.ByBar h ts pre t x fs s a b = absurd (b refl)
round_shuts n y closings.ByRound (plain k o) ts pre t x fs s a b = (settled n (bracket (plain k o) (more ts pre t) x) fs s, settled_open (bracket (plain k o) (more ts pre t) x) fs)
round_shuts n y closings.ByRound (length o) ts pre t x fs s a b = let no : false ≡ true = a in absurd (cc)
round_shuts n y closings.ByRound (arguments f o) ts pre t x fs s a b = (settled n (bracket (arguments f o) (more ts pre t) x) fs s, settled_open (bracket (arguments f o) (more ts pre t) x) fs)
round_shuts n y closings.ByRound (index u o) ts pre t x fs s a b = let no : false ≡ true = a in absurd (cc)
round_shuts n y closings.ByRound (segment p o) ts pre t x fs s a b = let no : false ≡ true = a in absurd (cc)
round_shuts n y closings.ByRound (update p m z) ts pre t x fs s a b = let no : false ≡ true = a in absurd (cc)
round_shuts n y closings.ByRound (below o i m z) ts pre t x fs s a b = (settled n (bracket (below o i m z) (more ts pre t) x) fs s, settled_open (bracket (below o i m z) (more ts pre t) x) fs)
round_shuts n y closings.BySquare (plain k o) ts pre t x fs s a b = (settled n (bracket (plain k o) (more ts pre t) x) fs s, settled_open (bracket (plain k o) (more ts pre t) x) fs)
round_shuts n y closings.BySquare (length o) ts pre t x fs s a b = let no : false ≡ true = a in absurd (cc)
round_shuts n y closings.BySquare (arguments f o) ts pre t x fs s a b = let no : false ≡ true = a in absurd (cc)
round_shuts n y closings.BySquare (index u o) ts pre t x fs s a b = (settled n (bracket (index u o) (more ts pre t) x) fs s, settled_open (bracket (index u o) (more ts pre t) x) fs)
round_shuts n y closings.BySquare (segment p o) ts pre t x fs s a b = (refl, refl)
round_shuts n y closings.BySquare (update p m z) ts pre t x fs s a b = (settled n (bracket (update p m z) (more ts pre t) x) fs s, settled_open (bracket (update p m z) (more ts pre t) x) fs)
round_shuts n y closings.BySquare (below o i m z) ts pre t x fs s a b = let no : false ≡ true = a in absurd (cc)
round_shuts n y closings.ByBrace (plain k o) ts pre t x fs s a b = (settled n (bracket (plain k o) (more ts pre t) x) fs s, settled_open (bracket (plain k o) (more ts pre t) x) fs)
round_shuts n y closings.ByBrace (length o) ts pre t x fs s a b = let no : false ≡ true = a in absurd (cc)
round_shuts n y closings.ByBrace (arguments f o) ts pre t x fs s a b = let no : false ≡ true = a in absurd (cc)
round_shuts n y closings.ByBrace (index u o) ts pre t x fs s a b = let no : false ≡ true = a in absurd (cc)
round_shuts n y closings.ByBrace (segment p o) ts pre t x fs s a b = let no : false ≡ true = a in absurd (cc)
round_shuts n y closings.ByBrace (update p m z) ts pre t x fs s a b = let no : false ≡ true = a in absurd (cc)
round_shuts n y closings.ByBrace (below o i m z) ts pre t x fs s a b = let no : false ≡ true = a in absurd (cc)

pub bar_shuts : (n : ℕ) (y : Tally) (h : Heading) (ts : Trees) (pre : List Terminal) (t : Tree) (x : Token) (fs : Frames) → Stand (within h ts pre fs) → agree (closes h) closings.ByBar ≡ true
    → y.signs ≡ signs t + signs_in n (within h ts pre fs)
    → To n attachment.Behind (closing closings.ByBar x) (y ∷ tallies_round n (within h ts pre fs)) (Some (shut h (more ts pre t) x fs))
bar_shuts n y (length o) ts pre t x fs s a e = bars_close n y o ts pre t x fs s e
bar_shuts n y (plain bracket_of.Round o) ts pre t x fs s a e = let no : false ≡ true = a in absurd (cc)
bar_shuts n y (plain bracket_of.Square o) ts pre t x fs s a e = let no : false ≡ true = a in absurd (cc)
bar_shuts n y (plain bracket_of.Brace o) ts pre t x fs s a e = let no : false ≡ true = a in absurd (cc)
bar_shuts n y (plain bracket_of.TickRound o) ts pre t x fs s a e = let no : false ≡ true = a in absurd (cc)
bar_shuts n y (plain bracket_of.TickSquare o) ts pre t x fs s a e = let no : false ≡ true = a in absurd (cc)
bar_shuts n y (plain bracket_of.TickBrace o) ts pre t x fs s a e = let no : false ≡ true = a in absurd (cc)
bar_shuts n y (plain bracket_of.Dollar o) ts pre t x fs s a e = let no : false ≡ true = a in absurd (cc)
bar_shuts n y (arguments f o) ts pre t x fs s a e = let no : false ≡ true = a in absurd (cc)
bar_shuts n y (index u o) ts pre t x fs s a e = let no : false ≡ true = a in absurd (cc)
bar_shuts n y (segment p o) ts pre t x fs s a e = let no : false ≡ true = a in absurd (cc)
bar_shuts n y (update p m z) ts pre t x fs s a e = let no : false ≡ true = a in absurd (cc)
bar_shuts n y (below o i m z) ts pre t x fs s a e = let no : false ≡ true = a in absurd (cc)

pub any_shuts : (n : ℕ) (y : Tally) (c : Closing) (h : Heading) (ts : Trees) (pre : List Terminal) (t : Tree) (x : Token) (fs : Frames) → Stand (within h ts pre fs) → agree (closes h) c ≡ true
    → y.signs ≡ signs t + signs_in n (within h ts pre fs)
    → To n attachment.Behind (closing c x) (y ∷ tallies_round n (within h ts pre fs)) (Some (shut h (more ts pre t) x fs))
any_shuts n y closings.ByBar h ts pre t x fs s a e = bar_shuts n y h ts pre t x fs s a e
any_shuts n y closings.ByRound h ts pre t x fs s a e = round_shuts n y closings.ByRound h ts pre t x fs s.0 a (λ f. absurd (cc))
any_shuts n y closings.BySquare h ts pre t x fs s a e = round_shuts n y closings.BySquare h ts pre t x fs s.0 a (λ f. absurd (cc))
any_shuts n y closings.ByBrace h ts pre t x fs s a e = round_shuts n y closings.ByBrace h ts pre t x fs s.0 a (λ f. absurd (cc))

pub closes_to : (n : ℕ) (y : Tally) (c : Closing) (x : Token) (p : Tree × Frames) → Stand p.1 → y.signs ≡ signs p.0 + signs_in n p.1
    → To n attachment.Behind (closing c x) (y ∷ tallies_round n p.1) (close c x p)
closes_to n y c x (t, bottom σ) s e = tt
closes_to n y c x (t, over g fs) s e = tt
closes_to n y c x (t, timing u m z fs) s e = tt
closes_to n y c x (t, within h ts pre fs) s e =
    on_if n attachment.Behind (closing c x) (y ∷ tallies_round n (within h ts pre fs)) (agree (closes h) c) (shut h (more ts pre t) x fs) None
    (λ a. any_shuts n y c h ts pre t x fs s a e) (λ a. tt)

-- ---- signs

pub part_set_off : (n : ℕ) (y : Tally) (h : Heading) (ts : Trees) (pre q : List Terminal) (t : Tree) (fs : Frames) → y.parts ≡ size ts + 1 → y.signs ≡ signs t + signs_in n (within h ts pre fs)
    → tally (size ts + 1) 0 (signs_in n (within h (more ts pre t) q fs)) 0 true ∷ tallies_round n (within h (more ts pre t) q fs) ≡ tally y.parts 0 y.signs 0 true ∷ tallies_round n (within h ts pre fs)
part_set_off n y h ts pre q t fs e f =
    ap (λ v. v ∷ tallies_round n (within h (more ts pre t) q fs)) (same_tally _ _ _ _ _ _ _ _ true (sym e) refl (part_signs n h ts pre q t fs ∙ sym f) refl)
    ∙ ap (λ v. tally y.parts 0 y.signs 0 true ∷ v) (round_parts n h (more ts pre t) ts q pre fs)

pub separates : (n : ℕ) (y : Tally) (m : Mark) (x : Token) (p : Tree × Frames) → y.parts ≡ parts_in p.1 + 1 → y.signs ≡ signs p.0 + signs_in n p.1
    → To n attachment.Behind (sign m x) (y ∷ tallies_round n p.1) (separate m x p)
separates n y m x (t, bottom σ) e f = tt
separates n y m x (t, over g fs) e f = tt
separates n y m x (t, timing u k z fs) e f = tt
separates n y m x (t, within h ts pre fs) e f = go (style (sort fs) h)
  where
    ys : List Tally
    ys = y ∷ tallies_round n (within h ts pre fs)

    ends_to : (us : Trees) → To n attachment.Behind (sign m x) ys (next_part ends m x h us (more ts pre t) fs)
    ends_to none = on_if n attachment.Behind (sign m x) ys (is_colon m) (want (within h (more ts pre t) (sign m x ∷ []) fs)) None (λ a. (part_set_off n y h ts pre (sign m x ∷ []) t fs e f, refl)) (λ a. tt)
    ends_to (more us q u) = tt

    go : (v : Style) → To n attachment.Behind (sign m x) ys (next_part v m x h ts (more ts pre t) fs)
    go lone = tt
    go run = tt
    go listing = on_if n attachment.Behind (sign m x) ys (is_comma m) (want (within h (more ts pre t) (sign m x ∷ []) fs)) None (λ a. (part_set_off n y h ts pre (sign m x ∷ []) t fs e f, refl)) (λ a. tt)
    go fields = on_if n attachment.Behind (sign m x) ys (is_comma m) (naming h (more ts pre t) (sign m x ∷ []) fs) None (λ a. (part_set_off n y h ts pre (sign m x ∷ []) t fs e f, refl)) (λ a. tt)
    go ends = ends_to ts

pub joins : (n : ℕ) (y : Tally) (m : Mark) (x : Token) (p : Tree × Frames) → y.due ≡ false → y.parts ≡ parts_in p.1 + 1 → y.signs ≡ signs p.0 + signs_in n p.1
    → To n attachment.Behind (sign m x) (y ∷ tallies_round n p.1) (join m x p)
joins n y m x p d e f =
    on_both n attachment.Behind (sign m x) ys (has_level (sort p.1) (level_of m) && nat_le (least p.1) (level_of m)) _ (separate m x p)
    (λ a. on_if n attachment.Behind (sign m x) ys (nat_le (left_of m) (level p.0)) (want (over (left p.0 m x) p.1)) None (λ b. (ap (λ v. v ∷ tallies_round n p.1) infix_is, refl)) (λ b. tt))
    (λ a. separates n y m x p e f)
  where
    ys : List Tally
    ys = y ∷ tallies_round n p.1

    infix_is : tally (parts_in p.1 + 1) 0 ((signs p.0 + 1) + signs_in n p.1) 0 false ≡ counted y role.Infix
    infix_is = same_tally _ _ _ _ _ _ _ _ false (sym e ∙ sym (ap (λ b. with_one b y.parts) d)) refl (omega (arith, f)) refl

pub signs_behind : (n : ℕ) (t : Tree) (m : Mark) (x : Token) (fs : Frames) → NoCount fs → To n attachment.Behind (sign m x) (got_tally n t fs ∷ tallies_round n fs) (behind_sign m x t fs)
signs_behind n t m x fs c =
    on_if n attachment.Behind (sign m x) ys (may_post (sort fs) t (sign m x)) (got (post t (sign m x)) fs) _
    (λ a. (ap (λ v. v ∷ tallies_round n fs) (held n (signs t) (posts (sort fs) t + 1) fs c), refl))
    (λ a. on_if n attachment.Behind (sign m x) ys (is_expression (sort fs) && is_caret m) (want (timing t m x fs)) (join m x (lower (pull (sort fs) m) t fs)) (λ b. (refl, refl)) (λ b. low))
  where
    ys : List Tally
    ys = got_tally n t fs ∷ tallies_round n fs

    r : Lowers n t fs (lower (pull (sort fs) m) t fs)
    r = lowers n (pull (sort fs) m) t fs

    low : To n attachment.Behind (sign m x) ys (join m x (lower (pull (sort fs) m) t fs))
    low =
        subst (λ zs. To n attachment.Behind (sign m x) (got_tally n t fs ∷ zs) (join m x (lower (pull (sort fs) m) t fs))) r.round
        (joins n (got_tally n t fs) m x (lower (pull (sort fs) m) t fs) refl (ap (λ v. v + 1) (sym r.part)) (sym r.sign))

pub closing_behind : (n : ℕ) (t : Tree) (c : Closing) (x : Token) (fs : Frames) → Stand fs → To n attachment.Behind (closing c x) (got_tally n t fs ∷ tallies_round n fs) (close c x (lower 0 t fs))
closing_behind n t c x fs s =
    let r = lowers n 0 t fs in
    subst (λ zs. To n attachment.Behind (closing c x) (got_tally n t fs ∷ zs) (close c x (lower 0 t fs))) r.round
    (closes_to n (got_tally n t fs) c x (lower 0 t fs) (lowered_stands 0 t fs s) (sym r.sign))

pub square_behind : (n : ℕ) (t : Tree) (x : Token) (fs : Frames) → NoCount fs → To n attachment.Behind (opening bracket_of.Square x) (got_tally n t fs ∷ tallies_round n fs) (behind_square x t fs)
square_behind n t x fs c =
    on_if n attachment.Behind (opening bracket_of.Square x) ys (is_expression (sort fs)) (pathed (head t x) fs) _ (λ a. (opens, refl))
    (λ a. on_if n attachment.Behind (opening bracket_of.Square x) ys (computes (sort fs)) (want (within (index t x) none [] fs)) None (λ b. (opens, refl)) (λ b. tt))
  where
    ys : List Tally
    ys = got_tally n t fs ∷ tallies_round n fs

    opens : fresh 0 ∷ held_tally n (signs t) (posts (sort fs) t + 1) fs ∷ tallies_round n fs ≡ fresh 0 ∷ tally (parts_in fs + 1) (elements_with fs) (signs t + signs_in n fs) (posts (sort fs) t + 1) false ∷ tallies_round n fs
    opens = ap (λ v. fresh 0 ∷ v ∷ tallies_round n fs) (held n (signs t) (posts (sort fs) t + 1) fs c)

pub round_behind : (n : ℕ) (t : Tree) (x : Token) (fs : Frames) → NoCount fs → To n attachment.Behind (opening bracket_of.Round x) (got_tally n t fs ∷ tallies_round n fs) (behind_round x t fs)
round_behind n (operand leaves.Function f) x fs c =
    on_if n attachment.Behind (opening bracket_of.Round x) (got_tally n (operand leaves.Function f) fs ∷ tallies_round n fs) (computes (sort fs) && x.touching) (want (within (arguments f x) none [] fs)) None
    (λ a. (ap (λ v. fresh 0 ∷ v ∷ tallies_round n fs) (held n 0 0 fs c), refl)) (λ a. tt)
round_behind n (operand leaves.Low f) x fs c = tt
round_behind n (operand leaves.Basic f) x fs c = tt
round_behind n (operand leaves.Variable f) x fs c = tt
round_behind n (operand leaves.Atom f) x fs c = tt
round_behind n (operand leaves.Number f) x fs c = tt
round_behind n (operand leaves.Literal f) x fs c = tt
round_behind n (post t l) x fs c = tt
round_behind n (times t m z u) x fs c = tt
round_behind n (bracket h ts z) x fs c = tt
round_behind n (led g t) x fs c = tt

-- a dot behind a part, which goes on with the name of an atom or not
pub dot_moves : (n : ℕ) (t : Tree) (x : Token) (fs : Frames) (b : Bool) → NoCount fs
    → held_tally n (signs t) (unless b (posts (sort fs) t)) fs ∷ tallies_round n fs
    ≡ moved (behind_attachment b) (shape (dot x)) (state_of (got (post t (dot x)) fs)) (got_tally n t fs ∷ tallies_round n fs)
dot_moves n t x fs true c = ap (λ v. v ∷ tallies_round n fs) (held n (signs t) (posts (sort fs) t) fs c)
dot_moves n t x fs false c = ap (λ v. v ∷ tallies_round n fs) (held n (signs t) (posts (sort fs) t + 1) fs c)

pub is_behind : (n : ℕ) (t : Tree) (fs : Frames) (l : Terminal) → NoCount fs → Stand fs → To n (behind_attachment (is_in_name (sort fs) t l)) l (got_tally n t fs ∷ tallies_round n fs) (behind t fs l)
is_behind n t fs (leaf k x) c s = tt
is_behind n t fs (dot x) c s =
    on_if n (behind_attachment (goes_on (sort fs) t x)) (dot x) (got_tally n t fs ∷ tallies_round n fs) (may_post (sort fs) t (dot x)) (got (post t (dot x)) fs) None
    (λ a. (dot_moves n t x fs (goes_on (sort fs) t x) c, refl)) (λ a. tt)
is_behind n t fs (sign m x) c s = signs_behind n t m x fs c
is_behind n t fs (opening bracket_of.Round x) c s = round_behind n t x fs c
is_behind n t fs (opening bracket_of.Square x) c s = square_behind n t x fs c
is_behind n t fs (opening bracket_of.Brace x) c s = tt
is_behind n t fs (opening bracket_of.TickRound x) c s = tt
is_behind n t fs (opening bracket_of.TickSquare x) c s = tt
is_behind n t fs (opening bracket_of.TickBrace x) c s = tt
is_behind n t fs (opening bracket_of.Dollar x) c s = tt
is_behind n t fs (closing k x) c s = closing_behind n t k x fs s
is_behind n t fs (other x) c s = tt

-- ---- a next element

pub no_sign : (t : Tree) (y : Tally) (fs gs : Frames) (l : Terminal) → follows (sort fs) t l ≡ true → RowReady l y gs
no_sign t y fs gs (leaf k x) e = tt
no_sign t y fs gs (dot x) e = tt
no_sign t y fs gs (sign m x) e = let no : false ≡ true = e in absurd (cc)
no_sign t y fs gs (opening b x) e = tt
no_sign t y fs gs (closing c x) e = tt
no_sign t y fs gs (other x) e = tt

pub next_begins : (n : ℕ) (t : Tree) (fs : Frames) (l : Terminal) → NoCount fs → follows (sort fs) t l ≡ true → To n attachment.Begins l (got_tally n t fs ∷ tallies_round n fs) (begin (extend t fs) l)
next_begins n t (bottom σ) l c e =
    begins n (got_tally n t (bottom σ)) (over (items (more none [] t)) (bottom σ)) l tt tt (record { part = refl; element = omega arith; sign = omega arith }) (no_sign t _ (bottom σ) _ l e)
next_begins n t (within h ts pre fs) l c e =
    begins n (got_tally n t (within h ts pre fs)) (over (items (more none [] t)) (within h ts pre fs)) l tt tt (record { part = refl; element = omega arith; sign = omega arith }) (no_sign t _ (within h ts pre fs) _ l e)
next_begins n t (over (left u m x) fs) l c e =
    begins n (got_tally n t (over (left u m x) fs)) (over (items (more none [] t)) (over (left u m x) fs)) l tt tt (record { part = refl; element = omega arith; sign = omega arith }) (no_sign t _ (over (left u m x) fs) _ l e)
next_begins n t (over (ahead m x) fs) l c e =
    begins n (got_tally n t (over (ahead m x) fs)) (over (items (more none [] t)) (over (ahead m x) fs)) l tt tt (record { part = refl; element = omega arith; sign = omega arith }) (no_sign t _ (over (ahead m x) fs) _ l e)
next_begins n t (over (items ts) fs) l c e =
    begins n (got_tally n t (over (items ts) fs)) (over (items (more ts [] t)) fs) l tt tt (record { part = refl; element = omega arith; sign = omega arith }) (no_sign t _ (over (items ts) fs) _ l e)
next_begins n t (timing u m x fs) l c e = absurd c

abbrev pub begins_or : Bool → Bool → Attachment
begins_or b c = if b then attachment.Begins else behind_attachment c

pub got_attachment : (t : Tree) (fs : Frames) (l : Terminal) → part_attachment (base fs) (state_of (got t fs)) (shape l) ≡ begins_or (follows (sort fs) t l) (is_in_name (sort fs) t l)
got_attachment t fs l =
    ap (λ σ. begins_or (parts.follows σ (part_of t) (shape l)) (roles.is_in_name σ (part_of t) (shape l))) (top_sort fs)
    ∙ ap (λ b. begins_or b (roles.is_in_name (sort fs) (part_of t) (shape l))) (follows_is (sort fs) t l)
    ∙ ap (begins_or (follows (sort fs) t l)) (in_name_is (sort fs) t l)

pub got_moves : (n : ℕ) (t : Tree) (fs : Frames) (l : Terminal) → NoCount fs → Stand fs → To n (part_attachment (base fs) (state_of (got t fs)) (shape l)) l (part_tallies n (got t fs)) (after t fs l)
got_moves n t fs l c s =
    subst (λ k. To n k l (part_tallies n (got t fs)) (after t fs l)) (sym (got_attachment t fs l))
    (subst (λ v. To n (begins_or (follows (sort fs) t l) (is_in_name (sort fs) t l)) l (v ∷ tallies_round n fs) (after t fs l)) (sym (held n (signs t) (posts (sort fs) t) fs c)) (go (follows (sort fs) t l) refl))
  where
    go : (b : Bool) → follows (sort fs) t l ≡ b → To n (begins_or b (is_in_name (sort fs) t l)) l (got_tally n t fs ∷ tallies_round n fs) (if b then begin (extend t fs) l else behind t fs l)
    go true e = next_begins n t fs l c e
    go false e = is_behind n t fs l c s

-- ---- behind a count nothing goes on

pub none_after_count : (n : ℕ) (k : Attachment) (ys : List Tally) (t u : Tree) (m : Mark) (z : Token) (fs : Frames) (l : Terminal) → To n k l ys (after t (timing u m z fs) l)
none_after_count n k ys t u m z fs (leaf j x) = tt
none_after_count n k ys t u m z fs (dot x) = tt
none_after_count n k ys t u m z fs (sign j x) = tt
none_after_count n k ys t u m z fs (opening bracket_of.Round x) = go t
  where
    go : (v : Tree) → To n k (opening bracket_of.Round x) ys (behind_round x v (timing u m z fs))
    go (operand leaves.Function f) = tt
    go (operand leaves.Low f) = tt
    go (operand leaves.Basic f) = tt
    go (operand leaves.Variable f) = tt
    go (operand leaves.Atom f) = tt
    go (operand leaves.Number f) = tt
    go (operand leaves.Literal f) = tt
    go (post v l) = tt
    go (times v j y w) = tt
    go (bracket h ts y) = tt
    go (led g v) = tt
none_after_count n k ys t u m z fs (opening bracket_of.Square x) = tt
none_after_count n k ys t u m z fs (opening bracket_of.Brace x) = tt
none_after_count n k ys t u m z fs (opening bracket_of.TickRound x) = tt
none_after_count n k ys t u m z fs (opening bracket_of.TickSquare x) = tt
none_after_count n k ys t u m z fs (opening bracket_of.TickBrace x) = tt
none_after_count n k ys t u m z fs (opening bracket_of.Dollar x) = tt
none_after_count n k ys t u m z fs (closing closings.ByRound x) = tt
none_after_count n k ys t u m z fs (closing closings.BySquare x) = tt
none_after_count n k ys t u m z fs (closing closings.ByBrace x) = tt
none_after_count n k ys t u m z fs (closing closings.ByBar x) = tt
none_after_count n k ys t u m z fs (other x) = tt

-- ---- paths, counts and names

pub index_begins : (n : ℕ) (t : Tree) (o : Token) (fs : Frames) (l : Terminal) → Stand fs → To n attachment.Begins l (part_tallies n (pathed (head t o) fs)) (begin (within (index t o) none [] fs) l)
index_begins n t o fs l s = begins n (fresh 0) (within (index t o) none [] fs) l tt s (record { part = refl; element = refl; sign = refl }) (row l)
  where
    row : (k : Terminal) → RowReady k (fresh 0) (within (index t o) none [] fs)
    row (leaf k x) = tt
    row (dot x) = tt
    row (sign m x) = refl
    row (opening b x) = tt
    row (closing c x) = tt
    row (other x) = tt

pub head_moves : (n : ℕ) (t : Tree) (o : Token) (fs : Frames) (l : Terminal) → Stand fs → To n (part_attachment (base fs) (state_of (pathed (head t o) fs)) (shape l)) l (part_tallies n (pathed (head t o) fs)) (in_path (head t o) fs l)
head_moves n t o fs (leaf k x) s = index_begins n t o fs (leaf k x) s
head_moves n t o fs (dot x) s = (refl, refl)
head_moves n t o fs (sign m x) s = index_begins n t o fs (sign m x) s
head_moves n t o fs (opening bracket_of.Round x) s = index_begins n t o fs (opening bracket_of.Round x) s
head_moves n t o fs (opening bracket_of.Square x) s = (refl, refl)
head_moves n t o fs (opening bracket_of.Brace x) s = index_begins n t o fs (opening bracket_of.Brace x) s
head_moves n t o fs (opening bracket_of.TickRound x) s = index_begins n t o fs (opening bracket_of.TickRound x) s
head_moves n t o fs (opening bracket_of.TickSquare x) s = index_begins n t o fs (opening bracket_of.TickSquare x) s
head_moves n t o fs (opening bracket_of.TickBrace x) s = index_begins n t o fs (opening bracket_of.TickBrace x) s
head_moves n t o fs (opening bracket_of.Dollar x) s = index_begins n t o fs (opening bracket_of.Dollar x) s
head_moves n t o fs (closing c x) s = index_begins n t o fs (closing c x) s
head_moves n t o fs (other x) s = index_begins n t o fs (other x) s

pub field_moves : (n : ℕ) (p : Path) (d : Token) (fs : Frames) (l : Terminal) → To n attachment.Other l (part_tallies n (pathed (field p d) fs)) (in_path (field p d) fs l)
field_moves n p d fs (leaf k x) = tt
field_moves n p d fs (dot x) = (refl, refl)
field_moves n p d fs (sign m x) =
    on_if n attachment.Other (sign m x) (part_tallies n (pathed (field p d) fs)) (is_change m) (want (within (update (field p d) m x) none [] fs)) None (λ a. (refl, refl)) (λ a. tt)
field_moves n p d fs (opening bracket_of.Round x) = tt
field_moves n p d fs (opening bracket_of.Square x) = (refl, refl)
field_moves n p d fs (opening bracket_of.Brace x) = tt
field_moves n p d fs (opening bracket_of.TickRound x) = tt
field_moves n p d fs (opening bracket_of.TickSquare x) = tt
field_moves n p d fs (opening bracket_of.TickBrace x) = tt
field_moves n p d fs (opening bracket_of.Dollar x) = tt
field_moves n p d fs (closing c x) = tt
field_moves n p d fs (other x) = tt

pub part_path_moves : (n : ℕ) (p : Path) (o : Token) (ts : Trees) (c : Token) (fs : Frames) (l : Terminal) → To n attachment.Other l (part_tallies n (pathed (part p o ts c) fs)) (in_path (part p o ts c) fs l)
part_path_moves n p o ts c fs (leaf k x) = tt
part_path_moves n p o ts c fs (dot x) = (refl, refl)
part_path_moves n p o ts c fs (sign m x) =
    on_if n attachment.Other (sign m x) (part_tallies n (pathed (part p o ts c) fs)) (is_change m) (want (within (update (part p o ts c) m x) none [] fs)) None (λ a. (refl, refl)) (λ a. tt)
part_path_moves n p o ts c fs (opening bracket_of.Round x) = tt
part_path_moves n p o ts c fs (opening bracket_of.Square x) = (refl, refl)
part_path_moves n p o ts c fs (opening bracket_of.Brace x) = tt
part_path_moves n p o ts c fs (opening bracket_of.TickRound x) = tt
part_path_moves n p o ts c fs (opening bracket_of.TickSquare x) = tt
part_path_moves n p o ts c fs (opening bracket_of.TickBrace x) = tt
part_path_moves n p o ts c fs (opening bracket_of.Dollar x) = tt
part_path_moves n p o ts c fs (closing d x) = tt
part_path_moves n p o ts c fs (other x) = tt

pub names_part : (n : ℕ) (h : Heading) (ts : Trees) (pre : List Terminal) (fs : Frames) (l : Terminal) → is_label l ≡ true
    → part_tallies n (want (within h ts (pre ++ l ∷ []) fs)) ≡ tally (size ts + 1) 0 (signs_in n (within h ts pre fs)) 0 false ∷ tallies_round n (within h ts pre fs)
names_part n h ts pre fs l e =
    ap (λ b. tally (with_one b (size ts)) 0 (signs_in n (within h ts (pre ++ l ∷ []) fs)) 0 (not b) ∷ tallies_round n (within h ts (pre ++ l ∷ []) fs)) (last_label pre l ∙ e)
    ∙ ap (λ v. tally (size ts + 1) 0 v 0 false ∷ tallies_round n (within h ts (pre ++ l ∷ []) fs)) (same_signs n h ts (pre ++ l ∷ []) pre fs)
    ∙ ap (λ v. tally (size ts + 1) 0 (signs_in n (within h ts pre fs)) 0 false ∷ v) (round_parts n h ts ts (pre ++ l ∷ []) pre fs)

pub name_moves : (n : ℕ) (h : Heading) (ts : Trees) (pre : List Terminal) (fs : Frames) (l : Terminal) → To n attachment.Names l (part_tallies n (naming h ts pre fs)) (name_field h ts pre fs l)
name_moves n h ts pre fs (leaf k x) =
    on_if n attachment.Names (leaf k x) (part_tallies n (naming h ts pre fs)) (is_label (leaf k x)) (want (within h ts (pre ++ leaf k x ∷ []) fs)) None (λ e. (names_part n h ts pre fs (leaf k x) e, refl)) (λ e. tt)
name_moves n h ts pre fs (dot x) = tt
name_moves n h ts pre fs (sign m x) = tt
name_moves n h ts pre fs (opening b x) = tt
name_moves n h ts pre fs (closing c x) = tt
name_moves n h ts pre fs (other x) = tt

pub index_name_moves : (n : ℕ) (o : Token) (fs : Frames) (l : Terminal) → To n attachment.Other l (part_tallies n (indexing o fs)) (name_index o fs l)
index_name_moves n o fs (leaf leaves.Low x) = (refl, refl)
index_name_moves n o fs (leaf leaves.Basic x) = tt
index_name_moves n o fs (leaf leaves.Variable x) = tt
index_name_moves n o fs (leaf leaves.Atom x) = tt
index_name_moves n o fs (leaf leaves.Number x) = tt
index_name_moves n o fs (leaf leaves.Literal x) = tt
index_name_moves n o fs (leaf leaves.Function x) = tt
index_name_moves n o fs (dot x) = tt
index_name_moves n o fs (sign m x) = tt
index_name_moves n o fs (opening b x) = tt
index_name_moves n o fs (closing c x) = tt
index_name_moves n o fs (other x) = tt

pub bound_moves : (n : ℕ) (o i : Token) (fs : Frames) (l : Terminal) → To n attachment.Other l (part_tallies n (comparing o i fs)) (bound_index o i fs l)
bound_moves n o i fs (leaf k x) = tt
bound_moves n o i fs (dot x) = tt
bound_moves n o i fs (sign m x) = on_if n attachment.Other (sign m x) (part_tallies n (comparing o i fs)) (is_less m) (want (within (below o i m x) none [] fs)) None (λ e. (refl, refl)) (λ e. tt)
bound_moves n o i fs (opening b x) = tt
bound_moves n o i fs (closing c x) = tt
bound_moves n o i fs (other x) = tt

-- ---- a token of a part

pub row_ready : (l : Terminal) (y : Tally) (fs : Frames) → y.row ≡ aheads fs → RowReady l y fs
row_ready (leaf k x) y fs e = tt
row_ready (dot x) y fs e = tt
row_ready (sign m x) y fs e = e
row_ready (opening b x) y fs e = tt
row_ready (closing c x) y fs e = tt
row_ready (other x) y fs e = tt

pub due_part : (b : Bool) (k : ℕ) → with_one (not b) (with_one b k) ≡ k + 1
due_part true k = refl
due_part false k = refl

pub lead_element : (g : Lead) (fs : Frames) → elements_in (over g fs) + 1 ≡ elements_with (over g fs)
lead_element (left t m x) fs = refl
lead_element (ahead m x) fs = refl
lead_element (items ts) fs = refl

pub part_moves : (n : ℕ) (st : State) (l : Terminal) → Holds st → To n (part_attachment (state_base st) (state_of st) (shape l)) l (part_tallies n st) (step st l)
part_moves n (want (bottom σ)) l h = begins n (fresh n) (bottom σ) l tt tt (record { part = refl; element = refl; sign = refl }) (row_ready l (fresh n) (bottom σ) refl)
part_moves n (want (within k ts pre fs)) l h =
    begins n (due_tally n (within k ts pre fs)) (within k ts pre fs) l tt h.0.0 (record { part = due_part (ends_with_label pre) (size ts); element = refl; sign = refl })
    (row_ready l (due_tally n (within k ts pre fs)) (within k ts pre fs) refl)
part_moves n (want (over g fs)) l h =
    begins n (due_tally n (over g fs)) (over g fs) l tt tt (record { part = refl; element = lead_element g fs; sign = refl })
    (row_ready l (due_tally n (over g fs)) (over g fs) refl)
part_moves n (want (timing u m z fs)) l h = count_begins n u m z fs l h.0
part_moves n (got t (bottom σ)) l h = got_moves n t (bottom σ) l tt h.0.frames
part_moves n (got t (within k ts pre fs)) l h = got_moves n t (within k ts pre fs) l tt h.0.frames
part_moves n (got t (over g fs)) l h = got_moves n t (over g fs) l tt h.0.frames
part_moves n (got t (timing u m z fs)) l h = none_after_count n (part_attachment (state_base (got t (timing u m z fs))) (state_of (got t (timing u m z fs))) (shape l)) (part_tallies n (got t (timing u m z fs))) t u m z fs l
part_moves n (naming k ts pre fs) l h = name_moves n k ts pre fs l
part_moves n (pathed (head t o) fs) l h = head_moves n t o fs l h.0
part_moves n (pathed (field p x) fs) l h = field_moves n p x fs l
part_moves n (pathed (part p o ts c) fs) l h = part_path_moves n p o ts c fs l
part_moves n (indexing o fs) l h = index_name_moves n o fs l
part_moves n (comparing o i fs) l h = bound_moves n o i fs l
