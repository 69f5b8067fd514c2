-- Each token of a part adds its entry of numbers, which passes a limit where the tallies behind it
-- do.
use Rattle.std.proofs.Common.{◌≡◌, ℕ, ◌+◌, ◌≤◌, List, [], ◌∷◌, ◌++◌, map, Bool, true, false, ◌&&◌, ◌||◌, Option, Some, None, nat_lt, nat_le, if◌then◌else◌, refl, sym, ap, subst, ◌∙◌, append_assoc, arith}
use Rattle.std.specs.List.{list_any}
use Rattle.std.proofs.lemmas.List.{append-nil, map-append}
use Rattle.st_num.specs.declared.mark.Mark.{Mark}
use Rattle.st_num.specs.declared.token.Token.{Token}
use Rattle.st_num.specs.declared.limit.TheConstants.{MOST_PARTS, MOST_SIGNS, HIGHEST_TREE}
use Rattle.st_grammar.specs.declared.sort.Style.{Style}
use Rattle.st_grammar.specs.declared.sort.Style.TheVariants.{Lone as lone, Parts as listing, Fields as fields, Ends as ends, Run as run}
use Rattle.st_grammar.specs.declared.sort.Leaf.TheVariants as leaves
use Rattle.st_grammar.specs.declared.sort.Bracket.{Bracket}
use Rattle.st_grammar.specs.declared.sort.Bracket.TheVariants as bracket_of
use Rattle.st_grammar.specs.declared.sort.Closing.{Closing}
use Rattle.st_grammar.specs.declared.sort.Closing.TheVariants as closings
use Rattle.st_grammar.specs.Terminals.{Terminal, leaf, dot, sign, opening, closing, other}
use Rattle.st_num.specs.Signs.{level as level_of}
use Rattle.st_grammar.specs.Levels.{computes, is_expression, has_level, left_of, is_caret, is_comma, is_colon, is_less, is_change}
use Rattle.st_grammar.specs.Trees.{Tree, operand, post, times, bracket, led, left, ahead, items, Trees, none, more, Heading, plain, length, arguments, index, segment, update, below, Path, head, field, part, closes, agree}
use Rattle.st_grammar.specs.Grammar.{style, is_label, follows, may_post, level, has_step, size}
use Rattle.st_grammar.specs.Reading.{Frames, bottom, within, over, timing, State, want, got, naming, pathed, indexing, comparing, sort, least, settle, reach, lower, ended, shut, close, next_part, begin, extend, separate, join, pull, behind_sign, behind_square, behind_round, behind, after, in_index, in_path, name_field, name_index, bound_index, step, finish}
use Rattle.st_grammar.proofs.Sound.{base, state_base, Holds, agree_same}
use Rattle.st_parse_faults.specs.declared.tally.Tally.{Tally}
use Rattle.st_parse_faults.specs.Number as number
use Rattle.st_parse_faults.specs.Number.{Number, too_deep, too_many}
use Rattle.st_parse_faults.specs.Numbers.{Context, context, in_bracket, post_entry, label_entry, open_entry, numbers, lead_numbers, heading_numbers, path_numbers, part_numbers, element_numbers}
use Rattle.st_parse_faults.specs.Nesting.{nesting_after}
use Rattle.st_parse_faults.specs.inner.Bars.{heading_bars, frame_bars, part_bars, may_open}
use Rattle.st_parse_faults.specs.Signs.{is_in_name, unless, posts, signs}
use Rattle.st_parse_faults.specs.inner.Limits.{signs_in, parts_in, elements_with, tally, fresh, held_tally, tallies_round, part_tallies, tally_passes, with_one}
use Rattle.st_parse_faults.specs.inner.Numbering.{context_in, frame_numbers, state_numbers, heading_brackets, frame_brackets, part_brackets}
use Rattle.st_parse_faults.proofs.KeptTallies.{neither}
use Rattle.st_parse_faults.proofs.NumberFacts.{or_false, no_test, first_test, third_test, fourth_test, beside, one_part, Neat, neat, NoCount, low, settled, held, depth_is, before_is, sort_is, part_signs, round_parts, last_label, same_signs}
use Rattle.st_parse_faults.proofs.NumberBegins.{Front, front_of, Step, StepTo, step_if, step_both, same_step, settle_numbers, settle_brackets, settle_bars, begin_steps, SignReady}

pub not_above : (a b : ℕ) → b ≤ a → nat_lt a b ≡ false
not_above a b h = grind arith

-- ---- what is known behind a part

pub record GotLow (n : ℕ) (t : Tree) (fs : Frames) : Type 0 where
  pub part : nat_lt MOST_PARTS (parts_in fs + 1) ≡ false
  pub element : nat_lt MOST_PARTS (elements_with fs) ≡ false
  pub sign : nat_lt MOST_SIGNS (signs t + signs_in n fs) ≡ false
  pub row : nat_lt MOST_SIGNS (posts (sort fs) t) ≡ false
  pub round : list_any tally_passes (tallies_round n fs) ≡ false

pub got_low : (n : ℕ) (t : Tree) (fs : Frames) → NoCount fs → list_any tally_passes (part_tallies n (got t fs)) ≡ false → GotLow n t fs
got_low n t fs k h =
    let d = neither (tally_passes (held_tally n (signs t) (posts (sort fs) t) fs)) (list_any tally_passes (tallies_round n fs)) h in
    let l = low (tally (parts_in fs + 1) (elements_with fs) (signs t + signs_in n fs) (posts (sort fs) t) false) (ap tally_passes (sym (held n (signs t) (posts (sort fs) t) fs k)) ∙ d.0) in
    record { part = l.part; element = l.element; sign = l.sign; row = l.row; round = d.1 }

-- one more postfix sign behind the part
pub row_passes : (n : ℕ) (t : Tree) (fs : Frames) → NoCount fs → list_any tally_passes (part_tallies n (got t fs)) ≡ false
    → nat_lt MOST_SIGNS (posts (sort fs) t + 1) ≡ (tally_passes (held_tally n (signs t) (posts (sort fs) t + 1) fs) || list_any tally_passes (tallies_round n fs))
row_passes n t fs k h =
    let g = got_low n t fs k h in
    sym (beside (tally_passes (held_tally n (signs t) (posts (sort fs) t + 1) fs)) (list_any tally_passes (tallies_round n fs)) g.round
    ∙ ap tally_passes (held n (signs t) (posts (sort fs) t + 1) fs k)
    ∙ fourth_test _ _ _ (nat_lt MOST_SIGNS (posts (sort fs) t + 1)) g.part g.element g.sign)

-- ---- what is closed over a part

neat_if : (b : Bool) (p q : Tree × Frames) → Neat p.1 → Neat q.1 → Neat (if b then p else q).1
neat_if true p q s r = s
neat_if false p q s r = r

pub lowered_neat : (m : ℕ) (t : Tree) (fs : Frames) → Neat fs → Neat (lower m t fs).1
lowered_neat m t (bottom σ) s = s
lowered_neat m t (within h ts pre fs) s = s
lowered_neat m t (timing u k x fs) s = s
lowered_neat m t (over (left u j x) fs) s = neat_if (nat_le (reach (left u j x)) m) (t, over (left u j x) fs) (lower m (led (left u j x) t) fs) s (lowered_neat m (led (left u j x) t) fs s)
lowered_neat m t (over (ahead j x) fs) s = neat_if (nat_le (reach (ahead j x)) m) (t, over (ahead j x) fs) (lower m (led (ahead j x) t) fs) s (lowered_neat m (led (ahead j x) t) fs s)
lowered_neat m t (over (items none) fs) s = absurd s
lowered_neat m t (over (items (more ts q u)) fs) s =
    neat_if (nat_le (reach (items (more ts q u))) m) (t, over (items (more ts q u)) fs) (lower m (led (items (more ts q u)) t) fs) s (lowered_neat m (led (items (more ts q u)) t) fs s)

module _ (c : Context) where
  abbrev pub pair_numbers : Tree × Frames → List (List Number)
  pair_numbers p = frame_numbers c p.1 ++ numbers (context_in c p.1) p.0

  pub record Lowers (t : Tree) (fs : Frames) (p : Tree × Frames) : Type 0 where
    pub entries : pair_numbers p ≡ frame_numbers c fs ++ numbers (context_in c fs) t
    pub brackets : frame_brackets p.1 ≡ frame_brackets fs
    pub bars : frame_bars p.1 ≡ frame_bars fs
    pub sign : signs p.0 + signs_in c.before p.1 ≡ signs t + signs_in c.before fs
    pub part : parts_in p.1 ≡ parts_in fs
    pub round : tallies_round c.before p.1 ≡ tallies_round c.before fs
    pub base_is : base p.1 ≡ base fs

  pub lowers : (m : ℕ) (t : Tree) (fs : Frames) → Lowers t fs (lower m t fs)
  lowers m t (bottom σ) = record { entries = refl; brackets = refl; bars = refl; sign = refl; part = refl; round = refl; base_is = refl }
  lowers m t (within h ts pre fs) = record { entries = refl; brackets = refl; bars = refl; sign = refl; part = refl; round = refl; base_is = refl }
  lowers m t (timing u k x fs) = record { entries = refl; brackets = refl; bars = refl; sign = refl; part = refl; round = refl; base_is = refl }
  lowers m t (over g fs) = go (nat_le (reach g) m) (lowers m (led g t) fs)
    where
      go : (b : Bool) → Lowers (led g t) fs (lower m (led g t) fs) → Lowers t (over g fs) (if b then (t, over g fs) else lower m (led g t) fs)
      go true r = record { entries = refl; brackets = refl; bars = refl; sign = refl; part = refl; round = refl; base_is = refl }
      go false r = record {
        entries = r.entries ∙ sym (append_assoc (frame_numbers c fs) (lead_numbers (context_in c fs) g) (numbers (context_in c (over g fs)) t));
        brackets = r.brackets;
        bars = r.bars;
        sign = omega (arith, r.sign);
        part = r.part;
        round = r.round;
        base_is = r.base_is;
      }

  -- what stands before a token behind a part over which this much is closed
  abbrev pub lowered_front : Tree × Frames → Front
  lowered_front p = record {
    entries = pair_numbers p;
    brackets = frame_brackets p.1;
    bars = frame_bars p.1;
    passes = (nat_lt MOST_PARTS (parts_in p.1 + 1) || nat_lt MOST_SIGNS (signs p.0 + signs_in c.before p.1)) || list_any tally_passes (tallies_round c.before p.1);
    begins = [];
  }

  pub lowered : (m : ℕ) (t : Tree) (fs : Frames) (l : Terminal) (o : Option State) → NoCount fs → StepTo c (lowered_front (lower m t fs)) l o → StepTo c (front_of c (got t fs)) l o
  lowered m t fs l o k s =
      let r = lowers m t fs in
      same_step c (front_of c (got t fs)) (lowered_front (lower m t fs)) l o (sym r.entries) (sym r.brackets) (sym r.bars)
      (λ h.
      let g = got_low c.before t fs k h in
      ap (λ v. (nat_lt MOST_PARTS (v + 1) || nat_lt MOST_SIGNS (signs (lower m t fs).0 + signs_in c.before (lower m t fs).1)) || list_any tally_passes (tallies_round c.before (lower m t fs).1)) r.part
      ∙ ap (λ v. (nat_lt MOST_PARTS (parts_in fs + 1) || nat_lt MOST_SIGNS v) || list_any tally_passes (tallies_round c.before (lower m t fs).1)) r.sign
      ∙ ap (λ v. (nat_lt MOST_PARTS (parts_in fs + 1) || nat_lt MOST_SIGNS (signs t + signs_in c.before fs)) || list_any tally_passes v) r.round
      ∙ ap (λ v. (v || nat_lt MOST_SIGNS (signs t + signs_in c.before fs)) || list_any tally_passes (tallies_round c.before fs)) g.part
      ∙ ap (λ v. v || list_any tally_passes (tallies_round c.before fs)) g.sign
      ∙ g.round)
      refl s

  -- ---- signs

  -- a dot or an iteration sign, which is a postfix sign or goes on with a name
  pub post_step : (t : Tree) (l : Terminal) (fs : Frames) → NoCount fs → nesting_after (c.depth + frame_brackets fs) l ≡ c.depth + frame_brackets fs → may_open l ≡ false → Step c (front_of c (got t fs)) l (got (post t l) fs)
  post_step t l fs k e m = record {
    entry = post_entry (context_in c fs).sort t l;
    grown = sym (append_assoc (frame_numbers c fs) (numbers (context_in c fs) t) (post_entry (context_in c fs).sort t l ∷ []));
    limit = λ h. ap (λ σ. list_any too_many (post_entry σ t l)) (sort_is c fs) ∙ passes h (is_in_name (sort fs) t l);
    nests = sym e;
    opens = λ h. ap (λ b. b && nat_lt HIGHEST_TREE ((c.depth + frame_brackets fs) + frame_bars fs)) m ∙ sym (shut_entry (is_in_name (context_in c fs).sort t l));
    stays = λ h. omega arith;
  }
    where
      shut_entry : (b : Bool) → list_any too_deep (if b then [] else number.row (posts (context_in c fs).sort t + 1) ∷ []) ≡ false
      shut_entry true = refl
      shut_entry false = refl

      passes : list_any tally_passes (part_tallies c.before (got t fs)) ≡ false → (b : Bool)
          → list_any too_many (if b then [] else number.row (posts (sort fs) t + 1) ∷ []) ≡ (tally_passes (held_tally c.before (signs t) (unless b (posts (sort fs) t)) fs) || list_any tally_passes (tallies_round c.before fs))
      passes h true = sym h
      passes h false = or_false (nat_lt MOST_SIGNS (posts (sort fs) t + 1)) ∙ row_passes c.before t fs k h

  pub caret_step : (t : Tree) (m : Mark) (x : Token) (fs : Frames) → NoCount fs → Step c (front_of c (got t fs)) (sign m x) (want (timing t m x fs))
  caret_step t m x fs k = record {
    entry = number.row (posts (context_in c fs).sort t + 1) ∷ [];
    grown = sym (append_assoc (frame_numbers c fs) (numbers (context_in c fs) t) ((number.row (posts (context_in c fs).sort t + 1) ∷ []) ∷ []));
    limit = λ h.
        or_false (nat_lt MOST_SIGNS (posts (context_in c fs).sort t + 1))
        ∙ ap (λ σ. nat_lt MOST_SIGNS (posts σ t + 1)) (sort_is c fs)
        ∙ row_passes c.before t fs k h
        ∙ ap (λ v. tally_passes v || list_any tally_passes (tallies_round c.before fs)) (held c.before (signs t) (posts (sort fs) t + 1) fs k);
    nests = refl;
    opens = λ h. refl;
    stays = λ h. omega arith;
  }

  pub left_step : (m : Mark) (x : Token) (p : Tree × Frames) → Step c (lowered_front p) (sign m x) (want (over (left p.0 m x) p.1))
  left_step m x p = record {
    entry = number.sign ((context_in c p.1).before + (signs p.0 + 1)) ∷ [];
    grown = sym (append_assoc (frame_numbers c p.1) (numbers (context_in c p.1) p.0) ((number.sign ((context_in c p.1).before + (signs p.0 + 1)) ∷ []) ∷ []));
    limit = λ h.
        let d = neither (nat_lt MOST_PARTS (parts_in p.1 + 1) || nat_lt MOST_SIGNS (signs p.0 + signs_in c.before p.1)) (list_any tally_passes (tallies_round c.before p.1)) h in
        let e = neither (nat_lt MOST_PARTS (parts_in p.1 + 1)) (nat_lt MOST_SIGNS (signs p.0 + signs_in c.before p.1)) d.0 in
        or_false (nat_lt MOST_SIGNS ((context_in c p.1).before + (signs p.0 + 1)))
        ∙ ap (nat_lt MOST_SIGNS) (omega (arith, before_is c p.1))
        ∙ sym (third_test (nat_lt MOST_PARTS (parts_in p.1 + 1)) (nat_lt MOST_PARTS 0) (nat_lt MOST_SIGNS ((signs p.0 + 1) + signs_in c.before p.1)) (nat_lt MOST_SIGNS 0) e.0 refl refl)
        ∙ sym (beside (tally_passes (tally (parts_in p.1 + 1) 0 ((signs p.0 + 1) + signs_in c.before p.1) 0 false)) (list_any tally_passes (tallies_round c.before p.1)) d.1);
    nests = refl;
    opens = λ h. refl;
    stays = λ h. omega arith;
  }

  part_more : (f h p q t r : List (List Number)) → f ++ (h ++ ((p ++ (q ++ t)) ++ r)) ≡ ((f ++ (h ++ (p ++ q))) ++ t) ++ r
  part_more f h p q t r = simp append_assoc

  -- one more part of a bracket, and the sign behind it
  bracket_more : (h : Heading) (ts : Trees) (pre : List Terminal) (t : Tree) (fs : Frames)
      → frame_numbers c fs ++ (heading_numbers (context_in c fs) h ++ (part_numbers (in_bracket (context_in c fs) h) (more ts pre t) ++ [] ∷ [])) ≡ pair_numbers (t, within h ts pre fs) ++ [] ∷ []
  bracket_more h ts pre t fs = part_more (frame_numbers c fs) (heading_numbers (context_in c fs) h) (part_numbers (in_bracket (context_in c fs) h) ts) (map (label_entry (number.part (size ts + 1) ∷ [])) pre) (numbers (context_in c (within h ts pre fs)) t) ([] ∷ [])

  -- a next part is due behind the sign, with or without a name
  set_off : (m : Mark) (x : Token) (t : Tree) (h : Heading) (ts : Trees) (pre : List Terminal) (fs : Frames) (next : State) → state_numbers c next ≡ frame_numbers c (within h (more ts pre t) (sign m x ∷ []) fs)
      → part_brackets next ≡ heading_brackets h + frame_brackets fs → part_bars next ≡ heading_bars h + frame_bars fs
      → part_tallies c.before next ≡ tally (size ts + 1) 0 (signs_in c.before (within h (more ts pre t) (sign m x ∷ []) fs)) 0 true ∷ tallies_round c.before (within h (more ts pre t) (sign m x ∷ []) fs)
      → Step c (lowered_front (t, within h ts pre fs)) (sign m x) next
  set_off m x t h ts pre fs next e b r y = record {
    entry = [];
    grown = e ∙ bracket_more h ts pre t fs;
    limit = λ k.
        let d = neither (nat_lt MOST_PARTS (size ts + 1) || nat_lt MOST_SIGNS (signs t + signs_in c.before (within h ts pre fs))) (list_any tally_passes (tallies_round c.before (within h ts pre fs))) k in
        let f = neither (nat_lt MOST_PARTS (size ts + 1)) (nat_lt MOST_SIGNS (signs t + signs_in c.before (within h ts pre fs))) d.0 in
        sym (ap (list_any tally_passes) y
        ∙ ap (λ v. tally_passes (tally (size ts + 1) 0 (signs_in c.before (within h (more ts pre t) (sign m x ∷ []) fs)) 0 true) || list_any tally_passes v) (round_parts c.before h (more ts pre t) ts (sign m x ∷ []) pre fs)
        ∙ beside _ (list_any tally_passes (tallies_round c.before (within h ts pre fs))) d.1
        ∙ no_test _ _ _ _ f.0 refl (ap (nat_lt MOST_SIGNS) (part_signs c.before h ts pre (sign m x ∷ []) t fs) ∙ f.1) refl);
    nests = ap (λ v. c.depth + v) b;
    opens = λ k. refl;
    stays = λ k. omega (arith, b, r);
  }

  separate_step : (m : Mark) (x : Token) (p : Tree × Frames) → StepTo c (lowered_front p) (sign m x) (separate m x p)
  separate_step m x (t, bottom σ) = tt
  separate_step m x (t, over g fs) = tt
  separate_step m x (t, timing u k z fs) = tt
  separate_step m x (t, within h ts pre fs) = go (style (sort fs) h)
    where
      f : Front
      f = lowered_front (t, within h ts pre fs)

      part_due : Step c f (sign m x) (want (within h (more ts pre t) (sign m x ∷ []) fs))
      part_due = set_off m x t h ts pre fs (want (within h (more ts pre t) (sign m x ∷ []) fs)) refl refl refl refl

      name_due : Step c f (sign m x) (naming h (more ts pre t) (sign m x ∷ []) fs)
      name_due = set_off m x t h ts pre fs (naming h (more ts pre t) (sign m x ∷ []) fs) refl refl refl refl

      ends_to : (us : Trees) → StepTo c f (sign m x) (next_part ends m x h us (more ts pre t) fs)
      ends_to none = step_if c f (sign m x) (is_colon m) (want (within h (more ts pre t) (sign m x ∷ []) fs)) None (λ a. part_due) (λ a. tt)
      ends_to (more us q u) = tt

      go : (v : Style) → StepTo c f (sign m x) (next_part v m x h ts (more ts pre t) fs)
      go lone = tt
      go run = tt
      go listing = step_if c f (sign m x) (is_comma m) (want (within h (more ts pre t) (sign m x ∷ []) fs)) None (λ a. part_due) (λ a. tt)
      go fields = step_if c f (sign m x) (is_comma m) (naming h (more ts pre t) (sign m x ∷ []) fs) None (λ a. name_due) (λ a. tt)
      go ends = ends_to ts

  join_step : (m : Mark) (x : Token) (p : Tree × Frames) → StepTo c (lowered_front p) (sign m x) (join m x p)
  join_step m x p =
      step_both c (lowered_front p) (sign m x) (has_level (sort p.1) (level_of m) && nat_le (least p.1) (level_of m)) _ (separate m x p)
      (λ a. step_if c (lowered_front p) (sign m x) (nat_le (left_of m) (level p.0)) (want (over (left p.0 m x) p.1)) None (λ b. left_step m x p) (λ b. tt))
      (λ a. separate_step m x p)

  sign_steps : (t : Tree) (m : Mark) (x : Token) (fs : Frames) → NoCount fs → StepTo c (front_of c (got t fs)) (sign m x) (behind_sign m x t fs)
  sign_steps t m x fs k =
      step_if c (front_of c (got t fs)) (sign m x) (may_post (sort fs) t (sign m x)) (got (post t (sign m x)) fs) _ (λ a. post_step t (sign m x) fs k refl refl)
      (λ a. step_if c (front_of c (got t fs)) (sign m x) (is_expression (sort fs) && is_caret m) (want (timing t m x fs)) (join m x (lower (pull (sort fs) m) t fs)) (λ b. caret_step t m x fs k)
      (λ b. lowered (pull (sort fs) m) t fs (sign m x) (join m x (lower (pull (sort fs) m) t fs)) k (join_step m x (lower (pull (sort fs) m) t fs))))

  -- ---- brackets behind a part

  -- `[` behind a part
  index_opens : (t : Tree) (x : Token) (fs : Frames) (next : State) (y : Tally) → NoCount fs
      → state_numbers c next ≡ frame_numbers c fs ++ (numbers (context_in c fs) t ++ open_entry (number.row (posts (context_in c fs).sort t + 1) ∷ []) ((context_in c fs).depth + 1) ∷ [])
      → part_tallies c.before next ≡ y ∷ held_tally c.before (signs t) (posts (sort fs) t + 1) fs ∷ tallies_round c.before fs → tally_passes y ≡ false → part_brackets next ≡ 1 + frame_brackets fs → part_bars next ≡ frame_bars fs
      → Step c (front_of c (got t fs)) (opening bracket_of.Square x) next
  index_opens t x fs next y k e f z b r = record {
    entry = open_entry (number.row (posts (context_in c fs).sort t + 1) ∷ []) ((context_in c fs).depth + 1);
    grown = e ∙ sym (append_assoc (frame_numbers c fs) (numbers (context_in c fs) t) (open_entry (number.row (posts (context_in c fs).sort t + 1) ∷ []) ((context_in c fs).depth + 1) ∷ []));
    limit = λ h.
        or_false (nat_lt MOST_SIGNS (posts (context_in c fs).sort t + 1))
        ∙ ap (λ σ. nat_lt MOST_SIGNS (posts σ t + 1)) (sort_is c fs)
        ∙ row_passes c.before t fs k h
        ∙ ap (λ v. v || (tally_passes (held_tally c.before (signs t) (posts (sort fs) t + 1) fs) || list_any tally_passes (tallies_round c.before fs))) (sym z)
        ∙ sym (ap (list_any tally_passes) f);
    nests = omega (arith, b);
    opens = λ h. ap (nat_lt HIGHEST_TREE) (omega (arith, b, r, depth_is c fs)) ∙ sym (or_false (nat_lt HIGHEST_TREE ((context_in c fs).depth + 1)));
    stays = λ h. let no : true ≡ false = h in absurd (cc);
  }

  square_steps : (t : Tree) (x : Token) (fs : Frames) → NoCount fs → StepTo c (front_of c (got t fs)) (opening bracket_of.Square x) (behind_square x t fs)
  square_steps t x fs k =
      step_if c (front_of c (got t fs)) (opening bracket_of.Square x) (is_expression (sort fs)) (pathed (head t x) fs) _ (λ a. index_opens t x fs (pathed (head t x) fs) (fresh 0) k refl refl refl refl refl)
      (λ a. step_if c (front_of c (got t fs)) (opening bracket_of.Square x) (computes (sort fs)) (want (within (index t x) none [] fs)) None
      (λ b. index_opens t x fs (want (within (index t x) none [] fs)) (fresh 0) k (ap (λ v. frame_numbers c fs ++ v) (append-nil (heading_numbers (context_in c fs) (index t x)))) refl refl refl (omega arith)) (λ b. tt))

  call_step : (f x : Token) (fs : Frames) → NoCount fs → Step c (front_of c (got (operand leaves.Function f) fs)) (opening bracket_of.Round x) (want (within (arguments f x) none [] fs))
  call_step f x fs k = record {
    entry = open_entry [] ((context_in c fs).depth + 1);
    grown = sym (append_assoc (frame_numbers c fs) ((context_in c fs).begins ∷ []) (open_entry [] ((context_in c fs).depth + 1) ∷ []));
    limit = λ h. sym h;
    nests = omega arith;
    opens = λ h. ap (nat_lt HIGHEST_TREE) (omega (arith, depth_is c fs)) ∙ sym (or_false (nat_lt HIGHEST_TREE ((context_in c fs).depth + 1)));
    stays = λ h. let no : true ≡ false = h in absurd (cc);
  }

  round_steps : (t : Tree) (x : Token) (fs : Frames) → NoCount fs → StepTo c (front_of c (got t fs)) (opening bracket_of.Round x) (behind_round x t fs)
  round_steps (operand leaves.Function f) x fs k = step_if c (front_of c (got (operand leaves.Function f) fs)) (opening bracket_of.Round x) (computes (sort fs) && x.touching) (want (within (arguments f x) none [] fs)) None (λ a. call_step f x fs k) (λ a. tt)
  round_steps (operand leaves.Low f) x fs k = tt
  round_steps (operand leaves.Basic f) x fs k = tt
  round_steps (operand leaves.Variable f) x fs k = tt
  round_steps (operand leaves.Atom f) x fs k = tt
  round_steps (operand leaves.Number f) x fs k = tt
  round_steps (operand leaves.Literal f) x fs k = tt
  round_steps (post t l) x fs k = tt
  round_steps (times t m z u) x fs k = tt
  round_steps (bracket h ts z) x fs k = tt
  round_steps (led g t) x fs k = tt

  opening_steps : (k : Bracket) (x : Token) (t : Tree) (fs : Frames) → NoCount fs → StepTo c (front_of c (got t fs)) (opening k x) (behind t fs (opening k x))
  opening_steps bracket_of.Round x t fs k = round_steps t x fs k
  opening_steps bracket_of.Square x t fs k = square_steps t x fs k
  opening_steps bracket_of.Brace x t fs k = tt
  opening_steps bracket_of.TickRound x t fs k = tt
  opening_steps bracket_of.TickSquare x t fs k = tt
  opening_steps bracket_of.TickBrace x t fs k = tt
  opening_steps bracket_of.Dollar x t fs k = tt

  -- ---- what closes

  segment_more : (f p o r q t e : List (List Number)) → f ++ (p ++ (o ++ ((r ++ (q ++ t)) ++ e))) ≡ ((f ++ ((p ++ o) ++ (r ++ q))) ++ t) ++ e
  segment_more f p o r q t e = simp append_assoc

  shut_numbers : (h : Heading) (ts : Trees) (pre : List Terminal) (t : Tree) (x : Token) (fs : Frames) → state_numbers c (shut h (more ts pre t) x fs) ≡ pair_numbers (t, within h ts pre fs) ++ [] ∷ []
  shut_numbers (segment p o) ts pre t x fs =
      segment_more (frame_numbers c fs) (path_numbers (context_in c fs) p) (open_entry [] ((context_in c fs).depth + 2) ∷ []) (part_numbers (in_bracket (context_in c fs) (segment p o)) ts) (map (label_entry (number.part (size ts + 1) ∷ [])) pre)
      (numbers (context_in c (within (segment p o) ts pre fs)) t) ([] ∷ [])
  shut_numbers (plain k o) ts pre t x fs = settle_numbers c (bracket (plain k o) (more ts pre t) x) fs ∙ bracket_more (plain k o) ts pre t fs
  shut_numbers (length o) ts pre t x fs = settle_numbers c (bracket (length o) (more ts pre t) x) fs ∙ bracket_more (length o) ts pre t fs
  shut_numbers (arguments f o) ts pre t x fs = settle_numbers c (bracket (arguments f o) (more ts pre t) x) fs ∙ bracket_more (arguments f o) ts pre t fs
  shut_numbers (index u o) ts pre t x fs = settle_numbers c (bracket (index u o) (more ts pre t) x) fs ∙ bracket_more (index u o) ts pre t fs
  shut_numbers (update p m y) ts pre t x fs = settle_numbers c (bracket (update p m y) (more ts pre t) x) fs ∙ bracket_more (update p m y) ts pre t fs
  shut_numbers (below o i m y) ts pre t x fs = settle_numbers c (bracket (below o i m y) (more ts pre t) x) fs ∙ bracket_more (below o i m y) ts pre t fs

  -- a bracket that is no length closes
  shut_step : (h : Heading) (ts : Trees) (pre : List Terminal) (t : Tree) (x : Token) (fs : Frames) (l : Terminal) (next : State) → state_numbers c next ≡ pair_numbers (t, within h ts pre fs) ++ [] ∷ []
      → part_tallies c.before next ≡ tallies_round c.before (within h ts pre fs) → c.depth + part_brackets next ≡ nesting_after (c.depth + (heading_brackets h + frame_brackets fs)) l → may_open l ≡ false
      → part_brackets next + part_bars next ≤ (heading_brackets h + frame_brackets fs) + (heading_bars h + frame_bars fs)
      → Step c (lowered_front (t, within h ts pre fs)) l next
  shut_step h ts pre t x fs l next e y n m z = record {
    entry = [];
    grown = e;
    limit = λ k.
        sym (ap (list_any tally_passes) y
        ∙ (neither (nat_lt MOST_PARTS (size ts + 1) || nat_lt MOST_SIGNS (signs t + signs_in c.before (within h ts pre fs))) (list_any tally_passes (tallies_round c.before (within h ts pre fs))) k).1);
    nests = n;
    opens = λ k. ap (λ b. b && nat_lt HIGHEST_TREE ((c.depth + part_brackets next) + part_bars next)) m;
    stays = λ k. z;
  }

  held_low : (s r q : ℕ) (fs : Frames) → tally_passes (held_tally c.before s r fs) ≡ false → nat_lt MOST_SIGNS (q + signs_in c.before fs) ≡ false → tally_passes (held_tally c.before q 0 fs) ≡ false
  held_low s r q (bottom σ) e f = let l = low (held_tally c.before s r (bottom σ)) e in no_test _ _ _ _ l.part l.element f refl
  held_low s r q (within h ts pre fs) e f = let l = low (held_tally c.before s r (within h ts pre fs)) e in no_test _ _ _ _ l.part l.element f refl
  held_low s r q (over g fs) e f = let l = low (held_tally c.before s r (over g fs)) e in no_test _ _ _ _ l.part l.element f refl
  held_low s r q (timing u m x fs) e f = e

  length_step : (o : Token) (ts : Trees) (pre : List Terminal) (t : Tree) (x : Token) (fs : Frames) → Neat fs → Step c (lowered_front (t, within (length o) ts pre fs)) (closing closings.ByBar x) (settle (bracket (length o) (more ts pre t) x) fs)
  length_step o ts pre t x fs s = record {
    entry = [];
    grown = shut_numbers (length o) ts pre t x fs;
    limit = λ k.
        let d = neither (nat_lt MOST_PARTS (size ts + 1) || nat_lt MOST_SIGNS (signs t + signs_in c.before (within (length o) ts pre fs))) (list_any tally_passes (tallies_round c.before (within (length o) ts pre fs))) k in
        let e = neither (nat_lt MOST_PARTS (size ts + 1)) (nat_lt MOST_SIGNS (signs t + signs_in c.before (within (length o) ts pre fs))) d.0 in
        let r = neither (tally_passes (held_tally c.before 0 0 fs)) (list_any tally_passes (tallies_round c.before fs)) d.1 in
        sym (ap (list_any tally_passes) (settled c.before (bracket (length o) (more ts pre t) x) fs s)
        ∙ beside (tally_passes (held_tally c.before (signs (bracket (length o) (more ts pre t) x)) 0 fs)) (list_any tally_passes (tallies_round c.before fs)) r.1
        ∙ held_low 0 0 (signs (bracket (length o) (more ts pre t) x)) fs r.0 (ap (nat_lt MOST_SIGNS) (omega arith) ∙ e.1));
    nests = omega (arith, settle_brackets c (bracket (length o) (more ts pre t) x) fs);
    opens = λ k. not_above HIGHEST_TREE _ (omega (arith, k, settle_brackets c (bracket (length o) (more ts pre t) x) fs, settle_bars c (bracket (length o) (more ts pre t) x) fs));
    stays = λ k. let no : true ≡ false = k in absurd (cc);
  }

  bracket_shut : (h : Heading) (ts : Trees) (pre : List Terminal) (t : Tree) (x : Token) (fs : Frames) (d : Closing) → Neat fs → state_numbers c (settle (bracket h (more ts pre t) x) fs) ≡ pair_numbers (t, within h ts pre fs) ++ [] ∷ []
      → held_tally c.before (signs (bracket h (more ts pre t) x)) (posts (sort fs) (bracket h (more ts pre t) x)) fs ∷ tallies_round c.before fs ≡ tallies_round c.before (within h ts pre fs)
      → c.depth + frame_brackets fs ≡ nesting_after (c.depth + (heading_brackets h + frame_brackets fs)) (closing d x) → may_open (closing d x) ≡ false
      → Step c (lowered_front (t, within h ts pre fs)) (closing d x) (settle (bracket h (more ts pre t) x) fs)
  bracket_shut h ts pre t x fs d s e y n m =
      shut_step h ts pre t x fs (closing d x) (settle (bracket h (more ts pre t) x) fs) e (settled c.before (bracket h (more ts pre t) x) fs s ∙ y)
      (ap (λ v. c.depth + v) (settle_brackets c (bracket h (more ts pre t) x) fs) ∙ n) m
      (omega (arith, settle_brackets c (bracket h (more ts pre t) x) fs, settle_bars c (bracket h (more ts pre t) x) fs))

  -- the innermost bracket closes by its own sign
  own_shut : (h : Heading) (ts : Trees) (pre : List Terminal) (t : Tree) (x : Token) (fs : Frames) → Neat fs → Step c (lowered_front (t, within h ts pre fs)) (closing (closes h) x) (shut h (more ts pre t) x fs)
  own_shut (plain bracket_of.Round o) ts pre t x fs s = bracket_shut (plain bracket_of.Round o) ts pre t x fs closings.ByRound s (shut_numbers (plain bracket_of.Round o) ts pre t x fs) refl (omega arith) refl
  own_shut (plain bracket_of.Square o) ts pre t x fs s = bracket_shut (plain bracket_of.Square o) ts pre t x fs closings.BySquare s (shut_numbers (plain bracket_of.Square o) ts pre t x fs) refl (omega arith) refl
  own_shut (plain bracket_of.Brace o) ts pre t x fs s = bracket_shut (plain bracket_of.Brace o) ts pre t x fs closings.ByBrace s (shut_numbers (plain bracket_of.Brace o) ts pre t x fs) refl (omega arith) refl
  own_shut (plain bracket_of.TickRound o) ts pre t x fs s = bracket_shut (plain bracket_of.TickRound o) ts pre t x fs closings.ByRound s (shut_numbers (plain bracket_of.TickRound o) ts pre t x fs) refl (omega arith) refl
  own_shut (plain bracket_of.TickSquare o) ts pre t x fs s = bracket_shut (plain bracket_of.TickSquare o) ts pre t x fs closings.BySquare s (shut_numbers (plain bracket_of.TickSquare o) ts pre t x fs) refl (omega arith) refl
  own_shut (plain bracket_of.TickBrace o) ts pre t x fs s = bracket_shut (plain bracket_of.TickBrace o) ts pre t x fs closings.ByBrace s (shut_numbers (plain bracket_of.TickBrace o) ts pre t x fs) refl (omega arith) refl
  own_shut (plain bracket_of.Dollar o) ts pre t x fs s = bracket_shut (plain bracket_of.Dollar o) ts pre t x fs closings.ByRound s (shut_numbers (plain bracket_of.Dollar o) ts pre t x fs) refl (omega arith) refl
  own_shut (length o) ts pre t x fs s = length_step o ts pre t x fs s
  own_shut (arguments f o) ts pre t x fs s = bracket_shut (arguments f o) ts pre t x fs closings.ByRound s (shut_numbers (arguments f o) ts pre t x fs) refl (omega arith) refl
  own_shut (index u o) ts pre t x fs s = bracket_shut (index u o) ts pre t x fs closings.BySquare s (shut_numbers (index u o) ts pre t x fs) refl (omega arith) refl
  own_shut (segment p o) ts pre t x fs s = shut_step (segment p o) ts pre t x fs (closing closings.BySquare x) (shut (segment p o) (more ts pre t) x fs) (shut_numbers (segment p o) ts pre t x fs) refl (omega arith) refl (omega arith)
  own_shut (update p m y) ts pre t x fs s = bracket_shut (update p m y) ts pre t x fs closings.BySquare s (shut_numbers (update p m y) ts pre t x fs) refl (omega arith) refl
  own_shut (below o i m y) ts pre t x fs s = bracket_shut (below o i m y) ts pre t x fs closings.ByRound s (shut_numbers (below o i m y) ts pre t x fs) refl (omega arith) refl

  close_step : (d : Closing) (x : Token) (p : Tree × Frames) → Neat p.1 → StepTo c (lowered_front p) (closing d x) (close d x p)
  close_step d x (t, bottom σ) s = tt
  close_step d x (t, over g fs) s = tt
  close_step d x (t, timing u m z fs) s = tt
  close_step d x (t, within h ts pre fs) s =
      step_if c (lowered_front (t, within h ts pre fs)) (closing d x) (agree (closes h) d) (shut h (more ts pre t) x fs) None
      (λ a. subst (λ v. Step c (lowered_front (t, within h ts pre fs)) (closing v x) (shut h (more ts pre t) x fs)) (agree_same (closes h) d a) (own_shut h ts pre t x fs s)) (λ a. tt)

  behind_steps : (t : Tree) (fs : Frames) (l : Terminal) → NoCount fs → Neat fs → StepTo c (front_of c (got t fs)) l (behind t fs l)
  behind_steps t fs (leaf k x) q s = tt
  behind_steps t fs (dot x) q s = step_if c (front_of c (got t fs)) (dot x) (may_post (sort fs) t (dot x)) (got (post t (dot x)) fs) None (λ a. post_step t (dot x) fs q refl refl) (λ a. tt)
  behind_steps t fs (sign m x) q s = sign_steps t m x fs q
  behind_steps t fs (opening k x) q s = opening_steps k x t fs q
  behind_steps t fs (closing d x) q s = lowered 0 t fs (closing d x) (close d x (lower 0 t fs)) q (close_step d x (lower 0 t fs) (lowered_neat 0 t fs s))
  behind_steps t fs (other x) q s = tt

  -- ---- a next element

  extend_neat : (t : Tree) (fs : Frames) → Neat fs → NoCount fs → Neat (extend t fs)
  extend_neat t (bottom σ) s q = tt
  extend_neat t (within h ts pre fs) s q = s
  extend_neat t (over (left u m x) fs) s q = s
  extend_neat t (over (ahead m x) fs) s q = s
  extend_neat t (over (items none) fs) s q = absurd s
  extend_neat t (over (items (more ts pre u)) fs) s q = s
  extend_neat t (timing u m x fs) s q = absurd q

  no_sign : (t : Tree) (fs gs : Frames) (l : Terminal) → follows (sort fs) t l ≡ true → (shallow : list_any too_deep c.begins ≡ false) → SignReady c shallow l gs
  no_sign t fs gs (leaf k x) e w = tt
  no_sign t fs gs (dot x) e w = tt
  no_sign t fs gs (sign m x) e w = let no : false ≡ true = e in absurd (cc)
  no_sign t fs gs (opening b x) e w = tt
  no_sign t fs gs (closing d x) e w = tt
  no_sign t fs gs (other x) e w = tt

  element_due : (t : Tree) (fs : Frames) (l : Terminal) (o : Option State) → NoCount fs → StepTo c (front_of c (want (extend t fs))) l o → StepTo c (front_of c (got t fs)) l o
  element_due t (bottom σ) l o q s =
      same_step c (front_of c (got t (bottom σ))) (front_of c (want (extend t (bottom σ)))) l o refl refl refl
      (λ h. let g = got_low c.before t (bottom σ) q h in ap (λ v. v || false) (no_test _ _ _ _ g.part one_part (ap (nat_lt MOST_SIGNS) (omega arith) ∙ g.sign) refl)) refl s
  element_due t (within h ts pre fs) l o q s =
      same_step c (front_of c (got t (within h ts pre fs))) (front_of c (want (extend t (within h ts pre fs)))) l o refl refl refl
      (λ k.
      let g = got_low c.before t (within h ts pre fs) q k in
      ap (λ v. v || list_any tally_passes (tallies_round c.before (within h ts pre fs))) (no_test _ _ _ _ g.part one_part (ap (nat_lt MOST_SIGNS) (omega arith) ∙ g.sign) refl)
      ∙ g.round) refl s
  element_due t (over (left u m x) fs) l o q s =
      same_step c (front_of c (got t (over (left u m x) fs))) (front_of c (want (extend t (over (left u m x) fs)))) l o refl refl refl
      (λ k.
      let g = got_low c.before t (over (left u m x) fs) q k in
      ap (λ v. v || list_any tally_passes (tallies_round c.before fs)) (no_test _ _ _ _ g.part one_part (ap (nat_lt MOST_SIGNS) (omega arith) ∙ g.sign) refl)
      ∙ g.round) refl s
  element_due t (over (ahead m x) fs) l o q s =
      same_step c (front_of c (got t (over (ahead m x) fs))) (front_of c (want (extend t (over (ahead m x) fs)))) l o refl refl refl
      (λ k.
      let g = got_low c.before t (over (ahead m x) fs) q k in
      ap (λ v. v || list_any tally_passes (tallies_round c.before fs)) (no_test _ _ _ _ g.part one_part (ap (nat_lt MOST_SIGNS) (omega arith) ∙ g.sign) refl)
      ∙ g.round) refl s
  element_due t (over (items ts) fs) l o q s =
      same_step c (front_of c (got t (over (items ts) fs))) (front_of c (want (extend t (over (items ts) fs)))) l o
      (append_assoc (frame_numbers c fs) (element_numbers (context_in c fs) ts) (numbers (context_in c (over (items ts) fs)) t)) refl refl
      (λ k.
      let g = got_low c.before t (over (items ts) fs) q k in
      ap (λ v. v || list_any tally_passes (tallies_round c.before fs)) (no_test _ _ _ _ g.part g.element (ap (nat_lt MOST_SIGNS) (omega arith) ∙ g.sign) refl)
      ∙ g.round) refl s
  element_due t (timing u m x fs) l o q s = absurd q

  count_ends : (t u : Tree) (m : Mark) (z : Token) (fs : Frames) (l : Terminal) → after t (timing u m z fs) l ≡ None
  count_ends t u m z fs (leaf j x) = refl
  count_ends t u m z fs (dot x) = refl
  count_ends t u m z fs (sign j x) = refl
  count_ends t u m z fs (opening bracket_of.Round x) = go t
    where
      go : (v : Tree) → behind_round x v (timing u m z fs) ≡ None
      go (operand leaves.Function f) = refl
      go (operand leaves.Low f) = refl
      go (operand leaves.Basic f) = refl
      go (operand leaves.Variable f) = refl
      go (operand leaves.Atom f) = refl
      go (operand leaves.Number f) = refl
      go (operand leaves.Literal f) = refl
      go (post v l) = refl
      go (times v j y w) = refl
      go (bracket h ts y) = refl
      go (led g v) = refl
  count_ends t u m z fs (opening bracket_of.Square x) = refl
  count_ends t u m z fs (opening bracket_of.Brace x) = refl
  count_ends t u m z fs (opening bracket_of.TickRound x) = refl
  count_ends t u m z fs (opening bracket_of.TickSquare x) = refl
  count_ends t u m z fs (opening bracket_of.TickBrace x) = refl
  count_ends t u m z fs (opening bracket_of.Dollar x) = refl
  count_ends t u m z fs (closing closings.ByRound x) = refl
  count_ends t u m z fs (closing closings.BySquare x) = refl
  count_ends t u m z fs (closing closings.ByBrace x) = refl
  count_ends t u m z fs (closing closings.ByBar x) = refl
  count_ends t u m z fs (other x) = refl

  -- ---- paths, counts and names

  path_opens : (p : Path) (x : Token) (fs : Frames) → Step c (front_of c (pathed p fs)) (opening bracket_of.Square x) (want (within (segment p x) none [] fs))
  path_opens p x fs = record {
    entry = open_entry [] ((context_in c fs).depth + 2);
    grown = ap (λ v. frame_numbers c fs ++ v) (append-nil (path_numbers (context_in c fs) p ++ open_entry [] ((context_in c fs).depth + 2) ∷ [])) ∙ sym (append_assoc (frame_numbers c fs) (path_numbers (context_in c fs) p) (open_entry [] ((context_in c fs).depth + 2) ∷ []));
    limit = λ h. sym h;
    nests = omega arith;
    opens = λ h. ap (nat_lt HIGHEST_TREE) (omega (arith, depth_is c fs)) ∙ sym (or_false (nat_lt HIGHEST_TREE ((context_in c fs).depth + 2)));
    stays = λ h. let no : true ≡ false = h in absurd (cc);
  }

  field_step : (p : Path) (x : Token) (fs : Frames) → Step c (front_of c (pathed p fs)) (dot x) (pathed (field p x) fs)
  field_step p x fs = record {
    entry = [];
    grown = sym (append_assoc (frame_numbers c fs) (path_numbers (context_in c fs) p) ([] ∷ []));
    limit = λ h. sym h;
    nests = refl;
    opens = λ h. refl;
    stays = λ h. omega arith;
  }

  change_step : (p : Path) (m : Mark) (x : Token) (fs : Frames) → Step c (front_of c (pathed p fs)) (sign m x) (want (within (update p m x) none [] fs))
  change_step p m x fs = record {
    entry = [];
    grown = ap (λ v. frame_numbers c fs ++ v) (append-nil (path_numbers (context_in c fs) p ++ [] ∷ [])) ∙ sym (append_assoc (frame_numbers c fs) (path_numbers (context_in c fs) p) ([] ∷ []));
    limit = λ h. sym h;
    nests = refl;
    opens = λ h. refl;
    stays = λ h. omega arith;
  }

  name_more : (f h p q r : List (List Number)) → f ++ (h ++ (p ++ (q ++ r))) ≡ (f ++ (h ++ (p ++ q))) ++ r
  name_more f h p q r = simp append_assoc

  label_step : (h : Heading) (ts : Trees) (pre : List Terminal) (fs : Frames) (l : Terminal) → is_label l ≡ true → nesting_after (c.depth + (heading_brackets h + frame_brackets fs)) l ≡ c.depth + (heading_brackets h + frame_brackets fs) → may_open l ≡ false
      → Step c (front_of c (naming h ts pre fs)) l (want (within h ts (pre ++ l ∷ []) fs))
  label_step h ts pre fs l e n m = record {
    entry = label_entry (number.part (size ts + 1) ∷ []) l;
    grown =
        ap (λ v. frame_numbers c fs ++ (heading_numbers (context_in c fs) h ++ (part_numbers (in_bracket (context_in c fs) h) ts ++ v))) (map-append (label_entry (number.part (size ts + 1) ∷ [])) pre (l ∷ []))
        ∙ name_more (frame_numbers c fs) (heading_numbers (context_in c fs) h) (part_numbers (in_bracket (context_in c fs) h) ts) (map (label_entry (number.part (size ts + 1) ∷ [])) pre) (label_entry (number.part (size ts + 1) ∷ []) l ∷ []);
    limit = λ k.
        let d = neither (tally_passes (tally (size ts) 0 (signs_in c.before (within h ts pre fs)) 0 true)) (list_any tally_passes (tallies_round c.before (within h ts pre fs))) k in
        let y = low (tally (size ts) 0 (signs_in c.before (within h ts pre fs)) 0 true) d.0 in
        ap (λ b. list_any too_many (if b then number.part (size ts + 1) ∷ [] else [])) e
        ∙ or_false (nat_lt MOST_PARTS (size ts + 1))
        ∙ sym (ap (λ b. tally_passes (tally (with_one b (size ts)) 0 (signs_in c.before (within h ts (pre ++ l ∷ []) fs)) 0 true) || list_any tally_passes (tallies_round c.before (within h ts (pre ++ l ∷ []) fs))) (last_label pre l ∙ e)
        ∙ ap (λ v. tally_passes (tally (size ts + 1) 0 (signs_in c.before (within h ts (pre ++ l ∷ []) fs)) 0 true) || list_any tally_passes v) (round_parts c.before h ts ts (pre ++ l ∷ []) pre fs)
        ∙ beside _ (list_any tally_passes (tallies_round c.before (within h ts pre fs))) d.1
        ∙ first_test (nat_lt MOST_PARTS (size ts + 1)) _ _ _ refl (ap (nat_lt MOST_SIGNS) (same_signs c.before h ts (pre ++ l ∷ []) pre fs) ∙ y.sign) refl);
    nests = sym n;
    opens = λ k. ap (λ b. b && nat_lt HIGHEST_TREE ((c.depth + (heading_brackets h + frame_brackets fs)) + (heading_bars h + frame_bars fs))) m ∙ sym (shut_entry (is_label l));
    stays = λ k. omega arith;
  }
    where
      shut_entry : (b : Bool) → list_any too_deep (if b then number.part (size ts + 1) ∷ [] else []) ≡ false
      shut_entry true = refl
      shut_entry false = refl

  name_steps : (h : Heading) (ts : Trees) (pre : List Terminal) (fs : Frames) (l : Terminal) → StepTo c (front_of c (naming h ts pre fs)) l (name_field h ts pre fs l)
  name_steps h ts pre fs (leaf k x) =
      step_if c (front_of c (naming h ts pre fs)) (leaf k x) (is_label (leaf k x)) (want (within h ts (pre ++ leaf k x ∷ []) fs)) None (λ e. label_step h ts pre fs (leaf k x) e refl refl) (λ e. tt)
  name_steps h ts pre fs (dot x) = tt
  name_steps h ts pre fs (sign m x) = tt
  name_steps h ts pre fs (opening b x) = tt
  name_steps h ts pre fs (closing d x) = tt
  name_steps h ts pre fs (other x) = tt

  index_name_step : (o : Token) (fs : Frames) (i : Token) → Step c (front_of c (indexing o fs)) (leaf leaves.Low i) (comparing o i fs)
  index_name_step o fs i = record {
    entry = [];
    grown = sym (append_assoc (frame_numbers c fs) (open_entry (context_in c fs).begins ((context_in c fs).depth + 1) ∷ []) ([] ∷ []));
    limit = λ h. sym h;
    nests = refl;
    opens = λ h. refl;
    stays = λ h. omega arith;
  }

  index_name_steps : (o : Token) (fs : Frames) (l : Terminal) → StepTo c (front_of c (indexing o fs)) l (name_index o fs l)
  index_name_steps o fs (leaf leaves.Low x) = index_name_step o fs x
  index_name_steps o fs (leaf leaves.Basic x) = tt
  index_name_steps o fs (leaf leaves.Variable x) = tt
  index_name_steps o fs (leaf leaves.Atom x) = tt
  index_name_steps o fs (leaf leaves.Number x) = tt
  index_name_steps o fs (leaf leaves.Literal x) = tt
  index_name_steps o fs (leaf leaves.Function x) = tt
  index_name_steps o fs (dot x) = tt
  index_name_steps o fs (sign m x) = tt
  index_name_steps o fs (opening b x) = tt
  index_name_steps o fs (closing d x) = tt
  index_name_steps o fs (other x) = tt

  below_step : (o i : Token) (fs : Frames) (m : Mark) (x : Token) → Step c (front_of c (comparing o i fs)) (sign m x) (want (within (below o i m x) none [] fs))
  below_step o i fs m x = record {
    entry = [];
    grown = sym (append_assoc (frame_numbers c fs) (open_entry (context_in c fs).begins ((context_in c fs).depth + 1) ∷ [] ∷ []) ([] ∷ []));
    limit = λ h. sym h;
    nests = refl;
    opens = λ h. refl;
    stays = λ h. omega arith;
  }

  bound_steps : (o i : Token) (fs : Frames) (l : Terminal) → StepTo c (front_of c (comparing o i fs)) l (bound_index o i fs l)
  bound_steps o i fs (leaf k x) = tt
  bound_steps o i fs (dot x) = tt
  bound_steps o i fs (sign m x) = step_if c (front_of c (comparing o i fs)) (sign m x) (is_less m) (want (within (below o i m x) none [] fs)) None (λ e. below_step o i fs m x) (λ e. tt)
  bound_steps o i fs (opening b x) = tt
  bound_steps o i fs (closing d x) = tt
  bound_steps o i fs (other x) = tt

  module _ (shallow : list_any too_deep c.begins ≡ false) where
    after_steps : (t : Tree) (fs : Frames) (l : Terminal) → NoCount fs → Neat fs → StepTo c (front_of c (got t fs)) l (after t fs l)
    after_steps t fs l q s = go (follows (sort fs) t l) refl
      where
        go : (b : Bool) → follows (sort fs) t l ≡ b → StepTo c (front_of c (got t fs)) l (if b then begin (extend t fs) l else behind t fs l)
        go true e = element_due t fs l (begin (extend t fs) l) q (begin_steps c shallow (extend t fs) l (extend_neat t fs s q) (no_sign t fs (extend t fs) l e shallow))
        go false e = behind_steps t fs l q s

    got_steps : (t : Tree) (fs : Frames) (l : Terminal) → Neat fs → StepTo c (front_of c (got t fs)) l (after t fs l)
    got_steps t (bottom σ) l s = after_steps t (bottom σ) l tt s
    got_steps t (within h ts pre fs) l s = after_steps t (within h ts pre fs) l tt s
    got_steps t (over g fs) l s = after_steps t (over g fs) l tt s
    got_steps t (timing u m x fs) l s = subst (StepTo c (front_of c (got t (timing u m x fs))) l) (sym (count_ends t u m x fs l)) tt

    index_steps : (t : Tree) (o : Token) (fs : Frames) (l : Terminal) → Neat fs → StepTo c (front_of c (pathed (head t o) fs)) l (begin (within (index t o) none [] fs) l)
    index_steps t o fs l s =
        same_step c (front_of c (pathed (head t o) fs)) (front_of c (want (within (index t o) none [] fs))) l (begin (within (index t o) none [] fs) l)
        (ap (λ v. frame_numbers c fs ++ v) (sym (append-nil (path_numbers (context_in c fs) (head t o))))) refl (omega arith) (λ h. h) refl
        (begin_steps c shallow (within (index t o) none [] fs) l s (ready l))
      where
        ready : (k : Terminal) → SignReady c shallow k (within (index t o) none [] fs)
        ready (leaf k x) = tt
        ready (dot x) = tt
        ready (sign m x) = tt
        ready (opening b x) = tt
        ready (closing d x) = tt
        ready (other x) = tt

    in_index_steps : (p : Path) (fs : Frames) (l : Terminal) → Neat fs → StepTo c (front_of c (pathed p fs)) l (in_index p fs l)
    in_index_steps (head t o) fs l s = index_steps t o fs l s
    in_index_steps (field p x) fs l s = tt
    in_index_steps (part p o ts x) fs l s = tt

    path_steps : (p : Path) (fs : Frames) (l : Terminal) → Neat fs → StepTo c (front_of c (pathed p fs)) l (in_path p fs l)
    path_steps p fs (dot x) s = field_step p x fs
    path_steps p fs (opening bracket_of.Square x) s = path_opens p x fs
    path_steps p fs (sign m x) s =
        step_if c (front_of c (pathed p fs)) (sign m x) (has_step p && is_change m) (want (within (update p m x) none [] fs)) (in_index p fs (sign m x)) (λ e. change_step p m x fs) (λ e. in_index_steps p fs (sign m x) s)
    path_steps p fs (leaf k x) s = in_index_steps p fs (leaf k x) s
    path_steps p fs (opening bracket_of.Round x) s = in_index_steps p fs (opening bracket_of.Round x) s
    path_steps p fs (opening bracket_of.Brace x) s = in_index_steps p fs (opening bracket_of.Brace x) s
    path_steps p fs (opening bracket_of.TickRound x) s = in_index_steps p fs (opening bracket_of.TickRound x) s
    path_steps p fs (opening bracket_of.TickSquare x) s = in_index_steps p fs (opening bracket_of.TickSquare x) s
    path_steps p fs (opening bracket_of.TickBrace x) s = in_index_steps p fs (opening bracket_of.TickBrace x) s
    path_steps p fs (opening bracket_of.Dollar x) s = in_index_steps p fs (opening bracket_of.Dollar x) s
    path_steps p fs (closing d x) s = in_index_steps p fs (closing d x) s
    path_steps p fs (other x) s = in_index_steps p fs (other x) s

    -- ---- a token of a part

    pub part_steps : (st : State) (l : Terminal) → Holds st → StepTo c (front_of c st) l (step st l)
    part_steps (want fs) l h = begin_steps c shallow fs l (neat fs h.0) (ready l)
      where
        ready : (k : Terminal) → SignReady c shallow k fs
        ready (leaf k x) = tt
        ready (dot x) = tt
        ready (sign m x) = h.1
        ready (opening b x) = tt
        ready (closing d x) = tt
        ready (other x) = tt
    part_steps (got t fs) l h = got_steps t fs l (neat fs h.0.frames)
    part_steps (naming k ts pre fs) l h = name_steps k ts pre fs l
    part_steps (pathed p fs) l h = path_steps p fs l (neat fs h.0)
    part_steps (indexing o fs) l h = index_name_steps o fs l
    part_steps (comparing o i fs) l h = bound_steps o i fs l

  -- ---- the end

  ended_numbers : (p : Tree × Frames) (t : Tree) → ended p ≡ Some t → pair_numbers p ≡ numbers (context (base p.1) c.before 0 c.depth c.begins) t
  ended_numbers (u, bottom σ) t e = let is : u ≡ t = cc in ap (numbers (context σ c.before 0 c.depth c.begins)) is
  ended_numbers (u, within h ts pre fs) t e = absurd (cc)
  ended_numbers (u, over g fs) t e = absurd (cc)
  ended_numbers (u, timing v m x fs) t e = absurd (cc)

  pub part_ends : (st : State) (t : Tree) → finish st ≡ Some t → state_numbers c st ≡ numbers (context (state_base st) c.before 0 c.depth c.begins) t
  part_ends (got u fs) t e =
      let r = lowers 0 u fs in
      sym r.entries ∙ ended_numbers (lower 0 u fs) t e ∙ ap (λ σ. numbers (context σ c.before 0 c.depth c.begins) t) r.base_is
  part_ends (want fs) t e = absurd (cc)
  part_ends (naming h ts pre fs) t e = absurd (cc)
  part_ends (pathed p fs) t e = absurd (cc)
  part_ends (indexing o fs) t e = absurd (cc)
  part_ends (comparing o i fs) t e = absurd (cc)
