-- Where an operand is due, each token adds its entry of numbers, which passes a limit where the
-- tallies behind it do.
use Rattle.std.proofs.Common.{◌≡◌, ℕ, ◌+◌, ◌≤◌, List, [], ◌∷◌, ◌++◌, Bool, true, false, ◌&&◌, ◌||◌, Option, Some, None, nat_lt, nat_le, if◌then◌else◌, refl, sym, ap, ◌∙◌, append_assoc, arith}
use Rattle.std.specs.List.{list_any}
use Rattle.std.proofs.lemmas.List.Folds.{list_any-append}
use Rattle.st_num.specs.declared.mark.Mark.{Mark}
use Rattle.st_num.specs.declared.token.Token.{Token}
use Rattle.st_num.specs.declared.limit.TheConstants.{MOST_PARTS, MOST_SIGNS, HIGHEST_TREE}
use Rattle.st_grammar.specs.declared.sort.Leaf.{Leaf}
use Rattle.st_grammar.specs.declared.sort.Bracket.{Bracket}
use Rattle.st_grammar.specs.declared.sort.Bracket.TheVariants as bracket_of
use Rattle.st_grammar.specs.declared.sort.Closing.TheVariants as closings
use Rattle.st_grammar.specs.Terminals.{Terminal, leaf, dot, sign, opening, closing, other}
use Rattle.st_num.specs.Signs.{prefix_level}
use Rattle.st_grammar.specs.Levels.{takes, encloses, computes, is_count, has_level}
use Rattle.st_grammar.specs.Trees.{Tree, operand, bracket, ahead, none, more, plain, length, arguments, index, segment, update, below}
use Rattle.st_grammar.specs.Reading.{Frames, bottom, within, over, timing, State, want, indexing, sort, least, settle, opened, begin_opening, begin}
use Rattle.st_grammar.proofs.Sound.{IsNoSequence}
use Rattle.st_parse_faults.specs.declared.tally.Tally.{Tally}
use Rattle.st_parse_faults.specs.Number as number
use Rattle.st_parse_faults.specs.Number.{Number, too_deep, too_many}
use Rattle.st_parse_faults.specs.Numbers.{Context, in_count, ahead_number, open_entry, numbers, heading_numbers}
use Rattle.st_parse_faults.specs.Nesting.{nesting_after}
use Rattle.st_parse_faults.specs.inner.Bars.{frame_bars, part_bars, may_open}
use Rattle.st_parse_faults.specs.Signs.{is_turnstile, posts}
use Rattle.st_parse_faults.specs.inner.Limits.{signs_in, parts_in, aheads, tally, fresh, due_tally, held_tally, tallies_round, part_tallies, tally_passes}
use Rattle.st_parse_faults.specs.inner.Numbering.{context_in, frame_numbers, state_numbers, frame_brackets, part_brackets}
use Rattle.st_parse_faults.proofs.KeptTallies.{neither}
use Rattle.st_parse_faults.proofs.NumberFacts.{or_false, no_test, first_test, beside, one_part, no_signs, Neat, NoCount, low, settled, held, due_signs, one_element, depth_is, before_is, row_is, outer, begins_pass, begins_shallow, opens_there}

-- ---- tests

prefix_passes : (o a x : Bool) → ((o || a) || (x || false)) ≡ (o || ((((a || false) || false) || x) || false))
prefix_passes true a x = refl
prefix_passes false true x = refl
prefix_passes false false true = refl
prefix_passes false false false = refl

infix_passes : (o a x : Bool) → ((o || a) || (x || false)) ≡ (o || ((((a || false) || x) || false) || false))
infix_passes true a x = refl
infix_passes false true x = refl
infix_passes false false true = refl
infix_passes false false false = refl

-- ---- what stands before a token

-- the entries before the token, how many brackets and bars are open there, whether a number passes
-- its limit there, and what else begins with the token
pub record Front : Type 0 where
  pub entries : List (List Number)
  pub brackets : ℕ
  pub bars : ℕ
  pub passes : Bool
  pub begins : List Number

module _ (c : Context) where
  abbrev pub outer_of : State → List Number
  outer_of (want fs) = outer c fs
  outer_of st = []

  abbrev pub front_of : State → Front
  front_of st = record {
    entries = state_numbers c st;
    brackets = part_brackets st;
    bars = part_bars st;
    passes = list_any tally_passes (part_tallies c.before st);
    begins = outer_of st;
  }

  -- The token adds an entry, which passes a limit where the tallies behind it do, and opens what
  -- it says.
  pub record Step (f : Front) (l : Terminal) (next : State) : Type 0 where
    pub entry : List Number
    pub grown : state_numbers c next ≡ f.entries ++ entry ∷ []
    pub limit : f.passes ≡ false → list_any too_many entry ≡ (list_any too_many f.begins || list_any tally_passes (part_tallies c.before next))
    pub nests : c.depth + part_brackets next ≡ nesting_after (c.depth + f.brackets) l
    pub opens : (c.depth + f.brackets) + f.bars ≤ HIGHEST_TREE → (may_open l && nat_lt HIGHEST_TREE ((c.depth + part_brackets next) + part_bars next)) ≡ list_any too_deep entry
    pub stays : may_open l ≡ false → part_brackets next + part_bars next ≤ f.brackets + f.bars

  abbrev pub StepTo : Front → Terminal → Option State → Type 0
  StepTo f l None = Unit {0}
  StepTo f l (Some next) = Step f l next

  pub step_if : (f : Front) (l : Terminal) (b : Bool) (x : State) (o : Option State) → (b ≡ true → Step f l x) → (b ≡ false → StepTo f l o) → StepTo f l (if b then Some x else o)
  step_if f l true x o g h = g refl
  step_if f l false x o g h = h refl

  pub step_both : (f : Front) (l : Terminal) (b : Bool) (p o : Option State) → (b ≡ true → StepTo f l p) → (b ≡ false → StepTo f l o) → StepTo f l (if b then p else o)
  step_both f l true p o g h = g refl
  step_both f l false p o g h = h refl

  -- the same step where the same stands before it
  pub same_step : (f g : Front) (l : Terminal) (o : Option State) → f.entries ≡ g.entries → f.brackets ≡ g.brackets → f.bars ≡ g.bars → (f.passes ≡ false → g.passes ≡ false) → f.begins ≡ g.begins → StepTo g l o → StepTo f l o
  same_step f g l None d e h i j s = tt
  same_step f g l (Some next) d e h i j s = record {
    entry = s.entry;
    grown = s.grown ∙ ap (λ v. v ++ s.entry ∷ []) (sym d);
    limit = λ k. s.limit (i k) ∙ ap (λ v. list_any too_many v || list_any tally_passes (part_tallies c.before next)) (sym j);
    nests = s.nests ∙ ap (λ v. nesting_after (c.depth + v) l) (sym e);
    opens = λ k. s.opens (omega (arith, k, e, h));
    stays = λ k. omega (arith, s.stays k, e, h);
  }

  -- ---- a part that is read

  pub settle_numbers : (t : Tree) (fs : Frames) → state_numbers c (settle t fs) ≡ frame_numbers c fs ++ numbers (context_in c fs) t
  settle_numbers t (bottom σ) = refl
  settle_numbers t (within h ts pre fs) = refl
  settle_numbers t (over g fs) = refl
  settle_numbers t (timing u m x fs) = regroup (frame_numbers c fs) (numbers (context_in c fs) u) (number.row (posts (context_in c fs).sort u + 1) ∷ []) (numbers (in_count (context_in c fs) u) t)
    where
      regroup : (f u : List (List Number)) (r : List Number) (d : List (List Number)) → f ++ (u ++ (r ∷ d)) ≡ (f ++ (u ++ r ∷ [])) ++ d
      regroup f u r d = simp append_assoc

  pub settle_brackets : (t : Tree) (fs : Frames) → part_brackets (settle t fs) ≡ frame_brackets fs
  settle_brackets t (bottom σ) = refl
  settle_brackets t (within h ts pre fs) = refl
  settle_brackets t (over g fs) = refl
  settle_brackets t (timing u m x fs) = refl

  pub settle_bars : (t : Tree) (fs : Frames) → part_bars (settle t fs) ≡ frame_bars fs
  settle_bars t (bottom σ) = refl
  settle_bars t (within h ts pre fs) = refl
  settle_bars t (over g fs) = refl
  settle_bars t (timing u m x fs) = refl

  -- ---- limits

  abbrev pub due_passes : Frames → Bool
  due_passes fs = tally_passes (due_tally c.before fs)

  abbrev pub held_passes : Frames → Bool
  held_passes fs = tally_passes (held_tally c.before 0 0 fs)

  abbrev pub round_passes : Frames → Bool
  round_passes fs = list_any tally_passes (tallies_round c.before fs)

  pub begun_limit : (fs : Frames) → Neat fs → (next : State) → part_tallies c.before next ≡ held_tally c.before 0 0 fs ∷ tallies_round c.before fs → (due_passes fs || round_passes fs) ≡ false
      → list_any too_many (context_in c fs).begins ≡ (list_any too_many (outer c fs) || list_any tally_passes (part_tallies c.before next))
  begun_limit fs s next e h =
      let d = neither (due_passes fs) (round_passes fs) h in
      begins_pass c fs s d.0 ∙ ap (λ v. list_any too_many (outer c fs) || v) (sym (ap (list_any tally_passes) e ∙ beside (held_passes fs) (round_passes fs) d.1))

  pub open_many : (b : List Number) (v : ℕ) → list_any too_many (open_entry b v) ≡ list_any too_many b
  open_many b v = list_any-append too_many b (number.opened v ∷ []) ∙ or_false (list_any too_many b)

  pub opened_limit : (fs : Frames) → Neat fs → (next : State) (v : ℕ) (y : Tally) → tally_passes y ≡ false → part_tallies c.before next ≡ y ∷ held_tally c.before 0 0 fs ∷ tallies_round c.before fs → (due_passes fs || round_passes fs) ≡ false
      → list_any too_many (open_entry (context_in c fs).begins v) ≡ (list_any too_many (outer c fs) || list_any tally_passes (part_tallies c.before next))
  opened_limit fs s next v y z e h =
      let d = neither (due_passes fs) (round_passes fs) h in
      open_many (context_in c fs).begins v
      ∙ begins_pass c fs s d.0
      ∙ ap (λ v. list_any too_many (outer c fs) || v)
      (sym (ap (list_any tally_passes) e ∙ ap (λ v. v || (held_passes fs || round_passes fs)) z ∙ beside (held_passes fs) (round_passes fs) d.1))

  pub signs_low : (fs : Frames) → due_passes fs ≡ false → (n : ℕ) → n ≡ signs_in c.before fs → nat_lt MOST_SIGNS n ≡ false
  signs_low fs e n i = ap (nat_lt MOST_SIGNS) (i ∙ sym (due_signs c.before fs)) ∙ (low (due_tally c.before fs) e).sign

  pub parts_pass : (fs : Frames) → NoCount fs → IsNoSequence fs → due_passes fs ≡ false → held_passes fs ≡ nat_lt MOST_PARTS (parts_in fs + 1)
  parts_pass fs k q e =
      ap tally_passes (held c.before 0 0 fs k)
      ∙ first_test (nat_lt MOST_PARTS (parts_in fs + 1)) _ _ _ (ap (nat_lt MOST_PARTS) (one_element fs k q) ∙ one_part) (signs_low fs e (0 + signs_in c.before fs) (omega arith)) no_signs

  module _ (shallow : list_any too_deep c.begins ≡ false) where
    -- ---- one token

    leaf_step : (k : Leaf) (x : Token) (fs : Frames) → Neat fs → Step (front_of (want fs)) (leaf k x) (settle (operand k x) fs)
    leaf_step k x fs s = record {
      entry = (context_in c fs).begins;
      grown = settle_numbers (operand k x) fs;
      limit = λ h. begun_limit fs s (settle (operand k x) fs) (settled c.before (operand k x) fs s) h;
      nests = ap (λ v. c.depth + v) (settle_brackets (operand k x) fs);
      opens = λ h. sym (begins_shallow c shallow fs);
      stays = λ h. omega (arith, settle_brackets (operand k x) fs, settle_bars (operand k x) fs);
    }

    sign_step : (m : Mark) (x : Token) (fs : Frames) → Neat fs → NoCount fs → IsNoSequence fs → Step (front_of (want fs)) (sign m x) (want (over (ahead m x) fs))
    sign_step m x fs s k q = record {
      entry = (context_in c fs).begins ++ ahead_number (context_in c fs) m ∷ [];
      grown = refl;
      limit = λ h. list_any-append too_many (context_in c fs).begins (ahead_number (context_in c fs) m ∷ []) ∙ passes (is_turnstile m) (neither (due_passes fs) (round_passes fs) h).0 (neither (due_passes fs) (round_passes fs) h).1;
      nests = refl;
      opens = λ h. sym (list_any-append too_deep (context_in c fs).begins (ahead_number (context_in c fs) m ∷ []) ∙ ap (λ v. v || (too_deep (ahead_number (context_in c fs) m) || false)) (begins_shallow c shallow fs) ∙ closed (is_turnstile m));
      stays = λ h. omega arith;
    }
      where
        n : ℕ
        n = signs_in c.before fs

        closed : (b : Bool) → (too_deep (if b then number.sign ((context_in c fs).before + 1) else number.row ((context_in c fs).row + 1)) || false) ≡ false
        closed true = refl
        closed false = refl

        first : due_passes fs ≡ false → list_any too_many (context_in c fs).begins ≡ (list_any too_many (outer c fs) || nat_lt MOST_PARTS (parts_in fs + 1))
        first e = begins_pass c fs s e ∙ ap (λ v. list_any too_many (outer c fs) || v) (parts_pass fs k q e)

        passes : (b : Bool) → due_passes fs ≡ false → round_passes fs ≡ false
            → (list_any too_many (context_in c fs).begins || (too_many (if b then number.sign ((context_in c fs).before + 1) else number.row ((context_in c fs).row + 1)) || false))
            ≡ (list_any too_many (outer c fs) || (tally_passes (tally (parts_in fs + 1) 0 ((if b then 1 else 0) + n) (if b then 0 else aheads fs + 1) false) || round_passes fs))
        passes true e r =
            ap (λ v. v || (nat_lt MOST_SIGNS ((context_in c fs).before + 1) || false)) (first e)
            ∙ ap (λ v. (list_any too_many (outer c fs) || nat_lt MOST_PARTS (parts_in fs + 1)) || (nat_lt MOST_SIGNS v || false)) (omega (arith, before_is c fs))
            ∙ infix_passes (list_any too_many (outer c fs)) (nat_lt MOST_PARTS (parts_in fs + 1)) (nat_lt MOST_SIGNS (1 + n))
            ∙ ap (λ v. list_any too_many (outer c fs) || (tally_passes (tally (parts_in fs + 1) 0 (1 + n) 0 false) || v)) (sym r)
        passes false e r =
            ap (λ v. v || (nat_lt MOST_SIGNS ((context_in c fs).row + 1) || false)) (first e)
            ∙ ap (λ v. (list_any too_many (outer c fs) || nat_lt MOST_PARTS (parts_in fs + 1)) || (nat_lt MOST_SIGNS (v + 1) || false)) (row_is c fs s)
            ∙ prefix_passes (list_any too_many (outer c fs)) (nat_lt MOST_PARTS (parts_in fs + 1)) (nat_lt MOST_SIGNS (aheads fs + 1))
            ∙ ap (λ v. list_any too_many (outer c fs) || ((((nat_lt MOST_PARTS (parts_in fs + 1) || false) || v) || nat_lt MOST_SIGNS (aheads fs + 1)) || false)) (sym (signs_low fs e (0 + n) (omega arith)))
            ∙ ap (λ v. list_any too_many (outer c fs) || (tally_passes (tally (parts_in fs + 1) 0 (0 + n) (aheads fs + 1) false) || v)) (sym r)

    -- a bracket or length opens
    open_step : (l : Terminal) (next : State) (fs : Frames) (y : Tally) → Neat fs → state_numbers c next ≡ frame_numbers c fs ++ open_entry (context_in c fs).begins ((context_in c fs).depth + 1) ∷ []
        → part_tallies c.before next ≡ y ∷ held_tally c.before 0 0 fs ∷ tallies_round c.before fs → (due_passes fs ≡ false → tally_passes y ≡ false)
        → c.depth + part_brackets next ≡ nesting_after (c.depth + frame_brackets fs) l → may_open l ≡ true → (c.depth + part_brackets next) + part_bars next ≡ (context_in c fs).depth + 1
        → Step (front_of (want fs)) l next
    open_step l next fs y s e f z n m d = record {
      entry = open_entry (context_in c fs).begins ((context_in c fs).depth + 1);
      grown = e;
      limit = λ h. opened_limit fs s next ((context_in c fs).depth + 1) y (z (neither (due_passes fs) (round_passes fs) h).0) f h;
      nests = n;
      opens = λ h.
          ap (λ b. b && nat_lt HIGHEST_TREE ((c.depth + part_brackets next) + part_bars next)) m
          ∙ opens_there c shallow fs ((c.depth + part_brackets next) + part_bars next) d;
      stays = λ h. let no : true ≡ false = sym m ∙ h in absurd (cc);
    }

    plain_step : (k : Bracket) (x : Token) (fs : Frames) → Neat fs → Step (front_of (want fs)) (opening k x) (opened k x fs)
    plain_step bracket_of.Round x fs s = open_step (opening bracket_of.Round x) (opened bracket_of.Round x fs) fs (fresh 0) s refl refl (λ e. refl) (omega arith) refl (omega (arith, depth_is c fs))
    plain_step bracket_of.Square x fs s = open_step (opening bracket_of.Square x) (opened bracket_of.Square x fs) fs (fresh 0) s refl refl (λ e. refl) (omega arith) refl (omega (arith, depth_is c fs))
    plain_step bracket_of.Brace x fs s = open_step (opening bracket_of.Brace x) (opened bracket_of.Brace x fs) fs (fresh 0) s refl refl (λ e. refl) (omega arith) refl (omega (arith, depth_is c fs))
    plain_step bracket_of.TickRound x fs s = open_step (opening bracket_of.TickRound x) (opened bracket_of.TickRound x fs) fs (fresh 0) s refl refl (λ e. refl) (omega arith) refl (omega (arith, depth_is c fs))
    plain_step bracket_of.TickSquare x fs s = open_step (opening bracket_of.TickSquare x) (opened bracket_of.TickSquare x fs) fs (fresh 0) s refl refl (λ e. refl) (omega arith) refl (omega (arith, depth_is c fs))
    plain_step bracket_of.TickBrace x fs s = open_step (opening bracket_of.TickBrace x) (opened bracket_of.TickBrace x fs) fs (fresh 0) s refl refl (λ e. refl) (omega arith) refl (omega (arith, depth_is c fs))
    plain_step bracket_of.Dollar x fs s = open_step (opening bracket_of.Dollar x) (opened bracket_of.Dollar x fs) fs (fresh 0) s refl refl (λ e. refl) (omega arith) refl (omega (arith, depth_is c fs))

    plain_opens : (k : Bracket) (x : Token) (fs : Frames) → Neat fs → StepTo (front_of (want fs)) (opening k x) (if encloses (sort fs) k then Some (opened k x fs) else None)
    plain_opens k x fs s = step_if (front_of (want fs)) (opening k x) (encloses (sort fs) k) (opened k x fs) None (λ e. plain_step k x fs s) (λ e. tt)

    opening_step : (k : Bracket) (x : Token) (fs : Frames) → Neat fs → StepTo (front_of (want fs)) (opening k x) (begin_opening k x fs)
    opening_step bracket_of.Round x fs s =
        step_if (front_of (want fs)) (opening bracket_of.Round x) (is_count (sort fs)) (indexing x fs) (if encloses (sort fs) bracket_of.Round then Some (opened bracket_of.Round x fs) else None)
        (λ e. open_step (opening bracket_of.Round x) (indexing x fs) fs (fresh 0) s refl refl (λ e. refl) (omega arith) refl (omega (arith, depth_is c fs)))
        (λ e. plain_opens bracket_of.Round x fs s)
    opening_step bracket_of.Square x fs s = plain_opens bracket_of.Square x fs s
    opening_step bracket_of.Brace x fs s = plain_opens bracket_of.Brace x fs s
    opening_step bracket_of.TickRound x fs s = plain_opens bracket_of.TickRound x fs s
    opening_step bracket_of.TickSquare x fs s = plain_opens bracket_of.TickSquare x fs s
    opening_step bracket_of.TickBrace x fs s = plain_opens bracket_of.TickBrace x fs s
    opening_step bracket_of.Dollar x fs s = plain_opens bracket_of.Dollar x fs s

    bar_step : (x : Token) (fs : Frames) → Neat fs → Step (front_of (want fs)) (closing closings.ByBar x) (want (within (length x) none [] fs))
    bar_step x fs s =
        open_step (closing closings.ByBar x) (want (within (length x) none [] fs)) fs (due_tally c.before (within (length x) none [] fs)) s refl refl
        (λ e. no_test _ _ _ _ refl refl (signs_low fs e (0 + signs_in c.before fs) (omega arith)) refl)
        (omega arith) refl (omega (arith, depth_is c fs))

    empty_step : (f o x : Token) (fs : Frames) → Neat fs → Step (front_of (want (within (arguments f o) none [] fs))) (closing closings.ByRound x) (settle (bracket (arguments f o) none x) fs)
    empty_step f o x fs s = record {
      entry = [];
      grown = settle_numbers (bracket (arguments f o) none x) fs ∙ sym (append_assoc (frame_numbers c fs) (heading_numbers (context_in c fs) (arguments f o)) ([] ∷ []));
      limit = λ h.
          sym (ap (list_any tally_passes) (settled c.before (bracket (arguments f o) none x) fs s)
          ∙ (neither (due_passes (within (arguments f o) none [] fs)) (round_passes (within (arguments f o) none [] fs)) h).1);
      nests = omega (arith, settle_brackets (bracket (arguments f o) none x) fs);
      opens = λ h. refl;
      stays = λ h. omega (arith, settle_brackets (bracket (arguments f o) none x) fs, settle_bars (bracket (arguments f o) none x) fs);
    }

    round_step : (x : Token) (fs : Frames) → Neat fs → StepTo (front_of (want fs)) (closing closings.ByRound x) (begin fs (closing closings.ByRound x))
    round_step x (bottom σ) s = tt
    round_step x (over g fs) s = tt
    round_step x (timing t m z fs) s = tt
    round_step x (within (plain b o) ts pre fs) s = tt
    round_step x (within (length o) ts pre fs) s = tt
    round_step x (within (index t o) ts pre fs) s = tt
    round_step x (within (segment p o) ts pre fs) s = tt
    round_step x (within (update p m z) ts pre fs) s = tt
    round_step x (within (below o i m z) ts pre fs) s = tt
    round_step x (within (arguments f o) none [] fs) s = empty_step f o x fs s
    round_step x (within (arguments f o) none (l ∷ pre) fs) s = tt
    round_step x (within (arguments f o) (more ts q t) pre fs) s = tt

    prefix_step : (m : Mark) (x : Token) (fs : Frames) → Neat fs → IsNoSequence fs → StepTo (front_of (want fs)) (sign m x) (begin fs (sign m x))
    prefix_step m x (bottom σ) s q = step_if (front_of (want (bottom σ))) (sign m x) (has_level σ (prefix_level m) && nat_le 1 (prefix_level m)) (want (over (ahead m x) (bottom σ))) None (λ e. sign_step m x (bottom σ) s tt tt) (λ e. tt)
    prefix_step m x (within h ts pre fs) s q =
        step_if (front_of (want (within h ts pre fs))) (sign m x) (has_level (sort (within h ts pre fs)) (prefix_level m) && nat_le (least (within h ts pre fs)) (prefix_level m)) (want (over (ahead m x) (within h ts pre fs))) None
        (λ e. sign_step m x (within h ts pre fs) s tt tt) (λ e. tt)
    prefix_step m x (over g fs) s q =
        step_if (front_of (want (over g fs))) (sign m x) (has_level (sort (over g fs)) (prefix_level m) && nat_le (least (over g fs)) (prefix_level m)) (want (over (ahead m x) (over g fs))) None
        (λ e. sign_step m x (over g fs) s tt q) (λ e. tt)
    prefix_step m x (timing t k z fs) s q = tt

    -- where a sign may begin an operand, no sequence is read
    abbrev pub SignReady : Terminal → Frames → Type 0
    SignReady (sign m x) fs = IsNoSequence fs
    SignReady l fs = Unit {0}

    pub begin_steps : (fs : Frames) (l : Terminal) → Neat fs → SignReady l fs → StepTo (front_of (want fs)) l (begin fs l)
    begin_steps fs (leaf k x) s q = step_if (front_of (want fs)) (leaf k x) (takes (sort fs) k) (settle (operand k x) fs) None (λ e. leaf_step k x fs s) (λ e. tt)
    begin_steps fs (dot x) s q = tt
    begin_steps fs (sign m x) s q = prefix_step m x fs s q
    begin_steps fs (opening k x) s q = opening_step k x fs s
    begin_steps fs (closing closings.ByBar x) s q =
        step_if (front_of (want fs)) (closing closings.ByBar x) (computes (sort fs)) (want (within (length x) none [] fs)) None (λ e. bar_step x fs s) (λ e. tt)
    begin_steps fs (closing closings.ByRound x) s q = round_step x fs s
    begin_steps fs (closing closings.BySquare x) s q = tt
    begin_steps fs (closing closings.ByBrace x) s q = tt
    begin_steps fs (other x) s q = tt
