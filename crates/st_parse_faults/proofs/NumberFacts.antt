-- What is known of the numbers where a part is read, by what is open.
use Rattle.std.proofs.Common.{◌≡◌, ℕ, ◌+◌, List, [], ◌∷◌, ◌++◌, Bool, true, false, not, ◌||◌, nat_lt, if◌then◌else◌, refl, sym, ap, ◌∙◌, arith}
use Rattle.std.specs.List.{list_any}
use Rattle.std.proofs.lemmas.List.Folds.{list_any-append}
use Rattle.st_num.specs.declared.limit.TheConstants.{MOST_PARTS, MOST_SIGNS, HIGHEST_TREE}
use Rattle.st_grammar.specs.Terminals.{Terminal}
use Rattle.st_grammar.specs.Trees.{Tree, left, ahead, items, Trees, none, more, Heading, plain, length, arguments, index, segment, update, below}
use Rattle.st_grammar.specs.Grammar.{is_label, size, sort_in}
use Rattle.st_grammar.specs.Reading.{Frames, bottom, within, over, timing, sort, settle}
use Rattle.st_grammar.proofs.Sound.{Stand, IsNoSequence}
use Rattle.st_parse_faults.specs.declared.tally.Tally.{Tally}
use Rattle.st_parse_faults.specs.Number as number
use Rattle.st_parse_faults.specs.Number.{Number, too_deep, too_many}
use Rattle.st_parse_faults.specs.Numbers.{Context, opened_by, open_entry}
use Rattle.st_parse_faults.specs.inner.Bars.{heading_bars, frame_bars}
use Rattle.st_parse_faults.specs.Signs.{signs, is_turnstile, posts, ends_with_label}
use Rattle.st_parse_faults.specs.inner.Limits.{signs_in, parts_in, elements_with, aheads, tally, due_tally, held_tally, tallies_round, part_tallies, tally_passes, with_one}
use Rattle.st_parse_faults.specs.inner.Numbering.{context_in, heading_brackets, frame_brackets}
use Rattle.st_parse_faults.proofs.KeptTallies.{neither}

-- ---- tests

pub or_false : (a : Bool) → (a || false) ≡ a
or_false true = refl
or_false false = refl

four : (a b c d a' b' c' d' : Bool) → a ≡ a' → b ≡ b' → c ≡ c' → d ≡ d' → (((a || b) || c) || d) ≡ (((a' || b') || c') || d')
four a b c d a' b' c' d' e f g h = ap (λ v. ((v || b) || c) || d) e ∙ ap (λ v. ((a' || v) || c) || d) f ∙ ap (λ v. ((a' || b') || v) || d) g ∙ ap (λ v. ((a' || b') || c') || v) h

pub no_test : (a b c d : Bool) → a ≡ false → b ≡ false → c ≡ false → d ≡ false → (((a || b) || c) || d) ≡ false
no_test a b c d e f g h = four a b c d false false false false e f g h

pub first_test : (a b c d : Bool) → b ≡ false → c ≡ false → d ≡ false → (((a || b) || c) || d) ≡ a
first_test a b c d f g h = four a b c d a false false false refl f g h ∙ or_false ((a || false) || false) ∙ or_false (a || false) ∙ or_false a

pub second_test : (a b c d : Bool) → a ≡ false → c ≡ false → d ≡ false → (((a || b) || c) || d) ≡ b
second_test a b c d e g h = four a b c d false b false false e refl g h ∙ or_false (b || false) ∙ or_false b

pub third_test : (a b c d : Bool) → a ≡ false → b ≡ false → d ≡ false → (((a || b) || c) || d) ≡ c
third_test a b c d e f h = four a b c d false false c false e f refl h ∙ or_false c

pub fourth_test : (a b c d : Bool) → a ≡ false → b ≡ false → c ≡ false → (((a || b) || c) || d) ≡ d
fourth_test a b c d e f g = four a b c d false false false d e f g refl

-- the test holds of what is tested beside these alone
pub beside : (a b : Bool) → b ≡ false → (a || b) ≡ a
beside a b e = ap (λ v. a || v) e ∙ or_false a

-- ---- small numbers

pub one_part : nat_lt MOST_PARTS 1 ≡ false
one_part = refl

pub no_signs : nat_lt MOST_SIGNS 0 ≡ false
no_signs = refl

-- ---- tallies

-- no number of the tally passes its limit
pub record Low (y : Tally) : Type 0 where
  pub part : nat_lt MOST_PARTS y.parts ≡ false
  pub element : nat_lt MOST_PARTS y.elements ≡ false
  pub sign : nat_lt MOST_SIGNS y.signs ≡ false
  pub row : nat_lt MOST_SIGNS y.row ≡ false

pub low : (y : Tally) → tally_passes y ≡ false → Low y
low y e =
    let d = neither ((nat_lt MOST_PARTS y.parts || nat_lt MOST_PARTS y.elements) || nat_lt MOST_SIGNS y.signs) (nat_lt MOST_SIGNS y.row) e in
    let c = neither (nat_lt MOST_PARTS y.parts || nat_lt MOST_PARTS y.elements) (nat_lt MOST_SIGNS y.signs) d.0 in
    let b = neither (nat_lt MOST_PARTS y.parts) (nat_lt MOST_PARTS y.elements) c.0 in
    record { part = b.0; element = b.1; sign = c.1; row = d.1 }

-- ---- frames

-- no sequence is open without an element, and no count in a count
abbrev pub Neat : Frames → Type 0
Neat (bottom σ) = Unit {0}
Neat (within h ts pre fs) = Neat fs
Neat (over (items none) fs) = ⊥
Neat (over g fs) = Neat fs
Neat (timing t m x (timing u k y fs)) = ⊥
Neat (timing t m x fs) = Neat fs

pub neat : (fs : Frames) → Stand fs → Neat fs
neat (bottom σ) s = tt
neat (within h ts pre fs) s = neat fs s.0
neat (over (left t m x) fs) s = neat fs s.0
neat (over (ahead m x) fs) s = neat fs s.0
neat (over (items none) fs) s = absurd (omega (arith, s.1.2))
neat (over (items (more ts pre t)) fs) s = neat fs s.0
neat (timing t m x (bottom σ)) s = tt
neat (timing t m x (within h ts pre fs)) s = neat (within h ts pre fs) s.0
neat (timing t m x (over g fs)) s = neat (over g fs) s.0
neat (timing t m x (timing u k y fs)) s = let no : false ≡ true = s.2 in absurd (cc)

abbrev pub NoCount : Frames → Type 0
NoCount (timing t m x fs) = ⊥
NoCount fs = Unit {0}

pub settled : (n : ℕ) (t : Tree) (fs : Frames) → Neat fs → part_tallies n (settle t fs) ≡ held_tally n (signs t) (posts (sort fs) t) fs ∷ tallies_round n fs
settled n t (bottom σ) s = refl
settled n t (within h ts pre fs) s = refl
settled n t (over g fs) s = refl
settled n t (timing u m x (bottom σ)) s = refl
settled n t (timing u m x (within h ts pre fs)) s = refl
settled n t (timing u m x (over g fs)) s = refl
settled n t (timing u m x (timing v k y fs)) s = absurd s

pub held : (n s r : ℕ) (fs : Frames) → NoCount fs → held_tally n s r fs ≡ tally (parts_in fs + 1) (elements_with fs) (s + signs_in n fs) r false
held n s r (bottom σ) c = refl
held n s r (within h ts pre fs) c = refl
held n s r (over g fs) c = refl
held n s r (timing t m x fs) c = absurd c

pub due_signs : (n : ℕ) (fs : Frames) → (due_tally n fs).signs ≡ signs_in n fs
due_signs n (bottom σ) = refl
due_signs n (within h ts pre fs) = refl
due_signs n (over g fs) = refl
due_signs n (timing t m x fs) = refl

pub one_element : (fs : Frames) → NoCount fs → IsNoSequence fs → elements_with fs ≡ 1
one_element (bottom σ) c s = refl
one_element (within h ts pre fs) c s = refl
one_element (over (left t m x) fs) c s = refl
one_element (over (ahead m x) fs) c s = refl
one_element (over (items ts) fs) c s = absurd s
one_element (timing t m x fs) c s = absurd c

pub part_signs : (n : ℕ) (h : Heading) (ts : Trees) (pre q : List Terminal) (t : Tree) (fs : Frames) → signs_in n (within h (more ts pre t) q fs) ≡ signs t + signs_in n (within h ts pre fs)
part_signs n (plain k o) ts pre q t fs = omega arith
part_signs n (length o) ts pre q t fs = omega arith
part_signs n (arguments f o) ts pre q t fs = omega arith
part_signs n (index u o) ts pre q t fs = omega arith
part_signs n (segment p o) ts pre q t fs = omega arith
part_signs n (update p m x) ts pre q t fs = omega arith
part_signs n (below o i m x) ts pre q t fs = omega arith

pub round_parts : (n : ℕ) (h : Heading) (ts us : Trees) (pre q : List Terminal) (fs : Frames) → tallies_round n (within h ts pre fs) ≡ tallies_round n (within h us q fs)
round_parts n (plain k o) ts us pre q fs = refl
round_parts n (length o) ts us pre q fs = refl
round_parts n (arguments f o) ts us pre q fs = refl
round_parts n (index u o) ts us pre q fs = refl
round_parts n (segment p o) ts us pre q fs = refl
round_parts n (update p m x) ts us pre q fs = refl
round_parts n (below o i m x) ts us pre q fs = refl

pub same_signs : (n : ℕ) (h : Heading) (ts : Trees) (p q : List Terminal) (fs : Frames) → signs_in n (within h ts p fs) ≡ signs_in n (within h ts q fs)
same_signs n (plain k o) ts p q fs = refl
same_signs n (length o) ts p q fs = refl
same_signs n (arguments f o) ts p q fs = refl
same_signs n (index u o) ts p q fs = refl
same_signs n (segment g o) ts p q fs = refl
same_signs n (update g m x) ts p q fs = refl
same_signs n (below o i m x) ts p q fs = refl

pub last_label : (pre : List Terminal) (l : Terminal) → ends_with_label (pre ++ l ∷ []) ≡ is_label l
last_label [] l = refl
last_label (k ∷ []) l = refl
last_label (k ∷ j ∷ pre) l = last_label (j ∷ pre) l

-- ---- the context of what is read next

pub opens_with : (h : Heading) → opened_by h ≡ heading_brackets h + heading_bars h
opens_with (plain k o) = refl
opens_with (length o) = refl
opens_with (arguments f o) = refl
opens_with (index t o) = refl
opens_with (segment p o) = refl
opens_with (update p m x) = refl
opens_with (below o i m x) = refl

module _ (c : Context) where
  pub depth_is : (fs : Frames) → (context_in c fs).depth ≡ (c.depth + frame_brackets fs) + frame_bars fs
  depth_is (bottom σ) = omega arith
  depth_is (within h ts pre fs) = omega (arith, depth_is fs, opens_with h)
  depth_is (over (left t m x) fs) = depth_is fs
  depth_is (over (ahead m x) fs) = depth_is fs
  depth_is (over (items none) fs) = depth_is fs
  depth_is (over (items (more ts pre t)) fs) = depth_is fs
  depth_is (timing t m x fs) = depth_is fs

  pub before_is : (fs : Frames) → (context_in c fs).before ≡ signs_in c.before fs
  before_is (bottom σ) = refl
  before_is (within (plain k o) ts pre fs) = omega arith
  before_is (within (length o) ts pre fs) = omega (arith, before_is fs)
  before_is (within (arguments f o) ts pre fs) = omega arith
  before_is (within (index t o) ts pre fs) = omega arith
  before_is (within (segment p o) ts pre fs) = omega arith
  before_is (within (update p m x) ts pre fs) = omega arith
  before_is (within (below o i m x) ts pre fs) = omega arith
  before_is (over (left t m x) fs) = omega (arith, before_is fs)
  before_is (over (ahead m x) fs) = omega (arith, before_is fs)
  before_is (over (items none) fs) = omega (arith, before_is fs)
  before_is (over (items (more ts pre t)) fs) = omega (arith, before_is fs)
  before_is (timing t m x fs) = omega (arith, before_is fs)

  pub row_is : (fs : Frames) → Neat fs → (context_in c fs).row ≡ aheads fs
  row_is (bottom σ) s = refl
  row_is (within h ts pre fs) s = refl
  row_is (over (left t m x) fs) s = refl
  row_is (over (ahead m x) fs) s = ap (λ r. if is_turnstile m then 0 else r + 1) (row_is fs s)
  row_is (over (items none) fs) s = absurd s
  row_is (over (items (more ts pre t)) fs) s = refl
  row_is (timing t m x fs) s = refl

  pub sort_is : (fs : Frames) → (context_in c fs).sort ≡ sort fs
  sort_is (bottom σ) = refl
  sort_is (within h ts pre fs) = ap (λ σ. sort_in σ h) (sort_is fs)
  sort_is (over (left t m x) fs) = sort_is fs
  sort_is (over (ahead m x) fs) = sort_is fs
  sort_is (over (items none) fs) = sort_is fs
  sort_is (over (items (more ts pre t)) fs) = sort_is fs
  sort_is (timing t m x fs) = refl

  -- what begins with a part where nothing of it is read yet
  abbrev pub outer : Frames → List Number
  outer (bottom σ) = c.begins
  outer fs = []

  pub begins_pass : (fs : Frames) → Neat fs → tally_passes (due_tally c.before fs) ≡ false
      → list_any too_many (context_in c fs).begins ≡ (list_any too_many (outer fs) || tally_passes (held_tally c.before 0 0 fs))
  begins_pass (bottom σ) s e =
      let l = low (due_tally c.before (bottom σ)) e in
      let zero : nat_lt MOST_SIGNS (0 + c.before) ≡ false = ap (nat_lt MOST_SIGNS) (omega arith) ∙ l.sign in
      sym (beside (list_any too_many c.begins) (tally_passes (held_tally c.before 0 0 (bottom σ))) (no_test _ _ _ _ one_part one_part zero no_signs))
  begins_pass (within h ts pre fs) s e = go (ends_with_label pre) e
    where
      n : ℕ
      n = signs_in c.before (within h ts pre fs)

      go : (b : Bool) → tally_passes (tally (with_one b (size ts)) 0 n 0 (not b)) ≡ false
          → list_any too_many (if b then [] else number.part (size ts + 1) ∷ []) ≡ tally_passes (tally (size ts + 1) 1 (0 + n) 0 false)
      go true f =
          let l = low (tally (size ts + 1) 0 n 0 false) f in
          let zero : nat_lt MOST_SIGNS (0 + n) ≡ false = ap (nat_lt MOST_SIGNS) (omega arith) ∙ l.sign in
          sym (no_test _ _ _ _ l.part one_part zero no_signs)
      go false f =
          let l = low (tally (size ts) 0 n 0 true) f in
          let zero : nat_lt MOST_SIGNS (0 + n) ≡ false = ap (nat_lt MOST_SIGNS) (omega arith) ∙ l.sign in
          or_false (nat_lt MOST_PARTS (size ts + 1)) ∙ sym (first_test (nat_lt MOST_PARTS (size ts + 1)) _ _ _ one_part zero no_signs)
  begins_pass (over (left t m x) fs) s e =
      let l = low (due_tally c.before (over (left t m x) fs)) e in
      let zero : nat_lt MOST_SIGNS (0 + signs_in c.before (over (left t m x) fs)) ≡ false = ap (nat_lt MOST_SIGNS) (omega arith) ∙ l.sign in
      sym (no_test _ _ _ _ l.part one_part zero no_signs)
  begins_pass (over (ahead m x) fs) s e =
      let l = low (due_tally c.before (over (ahead m x) fs)) e in
      let zero : nat_lt MOST_SIGNS (0 + signs_in c.before (over (ahead m x) fs)) ≡ false = ap (nat_lt MOST_SIGNS) (omega arith) ∙ l.sign in
      sym (no_test _ _ _ _ l.part one_part zero no_signs)
  begins_pass (over (items none) fs) s e = absurd s
  begins_pass (over (items (more ts pre t)) fs) s e =
      let l = low (due_tally c.before (over (items (more ts pre t)) fs)) e in
      let zero : nat_lt MOST_SIGNS (0 + signs_in c.before (over (items (more ts pre t)) fs)) ≡ false = ap (nat_lt MOST_SIGNS) (omega arith) ∙ l.sign in
      or_false (nat_lt MOST_PARTS (size (more ts pre t) + 1)) ∙ sym (second_test _ (nat_lt MOST_PARTS (size (more ts pre t) + 1)) _ _ l.part zero no_signs)
  begins_pass (timing t m x fs) s e = sym e

  module _ (shallow : list_any too_deep c.begins ≡ false) where
    pub begins_shallow : (fs : Frames) → list_any too_deep (context_in c fs).begins ≡ false
    begins_shallow (bottom σ) = shallow
    begins_shallow (within h ts pre fs) = go (ends_with_label pre)
      where
        go : (b : Bool) → list_any too_deep (if b then [] else number.part (size ts + 1) ∷ []) ≡ false
        go true = refl
        go false = refl
    begins_shallow (over (left t m x) fs) = refl
    begins_shallow (over (ahead m x) fs) = refl
    begins_shallow (over (items none) fs) = begins_shallow fs
    begins_shallow (over (items (more ts pre t)) fs) = refl
    begins_shallow (timing t m x fs) = refl

    -- a bracket or length that opens where an operand is due
    pub opens_there : (fs : Frames) (v : ℕ) → v ≡ (context_in c fs).depth + 1 → nat_lt HIGHEST_TREE v ≡ list_any too_deep (open_entry (context_in c fs).begins ((context_in c fs).depth + 1))
    opens_there fs v e =
        ap (nat_lt HIGHEST_TREE) e
        ∙ sym (or_false (nat_lt HIGHEST_TREE ((context_in c fs).depth + 1)))
        ∙ sym (list_any-append too_deep (context_in c fs).begins (number.opened ((context_in c fs).depth + 1) ∷ []) ∙ ap (λ v. v || (nat_lt HIGHEST_TREE ((context_in c fs).depth + 1) || false)) (begins_shallow fs))
