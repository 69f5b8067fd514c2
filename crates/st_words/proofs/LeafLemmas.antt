-- How a parse by `clap` walks over the words behind the name of a command.
use Rattle.std.proofs.Common.{◌≡◌, ◌∙◌, refl, ap, subst, Bool, true, false, cond, ◌&&◌, ℕ, List, [], ◌∷◌, Option, Some, None, codes}
use Rattle.std.specs.Prelude.{fold, if◌then◌else◌}
use Rattle.std.specs.Str.{IsUtf8}
use Rattle.clap.specs.Walk.{Held, Row, Rule, Text, Waiting, Walk, idle, option, positional, arg_by_long, pushed, settled, settled_rows, subcommand_met, walked}
use Rattle.clap.specs.Simple.{Shape, filled, new_shape, with_index}
use Rattle.clap.specs.Faults.{flags_fault, settle_fault, turn_fault, walk_fault}
use Rattle.clap.specs.Kinds.{Kinds, or_else}
use Rattle.clap.specs.Lexer.{long_of, short_of}
use Rattle.st_words.specs.declared.arrangement.Arrangement.{Arrangement}
use Rattle.st_words.specs.Arranged.{is_dashed, is_end}
use Rattle.st_words.specs.inner.Program.{plain_rule, option_rule}
use Rattle.st_words.proofs.RowsLemmas.{look, row_if}
use Rattle.st_words.proofs.DashedLemmas.{plain_is, has_char}

-- the arguments of a command, as building leaves them
abbrev pub plain_built : Rule
plain_built = with_index 1 (filled plain_rule)

abbrev pub option_built : Text → Rule
option_built id = filled (option_rule id)

abbrev pub rules : Bool → List Rule
rules options = plain_built ∷ (if options then option_built (codes "fuel") ∷ option_built (codes "depth") ∷ [] else [])

-- a command as building leaves it
abbrev pub leaf : Text → Bool → Shape
leaf name options = record (new_shape name) {
  rules = rules options;
  no_binary_name = true;
  disable_help_flag = true;
  disable_help_subcommand = true;
  disable_version_flag = true;
  is_built = true;
}

-- what was found, when what is pending is counted in
abbrev pub found_now : Bool → Held → List Row
found_now options h = settled_rows (rules options) h.pending h.rows

-- where a walk stands between two words
abbrev pub at : Held → Waiting → Bool → Walk
at h waiting trailing = record { held = h; waiting = waiting; position = 1; is_trailing = trailing; stopped = None }

-- no option waits for its value
abbrev pub is_free : Waiting → Bool
is_free idle = true
is_free (option id) = false
is_free positional = true

-- what was found is what is given so far
pub record Good (options : Bool) (h : Held) (given : Arrangement) : Type 0 where
  pub quiet : settle_fault (rules options) false h ≡ []
  pub skip : h.skip ≡ 0
  pub plain : look (codes "words") (found_now options h) ≡ row_if (codes "words") given.plain
  pub fuels : look (codes "fuel") (found_now options h) ≡ row_if (codes "fuel") given.fuels
  pub depths : look (codes "depth") (found_now options h) ≡ row_if (codes "depth") given.depths

pub or_else-parts : (a b : Kinds) → or_else a b ≡ [] → (a ≡ []) × (b ≡ [])
or_else-parts [] b is = (refl, is)
or_else-parts (k ∷ ks) b is = absurd (cc is)

pub or_else-first : (a b : Kinds) → (a ≡ [] → ⊥) → or_else a b ≡ [] → ⊥
or_else-first a b fault is = fault (or_else-parts a b is).0

pub or_else-nil : (a : Kinds) → or_else a [] ≡ a
or_else-nil [] = refl
or_else-nil (k ∷ ks) = refl

never : {X : Type 0} (b : Bool) (x y : X) → cond (b && false) x y ≡ y
never true x y = refl
never false x y = refl

pub met-none : (waiting : Waiting) (word : Text) → subcommand_met [] waiting word ≡ None
met-none idle word = refl
met-none (option id) word = refl
met-none positional word = refl

module _ (name : Text) where
  -- all that is wrong from here on
  abbrev pub total : Bool → Walk → List Text → Kinds
  total options w words = or_else (walk_fault (leaf name options) [] w words) (settle_fault (rules options) false (fold (walked (rules options) []) w words).held)

  abbrev pub turn : Bool → Walk → Text → Kinds
  turn options w word = turn_fault (leaf name options) [] w word

  pub total-step : (options : Bool) (w after : Walk) (word : Text) (words : List Text) → walked (rules options) [] w word ≡ after → turn options w word ≡ []
      → total options w (word ∷ words) ≡ total options after words
  unfolding walk_fault
  total-step options w after word words is quiet =
      ap (λ k. or_else (or_else k (walk_fault (leaf name options) [] (walked (rules options) [] w word) words)) (settle_fault (rules options) false (fold (walked (rules options) []) (walked (rules options) [] w word) words).held)) quiet
      ∙ ap (λ v. total options v words) is

  pub total-nil : (options : Bool) (w : Walk) → total options w [] ≡ settle_fault (rules options) false w.held
  unfolding walk_fault
  total-nil options w = refl

  pub total-fault : (options : Bool) (w : Walk) (word : Text) (words : List Text) → (turn options w word ≡ [] → ⊥) → total options w (word ∷ words) ≡ [] → ⊥
  unfolding walk_fault
  total-fault options w word words fault is = fault (or_else-parts _ _ (or_else-parts _ _ is).0).0

  -- a plain word
  pub plain-walked : (options : Bool) (h : Held) (waiting : Waiting) (word : Text) → is_free waiting ≡ true → is_dashed word ≡ false
      → walked (rules options) [] (at h waiting false) word ≡ at (pushed (codes "words") word (settled (rules options) h)) positional false
  unfolding walked
  plain-walked options h idle word free none =
      let (no_end, no_long, no_short) = plain_is word none in
      rw (no_end, no_long, no_short) (ap (λ held. at (pushed (codes "words") word held) positional false) (never _ h (settled (rules options) h)))
  plain-walked options h (option id) word free none = absurd (cc free)
  plain-walked options h positional word free none =
      let (no_end, no_long, no_short) = plain_is word none in
      rw (no_end, no_long, no_short) (ap (λ held. at (pushed (codes "words") word held) positional false) (never _ h (settled (rules options) h)))

  pub plain-turn : (options : Bool) (h : Held) (waiting : Waiting) (word : Text) → is_free waiting ≡ true → is_dashed word ≡ false
      → turn options (at h waiting false) word ≡ settle_fault (rules options) false h
  plain-turn options h idle word free none =
      let (no_end, no_long, no_short) = plain_is word none in
      rw (no_end, no_long, no_short) (never _ [] (settle_fault (rules options) false h))
  plain-turn options h (option id) word free none = absurd (cc free)
  plain-turn options h positional word free none =
      let (no_end, no_long, no_short) = plain_is word none in
      rw (no_end, no_long, no_short) (never _ [] (settle_fault (rules options) false h))

  -- a word behind `--`
  pub behind-walked : (options : Bool) (h : Held) (waiting : Waiting) (word : Text)
      → walked (rules options) [] (at h waiting true) word ≡ at (pushed (codes "words") word (settled (rules options) h)) positional true
  unfolding walked
  behind-walked options h waiting word = ap (λ held. at (pushed (codes "words") word held) positional true) (never _ h (settled (rules options) h))

  pub behind-turn : (options : Bool) (h : Held) (waiting : Waiting) (word : Text)
      → turn options (at h waiting true) word ≡ settle_fault (rules options) false h
  behind-turn options h waiting word = never _ [] (settle_fault (rules options) false h)

  -- `--`
  pub end-walked : (options : Bool) (h : Held) (waiting : Waiting) → walked (rules options) [] (at h waiting false) (codes "--") ≡ at h waiting true
  unfolding walked
  end-walked options h waiting = rw (met-none waiting (codes "--")) refl

  pub end-turn : (options : Bool) (h : Held) (waiting : Waiting) → turn options (at h waiting false) (codes "--") ≡ []
  end-turn options h waiting = rw (met-none waiting (codes "--")) refl

  -- a long option that the command lacks
  pub long-unknown : (options : Bool) (h : Held) (waiting : Waiting) (word id : Text) (value : Option Text) → is_end word ≡ false → long_of word ≡ Some (id, value)
      → arg_by_long (rules options) id ≡ None → turn options (at h waiting false) word ≡ [] → ⊥
  long-unknown options h waiting word id value no_end is none quiet =
      absurd (cc (rw (met-none waiting word, no_end, is, none) at quiet))

  -- a short option
  pub short-unknown : (options : Bool) (h : Held) (waiting : Waiting) (word : Text) (x : ℕ) (xs : Text) → h.skip ≡ 0 → IsUtf8 word → word ≡ 45 ∷ x ∷ xs
      → is_end word ≡ false → long_of word ≡ None → short_of word ≡ Some (x ∷ xs) → turn options (at h waiting false) word ≡ [] → ⊥
  unfolding flags_fault
  short-unknown true h waiting word x xs skip utf8 word_is no_end no_long is quiet =
      let first = has_char x xs (subst IsUtf8 word_is utf8) in
      absurd (cc (rw (met-none waiting word, no_end, no_long, is, skip, first.1) at quiet))
  short-unknown false h waiting word x xs skip utf8 word_is no_end no_long is quiet =
      let first = has_char x xs (subst IsUtf8 word_is utf8) in
      absurd (cc (rw (met-none waiting word, no_end, no_long, is, skip, first.1) at quiet))
