-- How a parse by `clap` walks over options.
use Rattle.std.proofs.Common.{◌≡◌, ◌∙◌, refl, ap, Bool, true, false, List, [], ◌∷◌, ◌++◌, Option, Some, None, codes}
use Rattle.std.specs.Prelude.{is_some}
use Rattle.std.specs.Str.{bytes_eq}
use Rattle.clap.specs.Walk.{Held, Row, Text, Waiting, idle, option, arg_by_long, has_row, pushed, reacted, settled, walked, without}
use Rattle.clap.specs.Faults.{repeat_fault, settle_fault}
use Rattle.clap.specs.Kinds.{or_else}
use Rattle.clap.specs.Lexer.{long_of}
use Rattle.st_words.specs.declared.arrangement.Arrangement.{Arrangement}
use Rattle.st_words.specs.Arranged.{is_dashed, is_end}
use Rattle.st_words.proofs.RowsLemmas.{look, row_if, one_more, look-same, look-other, without-none, has_row-look}
use Rattle.st_words.proofs.DashedLemmas.{plain_is}
use Rattle.st_words.proofs.LeafLemmas.{option_built, rules, found_now, at, Good, or_else-parts, met-none, turn}

-- an option that waits for its value
abbrev pub waiting_held : Text → Held → Held
waiting_held id h = record (settled (rules true) h) { pending = Some (id, []) }

module _ (name : Text) where
  pub fuel_joined-walked : (h : Held) (waiting : Waiting) (value : Text)
      → walked (rules true) [] (at h waiting false) (codes "--fuel=" ++ value) ≡ at (reacted (rules true) (option_built (codes "fuel")) (value ∷ []) h) idle false
  unfolding walked
  fuel_joined-walked h waiting value = rw (met-none waiting (codes "--fuel=" ++ value)) refl

  pub fuel_joined-turn : (h : Held) (waiting : Waiting) (value : Text)
      → turn name true (at h waiting false) (codes "--fuel=" ++ value) ≡ or_else (or_else (settle_fault (rules true) false h) (or_else (repeat_fault false (codes "fuel") (found_now true h)) [])) []
  fuel_joined-turn h waiting value = rw (met-none waiting (codes "--fuel=" ++ value)) refl

  pub depth_joined-walked : (h : Held) (waiting : Waiting) (value : Text)
      → walked (rules true) [] (at h waiting false) (codes "--depth=" ++ value) ≡ at (reacted (rules true) (option_built (codes "depth")) (value ∷ []) h) idle false
  unfolding walked
  depth_joined-walked h waiting value = rw (met-none waiting (codes "--depth=" ++ value)) refl

  pub depth_joined-turn : (h : Held) (waiting : Waiting) (value : Text)
      → turn name true (at h waiting false) (codes "--depth=" ++ value) ≡ or_else (or_else (settle_fault (rules true) false h) (or_else (repeat_fault false (codes "depth") (found_now true h)) [])) []
  depth_joined-turn h waiting value = rw (met-none waiting (codes "--depth=" ++ value)) refl

  pub fuel-walked : (h : Held) (waiting : Waiting) → walked (rules true) [] (at h waiting false) (codes "--fuel") ≡ at (waiting_held (codes "fuel") h) (option (codes "fuel")) false
  unfolding walked
  fuel-walked h waiting = rw (met-none waiting (codes "--fuel")) refl

  pub fuel-turn : (h : Held) (waiting : Waiting) → turn name true (at h waiting false) (codes "--fuel") ≡ or_else (settle_fault (rules true) false h) []
  fuel-turn h waiting = rw (met-none waiting (codes "--fuel")) refl

  pub depth-walked : (h : Held) (waiting : Waiting) → walked (rules true) [] (at h waiting false) (codes "--depth") ≡ at (waiting_held (codes "depth") h) (option (codes "depth")) false
  unfolding walked
  depth-walked h waiting = rw (met-none waiting (codes "--depth")) refl

  pub depth-turn : (h : Held) (waiting : Waiting) → turn name true (at h waiting false) (codes "--depth") ≡ or_else (settle_fault (rules true) false h) []
  depth-turn h waiting = rw (met-none waiting (codes "--depth")) refl

  -- the value of an option that waits
  pub fuel_value-walked : (h : Held) (value : Text) → is_dashed value ≡ false
      → walked (rules true) [] (at (waiting_held (codes "fuel") h) (option (codes "fuel")) false) value ≡ at (pushed (codes "fuel") value (waiting_held (codes "fuel") h)) idle false
  unfolding walked
  fuel_value-walked h value none =
      let (no_end, no_long, no_short) = plain_is value none in
      rw (no_end, no_long, no_short) refl

  pub fuel_value-turn : (h : Held) (value : Text) → is_dashed value ≡ false → turn name true (at (waiting_held (codes "fuel") h) (option (codes "fuel")) false) value ≡ []
  fuel_value-turn h value none =
      let (no_end, no_long, no_short) = plain_is value none in
      rw (no_end, no_long, no_short) refl

  pub depth_value-walked : (h : Held) (value : Text) → is_dashed value ≡ false
      → walked (rules true) [] (at (waiting_held (codes "depth") h) (option (codes "depth")) false) value ≡ at (pushed (codes "depth") value (waiting_held (codes "depth") h)) idle false
  unfolding walked
  depth_value-walked h value none =
      let (no_end, no_long, no_short) = plain_is value none in
      rw (no_end, no_long, no_short) refl

  pub depth_value-turn : (h : Held) (value : Text) → is_dashed value ≡ false → turn name true (at (waiting_held (codes "depth") h) (option (codes "depth")) false) value ≡ []
  depth_value-turn h value none =
      let (no_end, no_long, no_short) = plain_is value none in
      rw (no_end, no_long, no_short) refl

  -- an option behind something that is wrong
  pub fuel-settles : (h : Held) (waiting : Waiting) (word : Text) (value : Option Text) → is_end word ≡ false → long_of word ≡ Some (codes "fuel", value)
      → turn name true (at h waiting false) word ≡ [] → settle_fault (rules true) false h ≡ []
  fuel-settles h waiting word None no_end is quiet = (or_else-parts _ _ (rw (met-none waiting word, no_end, is) at quiet)).0
  fuel-settles h waiting word (Some value) no_end is quiet = (or_else-parts _ _ (or_else-parts _ _ (rw (met-none waiting word, no_end, is) at quiet)).0).0

  pub depth-settles : (h : Held) (waiting : Waiting) (word : Text) (value : Option Text) → is_end word ≡ false → long_of word ≡ Some (codes "depth", value)
      → turn name true (at h waiting false) word ≡ [] → settle_fault (rules true) false h ≡ []
  depth-settles h waiting word None no_end is quiet = (or_else-parts _ _ (rw (met-none waiting word, no_end, is) at quiet)).0
  depth-settles h waiting word (Some value) no_end is quiet = (or_else-parts _ _ (or_else-parts _ _ (rw (met-none waiting word, no_end, is) at quiet)).0).0

-- an option that is given for the first time, and one that is given again
pub repeat-none : (id : Text) (rows : List Row) → look id rows ≡ None → repeat_fault false id rows ≡ []
repeat-none id rows is =
    let none : has_row id rows ≡ false = has_row-look id rows ∙ ap is_some is in
    rw none refl

pub repeat-some : (id value : Text) (values : List Text) (rows : List Row) → look id rows ≡ row_if id (value ∷ values) → repeat_fault false id rows ≡ [] → ⊥
repeat-some id value values rows is quiet =
    let there : has_row id rows ≡ true = has_row-look id rows ∙ ap is_some is in
    absurd (cc (rw there at quiet))

-- which option a name names
pub known : (id : Text) → (bytes_eq (codes "fuel") id ≡ false) → (bytes_eq (codes "depth") id ≡ false) → arg_by_long (rules true) id ≡ None
known id no_fuel no_depth = rw (no_fuel, no_depth) refl

-- what is given after one more word
pub good-plain : (options : Bool) (h : Held) (word : Text) (given : Arrangement) → Good options h given
    → Good options (pushed (codes "words") word (settled (rules options) h)) (record given { plain = given.plain ++ word ∷ [] })
good-plain options h word given good = record {
  quiet = refl;
  skip = good.skip;
  plain = look-same (codes "words") word given.plain (found_now options h) refl good.plain;
  fuels = look-other (codes "words") (codes "fuel") word (found_now options h) refl ∙ good.fuels;
  depths = look-other (codes "words") (codes "depth") word (found_now options h) refl ∙ good.depths;
}

pub good-fuel : (h after : Held) (value : Text) (given : Arrangement) → Good true h given → given.fuels ≡ []
    → found_now true after ≡ one_more (codes "fuel") value (without (codes "fuel") (found_now true h))
    → settle_fault (rules true) false after ≡ [] → after.skip ≡ h.skip
    → Good true after (record given { fuels = given.fuels ++ value ∷ [] })
good-fuel h after value given good none found quiet skip =
    let kept = without-none (codes "fuel") (found_now true h) (good.fuels ∙ ap (row_if (codes "fuel")) none) in
    let now : found_now true after ≡ one_more (codes "fuel") value (found_now true h) = found ∙ ap (one_more (codes "fuel") value) kept in
    record {
      quiet = quiet;
      skip = skip ∙ good.skip;
      plain = ap (look (codes "words")) now ∙ look-other (codes "fuel") (codes "words") value (found_now true h) refl ∙ good.plain;
      fuels = ap (look (codes "fuel")) now ∙ look-same (codes "fuel") value given.fuels (found_now true h) refl good.fuels;
      depths = ap (look (codes "depth")) now ∙ look-other (codes "fuel") (codes "depth") value (found_now true h) refl ∙ good.depths;
    }

pub good-depth : (h after : Held) (value : Text) (given : Arrangement) → Good true h given → given.depths ≡ []
    → found_now true after ≡ one_more (codes "depth") value (without (codes "depth") (found_now true h))
    → settle_fault (rules true) false after ≡ [] → after.skip ≡ h.skip
    → Good true after (record given { depths = given.depths ++ value ∷ [] })
good-depth h after value given good none found quiet skip =
    let kept = without-none (codes "depth") (found_now true h) (good.depths ∙ ap (row_if (codes "depth")) none) in
    let now : found_now true after ≡ one_more (codes "depth") value (found_now true h) = found ∙ ap (one_more (codes "depth") value) kept in
    record {
      quiet = quiet;
      skip = skip ∙ good.skip;
      plain = ap (look (codes "words")) now ∙ look-other (codes "depth") (codes "words") value (found_now true h) refl ∙ good.plain;
      fuels = ap (look (codes "fuel")) now ∙ look-other (codes "depth") (codes "fuel") value (found_now true h) refl ∙ good.fuels;
      depths = ap (look (codes "depth")) now ∙ look-same (codes "depth") value given.depths (found_now true h) refl good.depths;
    }
