-- What is wrong with the words of a command, level by level.
use Rattle.std.proofs.Common.{◌≡◌, ◌∙◌, refl, sym, ap, subst, Bool, true, false, cond, ◌||◌, List, [], ◌∷◌, ◌++◌, map, Option, Some, None, codes, append_assoc, inl, inr}
use Rattle.std.specs.Prelude.{fold, find, is_some, option_map, ◌⊎◌}
use Rattle.std.specs.List.{AllByRecursion as All}
use Rattle.std.specs.Str.{bytes_eq, IsUtf8}
use Rattle.std.specs.Cmp.Lexicographic.{bytes_decides}
use Rattle.std.proofs.lemmas.List.{append-nil}
use Rattle.clap.specs.Walk.{Names, Row, Rule, Text, Walk, idle, answers_to, finished, has_row, nothing_held, settled, subcommand_met, walk, walk_from, walked, with_default}
use Rattle.clap.specs.Simple.{Shape, built, entered, label_of, names_of, rows_at, subcommand_of}
use Rattle.clap.specs.Faults.{check_fault, default_fault, defaults_fault, entered_fault, fault_of, flags_fault, given_default_fault, level_fault, settle_fault, turn_fault, walk_fault}
use Rattle.clap.specs.Kinds.{Kinds, or_else}
use Rattle.st_words.specs.declared.arrangement.Arrangement.{Arrangement}
use Rattle.st_words.specs.declared.name.CommandName.{CommandName}
use Rattle.st_words.specs.declared.name.CommandName.TheVariants.{Check}
use Rattle.st_words.specs.Names.{name_spelling}
use Rattle.st_words.specs.Arranged.{is_dashed, plain_words}
use Rattle.st_words.specs.inner.Fronts.{arranged, dash_value_from, prepended}
use Rattle.st_words.specs.inner.Program.{all_names, program_app, takes_options}
use Rattle.st_words.proofs.DashedLemmas.{Dashed, double, long, short, dashed_is, plain_is, has_char}
use Rattle.st_words.proofs.RowsLemmas.{look, row_if, row_with}
use Rattle.st_words.proofs.LeafLemmas.{rules, leaf, plain_built, option_built, found_now, at, Good, or_else-parts, or_else-nil, total}
use Rattle.st_words.proofs.SimLemmas.{allowed, Tells, end_of, sim}

-- ---- one command

kept : (rows : List Row) (a : Rule) → a.defaults ≡ [] → with_default rows a ≡ rows
kept rows a is = rw is (by (has_row a.id rows))
  where
    by : (b : Bool) → cond b rows rows ≡ rows
    by true = refl
    by false = refl

pub fold-kept : (options : Bool) (rows : List Row) → fold with_default rows (rules options) ≡ rows
fold-kept true rows =
    ap (λ rs. with_default (with_default rs (option_built (codes "fuel"))) (option_built (codes "depth"))) (kept rows plain_built refl)
    ∙ ap (λ rs. with_default rs (option_built (codes "depth"))) (kept rows (option_built (codes "fuel")) refl) ∙ kept rows (option_built (codes "depth")) refl
fold-kept false rows = kept rows plain_built refl

default-none : (rows : List Row) (a : Rule) → a.defaults ≡ [] → default_fault rows a ≡ []
default-none rows a is = rw is (by (has_row a.id rows) (given_default_fault a []))
  where
    by : (b : Bool) (k : Kinds) → cond (b || true) [] k ≡ []
    by true k = refl
    by false k = refl

one-default : (rows : List Row) (a : Rule) (rest : List Rule) → a.defaults ≡ [] → defaults_fault rows (a ∷ rest) ≡ defaults_fault rows rest
unfolding defaults_fault
one-default rows a rest is =
    ap (λ k. or_else k (defaults_fault (with_default rows a) rest)) (default-none rows a is) ∙ ap (λ rs. defaults_fault rs rest) (kept rows a is)

no-default : (rows : List Row) → defaults_fault rows [] ≡ []
unfolding defaults_fault
no-default rows = refl

defaults-none : (options : Bool) (rows : List Row) → defaults_fault rows (rules options) ≡ []
defaults-none true rows = one-default rows _ _ refl ∙ one-default rows _ _ refl ∙ one-default rows _ _ refl ∙ no-default rows
defaults-none false rows = one-default rows _ _ refl ∙ no-default rows

check-none : (name : Text) (options : Bool) (rows : List Row) (value : Text) (values : List Text) → look (codes "words") rows ≡ Some (row_with (codes "words") (value ∷ values))
    → check_fault (leaf name options) rows false ≡ []
check-none name true rows value values is = rw is refl
check-none name false rows value values is = rw is refl

-- what is wrong at the level of a command
abbrev pub leaf_fault : Text → Bool → List Text → Kinds
leaf_fault name options words = level_fault (leaf name options) [] nothing_held words false []

pub leaf-quiet : (name : Text) (options : Bool) (words : List Text) → leaf_fault name options words ≡ [] → total name options (at nothing_held idle false) words ≡ []
leaf-quiet name options words is =
    let first = or_else-parts _ _ is in
    let second = or_else-parts _ _ first.1 in
    ap (λ k. or_else k (settle_fault (rules options) false (end_of name options (at nothing_held idle false) words))) first.0 ∙ second.0

pub leaf-passes : (name : Text) (options : Bool) (words : List Text) (given : Arrangement) (value : Text) (values : List Text) → given.plain ≡ value ∷ values
    → total name options (at nothing_held idle false) words ≡ [] → Good options (end_of name options (at nothing_held idle false) words) given
    → leaf_fault name options words ≡ []
leaf-passes name options words given value values some is good =
    let end = end_of name options (at nothing_held idle false) words in
    let first = or_else-parts _ _ is in
    let there : look (codes "words") (finished (rules options) end) ≡ Some (row_with (codes "words") (value ∷ values)) =
    ap (look (codes "words")) (fold-kept options (found_now options end)) ∙ good.plain ∙ ap (row_if (codes "words")) some in
    ap (λ k. or_else k (or_else (settle_fault (rules options) false end) (or_else (defaults_fault (settled (rules options) end).rows (rules options)) (check_fault (leaf name options) (finished (rules options) end) false)))) first.0
    ∙ ap (λ k. or_else k (or_else (defaults_fault (settled (rules options) end).rows (rules options)) (check_fault (leaf name options) (finished (rules options) end) false))) first.1
    ∙ ap (λ k. or_else k (check_fault (leaf name options) (finished (rules options) end) false)) (defaults-none options (settled (rules options) end).rows)
    ∙ check-none name options (finished (rules options) end) value values there

start : (options : Bool) → Good options nothing_held (plain_words [])
start true = record { quiet = refl; skip = refl; plain = refl; fuels = refl; depths = refl }
start false = record { quiet = refl; skip = refl; plain = refl; fuels = refl; depths = refl }

start-fine : (options : Bool) → allowed options (plain_words []) ≡ true
start-fine true = refl
start-fine false = refl

from_start : (found : Option Arrangement) → prepended (plain_words []) found ≡ found
from_start None = refl
from_start (Some given) = refl

pub leaf-tells : (name : Text) (options : Bool) (words : List Text) → All IsUtf8 words → dash_value_from false words ≡ false
    → Tells options (total name options (at nothing_held idle false) words) (end_of name options (at nothing_held idle false) words) (arranged words)
leaf-tells name options words utf8 no_dash =
    subst (Tells options (total name options (at nothing_held idle false) words) (end_of name options (at nothing_held idle false) words)) (from_start (arranged words))
    (sim name options words nothing_held idle (plain_words []) refl (start options) (start-fine options) utf8 no_dash)

-- ---- all commands

abbrev top : Shape
top = (built program_app).top

abbrev names : Names
names = names_of (built program_app)

find_leaf : (name : CommandName) → find (λ s. answers_to (name_spelling name) (label_of s)) (built program_app).subs ≡ Some (leaf (name_spelling name) (takes_options name))
find_leaf Check = refl
find_leaf _ = refl

met_name : (name : CommandName) → subcommand_met names idle (name_spelling name) ≡ Some (name_spelling name)
met_name Check = refl
met_name _ = refl

-- a walk that has met a command
abbrev stopped_at : Text → List Text → Walk
stopped_at name words = record (walk_from nothing_held) { stopped = Some (name, words) }

walked-name : (name : CommandName) → walked top.rules names (walk_from nothing_held) (name_spelling name) ≡ stopped_at (name_spelling name) []
unfolding walked
walked-name name = rw (met_name name) refl

turn-name : (name : CommandName) → turn_fault top names (walk_from nothing_held) (name_spelling name) ≡ []
turn-name Check = refl
turn-name _ = refl

stopped-on : (name : Text) (seen words : List Text) → fold (walked top.rules names) (stopped_at name seen) words ≡ stopped_at name (seen ++ words)
unfolding walked
stopped-on name seen [] = ap (stopped_at name) (sym (append-nil seen))
stopped-on name seen (word ∷ words) = stopped-on name (seen ++ word ∷ []) words ∙ ap (stopped_at name) (append_assoc seen (word ∷ []) words)

stopped-quiet : (name : Text) (seen words : List Text) → walk_fault top names (stopped_at name seen) words ≡ []
unfolding walked walk_fault
stopped-quiet name seen [] = refl
stopped-quiet name seen (word ∷ words) = stopped-quiet name (seen ++ word ∷ []) words

walk-name : (name : CommandName) (words : List Text) → walk top.rules names nothing_held (name_spelling name ∷ words) ≡ stopped_at (name_spelling name) words
walk-name name words = ap (λ w. fold (walked top.rules names) w words) (walked-name name) ∙ stopped-on (name_spelling name) [] words

walk-quiet : (name : CommandName) (words : List Text) → walk_fault top names (walk_from nothing_held) (name_spelling name ∷ words) ≡ []
unfolding walk_fault
walk-quiet name words =
    ap (λ k. or_else k (walk_fault top names (walked top.rules names (walk_from nothing_held) (name_spelling name)) words)) (turn-name name)
    ∙ ap (λ w. walk_fault top names w words) (walked-name name) ∙ stopped-quiet (name_spelling name) [] words

-- what is wrong, by where the walk over all commands ends
abbrev by_walk : List Text → Walk → Kinds
by_walk words w = or_else (walk_fault top names (walk_from nothing_held) words)
    (or_else (entered_fault (built program_app) w.stopped) (or_else (settle_fault top.rules top.args_override_self w.held)
    (or_else (defaults_fault (settled top.rules w.held).rows top.rules) (check_fault top (finished top.rules w.held) (is_some (entered (built program_app) w.stopped))))))

pub fault-name : (name : CommandName) (words : List Text) → fault_of program_app (name_spelling name ∷ words) ≡ leaf_fault (name_spelling name) (takes_options name) words
unfolding defaults_fault
fault-name name words =
    let all = name_spelling name ∷ words in
    let end : by_walk all (walk top.rules names nothing_held all) ≡ by_walk all (stopped_at (name_spelling name) words) = ap (by_walk all) (walk-name name words) in
    end ∙ rw (walk-quiet name words, find_leaf name) (or_else-nil (leaf_fault (name_spelling name) (takes_options name) words))

pub subcommand-name : (name : CommandName) (words : List Text) → subcommand_of program_app (name_spelling name ∷ words) ≡ Some (rows_at (leaf (name_spelling name) (takes_options name)) words)
subcommand-name name words =
    let end : entered (built program_app) (walk top.rules names nothing_held (name_spelling name ∷ words)).stopped ≡ entered (built program_app) (Some (name_spelling name, words)) =
    ap (λ (w : Walk). entered (built program_app) w.stopped) (walk-name name words) in
    end ∙ rw (find_leaf name) refl

-- a word that names no command
unmatched : (word : Text) (ns : List CommandName) → ((name : CommandName) → bytes_eq (name_spelling name) word ≡ false) → find (answers_to word) (map (λ name. (name_spelling name, [])) ns) ≡ None
unmatched word [] none = refl
unmatched word (name ∷ ns) none = rw (none name) (unmatched word ns none)

met-no_name : (word : Text) → ((name : CommandName) → ¬ (word ≡ name_spelling name)) → subcommand_met names idle word ≡ None
met-no_name word none = ap (option_map (λ (s : Text × List Text). s.0)) (unmatched word all_names (λ name. by name (bytes_eq (name_spelling name) word) refl))
  where
    by : (name : CommandName) (b : Bool) → bytes_eq (name_spelling name) word ≡ b → bytes_eq (name_spelling name) word ≡ false
    by name true is = absurd (none name (sym ((bytes_decides (name_spelling name) word).0 is)))
    by name false is = is

abbrev behind_end : Walk
behind_end = record (walk_from nothing_held) { is_trailing = true }

turn-no_name : (word : Text) → subcommand_met names idle word ≡ None → IsUtf8 word → (dashed : Bool) → is_dashed word ≡ dashed
    → (turn_fault top names (walk_from nothing_held) word ≡ [] → ⊥) ⊎ (word ≡ codes "--")
unfolding flags_fault
turn-no_name word none utf8 false plain =
    let (no_end, no_long, no_short) = plain_is word plain in
    inl (λ q. absurd (cc (rw (none, no_end, no_long, no_short) at q)))
turn-no_name word none utf8 true dashed = by (dashed_is word dashed)
  where
    by : Dashed word → (turn_fault top names (walk_from nothing_held) word ≡ [] → ⊥) ⊎ (word ≡ codes "--")
    by (double is) = inr is
    by (long id value no_end is _) = inl (λ q. absurd (cc (rw (none, no_end, is) at q)))
    by (short x xs no_end no_long is word_is) =
        let first = has_char x xs (subst IsUtf8 word_is utf8) in
        inl (λ q. absurd (cc (rw (none, no_end, no_long, is, first.1) at q)))

end-fault : (words : List Text) → fault_of program_app (codes "--" ∷ words) ≡ [] → ⊥
unfolding walk_fault walked defaults_fault
end-fault [] is = absurd (cc is)
end-fault (word ∷ words) is = absurd (cc is)

pub fault-no_name : (word : Text) (words : List Text) → ((name : CommandName) → ¬ (word ≡ name_spelling name)) → IsUtf8 word → fault_of program_app (word ∷ words) ≡ [] → ⊥
unfolding walk_fault
fault-no_name word words none utf8 is = by (turn-no_name word (met-no_name word none) utf8 (is_dashed word) refl)
  where
    by : (turn_fault top names (walk_from nothing_held) word ≡ [] → ⊥) ⊎ (word ≡ codes "--") → ⊥
    by (inl fault) = fault (or_else-parts _ _ (or_else-parts _ _ is).0).0
    by (inr end) = end-fault words (ap (λ w. fault_of program_app (w ∷ words)) (sym end) ∙ is)

pub fault-no_words : fault_of program_app [] ≡ [] → ⊥
unfolding walk_fault defaults_fault
fault-no_words is = absurd (cc is)
