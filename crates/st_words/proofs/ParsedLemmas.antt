-- What a parse by `clap` tells of the words.
use Rattle.std.proofs.Common.{◌≡◌, ◌∙◌, refl, sym, ap, subst, Bool, true, false, ℕ, List, [], ◌∷◌, map, Option, Some, None, inl, inr, codes, true≢false, String, Global, string_bytes, ◌++◌}
use Rattle.std.specs.Prelude.{option_map, ◌⊎◌}
use Rattle.std.specs.List.{AllByRecursion as All}
use Rattle.std.specs.Prelude.{Box}
use Rattle.std.specs.Box.{box_value}
use Rattle.std.proofs.lemmas.Str.{IsUtf8-string_bytes}
use Rattle.clap.specs.Simple.{subcommand_rows}
use Rattle.clap.specs.Matches.{matched_of, raw_values}
use Rattle.clap.specs.Values.{kind_of}
use Rattle.clap.specs.Walk.{rows_of}
use Rattle.clap.specs.declared.error.Error.{Error}
use Rattle.clap.specs.declared.error.kind.ErrorKind.TheVariants.{OutOfMemory}
use Rattle.clap.specs.declared.parser.matches.Found.{Found}
use Rattle.clap.specs.declared.parser.matches.ArgMatches.TheViews.{out-SubCommand}
use Rattle.clap.specs.declared.parser.matches.SubCommand.{SubCommand}
use Rattle.clap.proofs.WalkLemmas.{raw_values-rows}
use Rattle.std.specs.Borrow.{Bor}
use Rattle.std.specs.Str.{bytes_eq, IsUtf8}
use Rattle.std.specs.Cmp.Lexicographic.{bytes_decides}
use Rattle.clap.specs.Walk.{Row, Text, all_of, idle, nothing_held}
use Rattle.clap.specs.Simple.{subcommand_of, rows_at}
use Rattle.clap.specs.Faults.{fault_of}
use Rattle.clap.specs.Kinds.{HasKind, Kinds}
use Rattle.st_words.specs.declared.arrangement.Arrangement.{Arrangement}
use Rattle.st_words.specs.declared.command.Command.{Command}
use Rattle.st_words.specs.declared.name.CommandName.{CommandName}
use Rattle.st_words.specs.declared.name.CommandName.TheVariants.{Check, Il, Groups, Order, Eval, Next, Run, Derive, Verify, Prose, Latex, Make}
use Rattle.st_words.specs.Names.{name_spelling}
use Rattle.st_words.specs.Arranged.{begins_with_dash, is_dashed, is_end, IsArranged}
use Rattle.st_words.specs.Numbers.{Says}
use Rattle.st_words.specs.Table.{Asks, NoOptions}
use Rattle.st_words.specs.Reads.{Reads, HasNoReading}
use Rattle.st_words.specs.inner.Copies.{texts_given}
use Rattle.st_words.specs.inner.Fronts.{arranged, with_plain, with_fuel, with_depth, dash_value_from, has_dash_value, names_option, is_dash}
use Rattle.st_words.specs.inner.Program.{all_names, program_app, takes_options}
use Rattle.st_words.proofs.FrontsLemmas.{Kind, is_plain, is_double_dash, is_fuel, is_depth, is_fuel_joined, is_depth_joined, is_unknown, kind, arranged-plain, arranged-fuel, arranged-depth, arranged-fuel_joined, arranged-depth_joined, arranged-complete, arranged-sound}
use Rattle.st_words.proofs.DashLemmas.{dash_value-end, dash_value-first, dash_value-other}
use Rattle.st_words.proofs.DashedLemmas.{plain_is}
use Rattle.st_words.proofs.RowsLemmas.{look, row_if}
use Rattle.st_words.proofs.LeafLemmas.{leaf, found_now, at, Good, total}
use Rattle.st_words.proofs.SimLemmas.{allowed, at_most_one, names_none, Tells, end_of}
use Rattle.st_words.proofs.LevelLemmas.{leaf-quiet, leaf-passes, leaf-tells, fold-kept, fault-name, subcommand-name, fault-no_name, fault-no_words}

-- ---- which command a word names

from_all : (P : CommandName → Type 0) → All P all_names → (name : CommandName) → P name
from_all P a Check = a.0
from_all P a Il = a.1.0
from_all P a Groups = a.1.1.0
from_all P a Order = a.1.1.1.0
from_all P a Eval = a.1.1.1.1.0
from_all P a Next = a.1.1.1.1.1.0
from_all P a Run = a.1.1.1.1.1.1.0
from_all P a Derive = a.1.1.1.1.1.1.1.0
from_all P a Verify = a.1.1.1.1.1.1.1.1.0
from_all P a Prose = a.1.1.1.1.1.1.1.1.1.0
from_all P a Latex = a.1.1.1.1.1.1.1.1.1.1.0
from_all P a Make = a.1.1.1.1.1.1.1.1.1.1.1.0

abbrev Named : Text → Type 0
Named word = (name : CommandName) × (word ≡ name_spelling name)

search_name : (word : Text) (ns : List CommandName) → Named word ⊎ All (λ name. ¬ (word ≡ name_spelling name)) ns
search_name word [] = inr tt
search_name word (name ∷ ns) = by (search_name word ns) (bytes_eq word (name_spelling name)) refl
  where
    by : Named word ⊎ All (λ n. ¬ (word ≡ name_spelling n)) ns → (b : Bool) → bytes_eq word (name_spelling name) ≡ b → Named word ⊎ All (λ n. ¬ (word ≡ name_spelling n)) (name ∷ ns)
    by rest true is = inl (name, (bytes_decides word (name_spelling name)).0 is)
    by (inl found) false is = inl found
    by (inr none) false is = inr ((λ e. absurd (true≢false (sym ((bytes_decides word (name_spelling name)).1 e) ∙ is))), none)

-- ---- what the table asks

says-once : (default low high : ℕ) (values : List Text) (n : ℕ) → Says default low high values n → at_most_one values ≡ true
says-once default low high [] n is = refl
says-once default low high (value ∷ []) n is = refl
says-once default low high (value ∷ other ∷ values) n is = absurd is

none-given : (given : Arrangement) → NoOptions given → allowed false given ≡ true
none-given given none = rw (none.0, none.1) refl

abbrev Some_words : List Text → Type 0
Some_words words = (value : Text) × (values : List Text) × (words ≡ value ∷ values)

some_words : (words files : List Text) → words ≡ files → ¬ (files ≡ []) → Some_words words
some_words [] files is some = absurd (some (sym is))
some_words (word ∷ words) files is some = (word, words, refl)

run-fine : (given : Arrangement) (fuel depth : ℕ) → Says 1000 0 1000000 given.fuels fuel → Says 200 2 500 given.depths depth → allowed true given ≡ true
run-fine given fuel depth fuel_is depth_is = rw (says-once 1000 0 1000000 given.fuels fuel fuel_is, says-once 200 2 500 given.depths depth depth_is) refl

asks-fine : (name : CommandName) (given : Arrangement) (command : Command) → Asks name given command → (allowed (takes_options name) given ≡ true) × Some_words given.plain
asks-fine Check given command (files, (is, some, none), _) = (none-given given none, some_words given.plain files is some)
asks-fine Il given command (files, (is, some, none), _) = (none-given given none, some_words given.plain files is some)
asks-fine Groups given command (files, (is, some, none), _) = (none-given given none, some_words given.plain files is some)
asks-fine Order given command (files, (is, some, none), _) = (none-given given none, some_words given.plain files is some)
asks-fine Eval given command (term, files, (is, some, none), _) = (none-given given none, (term, files, is))
asks-fine Next given command (relation, term, files, (is, some, none), _) = (none-given given none, (relation, _, is))
asks-fine Run given command (relation, term, files, fuel, depth, (is, some, fuel_is, depth_is), _) = (run-fine given fuel depth fuel_is depth_is, (relation, _, is))
asks-fine Derive given command (relation, term, files, fuel, depth, (is, some, fuel_is, depth_is), _) = (run-fine given fuel depth fuel_is depth_is, (relation, _, is))
asks-fine Verify given command (il, derivation, (is, none), _) = (none-given given none, (il, _, is))
asks-fine Prose given command (files, (is, some, none), _) = (none-given given none, some_words given.plain files is some)
asks-fine Latex given command (files, (is, some, none), _) = (none-given given none, some_words given.plain files is some)
asks-fine Make given command (n, ((text, is, _), none), _) = (none-given given none, (text, _, is))

-- ---- words that ask for a command are parsed

no_end-name : (name : CommandName) → is_end (name_spelling name) ≡ false
no_end-name Check = refl
no_end-name _ = refl

no_option-name : (name : CommandName) → names_option (name_spelling name) ≡ false
no_option-name Check = refl
no_option-name _ = refl

behind-name : (name : CommandName) (words : List Text) → has_dash_value (name_spelling name ∷ words) ≡ dash_value_from false words
behind-name name words = dash_value-first (name_spelling name) words (no_end-name name) ∙ ap (λ b. dash_value_from b words) (no_option-name name)

passes-name : (name : CommandName) (behind : List Text) (given : Arrangement) (command : Command) → All IsUtf8 behind → dash_value_from false behind ≡ false
    → IsArranged behind given → Asks name given command → fault_of program_app (name_spelling name ∷ behind) ≡ []
passes-name name behind given command utf8 no_dash right asks =
    let (fine, (value, values, some)) = asks-fine name given command asks in
    let told = subst (Tells (takes_options name) (total (name_spelling name) (takes_options name) (at nothing_held idle false) behind) (end_of (name_spelling name) (takes_options name) (at nothing_held idle false) behind))
    (arranged-complete behind given right) (leaf-tells (name_spelling name) (takes_options name) behind utf8 no_dash) in
    let (quiet, good) = told.0 fine in
    fault-name name behind ∙ leaf-passes (name_spelling name) (takes_options name) behind given value values some quiet good

pub reading-passes : (words : List Text) (command : Command) → All IsUtf8 words → has_dash_value words ≡ false → Reads words command → fault_of program_app words ≡ []
reading-passes words command utf8 no_dash reads =
    let utf8_now : All IsUtf8 (name_spelling reads.name ∷ reads.behind) = subst (All IsUtf8) reads.first utf8 in
    let no_dash_now = sym (behind-name reads.name reads.behind) ∙ ap has_dash_value (sym reads.first) ∙ no_dash in
    ap (fault_of program_app) reads.first ∙ passes-name reads.name reads.behind reads.given command utf8_now.1 no_dash_now reads.arranged reads.asks

-- ---- what is parsed is arranged

-- the words are this name and others that are arranged so, as the rows say
pub record Parsed (words : List Text) : Type 0 where
  pub name : CommandName
  pub behind : List Text
  pub given : Arrangement
  pub rows : List Row
  pub first : words ≡ name_spelling name ∷ behind
  pub right : IsArranged behind given
  pub found : subcommand_of program_app words ≡ Some (name_spelling name, rows)
  pub plain : look (codes "words") rows ≡ row_if (codes "words") given.plain
  pub fuels : look (codes "fuel") rows ≡ row_if (codes "fuel") given.fuels
  pub depths : look (codes "depth") rows ≡ row_if (codes "depth") given.depths

parsed-name : (name : CommandName) (behind : List Text) → All IsUtf8 behind → dash_value_from false behind ≡ false → fault_of program_app (name_spelling name ∷ behind) ≡ []
    → Parsed (name_spelling name ∷ behind)
parsed-name name behind utf8 no_dash quiet =
    by (arranged behind) refl (leaf-tells (name_spelling name) (takes_options name) behind utf8 no_dash)
    (leaf-quiet (name_spelling name) (takes_options name) behind (sym (fault-name name behind) ∙ quiet))
  where
    good_is : (given : Arrangement) → arranged behind ≡ Some given → Good (takes_options name) (end_of (name_spelling name) (takes_options name) (at nothing_held idle false) behind) given → Parsed (name_spelling name ∷ behind)
    good_is given is good =
        let rows_are = fold-kept (takes_options name) (found_now (takes_options name) (end_of (name_spelling name) (takes_options name) (at nothing_held idle false) behind)) in
        record {
          name = name;
          behind = behind;
          given = given;
          rows = (rows_at (leaf (name_spelling name) (takes_options name)) behind).1;
          first = refl;
          right = arranged-sound behind given is;
          found = subcommand-name name behind;
          plain = ap (look (codes "words")) rows_are ∙ good.plain;
          fuels = ap (look (codes "fuel")) rows_are ∙ good.fuels;
          depths = ap (look (codes "depth")) rows_are ∙ good.depths;
        }

    by_fine : (given : Arrangement) → arranged behind ≡ Some given → Tells (takes_options name) (total (name_spelling name) (takes_options name) (at nothing_held idle false) behind) (end_of (name_spelling name) (takes_options name) (at nothing_held idle false) behind) (Some given)
        → total (name_spelling name) (takes_options name) (at nothing_held idle false) behind ≡ [] → (fine : Bool) → allowed (takes_options name) given ≡ fine → Parsed (name_spelling name ∷ behind)
    by_fine given is told quiet true fine = good_is given is (told.0 fine).1
    by_fine given is told quiet false fine = absurd (told.1 fine quiet)

    by : (found : Option Arrangement) → arranged behind ≡ found → Tells (takes_options name) (total (name_spelling name) (takes_options name) (at nothing_held idle false) behind) (end_of (name_spelling name) (takes_options name) (at nothing_held idle false) behind) found → total (name_spelling name) (takes_options name) (at nothing_held idle false) behind ≡ [] → Parsed (name_spelling name ∷ behind)
    by None is told quiet = absurd (told quiet)
    by (Some given) is told quiet = by_fine given is told quiet (allowed (takes_options name) given) refl

pub parsed : (words : List Text) → All IsUtf8 words → has_dash_value words ≡ false → fault_of program_app words ≡ [] → Parsed words
parsed [] utf8 no_dash quiet = absurd (fault-no_words quiet)
parsed (word ∷ words) utf8 no_dash quiet = by (search_name word all_names)
  where
    by : Named word ⊎ All (λ name. ¬ (word ≡ name_spelling name)) all_names → Parsed (word ∷ words)
    by (inr none) = absurd (fault-no_name word words (from_all (λ name. ¬ (word ≡ name_spelling name)) none) utf8.0 quiet)
    by (inl (name, is)) =
        subst (λ w. Parsed (w ∷ words)) (sym is)
        (parsed-name name words utf8.1 (sym (behind-name name words) ∙ ap (λ w. has_dash_value (w ∷ words)) (sym is) ∙ no_dash) (ap (λ w. fault_of program_app (w ∷ words)) (sym is) ∙ quiet))

-- ---- the texts of an argument

pub texts-are : (result : Option (Bor (List (Bor (List ℕ))))) (id : Text) (values : List Text) (rows : List Row) → look id rows ≡ row_if id values
    → option_map (λ s. map (λ v. v.now) s.now) result ≡ all_of id rows → texts_given result ≡ values
texts-are result id values rows is given = by result values (given ∙ ap (option_map (λ (r : Row). r.values)) is)
  where
    by : (result : Option (Bor (List (Bor (List ℕ))))) (values : List Text) → option_map (λ s. map (λ v. v.now) s.now) result ≡ option_map (λ (r : Row). r.values) (row_if id values) → texts_given result ≡ values
    by None [] e = refl
    by None (value ∷ values) e = absurd (cc e)
    by (Some words) [] e = absurd (cc e)
    by (Some words) (value ∷ values) e = cc e

pub given-texts : (result : Option (Bor (List (Bor (List ℕ))))) (f : Found) (id : Text) (values : List Text) (rows : List Row) → rows_of f ≡ rows → look id rows ≡ row_if id values
    → option_map (λ s. map (λ v. v.now) s.now) result ≡ option_map raw_values (matched_of f id) → texts_given result ≡ values
given-texts result f id values rows same is given =
    texts-are result id values rows is (given ∙ raw_values-rows f id ∙ ap (all_of id) same)

module _ {Z : Type 0} where
  pub names-rows : (sub : Option (Box SubCommand Z)) → option_map (λ p. p.0) (subcommand_rows sub) ≡ option_map (λ b. (out-SubCommand (box_value b)).name.now) sub
  names-rows None = refl
  names-rows (Some sub) = refl

pub memory_alone : (kinds : Kinds) (e : Error) → kinds ≡ [] → HasKind kinds e → kind_of e ≡ OutOfMemory
memory_alone [] e is (inl memory) = memory
memory_alone [] e is (inr among) = absurd among
memory_alone (k ∷ ks) e is has = absurd (cc is)

pub all-utf8 : (words : List (String Global)) → All IsUtf8 (map string_bytes words)
all-utf8 [] = tt
all-utf8 (word ∷ words) = (IsUtf8-string_bytes word, all-utf8 words)

-- ---- words with `-` as a value are not arranged

begins_none : (word : List ℕ) → begins_with_dash word ≡ false → (is_dashed word ≡ false) × (is_end word ≡ false) × (is_dash word ≡ false) × (names_option word ≡ false)
begins_none [] none = (refl, refl, refl, refl)
begins_none (a ∷ []) none = (refl, rw none refl, rw none refl, rw none refl)
begins_none (a ∷ b ∷ rest) none = (none, rw none refl, rw none refl, rw none refl)

abbrev Spoiled : List Text → Type 0
Spoiled words = dash_value_from false words ≡ true → arranged words ≡ None

spoiled-fuel : (words : List Text) → ((value : Text) (left : List Text) → words ≡ value ∷ left → Spoiled left) → Spoiled (codes "--fuel" ∷ words)
spoiled-fuel [] apart = λ is. refl
spoiled-fuel (value ∷ left) apart = λ is. by (apart value left refl) (sym (dash_value-first (codes "--fuel") (value ∷ left) refl) ∙ is) (begins_with_dash value) refl
  where
    by : Spoiled left → dash_value_from true (value ∷ left) ≡ true → (b : Bool) → begins_with_dash value ≡ b → arranged (codes "--fuel" ∷ value ∷ left) ≡ None
    by more is true dash = rw dash refl
    by more is false none =
        let (plain, no_end, no_dash, no_option) = begins_none value none in
        let next = ap (λ b. dash_value_from b left) (sym no_option) ∙ sym (dash_value-other true value left no_end no_dash) ∙ is in
        arranged-fuel value left none ∙ ap (with_fuel value) (more next)

spoiled-depth : (words : List Text) → ((value : Text) (left : List Text) → words ≡ value ∷ left → Spoiled left) → Spoiled (codes "--depth" ∷ words)
spoiled-depth [] apart = λ is. refl
spoiled-depth (value ∷ left) apart = λ is. by (apart value left refl) (sym (dash_value-first (codes "--depth") (value ∷ left) refl) ∙ is) (begins_with_dash value) refl
  where
    by : Spoiled left → dash_value_from true (value ∷ left) ≡ true → (b : Bool) → begins_with_dash value ≡ b → arranged (codes "--depth" ∷ value ∷ left) ≡ None
    by more is true dash = rw dash refl
    by more is false none =
        let (plain, no_end, no_dash, no_option) = begins_none value none in
        let next = ap (λ b. dash_value_from b left) (sym no_option) ∙ sym (dash_value-other true value left no_end no_dash) ∙ is in
        arranged-depth value left none ∙ ap (with_depth value) (more next)

spoiled-front : (word : Text) (words : List Text) → Kind word → Spoiled words → ((value : Text) (left : List Text) → words ≡ value ∷ left → Spoiled left) → Spoiled (word ∷ words)
spoiled-front word words (is_plain none) all apart = λ is.
    arranged-plain word words none
    ∙ ap (with_plain word) (all (ap (λ b. dash_value_from b words) (sym (names_none word none)) ∙ sym (dash_value-first word words (plain_is word none).0) ∙ is))
spoiled-front word words (is_double_dash so) all apart = λ is.
    let end : is_end word ≡ true = ap is_end so in
    absurd (true≢false (sym is ∙ dash_value-end false word words end))
spoiled-front word words (is_fuel so) all apart = subst (λ w. Spoiled (w ∷ words)) (sym so) (spoiled-fuel words apart)
spoiled-front word words (is_depth so) all apart = subst (λ w. Spoiled (w ∷ words)) (sym so) (spoiled-depth words apart)
spoiled-front word words (is_fuel_joined value so) all apart = subst (λ w. Spoiled (w ∷ words)) (sym so) (λ is.
    arranged-fuel_joined value words ∙ ap (with_fuel value) (all (sym (dash_value-first (codes "--fuel=" ++ value) words refl) ∙ is)))
spoiled-front word words (is_depth_joined value so) all apart = subst (λ w. Spoiled (w ∷ words)) (sym so) (λ is.
    arranged-depth_joined value words ∙ ap (with_depth value) (all (sym (dash_value-first (codes "--depth=" ++ value) words refl) ∙ is)))
spoiled-front word words (is_unknown none) all apart = λ is. none words

spoiled-nil : Spoiled []
unfolding dash_value_from
spoiled-nil = λ is. absurd (true≢false (sym is))

spoiled : (words : List Text) → Spoiled words
spoiled [] = spoiled-nil
spoiled (word ∷ []) = spoiled-front word [] (kind word) spoiled-nil (λ value left is. absurd (cc is))
spoiled (word ∷ next ∷ words) =
    spoiled-front word (next ∷ words) (kind word) (spoiled (next ∷ words)) (λ value left is. subst Spoiled (left_is value left is) (spoiled words))
  where
    left_is : (value : Text) (left : List Text) → next ∷ words ≡ value ∷ left → words ≡ left
    left_is value left is = cc

pub dash-unread : (words : List Text) → has_dash_value words ≡ true → HasNoReading words
dash-unread words is = λ command reads.
    let now : dash_value_from false reads.behind ≡ true = sym (behind-name reads.name reads.behind) ∙ ap has_dash_value (sym reads.first) ∙ is in
    let none = spoiled reads.behind now in
    let some = arranged-complete reads.behind reads.given reads.arranged in
    absurd (cc)
