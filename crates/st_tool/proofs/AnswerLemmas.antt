-- Which commands are answered, and what is known of the files that they were given.
use Rattle.std.proofs.Common.{◌≡◌, ap, subst, ℕ, ◌<◌, ◌≤◌, List, [], ◌∷◌, length, arith}
use Rattle.std.specs.Prelude.{All}
use Rattle.std.proofs.lemmas.List.Elements.{All-head, All-tail}
use Rattle.st_tool.specs.declared.loads.Loaded.TheVariants.{Given}
use Rattle.st_tool.specs.Commands.{IsBuilt, limit_of}
use Rattle.st_source.specs.Faults.{source_limit}
use Rattle.st_tool.specs.Loads.{FitsNames}
use Rattle.st_tool.specs.Outcome.{most_files}
use Rattle.st_tool.specs.inner.Answering.{IsAnswerable}
use Rattle.st_words.specs.declared.command.Command.{Command}
use Rattle.st_words.specs.declared.command.Command.TheVariants.{Check, Il, Groups, Order, Eval, Next, Run, Derive, Verify, Prose, Latex, Make}
use Rattle.st_words.specs.FileNames.{file_names}

-- what is built is answered
pub answerable : (words : List (List ℕ)) (command : Command) → IsBuilt words command → IsAnswerable command
answerable words (Check files) built = tt
answerable words (Il files) built = tt
answerable words (Groups files) built = tt
answerable words (Order files) built = tt
answerable words (Eval term files) built = tt
answerable words (Next relation term files) built = tt
answerable words (Run relation term files fuel depth) built = tt
answerable words (Derive relation term [] fuel depth) built = absurd built
answerable words (Derive relation term (file ∷ []) fuel depth) built = tt
answerable words (Derive relation term (file ∷ other ∷ files) fuel depth) built = absurd built
answerable words (Verify il derivation) built = tt
answerable words (Prose files) built = tt
answerable words (Latex files) built = tt
answerable words (Make n) built = absurd built

-- ---- files

-- the first file, and those of a specification behind it
pub record FitsBehind (first : List ℕ) (behind names : List (List ℕ)) : Type 0 where
  pub named : length behind ≡ length names
  pub few : length behind ≤ 64
  pub short : All (λ file. length file ≤ source_limit) behind
  pub short_first : length first ≤ source_limit

module _ (command : Command) (given : List (List ℕ)) (name : List ℕ) (names : List (List ℕ)) (loads : file_names command ≡ name ∷ names)
    (fits : FitsNames (limit_of command) (Given given) (file_names command)) where
  -- there is a first one
  pub has_first : 0 < length given
  has_first = let same = ap length loads in let all = fits.0 in omega (arith, same, all)

  pub fits_behind : (first : List ℕ) (behind shown : List (List ℕ)) → given ≡ first ∷ behind → limit_of command ≡ source_limit → length (file_names command) ≤ most_files → shown ≡ names
      → FitsBehind first behind shown
  fits_behind first behind shown parts limit few is =
      let whole : All (λ (file : List ℕ). length file ≤ source_limit) (first ∷ behind) =
      subst (λ xs. All (λ (file : List ℕ). length file ≤ source_limit) xs) parts (subst (λ most. All (λ (file : List ℕ). length file ≤ most) given) limit fits.1) in
      let same = ap length loads in
      let long = ap length parts in
      let all = fits.0 in
      let number = ap length is in
      record {
        named = omega (arith, same, long, all, number);
        few = omega (arith, same, long, all, few);
        short = All-tail (λ (file : List ℕ). length file ≤ source_limit) first behind whole;
        short_first = All-head (λ (file : List ℕ). length file ≤ source_limit) first behind whole;
      }
