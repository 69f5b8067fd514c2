-- Words ask for one command at most.
use Rattle.std.proofs.Common.{◌≡◌, ◌∙◌, refl, sym, ap, subst, ℕ, List, ◌∷◌, Result, Ok, Err}
use Rattle.std.specs.Prelude.{IfOk, IfErr, MatchResult}
use Rattle.st_words.specs.declared.arrangement.Arrangement.{Arrangement}
use Rattle.st_words.specs.declared.command.Command.{Command}
use Rattle.st_words.specs.declared.name.CommandName.{CommandName}
use Rattle.st_words.specs.declared.name.CommandName.TheVariants as named
use Rattle.st_words.specs.declared.fault.WordsFault.{WordsFault}
use Rattle.st_words.specs.declared.fault.WordsFault.TheVariants.{Usage, Memory}
use Rattle.st_words.specs.Names.{name_spelling}
use Rattle.st_words.specs.Arranged.{IsArranged}
use Rattle.st_words.specs.Table.{Asks}
use Rattle.st_words.specs.Reads.{HasNoReading, Reads, IsOnlyReading, TellsUsage}
use Rattle.st_words.proofs.FrontsLemmas.{arranged-only}
use Rattle.st_words.proofs.NamesLemmas.{name_only}
use Rattle.st_words.proofs.NumbersLemmas.{Says-only}

-- the table has one command for a name and words
pub Asks-only : (name : CommandName) (given : Arrangement) (command other : Command) → Asks name given command → Asks name given other → other ≡ command
Asks-only named.Check given command other is so = cc
Asks-only named.Il given command other is so = cc
Asks-only named.Groups given command other is so = cc
Asks-only named.Order given command other is so = cc
Asks-only named.Eval given command other is so = cc
Asks-only named.Next given command other is so = cc
Asks-only named.Run given command other is so =
    let fuel = Says-only 1000 0 1000000 given.fuels is.3 so.3 is.5.2 so.5.2 in
    let depth = Says-only 200 2 500 given.depths is.4 so.4 is.5.3 so.5.3 in
    cc
Asks-only named.Derive given command other is so =
    let fuel = Says-only 1000 0 1000000 given.fuels is.3 so.3 is.5.2 so.5.2 in
    let depth = Says-only 200 2 500 given.depths is.4 so.4 is.5.3 so.5.3 in
    cc
Asks-only named.Verify given command other is so = cc
Asks-only named.Prose given command other is so = cc
Asks-only named.Latex given command other is so = cc
Asks-only named.Make given command other is so =
    let text : is.1.0.0 ≡ so.1.0.0 = cc in
    let number = is.1.0.2.digits.1 in
    let another = so.1.0.2.digits.1 in
    cc

-- words with this name in front, and others behind that are arranged so
module _ (words behind : List (List ℕ)) (word : List ℕ) (name : CommandName) (given : Arrangement) (split : words ≡ word ∷ behind) (named : word ≡ name_spelling name) (arranged : IsArranged behind given) where
  asked : (command : Command) → Reads words command → Asks name given command
  asked command is =
      let both : name_spelling is.name ∷ is.behind ≡ name_spelling name ∷ behind = sym is.first ∙ split ∙ ap (λ w. w ∷ behind) named in
      let same : is.name ≡ name = name_only is.name name (cc) in
      let left : is.behind ≡ behind = cc in
      let so : is.given ≡ given = arranged-only behind is.given given (subst (λ ws. IsArranged ws is.given) left is.arranged) arranged in
      subst (λ g. Asks name g command) so (subst (λ n. Asks n is.given command) same is.asks)

  pub only_reading : (result : Result Command WordsFault) → MatchResult result (λ command. Asks name given command) (λ fault. (command : Command) → ¬ (Asks name given command))
      → IfOk result (λ command. IsOnlyReading words command)
  only_reading (Ok command) is = λ other so. Asks-only name given command other is (asked other so)
  only_reading (Err fault) is = tt

  pub tells_usage : (result : Result Command WordsFault) → MatchResult result (λ command. Asks name given command) (λ fault. (command : Command) → ¬ (Asks name given command))
      → IfErr result (λ fault. TellsUsage words fault)
  tells_usage (Ok command) is = tt
  tells_usage (Err Usage) is = λ command so. is command (asked command so)
  tells_usage (Err Memory) is = tt

tells : (words : List (List ℕ)) (fault : WordsFault) → (fault ≡ Usage → HasNoReading words) → TellsUsage words fault
tells words Usage says = says refl
tells words Memory says = tt

-- a fault tells what usage tells, where it is usage
pub tells-err : (words : List (List ℕ)) (result : Result Command WordsFault) (fault : WordsFault) → result ≡ Err fault → (fault ≡ Usage → HasNoReading words) → IfErr result (λ f. TellsUsage words f)
tells-err words (Ok command) fault is says = tt
tells-err words (Err f) fault is says = tells words f (λ e. says (cc (is, e)))
