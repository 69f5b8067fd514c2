-- The table of the commands: the words that each takes.
use Rattle.std.specs.Prelude.{◌≡◌, ◌≢◌, ℕ, List, [], ◌∷◌}
use Rattle.st_words.specs.declared.arrangement.Arrangement.{Arrangement}
use Rattle.st_words.specs.declared.command.Command.{Command}
use Rattle.st_words.specs.declared.command.Command.TheVariants.{Check, Il, Groups, Order, Eval, Next, Run, Derive, Verify, Prose, Latex, Make}
use Rattle.st_words.specs.declared.name.CommandName.{CommandName}
use Rattle.st_words.specs.declared.name.CommandName.TheVariants as named
use Rattle.st_words.specs.Numbers.{IsNumber, SaysFuel, SaysDepth}

-- no option is given
abbrev pub NoOptions : Arrangement → Type 0
NoOptions given = (given.fuels ≡ []) × (given.depths ≡ [])

-- FILE+: the words are files, at least one, and no options
abbrev pub TakesFiles : Arrangement → List (List ℕ) → Type 0
TakesFiles given files = (given.plain ≡ files) × (files ≢ []) × NoOptions given

-- TERM FILE+: the words are the file of a term and other files, and no options
abbrev pub TakesTerm : Arrangement → List ℕ → List (List ℕ) → Type 0
TakesTerm given term files = (given.plain ≡ term ∷ files) × (files ≢ []) × NoOptions given

-- REL TERM FILE+: the words are a relation, the file of a term and other files, and no options
abbrev pub TakesRelation : Arrangement → List ℕ → List ℕ → List (List ℕ) → Type 0
TakesRelation given relation term files =
    (given.plain ≡ relation ∷ term ∷ files) × (files ≢ []) × NoOptions given

-- REL TERM FILE+ with options, which say the fuel and the depth
abbrev pub TakesRun : Arrangement → List ℕ → List ℕ → List (List ℕ) → ℕ → ℕ → Type 0
TakesRun given relation term files fuel depth =
    (given.plain ≡ relation ∷ term ∷ files) × (files ≢ [])
    × SaysFuel given.fuels fuel × SaysDepth given.depths depth

-- IL DERIVATION: the words are the files of an internal language and of a derivation, and no
-- options
abbrev pub TakesVerify : Arrangement → List ℕ → List ℕ → Type 0
TakesVerify given il derivation = (given.plain ≡ il ∷ derivation ∷ []) × NoOptions given

-- N: the word is a number from 1 to 16, and there are no options
abbrev pub TakesMake : Arrangement → ℕ → Type 0
TakesMake given n =
    ((text : List ℕ) × (given.plain ≡ text ∷ []) × IsNumber 1 16 text n) × NoOptions given

-- the table: the command of this name, with words that are arranged so
abbrev pub Asks : CommandName → Arrangement → Command → Type 0
Asks named.Check given command =
    (files : List (List ℕ)) × TakesFiles given files × (command ≡ Check files)
Asks named.Il given command =
    (files : List (List ℕ)) × TakesFiles given files × (command ≡ Il files)
Asks named.Groups given command =
    (files : List (List ℕ)) × TakesFiles given files × (command ≡ Groups files)
Asks named.Order given command =
    (files : List (List ℕ)) × TakesFiles given files × (command ≡ Order files)
Asks named.Eval given command =
    (term : List ℕ) × (files : List (List ℕ))
    × TakesTerm given term files × (command ≡ Eval term files)
Asks named.Next given command =
    (relation term : List ℕ) × (files : List (List ℕ))
    × TakesRelation given relation term files × (command ≡ Next relation term files)
Asks named.Run given command =
    (relation term : List ℕ) × (files : List (List ℕ)) × (fuel depth : ℕ)
    × TakesRun given relation term files fuel depth
    × (command ≡ Run relation term files fuel depth)
Asks named.Derive given command =
    (relation term : List ℕ) × (files : List (List ℕ)) × (fuel depth : ℕ)
    × TakesRun given relation term files fuel depth
    × (command ≡ Derive relation term files fuel depth)
Asks named.Verify given command =
    (il derivation : List ℕ) × TakesVerify given il derivation × (command ≡ Verify il derivation)
Asks named.Prose given command =
    (files : List (List ℕ)) × TakesFiles given files × (command ≡ Prose files)
Asks named.Latex given command =
    (files : List (List ℕ)) × TakesFiles given files × (command ≡ Latex files)
Asks named.Make given command = (n : ℕ) × TakesMake given n × (command ≡ Make n)
