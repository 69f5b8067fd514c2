-- What each command gives of the files that it loads.
use Rattle.std.specs.Prelude.{◌≡◌, ℕ, false, List, [], ◌∷◌}
use Rattle.st_answers.specs.declared.status.Status.{Status}
use Rattle.st_answers.specs.Verification.{VerifyGives, text_limit}
use Rattle.st_commands.specs.Checking.{CheckGives, IlGives, GroupsGive, OrdersGive, LatexGives, ProseGives}
use Rattle.st_commands.specs.Derived.{DeriveGives}
use Rattle.st_commands.specs.Queries.{EvalGives}
use Rattle.st_commands.specs.Searches.{RunGives, NextGives}
use Rattle.st_source.specs.Faults.{source_limit}
use Rattle.st_words.specs.declared.command.Command.{Command}
use Rattle.st_words.specs.declared.command.Command.TheVariants.{Check, Il as IlOf, Groups, Order, Eval, Next, Run, Derive, Verify, Prose, Latex, Make}
use Rattle.st_words.specs.Arranged.{has_options}

-- what a command gives of the bytes of its files
abbrev pub Gives : Command → List (List ℕ) → Status → List ℕ → Type 0
Gives (Check names) files status bytes = CheckGives names files status bytes
Gives (IlOf names) files status bytes = IlGives names files status bytes
Gives (Groups names) files status bytes = GroupsGive names files status bytes
Gives (Order names) files status bytes = OrdersGive names files status bytes
Gives (Latex names) files status bytes = LatexGives names files status bytes
Gives (Prose names) files status bytes = ProseGives names files status bytes
Gives (Eval query_name names) (query ∷ files) status bytes =
    EvalGives names query files status bytes
Gives (Next relation name names) (term ∷ files) status bytes =
    NextGives names relation term files status bytes
Gives (Run relation name names fuel depth) (term ∷ files) status bytes =
    RunGives names relation term files fuel depth status bytes
Gives (Derive relation name names fuel depth) (term ∷ file ∷ []) status bytes =
    DeriveGives relation term file status bytes
Gives (Verify il_name name) (il ∷ derivation ∷ []) status bytes =
    VerifyGives il derivation status bytes
Gives command files status bytes = ⊥

-- Which commands are built, of these words: all but `make`, and derivations over one
-- file and without options.
abbrev pub IsBuilt : List (List ℕ) → Command → Type 0
IsBuilt words (Derive relation term (file ∷ []) fuel depth) = has_options words ≡ false
IsBuilt words (Derive relation term files fuel depth) = ⊥
IsBuilt words (Make n) = ⊥
IsBuilt words command = Unit {0}

-- the most bytes of a file of a command
abbrev pub limit_of : Command → ℕ
limit_of (Verify il derivation) = text_limit
limit_of command = source_limit
