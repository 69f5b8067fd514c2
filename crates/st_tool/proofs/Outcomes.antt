-- The outcomes of commands.
use Rattle.std.proofs.Common.{◌≡◌, ℕ, suc, ◌<◌, ◌≤◌, List, [], ◌∷◌, length, sym, ap, subst, refl, ◌↔◌, true, false}
use Rattle.std.specs.Prelude.{All, Bool, IsTrue, Result, Ok, Err, IfOk}
use Rattle.std.proofs.lemmas.List.Elements.{All-nil, All-cons}
use Rattle.std.proofs.lemmas.Option.{slice_get_within}
use Rattle.st_tool.specs.declared.loads.Loaded.{Loaded}
use Rattle.st_tool.specs.declared.loads.Loaded.TheVariants.{Given, Failed, TooLong}
use Rattle.st_num.specs.declared.memory.NoMemory.{NoMemory}
use Rattle.st_answers.specs.declared.answer.Answer.{Answer}
use Rattle.st_answers.specs.declared.status.Status.TheVariants.{Usage, TooLarge}
use Rattle.st_tool.specs.Commands.{Gives, IsBuilt, limit_of}
use Rattle.st_commands.specs.Derived.{DeriveGives}
use Rattle.st_answers.specs.Unbuilt.{IsUnbuilt}
use Rattle.st_commands.specs.Queries.{EvalGives}
use Rattle.st_commands.specs.Searches.{RunGives, NextGives}
use Rattle.st_tool.specs.Loads.{Held, Counts, AreGiven, LoadsTo, FitsNames}
use Rattle.st_tool.specs.Outcome.{Outcome, HasOutcome, unread, too_many, unbuilt, loads}
use Rattle.st_tool.specs.Texts.{usage_text, too_many_text}
use Rattle.st_words.specs.declared.command.Command.{Command}
use Rattle.st_words.specs.declared.command.Command.TheVariants.{Eval, Next, Run, Derive}
use Rattle.st_words.specs.FileNames.{file_names}
use Rattle.st_words.specs.Reads.{Reads, HasNoReading}

-- the files that were given fit their names, and keep the limit
given-long : (held : Held) (limit : ℕ) (names files : List (List ℕ)) → AreGiven held limit names files → length files ≡ length names
given-long held limit [] [] given = refl
given-long held limit [] (f ∷ files) given = absurd given
given-long held limit (n ∷ names) [] given = absurd given
given-long held limit (n ∷ names) (f ∷ files) given = ap suc (given-long held limit names files given.1)

given-short : (held : Held) (limit : ℕ) (names files : List (List ℕ)) → AreGiven held limit names files → All (λ bytes. length bytes ≤ limit) files
given-short held limit [] [] given = All-nil (λ bytes. length bytes ≤ limit)
given-short held limit [] (f ∷ files) given = absurd given
given-short held limit (n ∷ names) [] given = absurd given
given-short held limit (n ∷ names) (f ∷ files) given = All-cons (λ bytes. length bytes ≤ limit) f files given.0.short (given-short held limit names files given.1)

pub loads-fit : (held : Held) (limit : ℕ) (names : List (List ℕ)) (before after : Counts) (loaded : Loaded) → LoadsTo held limit names before loaded after → FitsNames limit loaded names
loads-fit held limit names before after (Given files) all = (given-long held limit names files all.given, given-short held limit names files all.given)
loads-fit held limit names before after (Failed number) fails = slice_get_within names number fails.name fails.is_name
loads-fit held limit names before after (TooLong number) long = slice_get_within names number long.name long.is_name

-- the loads of these names
pub loads_of : (held : Held) (limit other : ℕ) (names items : List (List ℕ)) (before after : Counts) (loaded : Loaded) → limit ≡ other → items ≡ names
    → LoadsTo held limit items before loaded after → LoadsTo held other names before loaded after
loads_of held limit other names items before after loaded limit_is same come =
    subst (λ xs. LoadsTo held other xs before loaded after) same (subst (λ most. LoadsTo held most items before loaded after) limit_is come)

-- ---- what a command gives of its files

abbrev pub GivesOf : Command → List (List ℕ) → Result Answer NoMemory → Type 0
GivesOf command files result = IfOk result (λ answer. Gives command files answer.status answer.bytes.items)

pub gives_eval : (command : Command) (query name : List ℕ) (names shown files behind : List (List ℕ)) (result : Result Answer NoMemory) → command ≡ Eval name names → files ≡ query ∷ behind → shown ≡ names
    → IfOk result (λ answer. EvalGives shown query behind answer.status answer.bytes.items) → GivesOf command files result
gives_eval command query name names shown files behind (Err e) is first same gives = tt
gives_eval command query name names shown files behind (Ok answer) is first same gives =
    subst (λ c. Gives c files answer.status answer.bytes.items) (sym is)
    (subst (λ fs. Gives (Eval name names) fs answer.status answer.bytes.items) (sym first) (subst (λ ns. EvalGives ns query behind answer.status answer.bytes.items) same gives))

pub gives_next : (command : Command) (relation said term name : List ℕ) (names shown files behind : List (List ℕ)) (result : Result Answer NoMemory)
    → command ≡ Next relation name names → files ≡ term ∷ behind → shown ≡ names → said ≡ relation
    → IfOk result (λ answer. NextGives shown said term behind answer.status answer.bytes.items) → GivesOf command files result
gives_next command relation said term name names shown files behind (Err e) is first same also gives = tt
gives_next command relation said term name names shown files behind (Ok answer) is first same also gives =
    subst (λ c. Gives c files answer.status answer.bytes.items) (sym is)
    (subst (λ fs. Gives (Next relation name names) fs answer.status answer.bytes.items) (sym first)
    (subst (λ ns. NextGives ns relation term behind answer.status answer.bytes.items) same (subst (λ r. NextGives shown r term behind answer.status answer.bytes.items) also gives)))

pub gives_run : (command : Command) (relation said term name : List ℕ) (names shown files behind : List (List ℕ)) (fuel depth : ℕ) (result : Result Answer NoMemory)
    → command ≡ Run relation name names fuel depth → files ≡ term ∷ behind → shown ≡ names → said ≡ relation
    → IfOk result (λ answer. RunGives shown said term behind fuel depth answer.status answer.bytes.items) → GivesOf command files result
gives_run command relation said term name names shown files behind fuel depth (Err e) is first same also gives = tt
gives_run command relation said term name names shown files behind fuel depth (Ok answer) is first same also gives =
    subst (λ c. Gives c files answer.status answer.bytes.items) (sym is)
    (subst (λ fs. Gives (Run relation name names fuel depth) fs answer.status answer.bytes.items) (sym first)
    (subst (λ ns. RunGives ns relation term behind fuel depth answer.status answer.bytes.items) same (subst (λ r. RunGives shown r term behind fuel depth answer.status answer.bytes.items) also gives)))

pub gives_derivation : (command : Command) (relation said term file name : List ℕ) (names files : List (List ℕ)) (fuel depth : ℕ) (result : Result Answer NoMemory)
    → command ≡ Derive relation name names fuel depth → files ≡ term ∷ file ∷ []
    → IfOk result (λ answer. DeriveGives said term file answer.status answer.bytes.items) → said ≡ relation → GivesOf command files result
gives_derivation command relation said term file name names files fuel depth (Err e) is two gives same = tt
gives_derivation command relation said term file name names files fuel depth (Ok answer) is two gives same =
    subst (λ c. Gives c files answer.status answer.bytes.items) (sym is)
    (subst (λ fs. Gives (Derive relation name names fuel depth) fs answer.status answer.bytes.items) (sym two)
    (subst (λ r. DeriveGives r term file answer.status answer.bytes.items) same gives))

-- ---- what a call gives

abbrev pub HasOutcomeOf : Held → List (List ℕ) → Counts → Counts → Result Answer NoMemory → Type 0
HasOutcomeOf held words before after result = IfOk result (λ answer. HasOutcome held words before after answer.status answer.bytes.items)

pub answers_unread : (held : Held) (words : List (List ℕ)) (before : Counts) (result : Result Answer NoMemory) → HasNoReading words
    → IfOk result (λ answer. answer.status ≡ Usage) → IfOk result (λ answer. answer.bytes.items ≡ usage_text) → HasOutcomeOf held words before before result
answers_unread held words before (Err e) no_reading status bytes = tt
answers_unread held words before (Ok answer) no_reading status bytes =
    subst (λ s. HasOutcome held words before before s answer.bytes.items) (sym status) (unread no_reading refl bytes)

pub answers_many : (held : Held) (words : List (List ℕ)) (before : Counts) (command : Command) (result : Result Answer NoMemory) → Reads words command
    → 64 < length (file_names command)
    → IfOk result (λ answer. answer.status ≡ TooLarge) → IfOk result (λ answer. answer.bytes.items ≡ too_many_text) → HasOutcomeOf held words before before result
answers_many held words before command (Err e) reads many status bytes = tt
answers_many held words before command (Ok answer) reads many status bytes =
    subst (λ s. HasOutcome held words before before s answer.bytes.items) (sym status) (too_many command reads many refl bytes)

pub answers_unbuilt : (held : Held) (words : List (List ℕ)) (before : Counts) (command : Command) (built : Bool) (result : Result Answer NoMemory) → Reads words command
    → length (file_names command) ≤ 64 → IsTrue built ↔ IsBuilt words command → built ≡ false
    → IfOk result (λ answer. IsUnbuilt answer.status answer.bytes.items) → HasOutcomeOf held words before before result
answers_unbuilt held words before command built (Err e) reads few tells not_built says = tt
answers_unbuilt held words before command built (Ok answer) reads few tells not_built says =
    subst (λ s. HasOutcome held words before before s answer.bytes.items) (sym says.0)
    (unbuilt command (record { reads = reads; few = few }) (λ is. let built_is = tells.1 is in cc (built_is, not_built)) refl says.1)

abbrev pub LoadsAndGives : Held → Command → Counts → Counts → Result Answer NoMemory → Type 0
LoadsAndGives held command before after result =
    IfOk result (λ answer. (loaded : Loaded) × LoadsTo held (limit_of command) (file_names command) before loaded after × Outcome command loaded answer.status answer.bytes.items)

pub answers_loads : (held : Held) (words : List (List ℕ)) (before after : Counts) (command : Command) (built : Bool) (result : Result Answer NoMemory) → Reads words command
    → length (file_names command) ≤ 64 → IsTrue built ↔ IsBuilt words command → built ≡ true
    → LoadsAndGives held command before after result → HasOutcomeOf held words before after result
answers_loads held words before after command built (Err e) reads few tells is gives = tt
answers_loads held words before after command built (Ok answer) reads few tells is (loaded, come, outcome) =
    loads command loaded (record { reads = reads; few = few }) (tells.0 is) come outcome
