-- What a call wrote, and what its counts say.
use Rattle.std.proofs.Common.{◌≡◌, ℕ, ◌<◌, ◌≤◌, Bool, true, false, List, [], ◌∷◌, Option, refl, ap, subst, sym, inl, inr, arith}
use Rattle.st_outside.specs.Counts.{one_more}
use Rattle.st_outside.specs.Sink.{Takes}
use Rattle.st_il.specs.declared.definition.Il.{Il as Language}
use Rattle.st_semantics.specs.declared.outcome.Outcome.{Outcome as Value}
use Rattle.st_semantics.specs.declared.outcome.Outcome.TheVariants as outcome
use Rattle.st_il.specs.Names.{Name}
use Rattle.st_semantics.specs.Transcript.{Term as Start}
use Rattle.st_tool.specs.declared.loads.Loaded.{Loaded}
use Rattle.st_tool.specs.declared.loads.Loaded.TheVariants.{Given, Failed, TooLong}
use Rattle.st_answers.specs.declared.status.Status.{Status}
use Rattle.st_answers.specs.declared.status.Status.TheVariants.{Done, Usage, Specification, Term, Fuel, Depth, NotRunnable, Verification, Load, Write, Memory, TooLarge, Unbuilt}
use Rattle.st_runs.specs.declared.transcript.Ending.{Ending}
use Rattle.st_runs.specs.declared.transcript.Ending.TheVariants.{Stuck, Fuel as OutOfFuel}
use Rattle.st_tool.specs.Causes.{IsLoadFault, FaultIsTold}
use Rattle.st_commands.specs.Checking.{FilesGive, IlGives, refused as refused_files, accepted as accepted_files}
use Rattle.st_commands.specs.declared.check.Printed.{Printed}
use Rattle.st_commands.specs.declared.check.Printed.TheVariants as asked
use Rattle.st_tool.specs.Commands.{Gives, limit_of}
use Rattle.st_commands.specs.Derived.{DeriveGives}
use Rattle.st_answers.specs.Verification.{VerifyGives, malformed, untyped, judged, unjudged, accepted, refused, unfinished, endless}
use Rattle.st_commands.specs.Queries.{evaluation_depth, OutcomeGives, QueryGives, EvalGives}
use Rattle.st_commands.specs.Queries as queries
use Rattle.st_runs.specs.Runs.{RunSays, NextSays}
use Rattle.st_commands.specs.Searches.{Says, RelationSays, SearchGives, next_depth}
use Rattle.st_commands.specs.Searches as searches
use Rattle.st_runs.specs.Transcript.{status_of}
use Rattle.st_tool.specs.Loads.{Held, Counts, LoadsTo}
use Rattle.st_tool.specs.Outcome.{Outcome, HasOutcome, unread, too_many, unbuilt, loads, Written}
use Rattle.st_words.specs.declared.command.Command.{Command}
use Rattle.st_words.specs.declared.command.Command.TheVariants.{Check, Il, Groups, Order, Eval, Next, Run, Derive, Verify, Prose, Latex, Make}
use Rattle.st_words.specs.FileNames.{file_names}
use Rattle.st_words.specs.Reads.{Reads}

-- a status that a command gives of its files: no failed load or write, and no want of memory
pub record IsOwn (status : Status) : Type 0 where
  load : status ≡ Load → ⊥
  write : status ≡ Write → ⊥
  memory : status ≡ Memory → ⊥

own_done : IsOwn Done
own_done = record { load = λ e. cc; write = λ e. cc; memory = λ e. cc }

own_fuel : IsOwn Fuel
own_fuel = record { load = λ e. cc; write = λ e. cc; memory = λ e. cc }

own_specification : IsOwn Specification
own_specification = record { load = λ e. cc; write = λ e. cc; memory = λ e. cc }

own_term : IsOwn Term
own_term = record { load = λ e. cc; write = λ e. cc; memory = λ e. cc }

own_depth : IsOwn Depth
own_depth = record { load = λ e. cc; write = λ e. cc; memory = λ e. cc }

own_not_runnable : IsOwn NotRunnable
own_not_runnable = record { load = λ e. cc; write = λ e. cc; memory = λ e. cc }

own_verification : IsOwn Verification
own_verification = record { load = λ e. cc; write = λ e. cc; memory = λ e. cc }

own_unbuilt : (status : Status) → status ≡ Unbuilt → IsOwn status
own_unbuilt status is = record { load = λ e. cc; write = λ e. cc; memory = λ e. cc }

ending_is_own : (status : Status) (ending : Ending) → status ≡ status_of ending → IsOwn status
ending_is_own status Stuck is = subst IsOwn (sym is) own_done
ending_is_own status OutOfFuel is = subst IsOwn (sym is) own_fuel

derive_is_own : (relation term file : List ℕ) (status : Status) (bytes : List ℕ) → DeriveGives relation term file status bytes → IsOwn status
derive_is_own relation term file status bytes (inl (small, atom, runnable, text)) = ending_is_own status text.ending text.status_is
derive_is_own relation term file status bytes (inr (none, (is, text))) = own_unbuilt status is

value_is_own : (depth : ℕ) (o : Value) (status : Status) (bytes : List ℕ) → OutcomeGives depth o status bytes → IsOwn status
value_is_own depth (outcome.Val v) status bytes gives = subst IsOwn (sym gives.0) own_done
value_is_own depth outcome.NoValue status bytes gives = subst IsOwn (sym gives.0) own_done
value_is_own depth outcome.Deep status bytes gives = subst IsOwn (sym gives.0) own_depth

query_is_own : (il : Language) (depth : ℕ) (query : List ℕ) (status : Status) (bytes : List ℕ) → QueryGives il depth query status bytes → IsOwn status
query_is_own il depth query status bytes (queries.refused b breach text) = own_term
query_is_own il depth query status bytes (queries.evaluated o comes gives) = value_is_own depth o status bytes gives

eval_is_own : (names : List (List ℕ)) (query : List ℕ) (files : List (List ℕ)) (status : Status) (bytes : List ℕ) → EvalGives names query files status bytes → IsOwn status
eval_is_own names query files status bytes (queries.unspecified refusal) = own_specification
eval_is_own names query files status bytes (queries.specified defs e is gives) = query_is_own e.il evaluation_depth query status bytes gives

run_is_own : (il : Language) (relation : Name) (fuel depth : ℕ) (start : Start) (status : Status) (bytes : List ℕ) → RunSays il relation fuel depth start status bytes → IsOwn status
run_is_own il relation fuel depth start status bytes (RunSays.ended after ending transcript shallow inputs is text) = ending_is_own status ending is
run_is_own il relation fuel depth start status bytes (RunSays.deep before last chain reaches few shallow is inputs text) = own_depth

next_is_own : (il : Language) (relation : Name) (depth : ℕ) (term : Start) (status : Status) (bytes : List ℕ) → NextSays il relation depth term status bytes → IsOwn status
next_is_own il relation depth term status bytes (NextSays.found outputs shallow all typed text) = own_done
next_is_own il relation depth term status bytes (NextSays.deep chain is text) = own_depth

-- what is said of a term has such a status
abbrev AreOwn : Says → Type 0
AreOwn Is = (il : Language) (term : Start) (status : Status) (bytes : List ℕ) → Is il term status bytes → IsOwn status

relation_is_own : (steps : Bool) (Is : Says) → AreOwn Is → (il : Language) (relation : Name) (text : List ℕ) (status : Status) (bytes : List ℕ)
    → RelationSays steps Is il relation text status bytes → IsOwn status
relation_is_own steps Is own il relation text status bytes (searches.marked mark has is) = own_not_runnable
relation_is_own steps Is own il relation text status bytes (searches.unbuilt none needs is) = own_unbuilt Unbuilt refl
relation_is_own steps Is own il relation text status bytes (searches.refused types b none plain typed breach is) = own_term
relation_is_own steps Is own il relation text status bytes (searches.searched types term none plain typed read inputs says) = own il term status bytes says

search_is_own : (steps : Bool) (Is : Says) → AreOwn Is → (names : List (List ℕ)) (relation : Name) (text : List ℕ) (files : List (List ℕ)) (status : Status) (bytes : List ℕ)
    → SearchGives steps Is names relation text files status bytes → IsOwn status
search_is_own steps Is own names relation text files status bytes (searches.unspecified refusal) = own_specification
search_is_own steps Is own names relation text files status bytes (searches.specified defs e is says) = relation_is_own steps Is own e.il relation text status bytes says

verify_is_own : (il derivation : List ℕ) (status : Status) (bytes : List ℕ) → VerifyGives il derivation status bytes → IsOwn status
verify_is_own il derivation status bytes (malformed line no_il first text) = own_verification
verify_is_own il derivation status bytes (untyped language place rule is_text breach text) = own_verification
verify_is_own il derivation status bytes (judged language lines rest typed small texts (accepted all nothing text)) = own_done
verify_is_own il derivation status bytes (judged language lines rest typed small texts (refused good after line notes rule parts read verdict text)) = own_verification
verify_is_own il derivation status bytes (judged language lines rest typed small texts (unfinished notes read some text)) = own_verification
verify_is_own il derivation status bytes (judged language lines rest typed small texts (endless notes read ended nothing text)) = own_verification
verify_is_own il derivation status bytes (unjudged language is_text typed not_yet text) = own_unbuilt Unbuilt refl

files_are_own : (printed : Printed) (names files : List (List ℕ)) (status : Status) (bytes : List ℕ) → FilesGive printed names files status bytes → IsOwn status
files_are_own printed names files status bytes (refused_files why) = own_specification
files_are_own printed names files status bytes (accepted_files defs e is text) = own_done

il_is_own : (names files : List (List ℕ)) (status : Status) (bytes : List ℕ) → IlGives names files status bytes → IsOwn status
il_is_own names files status bytes (inl (small, one, is, text)) = subst IsOwn (sym is) own_done
il_is_own names files status bytes (inr (none, gives)) = files_are_own asked.Language names files status bytes gives

gives_own : (command : Command) (files : List (List ℕ)) (status : Status) (bytes : List ℕ) → Gives command files status bytes → IsOwn status
gives_own (Il names) files status bytes gives = il_is_own names files status bytes gives
gives_own (Eval query_name names) [] status bytes gives = absurd gives
gives_own (Eval query_name names) (query ∷ files) status bytes gives = eval_is_own names query files status bytes gives
gives_own (Next relation name names) [] status bytes gives = absurd gives
gives_own (Next relation name names) (term ∷ files) status bytes gives =
    search_is_own false (λ il. NextSays il relation next_depth) (λ il start s b says. next_is_own il relation next_depth start s b says) names relation term files status bytes gives
gives_own (Run relation name names fuel depth) [] status bytes gives = absurd gives
gives_own (Run relation name names fuel depth) (term ∷ files) status bytes gives =
    search_is_own true (λ il. RunSays il relation fuel depth) (λ il start s b says. run_is_own il relation fuel depth start s b says) names relation term files status bytes gives
gives_own (Derive relation name names fuel depth) (term ∷ file ∷ []) status bytes gives = derive_is_own relation term file status bytes gives
gives_own (Verify il_name name) (il ∷ derivation ∷ []) status bytes gives = verify_is_own il derivation status bytes gives
gives_own (Derive relation name names fuel depth) [] status bytes gives = absurd gives
gives_own (Derive relation name names fuel depth) (one ∷ []) status bytes gives = absurd gives
gives_own (Derive relation name names fuel depth) (one ∷ two ∷ three ∷ files) status bytes gives = absurd gives
gives_own (Verify il_name name) [] status bytes gives = absurd gives
gives_own (Verify il_name name) (one ∷ []) status bytes gives = absurd gives
gives_own (Verify il_name name) (one ∷ two ∷ three ∷ files) status bytes gives = absurd gives
gives_own (Check names) files status bytes gives = files_are_own asked.Count names files status bytes gives
gives_own (Groups names) files status bytes gives = files_are_own asked.Groups names files status bytes gives
gives_own (Order names) files status bytes gives = files_are_own asked.Orders names files status bytes gives
gives_own (Prose names) files status bytes gives = files_are_own asked.Prose names files status bytes gives
gives_own (Latex names) files status bytes gives = files_are_own asked.Latex names files status bytes gives
gives_own (Make n) files status bytes gives = absurd gives

-- no status but these two is ascribed to the loads
outcome_is_own : (command : Command) (loaded : Loaded) (status : Status) (bytes : List ℕ) → Outcome command loaded status bytes → (status ≡ Write → ⊥) × (status ≡ Memory → ⊥)
outcome_is_own command (Given files) status bytes gives = let own = gives_own command files status bytes gives in (own.write, own.memory)
outcome_is_own command (Failed number) status bytes (is, text) = (λ e. cc, λ e. cc)
outcome_is_own command (TooLong number) status bytes (is, text) = (λ e. cc, λ e. cc)

is_own : (held : Held) (words : List (List ℕ)) (before after : Counts) (status : Status) (bytes : List ℕ) → HasOutcome held words before after status bytes
    → (status ≡ Write → ⊥) × (status ≡ Memory → ⊥)
is_own held words before after status bytes (unread none same text) = (λ e. cc, λ e. cc)
is_own held words before after status bytes (too_many command reads many same text) = (λ e. cc, λ e. cc)
is_own held words before after status bytes (unbuilt command asks none same text) = (λ e. cc, λ e. cc)
is_own held words before after status bytes (loads command loaded asks built come outcome) = outcome_is_own command loaded status bytes outcome

written_at : (held : Held) (words : List (List ℕ)) (before after : Counts) (taken now : Option (List ℕ)) (status : Status) (bytes : List ℕ)
    → (status ≡ Write → ⊥) × (status ≡ Memory → ⊥) → HasOutcome held words before after status bytes → Takes taken now bytes → Written held words before after taken now status
written_at held words before after taken now Done bytes own has takes = (bytes, has, takes)
written_at held words before after taken now Usage bytes own has takes = (bytes, has, takes)
written_at held words before after taken now Specification bytes own has takes = (bytes, has, takes)
written_at held words before after taken now Term bytes own has takes = (bytes, has, takes)
written_at held words before after taken now Fuel bytes own has takes = (bytes, has, takes)
written_at held words before after taken now Depth bytes own has takes = (bytes, has, takes)
written_at held words before after taken now NotRunnable bytes own has takes = (bytes, has, takes)
written_at held words before after taken now Verification bytes own has takes = (bytes, has, takes)
written_at held words before after taken now Load bytes own has takes = (bytes, has, takes)
written_at held words before after taken now Write bytes own has takes = absurd (own.0 refl)
written_at held words before after taken now Memory bytes own has takes = absurd (own.1 refl)
written_at held words before after taken now TooLarge bytes own has takes = (bytes, has, takes)
written_at held words before after taken now Unbuilt bytes own has takes = (bytes, has, takes)

-- all bytes of an outcome went out
pub all_written : (held : Held) (words : List (List ℕ)) (before after : Counts) (taken now : Option (List ℕ)) (status : Status) (bytes : List ℕ)
    → HasOutcome held words before after status bytes → Takes taken now bytes → Written held words before after taken now status
all_written held words before after taken now status bytes has takes =
    written_at held words before after taken now status bytes (is_own held words before after status bytes has) has takes

-- the cause of a failed load
fault_of : (held : Held) (words : List (List ℕ)) (before after : Counts) (command : Command) (loaded : Loaded) (status : Status) (bytes : List ℕ) → Reads words command
    → LoadsTo held (limit_of command) (file_names command) before loaded after → Outcome command loaded status bytes → status ≡ Load → IsLoadFault words before after
fault_of held words before after command (Failed number) status bytes reads come outcome is =
    record {
      command = command;
      reads = reads;
      number = number;
      name = come.name;
      is_name = come.is_name;
      last = come.last;
      loads = come.loads;
      rose = let rose : one_more before.faults ≤ after.faults = omega (arith, come.faults) in rose;
    }
fault_of held words before after command (TooLong number) status bytes reads come (large, text) is = cc
fault_of held words before after command (Given files) status bytes reads come gives is = absurd ((gives_own command files status bytes gives).load is)

pub load_fault : (held : Held) (words : List (List ℕ)) (before after : Counts) (status : Status) (bytes : List ℕ) → HasOutcome held words before after status bytes
    → status ≡ Load → IsLoadFault words before after
load_fault held words before after status bytes (unread none same text) is = cc
load_fault held words before after status bytes (too_many command reads many same text) is = cc
load_fault held words before after status bytes (unbuilt command asks none same text) is = cc
load_fault held words before after status bytes (loads command loaded asks built come outcome) is =
    fault_of held words before after command loaded status bytes asks.reads come outcome is

-- a raised count is told
told_by : (held : Held) (before after : Counts) (command : Command) (loaded : Loaded) (status : Status) (bytes : List ℕ)
    → LoadsTo held (limit_of command) (file_names command) before loaded after → Outcome command loaded status bytes → before.faults < after.faults → status ≡ Load
told_by held before after command (Failed number) status bytes come (is, text) rose = is
told_by held before after command (TooLong number) status bytes come outcome rose = let same = come.faults in absurd (omega (arith, same, rose))
told_by held before after command (Given files) status bytes come outcome rose = let same = come.faults in absurd (omega (arith, same, rose))

not_risen : (before after : Counts) (status : Status) → after ≡ before → FaultIsTold before after status
not_risen before after status same rose = let faults = ap (λ (c : Counts). c.faults) same in absurd (omega (arith, faults, rose))

pub no_write : (held : Held) (words : List (List ℕ)) (before after : Counts) (status : Status) (bytes : List ℕ) → HasOutcome held words before after status bytes → status ≡ Write → ⊥
no_write held words before after status bytes has = (is_own held words before after status bytes has).0

pub fault_told : (held : Held) (words : List (List ℕ)) (before after : Counts) (status : Status) (bytes : List ℕ) → HasOutcome held words before after status bytes
    → FaultIsTold before after status
fault_told held words before after status bytes (unread none same text) = not_risen before after status same
fault_told held words before after status bytes (too_many command reads many same text) = not_risen before after status same
fault_told held words before after status bytes (unbuilt command asks none same text) = not_risen before after status same
fault_told held words before after status bytes (loads command loaded asks built come outcome) =
    λ rose. inl (told_by held before after command loaded status bytes come outcome rose)
