-- The tokens of all files, and how these are refused.
use Rattle.std.proofs.Common.{◌≡◌, ◌≢◌, ℕ, zero, suc, ◌+◌, ◌<◌, List, [], ◌∷◌, ◌++◌, length, take, get_or, ap, ◌∙◌, sym, refl, subst, inl, inr, arith, add-one, append_assoc, append-nil}
use Rattle.std.specs.Prelude.{Result, Ok, Err, IfOk, Some, slice_get, unwrap_or}
use Rattle.std.specs.List.{AllByRecursion}
use Rattle.std.proofs.Math.Seq.{take-suc}
use Rattle.std.proofs.lemmas.List.{length-take-le}
use Rattle.std.proofs.lemmas.Option.{slice_get-get_or, slice_get_within}
use Rattle.st_el.specs.declared.definition.Def.{Def}
use Rattle.st_num.specs.declared.fault.Fault.{Fault as SyntaxFault}
use Rattle.st_num.specs.declared.fault.Fault.TheVariants as syntax
use Rattle.st_elab_def.specs.declared.breach.Breach.{Breach}
use Rattle.st_elab_def.specs.declared.elaborated.Elaborated.{Elaborated}
use Rattle.st_elab_def.specs.Breaches.{IsBreach}
use Rattle.st_elab_def.specs.Elaboration.{IsElaborated}
use Rattle.st_elab_def.proofs.IsBreach.{IsBreach-within}
use Rattle.st_semantics.specs.Breaches.{IsModeBreach}
use Rattle.st_source.proofs.breach_places.Definitions.{DefStands}
use Rattle.st_source.proofs.breach_places.Law.{IsBefore, definitions-stand, breaches-stand}
use Rattle.st_num.specs.declared.memory.NoMemory.{NoMemory}
use Rattle.st_num.specs.declared.rule.RuleId.{RuleId}
use Rattle.st_num.specs.declared.span.Span.{Span}
use Rattle.st_parse.specs.Source.{IsSource, Answers}
use Rattle.st_parse.proofs.StandingFaults.{fault_stands}
use Rattle.st_num.specs.declared.fault.Fault.{Fault as LexFault}
use Rattle.st_num.specs.declared.fault.Fault.TheVariants.{Refused, Memory}
use Rattle.st_num.specs.declared.token.Token.{Token}
use Rattle.st_scan.specs.Answers.{TellsFirst}
use Rattle.st_scan.specs.Faults.{FirstFault, of_token, of_utf8}
use Rattle.st_scan.specs.Tokens.{Tokens}
use Rattle.st_answers.specs.declared.answer.Answer.{Answer}
use Rattle.st_source.specs.Faults.{AllTokens, IsSourceFault, TellsFault}
use Rattle.st_source.specs.Refused.{IsRefused, broken, unmoded, AreRefused, faulty}
use Rattle.st_source.specs.inner.Placing.{TellsSourceFault, BreachesWithin, BeginWithin}
use Rattle.st_source.proofs.SourcePlaces.{breach-placed, source-within}
use Rattle.st_source.proofs.TokenPlaces.{all_before, place_before}
use Rattle.st_answers.proofs.Refusals.{RefusesIn}
use Rattle.st_answers.specs.RefusalTexts.{no_definition, refused_source_text}

-- a fault stands in the file that was scanned
fault_file : (number : ℕ) (file : List ℕ) (at : Span) (rule : RuleId) → FirstFault number file at rule → at.file ≡ number
fault_file number file at rule (of_token here found fault is before) = ap (λ (s : Span). s.file) is
fault_file number file at rule (of_utf8 n valid is before) = ap (λ (s : Span). s.file) is

-- the tokens of one file more
all_more : (number : ℕ) (files : List (List ℕ)) (tokens : List Token) (file : List ℕ) (more : List Token) → AllTokens number files tokens → Tokens (number + length files) file more
    → AllTokens number (files ++ file ∷ []) (tokens ++ more)
all_more number [] tokens file more none has =
    let here : number + 0 ≡ number = omega arith in
    (more, [], subst (λ n. Tokens n file more) here has, refl, ap (λ ts. ts ++ more) none ∙ sym (append-nil more))
all_more number (one ∷ files) tokens file more (first, later, here, rest, is) has =
    let next : number + length (one ∷ files) ≡ suc number + length files = omega arith in (
      first,
      later ++ more,
      here,
      all_more (suc number) files later file more rest (subst (λ n. Tokens n file more) next has),
      ap (λ ts. ts ++ more) is ∙ append_assoc first later more,
    )

pub scan_more : (files : List (List ℕ)) (k : ℕ) (file text : List ℕ) (tokens more all : List Token) → AllTokens 0 (take k files) tokens → k < length files → file ≡ get_or files k file
    → text ≡ file → Tokens k text more → all ≡ tokens ++ more → AllTokens 0 (take (k + 1) files) all
scan_more files k file text tokens more all before below is same has are =
    let front : take (k + 1) files ≡ take k files ++ file ∷ [] = ap (λ n. take n files) (add-one k) ∙ take-suc files k file below ∙ ap (λ x. take k files ++ x ∷ []) (sym is) in
    let count : k ≡ 0 + length (take k files) = omega (arith, length-take-le k files (omega arith)) in
    let here = subst (λ n. Tokens n file more) count (subst (λ t. Tokens k t more) same has) in
    subst (λ ts. AllTokens 0 (take (k + 1) files) ts) (sym are) (subst (λ fs. AllTokens 0 fs (tokens ++ more)) (sym front) (all_more 0 (take k files) tokens file more before here))

-- the first fault
pub source_fault : (files : List (List ℕ)) (k : ℕ) (file text : List ℕ) (tokens : List Token) (fault : LexFault) → AllTokens 0 (take k files) tokens → k < length files
    → file ≡ get_or files k file → text ≡ file → TellsFirst k text fault → TellsFault files fault
source_fault files k file text tokens Memory before below is same tells = tt
source_fault files k file text tokens (Refused at rule) before below is same tells =
    let here = fault_file k text at rule tells in
    record {
      tokens = tokens;
      before = subst (λ n. AllTokens 0 (take n files) tokens) (sym here) before;
      file = file;
      is_file = ap (slice_get files) here ∙ slice_get-get_or files k file below ∙ ap Some (sym is);
      fault = subst (λ t. FirstFault at.file t at rule) same (subst (λ n. FirstFault n text at rule) (sym here) tells);
    }

pub fault_within : (files names : List (List ℕ)) (at : Span) (rule : RuleId) → IsSourceFault files at rule → length files ≡ length names → at.file < length names
fault_within files names at rule (inl fault) named = omega (arith, slice_get_within files at.file fault.file fault.is_file, named)
fault_within files names at rule (inr fault) named =
    let count : length files ≡ 0 + length files = omega arith in
    let small : at.file < length files =
    fault_stands (λ (s : Span). s.file < length files) fault.tokens at rule (all_before (length files) 0 files fault.tokens count fault.all)
    (λ k. place_before files fault.tokens k fault.all (λ none. fault.some none)) fault.fault in
    omega (arith, small, named)

-- the first fault of the tokens of all files
pub found_fault : (files : List (List ℕ)) (tokens : List Token) (found : Result (List Def) SyntaxFault) (at : Span) (rule : RuleId) → AllTokens 0 files tokens → tokens ≢ []
    → Answers tokens found → found ≡ Err (syntax.Refused at rule) → IsSourceFault files at rule
found_fault files tokens found at rule all some answers is =
    inr (record { tokens = tokens; all = all; some = some; fault = subst (Answers tokens) is answers })

-- so is what is told of their tokens
pub token_stands : (files : List (List ℕ)) (fault : LexFault) → TellsFault files fault → TellsSourceFault files fault
token_stands files (Refused at rule) tells = inl tells
token_stands files Memory tells = tt

-- and of what they break of the grammar or the limits
pub syntax_stands : (files : List (List ℕ)) (tokens : List Token) (found : Result (List Def) SyntaxFault) (fault : SyntaxFault) → AllTokens 0 files tokens → tokens ≢ []
    → Answers tokens found → found ≡ Err fault → TellsSourceFault files fault
syntax_stands files tokens found (syntax.Refused at rule) all some answers is = found_fault files tokens found at rule all some answers is
syntax_stands files tokens found syntax.Memory all some answers is = tt

-- ---- definitions

-- the definitions of a source are refused by an answer
abbrev pub TellsSource : List (List ℕ) → List Def → Result Answer NoMemory → Type 0
TellsSource names defs result = IfOk result (λ answer. IsRefused names defs answer.bytes.items)

pub source_broken : (names : List (List ℕ)) (defs : List Def) (b : Breach) (def : Def) (result : Result Answer NoMemory) → IsBreach defs b → def ≡ get_or defs b.definition def
    → IfOk result (RefusesIn names def b.at b.rule) → TellsSource names defs result
source_broken names defs b def (Err fault) breach is bytes = tt
source_broken names defs b def (Ok answer) breach is (name, named, text) =
    broken b def name breach (slice_get-get_or defs b.definition def (IsBreach-within defs b breach) ∙ ap Some (sym is)) named text

pub source_unmoded : (names : List (List ℕ)) (defs : List Def) (e : Elaborated) (place number d : ℕ) (rule : RuleId) (def : Def) (result : Result Answer NoMemory)
    → IsElaborated defs e → IsModeBreach e.il place rule → number ≡ get_or e.sources place d → def ≡ get_or defs number def
    → IfOk result (RefusesIn names def def.at rule) → TellsSource names defs result
source_unmoded names defs e place number d rule def (Err fault) elaborated breach source is bytes = tt
source_unmoded names defs e place number d rule def (Ok answer) elaborated breach source is (name, named, text) =
    let placed = breach-placed defs e place rule elaborated breach in
    let within = source-within defs e place number d elaborated placed source in
    unmoded e place number rule def name elaborated breach (slice_get-get_or e.sources place d placed ∙ ap Some (sym source)) (slice_get-get_or defs number def within ∙ ap Some (sym is)) named text

some_file : (files : List (List ℕ)) (tokens : List Token) → AllTokens 0 files tokens → tokens ≢ [] → 0 < length files
some_file [] tokens all some = absurd (some all)
some_file (file ∷ files) tokens all some = omega arith

-- each breach of the definitions of a source is in one of its files
pub breaches_within : (files names : List (List ℕ)) (tokens : List Token) (defs : List Def) → AllTokens 0 files tokens → tokens ≢ [] → IsSource tokens defs → length files ≡ length names
    → BreachesWithin (length names) defs
breaches_within files names tokens defs all some source named b breach =
    let count : length files ≡ 0 + length files = omega arith in
    let before = all_before (length files) 0 files tokens count all in
    let within : b.at.file < length files = breaches-stand (length files) tokens defs b (some_file files tokens all some) before source.0.1 breach in
    omega (arith, within, named)

def_begins : (n : ℕ) (defs : List Def) (k : ℕ) (def : Def) → AllByRecursion (DefStands (IsBefore n)) defs → slice_get defs k ≡ Some def → def.at.file < n
def_begins n [] k def stand is = let none : ⊥ = omega (arith, slice_get_within [] k def is) in absurd none
def_begins n (d ∷ ds) zero def stand is = subst (λ (x : Def). x.at.file < n) (ap (λ o. unwrap_or o d) is) stand.0.0
def_begins n (d ∷ ds) (suc k) def stand is = def_begins n ds k def stand.1 is

-- each of the definitions begins in one of the files
pub begin_within : (files names : List (List ℕ)) (tokens : List Token) (defs : List Def) → AllTokens 0 files tokens → tokens ≢ [] → IsSource tokens defs → length files ≡ length names
    → BeginWithin (length names) defs
begin_within files names tokens defs all some source named k def is =
    let count : length files ≡ 0 + length files = omega arith in
    let before = all_before (length files) 0 files tokens count all in
    let within : def.at.file < length files = def_begins (length files) defs k def (definitions-stand (length files) tokens defs (some_file files tokens all some) before source.0.1) is in
    omega (arith, within, named)

-- ---- the answer

-- the files are refused by an answer
abbrev pub TellsFiles : List (List ℕ) → List (List ℕ) → Result Answer NoMemory → Type 0
TellsFiles names files result = IfOk result (λ answer. AreRefused names files answer.bytes.items)

pub files_refused : (names files : List (List ℕ)) (name text : List ℕ) (at : Span) (rule : RuleId) (result : Result Answer NoMemory) → IsSourceFault files at rule
    → length files ≡ length names → name ≡ get_or names at.file name → text ≡ name → IfOk result (λ answer. answer.bytes.items ≡ refused_source_text text at no_definition rule)
    → TellsFiles names files result
files_refused names files name text at rule (Err e) fault named is same bytes = tt
files_refused names files name text at rule (Ok answer) fault named is same bytes =
    faulty name at rule fault (slice_get-get_or names at.file name (fault_within files names at rule fault named) ∙ ap Some (sym is))
    (bytes ∙ ap (λ n. refused_source_text n at no_definition rule) same)
