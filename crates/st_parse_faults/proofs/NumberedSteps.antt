-- What a token between the parts of definitions adds, by what stands before it.
use Rattle.std.proofs.Common.{◌≡◌, ℕ, ◌+◌, ◌-◌, ◌≤◌, List, [], ◌∷◌, ◌++◌, Bool, true, false, ◌&&◌, ◌||◌, Option, Some, None, nat_lt, if◌then◌else◌, refl, sym, ap, ◌∙◌, arith}
use Rattle.std.specs.List.{list_any}
use Rattle.st_num.specs.declared.limit.TheConstants.{HIGHEST_TREE}
use Rattle.st_grammar.specs.Terminals.{Terminal}
use Rattle.st_grammar.specs.Reading as part
use Rattle.st_grammar.specs.Positions.{case_slot, arg_slot, entering, State, at, inside, when}
use Rattle.st_parse_faults.specs.declared.counts.Counts.{Counts}
use Rattle.st_parse_faults.specs.declared.counts.Event.{Event}
use Rattle.st_parse_faults.specs.declared.counts.Event.TheVariants.{Nothing}
use Rattle.st_parse_faults.specs.inner.Counts.{member_due, event, counts_after, counts_pass}
use Rattle.st_parse_faults.specs.Number.{Number, too_deep, too_many}
use Rattle.st_parse_faults.specs.Numbers.{open_entry}
use Rattle.st_parse_faults.specs.Nesting.{nesting_after}
use Rattle.st_parse_faults.specs.inner.Bars.{bars, may_open}
use Rattle.st_parse_faults.specs.inner.Limits.{part_passes}
use Rattle.st_parse_faults.specs.inner.PositionNumbers.{read_numbers, brackets, counts_in}
use Rattle.st_parse_faults.proofs.KeptTallies.{neither}
use Rattle.st_parse_faults.proofs.NumberFacts.{or_false, beside}
use Rattle.st_parse_faults.proofs.NumberSteps.{not_above}
use Rattle.st_parse_faults.proofs.PositionNumberFacts.{still, still_nests, Opens, event_entry, event_passes}

-- ---- what stands before a token

-- the entries before the token, the brackets and bars that are open there, what is counted, whether
-- a member is due, and whether a number passes its limit between the brackets of a part
pub record Front : Type 0 where
  pub entries : List (List Number)
  pub nest : ℕ
  pub bar : ℕ
  pub count : Counts
  pub due : Bool
  pub passes : Bool

abbrev pub front_of : State → Front
front_of st = record {
  entries = read_numbers st;
  nest = brackets st;
  bar = bars st;
  count = counts_in st;
  due = member_due st;
  passes = part_passes st;
}

-- The state is one that is reached: only an alternative or an argument is entered, and the first
-- token of an alternative is read with it.
abbrev pub Ready : State → Type 0
Ready (at (entering (case_slot h ms pre))) = Unit {0}
Ready (at (entering (arg_slot ds w f o ts pre))) = Unit {0}
Ready (at (entering s)) = ⊥
Ready (inside (case_slot h ms pre) (part.want (part.bottom σ))) = ⊥
Ready st = Unit {0}

-- The token adds an entry, which passes a limit where the counts and the tallies behind it do, and
-- opens what it says.
pub record Step (f : Front) (l : Terminal) (next : State) : Type 0 where
  pub entry : List Number
  pub grown : read_numbers next ≡ f.entries ++ entry ∷ []
  pub counted : counts_in next ≡ counts_after f.count (event f.due next)
  pub limit : (counts_pass f.count || f.passes) ≡ false → list_any too_many entry ≡ (counts_pass (counts_in next) || part_passes next)
  pub nests : brackets next ≡ nesting_after f.nest l
  pub opens : f.nest + f.bar ≤ HIGHEST_TREE → (may_open l && nat_lt HIGHEST_TREE (brackets next + bars next)) ≡ list_any too_deep entry
  pub stays : may_open l ≡ false → brackets next + bars next ≤ f.nest + f.bar
  pub ready : Ready next

abbrev pub StepTo : Front → Terminal → Option State → Type 0
StepTo f l None = Unit {0}
StepTo f l (Some next) = Step f l next

pub step_if : (f : Front) (l : Terminal) (b : Bool) (x : State) (o : Option State) → (b ≡ true → Step f l x) → (b ≡ false → StepTo f l o) → StepTo f l (if b then Some x else o)
step_if f l true x o g h = g refl
step_if f l false x o g h = h refl

pub step_both : (f : Front) (l : Terminal) (b : Bool) (p o : Option State) → (b ≡ true → StepTo f l p) → (b ≡ false → StepTo f l o) → StepTo f l (if b then p else o)
step_both f l true p o g h = g refl
step_both f l false p o g h = h refl

pub step_when : (f : Front) (l : Terminal) (b : Bool) (x : State) → (b ≡ true → Step f l x) → StepTo f l (when b x)
step_when f l true x g = g refl
step_when f l false x g = tt

-- the same step where the same stands before it
pub same_step : (f g : Front) (l : Terminal) (o : Option State) → f.entries ≡ g.entries → f.nest ≡ g.nest → f.bar ≡ g.bar → f.count ≡ g.count → f.due ≡ g.due → (f.passes ≡ false → g.passes ≡ false) → StepTo g l o → StepTo f l o
same_step f g l None d e h i j p s = tt
same_step f g l (Some next) d e h i j p s = record {
  entry = s.entry;
  grown = s.grown ∙ ap (λ v. v ++ s.entry ∷ []) (sym d);
  counted = s.counted ∙ ap (λ c. counts_after c (event g.due next)) (sym i) ∙ ap (λ b. counts_after f.count (event b next)) (sym j);
  limit = λ k. let q = neither (counts_pass f.count) f.passes k in s.limit (ap (λ v. v || g.passes) (ap counts_pass (sym i) ∙ q.0) ∙ p q.1);
  nests = s.nests ∙ ap (λ v. nesting_after v l) (sym e);
  opens = λ k. s.opens (omega (arith, k, e, h));
  stays = λ k. omega (arith, s.stays k, e, h);
  ready = s.ready;
}

closed_test : (a b : Bool) → b ≡ false → (a && b) ≡ false
closed_test true b e = e
closed_test false b e = refl

-- a step by its event
pub step_by : (f : Front) (l : Terminal) (next : State) (entry : List Number) (e : Event) → read_numbers next ≡ f.entries ++ entry ∷ [] → event f.due next ≡ e → counts_in next ≡ counts_after f.count e
    → list_any too_many entry ≡ list_any too_many (event_entry e (counts_in next)) → (f.passes ≡ false → part_passes next ≡ false) → brackets next ≡ nesting_after f.nest l
    → (f.nest + f.bar ≤ HIGHEST_TREE → (may_open l && nat_lt HIGHEST_TREE (brackets next + bars next)) ≡ list_any too_deep entry) → (may_open l ≡ false → brackets next + bars next ≤ f.nest + f.bar) → Ready next → Step f l next
step_by f l next entry e g d k m p n o y r = record {
  entry = entry;
  grown = g;
  counted = k ∙ ap (counts_after f.count) (sym d);
  limit = λ h.
      let q = neither (counts_pass f.count) f.passes h in
      m
      ∙ ap (λ c. list_any too_many (event_entry e c)) k
      ∙ event_passes f.count e q.0
      ∙ ap counts_pass (sym k)
      ∙ sym (beside (counts_pass (counts_in next)) (part_passes next) (p q.1));
  nests = n;
  opens = o;
  stays = y;
  ready = r;
}

-- a step that opens no bracket
pub flat : (f : Front) (l : Terminal) (next : State) (entry : List Number) (e : Event) → read_numbers next ≡ f.entries ++ entry ∷ [] → event f.due next ≡ e → counts_in next ≡ counts_after f.count e
    → list_any too_many entry ≡ list_any too_many (event_entry e (counts_in next)) → list_any too_deep entry ≡ false → (f.passes ≡ false → part_passes next ≡ false)
    → brackets next ≡ nesting_after f.nest l → brackets next ≤ f.nest → bars next ≡ 0 → Ready next → Step f l next
flat f l next entry e g d k m q p n b z r =
    step_by f l next entry e g d k m p n
    (λ h. closed_test (may_open l) (nat_lt HIGHEST_TREE (brackets next + bars next)) (not_above HIGHEST_TREE (brackets next + bars next) (omega (arith, h, b, z))) ∙ sym q) (λ h. omega (arith, b, z)) r

-- a step of a token that is no bracket and begins nothing
pub quiet : (f : Front) (l : Terminal) (next : State) → still l ≡ true → read_numbers next ≡ f.entries ++ [] ∷ [] → event f.due next ≡ Nothing → counts_in next ≡ f.count → (f.passes ≡ false → part_passes next ≡ false)
    → brackets next ≡ f.nest → bars next ≡ 0 → Ready next → Step f l next
quiet f l next t g d k p b z r = flat f l next [] Nothing g d k refl refl p (b ∙ sym (still_nests l f.nest t)) (omega (arith, b)) z r

-- a step of a token that closes a bracket
pub shuts : (f : Front) (l : Terminal) (next : State) → read_numbers next ≡ f.entries ++ [] ∷ [] → event f.due next ≡ Nothing → counts_in next ≡ f.count → (f.passes ≡ false → part_passes next ≡ false)
    → nesting_after f.nest l ≡ f.nest - 1 → brackets next ≡ f.nest - 1 → bars next ≡ 0 → Ready next → Step f l next
shuts f l next g d k p n b z r = flat f l next [] Nothing g d k refl refl p (b ∙ sym n) (omega (arith, b)) z r

-- a step of a bracket that opens
pub opener : (f : Front) (l : Terminal) (next : State) (k : ℕ) → Opens l → f.nest ≡ k → read_numbers next ≡ f.entries ++ open_entry [] (k + 1) ∷ [] → event f.due next ≡ Nothing → counts_in next ≡ f.count
    → (f.passes ≡ false → part_passes next ≡ false) → brackets next ≡ k + 1 → bars next ≡ 0 → Ready next → Step f l next
opener f l next k o i g d c p b z r =
    step_by f l next (open_entry [] (k + 1)) Nothing g d c refl p (b ∙ sym (o.more k) ∙ ap (λ v. nesting_after v l) (sym i))
    (λ h. ap (λ v. v && nat_lt HIGHEST_TREE (brackets next + bars next)) o.may ∙ ap (nat_lt HIGHEST_TREE) (omega (arith, b, z)) ∙ sym (or_false (nat_lt HIGHEST_TREE (k + 1)))) (λ h. let no : true ≡ false = sym o.may ∙ h in absurd (cc)) r
