-- Each token of expressions adds its entry of numbers, and the verdict on tokens is told by the
-- numbers of the expressions that begin with them.
use Rattle.std.proofs.Common.{◌≡◌, ℕ, ◌+◌, ◌≤◌, ◌<◌, List, [], ◌∷◌, ◌++◌, length, map, take, get_or, Bool, true, false, ◌&&◌, ◌||◌, nat_lt, Option, Some, None, option_and_then, if◌then◌else◌, refl, sym, ap, subst, ◌∙◌, append_assoc, append-nil, arith}
use Rattle.std.specs.List.{list_any}
use Rattle.std.proofs.lemmas.List.{take-map, length-map, length-take}
use Rattle.std.proofs.Math.Seq.{take-append_seam}
use Rattle.st_num.specs.declared.limit.TheConstants.{HIGHEST_TREE}
use Rattle.st_num.specs.declared.mark.Mark.{Mark}
use Rattle.st_num.specs.declared.rule.RuleId.{RuleId}
use Rattle.st_num.specs.declared.rule.RuleId.TheVariants.{S2, S3}
use Rattle.st_num.specs.declared.token.Token.{Token}
use Rattle.st_grammar.specs.declared.sort.Sort.TheVariants.{Expression as expression}
use Rattle.st_grammar.specs.Terminals.{Terminal, sign, terminal}
use Rattle.st_grammar.specs.Levels.{is_comma}
use Rattle.st_grammar.specs.Trees.{Tree, Trees, more}
use Rattle.st_grammar.specs.Definitions.{signed}
use Rattle.st_grammar.specs.Reading as part
use Rattle.st_grammar.specs.Positions as positions
use Rattle.st_grammar.proofs.PositionSteps.{signed_is}
use Rattle.st_grammar.proofs.PositionTexts as texts
use Rattle.st_parse_faults.specs.Nesting.{nesting_after, brackets_behind}
use Rattle.st_parse_faults.specs.inner.Bars.{frame_bars, part_bars, may_open}
use Rattle.st_parse_faults.specs.inner.Limits.{part_tallies, tally_passes}
use Rattle.st_parse_faults.specs.inner.Judging.{passed, broken, limited, judge_all}
use Rattle.st_parse_faults.specs.Number.{Number, too_deep, too_many}
use Rattle.st_parse_faults.specs.Numbers.{Context, context, no_entries, numbers}
use Rattle.st_parse_faults.specs.DefinitionNumbers.{alone}
use Rattle.st_parse_faults.specs.Faults.{passes_limit, limit_rule, NonePasses, PassesLimit}
use Rattle.st_parse_faults.specs.inner.Numbering.{state_numbers, frame_brackets, part_brackets}
use Rattle.st_parse_faults.proofs.Entries.{below, front_clear, entry_clear, more_clear, entry_at, limit_broken, broken_limit}
use Rattle.st_parse_faults.proofs.NumberBegins as inner
use Rattle.st_parse_faults.proofs.NumberSteps.{lowers, part_steps, part_ends}
use Rattle.st_parse_faults.proofs.JudgingLemmas as judging
use Rattle.st_parse_faults.proofs.JudgingLemmas.{never_passes}
use Rattle.st_parse.specs.Expressions.{ParseExpressions, terminals_of}
use Rattle.st_parse.specs.inner.ExpressionReading.{State, begun, turn, goes, step, whole, finish, reading, start}
use Rattle.st_parse.specs.ExpressionFaults.{expression_numbers, expressions_numbers, expression_text, FrontKept}
use Rattle.st_parse.specs.inner.ExpressionFolding as folding
use Rattle.st_parse.specs.inner.ExpressionFolding.{Seen, opens_too_many, seen_after, refusal, judged, judge, verdict, nothing_seen}
use Rattle.st_parse.proofs.ExpressionReadings.{at, reading_append, complete, Reached, ReachedBy, stepped, reached, viable}
use Rattle.st_parse.proofs.ExpressionSeenView.{slot, rule_holds}
use Rattle.st_parse.proofs.ExpressionVerdicts.{verdict_reads}
use Rattle.st_parse.proofs.ExpressionExact.{last_step, one_more}

-- ---- what stands before a token

-- Nothing stands before an expression, and no bracket is open there.
abbrev bare : Context
bare = alone (expression false) 0 []

-- what each token that is read of expressions begins
abbrev pub read_numbers : State → List (List Number)
read_numbers st =
    expressions_numbers st.before ++ (no_entries st.apart ++ state_numbers (alone (expression false) 0 []) st.here)

-- how many brackets are open where expressions are read so far
abbrev pub brackets : State → ℕ
brackets st = 0 + part_brackets st.here

-- Between some brackets of the open expression a number passes its limit.
abbrev pub passes : State → Bool
passes st = list_any tally_passes (part_tallies 0 st.here)

-- some tokens led there
abbrev pub Held : State → Type 0
Held st = (us : List Terminal) × Reached us st

abbrev pub HeldTo : Option State → Type 0
HeldTo None = Unit {0}
HeldTo (Some st) = Held st

pub start_held : Held start
start_held = ([], reached [] start refl)

held_next : (st : State) (l : Terminal) → Held st → HeldTo (step st l)
held_next st l h = go (step st l) (stepped h.0 st l h.1)
  where
    go : (o : Option State) → ReachedBy (h.0 ++ l ∷ []) o → HeldTo o
    go None r = tt
    go (Some next) r = (h.0 ++ l ∷ [], r)

held_part : (st : State) → Held st → texts.Holds (positions.inside slot st.here)
held_part st h = rule_holds st.here h.1.now h.1.read

-- ---- a token

-- The token adds an entry, which passes a limit where the tallies behind it do, and opens what it
-- says.
pub record Step (st : State) (l : Terminal) (next : State) : Type 0 where
  pub entry : List Number
  pub grown : read_numbers next ≡ read_numbers st ++ entry ∷ []
  pub limit : passes st ≡ false → list_any too_many entry ≡ passes next
  pub nests : brackets next ≡ nesting_after (brackets st) l
  pub opens : brackets st + part_bars st.here ≤ HIGHEST_TREE → (may_open l && nat_lt HIGHEST_TREE (brackets next + part_bars next.here)) ≡ list_any too_deep entry
  pub stays : may_open l ≡ false → brackets next + part_bars next.here ≤ brackets st + part_bars st.here

abbrev pub StepTo : State → Terminal → Option State → Type 0
StepTo st l None = Unit {0}
StepTo st l (Some next) = Step st l next

-- With an expression nothing else begins.
no_outer : (st : part.State) → inner.outer_of bare st ≡ []
no_outer (part.want (part.bottom σ)) = refl
no_outer (part.want (part.within h ts pre fs)) = refl
no_outer (part.want (part.over g fs)) = refl
no_outer (part.want (part.timing t m x fs)) = refl
no_outer (part.got t fs) = refl
no_outer (part.naming h ts pre fs) = refl
no_outer (part.pathed p fs) = refl
no_outer (part.indexing o fs) = refl
no_outer (part.comparing o i fs) = refl

regroup : (a b c : List (List Number)) (e : List Number) → a ++ (b ++ (c ++ e ∷ [])) ≡ (a ++ (b ++ c)) ++ e ∷ []
regroup a b c e = simp append_assoc

-- The open expression takes it.
part_grows : (st : State) (l : Terminal) (next : part.State) → inner.Step bare (inner.front_of bare st.here) l next → Step st l (at st.before st.apart next)
part_grows st l next r = record {
  entry = r.entry;
  grown =
      ap (λ v. expressions_numbers st.before ++ (no_entries st.apart ++ v)) r.grown
      ∙ regroup (expressions_numbers st.before) (no_entries st.apart) (state_numbers bare st.here) r.entry;
  limit = λ h. r.limit h ∙ ap (λ v. list_any too_many v || passes (at st.before st.apart next)) (no_outer st.here);
  nests = r.nests;
  opens = r.opens;
  stays = λ h. omega (arith, r.stays h);
}

-- no bracket is open where an expression ends
ended_shut : (p : Tree × part.Frames) (t : Tree) → part.ended p ≡ Some t → (frame_brackets p.1 ≡ 0) × (frame_bars p.1 ≡ 0)
ended_shut (u, part.bottom σ) t e = (refl, refl)
ended_shut (u, part.within h ts pre fs) t e = absurd (cc)
ended_shut (u, part.over g fs) t e = absurd (cc)
ended_shut (u, part.timing v m x fs) t e = absurd (cc)

part_shut : (st : part.State) (t : Tree) → part.finish st ≡ Some t → (part_brackets st ≡ 0) × (part_bars st ≡ 0)
part_shut (part.got u fs) t e =
    let r = lowers bare 0 u fs in
    let d = ended_shut (part.lower 0 u fs) t e in
    (sym r.brackets ∙ d.0, sym r.bars ∙ d.1)
part_shut (part.want fs) t e = absurd (cc)
part_shut (part.naming h ts pre fs) t e = absurd (cc)
part_shut (part.pathed p fs) t e = absurd (cc)
part_shut (part.indexing o fs) t e = absurd (cc)
part_shut (part.comparing o i fs) t e = absurd (cc)

-- the entries of the open expression, where it ends
whole_numbers : (st : State) (t : Tree) → Held st → part.finish st.here ≡ Some t → state_numbers bare st.here ≡ expression_numbers t
whole_numbers st t h e = part_ends bare st.here t e ∙ ap (λ σ. numbers (context σ 0 0 0 []) t) (held_part st h).2

-- A comma ends it.
turn_grows : (st : State) (m : Mark) (x : Token) (t : Tree) → Held st → part.finish st.here ≡ Some t → Step st (sign m x) (begun (more st.before st.apart t) (sign m x ∷ []))
turn_grows st m x t h e = record {
  entry = [];
  grown = ap (λ v. (expressions_numbers st.before ++ (no_entries st.apart ++ v)) ++ [] ∷ []) (sym (whole_numbers st t h e));
  limit = λ q. refl;
  nests = ap (λ n. 0 + n) (sym (part_shut st.here t e).0);
  opens = λ q. refl;
  stays = λ q. let least : 0 ≤ brackets st + part_bars st.here = omega arith in least;
}

pub steps : (st : State) (l : Terminal) → Held st → StepTo st l (step st l)
steps st l h = go (part.step st.here l) (part_steps bare refl st.here l (held_part st h).1)
  where
    comma : (t : Tree) (b : Bool) → part.finish st.here ≡ Some t → signed is_comma l ≡ b → StepTo st l (if b then Some (begun (more st.before st.apart t) (l ∷ [])) else None)
    comma t true e c =
        let s = signed_is is_comma l c in
        subst (λ k. Step st k (begun (more st.before st.apart t) (k ∷ []))) (sym s.2) (turn_grows st s.0 s.1 t h e)
    comma t false e c = tt

    at_end : (q : Option Tree) → part.finish st.here ≡ q → StepTo st l (turn st l q)
    at_end None e = tt
    at_end (Some t) e = comma t (signed is_comma l) e refl

    go : (o : Option part.State) → inner.StepTo bare (inner.front_of bare st.here) l o → StepTo st l (goes st l o)
    go None q = at_end (part.finish st.here) refl
    go (Some next) q = part_grows st l next q

pub finishes : (st : State) (ts : Trees) → Held st → finish st ≡ Some ts → read_numbers st ≡ expressions_numbers ts
finishes st ts h e = go (part.finish st.here) refl e
  where
    go : (q : Option Tree) → part.finish st.here ≡ q → whole st q ≡ Some ts → read_numbers st ≡ expressions_numbers ts
    go None f g = absurd (cc)
    go (Some t) f g =
        let is : more st.before st.apart t ≡ ts = cc in
        ap (λ v. expressions_numbers st.before ++ (no_entries st.apart ++ v)) (whole_numbers st t h f) ∙ ap expressions_numbers is

-- ---- readings

-- what more tokens add
pub record Grown (st : State) (w : List Terminal) (next : State) : Type 0 where
  pub held : Held next
  pub entries : List (List Number)
  pub grown : read_numbers next ≡ read_numbers st ++ entries
  pub long : length entries ≡ length w
  pub nests : brackets next ≡ brackets_behind (brackets st) w

pub grows : (w : List Terminal) (st next : State) → Held st → reading st w ≡ Some next → Grown st w next
grows [] st next h e =
    let is : st ≡ next = cc in
    subst (Grown st []) is (record { held = h; entries = []; grown = sym (append-nil (read_numbers st)); long = refl; nests = refl })
grows (l ∷ w) st next h e = go (step st l) (steps st l h) (held_next st l h) e (λ mid k f. grows w mid next k f)
  where
    go : (o : Option State) → StepTo st l o → HeldTo o → option_and_then (λ mid. reading mid w) o ≡ Some next
        → ((mid : State) → Held mid → reading mid w ≡ Some next → Grown mid w next) → Grown st (l ∷ w) next
    go None s q f later = absurd (cc)
    go (Some mid) s q f later =
        let g = later mid q f in
        record {
          held = g.held;
          entries = s.entry ∷ g.entries;
          grown = g.grown ∙ ap (λ v. v ++ g.entries) s.grown ∙ append_assoc (read_numbers st) (s.entry ∷ []) g.entries;
          long = omega (arith, g.long);
          nests = g.nests ∙ ap (λ v. brackets_behind v w) s.nests;
        }

pub grown : (us : List Terminal) (st : State) → reading start us ≡ Some st → Grown start us st
grown us st e = grows us start st start_held e

-- the entries of what is read stand first among those of expressions that begin so
pub record Fronts (us : List Terminal) (st : State) (ts : Trees) : Type 0 where
  pub entries : List (List Number)
  pub grown : expressions_numbers ts ≡ read_numbers st ++ entries
  pub long : length (read_numbers st) ≡ length us

pub reads_front : (us w : List Terminal) (ts : Trees) → ParseExpressions (us ++ w) ts → (st : State) × (reading start us ≡ Some st) × Fronts us st ts
reads_front us w ts p = go (reading start us) refl (sym (ap (option_and_then finish) (reading_append start us w)) ∙ complete (us ++ w) ts p)
  where
    ends : (st : State) → reading start us ≡ Some st → (o : Option State) → reading st w ≡ o → option_and_then finish o ≡ Some ts → Fronts us st ts
    ends st e None f g = absurd (cc)
    ends st e (Some end) f g =
        let a = grown us st e in
        let b = grows w st end a.held f in
        record { entries = b.entries; grown = sym (finishes end ts b.held g) ∙ b.grown; long = ap (length {A = List Number}) a.grown ∙ a.long }

    go : (o : Option State) → reading start us ≡ o → option_and_then finish (option_and_then (λ st. reading st w) o) ≡ Some ts → (st : State) × (reading start us ≡ Some st) × Fronts us st ts
    go None e f = absurd (cc)
    go (Some st) e f = (st, e, ends st e (reading st w) refl f)

pub front_entries : (us : List Terminal) (st : State) (ts : Trees) (k : ℕ) → Fronts us st ts → k ≡ length us → take k (expressions_numbers ts) ≡ read_numbers st
front_entries us st ts k f e =
    ap (λ n. take n (expressions_numbers ts)) (e ∙ sym f.long)
    ∙ ap (take (length (read_numbers st))) f.grown
    ∙ take-append_seam (read_numbers st) f.entries

-- ---- what is seen

-- what is seen is told by the state, and no token before it passes a limit
pub record Seeing (seen : Seen) : Type 0 where
  pub held : Held seen.state
  pub nests : seen.nesting ≡ brackets seen.state
  pub low : passes seen.state ≡ false
  pub shallow : brackets seen.state + part_bars seen.state.here ≤ HIGHEST_TREE
  pub clear : NonePasses (read_numbers seen.state)

nothing_is : Seeing nothing_seen
nothing_is = record { held = start_held; nests = refl; low = refl; shallow = omega arith; clear = refl }

deep_is : (seen : Seen) (l : Terminal) (next : State) → Seeing seen → (s : Step seen.state l next) → opens_too_many (seen_after seen l next) l ≡ list_any too_deep s.entry
deep_is seen l next i s =
    ap (λ v. may_open l && nat_lt HIGHEST_TREE (v + part_bars next.here)) (ap (λ n. nesting_after n l) i.nests ∙ sym s.nests)
    ∙ s.opens i.shallow

-- the verdict on a token that is read
limited_is : (seen : Seen) (l : Terminal) (next : State) → Seeing seen → (s : Step seen.state l next)
    → limited (opens_too_many (seen_after seen l next) l) (folding.passes_limit (seen_after seen l next)) (seen_after seen l next) ≡ limited (list_any too_deep s.entry) (list_any too_many s.entry) (seen_after seen l next)
limited_is seen l next i s =
    ap (λ b. limited b (folding.passes_limit (seen_after seen l next)) (seen_after seen l next)) (deep_is seen l next i s)
    ∙ ap (λ b. limited (list_any too_deep s.entry) b (seen_after seen l next)) (sym (s.limit i.low))

seeing_next : (seen : Seen) (l : Terminal) (next : State) → Held next → Seeing seen → (s : Step seen.state l next) → list_any too_deep s.entry ≡ false → list_any too_many s.entry ≡ false → Seeing (seen_after seen l next)
seeing_next seen l next h i s d m = record {
  held = h;
  nests = ap (λ n. nesting_after n l) i.nests ∙ sym s.nests;
  low = sym (s.limit i.low) ∙ m;
  shallow = go (may_open l) refl;
  clear = ap (list_any passes_limit) s.grown ∙ more_clear (read_numbers seen.state) s.entry i.clear d m;
}
  where
    go : (b : Bool) → may_open l ≡ b → brackets next + part_bars next.here ≤ HIGHEST_TREE
    go true e = below HIGHEST_TREE (brackets next + part_bars next.here) (sym (ap (λ b. b && nat_lt HIGHEST_TREE (brackets next + part_bars next.here)) e) ∙ s.opens i.shallow ∙ d)
    go false e = omega (arith, s.stays e, i.shallow)

module _ (names : List (List ℕ)) where
  -- what passes is seen so
  pub seeing : (xs : List Token) (seen last : Seen) → Seeing seen → judge_all (judge names) (passed seen) xs ≡ passed last → Seeing last
  seeing [] seen last i e = let is : seen ≡ last = cc in subst Seeing is i
  seeing (x ∷ xs) seen last i e = go (step seen.state (terminal names x)) (steps seen.state (terminal names x) i.held) (held_next seen.state (terminal names x) i.held) e (λ mid j f. seeing xs mid last j f)
    where
      l : Terminal
      l = terminal names x

      go : (o : Option State) → StepTo seen.state l o → HeldTo o → judge_all (judge names) (judged seen x l o) xs ≡ passed last
          → ((mid : Seen) → Seeing mid → judge_all (judge names) (passed mid) xs ≡ passed last → Seeing last) → Seeing last
      go None s q f later = absurd (never_passes Seen (judge names) (refusal seen x) xs last f)
      go (Some next) s q f later = by (list_any too_deep s.entry) refl (list_any too_many s.entry) refl (ap (λ v. judge_all (judge names) v xs) (sym (limited_is seen l next i s)) ∙ f)
        where
          by : (b : Bool) → list_any too_deep s.entry ≡ b → (c : Bool) → list_any too_many s.entry ≡ c → judge_all (judge names) (limited b c (seen_after seen l next)) xs ≡ passed last → Seeing last
          by true d c m g = absurd (never_passes Seen (judge names) S2 xs last g)
          by false d true m g = absurd (never_passes Seen (judge names) S3 xs last g)
          by false d false m g = later (seen_after seen l next) (seeing_next seen l next q i s d m) g

  -- what is read and passes no limit is passed
  pub passing : (xs : List Token) (seen : Seen) (st : State) → Seeing seen → reading seen.state (map (terminal names) xs) ≡ Some st → NonePasses (read_numbers st) → (last : Seen) × (judge_all (judge names) (passed seen) xs ≡ passed last)
  passing [] seen st i e c = (seen, refl)
  passing (x ∷ xs) seen st i e c = go (step seen.state (terminal names x)) (steps seen.state (terminal names x) i.held) (held_next seen.state (terminal names x) i.held) e (λ mid j f. passing xs mid st j f c)
    where
      l : Terminal
      l = terminal names x

      go : (o : Option State) → StepTo seen.state l o → HeldTo o → option_and_then (λ mid. reading mid (map (terminal names) xs)) o ≡ Some st
          → ((mid : Seen) → Seeing mid → reading mid.state (map (terminal names) xs) ≡ Some st → (last : Seen) × (judge_all (judge names) (passed mid) xs ≡ passed last))
          → (last : Seen) × (judge_all (judge names) (judged seen x l o) xs ≡ passed last)
      go None s q f later = absurd (cc)
      go (Some next) s q f later =
          let g = grows (map (terminal names) xs) next st q f in
          let k = entry_clear (read_numbers seen.state) s.entry (ap (list_any passes_limit) (sym s.grown) ∙ front_clear (read_numbers next) g.entries (ap (list_any passes_limit) (sym g.grown) ∙ c)) in
          let r = later (seen_after seen l next) (seeing_next seen l next q i s k.0 k.1) f in
          let b : limited (opens_too_many (seen_after seen l next) l) (folding.passes_limit (seen_after seen l next)) (seen_after seen l next) ≡ passed (seen_after seen l next) =
          limited_is seen l next i s ∙ ap (λ v. limited v (list_any too_many s.entry) (seen_after seen l next)) k.0 ∙ ap (λ v. limited false v (seen_after seen l next)) k.1 in
          (r.0, ap (λ v. judge_all (judge names) v xs) b ∙ r.1)

-- ---- fronts of tokens

taken_long : (names : List (List ℕ)) (tokens : List Token) (k : ℕ) → k ≤ length tokens → k ≡ length (take k (terminals_of names tokens))
taken_long names tokens k h = omega (arith, h, length-take k (terminals_of names tokens), length-map tokens (terminal names))

pub seeing_front : (names : List (List ℕ)) (tokens : List Token) (k : ℕ) (seen : Seen) → verdict names tokens k ≡ passed seen → Seeing seen
seeing_front names tokens k seen e = seeing names (take k tokens) nothing_seen seen nothing_is e

pub kept_front : (names : List (List ℕ)) (tokens : List Token) (k : ℕ) (seen : Seen) → k ≤ length tokens → verdict names tokens k ≡ passed seen → FrontKept names tokens k
kept_front names tokens k seen h e =
    let us = take k (terminals_of names tokens) in
    let v = viable names us seen.state (verdict_reads names tokens k seen e) in
    let r = reads_front us (map (terminal names) v.0) v.1 v.2 in
    let same : seen.state ≡ r.0 = let both : Some seen.state ≡ Some r.0 = sym (verdict_reads names tokens k seen e) ∙ r.1 in cc in (
      v.1,
      record { rest = v.0; grammar = v.2 },
      ap (list_any passes_limit) (front_entries us r.0 v.1 k r.2 (taken_long names tokens k h) ∙ ap read_numbers (sym same))
          ∙ (seeing_front names tokens k seen e).clear,
    )

pub front_passes : (names : List (List ℕ)) (tokens : List Token) (k : ℕ) → k ≤ length tokens → FrontKept names tokens k → (seen : Seen) × (verdict names tokens k ≡ passed seen)
front_passes names tokens k h (ts, b, c) =
    let us = take k (terminals_of names tokens) in
    let r = reads_front us (map (terminal names) b.rest) ts b.grammar in
    passing names (take k tokens) nothing_seen r.0 nothing_is (ap (reading start) (sym (take-map (terminal names) k tokens)) ∙ r.1)
    (ap (list_any passes_limit) (sym (front_entries us r.0 ts k r.2 (taken_long names tokens k h))) ∙ c)

-- ---- one more token

-- the entry of the token behind these
last_entry : (us : List Terminal) (l : Terminal) (st next : State) (ts : Trees) (k : ℕ) → reading start us ≡ Some st → k ≡ length us → (s : Step st l next) → Fronts (us ++ l ∷ []) next ts → get_or (expressions_numbers ts) k [] ≡ s.entry
last_entry us l st next ts k e h s f =
    let g = grown us st e in
    ap (λ v. get_or v k []) (f.grown ∙ ap (λ v. v ++ f.entries) s.grown)
    ∙ entry_at (read_numbers st) f.entries s.entry k (ap (length {A = List Number}) g.grown ∙ g.long ∙ sym h)

-- the verdict on token k, where those before it pass
abbrev pub next_token : List (List ℕ) → List Token → ℕ → Token → Terminal
next_token names tokens k d = terminal names (get_or tokens k d)

pub next_verdict : (names : List (List ℕ)) (tokens : List Token) (k : ℕ) (seen : Seen) (d : Token) → k < length tokens → verdict names tokens k ≡ passed seen → verdict names tokens (k + 1) ≡ judged seen (get_or tokens k d) (next_token names tokens k d) (step seen.state (next_token names tokens k d))
next_verdict names tokens k seen d h e =
    judging.verdict_more Seen (judge names) nothing_seen tokens k d h
    ∙ ap (λ w. judging.judge_next Seen (judge names) w (get_or tokens k d)) e

pub passes_there : (names : List (List ℕ)) (tokens : List Token) (k : ℕ) (r : RuleId) (seen : Seen) (d : Token) (next : State) → k < length tokens → verdict names tokens k ≡ passed seen → verdict names tokens (k + 1) ≡ broken r → step seen.state (next_token names tokens k d) ≡ Some next
    → PassesLimit (expression_text names tokens) k r
passes_there names tokens k r seen d next h e f g =
    let us = take k (terminals_of names tokens) in
    let l = next_token names tokens k d in
    let read = verdict_reads names tokens k seen e in
    let i = seeing_front names tokens k seen e in
    let s = subst (StepTo seen.state l) g (steps seen.state l i.held) in
    let more : reading start (take (k + 1) (terminals_of names tokens)) ≡ Some next = ap (reading start) (one_more names tokens k d h) ∙ last_step us l seen.state read ∙ g in
    let v = viable names (take (k + 1) (terminals_of names tokens)) next more in
    let p : ParseExpressions ((us ++ l ∷ []) ++ map (terminal names) v.0) v.1 = subst (λ ws. ParseExpressions (ws ++ map (terminal names) v.0) v.1) (one_more names tokens k d h) v.2 in
    let q = reads_front (us ++ l ∷ []) (map (terminal names) v.0) v.1 p in
    let same : q.0 ≡ next = let both : Some q.0 ≡ Some next = sym q.1 ∙ ap (reading start) (sym (one_more names tokens k d h)) ∙ more in cc in
    let entry : get_or (expressions_numbers v.1) k [] ≡ s.entry = last_entry us l seen.state next v.1 k read (taken_long names tokens k (omega (arith, h))) s (subst (λ w. Fronts (us ++ l ∷ []) w v.1) same q.2) in
    let verdict_is : limited (list_any too_deep s.entry) (list_any too_many s.entry) (seen_after seen l next) ≡ broken r =
    sym (limited_is seen l next i s) ∙ sym (ap (judged seen (get_or tokens k d) l) g) ∙ sym (next_verdict names tokens k seen d h e) ∙ f in
    (h, (v.1, record { rest = v.0; grammar = v.2 }, ap limit_rule entry ∙ limit_broken Seen s.entry r (seen_after seen l next) verdict_is))

pub breaks_there : (names : List (List ℕ)) (tokens : List Token) (k : ℕ) (r : RuleId) (seen : Seen) (d : Token) → verdict names tokens k ≡ passed seen → PassesLimit (expression_text names tokens) k r → verdict names tokens (k + 1) ≡ broken r
breaks_there names tokens k r seen d e (h, (ts, b, f)) =
    let us = take k (terminals_of names tokens) in
    let l = next_token names tokens k d in
    let read = verdict_reads names tokens k seen e in
    let i = seeing_front names tokens k seen e in
    let rest = map (terminal names) b.rest in
    let p : ParseExpressions ((us ++ l ∷ []) ++ rest) ts = subst (λ ws. ParseExpressions (ws ++ rest) ts) (one_more names tokens k d h) b.grammar in
    let q = reads_front (us ++ l ∷ []) rest ts p in
    let g : step seen.state l ≡ Some q.0 = sym (last_step us l seen.state read) ∙ q.1 in
    let s = subst (StepTo seen.state l) g (steps seen.state l i.held) in
    let entry : get_or (expressions_numbers ts) k [] ≡ s.entry = last_entry us l seen.state q.0 ts k read (taken_long names tokens k (omega (arith, h))) s q.2 in
    next_verdict names tokens k seen d h e
    ∙ ap (judged seen (get_or tokens k d) l) g
    ∙ limited_is seen l q.0 i s
    ∙ broken_limit Seen s.entry r (seen_after seen l q.0) (ap limit_rule (sym entry) ∙ f)
