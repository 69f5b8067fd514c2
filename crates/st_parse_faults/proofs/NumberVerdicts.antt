-- The verdict on tokens is told by the numbers of the definitions that begin with them.
use Rattle.std.proofs.Common.{◌≡◌, ℕ, ◌+◌, ◌≤◌, ◌<◌, List, [], ◌∷◌, ◌++◌, length, map, take, get_or, Bool, true, false, ◌&&◌, ◌||◌, nat_lt, Option, Some, None, option_and_then, refl, sym, ap, subst, ◌∙◌, append_assoc, append-nil, arith}
use Rattle.std.specs.List.{list_any}
use Rattle.std.proofs.lemmas.List.{take-map, length-map, length-take}
use Rattle.std.proofs.Math.Seq.{take-append_seam}
use Rattle.st_num.specs.declared.limit.TheConstants.{HIGHEST_TREE}
use Rattle.st_num.specs.declared.rule.RuleId.{RuleId}
use Rattle.st_num.specs.declared.rule.RuleId.TheVariants.{S2, S3}
use Rattle.st_num.specs.declared.token.Token.{Token}
use Rattle.st_grammar.specs.Terminals.{Terminal, terminal, declared_names}
use Rattle.st_grammar.specs.Definitions.{Defs, ParseDefs}
use Rattle.st_grammar.specs.Positions.{State, start, step, finish, reading}
use Rattle.st_grammar.proofs.PositionTexts as texts
use Rattle.st_grammar.proofs.PositionTexts.{Holds, ReachedBy}
use Rattle.st_grammar.proofs.PositionReading as position
use Rattle.st_grammar.proofs.PositionEnds.{viable}
use Rattle.st_grammar.proofs.PositionComplete.{reading_append, complete_defs}
use Rattle.st_parse_automaton.specs.Refusal.{terminals_of}
use Rattle.st_parse_automaton.proofs.Loop.{last_step, one_more}
use Rattle.st_parse_faults.specs.inner.Counts.{member_due, event, counts_after, counts_pass}
use Rattle.st_parse_faults.specs.Nesting.{nesting_after, brackets_behind}
use Rattle.st_parse_faults.specs.inner.Bars.{bars, may_open}
use Rattle.st_parse_faults.specs.inner.Limits.{part_passes}
use Rattle.st_parse_faults.specs.inner.Judging.{passed, broken, limited, judge_all}
use Rattle.st_parse_faults.specs.inner.Folding as faults
use Rattle.st_parse_faults.specs.inner.Folding.{Seen, opens_too_many, seen_after, refusal, judged, judge, verdict, nothing_seen}
use Rattle.st_parse_faults.specs.Number.{Number, too_deep, too_many}
use Rattle.st_parse_faults.specs.DefinitionNumbers.{defs_numbers}
use Rattle.st_parse_faults.specs.Faults.{passes_limit, limit_rule, NonePasses, PassesLimit}
use Rattle.st_parse_faults.specs.DefinitionFaults.{definition_text, FrontKept}
use Rattle.st_parse_faults.specs.inner.PositionNumbers.{read_numbers, brackets, counts_in}
use Rattle.st_parse_faults.proofs.NumberedSteps.{front_of, Ready, Step, StepTo}
use Rattle.st_parse_faults.proofs.PositionNumberSteps.{steps, finishes}
use Rattle.st_parse_faults.proofs.JudgingLemmas as judging
use Rattle.st_parse_faults.proofs.JudgingLemmas.{never_passes}
use Rattle.st_parse_faults.proofs.Verdicts.{verdict_reads}
use Rattle.st_parse_faults.proofs.Entries.{below, front_clear, entry_clear, more_clear, entry_at, limit_broken, broken_limit}

-- ---- readings

abbrev pub HoldsTo : Option State → Type 0
HoldsTo None = Unit {0}
HoldsTo (Some st) = Holds st

reached_holds : (us : List Terminal) (o : Option State) → ReachedBy us o → HoldsTo o
reached_holds us None r = tt
reached_holds us (Some st) r = r.holds

holds_next : (st : State) (l : Terminal) → Holds st → HoldsTo (step st l)
holds_next st l h = reached_holds (texts.seen st ++ l ∷ []) (step st l) (position.steps st l h)

-- what more tokens add
pub record Grown (st : State) (w : List Terminal) (next : State) : Type 0 where
  pub holds : Holds next
  pub ready : Ready next
  pub entries : List (List Number)
  pub grown : read_numbers next ≡ read_numbers st ++ entries
  pub long : length entries ≡ length w
  pub nests : brackets next ≡ brackets_behind (brackets st) w

pub grows : (w : List Terminal) (st next : State) → Holds st → Ready st → reading st w ≡ Some next → Grown st w next
grows [] st next h r e =
    let is : st ≡ next = cc in
    subst (Grown st []) is (record { holds = h; ready = r; entries = []; grown = sym (append-nil (read_numbers st)); long = refl; nests = refl })
grows (l ∷ w) st next h r e = go (step st l) (steps st l h r) (holds_next st l h) e (λ mid k q f. grows w mid next k q f)
  where
    go : (o : Option State) → StepTo (front_of st) l o → HoldsTo o → option_and_then (λ mid. reading mid w) o ≡ Some next
        → ((mid : State) → Holds mid → Ready mid → reading mid w ≡ Some next → Grown mid w next) → Grown st (l ∷ w) next
    go None s q f later = absurd (cc)
    go (Some mid) s q f later =
        let g = later mid q s.ready f in
        record {
          holds = g.holds;
          ready = g.ready;
          entries = s.entry ∷ g.entries;
          grown = g.grown ∙ ap (λ v. v ++ g.entries) s.grown ∙ append_assoc (read_numbers st) (s.entry ∷ []) g.entries;
          long = omega (arith, g.long);
          nests = g.nests ∙ ap (λ v. brackets_behind v w) s.nests;
        }

pub grown : (us : List Terminal) (st : State) → reading start us ≡ Some st → Grown start us st
grown us st e = grows us start st tt tt e

-- the entries of what is read stand first among those of definitions that begin so
pub record Fronts (us : List Terminal) (st : State) (ds : Defs) : Type 0 where
  pub entries : List (List Number)
  pub grown : defs_numbers ds ≡ read_numbers st ++ entries
  pub long : length (read_numbers st) ≡ length us

pub reads_front : (us w : List Terminal) (ds : Defs) → ParseDefs (us ++ w) ds → (st : State) × (reading start us ≡ Some st) × Fronts us st ds
reads_front us w ds p = go (reading start us) refl (sym (ap (option_and_then finish) (reading_append start us w)) ∙ complete_defs (us ++ w) ds p)
  where
    ends : (st : State) → reading start us ≡ Some st → (o : Option State) → reading st w ≡ o → option_and_then finish o ≡ Some ds → Fronts us st ds
    ends st e None f g = absurd (cc)
    ends st e (Some end) f g =
        let a = grown us st e in
        let b = grows w st end a.holds a.ready f in
        record { entries = b.entries; grown = sym (finishes end ds b.holds g) ∙ b.grown; long = ap (length {A = List Number}) a.grown ∙ a.long }

    go : (o : Option State) → reading start us ≡ o → option_and_then finish (option_and_then (λ st. reading st w) o) ≡ Some ds → (st : State) × (reading start us ≡ Some st) × Fronts us st ds
    go None e f = absurd (cc)
    go (Some st) e f = (st, e, ends st e (reading st w) refl f)

pub front_entries : (us : List Terminal) (st : State) (ds : Defs) (k : ℕ) → Fronts us st ds → k ≡ length us → take k (defs_numbers ds) ≡ read_numbers st
front_entries us st ds k f e =
    ap (λ n. take n (defs_numbers ds)) (e ∙ sym f.long)
    ∙ ap (take (length (read_numbers st))) f.grown
    ∙ take-append_seam (read_numbers st) f.entries

-- ---- what is seen

-- what is seen is told by the state, and no token before it passes a limit
pub record Seeing (seen : Seen) : Type 0 where
  pub holds : Holds seen.state
  pub ready : Ready seen.state
  pub nests : seen.nesting ≡ brackets seen.state
  pub counted : seen.counts ≡ counts_in seen.state
  pub low : (counts_pass (counts_in seen.state) || part_passes seen.state) ≡ false
  pub shallow : brackets seen.state + bars seen.state ≤ HIGHEST_TREE
  pub clear : NonePasses (read_numbers seen.state)

nothing_is : Seeing nothing_seen
nothing_is = record { holds = tt; ready = tt; nests = refl; counted = refl; low = refl; shallow = omega arith; clear = refl }

deep_is : (seen : Seen) (l : Terminal) (next : State) → Seeing seen → (s : Step (front_of seen.state) l next) → opens_too_many (seen_after seen l next) l ≡ list_any too_deep s.entry
deep_is seen l next i s =
    ap (λ v. may_open l && nat_lt HIGHEST_TREE (v + bars next)) (ap (λ n. nesting_after n l) i.nests ∙ sym s.nests)
    ∙ s.opens i.shallow

many_is : (seen : Seen) (l : Terminal) (next : State) → Seeing seen → (s : Step (front_of seen.state) l next) → faults.passes_limit (seen_after seen l next) ≡ list_any too_many s.entry
many_is seen l next i s =
    ap (λ c. counts_pass c || part_passes next) (ap (λ c. counts_after c (event (member_due seen.state) next)) i.counted ∙ sym s.counted)
    ∙ sym (s.limit i.low)

-- the verdict on a token that is read
limited_is : (seen : Seen) (l : Terminal) (next : State) → Seeing seen → (s : Step (front_of seen.state) l next)
    → limited (opens_too_many (seen_after seen l next) l) (faults.passes_limit (seen_after seen l next)) (seen_after seen l next) ≡ limited (list_any too_deep s.entry) (list_any too_many s.entry) (seen_after seen l next)
limited_is seen l next i s =
    ap (λ b. limited b (faults.passes_limit (seen_after seen l next)) (seen_after seen l next)) (deep_is seen l next i s)
    ∙ ap (λ b. limited (list_any too_deep s.entry) b (seen_after seen l next)) (many_is seen l next i s)

seeing_next : (seen : Seen) (l : Terminal) (next : State) → Holds next → Seeing seen → (s : Step (front_of seen.state) l next) → list_any too_deep s.entry ≡ false → list_any too_many s.entry ≡ false → Seeing (seen_after seen l next)
seeing_next seen l next h i s d m = record {
  holds = h;
  ready = s.ready;
  nests = ap (λ n. nesting_after n l) i.nests ∙ sym s.nests;
  counted = ap (λ c. counts_after c (event (member_due seen.state) next)) i.counted ∙ sym s.counted;
  low = sym (s.limit i.low) ∙ m;
  shallow = go (may_open l) refl;
  clear = ap (list_any passes_limit) s.grown ∙ more_clear (read_numbers seen.state) s.entry i.clear d m;
}
  where
    go : (b : Bool) → may_open l ≡ b → brackets next + bars next ≤ HIGHEST_TREE
    go true e = below HIGHEST_TREE (brackets next + bars next) (sym (ap (λ b. b && nat_lt HIGHEST_TREE (brackets next + bars next)) e) ∙ s.opens i.shallow ∙ d)
    go false e = omega (arith, s.stays e, i.shallow)

module _ (names : List (List ℕ)) where
  -- what passes is seen so
  pub seeing : (xs : List Token) (seen last : Seen) → Seeing seen → judge_all (judge names) (passed seen) xs ≡ passed last → Seeing last
  seeing [] seen last i e = let is : seen ≡ last = cc in subst Seeing is i
  seeing (x ∷ xs) seen last i e = go (step seen.state (terminal names x)) (steps seen.state (terminal names x) i.holds i.ready) (holds_next seen.state (terminal names x) i.holds) e (λ mid j f. seeing xs mid last j f)
    where
      l : Terminal
      l = terminal names x

      go : (o : Option State) → StepTo (front_of seen.state) l o → HoldsTo o → judge_all (judge names) (judged seen x l o) xs ≡ passed last
          → ((mid : Seen) → Seeing mid → judge_all (judge names) (passed mid) xs ≡ passed last → Seeing last) → Seeing last
      go None s q f later = absurd (never_passes Seen (judge names) (refusal seen x) xs last f)
      go (Some next) s q f later = by (list_any too_deep s.entry) refl (list_any too_many s.entry) refl (ap (λ v. judge_all (judge names) v xs) (sym (limited_is seen l next i s)) ∙ f)
        where
          by : (b : Bool) → list_any too_deep s.entry ≡ b → (c : Bool) → list_any too_many s.entry ≡ c → judge_all (judge names) (limited b c (seen_after seen l next)) xs ≡ passed last → Seeing last
          by true d c m g = absurd (never_passes Seen (judge names) S2 xs last g)
          by false d true m g = absurd (never_passes Seen (judge names) S3 xs last g)
          by false d false m g = later (seen_after seen l next) (seeing_next seen l next q i s d m) g

  -- what is read and passes no limit is passed
  pub passing : (xs : List Token) (seen : Seen) (st : State) → Seeing seen → reading seen.state (map (terminal names) xs) ≡ Some st → NonePasses (read_numbers st) → (last : Seen) × (judge_all (judge names) (passed seen) xs ≡ passed last)
  passing [] seen st i e c = (seen, refl)
  passing (x ∷ xs) seen st i e c = go (step seen.state (terminal names x)) (steps seen.state (terminal names x) i.holds i.ready) (holds_next seen.state (terminal names x) i.holds) e (λ mid j f. passing xs mid st j f c)
    where
      l : Terminal
      l = terminal names x

      go : (o : Option State) → StepTo (front_of seen.state) l o → HoldsTo o → option_and_then (λ mid. reading mid (map (terminal names) xs)) o ≡ Some st
          → ((mid : Seen) → Seeing mid → reading mid.state (map (terminal names) xs) ≡ Some st → (last : Seen) × (judge_all (judge names) (passed mid) xs ≡ passed last))
          → (last : Seen) × (judge_all (judge names) (judged seen x l o) xs ≡ passed last)
      go None s q f later = absurd (cc)
      go (Some next) s q f later =
          let g = grows (map (terminal names) xs) next st q s.ready f in
          let k = entry_clear (read_numbers seen.state) s.entry (ap (list_any passes_limit) (sym s.grown) ∙ front_clear (read_numbers next) g.entries (ap (list_any passes_limit) (sym g.grown) ∙ c)) in
          let r = later (seen_after seen l next) (seeing_next seen l next q i s k.0 k.1) f in
          let b : limited (opens_too_many (seen_after seen l next) l) (faults.passes_limit (seen_after seen l next)) (seen_after seen l next) ≡ passed (seen_after seen l next) =
          limited_is seen l next i s ∙ ap (λ v. limited v (list_any too_many s.entry) (seen_after seen l next)) k.0 ∙ ap (λ v. limited false v (seen_after seen l next)) k.1 in
          (r.0, ap (λ v. judge_all (judge names) v xs) b ∙ r.1)

-- ---- fronts of tokens

taken_long : (tokens : List Token) (k : ℕ) → k ≤ length tokens → k ≡ length (take k (terminals_of tokens))
taken_long tokens k h = omega (arith, h, length-take k (terminals_of tokens), length-map tokens (terminal (declared_names tokens)))

pub seeing_front : (tokens : List Token) (k : ℕ) (seen : Seen) → verdict tokens k ≡ passed seen → Seeing seen
seeing_front tokens k seen e = seeing (declared_names tokens) (take k tokens) nothing_seen seen nothing_is e

pub kept_front : (tokens : List Token) (k : ℕ) (seen : Seen) → k ≤ length tokens → verdict tokens k ≡ passed seen → FrontKept tokens k
kept_front tokens k seen h e =
    let us = take k (terminals_of tokens) in
    let v = viable (declared_names tokens) us seen.state (verdict_reads tokens k seen e) in
    let r = reads_front us (map (terminal (declared_names tokens)) v.0) v.1 v.2 in
    let same : seen.state ≡ r.0 = let both : Some seen.state ≡ Some r.0 = sym (verdict_reads tokens k seen e) ∙ r.1 in cc in (
      v.1,
      record { rest = v.0; grammar = v.2 },
      ap (list_any passes_limit) (front_entries us r.0 v.1 k r.2 (taken_long tokens k h) ∙ ap read_numbers (sym same))
          ∙ (seeing_front tokens k seen e).clear,
    )

pub front_passes : (tokens : List Token) (k : ℕ) → k ≤ length tokens → FrontKept tokens k → (seen : Seen) × (verdict tokens k ≡ passed seen)
front_passes tokens k h (ds, b, c) =
    let us = take k (terminals_of tokens) in
    let r = reads_front us (map (terminal (declared_names tokens)) b.rest) ds b.grammar in
    passing (declared_names tokens) (take k tokens) nothing_seen r.0 nothing_is (ap (reading start) (sym (take-map (terminal (declared_names tokens)) k tokens)) ∙ r.1)
    (ap (list_any passes_limit) (sym (front_entries us r.0 ds k r.2 (taken_long tokens k h))) ∙ c)

-- ---- one more token

-- the entry of the token behind these
last_entry : (us : List Terminal) (l : Terminal) (st next : State) (ds : Defs) (k : ℕ) → reading start us ≡ Some st → k ≡ length us → (s : Step (front_of st) l next) → Fronts (us ++ l ∷ []) next ds → get_or (defs_numbers ds) k [] ≡ s.entry
last_entry us l st next ds k e h s f =
    let g = grown us st e in
    ap (λ v. get_or v k []) (f.grown ∙ ap (λ v. v ++ f.entries) s.grown)
    ∙ entry_at (read_numbers st) f.entries s.entry k (ap (length {A = List Number}) g.grown ∙ g.long ∙ sym h)

-- the verdict on token k, where those before it pass
abbrev pub next_token : List Token → ℕ → Token → Terminal
next_token tokens k d = terminal (declared_names tokens) (get_or tokens k d)

pub next_verdict : (tokens : List Token) (k : ℕ) (seen : Seen) (d : Token) → k < length tokens → verdict tokens k ≡ passed seen → verdict tokens (k + 1) ≡ judged seen (get_or tokens k d) (next_token tokens k d) (step seen.state (next_token tokens k d))
next_verdict tokens k seen d h e =
    judging.verdict_more Seen (judge (declared_names tokens)) nothing_seen tokens k d h
    ∙ ap (λ w. judging.judge_next Seen (judge (declared_names tokens)) w (get_or tokens k d)) e

pub passes_there : (tokens : List Token) (k : ℕ) (r : RuleId) (seen : Seen) (d : Token) (next : State) → k < length tokens → verdict tokens k ≡ passed seen → verdict tokens (k + 1) ≡ broken r → step seen.state (next_token tokens k d) ≡ Some next
    → PassesLimit (definition_text tokens) k r
passes_there tokens k r seen d next h e f g =
    let us = take k (terminals_of tokens) in
    let l = next_token tokens k d in
    let read = verdict_reads tokens k seen e in
    let i = seeing_front tokens k seen e in
    let s = subst (StepTo (front_of seen.state) l) g (steps seen.state l i.holds i.ready) in
    let more : reading start (take (k + 1) (terminals_of tokens)) ≡ Some next = ap (reading start) (one_more tokens k d h) ∙ last_step us l seen.state read ∙ g in
    let v = viable (declared_names tokens) (take (k + 1) (terminals_of tokens)) next more in
    let p : ParseDefs ((us ++ l ∷ []) ++ map (terminal (declared_names tokens)) v.0) v.1 = subst (λ ws. ParseDefs (ws ++ map (terminal (declared_names tokens)) v.0) v.1) (one_more tokens k d h) v.2 in
    let q = reads_front (us ++ l ∷ []) (map (terminal (declared_names tokens)) v.0) v.1 p in
    let same : q.0 ≡ next = let both : Some q.0 ≡ Some next = sym q.1 ∙ ap (reading start) (sym (one_more tokens k d h)) ∙ more in cc in
    let entry : get_or (defs_numbers v.1) k [] ≡ s.entry = last_entry us l seen.state next v.1 k read (taken_long tokens k (omega (arith, h))) s (subst (λ w. Fronts (us ++ l ∷ []) w v.1) same q.2) in
    let verdict_is : limited (list_any too_deep s.entry) (list_any too_many s.entry) (seen_after seen l next) ≡ broken r =
    sym (limited_is seen l next i s) ∙ sym (ap (judged seen (get_or tokens k d) l) g) ∙ sym (next_verdict tokens k seen d h e) ∙ f in
    (h, (v.1, record { rest = v.0; grammar = v.2 }, ap limit_rule entry ∙ limit_broken Seen s.entry r (seen_after seen l next) verdict_is))

pub breaks_there : (tokens : List Token) (k : ℕ) (r : RuleId) (seen : Seen) (d : Token) → verdict tokens k ≡ passed seen → PassesLimit (definition_text tokens) k r → verdict tokens (k + 1) ≡ broken r
breaks_there tokens k r seen d e (h, (ds, b, f)) =
    let us = take k (terminals_of tokens) in
    let l = next_token tokens k d in
    let read = verdict_reads tokens k seen e in
    let i = seeing_front tokens k seen e in
    let rest = map (terminal (declared_names tokens)) b.rest in
    let p : ParseDefs ((us ++ l ∷ []) ++ rest) ds = subst (λ ws. ParseDefs (ws ++ rest) ds) (one_more tokens k d h) b.grammar in
    let q = reads_front (us ++ l ∷ []) rest ds p in
    let g : step seen.state l ≡ Some q.0 = sym (last_step us l seen.state read) ∙ q.1 in
    let s = subst (StepTo (front_of seen.state) l) g (steps seen.state l i.holds i.ready) in
    let entry : get_or (defs_numbers ds) k [] ≡ s.entry = last_entry us l seen.state q.0 ds k read (taken_long tokens k (omega (arith, h))) s q.2 in
    next_verdict tokens k seen d h e
    ∙ ap (judged seen (get_or tokens k d) l) g
    ∙ limited_is seen l q.0 i s
    ∙ broken_limit Seen s.entry r (seen_after seen l q.0) (ap limit_rule (sym entry) ∙ f)
