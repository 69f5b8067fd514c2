-- The part automaton takes each step of the reading, and adds what the trees say.
use Rattle.std.proofs.Common.{◌≡◌, ℕ, ◌≤◌, List, [], ◌∷◌, ◌++◌, Bool, true, false, not, ◌&&◌, Option, Some, None, option_map, nat_le, if◌then◌else◌, refl, sym, ap, subst, ◌∙◌, arith}
use Rattle.st_num.specs.declared.mark.Mark.{Mark}
use Rattle.st_num.specs.declared.token.Token.{Token}
use Rattle.st_grammar.specs.declared.sort.Leaf.TheVariants as leaves
use Rattle.st_grammar.specs.declared.sort.Bracket.{Bracket}
use Rattle.st_grammar.specs.declared.sort.Bracket.TheVariants as bracket
use Rattle.st_grammar.specs.declared.sort.Closing.{Closing}
use Rattle.st_grammar.specs.declared.sort.Closing.TheVariants as closings
use Rattle.st_grammar.specs.declared.sort.Sort.{Sort}
use Rattle.st_grammar.specs.declared.sort.Sort.TheVariants as sorts
use Rattle.st_grammar.specs.Terminals.{Terminal, leaf, dot, sign, opening, closing, other}
use Rattle.st_num.specs.Signs.{level as level_of, prefix_level}
use Rattle.st_grammar.specs.Levels.{tight, is_type_iteration_sign, has_level}
use Rattle.st_grammar.specs.Trees as tree
use Rattle.st_grammar.specs.Trees.{Tree, Trees, Heading, Path, none, more}
use Rattle.st_grammar.specs.Grammar as grammar
use Rattle.st_grammar.specs.Reading as part
use Rattle.st_grammar.specs.Positions.{reads_types}
use Rattle.st_parse_automaton.specs.declared.part_automaton.Shape.TheVariants.{Sign}
use Rattle.st_parse_automaton.specs.declared.part_automaton.Part.TheVariants.{Whole}
use Rattle.st_parse_automaton.specs.declared.part_automaton.PartKind.{PartKind}
use Rattle.st_parse_automaton.specs.declared.part_automaton.PartKind.TheVariants.{Plain, Length, Arguments, Index as InIndex, Segment, Update, Below}
use Rattle.st_parse_automaton.specs.declared.part_automaton.Filling.TheVariants.{Parts}
use Rattle.st_parse_automaton.specs.declared.part_automaton.Lead.TheVariants.{Left, Ahead}
use Rattle.st_parse_automaton.specs.declared.part_automaton.Frame.{Frame}
use Rattle.st_parse_automaton.specs.declared.part_automaton.Frame.TheVariants.{Within, Over, Timing}
use Rattle.st_parse_automaton.specs.declared.part_automaton.Expected.{Expected}
use Rattle.st_parse_automaton.specs.declared.part_automaton.Expected.TheVariants.{Operand, Next, Label, Step, Index as IndexExpected}
use Rattle.st_parse_automaton.specs.inner.Shapes.{shape}
use Rattle.st_parse_automaton.specs.inner.PartAutomaton as parts
use Rattle.st_grammar.proofs.Sound.{base}
use Rattle.st_grammar.specs.declared.sort.Style.{Style}
use Rattle.st_grammar.specs.declared.sort.Style.TheVariants as styles
use Rattle.st_grammar.specs.Levels.{takes, encloses, computes, is_expression, is_count, juxtaposes, left_of, is_caret, is_comma, is_colon, is_less, is_change}
use Rattle.st_grammar.proofs.Complete.{lead_low}
use Rattle.st_grammar.proofs.Sound.{Holds, state_base}
use Rattle.st_grammar.proofs.Steps.{extend_base}
use Rattle.st_parse_automaton.proofs.View.{part_of, kind_of, lead_of, filling, frames_of, state_of, part_function, part_atom, part_type, part_reads, top_sort, lead_reach, lead_levels, least_is, kind_closing, kind_style, opened_is, kind_part}
use Rattle.st_grammar.specs.Definitions.{token_in}
use Rattle.st_grammar.proofs.Sound.{Stand}
use Rattle.st_grammar.specs.declared.action.Action.{Action}
use Rattle.st_grammar.specs.declared.action.Action.TheVariants as action
use Rattle.st_grammar.specs.inner.Actions.{post_acts, opening_acts}
use Rattle.st_grammar.specs.inner.Emission as emission
use Rattle.st_parse_automaton.proofs.EndView.{label_is, operand_settles, bracket_settles, lowering_is, part_end_is, closed_is, plain_opens, extending_is, naming_is}

-- ---- moves

-- a move leads where the step of the trees does, and this token adds these actions
abbrev pub Agree : Token → List Action → Option parts.Move → Option part.State → Type 0
Agree x acts None None = Unit {0}
Agree x acts None (Some next) = ⊥
Agree x acts (Some m) None = ⊥
Agree x acts (Some m) (Some next) = (m.0 ≡ state_of next) × (m.1 x ≡ acts)

pub agree_if : (b c : Bool) (x : Token) (acts : List Action) (m : parts.Move) (next : part.State) → b ≡ c → m.0 ≡ state_of next → m.1 x ≡ acts
    → Agree x acts (if b then Some m else None) (if c then Some next else None)
agree_if b true x acts m next e f g = subst (λ d. Agree x acts (if d then Some m else None) (Some next)) (sym e) (f, g)
agree_if b false x acts m next e f g = subst (λ d. Agree x acts (if d then Some m else None) None) (sym e) tt

-- the one or the other, with the same actions
pub agree_both : (b c : Bool) (x : Token) (acts : List Action) (o r : Option parts.Move) (q s : Option part.State) → b ≡ c → Agree x acts o q → Agree x acts r s
    → Agree x acts (if b then o else r) (if c then q else s)
agree_both b true x acts o r q s e f g = subst (λ d. Agree x acts (if d then o else r) q) (sym e) f
agree_both b false x acts o r q s e f g = subst (λ d. Agree x acts (if d then o else r) s) (sym e) g

-- the one or the other, each with its actions
pub agree_or : (b c : Bool) (x : Token) (cs bs : List Action) (o r : Option parts.Move) (q s : Option part.State) → b ≡ c → Agree x cs o q → Agree x bs r s
    → Agree x (if c then cs else bs) (if b then o else r) (if c then q else s)
agree_or b true x cs bs o r q s e f g = subst (λ d. Agree x cs (if d then o else r) q) (sym e) f
agree_or b false x cs bs o r q s e f g = subst (λ d. Agree x bs (if d then o else r) s) (sym e) g

pub agree_acting : (x : Token) (before acts : List Action) (o : Option parts.Move) (q : Option part.State) → Agree x acts o q → Agree x (before ++ acts) (parts.acting before o) q
agree_acting x before acts None None h = tt
agree_acting x before acts None (Some next) h = absurd h
agree_acting x before acts (Some m) None h = absurd h
agree_acting x before acts (Some m) (Some next) h = (h.0, ap (λ l. before ++ l) h.1)

pub agree_next : (x : Token) (acts : List Action) (o : Option parts.Move) (q : Option part.State) → Agree x acts o q → option_map (λ (m : parts.Move). m.0) o ≡ option_map state_of q
agree_next x acts None None h = refl
agree_next x acts None (Some next) h = absurd h
agree_next x acts (Some m) None h = absurd h
agree_next x acts (Some m) (Some next) h = ap (λ z. Some z) h.0

pub both_and : (a b c d : Bool) → a ≡ b → c ≡ d → (a && c) ≡ (b && d)
both_and a b c d e f = ap (λ v. v && c) e ∙ ap (λ v. b && v) f

-- ---- what closes

abbrev pub low_of : Tree × part.Frames → parts.Lowered
low_of p = (grammar.level p.0, part_of p.0, frames_of p.1)

pub lower_is : (n : ℕ) (t : Tree) (fs : part.Frames) → parts.lower n (grammar.level t) (part_of t) (frames_of fs) ≡ low_of (part.lower n t fs)
lower_is n t (part.bottom σ) = refl
lower_is n t (part.within h ts pre fs) = refl
lower_is n t (part.timing u m x fs) = refl
lower_is n t (part.over g fs) =
    ap (λ r. parts.lower_at n (grammar.level t) (part_of t) (Over (lead_of g) (part.sort fs)) (frames_of fs) (λ k. parts.lower n (parts.lead_level k) Whole (frames_of fs)) (if nat_le r n then None else Some (lead_of g))) (lead_reach g)
    ∙ go (nat_le (part.reach g) n) (ap (λ v. parts.lower n v Whole (frames_of fs)) (lead_levels g) ∙ lower_is n (tree.led g t) fs)
  where
    go : (b : Bool) → parts.lower n (parts.lead_level (lead_of g)) Whole (frames_of fs) ≡ low_of (part.lower n (tree.led g t) fs)
        → parts.lower_at n (grammar.level t) (part_of t) (Over (lead_of g) (part.sort fs)) (frames_of fs) (λ k. parts.lower n (parts.lead_level k) Whole (frames_of fs)) (if b then None else Some (lead_of g)) ≡ low_of (if b then (t, part.over g fs) else part.lower n (tree.led g t) fs)
    go true e = refl
    go false e = e

pub lower_base : (n : ℕ) (t : Tree) (fs : part.Frames) → base (part.lower n t fs).1 ≡ base fs
lower_base n t (part.bottom σ) = refl
lower_base n t (part.within h ts pre fs) = refl
lower_base n t (part.timing u m x fs) = refl
lower_base n t (part.over g fs) = go (nat_le (part.reach g) n) (lower_base n (tree.led g t) fs)
  where
    go : (b : Bool) → base (part.lower n (tree.led g t) fs).1 ≡ base fs → base (if b then (t, part.over g fs) else part.lower n (tree.led g t) fs).1 ≡ base fs
    go true e = refl
    go false e = e

pub settle_is : (t : Tree) (fs : part.Frames) → parts.settle (part_of t) (frames_of fs) ≡ state_of (part.settle t fs)
settle_is t (part.bottom σ) = refl
settle_is t (part.within h ts pre fs) = refl
settle_is t (part.over g fs) = refl
settle_is t (part.timing u m x fs) = refl

pub shut_is : (h : Heading) (ts : Trees) (pre : List Terminal) (t : Tree) (x : Token) (fs : part.Frames)
    → parts.shut (kind_of h) (reads_types ts && parts.reads_type (part_of t)) (frames_of fs) ≡ state_of (part.shut h (more ts pre t) x fs)
shut_is h ts pre t x fs = ap (λ b. parts.shut (kind_of h) (reads_types ts && b) (frames_of fs)) (part_reads t) ∙ go h
  where
    whole : (k : Heading) → parts.settle (parts.kind_part (kind_of k) (reads_types (more ts pre t))) (frames_of fs) ≡ state_of (part.settle (tree.bracket k (more ts pre t) x) fs)
    whole k = ap (λ p. parts.settle p (frames_of fs)) (kind_part k (more ts pre t) x) ∙ settle_is (tree.bracket k (more ts pre t) x) fs

    go : (k : Heading) → parts.shut (kind_of k) (reads_types (more ts pre t)) (frames_of fs) ≡ state_of (part.shut k (more ts pre t) x fs)
    go (tree.plain b o) = whole (tree.plain b o)
    go (tree.length o) = whole (tree.length o)
    go (tree.arguments f o) = whole (tree.arguments f o)
    go (tree.index u o) = whole (tree.index u o)
    go (tree.segment p o) = refl
    go (tree.update p m y) = whole (tree.update p m y)
    go (tree.below o i m y) = whole (tree.below o i m y)

pub close_is : (c : Closing) (x : Token) (p : Tree × part.Frames) → Agree x (emission.closed x p) (parts.close c (low_of p)) (part.close c x p)
close_is c x (t, part.bottom σ) = tt
close_is c x (t, part.over g fs) = tt
close_is c x (t, part.timing u m y fs) = tt
close_is c x (t, part.within h ts pre fs) =
    agree_if _ _ _ _ (parts.shut (kind_of h) (reads_types ts && parts.reads_type (part_of t)) (frames_of fs), λ y. parts.part_end (kind_of h) ++ parts.shutting (kind_of h) (filling ts pre) (frames_of fs))
    (part.shut h (more ts pre t) x fs)
    (ap (λ d. tree.agree d c) (kind_closing h)) (shut_is h ts pre t x fs) (closed_is h ts pre t x fs)

-- ---- what begins

pub plain_begins : (b : Bracket) (x : Token) (fs : part.Frames) → (parts.kind_expected (Plain b), frames_of (part.within (tree.plain b x) none [] fs)) ≡ state_of (part.opened b x fs)
plain_begins bracket.Round x fs = refl
plain_begins bracket.Square x fs = refl
plain_begins bracket.Brace x fs = refl
plain_begins bracket.TickRound x fs = refl
plain_begins bracket.TickSquare x fs = refl
plain_begins bracket.TickBrace x fs = refl
plain_begins bracket.Dollar x fs = refl

-- a bracket that opens in the innermost part
abbrev pub opened_by : PartKind → part.Frames → parts.Move
opened_by k fs = parts.opens k (parts.top (base fs) (frames_of fs)) (frames_of fs)

-- an operand is due behind what opens
pub due_in : (h : Heading) (fs : part.Frames) → (Operand, parts.opened (kind_of h) (parts.top (base fs) (frames_of fs)) (frames_of fs)) ≡ state_of (part.want (part.within h none [] fs))
due_in h fs = ap (λ gs. (Operand, gs)) (opened_is h fs)

pub plain_is : (b : Bracket) (x : Token) (fs : part.Frames) → Agree x (opening_acts (tree.plain b x)) (parts.begin_plain (base fs) b (frames_of fs)) (if encloses (part.sort fs) b then Some (part.opened b x fs) else None)
plain_is b x fs =
    agree_if _ _ _ _ (opened_by (Plain b) fs) (part.opened b x fs)
    (ap (λ σ. encloses σ b) (top_sort fs)) (ap (λ gs. (parts.kind_expected (Plain b), gs)) (opened_is (tree.plain b x) fs) ∙ plain_begins b x fs) (plain_opens b x)

-- no parenthesis behind `^`
pub other_opens : (b : Bracket) (x : Token) (fs : part.Frames) → parts.is_round b ≡ false
    → Agree x (opening_acts (tree.plain b x)) (parts.begin_opening (base fs) b (frames_of fs)) (if encloses (part.sort fs) b then Some (part.opened b x fs) else None)
other_opens b x fs e =
    subst (λ c. Agree x (opening_acts (tree.plain b x)) (if is_count (parts.top (base fs) (frames_of fs)) && c then Some ((IndexExpected, frames_of fs), parts.adds_nothing) else parts.begin_plain (base fs) b (frames_of fs)) (if encloses (part.sort fs) b then Some (part.opened b x fs) else None)) (sym e)
    (go (is_count (parts.top (base fs) (frames_of fs))))
  where
    go : (c : Bool) → Agree x (opening_acts (tree.plain b x)) (if c && false then Some ((IndexExpected, frames_of fs), parts.adds_nothing) else parts.begin_plain (base fs) b (frames_of fs)) (if encloses (part.sort fs) b then Some (part.opened b x fs) else None)
    go true = plain_is b x fs
    go false = plain_is b x fs

pub round_opens : (x : Token) (fs : part.Frames) → Agree x (emission.beginning_opening bracket.Round x fs) (parts.begin_opening (base fs) bracket.Round (frames_of fs)) (part.begin_opening bracket.Round x fs)
round_opens x fs =
    agree_or (is_count (parts.top (base fs) (frames_of fs)) && true) (is_count (part.sort fs)) x [] (opening_acts (tree.plain bracket.Round x)) (Some ((IndexExpected, frames_of fs), parts.adds_nothing)) (parts.begin_plain (base fs) bracket.Round (frames_of fs))
    (Some (part.indexing x fs)) (if encloses (part.sort fs) bracket.Round then Some (part.want (part.within (tree.plain bracket.Round x) none [] fs)) else None)
    (and_yes (is_count (parts.top (base fs) (frames_of fs))) ∙ ap is_count (top_sort fs)) (refl, refl) (plain_is bracket.Round x fs)
  where
    and_yes : (b : Bool) → (b && true) ≡ b
    and_yes true = refl
    and_yes false = refl

pub opening_is : (b : Bracket) (x : Token) (fs : part.Frames) → Agree x (emission.beginning_opening b x fs) (parts.begin_opening (base fs) b (frames_of fs)) (part.begin_opening b x fs)
opening_is bracket.Round x fs = round_opens x fs
opening_is bracket.Square x fs = other_opens bracket.Square x fs refl
opening_is bracket.Brace x fs = other_opens bracket.Brace x fs refl
opening_is bracket.TickRound x fs = other_opens bracket.TickRound x fs refl
opening_is bracket.TickSquare x fs = other_opens bracket.TickSquare x fs refl
opening_is bracket.TickBrace x fs = other_opens bracket.TickBrace x fs refl
opening_is bracket.Dollar x fs = other_opens bracket.Dollar x fs refl

pub no_arguments_is : (x : Token) (fs : part.Frames) → Agree x (emission.no_arguments_end x fs) (parts.no_arguments (frames_of fs)) (part.no_arguments x fs)
no_arguments_is x (part.bottom σ) = tt
no_arguments_is x (part.over g fs) = tt
no_arguments_is x (part.timing t m y fs) = tt
no_arguments_is x (part.within (tree.plain b o) ts pre fs) = tt
no_arguments_is x (part.within (tree.length o) ts pre fs) = tt
no_arguments_is x (part.within (tree.index t o) ts pre fs) = tt
no_arguments_is x (part.within (tree.segment p o) ts pre fs) = tt
no_arguments_is x (part.within (tree.update p m y) ts pre fs) = tt
no_arguments_is x (part.within (tree.below o i m y) ts pre fs) = tt
no_arguments_is x (part.within (tree.arguments f o) none [] fs) =
    (settle_is (tree.bracket (tree.arguments f o) none x) fs, ap (λ l. action.EndCall ∷ l) (bracket_settles (tree.arguments f o) none x fs))
no_arguments_is x (part.within (tree.arguments f o) none (l ∷ pre) fs) = tt
no_arguments_is x (part.within (tree.arguments f o) (more ts q t) pre fs) = tt

pub closing_is : (c : Closing) (x : Token) (fs : part.Frames) → Agree x (emission.beginning_closing c x fs) (parts.begin_closing (base fs) c (frames_of fs)) (part.begin_closing c x fs)
closing_is closings.ByBar x fs = agree_if _ _ _ _ (opened_by Length fs) (part.want (part.within (tree.length x) none [] fs)) (ap computes (top_sort fs)) (due_in (tree.length x) fs) refl
closing_is closings.ByRound x fs = no_arguments_is x fs
closing_is closings.BySquare x fs = tt
closing_is closings.ByBrace x fs = tt

pub begin_is : (fs : part.Frames) (l : Terminal) → Agree (token_in l) (emission.beginning fs l) (parts.begin (base fs) (frames_of fs) (shape l)) (part.begin fs l)
begin_is fs (leaf k x) =
    agree_if _ _ _ _ (parts.settle (parts.leaf_part k) (frames_of fs), λ y. action.Operand k y ∷ parts.settling false (frames_of fs)) (part.settle (tree.operand k x) fs)
    (ap (λ σ. takes σ k) (top_sort fs)) (settle_is (tree.operand k x) fs) (ap (λ l. action.Operand k x ∷ l) (operand_settles k x fs))
begin_is fs (dot x) = tt
begin_is fs (sign m x) =
    agree_if _ _ _ _ ((Operand, Over (Ahead m) (parts.top (base fs) (frames_of fs)) ∷ frames_of fs), λ y. action.Here y.at ∷ []) (part.want (part.over (tree.ahead m x) fs))
    (both_and _ _ _ _ (ap (λ σ. has_level σ (prefix_level m)) (top_sort fs)) (ap (λ n. nat_le n (prefix_level m)) (least_is fs)))
    (ap (λ σ. (Operand, Over (Ahead m) σ ∷ frames_of fs)) (top_sort fs)) refl
begin_is fs (opening b x) = opening_is b x fs
begin_is fs (closing c x) = closing_is c x fs
begin_is fs (other x) = tt

-- ---- what stands behind a part

pub follows_is : (σ : Sort) (t : Tree) (l : Terminal) → parts.follows σ (part_of t) (shape l) ≡ grammar.follows σ t l
follows_is σ t (leaf k x) = refl
follows_is σ t (dot x) = refl
follows_is σ t (sign m x) = refl
follows_is σ t (opening bracket.Round x) = ap (λ b. juxtaposes σ && not (b && x.touching)) (part_function t)
follows_is σ t (opening bracket.Square x) = refl
follows_is σ t (opening bracket.Brace x) = refl
follows_is σ t (opening bracket.TickRound x) = refl
follows_is σ t (opening bracket.TickSquare x) = refl
follows_is σ t (opening bracket.TickBrace x) = refl
follows_is σ t (opening bracket.Dollar x) = refl
follows_is σ t (closing c x) = refl
follows_is σ t (other x) = refl

pub extend_is : (t : Tree) (fs : part.Frames) → parts.extend (base fs) (frames_of fs) ≡ frames_of (part.extend t fs)
extend_is t (part.bottom σ) = refl
extend_is t (part.within h ts pre fs) = refl
extend_is t (part.over (tree.left l m x) fs) = refl
extend_is t (part.over (tree.ahead m x) fs) = refl
extend_is t (part.over (tree.items ts) fs) = refl
extend_is t (part.timing u m x fs) = refl

pub next_begins : (t : Tree) (fs : part.Frames) (l : Terminal) → Stand fs
    → Agree (token_in l) (emission.extending fs ++ emission.beginning (part.extend t fs) l) (parts.begin_next (base fs) (frames_of fs) (shape l)) (part.begin (part.extend t fs) l)
next_begins t fs l h =
    subst (λ acts. Agree (token_in l) (acts ++ emission.beginning (part.extend t fs) l) (parts.begin_next (base fs) (frames_of fs) (shape l)) (part.begin (part.extend t fs) l)) (extending_is fs h)
    (agree_acting (token_in l) (parts.extending (frames_of fs)) (emission.beginning (part.extend t fs) l) (parts.begin (base fs) (parts.extend (base fs) (frames_of fs)) (shape l)) (part.begin (part.extend t fs) l)
    (subst (λ gs. Agree (token_in l) (emission.beginning (part.extend t fs) l) (parts.begin (base fs) gs (shape l)) (part.begin (part.extend t fs) l)) (sym (extend_is t fs))
    (subst (λ σ. Agree (token_in l) (emission.beginning (part.extend t fs) l) (parts.begin σ (frames_of (part.extend t fs)) (shape l)) (part.begin (part.extend t fs) l)) (extend_base t fs)
    (begin_is (part.extend t fs) l))))

pub due_if : (b : Bool) (x : Token) (k : PartKind) (acts : List Action) (d : Expected) (gs : List Frame) (next : part.State) → (d, gs) ≡ state_of next → parts.part_end k ≡ acts
    → Agree x acts (parts.next_part k (if b then Some d else None) gs) (if b then Some next else None)
due_if true x k acts d gs next e f = (e, f)
due_if false x k acts d gs next e f = tt

pub part_is : (y : Style) (m : Mark) (x : Token) (h : Heading) (ts : Trees) (pre : List Terminal) (t : Tree) (fs : part.Frames)
    → Agree x (emission.part_end h) (parts.next_part (kind_of h) (parts.next_expected y m (parts.is_first (filling ts pre))) (Within (kind_of h) Parts (reads_types ts && parts.reads_type (part_of t)) (grammar.sort_in (part.sort fs) h) ∷ frames_of fs))
    (part.next_part y m x h ts (more ts pre t) fs)
part_is y m x h ts pre t fs =
    subst
    (λ b. Agree x (emission.part_end h) (parts.next_part (kind_of h) (parts.next_expected y m (parts.is_first (filling ts pre))) (Within (kind_of h) Parts (reads_types ts && b) (grammar.sort_in (part.sort fs) h) ∷ frames_of fs))
    (part.next_part y m x h ts (more ts pre t) fs))
    (sym (part_reads t)) (go y)
  where
    gs : List Frame
    gs = Within (kind_of h) Parts (reads_types (more ts pre t)) (grammar.sort_in (part.sort fs) h) ∷ frames_of fs

    next : part.State
    next = part.want (part.within h (more ts pre t) (sign m x ∷ []) fs)

    ends_is : (us : Trees) → Agree x (emission.part_end h) (parts.next_part (kind_of h) (parts.next_expected styles.Ends m (parts.is_first (filling us pre))) gs) (part.next_part styles.Ends m x h us (more ts pre t) fs)
    ends_is none = first pre
      where
        first : (ps : List Terminal) → Agree x (emission.part_end h) (parts.next_part (kind_of h) (parts.next_expected styles.Ends m (parts.is_first (filling none ps))) gs) (part.next_part styles.Ends m x h none (more ts pre t) fs)
        first [] = due_if (is_colon m) x (kind_of h) _ Operand gs next refl (part_end_is h)
        first (l ∷ ps) = due_if (is_colon m) x (kind_of h) _ Operand gs next refl (part_end_is h)
    ends_is (more us q u) = tt

    go : (z : Style) → Agree x (emission.part_end h) (parts.next_part (kind_of h) (parts.next_expected z m (parts.is_first (filling ts pre))) gs) (part.next_part z m x h ts (more ts pre t) fs)
    go styles.Lone = tt
    go styles.Parts = due_if (is_comma m) x (kind_of h) _ Operand gs next refl (part_end_is h)
    go styles.Fields = due_if (is_comma m) x (kind_of h) _ Label gs (part.naming h (more ts pre t) (sign m x ∷ []) fs) refl (part_end_is h)
    go styles.Ends = ends_is ts
    go styles.Run = tt

pub separate_is : (m : Mark) (x : Token) (p : Tree × part.Frames) → Agree x (emission.separating p.1) (parts.separate (base p.1) m (low_of p)) (part.separate m x p)
separate_is m x (t, part.bottom σ) = tt
separate_is m x (t, part.over g fs) = tt
separate_is m x (t, part.timing u k y fs) = tt
separate_is m x (t, part.within h ts pre fs) =
    subst
    (λ y. Agree x (emission.part_end h) (parts.next_part (kind_of h) (parts.next_expected y m (parts.is_first (filling ts pre))) (Within (kind_of h) Parts (reads_types ts && parts.reads_type (part_of t)) (grammar.sort_in (part.sort fs) h) ∷ frames_of fs))
    (part.next_part (grammar.style (part.sort fs) h) m x h ts (more ts pre t) fs))
    (sym (ap (λ σ. parts.kind_style σ (kind_of h)) (top_sort fs) ∙ kind_style (part.sort fs) h))
    (part_is (grammar.style (part.sort fs) h) m x h ts pre t fs)

pub join_is : (m : Mark) (x : Token) (p : Tree × part.Frames) → Agree x (emission.joining m p.1) (parts.join (base p.1) m (low_of p)) (part.join m x p)
join_is m x p =
    agree_or (has_level (parts.top (base p.1) (frames_of p.1)) (level_of m) && nat_le (parts.least (frames_of p.1)) (level_of m)) (has_level (part.sort p.1) (level_of m) && nat_le (part.least p.1) (level_of m)) x
    [] (emission.separating p.1)
    (if nat_le (left_of m) (grammar.level p.0) then Some ((Operand, Over (Left m) (parts.top (base p.1) (frames_of p.1)) ∷ frames_of p.1), parts.adds_nothing) else None)
    (parts.separate (base p.1) m (low_of p))
    (if nat_le (left_of m) (grammar.level p.0) then Some (part.want (part.over (tree.left p.0 m x) p.1)) else None)
    (part.separate m x p)
    (both_and _ _ _ _ (ap (λ σ. has_level σ (level_of m)) (top_sort p.1)) (ap (λ n. nat_le n (level_of m)) (least_is p.1)))
    (agree_if _ _ x [] ((Operand, Over (Left m) (parts.top (base p.1) (frames_of p.1)) ∷ frames_of p.1), parts.adds_nothing) (part.want (part.over (tree.left p.0 m x) p.1)) refl
    (ap (λ σ. (Operand, Over (Left m) σ ∷ frames_of p.1)) (top_sort p.1)) refl)
    (separate_is m x p)

pub may_dot_is : (σ : Sort) (t : Tree) (x : Token) → parts.may_dot σ (part_of t) x.touching ≡ grammar.may_post σ t (dot x)
may_dot_is (sorts.Expression b) t x = refl
may_dot_is sorts.Arithmetic t x = refl
may_dot_is sorts.Notation t x = ap (λ b. b && x.touching) (part_atom t)
may_dot_is sorts.Typ t x = refl
may_dot_is sorts.Count t x = refl
may_dot_is sorts.Bound t x = refl

pub may_iterate_is : (σ : Sort) (t : Tree) (m : Mark) (x : Token) → parts.may_iterate σ (part_of t) m ≡ grammar.may_post σ t (sign m x)
may_iterate_is (sorts.Expression b) t m x = refl
may_iterate_is sorts.Arithmetic t m x = refl
may_iterate_is sorts.Notation t m x = ap (λ b. is_type_iteration_sign m && b) (part_type t)
may_iterate_is sorts.Typ t m x = refl
may_iterate_is sorts.Count t m x = refl
may_iterate_is sorts.Bound t m x = refl

pub lower_tight : (n : ℕ) (t : Tree) (fs : part.Frames) → grammar.level t ≡ tight → parts.lower n tight (part_of t) (frames_of fs) ≡ low_of (part.lower n t fs)
lower_tight n t fs e = ap (λ v. parts.lower n v (part_of t) (frames_of fs)) (sym e) ∙ lower_is n t fs

pub lowers_is : (t : Tree) (m : Mark) (x : Token) (fs : part.Frames) → grammar.level t ≡ tight
    → Agree x (emission.lowering (part.pull (part.sort fs) m) fs ++ emission.joining m (part.lower (part.pull (part.sort fs) m) t fs).1) (parts.lower_sign (base fs) m (part_of t) (frames_of fs)) (part.join m x (part.lower (part.pull (part.sort fs) m) t fs))
lowers_is t m x fs e =
    subst (λ σ. Agree x acts (parts.acting (parts.lowering (parts.pull σ m) (frames_of fs)) (parts.join (base fs) m (parts.lower (parts.pull σ m) tight (part_of t) (frames_of fs)))) to) (sym (top_sort fs))
    (subst (λ ends. Agree x (ends ++ emission.joining m low.1) (parts.acting (parts.lowering n (frames_of fs)) (parts.join (base fs) m (parts.lower n tight (part_of t) (frames_of fs)))) to) (lowering_is n fs)
    (agree_acting x (parts.lowering n (frames_of fs)) (emission.joining m low.1) (parts.join (base fs) m (parts.lower n tight (part_of t) (frames_of fs))) to
    (subst (λ q. Agree x (emission.joining m low.1) (parts.join (base fs) m q) to) (sym (lower_tight n t fs e))
    (subst (λ σ. Agree x (emission.joining m low.1) (parts.join σ m (low_of low)) to) (lower_base n t fs) (join_is m x low)))))
  where
    n : ℕ
    n = part.pull (part.sort fs) m

    low : Tree × part.Frames
    low = part.lower n t fs

    to : Option part.State
    to = part.join m x low

    acts : List Action
    acts = emission.lowering n fs ++ emission.joining m low.1

pub sign_is : (t : Tree) (m : Mark) (x : Token) (fs : part.Frames) → grammar.level t ≡ tight → Agree x (emission.behind_sign_acts m x t fs) (parts.behind_sign (base fs) m (part_of t) (frames_of fs)) (part.behind_sign m x t fs)
sign_is t m x fs e =
    agree_or (parts.may_iterate (parts.top (base fs) (frames_of fs)) (part_of t) m) (grammar.may_post (part.sort fs) t (sign m x)) x (post_acts (sign m x)) counted (Some ((Next (parts.marked m (part_of t)), frames_of fs), λ y. action.Mark m ∷ []))
    (if is_expression (parts.top (base fs) (frames_of fs)) && is_caret m then Some ((Operand, Timing ∷ frames_of fs), parts.adds_nothing) else parts.lower_sign (base fs) m (part_of t) (frames_of fs))
    (Some (part.got (tree.post t (sign m x)) fs))
    (if is_expression (part.sort fs) && is_caret m then Some (part.want (part.timing t m x fs)) else to)
    (ap (λ σ. parts.may_iterate σ (part_of t) m) (top_sort fs) ∙ may_iterate_is (part.sort fs) t m x) (refl, refl)
    (agree_or (is_expression (parts.top (base fs) (frames_of fs)) && is_caret m) (is_expression (part.sort fs) && is_caret m) x [] lowered (Some ((Operand, Timing ∷ frames_of fs), parts.adds_nothing)) (parts.lower_sign (base fs) m (part_of t) (frames_of fs))
    (Some (part.want (part.timing t m x fs))) to
    (ap (λ σ. is_expression σ && is_caret m) (top_sort fs)) (refl, refl) (lowers_is t m x fs e))
  where
    to : Option part.State
    to = part.join m x (part.lower (part.pull (part.sort fs) m) t fs)

    lowered : List Action
    lowered = emission.lowering (part.pull (part.sort fs) m) fs ++ emission.joining m (part.lower (part.pull (part.sort fs) m) t fs).1

    counted : List Action
    counted = if is_expression (part.sort fs) && is_caret m then [] else lowered

pub square_is : (t : Tree) (x : Token) (fs : part.Frames) → Agree x (action.OpenPath ∷ []) (parts.behind_square (base fs) (frames_of fs)) (part.behind_square x t fs)
square_is t x fs =
    agree_both (is_expression (parts.top (base fs) (frames_of fs))) (is_expression (part.sort fs)) x (action.OpenPath ∷ []) (Some ((Step false, frames_of fs), λ y. action.OpenPath ∷ []))
    (if computes (parts.top (base fs) (frames_of fs)) then Some (opened_by InIndex fs) else None) (Some (part.pathed (tree.head t x) fs)) (if computes (part.sort fs) then Some (part.want (part.within (tree.index t x) none [] fs)) else None)
    (ap is_expression (top_sort fs)) (refl, refl)
    (agree_if _ _ x _ (opened_by InIndex fs) (part.want (part.within (tree.index t x) none [] fs)) (ap computes (top_sort fs)) (due_in (tree.index t x) fs) refl)

pub called : (f x : Token) (fs : part.Frames) → Agree x (action.Open x.at ∷ []) (if computes (parts.top (base fs) (frames_of fs)) && x.touching then Some (opened_by Arguments fs) else None) (part.behind_round x (tree.operand leaves.Function f) fs)
called f x fs =
    agree_if _ _ x _ (opened_by Arguments fs) (part.want (part.within (tree.arguments f x) none [] fs)) (ap (λ σ. computes σ && x.touching) (top_sort fs)) (due_in (tree.arguments f x) fs) refl

-- only a function has arguments
pub round_is : (t : Tree) (x : Token) (fs : part.Frames) → Agree x (action.Open x.at ∷ []) (parts.behind_round (base fs) x.touching (part_of t) (frames_of fs)) (part.behind_round x t fs)
round_is t x fs =
    subst (λ b. Agree x (action.Open x.at ∷ []) (if b && (computes (parts.top (base fs) (frames_of fs)) && x.touching) then Some (opened_by Arguments fs) else None) (part.behind_round x t fs)) (sym (part_function t)) (go t)
  where
    go : (u : Tree) → Agree x (action.Open x.at ∷ []) (if grammar.is_function u && (computes (parts.top (base fs) (frames_of fs)) && x.touching) then Some (opened_by Arguments fs) else None) (part.behind_round x u fs)
    go (tree.operand leaves.Low f) = tt
    go (tree.operand leaves.Basic f) = tt
    go (tree.operand leaves.Variable f) = tt
    go (tree.operand leaves.Atom f) = tt
    go (tree.operand leaves.Number f) = tt
    go (tree.operand leaves.Literal f) = tt
    go (tree.operand leaves.Function f) = called f x fs
    go (tree.post u l) = tt
    go (tree.times u m y c) = tt
    go (tree.bracket h ts c) = tt
    go (tree.led g u) = tt

pub closes_is : (c : Closing) (t : Tree) (x : Token) (fs : part.Frames) → grammar.level t ≡ tight → Agree x (emission.lowering 0 fs ++ emission.closed x (part.lower 0 t fs)) (parts.behind_closing c (part_of t) (frames_of fs)) (part.close c x (part.lower 0 t fs))
closes_is c t x fs e =
    subst (λ ends. Agree x (ends ++ emission.closed x (part.lower 0 t fs)) (parts.behind_closing c (part_of t) (frames_of fs)) (part.close c x (part.lower 0 t fs))) (lowering_is 0 fs)
    (agree_acting x (parts.lowering 0 (frames_of fs)) (emission.closed x (part.lower 0 t fs)) (parts.close c (parts.lower 0 tight (part_of t) (frames_of fs))) (part.close c x (part.lower 0 t fs))
    (subst (λ q. Agree x (emission.closed x (part.lower 0 t fs)) (parts.close c q) (part.close c x (part.lower 0 t fs))) (sym (lower_tight 0 t fs e)) (close_is c x (part.lower 0 t fs))))

pub behind_is : (t : Tree) (fs : part.Frames) (l : Terminal) → grammar.level t ≡ tight → Agree (token_in l) (emission.behind_acts t fs l) (parts.behind (base fs) (part_of t) (frames_of fs) (shape l)) (part.behind t fs l)
behind_is t fs (leaf k x) e = tt
behind_is t fs (dot x) e =
    agree_if _ _ x _ ((Next (parts.dotted (part_of t) x.touching), frames_of fs), λ y. action.Dot y ∷ []) (part.got (tree.post t (dot x)) fs)
    (ap (λ σ. parts.may_dot σ (part_of t) x.touching) (top_sort fs) ∙ may_dot_is (part.sort fs) t x) refl refl
behind_is t fs (sign m x) e = sign_is t m x fs e
behind_is t fs (opening bracket.Round x) e = round_is t x fs
behind_is t fs (opening bracket.Square x) e = square_is t x fs
behind_is t fs (opening bracket.Brace x) e = tt
behind_is t fs (opening bracket.TickRound x) e = tt
behind_is t fs (opening bracket.TickSquare x) e = tt
behind_is t fs (opening bracket.TickBrace x) e = tt
behind_is t fs (opening bracket.Dollar x) e = tt
behind_is t fs (closing c x) e = closes_is c t x fs e
behind_is t fs (other x) e = tt

pub after_is : (t : Tree) (fs : part.Frames) (l : Terminal) → Stand fs → grammar.level t ≡ tight → Agree (token_in l) (emission.after_acts t fs l) (parts.after (base fs) (part_of t) (frames_of fs) (shape l)) (part.after t fs l)
after_is t fs l h e =
    agree_or (parts.follows (parts.top (base fs) (frames_of fs)) (part_of t) (shape l)) (grammar.follows (part.sort fs) t l) (token_in l) (emission.extending fs ++ emission.beginning (part.extend t fs) l) (emission.behind_acts t fs l)
    (parts.begin_next (base fs) (frames_of fs) (shape l)) (parts.behind (base fs) (part_of t) (frames_of fs) (shape l)) (part.begin (part.extend t fs) l) (part.behind t fs l)
    (ap (λ σ. parts.follows σ (part_of t) (shape l)) (top_sort fs) ∙ follows_is (part.sort fs) t l) (next_begins t fs l h) (behind_is t fs l e)

-- ---- paths, names and counts

pub in_index_is : (p : Path) (fs : part.Frames) (l : Terminal) → Agree (token_in l) (emission.index_acts_in p fs l) (parts.in_index (base fs) (grammar.has_step p) (frames_of fs) (shape l)) (part.in_index p fs l)
in_index_is (tree.head t o) fs l =
    subst (λ gs. Agree (token_in l) (emission.beginning (part.within (tree.index t o) none [] fs) l) (parts.begin (base fs) gs (shape l)) (part.begin (part.within (tree.index t o) none [] fs) l)) (sym (opened_is (tree.index t o) fs))
    (begin_is (part.within (tree.index t o) none [] fs) l)
in_index_is (tree.field p x) fs l = tt
in_index_is (tree.part p o ts c) fs l = tt

pub path_is : (p : Path) (fs : part.Frames) (l : Terminal) → Agree (token_in l) (emission.path_step_acts p fs l) (parts.in_path (base fs) (grammar.has_step p) (frames_of fs) (shape l)) (part.in_path p fs l)
path_is p fs (dot x) = (refl, refl)
path_is p fs (leaf k x) = in_index_is p fs (leaf k x)
path_is p fs (opening bracket.Square x) = (due_in (tree.segment p x) fs, refl)
path_is p fs (opening bracket.Round x) = in_index_is p fs (opening bracket.Round x)
path_is p fs (opening bracket.Brace x) = in_index_is p fs (opening bracket.Brace x)
path_is p fs (opening bracket.TickRound x) = in_index_is p fs (opening bracket.TickRound x)
path_is p fs (opening bracket.TickSquare x) = in_index_is p fs (opening bracket.TickSquare x)
path_is p fs (opening bracket.TickBrace x) = in_index_is p fs (opening bracket.TickBrace x)
path_is p fs (opening bracket.Dollar x) = in_index_is p fs (opening bracket.Dollar x)
path_is p fs (closing c x) = in_index_is p fs (closing c x)
path_is p fs (other x) = in_index_is p fs (other x)
path_is p fs (sign m x) =
    agree_or (grammar.has_step p && is_change m) (grammar.has_step p && is_change m) x [] (emission.index_acts_in p fs (sign m x)) (Some (opened_by (Update m) fs)) (parts.in_index (base fs) (grammar.has_step p) (frames_of fs) (Sign m))
    (Some (part.want (part.within (tree.update p m x) none [] fs))) (part.in_index p fs (sign m x)) refl (due_in (tree.update p m x) fs, refl) (in_index_is p fs (sign m x))

pub is_label_is : (l : Terminal) → parts.is_label (shape l) ≡ grammar.is_label l
is_label_is (leaf leaves.Low x) = refl
is_label_is (leaf leaves.Basic x) = refl
is_label_is (leaf leaves.Variable x) = refl
is_label_is (leaf leaves.Atom x) = refl
is_label_is (leaf leaves.Number x) = refl
is_label_is (leaf leaves.Literal x) = refl
is_label_is (leaf leaves.Function x) = refl
is_label_is (dot x) = refl
is_label_is (sign m x) = refl
is_label_is (opening b x) = refl
is_label_is (closing c x) = refl
is_label_is (other x) = refl

pub named_is : (ts : Trees) (pre : List Terminal) (l : Terminal) → parts.named (filling ts pre) ≡ filling ts (pre ++ l ∷ [])
named_is none [] l = refl
named_is none (k ∷ pre) l = refl
named_is (more ts q t) pre l = refl

pub name_is : (h : Heading) (ts : Trees) (pre : List Terminal) (fs : part.Frames) (l : Terminal) → Agree (token_in l) (emission.name_acts h l) (parts.name_field (frames_of (part.within h ts pre fs)) (shape l)) (part.name_field h ts pre fs l)
name_is h ts pre fs l =
    agree_if _ _ _ _ ((Operand, Within (kind_of h) (parts.named (filling ts pre)) (reads_types ts) (grammar.sort_in (part.sort fs) h) ∷ frames_of fs), parts.naming (kind_of h)) (part.want (part.within h ts (pre ++ l ∷ []) fs))
    (is_label_is l) (ap (λ f. (Operand, Within (kind_of h) f (reads_types ts) (grammar.sort_in (part.sort fs) h) ∷ frames_of fs)) (named_is ts pre l)) (naming_is h l)

pub index_is : (o : Token) (fs : part.Frames) (l : Terminal) → Agree (token_in l) (emission.name_index_acts fs l) (parts.name_index (frames_of fs) (shape l)) (part.name_index o fs l)
index_is o fs (leaf leaves.Low i) = (refl, label_is i fs)
index_is o fs (leaf leaves.Basic x) = tt
index_is o fs (leaf leaves.Variable x) = tt
index_is o fs (leaf leaves.Atom x) = tt
index_is o fs (leaf leaves.Number x) = tt
index_is o fs (leaf leaves.Literal x) = tt
index_is o fs (leaf leaves.Function x) = tt
index_is o fs (dot x) = tt
index_is o fs (sign m x) = tt
index_is o fs (opening b x) = tt
index_is o fs (closing c x) = tt
index_is o fs (other x) = tt

pub bound_is : (o i : Token) (fs : part.Frames) (l : Terminal) → Agree (token_in l) [] (parts.bound_index (base fs) (frames_of fs) (shape l)) (part.bound_index o i fs l)
bound_is o i fs (sign m x) = agree_if _ _ x _ (opened_by Below fs) (part.want (part.within (tree.below o i m x) none [] fs)) refl (due_in (tree.below o i m x) fs) refl
bound_is o i fs (leaf k x) = tt
bound_is o i fs (dot x) = tt
bound_is o i fs (opening b x) = tt
bound_is o i fs (closing c x) = tt
bound_is o i fs (other x) = tt

-- ---- steps

pub level_high : (t : Tree) → grammar.level t ≤ tight
level_high (tree.operand k x) = omega arith
level_high (tree.post t l) = omega arith
level_high (tree.times t m x c) = omega arith
level_high (tree.bracket h ts c) = omega arith
level_high (tree.led g t) = omega (arith, lead_low g)

-- The automaton takes each step of the reading, and adds what the trees say.
pub moves_are : (st : part.State) (l : Terminal) → Holds st → Agree (token_in l) (emission.emitted st l) (parts.step (state_base st) (state_of st) (shape l)) (part.step st l)
moves_are (part.want fs) l h = begin_is fs l
moves_are (part.got t fs) l h = after_is t fs l h.0.frames (omega (arith, level_high t, h.1))
moves_are (part.naming k ts pre fs) l n = name_is k ts pre fs l
moves_are (part.pathed p fs) l h = path_is p fs l
moves_are (part.indexing o fs) l h = index_is o fs l
moves_are (part.comparing o i fs) l h = bound_is o i fs l

pub step_is : (st : part.State) (l : Terminal) → Holds st → parts.next (state_base st) (state_of st) (shape l) ≡ option_map state_of (part.step st l)
step_is st l h = agree_next (token_in l) (emission.emitted st l) (parts.step (state_base st) (state_of st) (shape l)) (part.step st l) (moves_are st l h)

-- where the reading goes on, so does the automaton
pub agreed : (x : Token) (acts : List Action) (o : Option parts.Move) (q : Option part.State) (next : part.State) → Agree x acts o q → q ≡ Some next → (m : parts.Move) × (o ≡ Some m) × (m.0 ≡ state_of next) × (m.1 x ≡ acts)
agreed x acts None None next h e = absurd (cc)
agreed x acts None (Some last) next h e = absurd h
agreed x acts (Some m) None next h e = absurd h
agreed x acts (Some m) (Some last) next h e = let is : last ≡ next = cc in (m, refl, h.0 ∙ ap state_of is, h.1)

pub emits_is : (st : part.State) (l : Terminal) (next : part.State) → Holds st → part.step st l ≡ Some next → parts.emits (state_base st) (state_of st) (shape l) (token_in l) ≡ emission.emitted st l
emits_is st l next h e =
    let a = agreed (token_in l) (emission.emitted st l) (parts.step (state_base st) (state_of st) (shape l)) (part.step st l) next (moves_are st l h) e in
    ap (parts.added (token_in l)) a.1 ∙ a.3

pub ended_is : (p : Tree × part.Frames) → parts.ended (low_of p) ≡ option_map part_of (part.ended p)
ended_is (t, part.bottom σ) = refl
ended_is (t, part.within h ts pre fs) = refl
ended_is (t, part.over g fs) = refl
ended_is (t, part.timing u m x fs) = refl

pub finish_is : (st : part.State) → Holds st → parts.finish (state_of st) ≡ option_map part_of (part.finish st)
finish_is (part.want fs) h = refl
finish_is (part.got t fs) h = ap parts.ended (lower_tight 0 t fs (omega (arith, level_high t, h.1))) ∙ ended_is (part.lower 0 t fs)
finish_is (part.naming k ts pre fs) n = refl
finish_is (part.pathed p fs) h = refl
finish_is (part.indexing o fs) h = refl
finish_is (part.comparing o i fs) h = refl

pub finishing_is : (st : part.State) → parts.finishing (state_of st) ≡ emission.finishing st
finishing_is (part.got t fs) = lowering_is 0 fs
finishing_is (part.want fs) = refl
finishing_is (part.naming k ts pre fs) = refl
finishing_is (part.pathed p fs) = refl
finishing_is (part.indexing o fs) = refl
finishing_is (part.comparing o i fs) = refl
