-- Each token of a part changes the tallies as the parser counts them.
use Rattle.std.proofs.Common.{◌≡◌, ℕ, ◌+◌, List, [], ◌∷◌, Bool, true, false, ◌&&◌, Option, Some, None, nat_le, if◌then◌else◌, refl, sym, ap, ◌∙◌, arith}
use Rattle.st_num.specs.declared.mark.Mark.{Mark}
use Rattle.st_num.specs.declared.token.Token.{Token}
use Rattle.st_grammar.specs.declared.sort.Bracket.{Bracket}
use Rattle.st_grammar.specs.declared.sort.Bracket.TheVariants as bracket_of
use Rattle.st_grammar.specs.declared.sort.Closing.TheVariants as closings
use Rattle.st_grammar.specs.Terminals.{Terminal, leaf, dot, sign, opening, closing, other}
use Rattle.st_num.specs.Signs.{prefix_level}
use Rattle.st_grammar.specs.Levels.{takes, encloses, computes, is_count, has_level}
use Rattle.st_grammar.specs.Trees.{Tree, operand, bracket, ahead, none, more, plain, length, arguments, index, segment, update, below}
use Rattle.st_grammar.specs.Reading.{Frames, bottom, within, over, timing, State, want, indexing, sort, least, settle, opened, begin_opening, begin}
use Rattle.st_grammar.proofs.Sound.{Stand}
use Rattle.st_parse_automaton.specs.inner.Shapes.{shape}
use Rattle.st_parse_automaton.proofs.View.{state_of}
use Rattle.st_parse_faults.specs.declared.role.Attachment.{Attachment}
use Rattle.st_parse_faults.specs.declared.role.Attachment.TheVariants as attachment
use Rattle.st_parse_faults.specs.declared.role.TokenRole.TheVariants as role
use Rattle.st_parse_faults.specs.declared.tally.Tally.{Tally}
use Rattle.st_parse_faults.specs.Signs.{posts, is_turnstile, signs}
use Rattle.st_parse_faults.specs.inner.Limits.{signs_in, parts_in, elements_with, aheads, tally, fresh, held_tally, tallies_round, part_tallies}
use Rattle.st_parse_faults.proofs.NumberFacts as facts
use Rattle.st_parse_faults.proofs.NumberFacts.{NoCount, held}
use Rattle.st_parse_faults.specs.inner.Roles.{none_open, begun, counted, moved}

-- Behind the token the tallies are those, and something is read.
abbrev pub To : ℕ → Attachment → Terminal → List Tally → Option State → Type 0
To n k l ys None = Unit {0}
To n k l ys (Some next) =
    (part_tallies n next ≡ moved k (shape l) (state_of next) ys) × (none_open (state_of next) ≡ false)

pub on_if : (n : ℕ) (k : Attachment) (l : Terminal) (ys : List Tally) (b : Bool) (x : State) (o : Option State) → (b ≡ true → To n k l ys (Some x)) → (b ≡ false → To n k l ys o) → To n k l ys (if b then Some x else o)
on_if n k l ys true x o f g = f refl
on_if n k l ys false x o f g = g refl

pub on_both : (n : ℕ) (k : Attachment) (l : Terminal) (ys : List Tally) (b : Bool) (p o : Option State) → (b ≡ true → To n k l ys p) → (b ≡ false → To n k l ys o) → To n k l ys (if b then p else o)
on_both n k l ys true p o f g = f refl
on_both n k l ys false p o f g = g refl

pub same_tally : (p p' e e' s s' r r' : ℕ) (d : Bool) → p ≡ p' → e ≡ e' → s ≡ s' → r ≡ r' → tally p e s r d ≡ tally p' e' s' r' d
same_tally p p' e e' s s' r r' d f g h i = ap (λ v. tally v e s r d) f ∙ ap (λ v. tally p' v s r d) g ∙ ap (λ v. tally p' e' v r d) h ∙ ap (λ v. tally p' e' s' v d) i

-- ---- a part that is read

pub settled : (n : ℕ) (t : Tree) (fs : Frames) → Stand fs → part_tallies n (settle t fs) ≡ held_tally n (signs t) (posts (sort fs) t) fs ∷ tallies_round n fs
settled n t fs s = facts.settled n t fs (facts.neat fs s)

pub settled_open : (t : Tree) (fs : Frames) → none_open (state_of (settle t fs)) ≡ false
settled_open t (bottom σ) = refl
settled_open t (within h ts pre fs) = refl
settled_open t (over g fs) = refl
settled_open t (timing u m x fs) = refl

-- ---- an operand begins

pub record Ready (n : ℕ) (y : Tally) (fs : Frames) : Type 0 where
  pub part : begun y ≡ parts_in fs + 1
  pub element : y.elements + 1 ≡ elements_with fs
  pub sign : y.signs ≡ signs_in n fs

pub operand_is : (n : ℕ) (y : Tally) (fs : Frames) → NoCount fs → Ready n y fs → counted y role.Operand ≡ held_tally n 0 0 fs
operand_is n y fs c r = same_tally _ _ _ _ _ _ _ _ false r.part r.element (omega (arith, r.sign)) refl ∙ sym (held n 0 0 fs c)

-- what stands round an innermost bracket is in order
abbrev pub RoundStands : Frames → Type 0
RoundStands (within h ts pre fs) = Stand fs
RoundStands fs = Unit {0}

-- where a sign may begin an operand, the prefix signs before it are counted
abbrev pub RowReady : Terminal → Tally → Frames → Type 0
RowReady (sign m x) y fs = y.row ≡ aheads fs
RowReady l y fs = Unit {0}

pub leaf_begins : (n : ℕ) (y : Tally) (fs : Frames) (t : Tree) (l : Terminal) → NoCount fs → Ready n y fs → signs t ≡ 0 → posts (sort fs) t ≡ 0
    → part_tallies n (settle t fs) ≡ counted y role.Operand ∷ tallies_round n fs
leaf_begins n y (bottom σ) t l c r e f = ap (λ v. v ∷ []) (ap (λ v. tally 1 1 (v + n) (posts σ t) false) e ∙ ap (λ v. tally 1 1 (0 + n) v false) f ∙ sym (operand_is n y (bottom σ) c r))
leaf_begins n y (within h ts pre fs) t l c r e f =
    ap (λ v. held_tally n v (posts (sort (within h ts pre fs)) t) (within h ts pre fs) ∷ tallies_round n (within h ts pre fs)) e ∙ ap (λ v. held_tally n 0 v (within h ts pre fs) ∷ tallies_round n (within h ts pre fs)) f
    ∙ ap (λ v. v ∷ tallies_round n (within h ts pre fs)) (sym (operand_is n y (within h ts pre fs) c r))
leaf_begins n y (over g fs) t l c r e f =
    ap (λ v. held_tally n v (posts (sort (over g fs)) t) (over g fs) ∷ tallies_round n (over g fs)) e ∙ ap (λ v. held_tally n 0 v (over g fs) ∷ tallies_round n (over g fs)) f
    ∙ ap (λ v. v ∷ tallies_round n (over g fs)) (sym (operand_is n y (over g fs) c r))
leaf_begins n y (timing u m x fs) t l c r e f = absurd c

pub sign_begins : (n : ℕ) (y : Tally) (fs : Frames) (m : Mark) (x : Token) → Ready n y fs → y.row ≡ aheads fs
    → To n attachment.Begins (sign m x) (y ∷ tallies_round n fs) (Some (want (over (ahead m x) fs)))
sign_begins n y fs m x r w = (ap (λ v. v ∷ tallies_round n fs) (go (is_turnstile m)), refl)
  where
    go : (b : Bool) → tally (parts_in fs + 1) 0 ((if b then 1 else 0) + signs_in n fs) (if b then 0 else aheads fs + 1) false ≡ counted y (if b then role.Infix else role.Prefix)
    go true = same_tally _ _ _ _ _ _ _ _ false (sym r.part) refl (omega (arith, r.sign)) refl
    go false = same_tally _ _ _ _ _ _ _ _ false (sym r.part) refl (omega (arith, r.sign)) (omega (arith, w))

pub bracket_begins : (n : ℕ) (y : Tally) (fs : Frames) → NoCount fs → Ready n y fs
    → fresh 0 ∷ held_tally n 0 0 fs ∷ tallies_round n fs ≡ fresh 0 ∷ counted y role.Operand ∷ tallies_round n fs
bracket_begins n y fs c r = ap (λ v. fresh 0 ∷ v ∷ tallies_round n fs) (sym (operand_is n y fs c r))

pub plain_begins : (n : ℕ) (y : Tally) (fs : Frames) (b : Bracket) (x : Token) → NoCount fs → Ready n y fs → part_tallies n (opened b x fs) ≡ fresh 0 ∷ counted y role.Operand ∷ tallies_round n fs
plain_begins n y fs bracket_of.Round x c r = bracket_begins n y fs c r
plain_begins n y fs bracket_of.Square x c r = bracket_begins n y fs c r
plain_begins n y fs bracket_of.Brace x c r = bracket_begins n y fs c r
plain_begins n y fs bracket_of.TickRound x c r = bracket_begins n y fs c r
plain_begins n y fs bracket_of.TickSquare x c r = bracket_begins n y fs c r
plain_begins n y fs bracket_of.TickBrace x c r = bracket_begins n y fs c r
plain_begins n y fs bracket_of.Dollar x c r = bracket_begins n y fs c r

pub plain_open : (b : Bracket) (x : Token) (fs : Frames) → none_open (state_of (opened b x fs)) ≡ false
plain_open bracket_of.Round x fs = refl
plain_open bracket_of.Square x fs = refl
plain_open bracket_of.Brace x fs = refl
plain_open bracket_of.TickRound x fs = refl
plain_open bracket_of.TickSquare x fs = refl
plain_open bracket_of.TickBrace x fs = refl
plain_open bracket_of.Dollar x fs = refl

pub encloses_begins : (n : ℕ) (y : Tally) (fs : Frames) (b : Bracket) (x : Token) → NoCount fs → Ready n y fs
    → To n attachment.Begins (opening b x) (y ∷ tallies_round n fs) (if encloses (sort fs) b then Some (opened b x fs) else None)
encloses_begins n y fs b x c r = on_if n attachment.Begins (opening b x) (y ∷ tallies_round n fs) (encloses (sort fs) b) (opened b x fs) None (λ e. (plain_begins n y fs b x c r, plain_open b x fs)) (λ e. tt)

pub opening_begins : (n : ℕ) (y : Tally) (fs : Frames) (b : Bracket) (x : Token) → NoCount fs → Ready n y fs
    → To n attachment.Begins (opening b x) (y ∷ tallies_round n fs) (begin_opening b x fs)
opening_begins n y fs bracket_of.Round x c r =
    on_if n attachment.Begins (opening bracket_of.Round x) (y ∷ tallies_round n fs) (is_count (sort fs)) (indexing x fs) (if encloses (sort fs) bracket_of.Round then Some (opened bracket_of.Round x fs) else None) (λ e. (bracket_begins n y fs c r, refl))
    (λ e. encloses_begins n y fs bracket_of.Round x c r)
opening_begins n y fs bracket_of.Square x c r = encloses_begins n y fs bracket_of.Square x c r
opening_begins n y fs bracket_of.Brace x c r = encloses_begins n y fs bracket_of.Brace x c r
opening_begins n y fs bracket_of.TickRound x c r = encloses_begins n y fs bracket_of.TickRound x c r
opening_begins n y fs bracket_of.TickSquare x c r = encloses_begins n y fs bracket_of.TickSquare x c r
opening_begins n y fs bracket_of.TickBrace x c r = encloses_begins n y fs bracket_of.TickBrace x c r
opening_begins n y fs bracket_of.Dollar x c r = encloses_begins n y fs bracket_of.Dollar x c r

pub round_closes : (n : ℕ) (y : Tally) (fs : Frames) (x : Token) → RoundStands fs → To n attachment.Begins (closing closings.ByRound x) (y ∷ tallies_round n fs) (begin fs (closing closings.ByRound x))
round_closes n y (bottom σ) x s = tt
round_closes n y (over g fs) x s = tt
round_closes n y (timing t m z fs) x s = tt
round_closes n y (within (plain b o) ts pre fs) x s = tt
round_closes n y (within (length o) ts pre fs) x s = tt
round_closes n y (within (index t o) ts pre fs) x s = tt
round_closes n y (within (segment p o) ts pre fs) x s = tt
round_closes n y (within (update p m z) ts pre fs) x s = tt
round_closes n y (within (below o i m z) ts pre fs) x s = tt
round_closes n y (within (arguments f o) none [] fs) x s = (settled n (bracket (arguments f o) none x) fs s, settled_open (bracket (arguments f o) none x) fs)
round_closes n y (within (arguments f o) none (l ∷ pre) fs) x s = tt
round_closes n y (within (arguments f o) (more ts q t) pre fs) x s = tt

pub begins : (n : ℕ) (y : Tally) (fs : Frames) (l : Terminal) → NoCount fs → RoundStands fs → Ready n y fs → RowReady l y fs → To n attachment.Begins l (y ∷ tallies_round n fs) (begin fs l)
begins n y fs (leaf k x) c s r w =
    on_if n attachment.Begins (leaf k x) (y ∷ tallies_round n fs) (takes (sort fs) k) (settle (operand k x) fs) None (λ e. (leaf_begins n y fs (operand k x) (leaf k x) c r refl refl, settled_open (operand k x) fs)) (λ e. tt)
begins n y fs (dot x) c s r w = tt
begins n y fs (sign m x) c s r w = on_if n attachment.Begins (sign m x) (y ∷ tallies_round n fs) (has_level (sort fs) (prefix_level m) && nat_le (least fs) (prefix_level m)) (want (over (ahead m x) fs)) None (λ e. sign_begins n y fs m x r w) (λ e. tt)
begins n y fs (opening b x) c s r w = opening_begins n y fs b x c r
begins n y fs (closing closings.ByBar x) c s r w =
    on_if n attachment.Begins (closing closings.ByBar x) (y ∷ tallies_round n fs) (computes (sort fs)) (want (within (length x) none [] fs)) None
    (λ e. (ap (λ v. fresh v ∷ held_tally n 0 0 fs ∷ tallies_round n fs) (omega (arith, r.sign)) ∙ ap (λ v. fresh y.signs ∷ v ∷ tallies_round n fs) (sym (operand_is n y fs c r)), refl)) (λ e. tt)
begins n y fs (closing closings.ByRound x) c s r w = round_closes n y fs x s
begins n y fs (closing closings.BySquare x) c s r w = tt
begins n y fs (closing closings.ByBrace x) c s r w = tt
begins n y fs (other x) c s r w = tt
