-- What is added where parts and brackets end, by the part automaton and of the trees.
use Rattle.std.proofs.Common.{◌≡◌, ℕ, List, [], ◌∷◌, ◌++◌, Bool, true, false, Some, None, nat_le, if◌then◌else◌, refl, ap, ◌∙◌, arith}
use Rattle.st_num.specs.declared.token.Token.{Token}
use Rattle.st_grammar.specs.declared.sort.Leaf.{Leaf}
use Rattle.st_grammar.specs.declared.sort.Bracket.{Bracket}
use Rattle.st_grammar.specs.declared.sort.Bracket.TheVariants as bracket
use Rattle.st_grammar.specs.Terminals.{Terminal}
use Rattle.st_grammar.specs.Trees as tree
use Rattle.st_grammar.specs.Trees.{Tree, Trees, Heading, none, more}
use Rattle.st_grammar.specs.Reading as part
use Rattle.st_grammar.specs.Definitions.{token_in}
use Rattle.st_grammar.proofs.Sound.{Stand}
use Rattle.st_parse_automaton.specs.declared.part_automaton.PartKind.TheVariants.{Plain}
use Rattle.st_parse_automaton.proofs.View.{kind_of, lead_of, filling, frames_of, lead_reach}
use Rattle.st_grammar.specs.declared.action.Action.{Action}
use Rattle.st_grammar.specs.inner.Actions.{end_acts, closing_acts, opening_acts}
use Rattle.st_grammar.specs.inner.Emission as emission
use Rattle.st_parse_automaton.specs.inner.PartAutomaton.{opening, naming, extending, index_label, settling, lead_end, lead_closes, lowering, part_end, kind_end, is_below, shutting}

pub label_is : (i : Token) (fs : part.Frames) → index_label i (frames_of fs) ≡ emission.index_label i fs
label_is i (part.bottom σ) = refl
label_is i (part.within h ts pre fs) = refl
label_is i (part.over g fs) = refl
label_is i (part.timing t m x fs) = refl

pub operand_settles : (k : Leaf) (x : Token) (fs : part.Frames) → settling false (frames_of fs) ≡ emission.settling (tree.operand k x) fs
operand_settles k x (part.bottom σ) = refl
operand_settles k x (part.within h ts pre fs) = refl
operand_settles k x (part.over g fs) = refl
operand_settles k x (part.timing t m y fs) = refl

pub bracket_settles : (h : Heading) (ts : Trees) (c : Token) (fs : part.Frames) → settling (is_below (kind_of h)) (frames_of fs) ≡ emission.settling (tree.bracket h ts c) fs
bracket_settles h ts c (part.bottom σ) = refl
bracket_settles h ts c (part.within k us pre fs) = refl
bracket_settles h ts c (part.over g fs) = refl
bracket_settles (tree.plain b o) ts c (part.timing t m x fs) = refl
bracket_settles (tree.length o) ts c (part.timing t m x fs) = refl
bracket_settles (tree.arguments f o) ts c (part.timing t m x fs) = refl
bracket_settles (tree.index u o) ts c (part.timing t m x fs) = refl
bracket_settles (tree.segment p o) ts c (part.timing t m x fs) = refl
bracket_settles (tree.update p k o) ts c (part.timing t m x fs) = refl
bracket_settles (tree.below o i k y) ts c (part.timing t m x fs) = refl

pub lead_end_is : (g : tree.Lead) → lead_end (lead_of g) ≡ end_acts g
lead_end_is (tree.left l m x) = refl
lead_end_is (tree.ahead m x) = refl
lead_end_is (tree.items ts) = refl

pub lowering_is : (n : ℕ) (fs : part.Frames) → lowering n (frames_of fs) ≡ emission.lowering n fs
lowering_is n (part.bottom σ) = refl
lowering_is n (part.within h ts pre fs) = refl
lowering_is n (part.timing t m x fs) = refl
lowering_is n (part.over g fs) =
    ap (λ r. lead_closes (lowering n (frames_of fs)) (if nat_le r n then None else Some (lead_of g))) (lead_reach g)
    ∙ go (nat_le (part.reach g) n) (lowering_is n fs)
  where
    go : (b : Bool) → lowering n (frames_of fs) ≡ emission.lowering n fs
        → lead_closes (lowering n (frames_of fs)) (if b then None else Some (lead_of g)) ≡ (if b then [] else end_acts g ++ emission.lowering n fs)
    go true e = refl
    go false e = ap (λ a. a ++ lowering n (frames_of fs)) (lead_end_is g) ∙ ap (λ a. end_acts g ++ a) e

pub part_end_is : (h : Heading) → part_end (kind_of h) ≡ emission.part_end h
part_end_is (tree.plain bracket.Round o) = refl
part_end_is (tree.plain bracket.Square o) = refl
part_end_is (tree.plain bracket.Brace o) = refl
part_end_is (tree.plain bracket.TickRound o) = refl
part_end_is (tree.plain bracket.TickSquare o) = refl
part_end_is (tree.plain bracket.TickBrace o) = refl
part_end_is (tree.plain bracket.Dollar o) = refl
part_end_is (tree.length o) = refl
part_end_is (tree.arguments f o) = refl
part_end_is (tree.index t o) = refl
part_end_is (tree.segment p o) = refl
part_end_is (tree.update p m x) = refl
part_end_is (tree.below o i m x) = refl

pub kind_end_is : (h : Heading) (ts : Trees) (pre : List Terminal) (t : Tree) → kind_end (kind_of h) (filling ts pre) ≡ closing_acts h (more ts pre t)
kind_end_is (tree.plain bracket.Round o) ts pre t = refl
kind_end_is (tree.plain bracket.Square o) ts pre t = refl
kind_end_is (tree.plain bracket.Brace o) ts pre t = refl
kind_end_is (tree.plain bracket.TickRound o) ts pre t = refl
kind_end_is (tree.plain bracket.TickSquare o) ts pre t = refl
kind_end_is (tree.plain bracket.TickBrace o) ts pre t = refl
kind_end_is (tree.plain bracket.Dollar o) ts pre t = refl
kind_end_is (tree.length o) ts pre t = refl
kind_end_is (tree.arguments f o) ts pre t = refl
kind_end_is (tree.index u o) none [] t = refl
kind_end_is (tree.index u o) none (l ∷ pre) t = refl
kind_end_is (tree.index u o) (more ts q v) pre t = refl
kind_end_is (tree.segment p o) none [] t = refl
kind_end_is (tree.segment p o) none (l ∷ pre) t = refl
kind_end_is (tree.segment p o) (more ts q v) pre t = refl
kind_end_is (tree.update p m x) ts pre t = refl
kind_end_is (tree.below o i m x) ts pre t = refl

pub both_append : (a b c d : List Action) → a ≡ b → c ≡ d → a ++ c ≡ b ++ d
both_append a b c d e f = ap (λ l. l ++ c) e ∙ ap (λ l. b ++ l) f

pub closed_is : (h : Heading) (ts : Trees) (pre : List Terminal) (t : Tree) (x : Token) (fs : part.Frames)
    → part_end (kind_of h) ++ shutting (kind_of h) (filling ts pre) (frames_of fs) ≡ emission.part_end h ++ emission.shutting h (more ts pre t) x fs
closed_is h ts pre t x fs = both_append _ _ _ _ (part_end_is h) (go h)
  where
    whole : (k : Heading) → kind_end (kind_of k) (filling ts pre) ++ settling (is_below (kind_of k)) (frames_of fs) ≡ closing_acts k (more ts pre t) ++ emission.settling (tree.bracket k (more ts pre t) x) fs
    whole k = both_append _ _ _ _ (kind_end_is k ts pre t) (bracket_settles k (more ts pre t) x fs)

    go : (k : Heading) → shutting (kind_of k) (filling ts pre) (frames_of fs) ≡ emission.shutting k (more ts pre t) x fs
    go (tree.plain b o) = whole (tree.plain b o)
    go (tree.length o) = whole (tree.length o)
    go (tree.arguments f o) = whole (tree.arguments f o)
    go (tree.index u o) = whole (tree.index u o)
    go (tree.segment p o) = kind_end_is (tree.segment p o) ts pre t
    go (tree.update p m y) = whole (tree.update p m y)
    go (tree.below o i m y) = whole (tree.below o i m y)

pub plain_opens : (b : Bracket) (x : Token) → opening (Plain b) x ≡ opening_acts (tree.plain b x)
plain_opens bracket.Round x = refl
plain_opens bracket.Square x = refl
plain_opens bracket.Brace x = refl
plain_opens bracket.TickRound x = refl
plain_opens bracket.TickSquare x = refl
plain_opens bracket.TickBrace x = refl
plain_opens bracket.Dollar x = refl

pub extending_is : (fs : part.Frames) → Stand fs → extending (frames_of fs) ≡ emission.extending fs
extending_is (part.bottom σ) h = refl
extending_is (part.within k ts pre fs) h = refl
extending_is (part.over (tree.left l m x) fs) h = refl
extending_is (part.over (tree.ahead m x) fs) h = refl
extending_is (part.over (tree.items none) fs) h = absurd (omega (arith, h.1.2))
extending_is (part.over (tree.items (more ts pre t)) fs) h = refl
extending_is (part.timing t m x fs) h = refl

pub naming_is : (h : Heading) (l : Terminal) → naming (kind_of h) (token_in l) ≡ emission.name_acts h l
naming_is (tree.plain bracket.Round o) l = refl
naming_is (tree.plain bracket.Square o) l = refl
naming_is (tree.plain bracket.Brace o) l = refl
naming_is (tree.plain bracket.TickRound o) l = refl
naming_is (tree.plain bracket.TickSquare o) l = refl
naming_is (tree.plain bracket.TickBrace o) l = refl
naming_is (tree.plain bracket.Dollar o) l = refl
naming_is (tree.length o) l = refl
naming_is (tree.arguments f o) l = refl
naming_is (tree.index t o) l = refl
naming_is (tree.segment p o) l = refl
naming_is (tree.update p m x) l = refl
naming_is (tree.below o i m x) l = refl
