-- Dots and marks behind an operand.
use Rattle.std.proofs.Common.{◌≡◌, ℕ, List, [], ◌∷◌, ◌++◌, codes, Bool, true, false, not, ◌&&◌, refl, sym, ap, ◌∙◌, arith}
use Rattle.std.specs.Prelude.{IsTrue, if◌then◌else◌}
use Rattle.std.proofs.lemmas.List.{append-nil}
use Rattle.st_num.specs.Signs.{spelling}
use Rattle.st_num.specs.declared.span.Span.{Span}
use Rattle.st_num.specs.declared.mark.Mark.{Mark}
use Rattle.st_num.specs.declared.mark.Mark.TheVariants as mark
use Rattle.st_scan.specs.Spelling.{is_name, has_lower}
use Rattle.st_num.specs.declared.token.Token.{Token}
use Rattle.st_num.specs.declared.token.TokenKind.TheVariants as kind
use Rattle.st_grammar.specs.declared.sort.Sort.{Sort}
use Rattle.st_grammar.specs.declared.sort.Sort.TheVariants.{Expression as expression, Arithmetic as arithmetic}
use Rattle.st_grammar.specs.Terminals.{dot, sign, other, kind_terminal}
use Rattle.st_grammar.specs.Trees.{Tree, post}
use Rattle.st_grammar.specs.Grammar.{may_post}
use Rattle.st_el.specs.declared.expression.Exp.{Exp}
use Rattle.st_el.specs.declared.expression.Node.{Node, out-Node, roll-Node}
use Rattle.st_el.specs.declared.expression.Node.TheVariants as node
use Rattle.st_el.specs.declared.expression.Count.{Count}
use Rattle.st_el.specs.declared.expression.Count.TheOpen.{Node-F}
use Rattle.st_el.specs.declared.expression.Count.TheVariants as count
use Rattle.st_el.specs.declared.expression.Seg.{Seg}
use Rattle.st_el.specs.declared.context.Around.{Around}
use Rattle.st_el.specs.declared.context.Around.TheVariants.{Brackets, Bars, Arithmetic, Caret}
use Rattle.st_el.specs.declared.context.Behind.{Behind}
use Rattle.st_el.specs.declared.context.Behind.TheVariants.{Other, Dot, Plus}
use Rattle.st_el.specs.Contexts.{operand_before}
use Rattle.st_el.specs.Wrappings.{Level, IterationText, level_of, is_arithmetic, is_plus}
use Rattle.st_el.specs.SourceText.{printed, printed_mark, front, postfix, parts_printed, opened as printed_parts}
use Rattle.st_el.specs.Plain.{nowhere, plain_exp, plain_count, plain_node_at}
use Rattle.st_parse_builder.specs.Names.{name_of}
use Rattle.st_parse_builder.specs.Meaning.{exp, place, meaning, is_atom, atom_name, opened, dotted, iterated, mark_count}
use Rattle.st_parse_law.specs.Written.{token, bytes_of}
use Rattle.st_parse_law.proofs.Cuts.{single, one_terminal}
use Rattle.st_parse_law.proofs.Ends.{Clear, before, point, star, plus, quest, Last, last_star, last_plus, last_quest, last_ends, word_ends}
use Rattle.st_parse_law.proofs.Plains.{plain-at, parts_plain, mark-of}
use Rattle.st_parse_law.proofs.Parts.{part_as}
use Rattle.st_parse_law.proofs.Wraps.{signed, no_atom_at}
use Rattle.st_parse_law.proofs.Placed.{Home, sort_of, bare_traits, place_traits, Printable, printable, placed, normal}
use Rattle.st_parse_law.proofs.Suffixes.{Suffix, suffixed}
use Rattle.st_parse.proofs.ExpressionSeenView.{and_false}

-- nodes with the same plain parts are the same in plain trees
pub same_plain :
    (at by : Span) (n m : Node) (k l : Node-F Count Node Seg Exp) → out-Node n ≡ k → out-Node m ≡ l
    → plain_node_at (parts_plain k) ≡ plain_node_at (parts_plain l) → plain_exp (exp at n) ≡ plain_exp (exp by m)
same_plain at by n m k l e f h = plain-at at n k e ∙ ap (exp nowhere) h ∙ sym (plain-at by m l f)

-- an operand with something behind it
pub operand_then :
    (names : List (List ℕ)) (σ : Sort) (e : Exp) (at : Span) (n : Node) (l : Level) (d : Behind) → printed_parts n ≡ l
    → level_of l ≡ 20 → is_arithmetic l ≡ false → ((a : Around) → (printed e).at (operand_before a d) ≡ front a l) → Printable names σ e
    → ((a : Around) → Home σ a → Suffix names (sort_of a) e (exp at n) (place_traits (operand_before a d) (printed e)) (bare_traits l) (postfix l))
    → Printable names σ (exp at n)
operand_then names σ e at n l d is tight ok fronts x suffix =
    printable names σ at n l is (omega (arith, tight)) (normal σ l ok) (λ a home.
    part_as names (sort_of a) (exp at n) (exp at n) (bare_traits l) ((printed e).at (operand_before a d) ++ postfix l) (front a l ++ postfix l) refl
    (ap (λ w. w ++ postfix l) (fronts a))
    (suffixed names (sort_of a) e (exp at n) (place_traits (operand_before a d) (printed e)) (bare_traits l) ((printed e).at (operand_before a d)) (postfix l)
    (placed names σ e (operand_before a d) home (omega arith) x) (suffix a home)))

-- ---- dots

dotted_is : (e : Exp) (x : Token) (field : List ℕ) → is_atom (opened e) ≡ false → x.kind ≡ kind.Dot field → dotted e x ≡ exp (place e) (node.Dot e field)
dotted_is e x field h k =
    ap (λ b. exp (place e) (if b then node.Atom (atom_name (opened e) ++ 46 ∷ name_of x.kind) else node.Dot e (name_of x.kind))) (ap (λ b. x.touching && b) h ∙ and_false x.touching)
    ∙ ap (λ j. exp (place e) (node.Dot e (name_of j))) k

posts_dot : (σ : Sort) (a : Around) (t : Tree) (x : Token) → Home σ a → may_post (sort_of a) t (dot x) ≡ true
posts_dot (expression b) Brackets t x h = refl
posts_dot (expression b) Bars t x h = refl
posts_dot arithmetic Arithmetic t x h = refl
posts_dot (expression b) Arithmetic t x h = absurd h
posts_dot (expression b) Caret t x h = absurd h
posts_dot arithmetic Brackets t x h = absurd h
posts_dot arithmetic Bars t x h = absurd h
posts_dot arithmetic Caret t x h = absurd h
posts_dot σ a t x h = absurd h

-- the token of a field
pub record IsField (field : List ℕ) : Type 0 where
  pub name : IsTrue (is_name field)
  pub upper : has_lower field ≡ false

pub dot_terminal : (names : List (List ℕ)) (field : List ℕ) (x : Token) → IsField field → kind_terminal names (kind.Dot field) x ≡ dot x
dot_terminal names field x h = ap (λ t. if t then other x else dot x) h.upper

dot_suffix :
    (names : List (List ℕ)) (σ : Sort) (a : Around) (e : Exp) (at : Span) (field : List ℕ) → Home σ a → IsField field
    → Suffix names (sort_of a) e (exp at (node.Dot e field)) (place_traits (operand_before a Dot) (printed e)) (bare_traits (Node-F.Dot (printed e) field)) (codes "." ++ field)
dot_suffix names σ a e at field home h = record {
  pieces = token (kind.Dot field) (46 ∷ field) ∷ [];
  same = append-nil (46 ∷ field);
  ends = refl;
  clear = λ more. before point (field ++ more) refl;
  no_bar = λ n. n;
  apart = λ more c b. ((refl, h.name), tt, word_ends (kind.Dot field) true (bytes_of more) refl c, b);
  reads = λ ys xs s r. let x = single xs (kind.Dot field) true s in record {
    tree = post r.tree (dot x.only);
    words = dot x.only ∷ [];
    spelled = one_terminal names xs (kind.Dot field) true x ∙ ap (λ l. l ∷ []) (dot_terminal names field x.only h);
    whole = refl;
    fits = (posts_dot σ a r.tree x.only home, r.fits, r.level);
    plain = ap plain_exp (dotted_is (meaning r.tree) x.only field (r.dots refl) x.kind)
        ∙ same_plain (place (meaning r.tree)) at (node.Dot (meaning r.tree) field) (node.Dot e field) (Node-F.Dot (meaning r.tree) field) (Node-F.Dot e field)
        (node.outs-Dot (meaning r.tree) field) (node.outs-Dot e field) (ap (λ p. roll-Node (Node-F.Dot p field)) r.plain);
    level = omega arith;
    dots = λ _. ap (λ f. is_atom (opened f)) (dotted_is (meaning r.tree) x.only field (r.dots refl) x.kind)
        ∙ no_atom_at (place (meaning r.tree)) (node.Dot (meaning r.tree) field) (Node-F.Dot (meaning r.tree) field) (node.outs-Dot (meaning r.tree) field) refl;
  };
}

-- a field of an operand
pub dot_printed : (names : List (List ℕ)) (σ : Sort) (e : Exp) (at : Span) (field : List ℕ) → IsField field → Printable names σ e → Printable names σ (exp at (node.Dot e field))
dot_printed names σ e at field h x =
    operand_then names σ e at (node.Dot e field) (Node-F.Dot (printed e) field) Dot (ap parts_printed (node.outs-Dot e field)) refl refl (λ a. refl) x
    (λ a home. dot_suffix names σ a e at field home h)

-- ---- marks

-- a sign that marks an iteration, and what it is to the part before it
pub data IsMark : Mark → Count → Behind → Type 0 where
  is_star : IsMark mark.Star count.Star Other
  is_plus_mark : IsMark mark.Plus count.Plus Plus
  is_quest : IsMark mark.Question count.Quest Other

mark_terminal : (names : List (List ℕ)) (m : Mark) (c : Count) (d : Behind) (x : Token) → IsMark m c d → kind_terminal names (kind.Sign m) x ≡ sign m x
mark_terminal names _ _ _ x is_star = refl
mark_terminal names _ _ _ x is_plus_mark = refl
mark_terminal names _ _ _ x is_quest = refl

mark_posts : (b : Bool) (m : Mark) (c : Count) (d : Behind) (t : Tree) (x : Token) → IsMark m c d → may_post (expression b) t (sign m x) ≡ true
mark_posts b _ _ _ t x is_star = refl
mark_posts b _ _ _ t x is_plus_mark = refl
mark_posts b _ _ _ t x is_quest = refl

mark_counts : (m : Mark) (c : Count) (d : Behind) → IsMark m c d → mark_count m ≡ c
mark_counts _ _ _ is_star = refl
mark_counts _ _ _ is_plus_mark = refl
mark_counts _ _ _ is_quest = refl

mark_last : (m : Mark) (c : Count) (d : Behind) → IsMark m c d → Last m (not (is_plus d))
mark_last _ _ _ is_star = last_star
mark_last _ _ _ is_plus_mark = last_plus
mark_last _ _ _ is_quest = last_quest

mark_clear : (m : Mark) (c : Count) (d : Behind) (bs : List ℕ) → IsMark m c d → Clear (is_plus d) (spelling m ++ bs)
mark_clear _ _ _ bs is_star = before star bs refl
mark_clear _ _ _ bs is_plus_mark = before plus bs refl
mark_clear _ _ _ bs is_quest = before quest bs refl

abbrev marked_as : Mark → Behind → IterationText
marked_as m d = record { behind = d; text = spelling m }

mark_text : (m : Mark) (c : Count) (d : Behind) → IsMark m c d → printed_mark c ≡ marked_as m d
mark_text _ _ _ is_star = mark-of count.Star _ count.outs-Star
mark_text _ _ _ is_plus_mark = mark-of count.Plus _ count.outs-Plus
mark_text _ _ _ is_quest = mark-of count.Quest _ count.outs-Quest

mark_suffix :
    (names : List (List ℕ)) (b : Bool) (a : Around) (e : Exp) (at : Span) (m : Mark) (c : Count) (d : Behind) → sort_of a ≡ expression b → IsMark m c d
    → Suffix names (expression b) e (exp at (node.Iter e c)) (place_traits (operand_before a d) (printed e)) (bare_traits (Node-F.Iter (printed e) (marked_as m d))) (spelling m)
mark_suffix names b a e at m c d home h = record {
  pieces = signed m ∷ [];
  same = append-nil (spelling m);
  ends = refl;
  clear = λ more. mark_clear m c d more h;
  no_bar = λ n. n;
  apart = λ more l w. (refl, tt, last_ends m (not (is_plus d)) (bytes_of more) (mark_last m c d h) l, w);
  reads = λ ys xs s r. let x = single xs (kind.Sign m) true s in record {
    tree = post r.tree (sign m x.only);
    words = sign m x.only ∷ [];
    spelled = one_terminal names xs (kind.Sign m) true x ∙ ap (λ l. l ∷ []) (mark_terminal names m c d x.only h);
    whole = refl;
    fits = (mark_posts b m c d r.tree x.only h, r.fits, r.level);
    plain = ap (λ i. plain_exp (iterated (meaning r.tree) i)) (mark_counts m c d h)
        ∙ same_plain (place (meaning r.tree)) at (node.Iter (meaning r.tree) c) (node.Iter e c) (Node-F.Iter (meaning r.tree) c) (Node-F.Iter e c)
        (node.outs-Iter (meaning r.tree) c) (node.outs-Iter e c) (ap (λ p. roll-Node (Node-F.Iter p (plain_count c))) r.plain);
    level = omega arith;
    dots = λ _. no_atom_at (place (meaning r.tree)) (node.Iter (meaning r.tree) (mark_count m)) (Node-F.Iter (meaning r.tree) (mark_count m)) (node.outs-Iter (meaning r.tree) (mark_count m)) refl;
  };
}

mark_behind : (names : List (List ℕ)) (b : Bool) (a : Around) (e : Exp) (at : Span) (m : Mark) (c : Count) (d : Behind) → Home (expression b) a → IsMark m c d
    → Suffix names (sort_of a) e (exp at (node.Iter e c)) (place_traits (operand_before a d) (printed e)) (bare_traits (Node-F.Iter (printed e) (marked_as m d))) (spelling m)
mark_behind names b Brackets e at m c d home h = mark_suffix names false Brackets e at m c d refl h
mark_behind names b Bars e at m c d home h = mark_suffix names true Bars e at m c d refl h
mark_behind names b Arithmetic e at m c d home h = absurd home
mark_behind names b Caret e at m c d home h = absurd home

-- an iteration with a mark
pub mark_printed : (names : List (List ℕ)) (b : Bool) (e : Exp) (at : Span) (m : Mark) (c : Count) (d : Behind) → IsMark m c d
    → Printable names (expression b) e → Printable names (expression b) (exp at (node.Iter e c))
mark_printed names b e at m c d h x =
    operand_then names (expression b) e at (node.Iter e c) (Node-F.Iter (printed e) (marked_as m d)) d
    (ap parts_printed (node.outs-Iter e c) ∙ ap (λ i. Node-F.Iter (printed e) i) (mark_text m c d h)) refl refl (λ a. refl) x
    (λ a home. mark_behind names b a e at m c d home h)
