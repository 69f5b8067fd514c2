-- Atoms, also those of several names.
use Rattle.std.proofs.Common.{◌≡◌, ℕ, ◌≤◌, List, [], ◌∷◌, ◌++◌, map, Bool, true, false, ◌&&◌, refl, sym, ap, ◌∙◌, subst, arith, append_assoc}
use Rattle.std.specs.Prelude.{if◌then◌else◌}
use Rattle.std.proofs.lemmas.List.{append-nil}
use Rattle.st_num.specs.declared.span.Span.{Span}
use Rattle.st_num.specs.declared.token.Token.{Token}
use Rattle.st_num.specs.declared.token.TokenKind.TheVariants as kind
use Rattle.st_grammar.specs.declared.sort.Sort.TheVariants.{Expression as expression}
use Rattle.st_grammar.specs.declared.sort.Leaf.TheVariants.{Atom as atom}
use Rattle.st_grammar.specs.Terminals.{terminal, dot, is_variable}
use Rattle.st_grammar.specs.Trees.{Tree, operand, post, text}
use Rattle.st_grammar.specs.Grammar.{Fits, level}
use Rattle.st_grammar.proofs.Complete.{begins_tree}
use Rattle.st_el.specs.declared.expression.Exp.{Exp, out-Exp}
use Rattle.st_el.specs.declared.expression.Node.{out-Node}
use Rattle.st_el.specs.declared.expression.Node.TheVariants as node
use Rattle.st_el.specs.declared.expression.Count.TheOpen.{Node-F}
use Rattle.st_el.specs.declared.context.Around.{Around}
use Rattle.st_el.specs.declared.context.Around.TheVariants.{Brackets, Bars, Arithmetic, Caret}
use Rattle.st_el.specs.SourceText.{front, postfix, parts_printed}
use Rattle.st_el.specs.Plain.{nowhere, plain_node}
use Rattle.st_parse_builder.specs.Names.{name_of}
use Rattle.st_parse_builder.specs.Meaning.{exp, place, meaning, is_atom, atom_name, opened, dotted, dotted_node}
use Rattle.st_parse_law.specs.Written.{Piece, token, bytes_of, shape, shapes_behind, AreApart}
use Rattle.st_parse_law.proofs.Cuts.{touch, touch-append, bytes-append, parted, single, one_terminal, terminals_of_both}
use Rattle.st_parse_law.proofs.Ends.{Clear, before, point, Front, front_more, word_ends}
use Rattle.st_parse_law.proofs.Plains.{plain-exp, plain-of, node-of}
use Rattle.st_parse_law.proofs.Parts.{Part, starts_bar}
use Rattle.st_parse_law.proofs.Placed.{Home, sort_of, bare_traits, Printable, printable}
use Rattle.st_parse_law.proofs.Suffixes.{starts_bar_append}
use Rattle.st_parse_law.proofs.Leaves.{an_atom, IsWritten, leaf_word}
use Rattle.st_parse_law.proofs.Posts.{IsField, dot_terminal}

-- the tokens are those of a tree that means this atom
pub record AtomRead (names : List (List ℕ)) (b : Bool) (name : List ℕ) (xs : List Token) : Type 0 where
  pub tree : Tree
  pub spelled : map (terminal names) xs ≡ text tree
  pub fits : Fits (expression b) tree
  pub level : 20 ≤ level tree
  pub is : (out-Exp (meaning tree)).node ≡ node.Atom name
  pub no_bar : starts_bar (text tree) ≡ false

-- the name is pieces that are read back as this atom
pub record AtomPart (names : List (List ℕ)) (b : Bool) (name : List ℕ) : Type 0 where
  pub pieces : List Piece
  pub same : bytes_of pieces ≡ name
  pub ends : (b : Bool) → touch b pieces ≡ true
  pub front : Front false name
  pub apart : (more : List Piece) → Clear true (bytes_of more) → AreApart more → AreApart (pieces ++ more)
  pub reads : (t : Bool) (xs : List Token) → map shape xs ≡ shapes_behind t pieces → AtomRead names b name xs

-- one name
pub atom_one : (names : List (List ℕ)) (b : Bool) (n : List ℕ) → is_variable names n ≡ false → IsWritten (kind.Up n) → AtomPart names b n
atom_one names b n v w =
    let o = leaf_word names atom (kind.Up n) (an_atom n v) w in
    record {
      pieces = token (kind.Up n) n ∷ [];
      same = append-nil n;
      ends = λ t. refl;
      front = o.front false;
      apart = λ more c a. (o.spelled, tt, word_ends (kind.Up n) true (bytes_of more) refl c, a);
      reads = λ t xs s. let x = single xs (kind.Up n) t s in record {
        tree = operand atom x.only;
        spelled = one_terminal names xs (kind.Up n) t x ∙ ap (λ l. l ∷ []) (o.seen x.only);
        fits = refl;
        level = omega arith;
        is = node-of x.only.at (node.Atom (name_of x.only.kind)) ∙ ap (λ k. node.Atom (name_of k)) x.kind;
        no_bar = refl;
      };
    }

-- a dot that touches an atom goes on with it
dotted_atom : (e : Exp) (x : Token) (name field : List ℕ) → (out-Exp e).node ≡ node.Atom name → x.touching ≡ true → x.kind ≡ kind.Dot field
    → (out-Exp (dotted e x)).node ≡ node.Atom (name ++ 46 ∷ field)
dotted_atom e x name field is t k =
    let here : opened e ≡ Node-F.Atom name = ap out-Node is ∙ node.outs-Atom name in
    node-of (place e) (dotted_node e x.touching (name_of x.kind))
    ∙ ap (λ b. dotted_node e b (name_of x.kind)) t
    ∙ ap (λ j. dotted_node e true (name_of j)) k
    ∙ ap (λ l. if true && is_atom l then node.Atom (atom_name l ++ 46 ∷ field) else node.Dot e field) here

pub atom_dot : (names : List (List ℕ)) (b : Bool) (name field : List ℕ) → IsField field → AtomPart names b name → AtomPart names b (name ++ 46 ∷ field)
atom_dot names b name field h p = record {
  pieces = p.pieces ++ token (kind.Dot field) (46 ∷ field) ∷ [];
  same = bytes-append p.pieces (token (kind.Dot field) (46 ∷ field) ∷ []) ∙ ap (λ w. w ++ ((46 ∷ field) ++ [])) p.same ∙ ap (λ w. name ++ w) (append-nil (46 ∷ field));
  ends = λ t. touch-append t p.pieces (token (kind.Dot field) (46 ∷ field) ∷ []);
  front = front_more false name (46 ∷ field) p.front;
  apart = λ more c a.
      let last : AreApart (token (kind.Dot field) (46 ∷ field) ∷ more) = ((refl, h.name), tt, word_ends (kind.Dot field) true (bytes_of more) refl c, a) in
      subst AreApart (sym (append_assoc p.pieces (token (kind.Dot field) (46 ∷ field) ∷ []) more))
      (p.apart (token (kind.Dot field) (46 ∷ field) ∷ more) (before point (field ++ bytes_of more) refl) last);
  reads = λ t xs s.
      let both = parted t p.pieces (token (kind.Dot field) (46 ∷ field) ∷ []) xs s in
      let r = p.reads t both.ahead both.fronts in
      let x = single both.behind (kind.Dot field) (touch t p.pieces) both.backs in
      record {
        tree = post r.tree (dot x.only);
        spelled = terminals_of_both names xs both.ahead both.behind (text r.tree) (dot x.only ∷ []) both.whole r.spelled
            (one_terminal names both.behind (kind.Dot field) (touch t p.pieces) x ∙ ap (λ l. l ∷ []) (dot_terminal names field x.only h));
        fits = (refl, r.fits, r.level);
        level = omega arith;
        is = dotted_atom (meaning r.tree) x.only name field r.is (x.touching ∙ p.ends t) x.kind;
        no_bar = starts_bar_append (text r.tree) (dot x.only ∷ []) (begins_tree r.tree (expression b) r.fits) r.no_bar;
      };
}

atom_bare : (names : List (List ℕ)) (b : Bool) (at : Span) (name : List ℕ) → AtomPart names b name
    → Part names (expression b) (exp at (node.Atom name)) (bare_traits (Node-F.Atom name)) (name ++ [])
atom_bare names b at name p = record {
  pieces = p.pieces;
  same = p.same ∙ sym (append-nil name);
  ends = p.ends;
  front = front_more false name [] p.front;
  apart = p.apart;
  reads = λ t xs s. let r = p.reads t xs s in record {
    tree = r.tree;
    spelled = r.spelled;
    fits = r.fits;
    plain = plain-of (meaning r.tree) ∙ ap (λ n. exp nowhere (plain_node n)) r.is ∙ sym (plain-exp at (node.Atom name));
    level = r.level;
    dots = λ h. absurd (cc);
    no_bar = λ _. r.no_bar;
  };
}

-- an atom
pub atom_printed : (names : List (List ℕ)) (b : Bool) (at : Span) (name : List ℕ) → ((c : Bool) → AtomPart names c name) → Printable names (expression b) (exp at (node.Atom name))
atom_printed names b at name p = printable names (expression b) at (node.Atom name) (Node-F.Atom name) (ap parts_printed (node.outs-Atom name)) (omega arith) refl go
  where
    go : (a : Around) → Home (expression b) a → Part names (sort_of a) (exp at (node.Atom name)) (bare_traits (Node-F.Atom name)) (front a (Node-F.Atom name) ++ postfix (Node-F.Atom name))
    go Brackets home = atom_bare names false at name (p false)
    go Bars home = atom_bare names true at name (p true)
    go Arithmetic home = absurd home
    go Caret home = absurd home
