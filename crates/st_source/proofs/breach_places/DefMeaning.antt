-- The definitions that tokens mean begin at them, and so does all that is in them.
use Rattle.std.proofs.Common.{rules, ◌≡◌, refl, sym, subst, ℕ, zero, suc, ◌-◌, List, [], ◌∷◌, ◌++◌, map, drop, length, Bool, true, false}
use Rattle.std.specs.Prelude.{flat_map, if◌then◌else◌}
use Rattle.std.specs.List.{AllByRecursion}
use Rattle.st_num.specs.declared.mark.Mark.{Mark}
use Rattle.st_num.specs.declared.mark.Mark.TheVariants as mark
use Rattle.st_num.specs.declared.span.Span.{Span}
use Rattle.st_num.specs.declared.word.Word.TheVariants as word
use Rattle.st_num.specs.declared.token.Token.{Token}
use Rattle.st_num.specs.declared.token.TokenKind.{TokenKind}
use Rattle.st_num.specs.declared.token.TokenKind.TheVariants as kind
use Rattle.st_grammar.specs.declared.sort.Leaf.{Leaf}
use Rattle.st_grammar.specs.declared.sort.Leaf.TheVariants.{Low as low, Basic as basic}
use Rattle.st_grammar.specs.declared.sort.Bracket.TheVariants.{Round as round}
use Rattle.st_grammar.specs.Terminals.{Terminal, dot, sign, closing}
use Rattle.st_grammar.specs.Trees.{Tree, operand, post, times, bracket, led, Lead, left, ahead, items, Trees, none, more, plain, closes, text, lead_text, texts}
use Rattle.st_grammar.specs.Grammar.{is_type}
use Rattle.st_grammar.specs.Definitions as grammar
use Rattle.st_grammar.specs.Definitions.{token_in, hints_text, Members, no_members, member, members_text, fields as in_braces, cases, body_text, Iterations, no_iterations, closed, marked as by_mark, counted, closings, iterations_text, Premise, default, given, premise_text, Premises, no_premises, more_premises, premises_text, Args, no_args, args, args_text, syntax_def, var_def, relation_def, rule_def, fun_def, clause_def, def_text, Defs, no_defs, more_defs, defs_text}
use Rattle.st_el.specs.declared.expression.Exp.{Exp}
use Rattle.st_el.specs.declared.expression.Count.{Count, out-Count}
use Rattle.st_el.specs.declared.ty.Typ.{Typ, Typ-F, out-roll-Typ, the_lemmas}
use Rattle.st_el.specs.declared.ty.TypNode.{TypNode}
use Rattle.st_el.specs.declared.ty.TypNode.TheVariants as typ_node
use Rattle.st_el.specs.declared.notation.Notation.{Notation, Notation-F, out-Notation, out-roll-Notation}
use Rattle.st_el.specs.declared.notation.Notation.{the_lemmas as notation_lemmas}
use Rattle.st_el.specs.declared.notation.NotNode.{NotNode, out-NotNode, roll-NotNode}
use Rattle.st_el.specs.declared.notation.NotNode.TheOpen.{NotNode-F}
use Rattle.st_el.specs.declared.notation.NotNode.TheVariants as not_node
use Rattle.st_el.specs.declared.definition.Body.{Body}
use Rattle.st_el.specs.declared.definition.Body.TheVariants as body
use Rattle.st_el.specs.declared.definition.Prem.{Prem, out-Prem}
use Rattle.st_el.specs.declared.definition.PremNode.TheOpen.{PremNode-F}
use Rattle.st_el.specs.declared.definition.PremNode.TheVariants as prem
use Rattle.st_el.specs.Plain.{nowhere}
use Rattle.st_parse.proofs.Standing.{both, Stand, first, last}
use Rattle.st_parse_builder.specs.Names.{name_of}
use Rattle.st_parse_builder.specs.Meaning.{label, meaning, count_of}
use Rattle.st_parse_builder.specs.Notations.{typ_at, no_typ, typ_leaf, marked_node, typ_start, typ_in_parens, typ_meaning, typ_meanings, notation_at, notation_place, no_notation, hole, notation_leaf, spelled_on, atom_on, tick, only_notation, notation_joined, notation_first, notation_meaning, notation_led, notation_meanings}
use Rattle.st_parse_builder.specs.Definitions.{name_in, place_in, fields_meaning, cases_meaning, variant, body_meaning, prem_at, condition, opened_at, sign_count, iterated, premise_meaning, premises_meaning, params, patterns, def_meaning, defs_meaning}
use Rattle.st_parse_builder.proofs.NotationTallness.{rolled}
use Rattle.st_elab_sig.specs.Signatures.{holes_of}
use Rattle.st_elab_table.specs.Premises.{node_of}
use Rattle.st_elab_def.specs.declared.names.Named.{Named}
use Rattle.st_elab_def.specs.Phases.{names_in}
use Rattle.st_elab_law.proofs.ExpStands.{ExpStands, ExpsStand, no_exps, CountStands}
use Rattle.st_source.proofs.breach_places.Meaning.{mark_stands, count_stands, ExpStands-meaning, ExpsStand-meanings}
use Rattle.st_source.proofs.breach_places.Definitions.{TypStands, TypsStand, NotationStands, PremStands, of_if, of_goal, of_otherwise, of_each, PremsStand, no_prems, prems, BodyStands, DefStands, PremStands-parts, PremStands-at, PremsStand-append}

-- ---- names in types, and types in notations

names-Bool : (at : Span) → names_in (typ_at at typ_node.Bool) ≡ []
names-Bool at = search (rules, the_lemmas)

names-Nat : (at : Span) → names_in (typ_at at typ_node.Nat) ≡ []
names-Nat at = search (rules, the_lemmas)

names-Int : (at : Span) → names_in (typ_at at typ_node.Int) ≡ []
names-Int at = search (rules, the_lemmas)

names-Text : (at : Span) → names_in (typ_at at typ_node.Text) ≡ []
names-Text at = search (rules, the_lemmas)

names-Name : (at : Span) (name : List ℕ) → names_in (typ_at at (typ_node.Name name)) ≡ record { at = at; name = name } ∷ []
names-Name at name = search (rules, the_lemmas)

names-Star : (at : Span) (t : Typ) → names_in (typ_at at (typ_node.Star t)) ≡ names_in t
names-Star at t = search (rules, the_lemmas)

names-Quest : (at : Span) (t : Typ) → names_in (typ_at at (typ_node.Quest t)) ≡ names_in t
names-Quest at t = search (rules, the_lemmas)

names-Tuple : (at : Span) (ts : List Typ) → names_in (typ_at at (typ_node.Tuple ts)) ≡ flat_map (λ (part : List Named). part) (map names_in ts)
names-Tuple at ts = search (rules, the_lemmas)

holes-Atom : (at : Span) (name : List ℕ) → holes_of (notation_at at (not_node.Atom name)) ≡ []
holes-Atom at name = search (rules, notation_lemmas)

holes-Hole : (at : Span) (t : Typ) → holes_of (notation_at at (not_node.Hole t)) ≡ t ∷ []
holes-Hole at t = search (rules, notation_lemmas)

holes-Seq : (at : Span) (ns : List Notation) → holes_of (notation_at at (not_node.Seq ns)) ≡ flat_map (λ (part : List Typ). part) (map holes_of ns)
holes-Seq at ns = search (rules, notation_lemmas)

holes-Infix : (at : Span) (l : Notation) (m : Mark) (r : Notation) → holes_of (notation_at at (not_node.Infix l m r)) ≡ holes_of l ++ holes_of r
holes-Infix at l m r = search (rules, notation_lemmas)

holes-Bracket : (at : Span) (m : Mark) (n : Notation) → holes_of (notation_at at (not_node.Bracket m n)) ≡ holes_of n
holes-Bracket at m n = search (rules, notation_lemmas)

module _ (P : Span → Type 0) (unplaced : P nowhere) where
  -- ---- types

  abbrev NamedThere : Named → Type 0
  NamedThere n = P n.at

  typ_stands_at : (at : Span) (n : TypNode) (ns : List Named) → names_in (typ_at at n) ≡ ns → P at → AllByRecursion NamedThere ns → TypStands P (typ_at at n)
  typ_stands_at at n ns is h k = record {
    begins = subst (λ (x : Typ-F TypNode Typ). P x.at) (sym (out-roll-Typ (record { at = at; node = n }))) h;
    names = subst (AllByRecursion NamedThere) (sym is) k;
  }

  name_stands : (at : Span) (name : List ℕ) → P at → TypStands P (typ_at at (typ_node.Name name))
  name_stands at name h = typ_stands_at at (typ_node.Name name) (record { at = at; name = name } ∷ []) (names-Name at name) h (h, tt)

  no_typ_stands : TypStands P no_typ
  no_typ_stands = name_stands nowhere [] unplaced

  leaf_stands : (at : Span) (k : TokenKind) → P at → TypStands P (typ_at at (typ_leaf k))
  leaf_stands at (kind.Reserved word.Bool) h = typ_stands_at at typ_node.Bool [] (names-Bool at) h tt
  leaf_stands at (kind.Reserved word.Nat) h = typ_stands_at at typ_node.Nat [] (names-Nat at) h tt
  leaf_stands at (kind.Reserved word.Int) h = typ_stands_at at typ_node.Int [] (names-Int at) h tt
  leaf_stands at (kind.Reserved word.Text) h = typ_stands_at at typ_node.Text [] (names-Text at) h tt
  leaf_stands at k h = name_stands at (name_of k) h

  start_stands : (t : Tree) → Stand P (text t) → P (typ_start t)
  start_stands (operand k x) s = s.0
  start_stands (post t l) s = start_stands t (first P (text t) (l ∷ []) s)
  start_stands (bracket (plain k o) ts c) s = s.0
  start_stands t s = unplaced

  marked_stands : (at : Span) (m : Mark) (t : Typ) → P at → TypStands P t → TypStands P (typ_at at (marked_node m t))
  marked_stands at mark.Question t h k = typ_stands_at at (typ_node.Quest t) (names_in t) (names-Quest at t) h k.names
  marked_stands at m t h k = typ_stands_at at (typ_node.Star t) (names_in t) (names-Star at t) h k.names

  all_named : (ts : List Typ) → TypsStand P ts → AllByRecursion NamedThere (flat_map (λ (part : List Named). part) (map names_in ts))
  all_named [] h = tt
  all_named (t ∷ ts) h = both NamedThere (names_in t) (flat_map (λ (part : List Named). part) (map names_in ts)) h.0.names (all_named ts h.1)

  tuple_stands : (at : Span) (ts : List Typ) → P at → TypsStand P ts → TypStands P (typ_at at (typ_node.Tuple ts))
  tuple_stands at ts h k = typ_stands_at at (typ_node.Tuple ts) (flat_map (λ (part : List Named). part) (map names_in ts)) (names-Tuple at ts) h (all_named ts k)

  parens_stand : (at : Span) (ts : List Typ) → P at → TypsStand P ts → TypStands P (typ_in_parens at ts)
  parens_stand at [] h k = tuple_stands at [] h k
  parens_stand at (t ∷ []) h k = k.0
  parens_stand at (t ∷ u ∷ ts) h k = tuple_stands at (t ∷ u ∷ ts) h k

  mutual
    pub TypStands-meaning : (t : Tree) → Stand P (text t) → TypStands P (typ_meaning t)
    TypStands-meaning (operand k x) s = leaf_stands x.at x.kind s.0
    TypStands-meaning (post t (sign m x)) s =
        marked_stands (typ_start t) m (typ_meaning t) (start_stands t (first P (text t) (sign m x ∷ []) s)) (TypStands-meaning t (first P (text t) (sign m x ∷ []) s))
    TypStands-meaning (post t l) s = no_typ_stands
    TypStands-meaning (bracket (plain round o) ts c) s = parens_stand o.at (typ_meanings ts) s.0 (TypsStand-meanings ts (first P (texts ts) (closing (closes (plain round o)) c ∷ []) s.1))
    TypStands-meaning t s = no_typ_stands

    pub TypsStand-meanings : (ts : Trees) → Stand P (texts ts) → TypsStand P (typ_meanings ts)
    TypsStand-meanings none s = tt
    TypsStand-meanings (more ts pre t) s =
        both (TypStands P) (typ_meanings ts) (typ_meaning t ∷ []) (TypsStand-meanings ts (first P (texts ts) (pre ++ text t) s))
        (TypStands-meaning t (last P pre (text t) (last P (texts ts) (pre ++ text t) s)), tt)

  -- ---- notations

  not_stands_at : (at : Span) (n : NotNode) (ts : List Typ) → holes_of (notation_at at n) ≡ ts → P at → TypsStand P ts → NotationStands P (notation_at at n)
  not_stands_at at n ts is h k = record {
    begins = subst (λ (x : Notation-F NotNode Notation). P x.at) (sym (out-roll-Notation (record { at = at; node = n }))) h;
    types = subst (TypsStand P) (sym is) k;
  }

  atom_stands : (at : Span) (name : List ℕ) → P at → NotationStands P (notation_at at (not_node.Atom name))
  atom_stands at name h = not_stands_at at (not_node.Atom name) [] (holes-Atom at name) h tt

  hole_stands : (at : Span) (t : Typ) → P at → TypStands P t → NotationStands P (hole at t)
  hole_stands at t h k = not_stands_at at (not_node.Hole t) (t ∷ []) (holes-Hole at t) h (k, tt)

  all_holes : (ns : List Notation) → AllByRecursion (NotationStands P) ns → TypsStand P (flat_map (λ (part : List Typ). part) (map holes_of ns))
  all_holes [] h = tt
  all_holes (n ∷ ns) h = both (TypStands P) (holes_of n) (flat_map (λ (part : List Typ). part) (map holes_of ns)) h.0.types (all_holes ns h.1)

  seq_stands : (at : Span) (ns : List Notation) → P at → AllByRecursion (NotationStands P) ns → NotationStands P (notation_at at (not_node.Seq ns))
  seq_stands at ns h k = not_stands_at at (not_node.Seq ns) (flat_map (λ (part : List Typ). part) (map holes_of ns)) (holes-Seq at ns) h (all_holes ns k)

  no_notation_stands : NotationStands P no_notation
  no_notation_stands = seq_stands nowhere [] unplaced tt

  bracket_stands : (at : Span) (m : Mark) (n : Notation) → P at → NotationStands P n → NotationStands P (notation_at at (not_node.Bracket m n))
  bracket_stands at m n h k = not_stands_at at (not_node.Bracket m n) (holes_of n) (holes-Bracket at m n) h k.types

  joined_stands : (l : Notation) (m : Mark) (r : Notation) → NotationStands P l → NotationStands P r → NotationStands P (notation_joined l m r)
  joined_stands l m r h k =
      not_stands_at (notation_place l) (not_node.Infix l m r) (holes_of l ++ holes_of r) (holes-Infix (notation_place l) l m r) h.begins (both (TypStands P) (holes_of l) (holes_of r) h.types k.types)

  notation_leaf_stands : (k : Leaf) (x : Token) → P x.at → NotationStands P (notation_leaf k x)
  notation_leaf_stands low x h = hole_stands x.at (typ_at x.at (typ_leaf x.kind)) h (leaf_stands x.at x.kind h)
  notation_leaf_stands basic x h = hole_stands x.at (typ_at x.at (typ_leaf x.kind)) h (leaf_stands x.at x.kind h)
  notation_leaf_stands k x h = atom_stands x.at (name_of x.kind) h

  -- the level decides what a dot does
  spelled_stands : (at : Span) (y : NotNode-F NotNode Notation) (name : List ℕ) → P at → NotationStands P (notation_at at (roll-NotNode y)) → NotationStands P (notation_at at (spelled_on y name))
  spelled_stands at (NotNode-F.Atom front) name h k = atom_stands at (front ++ 46 ∷ name) h
  spelled_stands at (NotNode-F.Hole t) name h k = k
  spelled_stands at (NotNode-F.Seq ns) name h k = k
  spelled_stands at (NotNode-F.Infix l m r) name h k = k
  spelled_stands at (NotNode-F.Bracket m n) name h k = k

  on_stands : (n : Notation) (x : Token) → NotationStands P n → NotationStands P (atom_on n x)
  on_stands n x h = spelled_stands (notation_place n) (out-NotNode (out-Notation n).node) (name_of x.kind) h.begins (subst (NotationStands P) (sym (rolled n)) h)

  only_stands : (ns : List Notation) → AllByRecursion (NotationStands P) ns → NotationStands P (only_notation ns)
  only_stands [] h = no_notation_stands
  only_stands (n ∷ []) h = h.0
  only_stands (n ∷ m ∷ ns) h = no_notation_stands

  first_stands : (ns : List Notation) → AllByRecursion (NotationStands P) ns → P (notation_first ns)
  first_stands [] h = unplaced
  first_stands (n ∷ ns) h = h.0.begins

  mutual
    pub NotationStands-meaning : (t : Tree) → Stand P (text t) → NotationStands P (notation_meaning t)
    NotationStands-meaning (operand k x) s = notation_leaf_stands k x s.0
    NotationStands-meaning (post t (sign m x)) s =
        let there = first P (text t) (sign m x ∷ []) s in
        hole_stands (typ_start t) (typ_at (typ_start t) (marked_node m (typ_meaning t))) (start_stands t there) (marked_stands (typ_start t) m (typ_meaning t) (start_stands t there) (TypStands-meaning t there))
    NotationStands-meaning (post t (dot x)) s = on_stands (notation_meaning t) x (NotationStands-meaning t (first P (text t) (dot x ∷ []) s))
    NotationStands-meaning (post t l) s = no_notation_stands
    NotationStands-meaning (bracket (plain round o) ts c) s =
        hole_stands o.at (typ_in_parens o.at (typ_meanings ts)) s.0 (parens_stand o.at (typ_meanings ts) s.0 (TypsStand-meanings ts (first P (texts ts) (closing (closes (plain round o)) c ∷ []) s.1)))
    NotationStands-meaning (bracket (plain k o) ts c) s =
        bracket_stands o.at (tick k) (only_notation (notation_meanings ts)) s.0
        (only_stands (notation_meanings ts) (NotationsStand-meanings ts (first P (texts ts) (closing (closes (plain k o)) c ∷ []) s.1)))
    NotationStands-meaning (bracket h ts c) s = no_notation_stands
    NotationStands-meaning (led g t) s = notation_led_stands g (notation_meaning t) (first P (lead_text g) (text t) s) (NotationStands-meaning t (last P (lead_text g) (text t) s))
    NotationStands-meaning (times t m x c) s = no_notation_stands

    notation_led_stands : (g : Lead) (n : Notation) → Stand P (lead_text g) → NotationStands P n → NotationStands P (notation_led g n)
    notation_led_stands (left l m x) n s h = joined_stands (notation_meaning l) m n (NotationStands-meaning l (first P (text l) (sign m x ∷ []) s)) h
    notation_led_stands (ahead m x) n s h = joined_stands (notation_at x.at (not_node.Seq [])) m n (seq_stands x.at [] s.0 tt) h
    notation_led_stands (items ts) n s h =
        let all = both (NotationStands P) (notation_meanings ts) (n ∷ []) (NotationsStand-meanings ts s) (h, tt) in
        seq_stands (notation_first (notation_meanings ts ++ n ∷ [])) (notation_meanings ts ++ n ∷ []) (first_stands (notation_meanings ts ++ n ∷ []) all) all

    NotationsStand-meanings : (ts : Trees) → Stand P (texts ts) → AllByRecursion (NotationStands P) (notation_meanings ts)
    NotationsStand-meanings none s = tt
    NotationsStand-meanings (more ts pre t) s =
        both (NotationStands P) (notation_meanings ts) (notation_meaning t ∷ []) (NotationsStand-meanings ts (first P (texts ts) (pre ++ text t) s))
        (NotationStands-meaning t (last P pre (text t) (last P (texts ts) (pre ++ text t) s)), tt)

  -- ---- bodies

  tree_of : (pre : List Terminal) (t : Tree) (hs : grammar.Hints) (ms : Members) → Stand P (members_text (member ms pre t hs)) → Stand P (text t)
  tree_of pre t hs ms s = first P (text t) (hints_text hs) (last P pre (text t ++ hints_text hs) (last P (members_text ms) (pre ++ (text t ++ hints_text hs)) s))

  fields_stand : (ms : Members) → Stand P (members_text ms) → AllByRecursion (λ (f : List ℕ × Typ). TypStands P f.1) (fields_meaning ms)
  fields_stand no_members s = tt
  fields_stand (member ms pre t hs) s =
      both (λ (f : List ℕ × Typ). TypStands P f.1) (fields_meaning ms) ((label pre, typ_meaning t) ∷ []) (fields_stand ms (first P (members_text ms) (pre ++ (text t ++ hints_text hs)) s))
      (TypStands-meaning t (tree_of pre t hs ms s), tt)

  cases_stand : (ms : Members) → Stand P (members_text ms) → AllByRecursion (NotationStands P) (cases_meaning ms)
  cases_stand no_members s = tt
  cases_stand (member ms pre t hs) s =
      both (NotationStands P) (cases_meaning ms) (notation_meaning t ∷ []) (cases_stand ms (first P (members_text ms) (pre ++ (text t ++ hints_text hs)) s))
      (NotationStands-meaning t (tree_of pre t hs ms s), tt)

  alias_or : (b : Bool) (a v : Body) → BodyStands P a → BodyStands P v → BodyStands P (if b then a else v)
  alias_or true a v h k = h
  alias_or false a v h k = k

  alternatives_stand : (ms : Members) (ls : List Terminal) → Stand P (members_text ms) → BodyStands P (body_meaning (cases ms ls))
  alternatives_stand (member no_members (d ∷ b ∷ []) t hs) ls s = cases_stand (member no_members (d ∷ b ∷ []) t hs) s
  alternatives_stand (member no_members [] t hs) [] s =
      alias_or (is_type t) (body.Alias (typ_meaning t)) (variant (member no_members [] t hs) []) (TypStands-meaning t (tree_of [] t hs no_members s)) (cases_stand (member no_members [] t hs) s)
  alternatives_stand (member no_members (d ∷ []) t hs) [] s =
      alias_or (is_type t) (body.Alias (typ_meaning t)) (variant (member no_members (d ∷ []) t hs) []) (TypStands-meaning t (tree_of (d ∷ []) t hs no_members s))
      (cases_stand (member no_members (d ∷ []) t hs) s)
  alternatives_stand (member no_members (d ∷ b ∷ c ∷ pre) t hs) [] s =
      alias_or (is_type t) (body.Alias (typ_meaning t)) (variant (member no_members (d ∷ b ∷ c ∷ pre) t hs) []) (TypStands-meaning t (tree_of (d ∷ b ∷ c ∷ pre) t hs no_members s))
      (cases_stand (member no_members (d ∷ b ∷ c ∷ pre) t hs) s)
  alternatives_stand (member no_members [] t hs) (l ∷ ls) s = cases_stand (member no_members [] t hs) s
  alternatives_stand (member no_members (d ∷ []) t hs) (l ∷ ls) s = cases_stand (member no_members (d ∷ []) t hs) s
  alternatives_stand (member no_members (d ∷ b ∷ c ∷ pre) t hs) (l ∷ ls) s = cases_stand (member no_members (d ∷ b ∷ c ∷ pre) t hs) s
  alternatives_stand (member (member ms q u gs) pre t hs) ls s = cases_stand (member (member ms q u gs) pre t hs) s
  alternatives_stand no_members ls s = tt

  body_stands : (b : grammar.Body) → Stand P (body_text b) → BodyStands P (body_meaning b)
  body_stands (in_braces o ms c) s = fields_stand ms (first P (members_text ms) (c ∷ []) s.1)
  body_stands (cases ms ls) s = alternatives_stand ms ls (first P (members_text ms) ls s)

  -- ---- premises

  place_stands : (ls : List Terminal) → Stand P ls → P (place_in ls)
  place_stands [] s = unplaced
  place_stands (l ∷ ls) s = s.0

  drop_stands : (k : ℕ) (ls : List Terminal) → Stand P ls → Stand P (drop k ls)
  drop_stands zero ls s = s
  drop_stands (suc k) [] s = tt
  drop_stands (suc k) (l ∷ ls) s = drop_stands k ls s.1

  condition_stands : (ls : List Terminal) (e : Exp) → Stand P ls → ExpStands P e → PremStands P (condition ls e)
  condition_stands [] e s h = PremStands-at P nowhere (prem.If e) (PremNode-F.If e) (prem.outs-If e) unplaced (of_if h)
  condition_stands (r ∷ []) e s h = PremStands-at P (token_in r).at (prem.If e) (PremNode-F.If e) (prem.outs-If e) s.0 (of_if h)
  condition_stands (r ∷ c ∷ ls) e s h = PremStands-at P (token_in r).at (prem.Goal (name_in r) e) (PremNode-F.Goal (name_in r) e) (prem.outs-Goal (name_in r) e) s.0 (of_goal h)

  each_stands : (at : Span) (p : Prem) (c : Count) → P at → PremStands P p → CountStands P (out-Count c) → PremStands P (prem_at at (prem.Each p c))
  each_stands at p c h k l = PremStands-at P at (prem.Each p c) (PremNode-F.Each p c) (prem.outs-Each p c) h (of_each k l)

  sign_stands : (l : Terminal) → CountStands P (out-Count (sign_count l))
  sign_stands (sign m x) = mark_stands P unplaced m
  sign_stands l = mark_stands P unplaced mark.Question

  opened_stands : (os : List Terminal) (n : ℕ) → Stand P os → P (opened_at os n)
  opened_stands os n s = place_stands (drop (length os - n) os) (drop_stands (length os - n) os s)

  iterated_stands : (os : List Terminal) (p : Prem) (i : Iterations) → Stand P os → PremStands P p → Stand P (iterations_text i) → PremStands P (iterated os p i)
  iterated_stands os p no_iterations o h s = h
  iterated_stands os p (closed i l) o h s = iterated_stands os p i o h (first P (iterations_text i) (l ∷ []) s)
  iterated_stands os p (by_mark i l) o h s =
      each_stands (opened_at os (closings i)) (iterated os p i) (sign_count l) (opened_stands os (closings i) o) (iterated_stands os p i o h (first P (iterations_text i) (l ∷ []) s)) (sign_stands l)
  iterated_stands os p (counted i l t) o h s =
      each_stands (opened_at os (closings i)) (iterated os p i) (count_of t (meaning t)) (opened_stands os (closings i) o)
      (iterated_stands os p i o h (first P (iterations_text i) (l ∷ text t) s)) (count_stands P unplaced t (meaning t) (ExpStands-meaning P unplaced t (last P (iterations_text i) (l ∷ text t) s).1))

  premise_stands : (p : Premise) → Stand P (premise_text p) → PremStands P (premise_meaning p)
  premise_stands (default d o) s = PremStands-at P (token_in d).at prem.Otherwise PremNode-F.Otherwise prem.outs-Otherwise s.0 of_otherwise
  premise_stands (given d os ls t i) s =
      let words = last P os (ls ++ (text t ++ iterations_text i)) s.1 in
      let rest = last P ls (text t ++ iterations_text i) words in
      let whole = iterated_stands os (condition ls (meaning t)) i (first P os (ls ++ (text t ++ iterations_text i)) s.1)
      (condition_stands ls (meaning t) (first P ls (text t ++ iterations_text i) words) (ExpStands-meaning P unplaced t (first P (text t) (iterations_text i) rest))) (last P (text t) (iterations_text i) rest) in
      PremStands-at P (token_in d).at (out-Prem (iterated os (condition ls (meaning t)) i)).node (node_of (iterated os (condition ls (meaning t)) i)) refl s.0 (PremStands-parts P whole)

  premises_stand : (ps : Premises) → Stand P (premises_text ps) → PremsStand P (premises_meaning ps)
  premises_stand no_premises s = no_prems
  premises_stand (more_premises ps p) s =
      PremsStand-append P (premises_stand ps (first P (premises_text ps) (premise_text p) s)) (prems (premise_stands p (last P (premises_text ps) (premise_text p) s)) no_prems)

  -- ---- definitions

  params_stand : (a : Args) → Stand P (args_text a) → TypsStand P (params a)
  params_stand no_args s = tt
  params_stand (args o ts c) s = TypsStand-meanings ts (first P (texts ts) (c ∷ []) s.1)

  patterns_stand : (a : Args) → Stand P (args_text a) → ExpsStand P (patterns a)
  patterns_stand no_args s = no_exps
  patterns_stand (args o ts c) s = ExpsStand-meanings P unplaced ts (first P (texts ts) (c ∷ []) s.1)

  def_stands : (d : grammar.Def) → Stand P (def_text d) → DefStands P (def_meaning d)
  def_stands (syntax_def w x ls hs e b) s = (s.0, body_stands b (last P (hints_text hs) (e ∷ body_text b) (last P ls (hints_text hs ++ (e ∷ body_text b)) s.1.1)).1)
  def_stands (var_def w x c t hs) s = (s.0, TypStands-meaning t (first P (text t) (hints_text hs) s.1.1.1))
  def_stands (relation_def w r hs c t ks) s = (s.0, NotationStands-meaning t (first P (text t) (hints_text ks) (last P (hints_text hs) (c ∷ (text t ++ hints_text ks)) s.1.1).1))
  def_stands (rule_def w r ls c t ps) s =
      let rest : Stand P (text t ++ premises_text ps) = (last P ls (c ∷ (text t ++ premises_text ps)) s.1.1).1 in
      (s.0, (ExpStands-meaning P unplaced t (first P (text t) (premises_text ps) rest), premises_stand ps (last P (text t) (premises_text ps) rest)))
  def_stands (fun_def w f a c t hs) s =
      let rest : Stand P (text t ++ hints_text hs) = (last P (args_text a) (c ∷ (text t ++ hints_text hs)) s.1.1).1 in
      (s.0, (params_stand a (first P (args_text a) (c ∷ (text t ++ hints_text hs)) s.1.1), TypStands-meaning t (first P (text t) (hints_text hs) rest)))
  def_stands (clause_def w f a e t ps) s =
      let rest : Stand P (text t ++ premises_text ps) = (last P (args_text a) (e ∷ (text t ++ premises_text ps)) s.1.1).1 in
      (s.0, (patterns_stand a (first P (args_text a) (e ∷ (text t ++ premises_text ps)) s.1.1), ExpStands-meaning P unplaced t (first P (text t) (premises_text ps) rest), premises_stand ps (last P (text t) (premises_text ps) rest)))

  pub DefStands-meaning : (ds : Defs) → Stand P (defs_text ds) → AllByRecursion (DefStands P) (defs_meaning ds)
  DefStands-meaning no_defs s = tt
  DefStands-meaning (more_defs ds d) s =
      both (DefStands P) (defs_meaning ds) (def_meaning d ∷ []) (DefStands-meaning ds (first P (defs_text ds) (def_text d) s)) (def_stands d (last P (defs_text ds) (def_text d) s), tt)
