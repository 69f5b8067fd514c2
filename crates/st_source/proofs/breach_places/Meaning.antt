-- The expression that a tree means begins at one of its tokens, and so does each expression in it.
use Rattle.std.proofs.Common.{sym, subst, ℕ, List, [], ◌∷◌, ◌++◌, Bool, true, false, ◌&&◌}
use Rattle.std.specs.Prelude.{if◌then◌else◌}
use Rattle.st_num.specs.declared.mark.Mark.{Mark}
use Rattle.st_num.specs.declared.mark.Mark.TheVariants as mark
use Rattle.st_num.specs.declared.span.Span.{Span}
use Rattle.st_num.specs.declared.word.Word.TheVariants as word
use Rattle.st_num.specs.Signs.{is_notation}
use Rattle.st_num.specs.declared.token.Token.{Token}
use Rattle.st_num.specs.declared.token.TokenKind.{TokenKind}
use Rattle.st_num.specs.declared.token.TokenKind.TheVariants as kind
use Rattle.st_grammar.specs.declared.sort.Leaf.{Leaf}
use Rattle.st_grammar.specs.declared.sort.Leaf.TheVariants.{Low as low, Basic as basic, Variable as variable, Atom as atom, Number as number, Literal as literal, Function as function}
use Rattle.st_grammar.specs.declared.sort.Bracket.TheVariants.{Round as round, Square as square, Brace as brace, TickRound as tick_round, TickSquare as tick_square, TickBrace as tick_brace, Dollar as dollar}
use Rattle.st_grammar.specs.declared.sort.Closing.TheVariants.{BySquare as by_square}
use Rattle.st_grammar.specs.Definitions.{is_minus}
use Rattle.st_grammar.specs.Terminals.{Terminal, dot, sign, opening, closing}
use Rattle.st_grammar.specs.Trees.{Tree, operand, post, times, bracket, led, Lead, left, ahead, items, Trees, none, more, Heading, plain, length, arguments, index, segment, update, below, Path, head, field, part, closes, text, lead_text, texts, heading_text, path_text}
use Rattle.st_el.specs.declared.expression.Exp.{Exp}
use Rattle.st_el.specs.declared.expression.Node.{Node}
use Rattle.st_el.specs.declared.expression.Node.TheVariants as node
use Rattle.st_el.specs.declared.expression.Count.{Count, out-Count}
use Rattle.st_el.specs.declared.expression.Count.TheOpen.{Node-F}
use Rattle.st_el.specs.declared.expression.Count.TheVariants as count
use Rattle.st_el.specs.declared.expression.Seg.{Seg, out-Seg}
use Rattle.st_el.specs.declared.expression.Seg.TheVariants as seg
use Rattle.st_el.specs.Plain.{nowhere}
use Rattle.st_parse.proofs.Standing.{Stand, first, last}
use Rattle.st_parse_builder.specs.Names.{name_of, number_of, literal_node, leaf_node}
use Rattle.st_parse_builder.specs.Meaning.{exp, place, first_place, nothing, joined, is_tilde, prefixed, opened, is_atom, atom_name, dotted, iterated, is_star, is_plus, mark_count, posted, count_of, only, in_parens, step_at, indexed, is_extension, changed, meaning, led_by, meanings, field_meanings, bracketed, base, steps as steps_of}
use Rattle.st_elab_law.proofs.ExpStands.{ExpStands, of_name, of_atom, of_bool, of_number, of_text, of_eps, of_seq, of_infix, of_binary, of_not, of_neg, of_arith, of_paren, of_bracket, of_tuple, of_fields, of_dot, of_at, of_slice, of_update, of_extend, of_len, of_call, of_iter, ExpsStand, no_exps, exps, FieldsStand, no_fields, fields, SegsStand, no_steps, steps, SegStands, at_field, at_position, at_slice, CountStands, by_star, by_plus, by_quest, by_times, by_below, ExpStands-place, ExpStands-at, ExpsStand-append, FieldsStand-append, SegsStand-append}

module _ (P : Span → Type 0) (unplaced : P nowhere) where
  -- ---- nodes

  either_stands : (b : Bool) (at : Span) (n m : Node) → ExpStands P (exp at n) → ExpStands P (exp at m) → ExpStands P (exp at (if b then n else m))
  either_stands true at n m h k = h
  either_stands false at n m h k = k

  nothing_stands : ExpStands P nothing
  nothing_stands = ExpStands-at P nowhere node.Eps Node-F.Eps node.outs-Eps unplaced of_eps

  literal_stands : (at : Span) (k : TokenKind) → P at → ExpStands P (exp at (literal_node k))
  literal_stands at (kind.Text text) h = ExpStands-at P at (node.Text text) (Node-F.Text text) (node.outs-Text text) h of_text
  literal_stands at (kind.Reserved word.True) h = ExpStands-at P at (node.Bool true) (Node-F.Bool true) (node.outs-Bool true) h of_bool
  literal_stands at (kind.Reserved word.False) h = ExpStands-at P at (node.Bool false) (Node-F.Bool false) (node.outs-Bool false) h of_bool
  literal_stands at k h = ExpStands-at P at node.Eps Node-F.Eps node.outs-Eps h of_eps

  name_stands : (at : Span) (name : List ℕ) → P at → ExpStands P (exp at (node.Name name))
  name_stands at name h = ExpStands-at P at (node.Name name) (Node-F.Name name) (node.outs-Name name) h of_name

  atom_stands : (at : Span) (name : List ℕ) → P at → ExpStands P (exp at (node.Atom name))
  atom_stands at name h = ExpStands-at P at (node.Atom name) (Node-F.Atom name) (node.outs-Atom name) h of_atom

  call_stands : (at : Span) (name : List ℕ) (es : List Exp) → P at → ExpsStand P es → ExpStands P (exp at (node.Call name es))
  call_stands at name es h k = ExpStands-at P at (node.Call name es) (Node-F.Call name es) (node.outs-Call name es) h (of_call k)

  leaf_stands : (k : Leaf) (x : Token) → P x.at → ExpStands P (exp x.at (leaf_node k x.kind))
  leaf_stands low x h = name_stands x.at (name_of x.kind) h
  leaf_stands basic x h = name_stands x.at (name_of x.kind) h
  leaf_stands variable x h = name_stands x.at (name_of x.kind) h
  leaf_stands atom x h = atom_stands x.at (name_of x.kind) h
  leaf_stands number x h = ExpStands-at P x.at (node.Number (number_of x.kind)) (Node-F.Number (number_of x.kind)) (node.outs-Number (number_of x.kind)) h of_number
  leaf_stands literal x h = literal_stands x.at x.kind h
  leaf_stands function x h = call_stands x.at (name_of x.kind) [] h no_exps

  dotted_stands : (e : Exp) (x : Token) → ExpStands P e → ExpStands P (dotted e x)
  dotted_stands e x h =
      either_stands (x.touching && is_atom (opened e)) (place e) (node.Atom (atom_name (opened e) ++ 46 ∷ name_of x.kind)) (node.Dot e (name_of x.kind))
      (atom_stands (place e) (atom_name (opened e) ++ 46 ∷ name_of x.kind) (ExpStands-place P h))
      (ExpStands-at P (place e) (node.Dot e (name_of x.kind)) (Node-F.Dot e (name_of x.kind)) (node.outs-Dot e (name_of x.kind)) (ExpStands-place P h) (of_dot h))

  -- ---- iterations

  Star-stands : CountStands P (out-Count count.Star)
  Star-stands = subst (CountStands P) (sym count.outs-Star) by_star

  Plus-stands : CountStands P (out-Count count.Plus)
  Plus-stands = subst (CountStands P) (sym count.outs-Plus) by_plus

  Quest-stands : CountStands P (out-Count count.Quest)
  Quest-stands = subst (CountStands P) (sym count.outs-Quest) by_quest

  pub mark_stands : (m : Mark) → CountStands P (out-Count (mark_count m))
  mark_stands m = by (is_star m) (is_plus m)
    where
      by : (b c : Bool) → CountStands P (out-Count (if b then count.Star else if c then count.Plus else count.Quest))
      by true c = Star-stands
      by false true = Plus-stands
      by false false = Quest-stands

  -- a count is a tree or a bound
  pub count_stands : (t : Tree) (e : Exp) → ExpStands P e → CountStands P (out-Count (count_of t e))
  count_stands (bracket (below o i m x) ts c) e h = subst (CountStands P) (sym (count.outs-Below (name_of i.kind) e)) (by_below h)
  count_stands t e h = subst (CountStands P) (sym (count.outs-Times e)) (by_times h)

  iterated_stands : (e : Exp) (c : Count) → ExpStands P e → CountStands P (out-Count c) → ExpStands P (iterated e c)
  iterated_stands e c h k = ExpStands-at P (place e) (node.Iter e c) (Node-F.Iter e c) (node.outs-Iter e c) (ExpStands-place P h) (of_iter h k)

  posted_stands : (e : Exp) (l : Terminal) → ExpStands P e → ExpStands P (posted e l)
  posted_stands e (dot x) h = dotted_stands e x h
  posted_stands e (sign m x) h = iterated_stands e (mark_count m) h (mark_stands m)
  posted_stands e l h = h

  -- ---- brackets

  only_stands : (es : List Exp) → ExpsStand P es → ExpStands P (only es)
  only_stands [] h = nothing_stands
  only_stands (e ∷ []) (exps h k) = h
  only_stands (e ∷ f ∷ es) h = nothing_stands

  parens_stand : (at : Span) (es : List Exp) → P at → ExpsStand P es → ExpStands P (exp at (in_parens es))
  parens_stand at [] h k = ExpStands-at P at (node.Tuple []) (Node-F.Tuple []) (node.outs-Tuple []) h (of_tuple k)
  parens_stand at (e ∷ []) h (exps k l) = ExpStands-at P at (node.Paren e) (Node-F.Paren e) (node.outs-Paren e) h (of_paren k)
  parens_stand at (e ∷ f ∷ es) h k = ExpStands-at P at (node.Tuple (e ∷ f ∷ es)) (Node-F.Tuple (e ∷ f ∷ es)) (node.outs-Tuple (e ∷ f ∷ es)) h (of_tuple k)

  ticked_stands : (m : Mark) (at : Span) (e : Exp) → P at → ExpStands P e → ExpStands P (exp at (node.Bracket m e))
  ticked_stands m at e h k = ExpStands-at P at (node.Bracket m e) (Node-F.Bracket m e) (node.outs-Bracket m e) h (of_bracket k)

  arith_stands : (at : Span) (e : Exp) → P at → ExpStands P e → ExpStands P (exp at (node.Arith e))
  arith_stands at e h k = ExpStands-at P at (node.Arith e) (Node-F.Arith e) (node.outs-Arith e) h (of_arith k)

  indexed_stands : (e : Exp) (es : List Exp) → ExpStands P e → ExpsStand P es → ExpStands P (indexed e es)
  indexed_stands e [] h k = ExpStands-at P (place e) node.Eps Node-F.Eps node.outs-Eps (ExpStands-place P h) of_eps
  indexed_stands e (i ∷ []) h (exps k l) = ExpStands-at P (place e) (node.At e i) (Node-F.Node::At e i) (node.outs-At e i) (ExpStands-place P h) (of_at h k)
  indexed_stands e (i ∷ j ∷ []) h (exps k (exps l m)) =
      ExpStands-at P (place e) (node.Slice e i j) (Node-F.Node::Slice e i j) (node.outs-Slice e i j) (ExpStands-place P h) (of_slice h k l)
  indexed_stands e (i ∷ j ∷ f ∷ es) h k = ExpStands-at P (place e) node.Eps Node-F.Eps node.outs-Eps (ExpStands-place P h) of_eps

  field_step : (name : List ℕ) → SegStands P (out-Seg (seg.Field name))
  field_step name = subst (SegStands P) (sym (seg.outs-Field name)) at_field

  step_stands : (es : List Exp) → ExpsStand P es → SegStands P (out-Seg (step_at es))
  step_stands [] h = field_step []
  step_stands (i ∷ []) (exps h k) = subst (SegStands P) (sym (seg.outs-At i)) (at_position h)
  step_stands (i ∷ j ∷ []) (exps h (exps k l)) = subst (SegStands P) (sym (seg.outs-Slice i j)) (at_slice h k)
  step_stands (i ∷ j ∷ f ∷ es) h = field_step []

  changed_stands : (m : Mark) (e : Exp) (path : List Seg) (x : Exp) → ExpStands P e → SegsStand P path → ExpStands P x → ExpStands P (changed m e path x)
  changed_stands m e path x h k l =
      either_stands (is_extension m) (place e) (node.Extend e path x) (node.Update e path x)
      (ExpStands-at P (place e) (node.Extend e path x) (Node-F.Extend e path x) (node.outs-Extend e path x) (ExpStands-place P h) (of_extend h k l))
      (ExpStands-at P (place e) (node.Update e path x) (Node-F.Update e path x) (node.outs-Update e path x) (ExpStands-place P h) (of_update h k l))

  -- ---- signs and sequences

  infix_stands : (at : Span) (l : Exp) (m : Mark) (r : Exp) → P at → ExpStands P l → ExpStands P r → ExpStands P (exp at (node.Infix l m r))
  infix_stands at l m r p h k = ExpStands-at P at (node.Infix l m r) (Node-F.Infix l m r) (node.outs-Infix l m r) p (of_infix h k)

  joined_stands : (l : Exp) (m : Mark) (r : Exp) → ExpStands P l → ExpStands P r → ExpStands P (joined l m r)
  joined_stands l m r h k =
      either_stands (is_notation m) (place l) (node.Infix l m r) (node.Binary l m r) (infix_stands (place l) l m r (ExpStands-place P h) h k)
      (ExpStands-at P (place l) (node.Binary l m r) (Node-F.Binary l m r) (node.outs-Binary l m r) (ExpStands-place P h) (of_binary h k))

  seq_stands : (at : Span) (es : List Exp) → P at → ExpsStand P es → ExpStands P (exp at (node.Seq es))
  seq_stands at es h k = ExpStands-at P at (node.Seq es) (Node-F.Seq es) (node.outs-Seq es) h (of_seq k)

  prefixed_stands : (m : Mark) (at : Span) (e : Exp) → P at → ExpStands P e → ExpStands P (prefixed m at e)
  prefixed_stands m at e h k =
      either_stands (is_tilde m) at (node.Not e) (if is_minus m then node.Neg e else node.Infix (exp at (node.Seq [])) m e)
      (ExpStands-at P at (node.Not e) (Node-F.Not e) (node.outs-Not e) h (of_not k))
      (either_stands (is_minus m) at (node.Neg e) (node.Infix (exp at (node.Seq [])) m e) (ExpStands-at P at (node.Neg e) (Node-F.Neg e) (node.outs-Neg e) h (of_neg k))
      (infix_stands at (exp at (node.Seq [])) m e h (seq_stands at [] h no_exps) k))

  first_stands : (es : List Exp) → ExpsStand P es → P (first_place es)
  first_stands [] h = unplaced
  first_stands (e ∷ es) (exps h k) = ExpStands-place P h

  -- ---- trees

  mutual
    pub ExpStands-meaning : (t : Tree) → Stand P (text t) → ExpStands P (meaning t)
    ExpStands-meaning (operand k x) s = leaf_stands k x s.0
    ExpStands-meaning (post t l) s = posted_stands (meaning t) l (ExpStands-meaning t (first P (text t) (l ∷ []) s))
    ExpStands-meaning (times t m x c) s =
        iterated_stands (meaning t) (count_of c (meaning c)) (ExpStands-meaning t (first P (text t) (sign m x ∷ text c) s))
        (count_stands c (meaning c) (ExpStands-meaning c (last P (text t) (sign m x ∷ text c) s).1))
    ExpStands-meaning (bracket h ts c) s =
        let inside = last P (heading_text h) (texts ts ++ closing (closes h) c ∷ []) s in
        let parts = first P (texts ts) (closing (closes h) c ∷ []) inside in
        bracketed_stands h ts (first P (heading_text h) (texts ts ++ closing (closes h) c ∷ []) s) (ExpsStand-meanings ts parts) (FieldsStand-meanings ts parts)
    ExpStands-meaning (led g t) s = led_stands g (meaning t) (first P (lead_text g) (text t) s) (ExpStands-meaning t (last P (lead_text g) (text t) s))

    led_stands : (g : Lead) (e : Exp) → Stand P (lead_text g) → ExpStands P e → ExpStands P (led_by g e)
    led_stands (left l m x) e s h = joined_stands (meaning l) m e (ExpStands-meaning l (first P (text l) (sign m x ∷ []) s)) h
    led_stands (ahead m x) e s h = prefixed_stands m x.at e s.0 h
    led_stands (items ts) e s h =
        let all = ExpsStand-append P (ExpsStand-meanings ts s) (exps h no_exps) in
        seq_stands (first_place (meanings ts ++ e ∷ [])) (meanings ts ++ e ∷ []) (first_stands (meanings ts ++ e ∷ []) all) all

    pub ExpsStand-meanings : (ts : Trees) → Stand P (texts ts) → ExpsStand P (meanings ts)
    ExpsStand-meanings none s = no_exps
    ExpsStand-meanings (more ts pre t) s =
        ExpsStand-append P (ExpsStand-meanings ts (first P (texts ts) (pre ++ text t) s)) (exps (ExpStands-meaning t (last P pre (text t) (last P (texts ts) (pre ++ text t) s))) no_exps)

    FieldsStand-meanings : (ts : Trees) → Stand P (texts ts) → FieldsStand P (field_meanings ts)
    FieldsStand-meanings none s = no_fields
    FieldsStand-meanings (more ts pre t) s =
        FieldsStand-append P (FieldsStand-meanings ts (first P (texts ts) (pre ++ text t) s))
        (fields (ExpStands-meaning t (last P pre (text t) (last P (texts ts) (pre ++ text t) s))) no_fields)

    bracketed_stands : (h : Heading) (ts : Trees) → Stand P (heading_text h) → ExpsStand P (meanings ts) → FieldsStand P (field_meanings ts) → ExpStands P (bracketed h (meanings ts) (field_meanings ts))
    bracketed_stands (plain round o) ts s es fs = parens_stand o.at (meanings ts) s.0 es
    bracketed_stands (plain brace o) ts s es fs =
        ExpStands-at P o.at (node.Fields (field_meanings ts)) (Node-F.Fields (field_meanings ts)) (node.outs-Fields (field_meanings ts)) s.0 (of_fields fs)
    bracketed_stands (plain square o) ts s es fs = arith_stands o.at (only (meanings ts)) s.0 (only_stands (meanings ts) es)
    bracketed_stands (plain tick_round o) ts s es fs = ticked_stands mark.TickParen o.at (only (meanings ts)) s.0 (only_stands (meanings ts) es)
    bracketed_stands (plain tick_square o) ts s es fs = ticked_stands mark.TickBracket o.at (only (meanings ts)) s.0 (only_stands (meanings ts) es)
    bracketed_stands (plain tick_brace o) ts s es fs = ticked_stands mark.TickBrace o.at (only (meanings ts)) s.0 (only_stands (meanings ts) es)
    bracketed_stands (plain dollar o) ts s es fs = arith_stands o.at (only (meanings ts)) s.0 (only_stands (meanings ts) es)
    bracketed_stands (length o) ts s es fs =
        ExpStands-at P o.at (node.Len (only (meanings ts))) (Node-F.Len (only (meanings ts))) (node.outs-Len (only (meanings ts))) s.0 (of_len (only_stands (meanings ts) es))
    bracketed_stands (arguments f o) ts s es fs = call_stands f.at (name_of f.kind) (meanings ts) s.0 es
    bracketed_stands (index t o) ts s es fs = indexed_stands (meaning t) (meanings ts) (ExpStands-meaning t (first P (text t) (opening square o ∷ []) s)) es
    bracketed_stands (segment p o) ts s es fs = nothing_stands
    bracketed_stands (update p m x) ts s es fs =
        let path = first P (path_text p) (sign m x ∷ []) s in
        changed_stands m (base p) (steps_of p) (only (meanings ts)) (base_stands p path) (steps_stand p path) (only_stands (meanings ts) es)
    bracketed_stands (below o i m x) ts s es fs = only_stands (meanings ts) es

    base_stands : (p : Path) → Stand P (path_text p) → ExpStands P (base p)
    base_stands (head t o) s = ExpStands-meaning t (first P (text t) (opening square o ∷ []) s)
    base_stands (field p x) s = base_stands p (first P (path_text p) (dot x ∷ []) s)
    base_stands (part p o ts c) s = base_stands p (first P (path_text p) (opening square o ∷ (texts ts ++ closing by_square c ∷ [])) s)

    steps_stand : (p : Path) → Stand P (path_text p) → SegsStand P (steps_of p)
    steps_stand (head t o) s = no_steps
    steps_stand (field p x) s = SegsStand-append P (steps_stand p (first P (path_text p) (dot x ∷ []) s)) (steps (field_step (name_of x.kind)) no_steps)
    steps_stand (part p o ts c) s =
        let behind_path = last P (path_text p) (opening square o ∷ (texts ts ++ closing by_square c ∷ [])) s in
        SegsStand-append P (steps_stand p (first P (path_text p) (opening square o ∷ (texts ts ++ closing by_square c ∷ [])) s))
        (steps (step_stands (meanings ts) (ExpsStand-meanings ts (first P (texts ts) (closing by_square c ∷ []) behind_path.1))) no_steps)
