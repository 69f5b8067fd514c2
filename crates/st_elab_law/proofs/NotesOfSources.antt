-- What is noted of each form of a source.
use Rattle.std.proofs.Common.{◌≡◌, refl, sym, ◌∙◌, ap, ℕ, zero, suc, List, [], ◌∷◌, ◌++◌, map, length, Bool, true, false}
use Rattle.std.specs.Prelude.{if◌then◌else◌}
use Rattle.std.proofs.lemmas.List.{map-append}
use Rattle.st_num.specs.Names.{is_among}
use Rattle.st_num.specs.declared.span.Span.{Span}
use Rattle.st_num.specs.declared.dim.Kind.TheVariants as kind
use Rattle.st_num.specs.declared.mark.Mark.{Mark}
use Rattle.st_el.specs.declared.expression.Exp.{Exp, out-Exp, fold_out-Exp}
use Rattle.st_el.specs.declared.expression.Node.{Node, map-Node, fold_out-Node}
use Rattle.st_el.specs.declared.expression.Count.{Count, out-Count, map-Count, fold_out-Count}
use Rattle.st_el.specs.declared.expression.Count.TheOpen.{Node-F, Count-F, Seg-F, Below as count_below}
use Rattle.st_el.specs.declared.expression.Seg.{Seg, out-Seg, map-Seg, fold_out-Seg}
use Rattle.st_dims.specs.declared.within.Within.{Within}
use Rattle.st_dims.specs.declared.mention.Mention.{Mention}
use Rattle.st_dims.specs.declared.mention.Mention.TheVariants.{Occurs, Indexes, Iterates}
use Rattle.st_dims.specs.Mentions.{Sees as Mentions, CountMeaning, count_meaning, count_meaning_at, mentions_node_at, mentions_seg_at, mentions_exp_at, mentions_exp, mentions_node, mentions_seg, iteration, iterated as mentions_iterated, body_round, names_in, seen_in, fields_seen, field_mentions}
use Rattle.st_notation.specs.Elements.{opened, parentheses, inner_at, without, bare}
use Rattle.st_elab_law.specs.Notes.{Notes, occurs, indexes, iterates, note, names_of, nothing, beside, all_of, mentioned, written}
use Rattle.st_elab_law.specs.Noted.{iteration_note, Round, variable, iterated, over_list}

-- ---- what is mentioned

pub mentioned-append : (xs ys : List Mention) → mentioned (xs ++ ys) ≡ mentioned xs ++ mentioned ys
mentioned-append xs ys = map-append note xs ys

-- the variables that are noted are those that are mentioned
pub names-noted : (ms : List Mention) → names_of (mentioned ms) ≡ names_in ms
names-noted [] = refl
names-noted (Occurs o ∷ ms) = ap (λ z. o.name ∷ z) (names-noted ms)
names-noted (Indexes name ∷ ms) = names-noted ms
names-noted (Iterates i ∷ ms) = names-noted ms

-- what is noted of a part, by what is mentioned in it
abbrev pub read : Mentions → Notes
read part within = mentioned (part within)

two-read : (a b : Mentions) → read (λ w. a w ++ b w) ≡ beside (read a) (read b)
two-read a b = λ i w. mentioned-append (a w) (b w) i

three-read : (a b c : Mentions) → read (λ w. a w ++ b w ++ c w) ≡ beside (beside (read a) (read b)) (read c)
three-read a b c = two-read (λ w. a w ++ b w) c ∙ (λ i. beside (two-read a b i) (read c))

-- what is noted of a step of a path
abbrev pub step_written : Seg → Notes
step_written s = read (mentions_seg s)

-- what is noted of a field
abbrev pub field_written : List ℕ × Exp → Notes
field_written f = written f.1

-- what an iteration is to the variables in it
abbrev pub as_round : CountMeaning → Round
as_round mark = record { kind = mark.kind; index = mark.index; must = mark.must_iterate; count = read mark.count }

abbrev pub round_written : Count → Round
round_written c = as_round (count_meaning c)

exps-read : (es : List Exp) (w : Within) → mentioned (seen_in (map mentions_exp es) w) ≡ all_of (map written es) w
exps-read [] w = refl
exps-read (e ∷ es) w = mentioned-append (mentions_exp e w) (seen_in (map mentions_exp es) w) ∙ ap (λ z. written e w ++ z) (exps-read es w)

steps-read : (ss : List Seg) (w : Within) → mentioned (seen_in (map mentions_seg ss) w) ≡ all_of (map step_written ss) w
steps-read [] w = refl
steps-read (s ∷ ss) w = mentioned-append (mentions_seg s w) (seen_in (map mentions_seg ss) w) ∙ ap (λ z. step_written s w ++ z) (steps-read ss w)

fields-read : (fs : List (List ℕ × Exp)) (w : Within) → mentioned (fields_seen (map field_mentions fs) w) ≡ all_of (map field_written fs) w
fields-read [] w = refl
fields-read (f ∷ fs) w = mentioned-append (mentions_exp f.1 w) (fields_seen (map field_mentions fs) w) ∙ ap (λ z. field_written f w ++ z) (fields-read fs w)

indices-read : (names : List (List ℕ)) → mentioned (map Indexes names) ≡ map indexes names
indices-read [] = refl
indices-read (name ∷ names) = ap (λ z. indexes name ∷ z) (indices-read names)

-- an iteration mentions itself, its index, what its body mentions, and then what its count does
pub iterated-read : (mark : CountMeaning) (body : Mentions) (at : Span) → read (mentions_iterated mark body at) ≡ iterated (as_round mark) (read body)
iterated-read mark body at = λ i w. by w i
  where
    itself : (w : Within) (ms : List Mention) (b : Bool) → mentioned (if b then Iterates (record { at = at; depth = length w.kinds; names = names_in ms }) ∷ [] else []) ≡ iteration_note b (length w.kinds) (mentioned ms)
    itself w ms true = ap (λ z. iterates (length w.kinds) z ∷ []) (sym (names-noted ms))
    itself w ms false = refl

    by : (w : Within) → mentioned (mentions_iterated mark body at w) ≡ iterated (as_round mark) (read body) w
    by w =
        let ms : List Mention = body (body_round mark w) in
        mentioned-append (iteration mark at w ms ++ map Indexes mark.index ++ ms) (mark.count w)
        ∙ ap (λ z. z ++ mentioned (mark.count w)) (mentioned-append (iteration mark at w ms ++ map Indexes mark.index) ms)
        ∙ ap (λ z. z ++ mentioned ms ++ mentioned (mark.count w)) (mentioned-append (iteration mark at w ms) (map Indexes mark.index) ∙ (λ i. itself w ms mark.must_iterate i ++ indices-read mark.index i))

-- ---- levels

abbrev parts : Node-F Count Node Seg Exp → Node-F CountMeaning (Span → Mentions) Mentions Mentions
parts = map-Node Count Node Seg Exp CountMeaning (Span → Mentions) Mentions Mentions count_meaning mentions_node mentions_seg mentions_exp

-- what is mentioned at this level
abbrev level : Exp → Node-F Count Node Seg Exp → Mentions
level e y within = mentions_node_at (parts y) (out-Exp e).at within

written-level : (e : Exp) (y : Node-F Count Node Seg Exp) → opened e ≡ y → written e ≡ read (level e y)
written-level e y is =
    ap read (fold_out-Exp CountMeaning (Span → Mentions) Mentions Mentions count_meaning_at mentions_node_at mentions_seg_at mentions_exp_at e
    ∙ (λ i w. fold_out-Node CountMeaning (Span → Mentions) Mentions Mentions count_meaning_at mentions_node_at mentions_seg_at mentions_exp_at (out-Exp e).node i (out-Exp e).at w)
    ∙ ap (level e) is)

step-level : (s : Seg) (y : Seg-F Count Node Seg Exp) → out-Seg s ≡ y
    → step_written s ≡ read (mentions_seg_at (map-Seg Count Node Seg Exp CountMeaning (Span → Mentions) Mentions Mentions count_meaning mentions_node mentions_seg mentions_exp y))
step-level s y is =
    ap read (fold_out-Seg CountMeaning (Span → Mentions) Mentions Mentions count_meaning_at mentions_node_at mentions_seg_at mentions_exp_at s
    ∙ ap (λ z. mentions_seg_at (map-Seg Count Node Seg Exp CountMeaning (Span → Mentions) Mentions Mentions count_meaning mentions_node mentions_seg mentions_exp z)) is)

count-level : (c : Count) (y : Count-F Count Node Seg Exp) → out-Count c ≡ y
    → round_written c ≡ as_round (count_meaning_at (map-Count Count Node Seg Exp CountMeaning (Span → Mentions) Mentions Mentions count_meaning mentions_node mentions_seg mentions_exp y))
count-level c y is =
    ap as_round (fold_out-Count CountMeaning (Span → Mentions) Mentions Mentions count_meaning_at mentions_node_at mentions_seg_at mentions_exp_at c
    ∙ ap (λ z. count_meaning_at (map-Count Count Node Seg Exp CountMeaning (Span → Mentions) Mentions Mentions count_meaning mentions_node mentions_seg mentions_exp z)) is)

-- ---- expressions

module _ (e : Exp) where
  pub written-Name : (name : List ℕ) → opened e ≡ Node-F.Name name → written e ≡ variable name
  written-Name name is = written-level e _ is ∙ (λ i w. by w (is_among name w.indices) i)
    where
      by : (w : Within) (b : Bool) → mentioned (if b then [] else Occurs (record { name = name; at = (out-Exp e).at; chain = w.kinds }) ∷ []) ≡ (if b then [] else occurs name w.kinds ∷ [])
      by w true = refl
      by w false = refl

  pub written-Bool : (truth : Bool) → opened e ≡ Node-F.Bool truth → written e ≡ nothing
  written-Bool truth is = written-level e _ is

  pub written-Number : (n : ℕ) → opened e ≡ Node-F.Number n → written e ≡ nothing
  written-Number n is = written-level e _ is

  pub written-Text : (text : List ℕ) → opened e ≡ Node-F.Text text → written e ≡ nothing
  written-Text text is = written-level e _ is

  pub written-Eps : opened e ≡ Node-F.Eps → written e ≡ nothing
  written-Eps is = written-level e _ is

  pub written-Atom : (name : List ℕ) → opened e ≡ Node-F.Atom name → written e ≡ nothing
  written-Atom name is = written-level e _ is

  pub written-Not : (b : Exp) → opened e ≡ Node-F.Not b → written e ≡ written b
  written-Not b is = written-level e _ is

  pub written-Neg : (b : Exp) → opened e ≡ Node-F.Neg b → written e ≡ written b
  written-Neg b is = written-level e _ is

  pub written-Arith : (b : Exp) → opened e ≡ Node-F.Arith b → written e ≡ written b
  written-Arith b is = written-level e _ is

  pub written-Paren : (b : Exp) → opened e ≡ Node-F.Paren b → written e ≡ written b
  written-Paren b is = written-level e _ is

  pub written-Bracket : (sign : Mark) (b : Exp) → opened e ≡ Node-F.Bracket sign b → written e ≡ written b
  written-Bracket sign b is = written-level e _ is

  pub written-Dot : (b : Exp) (field : List ℕ) → opened e ≡ Node-F.Dot b field → written e ≡ written b
  written-Dot b field is = written-level e _ is

  pub written-Len : (b : Exp) → opened e ≡ Node-F.Len b → written e ≡ written b
  written-Len b is = written-level e _ is

  pub written-Binary : (l : Exp) (sign : Mark) (r : Exp) → opened e ≡ Node-F.Binary l sign r → written e ≡ beside (written l) (written r)
  written-Binary l sign r is = written-level e _ is ∙ two-read (mentions_exp l) (mentions_exp r)

  pub written-Infix : (l : Exp) (sign : Mark) (r : Exp) → opened e ≡ Node-F.Infix l sign r → written e ≡ beside (written l) (written r)
  written-Infix l sign r is = written-level e _ is ∙ two-read (mentions_exp l) (mentions_exp r)

  pub written-At : (b i : Exp) → opened e ≡ Node-F.Node::At b i → written e ≡ beside (written b) (written i)
  written-At b i is = written-level e _ is ∙ two-read (mentions_exp b) (mentions_exp i)

  pub written-Slice : (b i n : Exp) → opened e ≡ Node-F.Node::Slice b i n → written e ≡ beside (beside (written b) (written i)) (written n)
  written-Slice b i n is = written-level e _ is ∙ three-read (mentions_exp b) (mentions_exp i) (mentions_exp n)

  pub written-Seq : (es : List Exp) → opened e ≡ Node-F.Seq es → written e ≡ all_of (map written es)
  written-Seq es is = written-level e _ is ∙ (λ i w. exps-read es w i)

  pub written-Tuple : (es : List Exp) → opened e ≡ Node-F.Tuple es → written e ≡ all_of (map written es)
  written-Tuple es is = written-level e _ is ∙ (λ i w. exps-read es w i)

  pub written-Call : (name : List ℕ) (es : List Exp) → opened e ≡ Node-F.Call name es → written e ≡ all_of (map written es)
  written-Call name es is = written-level e _ is ∙ (λ i w. exps-read es w i)

  pub written-Fields : (fs : List (List ℕ × Exp)) → opened e ≡ Node-F.Fields fs → written e ≡ all_of (map field_written fs)
  written-Fields fs is = written-level e _ is ∙ (λ i w. fields-read fs w i)

  change-read : (b : Exp) (ss : List Seg) (v : Exp)
      → read (λ w. mentions_exp b w ++ seen_in (map mentions_seg ss) w ++ mentions_exp v w) ≡ beside (beside (written b) (all_of (map step_written ss))) (written v)
  change-read b ss v = three-read (mentions_exp b) (seen_in (map mentions_seg ss)) (mentions_exp v) ∙ (λ i. beside (beside (written b) (λ w. steps-read ss w i)) (written v))

  pub written-Update : (b : Exp) (ss : List Seg) (v : Exp) → opened e ≡ Node-F.Update b ss v → written e ≡ beside (beside (written b) (all_of (map step_written ss))) (written v)
  written-Update b ss v is = written-level e _ is ∙ change-read b ss v

  pub written-Extend : (b : Exp) (ss : List Seg) (v : Exp) → opened e ≡ Node-F.Extend b ss v → written e ≡ beside (beside (written b) (all_of (map step_written ss))) (written v)
  written-Extend b ss v is = written-level e _ is ∙ change-read b ss v

  pub written-Iter : (b : Exp) (c : Count) → opened e ≡ Node-F.Iter b c → written e ≡ iterated (round_written c) (written b)
  written-Iter b c is = written-level e _ is ∙ iterated-read (count_meaning c) (mentions_exp b) (out-Exp e).at

-- ---- iterations

module _ (c : Count) where
  pub round-Star : out-Count c ≡ Count-F.Star → round_written c ≡ over_list true nothing
  round-Star is = count-level c _ is

  pub round-Plus : out-Count c ≡ Count-F.Plus → round_written c ≡ over_list true nothing
  round-Plus is = count-level c _ is

  pub round-Quest : out-Count c ≡ Count-F.Quest → round_written c ≡ record { kind = kind.Opt; index = []; must = true; count = nothing }
  round-Quest is = count-level c _ is

  pub round-Times : (n : Exp) → out-Count c ≡ Count-F.Times n → round_written c ≡ over_list false (written n)
  round-Times n is = count-level c _ is

  pub round-Below : (index : List ℕ) (n : Exp) → out-Count c ≡ count_below index n → round_written c ≡ record { kind = kind.List; index = index ∷ []; must = false; count = written n }
  round-Below index n is = count-level c _ is

-- ---- steps of a path

module _ (s : Seg) where
  pub step-Field : (name : List ℕ) → out-Seg s ≡ Seg-F.Field name → step_written s ≡ nothing
  step-Field name is = step-level s _ is

  pub step-At : (i : Exp) → out-Seg s ≡ Seg-F.Seg::At i → step_written s ≡ written i
  step-At i is = step-level s _ is

  pub step-Slice : (i n : Exp) → out-Seg s ≡ Seg-F.Seg::Slice i n → step_written s ≡ beside (written i) (written n)
  step-Slice i n is = step-level s _ is ∙ two-read (mentions_exp i) (mentions_exp n)

-- ---- parentheses

written-without : (n : ℕ) (e : Exp) → written (without n e) ≡ written e
written-without zero e = refl
written-without (suc n) e = written-without n (inner_at e (opened e)) ∙ inner (opened e) refl
  where
    inner : (y : Node-F Count Node Seg Exp) → opened e ≡ y → written (inner_at e y) ≡ written e
    inner (Node-F.Paren b) is = sym (written-Paren e b is)
    inner y is = refl

-- the parentheses round the whole change nothing
pub written-bare : (e : Exp) → written (bare e) ≡ written e
written-bare e = written-without (parentheses e) e
