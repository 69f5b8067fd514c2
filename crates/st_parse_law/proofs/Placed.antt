-- A part at its place: bare, or in parentheses where it does not suit the place.
use Rattle.std.proofs.Common.{◌≡◌, ℕ, ◌≤◌, List, ◌++◌, codes, Bool, true, false, not, ◌&&◌, ◌||◌, refl, sym, ap, ◌∙◌, subst, arith, append_assoc}
use Rattle.std.specs.Prelude.{nat_le, if◌then◌else◌}
use Rattle.std.proofs.lemmas.Bool.{and_parts, and_from, leb-true, le-leb, not-true}
use Rattle.std.proofs.lemmas.List.{append-nil}
use Rattle.st_num.specs.declared.mark.Mark.TheVariants.{OpenParen, CloseParen}
use Rattle.st_grammar.specs.declared.sort.Sort.{Sort}
use Rattle.st_grammar.specs.declared.sort.Sort.TheVariants.{Expression as expression, Arithmetic as arithmetic, Count as count}
use Rattle.st_el.specs.declared.expression.Exp.{Exp, out-Exp}
use Rattle.st_el.specs.declared.context.Around.{Around}
use Rattle.st_el.specs.declared.context.Around.TheVariants.{Brackets, Bars, Arithmetic, Caret}
use Rattle.st_el.specs.declared.context.Behind.{Behind}
use Rattle.st_el.specs.declared.context.Behind.TheVariants.{Other, Dot, Plus}
use Rattle.st_el.specs.declared.context.Context.{Context as Place}
use Rattle.st_el.specs.declared.context.Wrapping.TheVariants.{Bare, Parens, Dollar}
use Rattle.st_el.specs.Wrappings.{Printed, Level, level_of, takes_in, has_bar, is_arithmetic, suits, wrapping, is_plus}
use Rattle.st_el.specs.SourceText.{printed, printed_node_at, opened, front, postfix, wrapped, text_at}
use Rattle.st_el.specs.Contexts.{in_parens}
use Rattle.st_num.specs.declared.span.Span.{Span}
use Rattle.st_el.specs.declared.expression.Node.{Node}
use Rattle.st_parse_builder.specs.Meaning.{exp}
use Rattle.st_parse_law.proofs.Plains.{printed-of, node-of}
use Rattle.st_parse_law.proofs.Parts.{Traits, Within, Part, weaker, part_as}
use Rattle.st_parse_law.proofs.Wraps.{framed, paren_frame, group_frame, tight_traits}

abbrev pub is_dot : Behind → Bool
is_dot Dot = true
is_dot behind = false

abbrev pub sort_of : Around → Sort
sort_of Brackets = expression false
sort_of Bars = expression true
sort_of Arithmetic = arithmetic
sort_of Caret = count

-- what may stand round a part that is printed bare
abbrev pub bare_traits : Level → Traits
bare_traits l =
    record {
      level = level_of l;
      dots = not (takes_in Dot l);
      plus = nat_le 20 (level_of l) && not (takes_in Plus l);
      no_bar = nat_le 20 (level_of l) && not (has_bar l);
    }

-- what stands round a part at a place
abbrev pub place_traits : Place → Printed → Traits
place_traits p part =
    record {
      level = p.least;
      dots = is_dot p.behind;
      plus = nat_le 20 p.least && is_plus p.behind;
      no_bar = nat_le 20 p.least && (p.bar_closes || not (part.begins_with_bar p.behind));
    }

dots_bare : (d : Behind) (l : Level) → takes_in d l ≡ false → is_dot d ≡ true → not (takes_in Dot l) ≡ true
dots_bare Dot l t h = ap not t
dots_bare Other l t h = absurd (cc)
dots_bare Plus l t h = absurd (cc)

plus_bare : (d : Behind) (l : Level) → takes_in d l ≡ false → is_plus d ≡ true → not (takes_in Plus l) ≡ true
plus_bare Plus l t h = ap not t
plus_bare Other l t h = absurd (cc)
plus_bare Dot l t h = absurd (cc)

bars_bare : (c t b : Bool) → t ≡ false → not (c && b) ≡ true → (c || not (not t && b)) ≡ true → not b ≡ true
bars_bare c t false e n h = refl
bars_bare true t true e n h = absurd (cc)
bars_bare false true true e n h = absurd (cc)
bars_bare false false true e n h = absurd (cc)

pub suits_within : (p : Place) (l : Level) → suits p l ≡ true → Within (place_traits p (printed_node_at l)) (bare_traits l)
suits_within p l s =
    let outer = and_parts (nat_le p.least (level_of l) && not (takes_in p.behind l)) (not (p.bar_closes && has_bar l)) s in
    let inner = and_parts (nat_le p.least (level_of l)) (not (takes_in p.behind l)) outer.0 in
    let loose : p.least ≤ level_of l = leb-true p.least (level_of l) inner.0 in
    let apart : takes_in p.behind l ≡ false = not-true (takes_in p.behind l) inner.1 in
    let tight : nat_le 20 p.least ≡ true → nat_le 20 (level_of l) ≡ true = λ h. le-leb 20 (level_of l) (omega (arith, leb-true 20 p.least h, loose)) in
    record {
      level = loose;
      dots = dots_bare p.behind l apart;
      plus = λ h. let both = and_parts (nat_le 20 p.least) (is_plus p.behind) h in
          and_from (nat_le 20 (level_of l)) (not (takes_in Plus l)) (tight both.0) (plus_bare p.behind l apart both.1);
      no_bar = λ h. let both = and_parts (nat_le 20 p.least) (p.bar_closes || not (not (takes_in p.behind l) && has_bar l)) h in
          and_from (nat_le 20 (level_of l)) (not (has_bar l)) (tight both.0) (bars_bare p.bar_closes (takes_in p.behind l) (has_bar l) apart outer.1 both.1);
    }

tight_within : (p : Place) (l : Level) → p.least ≤ 20 → Within (place_traits p (printed_node_at l)) (tight_traits true)
tight_within p l h = record { level = h; dots = λ _. refl; plus = λ _. refl; no_bar = λ _. refl }

abbrev pub round_text : Around → Level → List ℕ
round_text a l = codes "(" ++ front a l ++ postfix l ++ codes ")"

in_round : (a : Around) (l : Level) → (codes "(" ++ (front a l ++ postfix l)) ++ codes ")" ≡ round_text a l
in_round a l = ap (λ w. w ++ codes ")") (sym (append_assoc (codes "(") (front a l) (postfix l)))

module _ (names : List (List ℕ)) (e : Exp) (l : Level) where
  abbrev Bared : Sort → Around → Type 0
  Bared σ a = Part names σ e (bare_traits l) (front a l ++ postfix l)

  abbrev AtPlace : Sort → Place → Type 0
  AtPlace σ p = Part names σ e (place_traits p (printed_node_at l)) (text_at l p)

  bare_placed : (σ : Sort) (p : Place) → wrapping p l ≡ Bare → suits p l ≡ true → Bared σ p.around → AtPlace σ p
  bare_placed σ p w s part =
      part_as names σ e e (place_traits p (printed_node_at l)) (front p.around l ++ postfix l) (text_at l p) refl
      (sym (append-nil (front p.around l ++ postfix l)) ∙ ap (λ w. wrapped w p.around l) (sym w))
      (weaker names σ e (place_traits p (printed_node_at l)) (bare_traits l) (front p.around l ++ postfix l) (suits_within p l s) part)

  round_placed : (σ : Sort) (p : Place) → wrapping p l ≡ Parens → p.least ≤ 20
      → Part names σ e (tight_traits true) (round_text (in_parens p.around) l) → AtPlace σ p
  round_placed σ p w low part =
      part_as names σ e e (place_traits p (printed_node_at l)) (round_text (in_parens p.around) l) (text_at l p) refl
      (ap (λ w. wrapped w p.around l) (sym w))
      (weaker names σ e (place_traits p (printed_node_at l)) (tight_traits true) (round_text (in_parens p.around) l) (tight_within p l low) part)

  one_placed : (σ : Sort) (p : Place) (s : Bool) → suits p l ≡ s → (wrapping p l ≡ if s then Bare else Parens) → p.least ≤ 20
      → Bared σ p.around → Part names σ e (tight_traits true) (round_text (in_parens p.around) l) → AtPlace σ p
  one_placed σ p true s w low bare round = bare_placed σ p w s bare
  one_placed σ p false s w low bare round = round_placed σ p w low round

  in_parens_round : (b : Bool) → 1 ≤ level_of l → Bared (expression false) Brackets → Part names (expression b) e (tight_traits true) (round_text Brackets l)
  in_parens_round b h part =
      part_as names (expression b) e e (tight_traits true) _ (round_text Brackets l) refl (in_round Brackets l)
      (framed names OpenParen CloseParen (expression b) (expression false) true e e (paren_frame names b e) (bare_traits l) (front Brackets l ++ postfix l) part h)

  in_group : 1 ≤ level_of l → Bared arithmetic Arithmetic → Part names arithmetic e (tight_traits true) (round_text Arithmetic l)
  in_group h part =
      part_as names arithmetic e e (tight_traits true) _ (round_text Arithmetic l) refl (in_round Arithmetic l)
      (framed names OpenParen CloseParen arithmetic arithmetic true e e (group_frame names e) (bare_traits l) (front Arithmetic l ++ postfix l) part h)

-- in which places the parts of a sort are printed
abbrev pub Home : Sort → Around → Type 0
Home (expression b) Brackets = Unit {0}
Home (expression b) Bars = Unit {0}
Home arithmetic Arithmetic = Unit {0}
Home σ a = ⊥

-- Signs of arithmetic stand in arithmetic alone.
abbrev pub IsNormal : Sort → Level → Type 0
IsNormal (expression b) l = is_arithmetic l ≡ false
IsNormal σ l = Unit {0}

abbrev pub level_in : Exp → Level
level_in e = opened (out-Exp e).node

-- an expression that is read back wherever parts of this sort are printed
pub record Printable (names : List (List ℕ)) (σ : Sort) (e : Exp) : Type 0 where
  pub some : 1 ≤ level_of (level_in e)
  pub normal : IsNormal σ (level_in e)
  pub bare : (a : Around) → Home σ a
      → Part names (sort_of a) e (bare_traits (level_in e)) (front a (level_in e) ++ postfix (level_in e))

abbrev pub PartAt : List (List ℕ) → Place → Exp → Type 0
PartAt names p e = Part names (sort_of p.around) e (place_traits p (printed e)) ((printed e).at p)

normal_wrapping : (a s : Bool) → a ≡ false → (if a then Dollar else if s then Bare else Parens) ≡ (if s then Bare else Parens)
normal_wrapping a s h = ap (λ t. if t then Dollar else if s then Bare else Parens) h

placed_in :
    (names : List (List ℕ)) (σ : Sort) (e : Exp) (a : Around) (n : ℕ) (c : Bool) (d : Behind) → Home σ a → n ≤ 20 → Printable names σ e
    → AtPlace names e (level_in e) (sort_of a) (record { around = a; least = n; bar_closes = c; behind = d })
placed_in names (expression b) e Brackets n c d home low x = one_placed names e (level_in e) _ _ _ refl (normal_wrapping _ _ x.normal) low (x.bare Brackets tt) (in_parens_round names e (level_in e) false x.some (x.bare Brackets tt))
placed_in names (expression b) e Bars n c d home low x = one_placed names e (level_in e) _ _ _ refl (normal_wrapping _ _ x.normal) low (x.bare Bars tt) (in_parens_round names e (level_in e) true x.some (x.bare Brackets tt))
placed_in names arithmetic e Arithmetic n c d home low x = one_placed names e (level_in e) _ _ _ refl refl low (x.bare Arithmetic tt) (in_group names e (level_in e) x.some (x.bare Arithmetic tt))
placed_in names (expression b) e Arithmetic n c d home low x = absurd home
placed_in names (expression b) e Caret n c d home low x = absurd home
placed_in names arithmetic e Brackets n c d home low x = absurd home
placed_in names arithmetic e Bars n c d home low x = absurd home
placed_in names arithmetic e Caret n c d home low x = absurd home
placed_in names σ e a n c d home low x = absurd home

pub placed : (names : List (List ℕ)) (σ : Sort) (e : Exp) (p : Place) → Home σ p.around → p.least ≤ 20 → Printable names σ e → PartAt names p e
placed names σ e p home low x =
    subst (λ y. Part names (sort_of p.around) e (place_traits p y) (y.at p)) (sym (printed-of e))
    (placed_in names σ e p.around p.least p.bar_closes p.behind home low x)

-- ---- what is read back wherever it is printed

pub normal : (σ : Sort) (l : Level) → is_arithmetic l ≡ false → IsNormal σ l
normal (expression b) l h = h
normal arithmetic l h = tt
normal σ l h = tt

-- by the level of its node
pub printable :
    (names : List (List ℕ)) (σ : Sort) (at : Span) (n : Node) (l : Level) → opened n ≡ l → 1 ≤ level_of l → IsNormal σ l
    → ((a : Around) → Home σ a → Part names (sort_of a) (exp at n) (bare_traits l) (front a l ++ postfix l))
    → Printable names σ (exp at n)
printable names σ at n l is some ok bare =
    let same : l ≡ level_in (exp at n) = sym (ap opened (node-of at n) ∙ is) in
    record {
      some = subst (λ m. 1 ≤ level_of m) same some;
      normal = subst (IsNormal σ) same ok;
      bare = λ a home. subst (λ m. Part names (sort_of a) (exp at n) (bare_traits m) (front a m ++ postfix m)) same (bare a home);
    }
