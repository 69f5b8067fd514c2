-- Expressions are read as their trees, and what is read are fronts of expressions.
use Rattle.std.proofs.Common.{◌≡◌, ℕ, List, [], ◌∷◌, ◌++◌, map, Bool, true, false, ◌&&◌, nat_le, Option, Some, None, option_and_then, if◌then◌else◌, refl, sym, ap, subst, ◌∙◌, append_assoc, append-nil, arith}
use Rattle.st_num.specs.declared.mark.Mark.{Mark}
use Rattle.st_num.specs.declared.token.Token.{Token}
use Rattle.st_grammar.specs.declared.sort.Style.TheVariants.{Parts as parts}
use Rattle.st_grammar.specs.declared.sort.Sort.TheVariants.{Expression as expression}
use Rattle.st_grammar.specs.Terminals.{Terminal, sign, terminal}
use Rattle.st_num.specs.Signs.{level as level_of}
use Rattle.st_grammar.specs.Levels.{left_of, is_comma}
use Rattle.st_grammar.specs.Trees.{Tree, left, Trees, none, more, text, texts}
use Rattle.st_grammar.specs.Grammar.{level, SetsOff, Fits, EachFits}
use Rattle.st_grammar.specs.Definitions.{signed}
use Rattle.st_grammar.specs.Reading as part
use Rattle.st_grammar.proofs.Complete.{level_pos, sign_joins, comma_mark, comma_level}
use Rattle.st_grammar.proofs.CompleteTrees as trees
use Rattle.st_grammar.proofs.Completions as completions
use Rattle.st_grammar.proofs.Steps as steps
use Rattle.st_grammar.proofs.PositionSteps.{comma_sets_off}
use Rattle.st_parse.specs.Expressions.{ParseExpressions, ViableExpressions}
use Rattle.st_parse.specs.inner.ExpressionReading.{State, begun, turn, goes, step, whole, finish, reading, reads, start}

-- ---- a comma behind a whole expression

no_join : (m : Mark) (x : Token) (p : Tree × part.Frames) (t : Tree) → is_comma m ≡ true → part.ended p ≡ Some t → part.join m x p ≡ None
no_join m x (v, part.bottom σ) t e h =
    ap (λ b. if b && nat_le 1 (level_of m) then if nat_le (left_of m) (level v) then Some (part.want (part.over (left v m x) (part.bottom σ))) else None else None) (comma_level σ m e)
no_join m x (v, part.within k ts pre fs) t e h = absurd (cc)
no_join m x (v, part.over g fs) t e h = absurd (cc)
no_join m x (v, part.timing u k y fs) t e h = absurd (cc)

-- The comma is no part of it.
pub comma_ends : (m : Mark) (x : Token) (st : part.State) (t : Tree) → is_comma m ≡ true → part.finish st ≡ Some t → part.step st (sign m x) ≡ None
comma_ends m x (part.got u fs) t e h =
    sign_joins u fs m x (comma_mark (part.sort fs) m e)
    ∙ ap (λ b. part.join m x (part.lower (if b then level_of m else 0) u fs)) (comma_level (part.sort fs) m e)
    ∙ no_join m x (part.lower 0 u fs) t e h
comma_ends m x (part.want fs) t e h = absurd (cc)
comma_ends m x (part.naming k ts pre fs) t e h = absurd (cc)
comma_ends m x (part.pathed p fs) t e h = absurd (cc)
comma_ends m x (part.indexing o fs) t e h = absurd (cc)
comma_ends m x (part.comparing o i fs) t e h = absurd (cc)

-- ---- readings

abbrev pub at : Trees → List Terminal → part.State → State
at ts pre st = record { before = ts; apart = pre; here = st }

-- the tokens of a part are read in the list of expressions
lift : (ts : Trees) (pre : List Terminal) (st last : part.State) (w : List Terminal) → part.reading st w ≡ Some last → reading (at ts pre st) w ≡ Some (at ts pre last)
lift ts pre st last [] e = let is : st ≡ last = cc in ap (λ h. Some (at ts pre h)) is
lift ts pre st last (l ∷ w) e = go (part.step st l) (λ next. lift ts pre next last w) e
  where
    go : (o : Option part.State) → ((next : part.State) → part.reading next w ≡ Some last → reading (at ts pre next) w ≡ Some (at ts pre last))
        → option_and_then (λ next. part.reading next w) o ≡ Some last → option_and_then (λ next. reading next w) (goes (at ts pre st) l o) ≡ Some (at ts pre last)
    go None k e = absurd (cc)
    go (Some next) k e = k next e

pub reading_append : (st : State) (us vs : List Terminal) → reading st (us ++ vs) ≡ option_and_then (λ next. reading next vs) (reading st us)
reading_append st [] vs = refl
reading_append st (l ∷ us) vs = go (step st l) (λ next. reading_append next us vs)
  where
    go : (o : Option State) → ((next : State) → reading next (us ++ vs) ≡ option_and_then (λ last. reading last vs) (reading next us))
        → option_and_then (λ next. reading next (us ++ vs)) o ≡ option_and_then (λ last. reading last vs) (option_and_then (λ next. reading next us) o)
    go None h = refl
    go (Some next) h = h next

-- ---- expressions are read

abbrev ReadTo : Trees → List Terminal → Tree → List Terminal → Type 0
ReadTo ts pre t us = (st : part.State) × (reading start us ≡ Some (at ts pre st)) × (part.finish st ≡ Some t)

ended_well : (o : Option part.State) (t : Tree) → option_and_then part.finish o ≡ Some t → (st : part.State) × (o ≡ Some st) × (part.finish st ≡ Some t)
ended_well None t e = absurd (cc)
ended_well (Some st) t e = (st, refl, e)

-- one expression behind others
one : (ts : Trees) (pre : List Terminal) (t : Tree) (w : List Terminal) → Fits (expression false) t → reading start w ≡ Some (begun ts pre) → ReadTo ts pre t (w ++ text t)
one ts pre t w f e =
    let r = ended_well (part.reading (part.start (expression false)) (text t)) t (trees.complete (expression false) (text t) t (record { fits = f; spelled = refl })) in (
      r.0,
      reading_append start w (text t) ∙ ap (option_and_then (λ next. reading next (text t))) e ∙ lift ts pre (part.start (expression false)) r.0 (text t) r.1,
      r.2,
    )

at_comma : (ts : Trees) (pre : List Terminal) (t : Tree) (m : Mark) (x : Token) (st : part.State) → is_comma m ≡ true → part.finish st ≡ Some t
    → reading (at ts pre st) (sign m x ∷ []) ≡ Some (begun (more ts pre t) (sign m x ∷ []))
at_comma ts pre t m x st e f =
    ap (λ o. option_and_then (λ next. Some next) (goes (at ts pre st) (sign m x) o)) (comma_ends m x st t e f)
    ∙ ap (λ o. option_and_then (λ next. Some next) (turn (at ts pre st) (sign m x) o)) f
    ∙ ap (λ b. option_and_then (λ next. Some next) (if b then Some (begun (more ts pre t) (sign m x ∷ [])) else None)) e

all_read : (ts : Trees) (pre : List Terminal) (t : Tree) → EachFits (expression false) parts 1 (more ts pre t) → ReadTo ts pre t (texts (more ts pre t))
all_read none pre t f = subst (λ p. ReadTo none p t (texts (more none p t))) (sym f.1) (one none [] t [] f.2 refl)
all_read (more ts q u) pre t f =
    let r = all_read ts q u f.0 in
    let l = sign f.1.0 f.1.1 in
    let front : reading start (texts (more ts q u) ++ l ∷ []) ≡ Some (begun (more ts q u) (l ∷ [])) =
    reading_append start (texts (more ts q u)) (l ∷ []) ∙ ap (option_and_then (λ next. reading next (l ∷ []))) r.1 ∙ at_comma ts q u f.1.0 f.1.1 r.0 f.1.3 r.2 in
    let s = one (more ts q u) (l ∷ []) t (texts (more ts q u) ++ l ∷ []) f.2 front in
    subst (λ p. ReadTo (more ts q u) p t (texts (more (more ts q u) p t))) (sym f.1.2)
    (subst (ReadTo (more ts q u) (l ∷ []) t) (append_assoc (texts (more ts q u)) (l ∷ []) (text t)) s)

pub complete : (us : List Terminal) (ts : Trees) → ParseExpressions us ts → reads start us ≡ Some ts
complete us none p = absurd (omega (arith, p.some))
complete us (more ts pre t) p =
    let r = all_read ts pre t p.fits in
    ap (reads start) p.spelled ∙ ap (option_and_then finish) r.1 ∙ ap (whole (at ts pre r.0)) r.2

pub one_list : (us : List Terminal) (a b : Trees) → ParseExpressions us a → ParseExpressions us b → a ≡ b
one_list us a b p q = let e = complete us a p in let f = complete us b q in cc

-- ---- what is read

-- these tokens led there
pub record Reached (us : List Terminal) (st : State) : Type 0 where
  pub fits : EachFits (expression false) parts 1 st.before
  pub apart : SetsOff parts st.before st.apart
  pub now : List Terminal
  pub spelled : us ≡ (texts st.before ++ st.apart) ++ now
  pub read : part.reading (part.start (expression false)) now ≡ Some st.here

pub record Ends (us : List Terminal) (st : State) (t : Tree) : Type 0 where
  pub fits : Fits (expression false) t
  pub spelled : us ≡ texts (more st.before st.apart t)

part_ends : (us : List Terminal) (st : State) (t : Tree) → Reached us st → part.finish st.here ≡ Some t → Ends us st t
part_ends us st t r e =
    let p = steps.sound (expression false) r.now st.here t r.read e in
    record {
      fits = p.fits;
      spelled = r.spelled ∙ ap (λ w. (texts st.before ++ st.apart) ++ w) p.spelled ∙ append_assoc (texts st.before) st.apart (text t);
    }

goes_on : (us : List Terminal) (st : State) (l : Terminal) (next : part.State) → Reached us st → part.step st.here l ≡ Some next → Reached (us ++ l ∷ []) (at st.before st.apart next)
goes_on us st l next r e = record {
  fits = r.fits;
  apart = r.apart;
  now = r.now ++ l ∷ [];
  spelled = ap (λ w. w ++ l ∷ []) r.spelled ∙ append_assoc (texts st.before ++ st.apart) r.now (l ∷ []);
  read =
      completions.reading_append (part.start (expression false)) r.now (l ∷ [])
      ∙ ap (option_and_then (λ s. part.reading s (l ∷ []))) r.read
      ∙ ap (option_and_then (λ s. Some s)) e;
}

turns : (us : List Terminal) (st : State) (l : Terminal) (t : Tree) → Reached us st → part.finish st.here ≡ Some t → signed is_comma l ≡ true
    → Reached (us ++ l ∷ []) (begun (more st.before st.apart t) (l ∷ []))
turns us st l t r e c =
    let p = part_ends us st t r e in
    record {
      fits = (r.fits, r.apart, p.fits, level_pos (expression false) t p.fits, tt);
      apart = comma_sets_off st.before st.apart t l c;
      now = [];
      spelled = ap (λ w. w ++ l ∷ []) p.spelled ∙ sym (append-nil (texts (more st.before st.apart t) ++ l ∷ []));
      read = refl;
    }

abbrev pub ReachedBy : List Terminal → Option State → Type 0
ReachedBy us None = Unit {0}
ReachedBy us (Some st) = Reached us st

pub stepped : (us : List Terminal) (st : State) (l : Terminal) → Reached us st → ReachedBy (us ++ l ∷ []) (step st l)
stepped us st l r = go (part.step st.here l) refl
  where
    comma : (t : Tree) (b : Bool) → part.finish st.here ≡ Some t → signed is_comma l ≡ b
        → ReachedBy (us ++ l ∷ []) (if b then Some (begun (more st.before st.apart t) (l ∷ [])) else None)
    comma t true e c = turns us st l t r e c
    comma t false e c = tt

    at_end : (q : Option Tree) → part.finish st.here ≡ q → ReachedBy (us ++ l ∷ []) (turn st l q)
    at_end None e = tt
    at_end (Some t) e = comma t (signed is_comma l) e refl

    go : (o : Option part.State) → part.step st.here l ≡ o → ReachedBy (us ++ l ∷ []) (goes st l o)
    go (Some next) e = goes_on us st l next r e
    go None e = at_end (part.finish st.here) refl

read_on : (us w : List Terminal) (st last : State) → Reached us st → reading st w ≡ Some last → Reached (us ++ w) last
read_on us [] st last r e = let is : st ≡ last = cc in subst (λ v. Reached v last) (sym (append-nil us)) (subst (Reached us) is r)
read_on us (l ∷ w) st last r e =
    subst (λ v. Reached v last) (append_assoc us (l ∷ []) w) (go (step st l) (λ next. read_on (us ++ l ∷ []) w next last) (stepped us st l r) e)
  where
    go : (o : Option State) → ((next : State) → Reached (us ++ l ∷ []) next → reading next w ≡ Some last → Reached ((us ++ l ∷ []) ++ w) last)
        → ReachedBy (us ++ l ∷ []) o → option_and_then (λ next. reading next w) o ≡ Some last → Reached ((us ++ l ∷ []) ++ w) last
    go None k q e = absurd (cc)
    go (Some next) k q e = k next q e

pub reached : (us : List Terminal) (st : State) → reading start us ≡ Some st → Reached us st
reached us st e = read_on [] us start st (record { fits = tt; apart = refl; now = []; spelled = refl; read = refl }) e

pub sound : (us : List Terminal) (st : State) (ts : Trees) → reading start us ≡ Some st → finish st ≡ Some ts → ParseExpressions us ts
sound us st ts e f = go (part.finish st.here) refl f
  where
    r : Reached us st
    r = reached us st e

    go : (q : Option Tree) → part.finish st.here ≡ q → whole st q ≡ Some ts → ParseExpressions us ts
    go None g h = absurd (cc)
    go (Some t) g h =
        let p = part_ends us st t r g in
        let is : more st.before st.apart t ≡ ts = cc in
        subst (ParseExpressions us) is
        (record {
          fits = (r.fits, r.apart, p.fits, level_pos (expression false) t p.fits, tt);
          some = omega arith;
          spelled = p.spelled;
        })

-- ---- fronts

pub viable : (names : List (List ℕ)) (us : List Terminal) (st : State) → reading start us ≡ Some st → ViableExpressions names us
viable names us st e =
    let r = reached us st e in
    let v = completions.viable names (expression false) r.now st.here r.read in
    let rest = map (terminal names) v.0 in (
      v.0,
      more st.before st.apart v.1,
      record {
        fits = (r.fits, r.apart, v.2.fits, level_pos (expression false) v.1 v.2.fits, tt);
        some = omega arith;
        spelled =
            ap (λ w. w ++ rest) r.spelled
            ∙ append_assoc (texts st.before ++ st.apart) r.now rest
            ∙ ap (λ w. (texts st.before ++ st.apart) ++ w) v.2.spelled
            ∙ append_assoc (texts st.before) st.apart (text v.1);
      },
    )

pub dead : (names : List (List ℕ)) (us : List Terminal) → reading start us ≡ None → ViableExpressions names us → ⊥
dead names us e v =
    let vs = map (terminal names) v.0 in
    let done = complete (us ++ vs) v.1 v.2 in
    let nothing : reads start (us ++ vs) ≡ None = ap (option_and_then finish) (reading_append start us vs ∙ ap (option_and_then (λ next. reading next vs)) e) in
    absurd (cc)
