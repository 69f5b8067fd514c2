-- A `+` or `^` that is refused stands behind a type exactly where a `*` may stand in its place.
use Rattle.std.proofs.Common.{◌≡◌, ◌⊎◌, inl, inr, ℕ, ◌≤◌, List, [], ◌∷◌, ◌++◌, Bool, true, false, ◌&&◌, Option, Some, None, option_and_then, nat_le, if◌then◌else◌, refl, sym, ap, subst, ◌∙◌, arith}
use Rattle.st_num.specs.declared.mark.Mark.{Mark}
use Rattle.st_num.specs.declared.mark.Mark.TheVariants as mark
use Rattle.st_num.specs.declared.token.Token.{Token}
use Rattle.st_num.specs.Signs.{level as level_of, prefix_level}
use Rattle.st_grammar.specs.declared.sort.Sort.{Sort}
use Rattle.st_grammar.specs.declared.sort.Sort.TheVariants.{Expression as expression, Arithmetic as arithmetic, Notation as notation, Typ as typ, Count as count, Bound as bound}
use Rattle.st_grammar.specs.Terminals.{Terminal, sign}
use Rattle.st_grammar.specs.Levels.{is_expression, juxtaposes, has_level, left_of, right_of, prefix_right}
use Rattle.st_grammar.specs.Trees.{Tree, post, Lead, left, ahead, items, none, more, Heading, plain, length, arguments, index, segment, update, below, led}
use Rattle.st_grammar.specs.Grammar.{is_type, may_post, level, lead_level, least_in}
use Rattle.st_grammar.specs.Definitions.{keyword, no_hints, more_hints, no_members, member, Iterations, marked, has_closed, given, Premises, more_premises}
use Rattle.st_grammar.specs.Reading as reading_of
use Rattle.st_grammar.specs.Reading.{Frames, bottom, within, over, timing, want, got, naming, pathed, indexing, comparing, sort, least, reach, lower, separate, join, pull, behind_sign}
use Rattle.st_grammar.specs.Positions.{Rule, of_syntax, of_field, of_case, of_var, of_relation, of_notation, of_fun, Slot, field_slot, case_slot, var_slot, notation_slot, fun_slot, arg_slot, rule_slot, cond_slot, count_slot, Position, between, syntax_name, var_name, var_colon, relation_name, rule_name, rule_colon, fun_name, fun_named, argued, args_closed, syntax_id, rule_id, hinted, hint_open, hint_name, hint_words, entering, dotted, field_name, premised, premise_open, goal_colon, iterated, State, at, inside, is_whole, whole, rule_whole, begin_def, begun, id_goes, next_premise, iterate, first_of_two, position_step, filled, taken, step, reading, start}
use Rattle.st_grammar.proofs.PositionTexts.{Holds}
use Rattle.st_grammar.proofs.PositionEnds.{viable}
use Rattle.st_grammar.proofs.PositionComplete.{dead_defs}
use Rattle.st_grammar.proofs.Sound.{Stand, Placed}
use Rattle.st_grammar.proofs.LevelLemmas.{ahead_low}
use Rattle.st_parse_automaton.proofs.Loop.{last_step}
use Rattle.st_parse_faults.specs.declared.before.Before.TheVariants as before
use Rattle.st_parse_faults.specs.inner.LeftOut.{is_type_in, type_or_other, before_next, is_typ}
use Rattle.st_parse_faults.specs.FormsLeftOut.{StarMayFollow}
use Rattle.st_parse_faults.proofs.PositionNumberFacts.{no_way}
use Rattle.st_parse_faults.proofs.LeftOutBefore.{Told}
use Rattle.st_parse_faults.proofs.UntakenSigns.{NoPart, quiet_part, join_none, behind_in, unjoined, lower_sort, and_none}

-- ---- a type

type_posts : (σ : Sort) (t : Tree) (x : Token) → is_type_in σ t ≡ true → may_post σ t (sign mark.Star x) ≡ true
type_posts typ t x e = refl
type_posts notation t x e = e
type_posts (expression b) t x e = absurd (no_way e)
type_posts arithmetic t x e = absurd (no_way e)
type_posts count t x e = absurd (no_way e)
type_posts bound t x e = absurd (no_way e)

-- a `*` may stand behind a type
pub star_follows : (names : List (List ℕ)) (us : List Terminal) (st : State) (x : Token) → reading start us ≡ Some st → Told st before.Typ → StarMayFollow names us x
star_follows names us st x e (s, t, fs, f, k) =
    let l = sign mark.Star x in
    let next = inside s (got (post t l) fs) in
    let takes : reading_of.step (got t fs) l ≡ Some (got (post t l) fs) =
    ap (λ b. if b then Some (got (post t l) fs) else if is_expression (sort fs) && false then Some (want (timing t mark.Star x fs)) else join mark.Star x (lower (pull (sort fs) mark.Star) t fs)) (type_posts (sort fs) t x k) in
    let moves : step st l ≡ Some next = ap (λ v. step v l) f ∙ ap (taken s (got t fs) l) takes in
    viable names (us ++ l ∷ []) next (last_step us l st e ∙ moves)

-- ---- arithmetic takes `+` and `^` behind each part

least_in_low : (h : Heading) → least_in h ≤ 13
least_in_low (plain k o) = omega arith
least_in_low (length o) = omega arith
least_in_low (arguments f o) = omega arith
least_in_low (index t o) = omega arith
least_in_low (segment p o) = omega arith
least_in_low (update p m x) = omega arith
least_in_low (below o i m x) = omega arith

-- the lead stands in arithmetic
abbrev pub ArithmeticLead : Lead → Type 0
ArithmeticLead (left l m x) = has_level arithmetic (level_of m) ≡ true
ArithmeticLead (ahead m x) = has_level arithmetic (prefix_level m) ≡ true
ArithmeticLead (items ts) = ⊥

-- the sign of this level and left side joins there
pub record Joins (n k : ℕ) (p : Tree × Frames) : Type 0 where
  pub sorted : sort p.1 ≡ arithmetic
  pub loose : least p.1 ≤ n
  pub tight : k ≤ level p.0

is_within : (a b : ℕ) → nat_le a b ≡ true → a ≤ b
is_within a b e = grind arith

within_is : (a b : ℕ) → a ≤ b → nat_le a b ≡ true
within_is a b e = grind arith

lower_joins : (n k : ℕ) → 13 ≤ n → ((g : Lead) → ArithmeticLead g → nat_le (reach g) n ≡ false → k ≤ lead_level g) → (t : Tree) (fs : Frames) → Stand fs → sort fs ≡ arithmetic → k ≤ level t → Joins n k (lower n t fs)
lower_joins n k h c t (bottom σ) s e f = record { sorted = e; loose = omega (arith, h); tight = f }
lower_joins n k h c t (within j ts pre fs) s e f = record { sorted = e; loose = omega (arith, h, least_in_low j); tight = f }
lower_joins n k h c t (timing u m x fs) s e f = absurd (cc)
lower_joins n k h c t (over (left u m x) fs) s e f =
    go (nat_le (reach (left u m x)) n) refl (λ r. lower_joins n k h c (led (left u m x) t) fs s.0 e (c (left u m x) (subst (λ σ. has_level σ (level_of m) ≡ true) e s.1.0) r))
  where
    go : (b : Bool) → nat_le (reach (left u m x)) n ≡ b → (nat_le (reach (left u m x)) n ≡ false → Joins n k (lower n (led (left u m x) t) fs)) → Joins n k (if b then (t, over (left u m x) fs) else lower n (led (left u m x) t) fs)
    go true r later = record { sorted = e; loose = is_within (reach (left u m x)) n r; tight = f }
    go false r later = later r
lower_joins n k h c t (over (ahead m x) fs) s e f =
    go (nat_le (reach (ahead m x)) n) refl (λ r. lower_joins n k h c (led (ahead m x) t) fs s.0 e (c (ahead m x) (subst (λ σ. has_level σ (prefix_level m) ≡ true) e s.1) r))
  where
    go : (b : Bool) → nat_le (reach (ahead m x)) n ≡ b → (nat_le (reach (ahead m x)) n ≡ false → Joins n k (lower n (led (ahead m x) t) fs)) → Joins n k (if b then (t, over (ahead m x) fs) else lower n (led (ahead m x) t) fs)
    go true r later = record { sorted = e; loose = is_within (reach (ahead m x)) n r; tight = f }
    go false r later = later r
lower_joins n k h c t (over (items ts) fs) s e f = absurd (no_way (subst (λ σ. juxtaposes σ ≡ true) e s.1.0))

joins_there : (m : Mark) (x : Token) (p : Tree × Frames) → has_level arithmetic (level_of m) ≡ true → Joins (level_of m) (left_of m) p → join m x p ≡ None → ⊥
joins_there m x p a j e =
    let y = want (over (left p.0 m x) p.1) in
    let is : join m x p ≡ Some y =
    ap (λ b. if b && nat_le (least p.1) (level_of m) then (if nat_le (left_of m) (level p.0) then Some y else None) else separate m x p) (ap (λ σ. has_level σ (level_of m)) j.sorted ∙ a)
    ∙ ap (λ b. if b then (if nat_le (left_of m) (level p.0) then Some y else None) else separate m x p) (within_is (least p.1) (level_of m) j.loose)
    ∙ ap (λ b. if b then Some y else None) (within_is (left_of m) (level p.0) j.tight) in
    let no : Some y ≡ None = sym is ∙ e in
    absurd (cc)

plus_leads : (g : Lead) → ArithmeticLead g → nat_le (reach g) 15 ≡ false → 15 ≤ lead_level g
plus_leads (left l m x) a e = is_within 15 (level_of m) a
plus_leads (ahead m x) a e = is_within 15 (prefix_level m) a
plus_leads (items ts) a e = absurd a

right_within : (m : Mark) → has_level arithmetic (level_of m) ≡ true → nat_le (right_of m) 18 ≡ true
right_within mark.Plus e = refl
right_within mark.Minus e = refl
right_within mark.Star e = refl
right_within mark.Slash e = refl
right_within mark.Backslash e = refl
right_within mark.Caret e = refl
right_within m e = absurd (no_way e)

caret_leads : (g : Lead) → ArithmeticLead g → nat_le (reach g) 18 ≡ false → 19 ≤ lead_level g
caret_leads (left l m x) a e = let no : true ≡ false = sym (right_within m a) ∙ e in absurd (cc)
caret_leads (ahead m x) a e = let no : true ≡ false = sym (within_is (prefix_right m) 18 (omega (arith, ahead_low m))) ∙ e in absurd (cc)
caret_leads (items ts) a e = absurd a

-- ---- a `*` in the place of a sign that is refused

first_none : (o q : Option State) → first_of_two o q ≡ None → o ≡ None
first_none None q e = refl
first_none (Some st) q e = absurd (cc)

-- the sign goes on with each part of an expression or of arithmetic, and with iterations
pub record Marks (m : Mark) (x : Token) : Type 0 where
  pub expressions : (b : Bool) (t : Tree) (fs : Frames) → behind_in (expression b) m x t fs ≡ None → ⊥
  pub arithmetics : (t : Tree) (fs : Frames) → Placed t fs → 20 ≤ level t → sort fs ≡ arithmetic → behind_in arithmetic m x t fs ≡ None → ⊥
  pub iterations : (r : Rule) (t : Tree) (ps : Premises) (d : Terminal) (os ls : List Terminal) (u : Tree) (i : Iterations) → has_closed i ≡ true → iterate r t ps d os ls u i (sign m x) ≡ None → ⊥

if_some : (b : Bool) (s : State) (o : Option State) → b ≡ true → (if b then Some s else o) ≡ None → ⊥
if_some true s o e f = absurd (cc)
if_some false s o e f = absurd (no_way e)

pub plus_marks : (x : Token) → Marks mark.Plus x
plus_marks x = record {
  expressions = λ b t fs e. absurd (cc);
  arithmetics = λ t fs p h e f. joins_there mark.Plus x (lower 15 t fs) refl (lower_joins 15 15 (omega arith) plus_leads t fs p.frames e (omega (arith, h))) f;
  iterations = λ r t ps d os ls u i e f. if_some (has_closed i) (at (iterated r t ps d os ls u (marked i (sign mark.Plus x)))) _ e f;
}

pub caret_marks : (x : Token) → Marks mark.Caret x
caret_marks x = record {
  expressions = λ b t fs e. absurd (cc);
  arithmetics = λ t fs p h e f. joins_there mark.Caret x (lower 18 t fs) refl (lower_joins 18 19 (omega arith) caret_leads t fs p.frames e (omega (arith, h))) f;
  iterations = λ r t ps d os ls u i e f. if_some (has_closed i) (begun (count_slot r t ps d os ls u i (sign mark.Caret x))) _ e f;
}

star_none : (σ : Sort) (x : Token) (t : Tree) (fs : Frames) → sort fs ≡ σ → may_post σ t (sign mark.Star x) ≡ false → has_level σ 16 ≡ false → behind_in σ mark.Star x t fs ≡ None
star_none σ x t fs e f g =
    unjoined σ mark.Star x t fs f (and_none (is_expression σ))
    (join_none mark.Star x (lower (pull σ mark.Star) t fs) (ap (λ τ. has_level τ 16) (lower_sort (pull σ mark.Star) t fs ∙ e) ∙ g) refl refl)

module _ (m : Mark) (x : Token) (marks : (r : Rule) (t : Tree) (ps : Premises) (d : Terminal) (os ls : List Terminal) (u : Tree) (i : Iterations) → has_closed i ≡ true → iterate r t ps d os ls u i (sign m x) ≡ None → ⊥) where
  star_position : (p : Position) → position_step p (sign m x) ≡ None → position_step p (sign mark.Star x) ≡ None
  star_position (between ds) g = refl
  star_position (syntax_name ds w) g = refl
  star_position (var_name ds w) g = refl
  star_position (var_colon ds w y) g = refl
  star_position (relation_name ds w) g = refl
  star_position (rule_name ds w) g = refl
  star_position (rule_colon ds w r) g = refl
  star_position (fun_name ds w) g = refl
  star_position (fun_named ds w f) g = refl
  star_position (argued ds w f o ts) g = refl
  star_position (args_closed ds w f o ts c) g = refl
  star_position (hint_open h hs w) g = refl
  star_position (hint_name h hs w o) g = refl
  star_position (dotted h d) g = refl
  star_position (hinted (of_syntax ds w y []) no_hints) g = refl
  star_position (hinted (of_syntax ds w y []) (more_hints hs j)) g = refl
  star_position (hinted (of_syntax ds w y (p ∷ ls)) hs) g = refl
  star_position (hinted (of_field h o ms pre t) hs) g = refl
  star_position (hinted (of_case h ms pre t) hs) g = refl
  star_position (hinted (of_var ds w y c t) hs) g = refl
  star_position (hinted (of_relation ds w r) hs) g = refl
  star_position (hinted (of_notation ds w r hs c t) ks) g = refl
  star_position (hinted (of_fun ds w f a c t) hs) g = refl
  star_position (syntax_id ds w y [] true) g = go x.touching
    where
      go : (b : Bool) → first_of_two (id_goes (if b && false then Some false else None) true (λ e. at (syntax_id ds w y (sign mark.Star x ∷ []) e)) None) None ≡ None
      go true = refl
      go false = refl
  star_position (syntax_id ds w y (l ∷ ls) true) g = go x.touching
    where
      go : (b : Bool) → first_of_two (id_goes (if b && false then Some false else None) true (λ e. at (syntax_id ds w y ((l ∷ ls) ++ sign mark.Star x ∷ []) e)) None) None ≡ None
      go true = refl
      go false = refl
  star_position (syntax_id ds w y [] false) g = go x.touching
    where
      go : (b : Bool) → first_of_two (id_goes (if b && false then Some true else if b && false then Some false else None) false (λ e. at (syntax_id ds w y (sign mark.Star x ∷ []) e)) None) None ≡ None
      go true = refl
      go false = refl
  star_position (syntax_id ds w y (l ∷ ls) false) g = go x.touching
    where
      go : (b : Bool) → first_of_two (id_goes (if b && false then Some true else if b && false then Some false else None) false (λ e. at (syntax_id ds w y ((l ∷ ls) ++ sign mark.Star x ∷ []) e)) None) None ≡ None
      go true = refl
      go false = refl
  star_position (rule_id ds w r ls true) g = go x.touching
    where
      go : (b : Bool) → first_of_two (id_goes (if b && false then Some false else None) true (λ e. at (rule_id ds w r (ls ++ sign mark.Star x ∷ []) e)) None) None ≡ None
      go true = refl
      go false = refl
  star_position (rule_id ds w r ls false) g = go x.touching
    where
      go : (b : Bool) → first_of_two (id_goes (if b && false then Some true else if b && false then Some false else None) false (λ e. at (rule_id ds w r (ls ++ sign mark.Star x ∷ []) e)) None) None ≡ None
      go true = refl
      go false = refl
  star_position (hint_words h hs w o n ws []) g = absurd (cc)
  star_position (hint_words h hs w o n ws (k ∷ ks)) g = absurd (cc)
  star_position (entering (field_slot h o ms pre)) g = refl
  star_position (entering (case_slot h no_members [])) g = refl
  star_position (entering (case_slot h no_members (b ∷ ls))) g = refl
  star_position (entering (case_slot h (member ms q t hs) [])) g = refl
  star_position (entering (case_slot h (member ms q t hs) (b ∷ []))) g = refl
  star_position (entering (case_slot h (member ms q t hs) (b ∷ c ∷ ls))) g = refl
  star_position (entering (var_slot ds w y c)) g = refl
  star_position (entering (notation_slot ds w r hs c)) g = refl
  star_position (entering (fun_slot ds w f a c)) g = refl
  star_position (entering (arg_slot ds w f o none [])) g = refl
  star_position (entering (arg_slot ds w f o none (p ∷ pre))) g = refl
  star_position (entering (arg_slot ds w f o (more ts q t) pre)) g = refl
  star_position (entering (rule_slot r)) g = refl
  star_position (entering (cond_slot r t ps d os ls)) g = refl
  star_position (entering (count_slot r t ps d os ls u i k)) g = refl
  star_position (field_name h o no_members pre) g = refl
  star_position (field_name h o (member ms q t hs) pre) g = refl
  star_position (premised r t ps) g = refl
  star_position (premise_open r t ps d os) g = refl
  star_position (goal_colon r t ps d os n) g = refl
  star_position (iterated r t ps d os ls u i) g = go (has_closed i) refl
    where
      wholes : (b : Bool) → first_of_two (if b then next_premise (keyword (sign mark.Star x)) r t (more_premises ps (given d os ls u i)) (sign mark.Star x) else None)
          (option_and_then (λ ds. begin_def ds (sign mark.Star x) (keyword (sign mark.Star x))) (if b then Some (rule_whole r t (more_premises ps (given d os ls u i))) else None)) ≡ None
      wholes true = refl
      wholes false = refl

      go : (b : Bool) → has_closed i ≡ b → position_step (iterated r t ps d os ls u i) (sign mark.Star x) ≡ None
      go true e = absurd (marks r t ps d os ls u i e (first_none (iterate r t ps d os ls u i (sign m x)) _ g))
      go false e =
          ap (λ b. first_of_two (if b then Some (at (iterated r t ps d os ls u (marked i (sign mark.Star x)))) else if is_whole os i then next_premise (keyword (sign mark.Star x)) r t (more_premises ps (given d os ls u i)) (sign mark.Star x) else None)
          (option_and_then (λ ds. begin_def ds (sign mark.Star x) (keyword (sign mark.Star x))) (whole (iterated r t ps d os ls u i)))) e
          ∙ wholes (is_whole os i)

-- the token is not taken by the part, nor behind it
not_taken : (s : Slot) (st : reading_of.State) (l : Terminal) (o : Option reading_of.State) → taken s st l o ≡ None → o ≡ None
not_taken s st l None e = refl
not_taken s st l (Some next) e = absurd (cc)

-- a `*` is refused where it is no iteration of a type
star_refused : (m : Mark) (x : Token) → Marks m x → (s : Slot) (t : Tree) (fs : Frames) (σ : Sort) → sort fs ≡ σ → Placed t fs → 20 ≤ level t → behind_sign m x t fs ≡ None → (is_type_in σ t ≡ true) ⊎ (behind_sign mark.Star x t fs ≡ None)
star_refused m x k s t fs (expression b) e p h n = absurd (k.expressions b t fs (ap (λ σ. behind_in σ m x t fs) (sym e) ∙ n))
star_refused m x k s t fs arithmetic e p h n = absurd (k.arithmetics t fs p h e (ap (λ σ. behind_in σ m x t fs) (sym e) ∙ n))
star_refused m x k s t fs typ e p h n = inl refl
star_refused m x k s t fs notation e p h n = go (is_type t) refl
  where
    go : (b : Bool) → is_type t ≡ b → (is_type t ≡ true) ⊎ (behind_sign mark.Star x t fs ≡ None)
    go true f = inl f
    go false f = inr (ap (λ σ. behind_in σ mark.Star x t fs) e ∙ star_none notation x t fs e f refl)
star_refused m x k s t fs count e p h n = inr (ap (λ σ. behind_in σ mark.Star x t fs) e ∙ star_none count x t fs e refl refl)
star_refused m x k s t fs bound e p h n = inr (ap (λ σ. behind_in σ mark.Star x t fs) e ∙ star_none bound x t fs e refl refl)

behind_none : (m : Mark) (x : Token) → Marks m x → (s : Slot) (st : reading_of.State) → reading_of.step st (sign mark.Star x) ≡ None → taken s st (sign m x) (reading_of.step st (sign m x)) ≡ None → taken s st (sign mark.Star x) (reading_of.step st (sign mark.Star x)) ≡ None
behind_none m x k s st e n =
    ap (taken s st (sign mark.Star x)) e
    ∙ go (reading_of.finish st) (ap (taken s st (sign m x)) (sym (not_taken s st (sign m x) (reading_of.step st (sign m x)) n)) ∙ n)
  where
    go : (o : Option Tree) → option_and_then (λ t. position_step (filled s t) (sign m x)) o ≡ None → option_and_then (λ t. position_step (filled s t) (sign mark.Star x)) o ≡ None
    go None f = refl
    go (Some t) f = star_position m x k.iterations (filled s t) f

no_part_none : (m : Mark) (x : Token) → Marks m x → (s : Slot) (st : reading_of.State) (next : State) → NoPart st → taken s st (sign m x) (reading_of.step st (sign m x)) ≡ None → taken s st (sign mark.Star x) (reading_of.step st (sign mark.Star x)) ≡ Some next → ⊥
no_part_none m x k s st next q n e =
    let no : Some next ≡ None = sym e ∙ behind_none m x k s st (quiet_part mark.Star x st refl refl refl q) n in
    absurd (cc)

got_typ : (m : Mark) (x : Token) → Marks m x → (s : Slot) (t : Tree) (fs : Frames) (next : State) → Placed t fs → 20 ≤ level t → taken s (got t fs) (sign m x) (behind_sign m x t fs) ≡ None → taken s (got t fs) (sign mark.Star x) (behind_sign mark.Star x t fs) ≡ Some next
    → is_typ (type_or_other (is_type_in (sort fs) t)) ≡ true
got_typ m x k s t fs next p h n e = go (star_refused m x k s t fs (sort fs) refl p h (not_taken s (got t fs) (sign m x) (behind_sign m x t fs) n))
  where
    go : (is_type_in (sort fs) t ≡ true) ⊎ (behind_sign mark.Star x t fs ≡ None) → is_typ (type_or_other (is_type_in (sort fs) t)) ≡ true
    go (inl f) = ap (λ b. is_typ (type_or_other b)) f
    go (inr f) = let no : Some next ≡ None = sym e ∙ behind_none m x k s (got t fs) f n in absurd (cc)

typ_step : (m : Mark) (x : Token) → Marks m x → (st next : State) → Holds st → step st (sign m x) ≡ None → step st (sign mark.Star x) ≡ Some next → is_typ (before_next st) ≡ true
typ_step m x k (at p) next h n e = let no : Some next ≡ None = sym e ∙ star_position m x k.iterations p n in absurd (cc)
typ_step m x k (inside s (got t fs)) next h n e = got_typ m x k s t fs next h.1.0 h.1.1 n e
typ_step m x k (inside s (want fs)) next h n e = absurd (no_part_none m x k s (want fs) next tt n e)
typ_step m x k (inside s (naming j ts pre fs)) next h n e = absurd (no_part_none m x k s (naming j ts pre fs) next tt n e)
typ_step m x k (inside s (pathed p fs)) next h n e = absurd (no_part_none m x k s (pathed p fs) next tt n e)
typ_step m x k (inside s (indexing o fs)) next h n e = absurd (no_part_none m x k s (indexing o fs) next tt n e)
typ_step m x k (inside s (comparing o i fs)) next h n e = absurd (no_part_none m x k s (comparing o i fs) next tt n e)

pub typ_back : (names : List (List ℕ)) (m : Mark) (x : Token) → Marks m x → (us : List Terminal) (st : State) → reading start us ≡ Some st → Holds st → step st (sign m x) ≡ None → StarMayFollow names us x → is_typ (before_next st) ≡ true
typ_back names m x k us st e h n v = go (step st (sign mark.Star x)) refl
  where
    go : (o : Option State) → step st (sign mark.Star x) ≡ o → is_typ (before_next st) ≡ true
    go None f = absurd (dead_defs names (us ++ sign mark.Star x ∷ []) (last_step us (sign mark.Star x) st e ∙ f) v)
    go (Some next) f = typ_step m x k st next h n f
