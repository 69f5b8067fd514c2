-- Where the tokens end with `--`, or with `syntax` and a name, the reading has what stands there.
use Rattle.std.proofs.Common.{◌≡◌, ◌⊎◌, inl, inr, List, [], ◌∷◌, ◌++◌, Bool, true, false, ◌&&◌, Option, Some, None, option_and_then, if◌then◌else◌, refl, sym, ap, subst, ◌∙◌, append_assoc}
use Rattle.st_num.specs.declared.mark.Mark.{Mark}
use Rattle.st_num.specs.declared.mark.Mark.TheVariants as mark
use Rattle.st_num.specs.declared.word.Word.{Word}
use Rattle.st_num.specs.declared.word.Word.TheVariants as word
use Rattle.st_num.specs.declared.span.Span.{Span}
use Rattle.st_num.specs.declared.token.Token.{Token}
use Rattle.st_num.specs.declared.token.TokenKind.{TokenKind}
use Rattle.st_num.specs.declared.token.TokenKind.TheVariants as kind
use Rattle.st_grammar.specs.declared.keyword.Keyword.TheVariants as key
use Rattle.st_grammar.specs.declared.sort.Bracket.TheVariants as bracket_of
use Rattle.st_grammar.specs.declared.sort.Leaf.TheVariants as leaves
use Rattle.st_grammar.specs.declared.sort.Style.TheVariants.{Ends as ends}
use Rattle.st_grammar.specs.declared.sort.Sort.{Sort}
use Rattle.st_grammar.specs.declared.sort.Sort.TheVariants.{Expression as expression, Arithmetic as arithmetic, Notation as notation, Typ as typ, Count as count, Bound as bound}
use Rattle.st_grammar.specs.Terminals.{Terminal, leaf, dot, sign, opening, closing, other}
use Rattle.st_grammar.specs.Levels.{is_expression}
use Rattle.st_grammar.specs.Trees.{Tree, none, more, head, field, part}
use Rattle.st_grammar.specs.Grammar.{may_post}
use Rattle.st_grammar.specs.Definitions.{keyword, mark_keyword, kind_keyword, is_low, no_hints, more_hints, no_members, member, given, more_premises}
use Rattle.st_grammar.specs.Reading as reading_of
use Rattle.st_grammar.specs.Reading.{want, got, naming, pathed, indexing, comparing, sort, lower, pull}
use Rattle.st_grammar.specs.Positions.{of_syntax, of_field, of_case, of_var, of_relation, of_notation, of_fun, field_slot, case_slot, var_slot, notation_slot, fun_slot, arg_slot, rule_slot, cond_slot, count_slot, Position, between, syntax_name, var_name, var_colon, relation_name, rule_name, rule_colon, fun_name, fun_named, argued, args_closed, syntax_id, rule_id, hinted, hint_open, hint_name, hint_words, entering, dotted, field_name, premised, premise_open, goal_colon, iterated, State, at, inside, is_whole, rule_whole, begin_def, id_goes, first_of_two, position_step, filled, taken, step, reading, start}
use Rattle.st_grammar.proofs.PositionComplete.{reading_append}
use Rattle.st_parse_faults.specs.inner.LeftOut.{before_next, is_syntax_name, is_dashes}
use Rattle.st_parse_faults.specs.FormsLeftOut.{EndWithSyntax, EndWithDashes}
use Rattle.st_parse_faults.proofs.PositionNumberFacts.{no_way}
use Rattle.st_parse_faults.proofs.UntakenSigns.{no_level, quiet_part, join_none, unjoined, and_none}

-- ---- in hints

-- the words of a hint are read
abbrev pub InWords : State → Type 0
InWords (at (hint_words h hs w o n ws ks)) = Unit {0}
InWords st = ⊥

-- there every word and every bracket that opens is read
words_take : (st : State) (x : Token) → InWords st → step st (other x) ≡ None → ⊥
words_take (at (hint_words h hs w o n ws [])) x i e = absurd (cc)
words_take (at (hint_words h hs w o n ws (k ∷ ks))) x i e = absurd (cc)
words_take st x i e = absurd i

words_open : (st : State) (x : Token) → InWords st → step st (opening bracket_of.Round x) ≡ None → ⊥
words_open (at (hint_words h hs w o n ws ks)) x i e = absurd (cc)
words_open st x i e = absurd i

-- ---- the token before

-- the state behind the last of these tokens
last_of : (vs : List Terminal) (d : Terminal) (st : State) → reading start (vs ++ d ∷ []) ≡ Some st → (front : State) × (reading start vs ≡ Some front) × (step front d ≡ Some st)
last_of vs d st e = go (reading start vs) refl (sym (reading_append start vs (d ∷ [])) ∙ e)
  where
    ends : (o : Option State) → option_and_then (λ next. reading next []) o ≡ Some st → o ≡ Some st
    ends None f = absurd (cc)
    ends (Some next) f = f

    go : (o : Option State) → reading start vs ≡ o → option_and_then (λ next. reading next (d ∷ [])) o ≡ Some st → (front : State) × (reading start vs ≡ Some front) × (step front d ≡ Some st)
    go None f g = absurd (cc)
    go (Some front) f g = (front, f, ends (step front d) g)

-- ---- `--`

dash_posts : (σ : Sort) (t : Tree) (y : Token) → may_post σ t (sign mark.DashDash y) ≡ false
dash_posts (expression b) t y = refl
dash_posts arithmetic t y = refl
dash_posts notation t y = refl
dash_posts typ t y = refl
dash_posts count t y = refl
dash_posts bound t y = refl

part_dash : (y : Token) (st : reading_of.State) → reading_of.step st (sign mark.DashDash y) ≡ None
part_dash y (want fs) = quiet_part mark.DashDash y (want fs) refl refl refl tt
part_dash y (naming h ts pre fs) = refl
part_dash y (pathed p fs) = quiet_part mark.DashDash y (pathed p fs) refl refl refl tt
part_dash y (indexing o fs) = refl
part_dash y (comparing o i fs) = refl
part_dash y (got t fs) =
    unjoined (sort fs) mark.DashDash y t fs (dash_posts (sort fs) t y) (and_none (is_expression (sort fs)))
    (join_none mark.DashDash y (lower (pull (sort fs) mark.DashDash) t fs) (no_level (sort (lower (pull (sort fs) mark.DashDash) t fs).1)) refl refl)

-- behind `--` a premise has begun, or the words of a hint are read
abbrev pub DashTo : Option State → Type 0
DashTo None = Unit {0}
DashTo (Some st) = (is_dashes (before_next st) ≡ true) ⊎ InWords st

pub dash_position : (y : Token) (p : Position) → DashTo (position_step p (sign mark.DashDash y))
dash_position y (between ds) = tt
dash_position y (syntax_name ds w) = tt
dash_position y (var_name ds w) = tt
dash_position y (var_colon ds w x) = tt
dash_position y (relation_name ds w) = tt
dash_position y (rule_name ds w) = tt
dash_position y (rule_colon ds w r) = tt
dash_position y (fun_name ds w) = tt
dash_position y (fun_named ds w f) = tt
dash_position y (argued ds w f o ts) = tt
dash_position y (args_closed ds w f o ts c) = tt
dash_position y (hint_open h hs w) = tt
dash_position y (hint_name h hs w o) = tt
dash_position y (dotted h d) = tt
dash_position y (hinted (of_syntax ds w x []) no_hints) = tt
dash_position y (hinted (of_syntax ds w x []) (more_hints hs j)) = tt
dash_position y (hinted (of_syntax ds w x (p ∷ ls)) hs) = tt
dash_position y (hinted (of_field h o ms pre t) hs) = tt
dash_position y (hinted (of_case h ms pre t) hs) = tt
dash_position y (hinted (of_var ds w x c t) hs) = tt
dash_position y (hinted (of_relation ds w r) hs) = tt
dash_position y (hinted (of_notation ds w r hs c t) ks) = tt
dash_position y (hinted (of_fun ds w f a c t) hs) = tt
dash_position y (syntax_id ds w x [] true) = go y.touching
  where
    go : (b : Bool) → DashTo (first_of_two (id_goes (if b && false then Some false else None) true (λ e. at (syntax_id ds w x (sign mark.DashDash y ∷ []) e)) None) None)
    go true = tt
    go false = tt
dash_position y (syntax_id ds w x (l ∷ ls) true) = go y.touching
  where
    go : (b : Bool) → DashTo (first_of_two (id_goes (if b && false then Some false else None) true (λ e. at (syntax_id ds w x ((l ∷ ls) ++ sign mark.DashDash y ∷ []) e)) None) None)
    go true = tt
    go false = tt
dash_position y (syntax_id ds w x [] false) = go y.touching
  where
    go : (b : Bool) → DashTo (first_of_two (id_goes (if b && false then Some true else if b && false then Some false else None) false (λ e. at (syntax_id ds w x (sign mark.DashDash y ∷ []) e)) None) None)
    go true = tt
    go false = tt
dash_position y (syntax_id ds w x (l ∷ ls) false) = go y.touching
  where
    go : (b : Bool) → DashTo (first_of_two (id_goes (if b && false then Some true else if b && false then Some false else None) false (λ e. at (syntax_id ds w x ((l ∷ ls) ++ sign mark.DashDash y ∷ []) e)) None) None)
    go true = tt
    go false = tt
dash_position y (rule_id ds w r ls true) = go y.touching
  where
    go : (b : Bool) → DashTo (first_of_two (id_goes (if b && false then Some false else None) true (λ e. at (rule_id ds w r (ls ++ sign mark.DashDash y ∷ []) e)) None) None)
    go true = tt
    go false = tt
dash_position y (rule_id ds w r ls false) = go y.touching
  where
    go : (b : Bool) → DashTo (first_of_two (id_goes (if b && false then Some true else if b && false then Some false else None) false (λ e. at (rule_id ds w r (ls ++ sign mark.DashDash y ∷ []) e)) None) None)
    go true = tt
    go false = tt
dash_position y (hint_words h hs w o n ws []) = inr tt
dash_position y (hint_words h hs w o n ws (k ∷ ks)) = inr tt
dash_position y (entering (field_slot h o ms pre)) = tt
dash_position y (entering (case_slot h no_members [])) = tt
dash_position y (entering (case_slot h no_members (b ∷ ls))) = tt
dash_position y (entering (case_slot h (member ms q t hs) [])) = tt
dash_position y (entering (case_slot h (member ms q t hs) (b ∷ []))) = tt
dash_position y (entering (case_slot h (member ms q t hs) (b ∷ c ∷ ls))) = tt
dash_position y (entering (var_slot ds w x c)) = tt
dash_position y (entering (notation_slot ds w r hs c)) = tt
dash_position y (entering (fun_slot ds w f a c)) = tt
dash_position y (entering (arg_slot ds w f o none [])) = tt
dash_position y (entering (arg_slot ds w f o none (p ∷ pre))) = tt
dash_position y (entering (arg_slot ds w f o (more ts q t) pre)) = tt
dash_position y (entering (rule_slot r)) = tt
dash_position y (entering (cond_slot r t ps d os ls)) = tt
dash_position y (entering (count_slot r t ps d os ls u i k)) = tt
dash_position y (field_name h o no_members pre) = tt
dash_position y (field_name h o (member ms q t hs) pre) = tt
dash_position y (premised r t ps) = inl refl
dash_position y (premise_open r t ps d os) = tt
dash_position y (goal_colon r t ps d os n) = tt
dash_position y (iterated r t ps d os ls u i) = go (is_whole os i)
  where
    go : (b : Bool) → DashTo (first_of_two (if b then Some (at (premise_open r t (more_premises ps (given d os ls u i)) (sign mark.DashDash y) [])) else None)
        (option_and_then (λ ds. begin_def ds (sign mark.DashDash y) key.Dashes) (if b then Some (rule_whole r t (more_premises ps (given d os ls u i))) else None)))
    go true = inl refl
    go false = tt

dash_steps : (y : Token) (st : State) → DashTo (step st (sign mark.DashDash y))
dash_steps y (at p) = dash_position y p
dash_steps y (inside s st) = subst (λ o. DashTo (taken s st (sign mark.DashDash y) o)) (sym (part_dash y st)) (go (reading_of.finish st))
  where
    go : (o : Option Tree) → DashTo (option_and_then (λ t. position_step (filled s t) (sign mark.DashDash y)) o)
    go None = tt
    go (Some t) = dash_position y (filled s t)

dash_mark : (m : Mark) (y : Token) → mark_keyword m ≡ key.Dashes → sign m y ≡ sign mark.DashDash y
dash_mark mark.DashDash y e = refl
dash_mark m y e = absurd (cc)

dash_word : (w : Word) → kind_keyword (kind.Reserved w) ≡ key.Dashes → ⊥
dash_word word.Syntax e = absurd (cc)
dash_word w e = absurd (cc)

dash_kind : (k : TokenKind) → kind_keyword k ≡ key.Dashes → ⊥
dash_kind (kind.Reserved w) e = dash_word w e
dash_kind k e = absurd (cc)

dash_is : (d : Terminal) → keyword d ≡ key.Dashes → (y : Token) × (d ≡ sign mark.DashDash y)
dash_is (sign m y) e = (y, dash_mark m y e)
dash_is (other y) e = absurd (dash_kind y.kind e)
dash_is (leaf k y) e = absurd (cc)
dash_is (dot y) e = absurd (cc)
dash_is (opening k y) e = absurd (cc)
dash_is (closing c y) e = absurd (cc)

pub dashes_back : (us : List Terminal) (st : State) (x : Token) → reading start us ≡ Some st → step st (other x) ≡ None → EndWithDashes us → is_dashes (before_next st) ≡ true
dashes_back us st x e n (vs, d, f, k) =
    let r = last_of vs d st (ap (reading start) (sym f) ∙ e) in
    let y = dash_is d k in
    go (subst DashTo (ap (step r.0) (sym y.1) ∙ r.2) (dash_steps y.0 r.0))
  where
    go : DashTo (Some st) → is_dashes (before_next st) ≡ true
    go (inl a) = a
    go (inr i) = absurd (words_take st x i n)

-- ---- `syntax` and a name

-- the word `syntax`, which stands there and touches or not
abbrev pub the_word : Span → Bool → Token
the_word a c = record { at = a; touching = c; kind = kind.Reserved word.Syntax }

-- behind the word a syntax has begun, a name goes on, or the words of a hint are read
abbrev pub AfterSyntax : State → Type 0
AfterSyntax (at (syntax_name ds w)) = Unit {0}
AfterSyntax (at (hint_words h hs w o n ws ks)) = Unit {0}
AfterSyntax (at (syntax_id ds w x ls d)) = d ≡ false
AfterSyntax (at (rule_id ds w r ls d)) = d ≡ false
AfterSyntax st = ⊥

abbrev pub SyntaxTo : Option State → Type 0
SyntaxTo None = Unit {0}
SyntaxTo (Some st) = AfterSyntax st

pub syntax_position : (a : Span) (c : Bool) (p : Position) → SyntaxTo (position_step p (other (the_word a c)))
syntax_position a c (between ds) = tt
syntax_position a c (syntax_name ds w) = tt
syntax_position a c (var_name ds w) = tt
syntax_position a c (var_colon ds w x) = tt
syntax_position a c (relation_name ds w) = tt
syntax_position a c (rule_name ds w) = tt
syntax_position a c (rule_colon ds w r) = tt
syntax_position a c (fun_name ds w) = tt
syntax_position a c (fun_named ds w f) = tt
syntax_position a c (argued ds w f o ts) = tt
syntax_position a c (args_closed ds w f o ts z) = tt
syntax_position a c (hint_open h hs w) = tt
syntax_position a c (hint_name h hs w o) = tt
syntax_position a c (dotted h d) = tt
syntax_position a c (hinted (of_syntax ds w x []) no_hints) = tt
syntax_position a c (hinted (of_syntax ds w x []) (more_hints hs j)) = tt
syntax_position a c (hinted (of_syntax ds w x (p ∷ ls)) hs) = tt
syntax_position a c (hinted (of_field h o ms pre t) hs) = tt
syntax_position a c (hinted (of_case h ms pre t) hs) = tt
syntax_position a c (hinted (of_var ds w x z t) hs) = tt
syntax_position a c (hinted (of_relation ds w r) hs) = tt
syntax_position a c (hinted (of_notation ds w r hs z t) ks) = tt
syntax_position a c (hinted (of_fun ds w f v z t) hs) = tt
syntax_position a c (syntax_id ds w x [] true) = go c
  where
    go : (b : Bool) → SyntaxTo (first_of_two (id_goes (if b && true then Some false else None) true (λ e. at (syntax_id ds w x (other (the_word a c) ∷ []) e)) None) None)
    go true = refl
    go false = tt
syntax_position a c (syntax_id ds w x (l ∷ ls) true) = go c
  where
    go : (b : Bool) → SyntaxTo (first_of_two (id_goes (if b && true then Some false else None) true (λ e. at (syntax_id ds w x ((l ∷ ls) ++ other (the_word a c) ∷ []) e)) None) None)
    go true = refl
    go false = tt
syntax_position a c (syntax_id ds w x [] false) = go c
  where
    go : (b : Bool) → SyntaxTo (first_of_two (id_goes (if b && false then Some true else if b && false then Some false else None) false (λ e. at (syntax_id ds w x (other (the_word a c) ∷ []) e)) None) None)
    go true = tt
    go false = tt
syntax_position a c (syntax_id ds w x (l ∷ ls) false) = go c
  where
    go : (b : Bool) → SyntaxTo (first_of_two (id_goes (if b && false then Some true else if b && false then Some false else None) false (λ e. at (syntax_id ds w x ((l ∷ ls) ++ other (the_word a c) ∷ []) e)) None) None)
    go true = tt
    go false = tt
syntax_position a c (rule_id ds w r ls true) = go c
  where
    go : (b : Bool) → SyntaxTo (first_of_two (id_goes (if b && true then Some false else None) true (λ e. at (rule_id ds w r (ls ++ other (the_word a c) ∷ []) e)) None) None)
    go true = refl
    go false = tt
syntax_position a c (rule_id ds w r ls false) = go c
  where
    go : (b : Bool) → SyntaxTo (first_of_two (id_goes (if b && false then Some true else if b && false then Some false else None) false (λ e. at (rule_id ds w r (ls ++ other (the_word a c) ∷ []) e)) None) None)
    go true = tt
    go false = tt
syntax_position a c (hint_words h hs w o n ws []) = tt
syntax_position a c (hint_words h hs w o n ws (k ∷ ks)) = tt
syntax_position a c (entering (field_slot h o ms pre)) = tt
syntax_position a c (entering (case_slot h no_members [])) = tt
syntax_position a c (entering (case_slot h no_members (b ∷ ls))) = tt
syntax_position a c (entering (case_slot h (member ms q t hs) [])) = tt
syntax_position a c (entering (case_slot h (member ms q t hs) (b ∷ []))) = tt
syntax_position a c (entering (case_slot h (member ms q t hs) (b ∷ k ∷ ls))) = tt
syntax_position a c (entering (var_slot ds w x z)) = tt
syntax_position a c (entering (notation_slot ds w r hs z)) = tt
syntax_position a c (entering (fun_slot ds w f v z)) = tt
syntax_position a c (entering (arg_slot ds w f o none [])) = tt
syntax_position a c (entering (arg_slot ds w f o none (p ∷ pre))) = tt
syntax_position a c (entering (arg_slot ds w f o (more ts q t) pre)) = tt
syntax_position a c (entering (rule_slot r)) = tt
syntax_position a c (entering (cond_slot r t ps d os ls)) = tt
syntax_position a c (entering (count_slot r t ps d os ls u i k)) = tt
syntax_position a c (field_name h o no_members pre) = tt
syntax_position a c (field_name h o (member ms q t hs) pre) = tt
syntax_position a c (premised r t ps) = tt
syntax_position a c (premise_open r t ps d os) = tt
syntax_position a c (goal_colon r t ps d os n) = tt
syntax_position a c (iterated r t ps d os ls u i) = go (is_whole os i)
  where
    go : (b : Bool) → SyntaxTo (first_of_two (if b then None else None) (option_and_then (λ ds. begin_def ds (other (the_word a c)) key.SyntaxWord) (if b then Some (rule_whole r t (more_premises ps (given d os ls u i))) else None)))
    go true = tt
    go false = tt

part_other : (y : Token) (st : reading_of.State) → reading_of.step st (other y) ≡ None
part_other y (want fs) = refl
part_other y (got t fs) = refl
part_other y (naming h ts pre fs) = refl
part_other y (pathed (head t o) fs) = refl
part_other y (pathed (field p x) fs) = refl
part_other y (pathed (part p o ts c) fs) = refl
part_other y (indexing o fs) = refl
part_other y (comparing o i fs) = refl

syntax_steps : (a : Span) (c : Bool) (st : State) → SyntaxTo (step st (other (the_word a c)))
syntax_steps a c (at p) = syntax_position a c p
syntax_steps a c (inside s st) = subst (λ o. SyntaxTo (taken s st (other (the_word a c)) o)) (sym (part_other (the_word a c) st)) (go (reading_of.finish st))
  where
    go : (o : Option Tree) → SyntaxTo (option_and_then (λ t. position_step (filled s t) (other (the_word a c))) o)
    go None = tt
    go (Some t) = syntax_position a c (filled s t)

-- behind the name of a syntax, or in the words of a hint
abbrev pub LowTo : Option State → Type 0
LowTo None = Unit {0}
LowTo (Some st) = (is_syntax_name (before_next st) ≡ true) ⊎ InWords st

low_steps : (z : Token) (st : State) → AfterSyntax st → LowTo (step st (leaf leaves.Low z))
low_steps z (at (syntax_name ds w)) i = inl refl
low_steps z (at (hint_words h hs w o n ws [])) i = inr tt
low_steps z (at (hint_words h hs w o n ws (k ∷ ks))) i = inr tt
low_steps z (at (syntax_id ds w x ls true)) i = let no : true ≡ false = i in absurd (cc)
low_steps z (at (syntax_id ds w x [] false)) i = go z.touching
  where
    go : (b : Bool) → LowTo (first_of_two (id_goes (if b && false then Some true else if b && false then Some false else None) false (λ e. at (syntax_id ds w x (leaf leaves.Low z ∷ []) e)) None) None)
    go true = tt
    go false = tt
low_steps z (at (syntax_id ds w x (l ∷ ls) false)) i = go z.touching
  where
    go : (b : Bool) → LowTo (first_of_two (id_goes (if b && false then Some true else if b && false then Some false else None) false (λ e. at (syntax_id ds w x ((l ∷ ls) ++ leaf leaves.Low z ∷ []) e)) None) None)
    go true = tt
    go false = tt
low_steps z (at (rule_id ds w r ls true)) i = let no : true ≡ false = i in absurd (cc)
low_steps z (at (rule_id ds w r ls false)) i = go z.touching
  where
    go : (b : Bool) → LowTo (first_of_two (id_goes (if b && false then Some true else if b && false then Some false else None) false (λ e. at (rule_id ds w r (ls ++ leaf leaves.Low z ∷ []) e)) None) None)
    go true = tt
    go false = tt
low_steps z st i = absurd i

syntax_word_is : (w : Word) → kind_keyword (kind.Reserved w) ≡ key.SyntaxWord → w ≡ word.Syntax
syntax_word_is word.Syntax e = refl
syntax_word_is w e = absurd (cc)

syntax_kind : (k : TokenKind) → kind_keyword k ≡ key.SyntaxWord → k ≡ kind.Reserved word.Syntax
syntax_kind (kind.Reserved w) e = ap kind.Reserved (syntax_word_is w e)
syntax_kind k e = absurd (cc)

no_syntax_mark : (m : Mark) → mark_keyword m ≡ key.SyntaxWord → ⊥
no_syntax_mark mark.DashDash e = absurd (cc)
no_syntax_mark m e = absurd (cc)

syntax_is : (w : Terminal) → keyword w ≡ key.SyntaxWord → (a : Span) × (c : Bool) × (w ≡ other (the_word a c))
syntax_is (other y) e = (y.at, y.touching, ap (λ k. other (record { at = y.at; touching = y.touching; kind = k })) (syntax_kind y.kind e))
syntax_is (sign m y) e = absurd (no_syntax_mark m e)
syntax_is (leaf k y) e = absurd (cc)
syntax_is (dot y) e = absurd (cc)
syntax_is (opening k y) e = absurd (cc)
syntax_is (closing c y) e = absurd (cc)

low_is : (x : Terminal) → is_low x ≡ true → (z : Token) × (x ≡ leaf leaves.Low z)
low_is (leaf leaves.Low z) e = (z, refl)
low_is (leaf k z) e = absurd (no_way e)
low_is (dot z) e = absurd (no_way e)
low_is (sign m z) e = absurd (no_way e)
low_is (opening k z) e = absurd (no_way e)
low_is (closing c z) e = absurd (no_way e)
low_is (other z) e = absurd (no_way e)

pub syntax_back : (us : List Terminal) (st : State) (x : Token) → reading start us ≡ Some st → step st (opening bracket_of.Round x) ≡ None → EndWithSyntax us → is_syntax_name (before_next st) ≡ true
syntax_back us st x e n (vs, w, y, f, k, j) =
    let r = last_of (vs ++ w ∷ []) y st (ap (reading start) (append_assoc vs (w ∷ []) (y ∷ []) ∙ sym f) ∙ e) in
    let q = last_of vs w r.0 r.1 in
    let a = syntax_is w k in
    let z = low_is y j in
    let i : AfterSyntax r.0 = subst SyntaxTo (ap (step q.0) (sym a.2) ∙ q.2) (syntax_steps a.0 a.1 q.0) in
    go (subst LowTo (ap (step r.0) (sym z.1) ∙ r.2) (low_steps z.0 r.0 i))
  where
    go : LowTo (Some st) → is_syntax_name (before_next st) ≡ true
    go (inl b) = b
    go (inr i) = absurd (words_open st x i n)
