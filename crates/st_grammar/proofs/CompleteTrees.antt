-- Each tree that the grammar allows is read as itself: the induction on trees.
use Rattle.std.proofs.Common.{◌≡◌, ℕ, ◌≤◌, List, [], ◌∷◌, ◌++◌, Bool, true, false, not, ◌&&◌, Some, None, nat_le, if◌then◌else◌, refl, sym, ap, subst, ◌∙◌, append_assoc, append-nil, arith}
use Rattle.st_num.specs.declared.mark.Mark.{Mark}
use Rattle.st_num.specs.declared.token.Token.{Token}
use Rattle.st_grammar.specs.declared.sort.Style.{Style}
use Rattle.st_grammar.specs.declared.sort.Style.TheVariants.{Lone as lone, Parts as parts, Fields as fields, Ends as ends, Run as run}
use Rattle.st_grammar.specs.declared.sort.Leaf.TheVariants.{Low as low, Function as function}
use Rattle.st_grammar.specs.declared.sort.Bracket.{Bracket}
use Rattle.st_grammar.specs.declared.sort.Bracket.TheVariants.{Round as round, Square as square, Brace as brace, TickRound as tick_round, TickSquare as tick_square, TickBrace as tick_brace, Dollar as dollar}
use Rattle.st_grammar.specs.declared.sort.Closing.TheVariants.{BySquare as by_square, ByBar as by_bar}
use Rattle.st_grammar.specs.declared.sort.Sort.{Sort}
use Rattle.st_grammar.specs.declared.sort.Sort.TheVariants.{Expression as expression, Arithmetic as arithmetic, Notation as notation, Typ as typ, Count as count, Bound as bound}
use Rattle.st_grammar.specs.Terminals.{Terminal, leaf, dot, sign, opening, closing, other}
use Rattle.st_num.specs.Signs.{level as level_of}
use Rattle.st_grammar.specs.Levels.{takes, encloses, computes, is_expression, is_count, juxtaposes, tight, has_level, left_of, is_comma, is_colon, is_less, is_change}
use Rattle.st_grammar.specs.Trees.{Tree, operand, post, times, bracket, led, Lead, left, ahead, items, Trees, none, more, Heading, plain, length, arguments, index, segment, update, below, Path, head, field, part, closes, text, lead_text, texts, heading_text, path_text}
use Rattle.st_grammar.specs.Grammar.{bracket_style, index_style, style, sort_in, least_in, SetsOff, IsFilled, size, text_follows, FollowsAll, lead_level, wanted, level, is_operand, has_step, MayEnd, Fits, LeadFits, EachFits, HeadingFits, PathFits, Parse}
use Rattle.st_grammar.specs.Reading.{Frames, bottom, within, over, timing, State, want, got, naming, pathed, indexing, sort, least, settle, reach, begin, extend, next_part, pull, behind, after, in_index, reads, start}
use Rattle.st_grammar.proofs.LevelLemmas.{may_iterate, colon_is, joins_no_iteration_sign, and_false}
use Rattle.st_grammar.proofs.Complete.{edge, Ends, grip, reach_wanted, level_pos, level_edge, Ends-more, Ends-tight, left_ends, reads_by, reads_settled, post_no_count, expression_no_count, lead_no_count, juxtaposes_no_count, computes_no_count, not_above, sign_joins, over_read, read_post, both_true, read_caret, read_join, read_ahead, starts_text, starts_parts, entry, part_state, comma_mark, comma_level, ends_style, no_run, least_pos, set_off_ends, closer_grip, read_close, shut_operand}

-- ---- what sets parts off

pub and_false_right : (b c : Bool) → c ≡ false → b && c ≡ false
and_false_right true c e = e
and_false_right false c e = refl

pub comma_separates : (h : Heading) (us : Trees) (q : List Terminal) (u : Tree) (m : Mark) (x : Token) (fs : Frames) → is_comma m ≡ true
    → after u (within h us q fs) (sign m x) ≡ next_part (style (sort fs) h) m x h us (more us q u) fs
comma_separates h us q u m x fs e =
    sign_joins u (within h us q fs) m x (comma_mark (sort_in (sort fs) h) m e)
    ∙ ap (λ b. if b then if nat_le (left_of m) (level u) then Some (want (over (left u m x) (within h us q fs))) else None else next_part (style (sort fs) h) m x h us (more us q u) fs)
    (and_false (has_level (sort_in (sort fs) h) (level_of m)) (nat_le (least_in h) (level_of m)) (comma_level (sort_in (sort fs) h) m e))

pub colon_mark : (m : Mark) → is_colon m ≡ true → may_iterate (expression false) m ≡ false
colon_mark m e = ap (may_iterate (expression false)) (colon_is m e)

pub colon_separates : (h : Heading) (us : Trees) (q : List Terminal) (u : Tree) (m : Mark) (x : Token) (fs : Frames) → is_colon m ≡ true → style (sort fs) h ≡ ends
    → after u (within h us q fs) (sign m x) ≡ next_part (style (sort fs) h) m x h us (more us q u) fs
colon_separates h us q u m x fs e s =
    let i = ends_style h (sort fs) s in
    let nine : level_of m ≡ 9 = ap level_of (colon_is m e) in
    let no : nat_le (least_in h) (level_of m) ≡ false = not_above (level_of m) (least_in h) (omega (arith, nine, i.0)) in
    sign_joins u (within h us q fs) m x (subst (λ τ. may_iterate τ m ≡ false) (sym i.1) (colon_mark m e))
    ∙ ap (λ b. if b then if nat_le (left_of m) (level u) then Some (want (over (left u m x) (within h us q fs))) else None else next_part (style (sort fs) h) m x h us (more us q u) fs)
    (and_false_right (has_level (sort_in (sort fs) h) (level_of m)) (nat_le (least_in h) (level_of m)) no)

pub read_set_off : (h : Heading) (ts : Trees) (pre : List Terminal) (fs : Frames) (v : List Terminal) → SetsOff (style (sort fs) h) ts pre
    → reads (part_state h ts fs) (pre ++ v) ≡ reads (want (within h ts pre fs)) v
read_set_off h none pre fs v f = go (style (sort fs) h) f
  where
    plainly : pre ≡ [] → reads (want (within h none [] fs)) (pre ++ v) ≡ reads (want (within h none pre fs)) v
    plainly e = subst (λ q. reads (want (within h none [] fs)) (q ++ v) ≡ reads (want (within h none q fs)) v) (sym e) refl

    go : (y : Style) → SetsOff y none pre → reads (entry y h fs) (pre ++ v) ≡ reads (want (within h none pre fs)) v
    go lone e = plainly e
    go parts e = plainly e
    go ends e = plainly e
    go run e = plainly e
    go fields e =
        subst (λ q. reads (naming h none [] fs) (q ++ v) ≡ reads (want (within h none q fs)) v) (sym e.1)
        (reads_by _ _ v (ap (λ b. if b then Some (want (within h none (e.0 ∷ []) fs)) else None) e.2))
read_set_off h (more us q u) pre fs v f = go (style (sort fs) h) refl f
  where
    go : (y : Style) → style (sort fs) h ≡ y → SetsOff y (more us q u) pre → reads (got u (within h us q fs)) (pre ++ v) ≡ reads (want (within h (more us q u) pre fs)) v
    go lone s e = absurd e
    go parts s e =
        subst (λ r. reads (got u (within h us q fs)) (r ++ v) ≡ reads (want (within h (more us q u) r fs)) v) (sym e.2)
        (reads_by _ _ v
        (comma_separates h us q u e.0 e.1 fs e.3
        ∙ ap (λ y. next_part y e.0 e.1 h us (more us q u) fs) s
        ∙ ap (λ b. if b then Some (want (within h (more us q u) (sign e.0 e.1 ∷ []) fs)) else None) e.3))
    go fields s e =
        subst (λ r. reads (got u (within h us q fs)) (r ++ v) ≡ reads (want (within h (more us q u) r fs)) v) (sym e.3)
        (reads_by _ _ (e.2 ∷ v)
        (comma_separates h us q u e.0 e.1 fs e.4
        ∙ ap (λ y. next_part y e.0 e.1 h us (more us q u) fs) s
        ∙ ap (λ b. if b then Some (naming h (more us q u) (sign e.0 e.1 ∷ []) fs) else None) e.4)
        ∙ reads_by _ _ v (ap (λ b. if b then Some (want (within h (more us q u) (sign e.0 e.1 ∷ e.2 ∷ []) fs)) else None) e.5))
    go ends s e = colon us e
      where
        colon : (ws : Trees) → SetsOff ends (more ws q u) pre → reads (got u (within h ws q fs)) (pre ++ v) ≡ reads (want (within h (more ws q u) pre fs)) v
        colon none r =
            subst (λ p. reads (got u (within h none q fs)) (p ++ v) ≡ reads (want (within h (more none q u) p fs)) v) (sym r.2)
            (reads_by _ _ v
            (colon_separates h none q u r.0 r.1 fs r.3 s
            ∙ ap (λ y. next_part y r.0 r.1 h none (more none q u) fs) s
            ∙ ap (λ b. if b then Some (want (within h (more none q u) (sign r.0 r.1 ∷ []) fs)) else None) r.3))
        colon (more xs p x) r = absurd r
    go run s e = absurd (no_run h (sort fs) s)

-- ---- sequences

-- the frames of the elements before the last one
abbrev pub under : Trees → Frames → Frames
under none fs = fs
under (more ts pre t) fs = over (items (more ts pre t)) fs

-- where the elements of a sequence lead to
abbrev pub reached : Trees → Frames → State
reached none fs = want fs
reached (more ts pre t) fs = got t (under ts fs)

pub sort_under : (ts : Trees) (fs : Frames) → sort (under ts fs) ≡ sort fs
sort_under none fs = refl
sort_under (more ts pre t) fs = refl

pub extend_under : (ts : Trees) (t : Tree) (fs : Frames) → least fs ≤ 14 → extend t (under ts fs) ≡ over (items (more ts [] t)) fs
extend_under none t (bottom σ) h = refl
extend_under none t (within k us pre fs) h = refl
extend_under none t (over (left l m x) fs) h = refl
extend_under none t (over (ahead m x) fs) h = refl
extend_under none t (over (items us) fs) h = absurd (omega arith)
extend_under none t (timing u m x fs) h = refl
extend_under (more ts pre u) t fs h = refl

pub next_element : (u : Tree) (fs : Frames) (us w : List Terminal) → text_follows (sort fs) u us ≡ true → reads (got u fs) (us ++ w) ≡ reads (want (extend u fs)) (us ++ w)
next_element u fs [] w e = absurd (cc)
next_element u fs (l ∷ us) w e = reads_by _ _ (us ++ w) (ap (λ b. if b then begin (extend u fs) l else behind u fs l) e)

-- an element that is read in each part is read behind these
pub one_more : (ts : Trees) (t : Tree) (fs : Frames) (w : List Terminal)
    → ((gs : Frames) → least gs ≤ level t → sort gs ≡ sort fs → reads (want gs) (text t ++ w) ≡ reads (settle t gs) w)
    → EachFits (sort fs) run tight ts → FollowsAll (sort fs) ts (text t) → tight ≤ level t → least fs ≤ 14 → is_count (sort fs) ≡ false
    → reads (reached ts fs) (text t ++ w) ≡ reads (got t (under ts fs)) w
one_more none t fs w here f m h k c = here fs (omega arith) refl ∙ reads_settled t fs w c
one_more (more us q u) t fs w here f m h k c =
    next_element u (under us fs) (text t) w (subst (λ σ. text_follows σ u (text t) ≡ true) (sym (sort_under us fs)) m)
    ∙ ap (λ gs. reads (want gs) (text t ++ w)) (extend_under us u fs k ∙ ap (λ r. over (items (more us r u)) fs) (sym f.1))
    ∙ here (over (items (more us q u)) fs) (omega arith) refl

-- ---- headings

pub entry_round : (h : Heading) (σ : Sort) (fs : Frames) → entry (bracket_style round σ) h fs ≡ want (within h none [] fs)
entry_round h (expression b) fs = refl
entry_round h arithmetic fs = refl
entry_round h notation fs = refl
entry_round h typ fs = refl
entry_round h count fs = refl
entry_round h bound fs = refl

pub entry_index : (h : Heading) (σ : Sort) (fs : Frames) → entry (index_style σ) h fs ≡ want (within h none [] fs)
entry_index h (expression b) fs = refl
entry_index h arithmetic fs = refl
entry_index h notation fs = refl
entry_index h typ fs = refl
entry_index h count fs = refl
entry_index h bound fs = refl

pub round_no_count : (σ : Sort) → encloses σ round ≡ true → is_count σ ≡ false
round_no_count (expression b) e = refl
round_no_count arithmetic e = refl
round_no_count notation e = refl
round_no_count typ e = refl
round_no_count count e = absurd (cc)
round_no_count bound e = refl

pub no_square : (σ : Sort) → encloses σ square ≡ true → ⊥
no_square (expression b) e = absurd (cc)
no_square arithmetic e = absurd (cc)
no_square notation e = absurd (cc)
no_square typ e = absurd (cc)
no_square count e = absurd (cc)
no_square bound e = absurd (cc)

pub read_plain : (k : Bracket) (o : Token) (fs : Frames) (v : List Terminal) → encloses (sort fs) k ≡ true
    → reads (want fs) (opening k o ∷ v) ≡ reads (entry (bracket_style k (sort fs)) (plain k o) fs) v
read_plain round o fs v e =
    reads_by _ _ v
    (ap (λ b. if b then Some (indexing o fs) else if encloses (sort fs) round then Some (want (within (plain round o) none [] fs)) else None) (round_no_count (sort fs) e)
    ∙ ap (λ b. if b then Some (want (within (plain round o) none [] fs)) else None) e)
    ∙ ap (λ st. reads st v) (sym (entry_round (plain round o) (sort fs) fs))
read_plain square o fs v e = absurd (no_square (sort fs) e)
read_plain brace o fs v e = reads_by _ _ v (ap (λ b. if b then Some (naming (plain brace o) none [] fs) else None) e)
read_plain tick_round o fs v e = reads_by _ _ v (ap (λ b. if b then Some (want (within (plain tick_round o) none [] fs)) else None) e)
read_plain tick_square o fs v e = reads_by _ _ v (ap (λ b. if b then Some (want (within (plain tick_square o) none [] fs)) else None) e)
read_plain tick_brace o fs v e = reads_by _ _ v (ap (λ b. if b then Some (want (within (plain tick_brace o) none [] fs)) else None) e)
read_plain dollar o fs v e = reads_by _ _ v (ap (λ b. if b then Some (want (within (plain dollar o) none [] fs)) else None) e)

pub takes_function : (σ : Sort) → computes σ ≡ true → takes σ function ≡ true
takes_function (expression b) e = refl
takes_function arithmetic e = refl
takes_function notation e = absurd (cc)
takes_function typ e = absurd (cc)
takes_function count e = absurd (cc)
takes_function bound e = absurd (cc)

pub touching_begins : (b c : Bool) → c ≡ true → b && not (true && c) ≡ false
touching_begins true true e = refl
touching_begins true false e = absurd (cc)
touching_begins false c e = refl

pub read_arguments : (f o : Token) (fs : Frames) (v : List Terminal) → computes (sort fs) ≡ true → o.touching ≡ true
    → reads (want fs) (leaf function f ∷ opening round o ∷ v) ≡ reads (want (within (arguments f o) none [] fs)) v
read_arguments f o fs v e t =
    reads_by _ _ (opening round o ∷ v) (ap (λ b. if b then Some (settle (operand function f) fs) else None) (takes_function (sort fs) e))
    ∙ reads_settled (operand function f) fs (opening round o ∷ v) (computes_no_count (sort fs) e)
    ∙ reads_by _ _ v
    (ap (λ b. if b then begin (extend (operand function f) fs) (opening round o) else behind (operand function f) fs (opening round o)) (touching_begins (juxtaposes (sort fs)) o.touching t)
    ∙ ap (λ b. if b then Some (want (within (arguments f o) none [] fs)) else None) (both_true _ _ e t))

-- behind `[` no dot and no `[` begins an expression
pub in_index_reads : (t : Tree) (o : Token) (fs : Frames) (v : List Terminal) → starts_text v ≡ true
    → reads (pathed (head t o) fs) v ≡ reads (want (within (index t o) none [] fs)) v
in_index_reads t o fs [] e = absurd (cc)
in_index_reads t o fs (leaf k x ∷ v) e = refl
in_index_reads t o fs (dot x ∷ v) e = absurd (cc)
in_index_reads t o fs (sign m x ∷ v) e = refl
in_index_reads t o fs (opening round x ∷ v) e = refl
in_index_reads t o fs (opening square x ∷ v) e = absurd (cc)
in_index_reads t o fs (opening brace x ∷ v) e = refl
in_index_reads t o fs (opening tick_round x ∷ v) e = refl
in_index_reads t o fs (opening tick_square x ∷ v) e = refl
in_index_reads t o fs (opening tick_brace x ∷ v) e = refl
in_index_reads t o fs (opening dollar x ∷ v) e = refl
in_index_reads t o fs (closing k x ∷ v) e = refl
in_index_reads t o fs (other x ∷ v) e = refl

pub read_head : (t : Tree) (o : Token) (fs : Frames) (v : List Terminal) → is_expression (sort fs) ≡ true
    → reads (got t fs) (opening square o ∷ v) ≡ reads (pathed (head t o) fs) v
read_head t o fs v e =
    reads_by _ _ v (ap (λ b. if b then Some (pathed (head t o) fs) else if computes (sort fs) then Some (want (within (index t o) none [] fs)) else None) e)

pub read_square : (t : Tree) (o : Token) (fs : Frames) (v : List Terminal) → computes (sort fs) ≡ true → starts_text v ≡ true
    → reads (got t fs) (opening square o ∷ v) ≡ reads (entry (index_style (sort fs)) (index t o) fs) v
read_square t o fs v e s = go (is_expression (sort fs)) refl ∙ ap (λ st. reads st v) (sym (entry_index (index t o) (sort fs) fs))
  where
    go : (b : Bool) → is_expression (sort fs) ≡ b → reads (got t fs) (opening square o ∷ v) ≡ reads (want (within (index t o) none [] fs)) v
    go true i = read_head t o fs v i ∙ in_index_reads t o fs v s
    go false i =
        reads_by _ _ v
        (ap (λ b. if b then Some (pathed (head t o) fs) else if computes (sort fs) then Some (want (within (index t o) none [] fs)) else None) i
        ∙ ap (λ b. if b then Some (want (within (index t o) none [] fs)) else None) e)

pub read_change : (p : Path) (m : Mark) (x : Token) (fs : Frames) (v : List Terminal) → has_step p ≡ true → is_change m ≡ true
    → reads (pathed p fs) (sign m x ∷ v) ≡ reads (want (within (update p m x) none [] fs)) v
read_change p m x fs v e c =
    reads_by _ _ v (ap (λ b. if b then Some (want (within (update p m x) none [] fs)) else in_index p fs (sign m x)) (both_true _ _ e c))

pub read_below : (o i : Token) (m : Mark) (x : Token) (fs : Frames) (v : List Terminal) → is_count (sort fs) ≡ true → is_less m ≡ true
    → reads (want fs) (opening round o ∷ leaf low i ∷ sign m x ∷ v) ≡ reads (want (within (below o i m x) none [] fs)) v
read_below o i m x fs v e l =
    reads_by _ _ (leaf low i ∷ sign m x ∷ v) (ap (λ b. if b then Some (indexing o fs) else if encloses (sort fs) round then Some (want (within (plain round o) none [] fs)) else None) e)
    ∙ reads_by _ _ v (ap (λ b. if b then Some (want (within (below o i m x) none [] fs)) else None) l)

pub read_length : (o : Token) (fs : Frames) (v : List Terminal) → computes (sort fs) ≡ true
    → reads (want fs) (closing by_bar o ∷ v) ≡ reads (want (within (length o) none [] fs)) v
read_length o fs v e = reads_by _ _ v (ap (λ b. if b then Some (want (within (length o) none [] fs)) else None) e)

-- ---- trees

abbrev pub EndsAfter : Sort → ℕ → Trees → List Terminal → Type 0
EndsAfter σ n none v = Unit {0}
EndsAfter σ n (more ts pre t) v = Ends σ n v

pub set_off_after : (h : Heading) (σ : Sort) (ts : Trees) (pre v : List Terminal) → SetsOff (style σ h) ts pre → EndsAfter (sort_in σ h) (least_in h) ts (pre ++ v)
set_off_after h σ none pre v f = tt
set_off_after h σ (more us q u) pre v f = set_off_ends h σ us q u pre v f

pub closer_after : (h : Heading) (σ : Sort) (ts : Trees) (c : Token) (w : List Terminal) → EndsAfter (sort_in σ h) (least_in h) ts (closing (closes h) c ∷ w)
closer_after h σ none c w = tt
closer_after h σ (more us q u) c w = omega (arith, closer_grip h σ c, least_pos h)

pub segment_filled : (p : Path) (o : Token) (ts : Trees) → 1 ≤ size ts → IsFilled (segment p o) ts
segment_filled p o none h = absurd (omega arith)
segment_filled p o (more ts pre t) h = tt

pub count_tight : (t : Tree) → Fits count t → tight ≤ level t
count_tight (operand k x) f = omega arith
count_tight (post t l) f = omega arith
count_tight (times t m x c) f = omega arith
count_tight (bracket h ts c) f = omega arith
count_tight (led (left l m x) t) f = let never = f.0.0 in absurd (cc)
count_tight (led (ahead m x) t) f = let never = f.0 in absurd (cc)
count_tight (led (items ts) t) f = let never = f.0.0 in absurd (cc)

pub under_items : (ts : Trees) (fs : Frames) → 1 ≤ size ts → under ts fs ≡ over (items ts) fs
under_items none fs h = absurd (omega arith)
under_items (more ts pre t) fs h = refl

pub left_ends_sign : (σ : Sort) (m : Mark) (x : Token) (l : Tree) (v : List Terminal) → has_level σ (level_of m) ≡ true → Fits σ l → left_of m ≤ level l → Ends σ (edge l) (sign m x ∷ v)
left_ends_sign σ m x l v j f h =
    let g : grip σ (sign m x) ≡ level_of m = ap (λ b. if b then tight else pull σ m) (joins_no_iteration_sign σ m j) ∙ ap (λ b. if b then level_of m else 0) j in
    omega (arith, g, left_ends σ m l f h)

mutual
  pub read_tree : (t : Tree) (fs : Frames) (w : List Terminal) → Fits (sort fs) t → least fs ≤ level t → Ends (sort fs) (edge t) w → reads (want fs) (text t ++ w) ≡ reads (settle t fs) w
  read_tree (operand k x) fs w f h e = reads_by _ _ w (ap (λ b. if b then Some (settle (operand k x) fs) else None) f)
  read_tree (post t l) fs w f h e =
      let c = post_no_count (sort fs) t l f.0 in
      ap (reads (want fs)) (append_assoc (text t) (l ∷ []) w)
      ∙ read_tree t fs (l ∷ w) f.1 (omega arith) (Ends-tight (sort fs) t (l ∷ w) f.2)
      ∙ reads_settled t fs (l ∷ w) c
      ∙ read_post t l fs w f.0
      ∙ sym (reads_settled (post t l) fs w c)
  read_tree (times t m x u) fs w f h e =
      let c = expression_no_count (sort fs) f.1 in
      ap (reads (want fs)) (append_assoc (text t) (sign m x ∷ text u) w)
      ∙ read_tree t fs (sign m x ∷ (text u ++ w)) f.2 (omega arith) (Ends-tight (sort fs) t (sign m x ∷ (text u ++ w)) f.3)
      ∙ reads_settled t fs (sign m x ∷ (text u ++ w)) c
      ∙ read_caret t m x fs (text u ++ w) f.0 f.1
      ∙ read_tree u (timing t m x fs) w f.4 (level_pos count u f.4) (Ends-tight count u w (count_tight u f.4))
      ∙ sym (reads_settled (times t m x u) fs w c)
  read_tree (bracket k ts c) fs w f h e =
      ap (reads (want fs)) (append_assoc (heading_text k) (texts ts ++ closing (closes k) c ∷ []) w ∙ ap (λ u. heading_text k ++ u) (append_assoc (texts ts) (closing (closes k) c ∷ []) w))
      ∙ read_heading k fs (texts ts ++ closing (closes k) c ∷ w) f.1 f.0 h (starts_parts ts (sort_in (sort fs) k) (style (sort fs) k) (least_in k) (closing (closes k) c ∷ w) f.2 refl)
      ∙ read_parts ts k fs (closing (closes k) c ∷ w) f.2 (closer_after k (sort fs) ts c w)
      ∙ read_close k ts c fs w f.3
      ∙ ap (λ st. reads st w) (shut_operand k ts c fs f.0)
  read_tree (led g t) fs w f h e =
      ap (reads (want fs)) (append_assoc (lead_text g) (text t) w)
      ∙ read_lead g t fs w f.0 h f.3 (λ gs k i. read_tree t gs w (subst (λ σ. Fits σ t) (sym i) f.1) k (Ends-more (sort gs) (reach g) (edge t) w (omega (arith, level_edge t, reach_wanted g, f.2)) (subst (λ σ. Ends σ (reach g) w) (sym i) e))) f.2
      ∙ over_read t g fs w f.0 e
      ∙ sym (reads_settled (led g t) fs w (lead_no_count (sort fs) g f.0))

  pub read_lead : (g : Lead) (t : Tree) (fs : Frames) (w : List Terminal) → LeadFits (sort fs) g → least fs ≤ lead_level g → MayEnd (sort fs) g (text t)
      → ((gs : Frames) → least gs ≤ level t → sort gs ≡ sort fs → reads (want gs) (text t ++ w) ≡ reads (settle t gs) w)
      → wanted g ≤ level t
      → reads (want fs) (lead_text g ++ (text t ++ w)) ≡ reads (got t (over g fs)) w
  read_lead (left l m x) t fs w f h m_end here k =
      ap (reads (want fs)) (append_assoc (text l) (sign m x ∷ []) (text t ++ w))
      ∙ read_tree l fs (sign m x ∷ (text t ++ w)) f.1 (omega (arith, f.2)) (left_ends_sign (sort fs) m x l (text t ++ w) f.0 f.1 f.2)
      ∙ reads_settled l fs (sign m x ∷ (text t ++ w)) (lead_no_count (sort fs) (left l m x) f)
      ∙ read_join l m x fs (text t ++ w) f.0 h f.2
      ∙ here (over (left l m x) fs) k refl
  read_lead (ahead m x) t fs w f h m_end here k =
      read_ahead m x fs (text t ++ w) f h ∙ here (over (ahead m x) fs) k refl
  read_lead (items ts) t fs w f h m_end here k =
      read_run ts fs (text t ++ w) f.1 f.0 h
      ∙ one_more ts t fs w here f.1 m_end k h (juxtaposes_no_count (sort fs) f.0)
      ∙ ap (λ gs. reads (got t gs) w) (under_items ts fs f.2)

  pub read_run : (ts : Trees) (fs : Frames) (v : List Terminal) → EachFits (sort fs) run tight ts → juxtaposes (sort fs) ≡ true → least fs ≤ 14 → reads (want fs) (texts ts ++ v) ≡ reads (reached ts fs) v
  read_run none fs v f j h = refl
  read_run (more ts pre t) fs v f j h =
      subst (λ q. reads (want fs) (texts (more ts q t) ++ v) ≡ reads (got t (under ts fs)) v) (sym f.1)
      (ap (reads (want fs)) (append_assoc (texts ts) (text t) v)
      ∙ read_run ts fs (text t ++ v) f.0 j h
      ∙ one_more ts t fs v (λ gs k i. read_tree t gs v (subst (λ σ. Fits σ t) (sym i) f.2) k (Ends-tight (sort gs) t v f.3)) f.0 f.4 f.3 h (juxtaposes_no_count (sort fs) j))

  pub read_parts : (ts : Trees) (h : Heading) (fs : Frames) (v : List Terminal) → EachFits (sort_in (sort fs) h) (style (sort fs) h) (least_in h) ts → EndsAfter (sort_in (sort fs) h) (least_in h) ts v
      → reads (entry (style (sort fs) h) h fs) (texts ts ++ v) ≡ reads (part_state h ts fs) v
  read_parts none h fs v f e = refl
  read_parts (more ts pre t) h fs v f e =
      ap (reads (entry (style (sort fs) h) h fs)) (append_assoc (texts ts) (pre ++ text t) v ∙ ap (λ u. texts ts ++ u) (append_assoc pre (text t) v))
      ∙ read_parts ts h fs (pre ++ (text t ++ v)) f.0 (set_off_after h (sort fs) ts pre (text t ++ v) f.1)
      ∙ read_set_off h ts pre fs (text t ++ v) f.1
      ∙ read_tree t (within h ts pre fs) v f.2 f.3 (Ends-more (sort_in (sort fs) h) (least_in h) (edge t) v (omega (arith, level_edge t, f.3)) e)

  pub read_heading : (h : Heading) (fs : Frames) (v : List Terminal) → HeadingFits (sort fs) h → is_operand h ≡ true → least fs ≤ tight → starts_text v ≡ true
      → reads (want fs) (heading_text h ++ v) ≡ reads (entry (style (sort fs) h) h fs) v
  read_heading (plain k o) fs v f i h s = read_plain k o fs v f
  read_heading (length o) fs v f i h s = read_length o fs v f
  read_heading (arguments g o) fs v f i h s = read_arguments g o fs v f.0 f.1
  read_heading (index t o) fs v f i h s =
      ap (reads (want fs)) (append_assoc (text t) (opening square o ∷ []) v)
      ∙ read_tree t fs (opening square o ∷ v) f.1 (omega (arith, f.2)) (Ends-tight (sort fs) t (opening square o ∷ v) f.2)
      ∙ reads_settled t fs (opening square o ∷ v) (computes_no_count (sort fs) f.0)
      ∙ read_square t o fs v f.0 s
  read_heading (segment p o) fs v f i h s = absurd (cc)
  read_heading (update p m x) fs v f i h s =
      ap (reads (want fs)) (append_assoc (path_text p) (sign m x ∷ []) v)
      ∙ read_path p fs (sign m x ∷ v) f.0 h
      ∙ read_change p m x fs v f.1 f.2
  read_heading (below o i m x) fs v f j h s = read_below o i m x fs v f.0 f.1

  pub read_path : (p : Path) (fs : Frames) (v : List Terminal) → PathFits (sort fs) p → least fs ≤ tight → reads (want fs) (path_text p ++ v) ≡ reads (pathed p fs) v
  read_path (head t o) fs v f h =
      ap (reads (want fs)) (append_assoc (text t) (opening square o ∷ []) v)
      ∙ read_tree t fs (opening square o ∷ v) f.1 (omega (arith, f.2)) (Ends-tight (sort fs) t (opening square o ∷ v) f.2)
      ∙ reads_settled t fs (opening square o ∷ v) (expression_no_count (sort fs) f.0)
      ∙ read_head t o fs v f.0
  read_path (field p x) fs v f h = ap (reads (want fs)) (append_assoc (path_text p) (dot x ∷ []) v) ∙ read_path p fs (dot x ∷ v) f h
  read_path (part p o ts c) fs v f h =
      ap (reads (want fs)) (append_assoc (path_text p) (opening square o ∷ (texts ts ++ closing by_square c ∷ [])) v ∙ ap (λ u. path_text p ++ (opening square o ∷ u)) (append_assoc (texts ts) (closing by_square c ∷ []) v))
      ∙ read_path p fs (opening square o ∷ (texts ts ++ closing by_square c ∷ v)) f.0 h
      ∙ read_parts ts (segment p o) fs (closing by_square c ∷ v) f.1 (closer_after (segment p o) (sort fs) ts c v)
      ∙ read_close (segment p o) ts c fs v (segment_filled p o ts f.2)

pub complete : (σ : Sort) (us : List Terminal) (t : Tree) → Parse σ us t → reads (start σ) us ≡ Some t
complete σ us t p =
    ap (reads (start σ)) (p.spelled ∙ sym (append-nil (text t)))
    ∙ read_tree t (bottom σ) [] p.fits (level_pos σ t p.fits) tt
    ∙ reads_whole t
  where
    reads_whole : (u : Tree) → reads (got u (bottom σ)) [] ≡ Some u
    reads_whole u = refl
