-- Where the operands of a pattern have values, they are told by its value: each part of fixed length
-- has one length, and at most one part of a list is of open length.
use Rattle.std.proofs.Common.{◌≡◌, ℕ, suc, ◌+◌, ◌≤◌, refl, sym, ◌∙◌, ap, ap₂, List, [], ◌∷◌, ◌++◌, map, length, Bool, true, false, not, ◌||◌, if◌then◌else◌, Option, Some, None, option_map, filter, nat_le, arith, length-append}
use Rattle.std.specs.Option.{option_and_then}
use Rattle.st_num.specs.declared.limit.TheConstants.{HIGHEST_VALUE}
use Rattle.st_il.specs.declared.expression.IlExp.{IlExp, out-IlExp, fold-IlExp, fold_out-IlExp, map-IlExp}
use Rattle.st_il.specs.declared.expression.IlExp.TheOpen.{IlExp-F, Iteration-F, ListItem-F}
use Rattle.st_il.specs.declared.expression.Iteration.{Iteration, out-Iteration, fold-Iteration, fold_out-Iteration, map-Iteration}
use Rattle.st_il.specs.declared.expression.ListItem.{ListItem, out-ListItem, fold-ListItem, fold_out-ListItem, map-ListItem}
use Rattle.st_il.specs.declared.expression.PathSeg.{PathSeg, fold-PathSeg}
use Rattle.st_il.specs.declared.value.Value.{Value, out-Value}
use Rattle.st_il.specs.declared.value.Value.TheOpen.{Value-F}
use Rattle.st_il.specs.declared.value.Value.TheVariants as value
use Rattle.st_il.specs.Height.{height}
use Rattle.st_semantics.specs.declared.outcome.Outcome.TheVariants.{Val, Deep}
use Rattle.st_semantics.specs.Parts.{Operation, elements, limited, made, unary, binary, unchanged, with_both}
use Rattle.st_semantics.specs.Operators.{concatenation}
use Rattle.st_semantics.specs.Operands.{item_at, segment_at, item_exp}
use Rattle.st_semantics.specs.Forms.{spliced_at, spliced, listing}
use Rattle.st_semantics.specs.Iterations.{count_of, count_at}
use Rattle.st_semantics.specs.OpenParts.{Lengths, part_at, literal_count_at, open_parts, lengths_at, is_doubly_open}
use Rattle.st_semantics.proofs.Columns.{list_of_elements, elements-list}

-- ---- what is told of an expression, by its level

abbrev pub lengths : IlExp → Lengths
lengths = fold-IlExp Lengths Bool Lengths (List Lengths) lengths_at literal_count_at part_at segment_at

abbrev pub item_lengths : ListItem → Lengths
item_lengths = fold-ListItem Lengths Bool Lengths (List Lengths) lengths_at literal_count_at part_at segment_at

abbrev pub segment_lengths : PathSeg → List Lengths
segment_lengths = fold-PathSeg Lengths Bool Lengths (List Lengths) lengths_at literal_count_at part_at segment_at

abbrev pub literal_count : Iteration → Bool
literal_count = fold-Iteration Lengths Bool Lengths (List Lengths) lengths_at literal_count_at part_at segment_at

-- one level of lengths
abbrev pub lengths_of : IlExp-F IlExp Iteration ListItem PathSeg → Lengths
lengths_of y = lengths_at (map-IlExp IlExp Iteration ListItem PathSeg Lengths Bool Lengths (List Lengths) lengths literal_count item_lengths segment_lengths y)

pub lengths-level : (e : IlExp) (y : IlExp-F IlExp Iteration ListItem PathSeg) → out-IlExp e ≡ y → lengths e ≡ lengths_of y
lengths-level e y h = fold_out-IlExp Lengths Bool Lengths (List Lengths) lengths_at literal_count_at part_at segment_at e ∙ ap lengths_of h

item-level : (i : ListItem) → item_lengths i ≡ part_at (map-ListItem IlExp Iteration ListItem PathSeg Lengths Bool Lengths (List Lengths) lengths literal_count item_lengths segment_lengths (out-ListItem i))
item-level i = fold_out-ListItem Lengths Bool Lengths (List Lengths) lengths_at literal_count_at part_at segment_at i

-- a part is doubly open where it is so by itself
pub item-open : (i : ListItem) → (item_lengths i).doubly_open ≡ is_doubly_open (item_exp i)
item-open i = ap (λ (l : Lengths). l.doubly_open) (item-level i) ∙ at (out-ListItem i)
  where
    at : (y : ListItem-F IlExp Iteration ListItem PathSeg)
        → (part_at (map-ListItem IlExp Iteration ListItem PathSeg Lengths Bool Lengths (List Lengths) lengths literal_count item_lengths segment_lengths y)).doubly_open ≡ is_doubly_open (item_at y)
    at (ListItem-F.One e) = refl
    at (ListItem-F.All e) = refl

-- a number
literal_at : (y : IlExp-F IlExp Iteration ListItem PathSeg) → (lengths_of y).literal ≡ true → (n : ℕ) × (y ≡ IlExp-F.Number n)
literal_at (IlExp-F.Number n) h = (n, refl)
literal_at _ h = cc

-- the count is a number
abbrev pub IsLiteral : Iteration → Type 0
IsLiteral how = (e : IlExp) × (n : ℕ) × (count_of how ≡ e ∷ []) × (out-IlExp e ≡ IlExp-F.Number n)

pub literal_is : (how : Iteration) → literal_count how ≡ true → IsLiteral how
literal_is how h = at (out-Iteration how) refl (sym (fold_out-Iteration Lengths Bool Lengths (List Lengths) lengths_at literal_count_at part_at segment_at how) ∙ h)
  where
    number : (e : IlExp) → (lengths e).literal ≡ true → (n : ℕ) × (out-IlExp e ≡ IlExp-F.Number n)
    number e h = literal_at (out-IlExp e) (ap (λ (l : Lengths). l.literal) (sym (lengths-level e (out-IlExp e) refl)) ∙ h)

    at : (y : Iteration-F IlExp Iteration ListItem PathSeg) → out-Iteration how ≡ y
        → literal_count_at (map-Iteration IlExp Iteration ListItem PathSeg Lengths Bool Lengths (List Lengths) lengths literal_count item_lengths segment_lengths y) ≡ true → IsLiteral how
    at Iteration-F.Star is h = cc
    at Iteration-F.Plus is h = cc
    at Iteration-F.Quest is h = cc
    at (Iteration-F.Times e) is h = let n = number e h in (e, n.0, ap count_at is, n.1)
    at (Iteration-F.Below i e) is h = let n = number e h in (e, n.0, ap count_at is, n.1)

-- ---- lengths of values

-- lists have one length
abbrev pub SameLength : Value → Value → Type 0
SameLength v w = (xs ys : List Value) → elements v ≡ Some xs → elements w ≡ Some ys → length xs ≡ length ys

-- the values of an expression of fixed length have one length
abbrev pub LengthsAgree : List IlExp → List Value → List Value → Type 0
LengthsAgree [] [] [] = Unit {0}
LengthsAgree (e ∷ es) (v ∷ vs) (w ∷ ws) = ((lengths e).fixed ≡ true → SameLength v w) × LengthsAgree es vs ws
LengthsAgree _ _ _ = ⊥

-- one value of the whole tells the values of the operands
abbrev pub SameOperands : List IlExp → Operation → Type 0
SameOperands es f = (vs ws : List Value) (v : Value) → LengthsAgree es vs ws → f vs ≡ Val v → f ws ≡ Val v → vs ≡ ws

-- all values of the whole have one length
abbrev pub SameLengths : List IlExp → Operation → Type 0
SameLengths es f = (vs ws : List Value) (v w : Value) → LengthsAgree es vs ws → f vs ≡ Val v → f ws ≡ Val w → SameLength v w

pub some_one : {A : Type 0} {x y : A} → Some x ≡ Some y → x ≡ y
some_one e = cc

pub length_itself : (v w : Value) → v ≡ w → SameLength v w
length_itself v w e xs ys p q =
    let same : Some xs ≡ Some ys = sym p ∙ (ap elements e ∙ q) in
    ap length (some_one same)

pub limited_is : (x v : Value) → limited x ≡ Val v → x ≡ v
limited_is x v e = go (nat_le (height x) HIGHEST_VALUE) e
  where
    go : (b : Bool) → (if b then Val x else Deep) ≡ Val v → x ≡ v
    go true e = cc
    go false e = cc

pub made_is : (o : Option Value) (v : Value) → made o ≡ Val v → o ≡ Some v
made_is None v e = cc
made_is (Some x) v e = ap Some (limited_is x v e)

-- ---- operations of which the value tells the operands

pub same_none : (f : Operation) → SameOperands [] f
same_none f [] [] v l p q = refl
same_none f [] (w ∷ ws) v l p q = absurd l
same_none f (x ∷ vs) ws v l p q = absurd l

pub same_case : (es : List IlExp) (tag : List ℕ) → SameOperands es (λ vs. limited (value.Case tag vs))
same_case es tag vs ws v l p q =
    let both : value.Case tag vs ≡ value.Case tag ws = limited_is (value.Case tag vs) v p ∙ sym (limited_is (value.Case tag ws) v q) in
    let opened : Value-F.Case tag vs ≡ Value-F.Case tag ws = sym (value.outs-Case tag vs) ∙ (ap out-Value both ∙ value.outs-Case tag ws) in cc

pub same_tuple : (es : List IlExp) → SameOperands es (λ vs. limited (value.Tuple vs))
same_tuple es vs ws v l p q =
    let both : value.Tuple vs ≡ value.Tuple ws = limited_is (value.Tuple vs) v p ∙ sym (limited_is (value.Tuple ws) v q) in
    let opened : Value-F.Tuple vs ≡ Value-F.Tuple ws = sym (value.outs-Tuple vs) ∙ (ap out-Value both ∙ value.outs-Tuple ws) in cc

-- an operation on one value that tells it
same_one : (e : IlExp) (f : Operation) → ((x y v : Value) → f (x ∷ []) ≡ Val v → f (y ∷ []) ≡ Val v → x ≡ y) → SameOperands (e ∷ []) f
same_one e f g [] ws v l p q = absurd l
same_one e f g (x ∷ []) [] v l p q = absurd l
same_one e f g (x ∷ []) (y ∷ []) v l p q = ap (λ z. z ∷ []) (g x y v p q)
same_one e f g (x ∷ []) (y ∷ z ∷ ws) v l p q = absurd l.1
same_one e f g (x ∷ z ∷ vs) [] v l p q = absurd l
same_one e f g (x ∷ z ∷ vs) (y ∷ ws) v l p q = absurd l.1

pub same_present : (e : IlExp) → SameOperands (e ∷ []) (unary (λ v. Some (value.Opt (Some v))))
same_present e = same_one e (unary (λ v. Some (value.Opt (Some v)))) (λ x y v p q.
    let both : value.Opt (Some x) ≡ value.Opt (Some y) = limited_is (value.Opt (Some x)) v p ∙ sym (limited_is (value.Opt (Some y)) v q) in
    let opened : Value-F.Opt (Some x) ≡ Value-F.Opt (Some y) = sym (value.outs-Opt (Some x)) ∙ (ap out-Value both ∙ value.outs-Opt (Some y)) in cc)

pub same_up : (e : IlExp) → SameOperands (e ∷ []) unchanged
same_up e = same_one e unchanged (λ x y v p q. let both : Val x ≡ Val y = p ∙ sym q in cc)

-- ---- lists

append_split : {A : Type 0} (c d r s : List A) → c ++ r ≡ d ++ s → length c ≡ length d → (c ≡ d) × (r ≡ s)
append_split [] [] r s e l = (refl, e)
append_split [] (y ∷ d) r s e l = absurd (omega (arith, l))
append_split (x ∷ c) [] r s e l = absurd (omega (arith, l))
append_split (x ∷ c) (y ∷ d) r s e l =
    let first : x ≡ y = cc in
    let rest : c ++ r ≡ d ++ s = cc in
    let more = append_split c d r s rest (omega (arith, l)) in
    (ap₂ (λ p q. p ∷ q) first more.0, more.1)

-- a part of a list, by its value
abbrev pub Chunk : ListItem-F IlExp Iteration ListItem PathSeg → Value → List Value → Type 0
Chunk (ListItem-F.One e) v c = c ≡ v ∷ []
Chunk (ListItem-F.All e) v c = elements v ≡ Some c

abbrev pub Spliced : ListItem → List ListItem → Value → List Value → List Value → Type 0
Spliced i is v vs zs = (c : List Value) × (r : List Value) × Chunk (out-ListItem i) v c × (spliced is vs ≡ Some r) × (c ++ r ≡ zs)

pub splice_parts : (i : ListItem) (is : List ListItem) (v : Value) (vs zs : List Value) → spliced (i ∷ is) (v ∷ vs) ≡ Some zs → Spliced i is v vs zs
splice_parts i is v vs zs e = at (spliced is vs) refl e
  where
    all : (r : List Value) → spliced is vs ≡ Some r → (o : Option (List Value)) → elements v ≡ o → option_map (λ (c : List Value). c ++ r) o ≡ Some zs
        → (c : List Value) × (s : List Value) × (elements v ≡ Some c) × (spliced is vs ≡ Some s) × (c ++ s ≡ zs)
    all r k None j e = cc
    all r k (Some c) j e = (c, r, j, k, some_one e)

    by : (y : ListItem-F IlExp Iteration ListItem PathSeg) (r : List Value) → spliced is vs ≡ Some r → spliced_at y v r ≡ Some zs
        → (c : List Value) × (s : List Value) × Chunk y v c × (spliced is vs ≡ Some s) × (c ++ s ≡ zs)
    by (ListItem-F.One g) r k e = (v ∷ [], r, refl, k, some_one e)
    by (ListItem-F.All g) r k e = all r k (elements v) refl e

    at : (o : Option (List Value)) → spliced is vs ≡ o → option_and_then (spliced_at (out-ListItem i) v) o ≡ Some zs → Spliced i is v vs zs
    at None k e = cc
    at (Some r) k e = by (out-ListItem i) r k e

-- a part of fixed length
chunk_length : (i : ListItem) (v w : Value) (c d : List Value) → (item_lengths i).fixed ≡ true → ((lengths (item_exp i)).fixed ≡ true → SameLength v w) → Chunk (out-ListItem i) v c → Chunk (out-ListItem i) w d → length c ≡ length d
chunk_length i v w c d f s p q = at (out-ListItem i) (ap (λ (l : Lengths). l.fixed) (sym (item-level i)) ∙ f) s p q
  where
    at : (y : ListItem-F IlExp Iteration ListItem PathSeg)
        → (part_at (map-ListItem IlExp Iteration ListItem PathSeg Lengths Bool Lengths (List Lengths) lengths literal_count item_lengths segment_lengths y)).fixed ≡ true
        → ((lengths (item_at y)).fixed ≡ true → SameLength v w) → Chunk y v c → Chunk y w d → length c ≡ length d
    at (ListItem-F.One e) f s p q = ap length p ∙ sym (ap length q)
    at (ListItem-F.All e) f s p q = s f c d p q

-- a part tells its value
chunk_value : (i : ListItem) (v w : Value) (c d : List Value) → Chunk (out-ListItem i) v c → Chunk (out-ListItem i) w d → c ≡ d → v ≡ w
chunk_value i v w c d p q e = at (out-ListItem i) p q
  where
    at : (y : ListItem-F IlExp Iteration ListItem PathSeg) → Chunk y v c → Chunk y w d → v ≡ w
    at (ListItem-F.One g) p q = let both : v ∷ [] ≡ w ∷ [] = sym p ∙ (e ∙ q) in cc
    at (ListItem-F.All g) p q = list_of_elements v c p ∙ (ap value.List e ∙ sym (list_of_elements w d q))

abbrev pub open_of : List ListItem → ℕ
open_of is = open_parts (map item_lengths is)

abbrev open_only : List Lengths → List Lengths
open_only ls = filter (λ (l : Lengths). not l.fixed) ls

open_step : (b : Bool) (l : Lengths) (ls : List Lengths) → l.fixed ≡ b → (b ≡ true → open_parts (l ∷ ls) ≡ open_parts ls) × (b ≡ false → open_parts (l ∷ ls) ≡ suc (open_parts ls))
open_step true l ls e = (λ k. ap (λ z. length (if not z then l ∷ open_only ls else open_only ls)) e, λ k. cc)
open_step false l ls e = (λ k. cc, λ k. ap (λ z. length (if not z then l ∷ open_only ls else open_only ls)) e)

open_of_step : (i : ListItem) (is : List ListItem) → ((item_lengths i).fixed ≡ true → open_of (i ∷ is) ≡ open_of is) × ((item_lengths i).fixed ≡ false → open_of (i ∷ is) ≡ suc (open_of is))
open_of_step i is = at (item_lengths i).fixed refl
  where
    at : (b : Bool) → (item_lengths i).fixed ≡ b → ((item_lengths i).fixed ≡ true → open_of (i ∷ is) ≡ open_of is) × ((item_lengths i).fixed ≡ false → open_of (i ∷ is) ≡ suc (open_of is))
    at b e = let both = open_step b (item_lengths i) (map item_lengths is) e in (λ k. both.0 (sym e ∙ k), λ k. both.1 (sym e ∙ k))

true_or : (b : Bool) → b ≡ true → b ≡ false → ⊥
true_or true p q = cc
true_or false p q = cc

-- where no part is of open length, all lists have one length
lengths_spliced : (is : List ListItem) (vs ws xs ys : List Value) → LengthsAgree (map item_exp is) vs ws → open_of is ≡ 0 → spliced is vs ≡ Some xs → spliced is ws ≡ Some ys → length xs ≡ length ys
lengths_spliced [] [] [] xs ys l o p q = ap length (some_one (sym p ∙ q))
lengths_spliced [] [] (w ∷ ws) xs ys l o p q = absurd l
lengths_spliced [] (v ∷ vs) ws xs ys l o p q = absurd l
lengths_spliced (i ∷ is) [] ws xs ys l o p q = absurd l
lengths_spliced (i ∷ is) (v ∷ vs) [] xs ys l o p q = absurd l
lengths_spliced (i ∷ is) (v ∷ vs) (w ∷ ws) xs ys l o p q = at (item_lengths i).fixed refl (lengths_spliced is vs ws)
  where
    at : (b : Bool) → (item_lengths i).fixed ≡ b
        → ((xs ys : List Value) → LengthsAgree (map item_exp is) vs ws → open_of is ≡ 0 → spliced is vs ≡ Some xs → spliced is ws ≡ Some ys → length xs ≡ length ys) → length xs ≡ length ys
    at false e ih = let n = (open_of_step i is).1 e in absurd (omega (arith, n, o))
    at true e ih =
        let n = (open_of_step i is).0 e in
        let s = splice_parts i is v vs xs p in
        let t = splice_parts i is w ws ys q in
        let first = chunk_length i v w s.0 t.0 e l.0 s.2 t.2 in
        let rest = ih s.1 t.1 l.1 (sym n ∙ o) s.3 t.3 in
        ap length (sym s.4) ∙ (length-append s.0 s.1 ∙ (ap₂ (λ y z. y + z) first rest ∙ (sym (length-append t.0 t.1) ∙ ap length t.4)))

-- one list tells its parts, where at most one is of open length
same_spliced : (is : List ListItem) (vs ws zs : List Value) → LengthsAgree (map item_exp is) vs ws → open_of is ≤ 1 → spliced is vs ≡ Some zs → spliced is ws ≡ Some zs → vs ≡ ws
same_spliced [] [] [] zs l o p q = refl
same_spliced [] [] (w ∷ ws) zs l o p q = absurd l
same_spliced [] (v ∷ vs) ws zs l o p q = absurd l
same_spliced (i ∷ is) [] ws zs l o p q = absurd l
same_spliced (i ∷ is) (v ∷ vs) [] zs l o p q = absurd l
same_spliced (i ∷ is) (v ∷ vs) (w ∷ ws) zs l o p q = at (item_lengths i).fixed refl (splice_parts i is v vs zs p) (splice_parts i is w ws zs q) (same_spliced is vs ws)
  where
    finish : (s : Spliced i is v vs zs) (t : Spliced i is w ws zs) → length s.0 ≡ length t.0 → open_of is ≤ 1
        → ((zs : List Value) → LengthsAgree (map item_exp is) vs ws → open_of is ≤ 1 → spliced is vs ≡ Some zs → spliced is ws ≡ Some zs → vs ≡ ws) → v ∷ vs ≡ w ∷ ws
    finish s t n few ih =
        let both = append_split s.0 t.0 s.1 t.1 (s.4 ∙ sym t.4) n in
        ap₂ (λ y z. y ∷ z) (chunk_value i v w s.0 t.0 s.2 t.2 both.0) (ih s.1 l.1 few s.3 (t.3 ∙ ap Some (sym both.1)))

    at : (b : Bool) → (item_lengths i).fixed ≡ b → (s : Spliced i is v vs zs) (t : Spliced i is w ws zs)
        → ((zs : List Value) → LengthsAgree (map item_exp is) vs ws → open_of is ≤ 1 → spliced is vs ≡ Some zs → spliced is ws ≡ Some zs → vs ≡ ws) → v ∷ vs ≡ w ∷ ws
    at true e s t ih = let n = (open_of_step i is).0 e in finish s t (chunk_length i v w s.0 t.0 e l.0 s.2 t.2) (omega (arith, n, o)) ih
    at false e s t ih =
        let n = (open_of_step i is).1 e in
        let few : open_of is ≡ 0 = omega (arith, n, o) in
        let rest = lengths_spliced is vs ws s.1 t.1 l.1 few s.3 t.3 in
        let whole : length s.0 + length s.1 ≡ length t.0 + length t.1 = sym (length-append s.0 s.1) ∙ (ap length (s.4 ∙ sym t.4) ∙ length-append t.0 t.1) in
        finish s t (omega (arith, rest, whole)) (omega (arith, few)) ih

-- the list that was made
pub listing_is : (is : List ListItem) (vs : List Value) (v : Value) → listing is vs ≡ Val v → (zs : List Value) × (spliced is vs ≡ Some zs) × (value.List zs ≡ v)
listing_is is vs v e = at (spliced is vs) refl (made_is (option_map value.List (spliced is vs)) v e)
  where
    at : (o : Option (List Value)) → spliced is vs ≡ o → option_map value.List o ≡ Some v → (zs : List Value) × (spliced is vs ≡ Some zs) × (value.List zs ≡ v)
    at None k e = cc
    at (Some zs) k e = (zs, k, some_one e)

list_one : (xs ys : List Value) (v : Value) → value.List xs ≡ v → value.List ys ≡ v → xs ≡ ys
list_one xs ys v p q = some_one (sym (elements-list xs) ∙ (ap elements (p ∙ sym q) ∙ elements-list ys))

pub same_list : (is : List ListItem) → open_of is ≤ 1 → SameOperands (map item_exp is) (listing is)
same_list is o vs ws v l p q =
    let s = listing_is is vs v p in
    let t = listing_is is ws v q in
    same_spliced is vs ws s.0 l o s.1 (t.1 ∙ ap Some (list_one t.0 s.0 v t.2 s.2))

same_length_list : (xs ys : List Value) (v w : Value) → value.List xs ≡ v → value.List ys ≡ w → length xs ≡ length ys → SameLength v w
same_length_list xs ys v w p q n cs ds e f =
    let one : xs ≡ cs = some_one (sym (elements-list xs) ∙ (ap elements p ∙ e)) in
    let two : ys ≡ ds = some_one (sym (elements-list ys) ∙ (ap elements q ∙ f)) in
    ap length (sym one) ∙ (n ∙ ap length two)

pub lengths_list : (is : List ListItem) → open_of is ≡ 0 → SameLengths (map item_exp is) (listing is)
lengths_list is o vs ws v w l p q =
    let s = listing_is is vs v p in
    let t = listing_is is ws w q in
    same_length_list s.0 t.0 v w s.2 t.2 (lengths_spliced is vs ws s.0 t.0 l o s.1 t.1)

-- ---- `++`

abbrev Joined : Value → Value → Value → Type 0
Joined x y v = (xs : List Value) × (ys : List Value) × (elements x ≡ Some xs) × (elements y ≡ Some ys) × (value.List (xs ++ ys) ≡ v)

joined_is : (x y v : Value) → binary concatenation (x ∷ y ∷ []) ≡ Val v → Joined x y v
joined_is x y v e = at (elements x) (elements y) refl refl (made_is (concatenation x y) v e)
  where
    at : (o p : Option (List Value)) → elements x ≡ o → elements y ≡ p → with_both (λ (xs ys : List Value). Some (value.List (xs ++ ys))) o p ≡ Some v → Joined x y v
    at None p j k e = cc
    at (Some xs) None j k e = cc
    at (Some xs) (Some ys) j k e = (xs, ys, j, k, some_one e)

-- a fact about the values of two operands
two_operands : (e g : IlExp) (P : List Value → List Value → Type 0) (vs ws : List Value) → LengthsAgree (e ∷ g ∷ []) vs ws
    → ((x y u z : Value) → ((lengths e).fixed ≡ true → SameLength x u) → ((lengths g).fixed ≡ true → SameLength y z) → P (x ∷ y ∷ []) (u ∷ z ∷ [])) → P vs ws
two_operands e g P [] ws l f = absurd l
two_operands e g P (x ∷ vs) [] l f = absurd l
two_operands e g P (x ∷ []) (u ∷ ws) l f = absurd l.1
two_operands e g P (x ∷ y ∷ vs) (u ∷ []) l f = absurd l.1
two_operands e g P (x ∷ y ∷ []) (u ∷ z ∷ []) l f = f x y u z l.0 l.1.0
two_operands e g P (x ∷ y ∷ []) (u ∷ z ∷ t ∷ ws) l f = absurd l.1.1
two_operands e g P (x ∷ y ∷ t ∷ vs) (u ∷ z ∷ []) l f = absurd l.1.1
two_operands e g P (x ∷ y ∷ t ∷ vs) (u ∷ z ∷ t' ∷ ws) l f = absurd (more vs ws)
  where
    more : (vs ws : List Value) → ⊥
    more vs ws = l.1.1

joined_same : (x y u z v : Value) (s : Joined x y v) (t : Joined u z v) → length s.0 ≡ length t.0 → x ∷ y ∷ [] ≡ u ∷ z ∷ []
joined_same x y u z v s t n =
    let both = append_split s.0 t.0 s.1 t.1 (list_one (s.0 ++ s.1) (t.0 ++ t.1) v s.4 t.4) n in
    ap₂ (λ p q. p ∷ q ∷ []) (list_of_elements x s.0 s.2 ∙ (ap value.List both.0 ∙ sym (list_of_elements u t.0 t.2)))
    (list_of_elements y s.1 s.3 ∙ (ap value.List both.1 ∙ sym (list_of_elements z t.1 t.3)))

joined_length : (x y u z v : Value) (s : Joined x y v) (t : Joined u z v) → length s.1 ≡ length t.1 → length s.0 ≡ length t.0
joined_length x y u z v s t n =
    let whole : length s.0 + length s.1 ≡ length t.0 + length t.1 =
    sym (length-append s.0 s.1) ∙ (ap length (list_one (s.0 ++ s.1) (t.0 ++ t.1) v s.4 t.4) ∙ length-append t.0 t.1) in
    omega (arith, n, whole)

-- one of two parts is of fixed length
one_fixed : (e g : IlExp) → open_parts (lengths e ∷ lengths g ∷ []) ≤ 1 → (b c : Bool) → (lengths e).fixed ≡ b → (lengths g).fixed ≡ c → (b || c) ≡ true
one_fixed e g o true c p q = refl
one_fixed e g o false true p q = refl
one_fixed e g o false false p q =
    let first = (open_step false (lengths e) (lengths g ∷ []) p).1 refl in
    let second = (open_step false (lengths g) [] q).1 refl in
    absurd (omega (arith, o, first, second))

pub same_cat : (e g : IlExp) → open_parts (lengths e ∷ lengths g ∷ []) ≤ 1 → SameOperands (e ∷ g ∷ []) (binary concatenation)
same_cat e g o vs ws v l p q =
    two_operands e g (λ vs ws. binary concatenation vs ≡ Val v → binary concatenation ws ≡ Val v → vs ≡ ws) vs ws l
    (λ x y u z first second p q. by x y u z first second (joined_is x y v p) (joined_is u z v q)) p q
  where
    by : (x y u z : Value) → ((lengths e).fixed ≡ true → SameLength x u) → ((lengths g).fixed ≡ true → SameLength y z) → (s : Joined x y v) (t : Joined u z v) → x ∷ y ∷ [] ≡ u ∷ z ∷ []
    by x y u z first second s t = at (lengths e).fixed (lengths g).fixed refl refl
      where
        at : (b c : Bool) → (lengths e).fixed ≡ b → (lengths g).fixed ≡ c → x ∷ y ∷ [] ≡ u ∷ z ∷ []
        at true c f k = joined_same x y u z v s t (first f s.0 t.0 s.2 t.2)
        at false true f k = joined_same x y u z v s t (joined_length x y u z v s t (second k s.1 t.1 s.3 t.3))
        at false false f k = let bad = one_fixed e g o false false f k in cc

pub lengths_cat : (e g : IlExp) → open_parts (lengths e ∷ lengths g ∷ []) ≡ 0 → SameLengths (e ∷ g ∷ []) (binary concatenation)
lengths_cat e g o vs ws v w l p q =
    two_operands e g (λ vs ws. binary concatenation vs ≡ Val v → binary concatenation ws ≡ Val w → SameLength v w) vs ws l
    (λ x y u z first second p q. by x y u z first second (joined_is x y v p) (joined_is u z w q)) p q
  where
    fixed : (l : Lengths) (ls : List Lengths) → open_parts (l ∷ ls) ≡ 0 → (l.fixed ≡ true) × (open_parts ls ≡ 0)
    fixed l ls o = at l.fixed refl
      where
        at : (b : Bool) → l.fixed ≡ b → (l.fixed ≡ true) × (open_parts ls ≡ 0)
        at true e = (e, sym ((open_step true l ls e).0 refl) ∙ o)
        at false e = let n = (open_step false l ls e).1 refl in absurd (omega (arith, n, o))

    by : (x y u z : Value) → ((lengths e).fixed ≡ true → SameLength x u) → ((lengths g).fixed ≡ true → SameLength y z) → (s : Joined x y v) (t : Joined u z w) → SameLength v w
    by x y u z first second s t =
        let f = fixed (lengths e) (lengths g ∷ []) o in
        let k = fixed (lengths g) [] f.1 in
        same_length_list (s.0 ++ s.1) (t.0 ++ t.1) v w s.4 t.4
        (length-append s.0 s.1 ∙ (ap₂ (λ y z. y + z) (first f.0 s.0 t.0 s.2 t.2) (second k.0 s.1 t.1 s.3 t.3) ∙ sym (length-append t.0 t.1)))

-- an injection is as what it injects
pub lengths_up : (e : IlExp) → (lengths e).fixed ≡ true → SameLengths (e ∷ []) unchanged
lengths_up e f [] ws v w l p q = absurd l
lengths_up e f (x ∷ vs) [] v w l p q = absurd l
lengths_up e f (x ∷ []) (y ∷ []) v w l p q = let one : x ≡ v = cc in let two : y ≡ w = cc in λ xs ys j k. l.0 f xs ys (ap elements one ∙ j) (ap elements two ∙ k)
lengths_up e f (x ∷ []) (y ∷ z ∷ ws) v w l p q = absurd l.1
lengths_up e f (x ∷ z ∷ vs) (y ∷ []) v w l p q = absurd l.1
lengths_up e f (x ∷ z ∷ vs) (y ∷ z' ∷ ws) v w l p q = cc

-- a constant has one length
pub lengths_constant : (es : List IlExp) (f : Operation) (u : Value) → ((vs : List Value) → f vs ≡ Val u) → SameLengths es f
lengths_constant es f u k vs ws v w l p q = let both : Val v ≡ Val w = sym p ∙ (k vs ∙ (sym (k ws) ∙ q)) in let same : v ≡ w = cc in length_itself v w same
