-- What the parts of a list lead to, from positions to positions.
use Rattle.std.proofs.Common.{◌≡◌, ℕ, suc, ◌+◌, ◌-◌, ◌<◌, ◌≤◌, refl, sym, ◌∙◌, ap, subst, List, [], ◌∷◌, ◌++◌, length, take, drop, get_or, arith, length-drop}
use borrow.Author.Count.{below_more}
use Rattle.std.proofs.lemmas.List.{take_more, take_all, drop_more, drop_all, drop-drop}
use Rattle.st_il.specs.declared.definition.SyntaxDef.{SyntaxDef}
use Rattle.st_il.specs.declared.expression.IlExp.{IlExp}
use Rattle.st_il.specs.declared.expression.IlExp.TheOpen.{ListItem-F}
use Rattle.st_il.specs.declared.expression.Iteration.{Iteration}
use Rattle.st_il.specs.declared.expression.PathSeg.{PathSeg}
use Rattle.st_il.specs.declared.expression.ListItem.{ListItem, out-ListItem}
use Rattle.st_il.specs.declared.expression.ListItem.TheVariants as item
use Rattle.st_il.specs.declared.value.Env.{Env}
use Rattle.st_il.specs.declared.value.Value.{Value}
use Rattle.st_il.specs.declared.value.Value.TheVariants as value
use Rattle.st_match.specs.declared.position.Position.{Position}
use Rattle.st_match.specs.inner.Fitting.{FitItems}
use Rattle.st_match.specs.inner.Covering.{AreCandidates, AreCandidatesOfItems, AreCandidatesOfSplit}
use Rattle.st_match.specs.inner.Positions.{FollowAll, PartLeads, ElementLeads, CutLeads, CutsLead, one_at, ones, MayMake, AreEnds}
use Rattle.st_match.proofs.Fits.{FitItems-none, FitItems-One, FitItems-All}
use Rattle.st_match.proofs.AreCandidates.{items_nothing, items_never, items_wider, items_later, items_One, items_All, split_here, split_within}

-- ---- several positions

FollowAll-parts : (items : List ListItem) (vs : List Value) (found : List Env) (xs ys : List Position) → FollowAll items vs found (xs ++ ys) → FollowAll items vs found xs × FollowAll items vs found ys
FollowAll-parts items vs found [] ys f = (tt, f)
FollowAll-parts items vs found (x ∷ xs) ys f = let r = FollowAll-parts items vs found xs ys f.1 in ((f.0, r.0), r.1)

FollowAll-both : (items : List ListItem) (vs : List Value) (found : List Env) (xs ys : List Position) → FollowAll items vs found xs → FollowAll items vs found ys → FollowAll items vs found (xs ++ ys)
FollowAll-both items vs found [] ys f g = g
FollowAll-both items vs found (x ∷ xs) ys f g = (f.0, FollowAll-both items vs found xs ys f.1 g)

FollowAll-wider : (items : List ListItem) (vs : List Value) (found more : List Env) (xs : List Position) → FollowAll items vs found xs → FollowAll items vs (found ++ more) xs
FollowAll-wider items vs found more [] f = tt
FollowAll-wider items vs found more (x ∷ xs) f = (items_wider items (drop x.taken vs) x.envs found more f.0, FollowAll-wider items vs found more xs f.1)

-- ---- one part after another

PartLeads-both : (part : ListItem) (rest : List ListItem) (vs : List Value) (before others xs ys : List Position) → PartLeads part rest vs before xs → PartLeads part rest vs others ys
    → PartLeads part rest vs (before ++ others) (xs ++ ys)
PartLeads-both part rest vs before others xs ys p q = record {
  lead = λ found f.
      let r = FollowAll-parts rest vs found xs ys f in
      FollowAll-both (part ∷ rest) vs found before others (p.lead found r.0) (q.lead found r.1);
}

pub PartLeads-nothing : (part : ListItem) (rest : List ListItem) (vs : List Value) (after : List Position) → PartLeads part rest vs [] after
PartLeads-nothing part rest vs after = record { lead = λ found f. tt }

-- one more of the positions
pub PartLeads-step : (part : ListItem) (rest : List ListItem) (vs : List Value) (before xs ys after : List Position) (i : ℕ) (position : Position) → i < length before → position ≡ get_or before i position → after ≡ xs ++ ys
    → PartLeads part rest vs (take i before) xs → PartLeads part rest vs (position ∷ []) ys → PartLeads part rest vs (take (i + 1) before) after
PartLeads-step part rest vs before xs ys after i position h is made p q =
    subst (PartLeads part rest vs (take (i + 1) before)) (sym made)
    (subst (λ z. PartLeads part rest vs z (xs ++ ys)) (sym (take_more before i position h ∙ ap (λ z. take i before ++ z ∷ []) (sym is)))
    (PartLeads-both part rest vs (take i before) (position ∷ []) xs ys p q))

pub PartLeads-all : (part : ListItem) (rest : List ListItem) (vs : List Value) (before after : List Position) (i : ℕ) → length before ≤ i → PartLeads part rest vs (take i before) after → PartLeads part rest vs before after
PartLeads-all part rest vs before after i h p = subst (λ z. PartLeads part rest vs z after) (take_all i before h) p

pub ElementLeads-nothing : (p : IlExp) (vs : List Value) (after : List Position) → ElementLeads p vs [] after
ElementLeads-nothing p vs after = record { lead = λ rest. PartLeads-nothing (item.One p) rest vs after }

pub ElementLeads-step : (p : IlExp) (vs : List Value) (before xs ys after : List Position) (i : ℕ) (position : Position) → i < length before → position ≡ get_or before i position → after ≡ xs ++ ys
    → ElementLeads p vs (take i before) xs → ElementLeads p vs (position ∷ []) ys → ElementLeads p vs (take (i + 1) before) after
ElementLeads-step p vs before xs ys after i position h is made c d = record { lead = λ rest. PartLeads-step (item.One p) rest vs before xs ys after i position h is made (c.lead rest) (d.lead rest) }

pub ElementLeads-all : (p : IlExp) (vs : List Value) (before after : List Position) (i : ℕ) → length before ≤ i → ElementLeads p vs (take i before) after → ElementLeads p vs before after
ElementLeads-all p vs before after i h c = record { lead = λ rest. PartLeads-all (item.One p) rest vs before after i h (c.lead rest) }

-- ---- an element

-- no element is left
pub ElementLeads-short : (p : IlExp) (vs : List Value) (position : Position) (after : List Position) → length vs ≤ position.taken → ElementLeads p vs (position ∷ []) after
ElementLeads-short p vs position after h = record {
  lead = λ rest. record {
    lead = λ found f. (
      items_never (item.One p ∷ rest) (drop position.taken vs) position.envs found (λ defs s g.
          let r = FitItems-One defs s (item.One p) p rest (drop position.taken vs) (item.outs-One p) g in
          let bad : r.0 ∷ r.1 ≡ [] = r.2 ∙ drop_all position.taken vs h in cc),
      tt,
    );
  };
}

-- the positions behind an element
pub ElementLeads-next : (p : IlExp) (vs : List Value) (position : Position) (after : List Position) (v : Value) (es hs : List Env) → position.taken < length vs → v ≡ get_or vs position.taken v → es ≡ position.envs
    → AreCandidates p v es hs → ((rest : List ListItem) (found : List Env) → FollowAll rest vs found after → AreCandidatesOfItems rest (drop (position.taken + 1) vs) hs found)
    → ElementLeads p vs (position ∷ []) after
ElementLeads-next p vs position after v es hs h is same c d = record {
  lead = λ rest. record {
    lead = λ found f. (
      items_One (item.One p ∷ rest) rest (item.One p) p (drop position.taken vs) (drop (position.taken + 1) vs) v position.envs hs hs found refl (item.outs-One p)
          (drop_more vs position.taken v h ∙ ap (λ z. z ∷ drop (position.taken + 1) vs) (sym is)) refl
          (subst (λ z. AreCandidates p v z hs) same c) (d rest found f),
      tt,
    );
  };
}

-- from no environment
pub follow-nothing : (vs : List Value) (after : List Position) (n : ℕ) (hs : List Env) → hs ≡ [] → (rest : List ListItem) (found : List Env) → FollowAll rest vs found after
    → AreCandidatesOfItems rest (drop n vs) hs found
follow-nothing vs after n hs none rest found f = items_nothing rest (drop n vs) hs found none

-- a position
abbrev pub position_at : ℕ → List Env → Position
position_at n es = record { taken = n; envs = es }

-- from one position
pub follow-position : (vs : List Value) (after : List Position) (n : ℕ) (hs : List Env) → after ≡ position_at n hs ∷ [] → (rest : List ListItem) (found : List Env) → FollowAll rest vs found after
    → AreCandidatesOfItems rest (drop n vs) hs found
follow-position vs after n hs one rest found f = (subst (FollowAll rest vs found) one f).0

-- ---- all elements of a list

pub CutLeads-next : (p : IlExp) (vs : List Value) (n : ℕ) (position : Position) (after : List Position) (ws : List Value) (es hs : List Env) → ws ≡ take n (drop position.taken vs) → es ≡ position.envs
    → AreCandidates p (value.List ws) es hs → ((rest : List ListItem) (found : List Env) → FollowAll rest vs found after → AreCandidatesOfItems rest (drop (position.taken + n) vs) hs found)
    → CutLeads p vs n position after
CutLeads-next p vs n position after ws es hs part same c d = record {
  lead = λ rest found f.
      split_here p rest (drop position.taken vs) (drop (position.taken + n) vs) n (value.List ws) position.envs hs hs found (ap value.List part) (sym (drop-drop n position.taken vs)) refl
      (subst (λ z. AreCandidates p (value.List ws) z hs) same c) (d rest found f);
}

-- one more of the numbers of elements
pub CutsLead-begin : (p : IlExp) (vs : List Value) (first : ℕ) (position : Position) (after : List Position) → CutsLead p vs first first position after
CutsLead-begin p vs first position after = record { lead = λ rest found f n less le. absurd (omega (arith, less, le)) }

pub CutsLead-step : (p : IlExp) (vs : List Value) (position : Position) (xs ys after : List Position) (first n : ℕ) → after ≡ xs ++ ys → CutsLead p vs first n position xs → CutLeads p vs n position ys → CutsLead p vs first (n + 1) position after
CutsLead-step p vs position xs ys after first n made c d = record {
  lead = λ rest found f k h.
      let r = FollowAll-parts rest vs found xs ys (subst (FollowAll rest vs found) made f) in
      below_more (λ (j : ℕ). first ≤ j → AreCandidatesOfSplit p rest (drop position.taken vs) j position.envs found) n (c.lead rest found r.0) (λ le. d.lead rest found r.1) k h;
}

pub CutsLead-end : (p : IlExp) (vs : List Value) (position : Position) (after : List Position) (first n end : ℕ) → end ≤ n → CutsLead p vs first n position after → CutsLead p vs first end position after
CutsLead-end p vs position after first n end h c = record { lead = λ rest found f k less le. c.lead rest found f k (omega (arith, less, h)) le }

ones_few : (items : List ListItem) → ones items ≤ length items
ones_few [] = omega arith
ones_few (i ∷ is) = let few = ones_few is in at (out-ListItem i) few
  where
    at : (y : ListItem-F IlExp Iteration ListItem PathSeg) → ones is ≤ length is → one_at y + ones is ≤ suc (length is)
    at (ListItem-F.One e) few = omega (arith, few)
    at (ListItem-F.All e) few = omega (arith, few)

pub MayMake-fits : (defs : List SyntaxDef) (s : Env) (items : List ListItem) (vs : List Value) → FitItems defs items vs s → MayMake items (length vs)
MayMake-fits defs s [] vs f = let none = ap length (FitItems-none defs s vs f) in record { enough = omega (arith, none); exact = λ e. none }
MayMake-fits defs s (i ∷ is) vs f = at (out-ListItem i) refl (λ ws g. MayMake-fits defs s is ws g)
  where
    made : (y : ListItem-F IlExp Iteration ListItem PathSeg) → out-ListItem i ≡ y → one_at y + ones is ≤ length vs → (one_at y + ones is ≡ suc (length is) → length vs ≡ one_at y + ones is) → MayMake (i ∷ is) (length vs)
    made y o enough exact = record {
      enough = subst (λ z. one_at z + ones is ≤ length vs) (sym o) enough;
      exact = subst (λ z. one_at z + ones is ≡ suc (length is) → length vs ≡ one_at z + ones is) (sym o) exact;
    }

    one : (e : IlExp) → out-ListItem i ≡ ListItem-F.One e → ((ws : List Value) → FitItems defs is ws s → MayMake is (length ws)) → MayMake (i ∷ is) (length vs)
    one e o others =
        let r = FitItems-One defs s i e is vs o f in
        let m = others r.1 r.4 in
        let long : suc (length r.1) ≡ length vs = ap length r.2 in
        made (ListItem-F.One e) o (let few = m.enough in omega (arith, few, long)) (λ k. let same : ones is ≡ length is = omega (arith, k) in let n = m.exact same in omega (arith, n, long))

    all : (e : IlExp) → out-ListItem i ≡ ListItem-F.All e → ((ws : List Value) → FitItems defs is ws s → MayMake is (length ws)) → MayMake (i ∷ is) (length vs)
    all e o others =
        let r = FitItems-All defs s i e is vs o f in
        let m = others (drop r.0 vs) r.2.1 in
        made (ListItem-F.All e) o (let few = m.enough in omega (arith, few, length-drop r.0 vs)) (λ k. let few = ones_few is in absurd (omega (arith, k, few)))

    at : (y : ListItem-F IlExp Iteration ListItem PathSeg) → out-ListItem i ≡ y → ((ws : List Value) → FitItems defs is ws s → MayMake is (length ws)) → MayMake (i ∷ is) (length vs)
    at (ListItem-F.One e) o others = one e o others
    at (ListItem-F.All e) o others = all e o others

-- all that may be together
pub PartLeads-cuts : (p : IlExp) (vs : List Value) (rest : List ListItem) (position : Position) (after : List Position) (left : List Value) (first end : ℕ) → left ≡ drop position.taken vs → AreEnds rest (length left) first end
    → CutsLead p vs first end position after → PartLeads (item.All p) rest vs (position ∷ []) after
PartLeads-cuts p vs rest position after left first end is ends c = record {
  lead = λ found f. (items_All (item.All p ∷ rest) rest (item.All p) p (drop position.taken vs) position.envs found refl (item.outs-All p) (split found f), tt);
}
  where
    split : (found : List Env) → FollowAll rest vs found after → (k : ℕ) → k ≤ length (drop position.taken vs) → AreCandidatesOfSplit p rest (drop position.taken vs) k position.envs found
    split found f k few =
        let long : length left ≡ length (drop position.taken vs) = ap length is in
        split_within p rest (drop position.taken vs) k position.envs found (λ defs s g.
        let m : MayMake rest (length left - k) =
        subst (MayMake rest) (length-drop k (drop position.taken vs) ∙ ap (λ z. z - k) (sym long)) (MayMake-fits defs s rest (drop k (drop position.taken vs)) g) in
        let b = ends.all k (omega (arith, few, long)) m in
        c.lead rest found f k b.1 b.0)

-- ---- the whole list

pub items_step : (items : List ListItem) (vs : List Value) (es : List Env) (i : ℕ) (part : ListItem) (rest : List ListItem) (positions before after : List Position) → i < length items → part ≡ get_or items i part
    → rest ≡ drop (i + 1) items → before ≡ positions → PartLeads part rest vs before after
    → ((found : List Env) → FollowAll (drop i items) vs found positions → AreCandidatesOfItems items vs es found)
    → (found : List Env) → FollowAll (drop (i + 1) items) vs found after → AreCandidatesOfItems items vs es found
items_step items vs es i part rest positions before after h is others same p c found f =
    let g = (subst (λ z. PartLeads part rest vs z after) same p).lead found (subst (λ z. FollowAll z vs found after) (sym others) f) in
    let front : part ∷ rest ≡ drop i items = ap (λ z. part ∷ z) others ∙ (ap (λ z. z ∷ drop (i + 1) items) is ∙ sym (drop_more items i part h)) in
    c found (subst (λ z. FollowAll z vs found positions) front g)

-- ---- the positions at the end

pub finished-step : (vs : List Value) (found more after : List Env) (positions : List Position) (i : ℕ) (position : Position) → i < length positions → position ≡ get_or positions i position → after ≡ found ++ more
    → FollowAll [] vs found (take i positions) → AreCandidatesOfItems [] (drop position.taken vs) position.envs more → FollowAll [] vs after (take (i + 1) positions)
finished-step vs found more after positions i position h is made f c =
    subst (λ z. FollowAll [] vs z (take (i + 1) positions)) (sym made)
    (subst (FollowAll [] vs (found ++ more)) (sym (take_more positions i position h ∙ ap (λ z. take i positions ++ z ∷ []) (sym is)))
    (FollowAll-both [] vs (found ++ more) (take i positions) (position ∷ []) (FollowAll-wider [] vs found more (take i positions) f) (items_later [] (drop position.taken vs) position.envs found more c, tt)))

pub finished-early : (vs : List Value) (position : Position) (found : List Env) → position.taken < length vs → AreCandidatesOfItems [] (drop position.taken vs) position.envs found
finished-early vs position found h = items_never [] (drop position.taken vs) position.envs found
    (λ defs s f. let none = ap length (FitItems-none defs s (drop position.taken vs) f) in absurd (omega (arith, length-drop position.taken vs, none, h)))
