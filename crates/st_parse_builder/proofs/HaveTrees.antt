-- Parts that all have a tree behind an action were made of parts that all had one.
use Rattle.std.proofs.Common.{◌≡◌, ℕ, List, [], ◌∷◌, ◌++◌, Bool, true, false, Option, Some, None, option_and_then, refl, sym, ap, subst, ◌∙◌, if◌then◌else◌}
use Rattle.std.specs.Option.{option_map}
use Rattle.st_num.specs.declared.span.Span.{Span}
use Rattle.st_el.specs.declared.expression.Exp.{Exp}
use Rattle.st_el.specs.declared.expression.Node.TheVariants as node
use Rattle.st_el.specs.declared.expression.Count.TheVariants as count
use Rattle.st_el.specs.declared.expression.Seg.{Seg}
use Rattle.st_el.specs.declared.expression.Seg.TheVariants as seg
use Rattle.st_grammar.specs.declared.action.Action.{Action}
use Rattle.st_grammar.specs.declared.action.Action.TheVariants as action
use Rattle.st_parse_builder.specs.declared.built.Built.{Built}
use Rattle.st_parse_builder.specs.declared.piece.Piece.{Piece}
use Rattle.st_parse_builder.specs.declared.piece.Piece.TheVariants.{Done, Parts, Fields, Path, Label, Here}
use Rattle.st_parse_builder.specs.Names.{name_of, leaf_node}
use Rattle.st_parse_builder.specs.Meaning.{exp, place, opened, joined, prefixed, dotted, iterated, mark_count, in_parens, enclosed, changed}
use Rattle.st_parse_builder.specs.inner.Building as pieces
use Rattle.st_parse_builder.specs.inner.Parts.{above, kept, untold, over, raised, both_trees, both, read_tree, read_known, Makes, made_or}
use Rattle.st_parse_builder.specs.inner.Entries.{Stack, done_in, parts_in, fields_in, path_in, label_in, place_in, top_done, top_parts, top_fields, top_path, top_label, top_place, top_pair, top_whole, starts, goes_on, behind, call_of, applied, alone, the_exp}
use Rattle.st_parse_builder.specs.inner.HaveTrees.{HaveTrees, TreesCome}
use Rattle.st_parse_builder.proofs.PartLemmas.{part, by_height}
use Rattle.st_parse_builder.proofs.Tops.{on_some}

-- ---- parts

pub kept_has : {A : Type 0} (n : ℕ) (tree : Option A) (a : A) → kept n tree ≡ Some a → tree ≡ Some a
kept_has n tree a h = by_height n tree (λ low e. sym e ∙ h) (λ high e. absurd (cc))

pub both_has : {A B : Type 0} (left : Option A) (right : Option B) (x : A × B) → both_trees left right ≡ Some x → (left ≡ Some x.0) × (right ≡ Some x.1)
both_has (Some a) (Some b) x h = let is : (a, b) ≡ x = cc in (ap (λ y. Some y.0) is, ap (λ y. Some y.1) is)
both_has (Some a) None x h = absurd (cc)
both_has None right x h = absurd (cc)

-- a part that is raised, or stays as it is
pub either_has : {A : Type 0} (b : Bool) (p : Built A) (a : A) → (if b then p else raised p).tree ≡ Some a → p.tree ≡ Some a
either_has true p a h = h
either_has false p a h = kept_has (above p.height) p.tree a h

pub on_mapped : {A B : Type 0} (f : A → B) (o : Option A) (b : B) {Q : Type 0} → option_map f o ≡ Some b → ((a : A) → o ≡ Some a → f a ≡ b → Q) → Q
on_mapped f None b h k = absurd (cc)
on_mapped f (Some a) b h k = let is : f a ≡ b = cc in k a refl is

-- what is read as another sort, and has a tree
pub read_has : {A P : Type 0} (g : P → Option A) (x : Built P) (p : Built A) (a : A) {Q : Type 0} → read_tree g x.tree x.height x.from ≡ Some p → p.tree ≡ Some a → ((y : P) → x.tree ≡ Some y → g y ≡ Some a → Q) → Q
read_has {A} {P} g x p a {Q} h e k = by x.tree refl h
  where
    by : (o : Option P) → x.tree ≡ o → read_tree g o x.height x.from ≡ Some p → Q
    by None i h = let is : part x.from None x.height ≡ p = cc in let none : None ≡ Some a = ap (λ q. q.tree) is ∙ e in absurd (cc)
    by (Some y) i h = on_mapped (λ b. part x.from (Some b) x.height) (g y) p h (λ b j m. k y i (j ∙ ap (λ q. q.tree) m ∙ e))

-- ---- parts on a stack

pub on_first : {P : Type 0} (p : Built P) (ps : List (Built P)) (ts : List P) {Q : Type 0} → HaveTrees (p ∷ ps) ts → ((t : P) (rest : List P) → ts ≡ t ∷ rest → p.tree ≡ Some t → HaveTrees ps rest → Q) → Q
on_first p ps [] h k = absurd h
on_first p ps (t ∷ ts) h k = k t ts refl h.0 h.1

pub no_trees : {P : Type 0} (ts : List P) → HaveTrees {P = P} [] ts → [] ≡ ts
no_trees [] h = refl
no_trees (t ∷ ts) h = absurd h

-- Parts that are equal to these have their trees.
pub equal_have : {P : Type 0} (ps qs : List (Built P)) (ts : List P) → ps ≡ qs → HaveTrees qs ts → HaveTrees ps ts
equal_have ps qs ts e h = subst (λ v. HaveTrees v ts) (sym e) h

-- a part that is taken off and has a tree
pub top_has : {A P : Type 0} (g : P → Option A) (x : Built P) (s : List (Built P)) (y : Built A × List (Built P)) (a : A) {Q : Type 0} → option_map (λ q. (q, s)) (read_tree g x.tree x.height x.from) ≡ Some y → y.0.tree ≡ Some a
    → ((t : P) → x.tree ≡ Some t → g t ≡ Some a → s ≡ y.1 → Q) → Q
top_has g x s y a h e k =
    on_mapped (λ q. (q, s)) (read_tree g x.tree x.height x.from) y h
    (λ q i j. read_has g x q a i (ap (λ z. z.0.tree) j ∙ e) (λ t l m. k t l m (ap (λ z. z.1) j)))

-- what is taken off, where it is known
pub known_has : {A P : Type 0} (g : P → Option A) (x : Built P) (s : List (Built P)) (y : A × List (Built P)) {Q : Type 0} → option_map (λ a. (a, s)) (read_known g x.tree) ≡ Some y
    → ((t : P) → x.tree ≡ Some t → g t ≡ Some y.0 → s ≡ y.1 → Q) → Q
known_has {A} {P} g x s y {Q} h k = by x.tree refl h
  where
    by : (o : Option P) → x.tree ≡ o → option_map (λ a. (a, s)) (read_known g o) ≡ Some y → Q
    by None i h = absurd (cc)
    by (Some t) i h = on_mapped (λ a. (a, s)) (g t) y h (λ a j m. k t i (j ∙ ap (λ z. Some z.0) m) (ap (λ z. z.1) m))

is_done : (t : Piece) (e : Exp) → done_in t ≡ Some e → t ≡ Done e
is_done (Done f) e h = let is : f ≡ e = cc in ap Done is
is_done t e h = absurd (cc)

is_parts : (t : Piece) (x : Span × List Exp) → parts_in t ≡ Some x → t ≡ Parts x.0 x.1
is_parts (Parts at es) x h = let is : (at, es) ≡ x = cc in ap (λ y. Parts y.0 y.1) is
is_parts t x h = absurd (cc)

is_fields : (t : Piece) (x : Span × List (List ℕ × Exp)) → fields_in t ≡ Some x → t ≡ Fields x.0 x.1
is_fields (Fields at fs) x h = let is : (at, fs) ≡ x = cc in ap (λ y. Fields y.0 y.1) is
is_fields t x h = absurd (cc)

is_path : (t : Piece) (ps : List Seg) → path_in t ≡ Some ps → t ≡ Path ps
is_path (Path qs) ps h = let is : qs ≡ ps = cc in ap Path is
is_path t ps h = absurd (cc)

is_label : (t : Piece) (name : List ℕ) → label_in t ≡ Some name → t ≡ Label name
is_label (Label other) name h = let is : other ≡ name = cc in ap Label is
is_label t name h = absurd (cc)

is_place : (t : Piece) (at : Span) → place_in t ≡ Some at → t ≡ Here at
is_place (Here other) at h = let is : other ≡ at = cc in ap Here is
is_place t at h = absurd (cc)

pub done_has : (t : Stack) (x : Built Exp × Stack) (e : Exp) (s : pieces.Stack) → top_done t ≡ Some x → x.0.tree ≡ Some e → HaveTrees x.1 s → HaveTrees t (Done e ∷ s)
done_has [] x e s h i j = absurd (cc)
done_has (p ∷ t) x e s h i j = top_has done_in p t x e h i (λ y k l m. (k ∙ ap Some (is_done y e l), equal_have t x.1 s m j))

parts_has : (t : Stack) (x : Built (Span × List Exp) × Stack) (a : Span × List Exp) (s : pieces.Stack) → top_parts t ≡ Some x → x.0.tree ≡ Some a → HaveTrees x.1 s → HaveTrees t (Parts a.0 a.1 ∷ s)
parts_has [] x a s h i j = absurd (cc)
parts_has (p ∷ t) x a s h i j = top_has parts_in p t x a h i (λ y k l m. (k ∙ ap Some (is_parts y a l), equal_have t x.1 s m j))

fields_has : (t : Stack) (x : Built (Span × List (List ℕ × Exp)) × Stack) (a : Span × List (List ℕ × Exp)) (s : pieces.Stack) → top_fields t ≡ Some x → x.0.tree ≡ Some a → HaveTrees x.1 s → HaveTrees t (Fields a.0 a.1 ∷ s)
fields_has [] x a s h i j = absurd (cc)
fields_has (p ∷ t) x a s h i j = top_has fields_in p t x a h i (λ y k l m. (k ∙ ap Some (is_fields y a l), equal_have t x.1 s m j))

path_has : (t : Stack) (x : Built (List Seg) × Stack) (ps : List Seg) (s : pieces.Stack) → top_path t ≡ Some x → x.0.tree ≡ Some ps → HaveTrees x.1 s → HaveTrees t (Path ps ∷ s)
path_has [] x ps s h i j = absurd (cc)
path_has (p ∷ t) x ps s h i j = top_has path_in p t x ps h i (λ y k l m. (k ∙ ap Some (is_path y ps l), equal_have t x.1 s m j))

label_has : (t : Stack) (x : List ℕ × Stack) (s : pieces.Stack) → top_label t ≡ Some x → HaveTrees x.1 s → HaveTrees t (Label x.0 ∷ s)
label_has [] x s h j = absurd (cc)
label_has (p ∷ t) x s h j = known_has label_in p t x h (λ y k l m. (k ∙ ap Some (is_label y x.0 l), equal_have t x.1 s m j))

place_has : (t : Stack) (x : Span × Stack) (s : pieces.Stack) → top_place t ≡ Some x → HaveTrees x.1 s → HaveTrees t (Here x.0 ∷ s)
place_has [] x s h j = absurd (cc)
place_has (p ∷ t) x s h j = known_has place_in p t x h (λ y k l m. (k ∙ ap Some (is_place y x.0 l), equal_have t x.1 s m j))

pair_has : (t : Stack) (x : Built (Exp × Exp) × Stack) (a : Exp × Exp) (s : pieces.Stack) → top_pair t ≡ Some x → x.0.tree ≡ Some a → HaveTrees x.1 s → HaveTrees t (Done a.1 ∷ Done a.0 ∷ s)
pair_has t x a s h i j =
    on_some (top_done t) x _ h (λ r k h. on_some (top_done r.1) x _ h (λ l m h.
    let is : (both l.0 r.0, l.1) ≡ x = cc in
    let two : (l.0.tree ≡ Some a.0) × (r.0.tree ≡ Some a.1) = both_has l.0.tree r.0.tree a (ap (λ y. y.0.tree) is ∙ i) in
    done_has t r a.1 (Done a.0 ∷ s) k two.1 (done_has r.1 l a.0 s m two.0 (equal_have l.1 x.1 s (ap (λ y. y.1) is) j))))

is_start : (o : Option (List Seg)) → starts o ≡ true → o ≡ Some []
is_start (Some []) h = refl
is_start (Some (p ∷ ps)) h = absurd (cc)
is_start None h = absurd (cc)

whole_has : (t : Stack) (x : Built Exp × Stack) (e : Exp) (s : pieces.Stack) → top_whole t ≡ Some x → x.0.tree ≡ Some e → HaveTrees x.1 s → HaveTrees t (Path [] ∷ Done e ∷ s)
whole_has t x e s h i j = on_some (top_path t) x _ h (λ p k h. by p (starts p.0.tree) refl k h)
  where
    by : (p : Built (List Seg) × Stack) (b : Bool) → starts p.0.tree ≡ b → top_path t ≡ Some p → (if starts p.0.tree then top_done p.1 else None) ≡ Some x → HaveTrees t (Path [] ∷ Done e ∷ s)
    by p true is k h =
        path_has t p [] (Done e ∷ s) k (is_start p.0.tree is)
        (done_has p.1 x e s (sym (ap (λ b. if b then top_done p.1 else None) is) ∙ h) i j)
    by p false is k h = let none : None ≡ Some x = sym (ap (λ b. if b then top_done p.1 else None) is) ∙ h in absurd (cc)

-- ---- what is put

-- what was put has the tree that is on top
put_has : {P : Type 0} (p : Built P) (r v : List (Built P)) (u : List P) {Q : Type 0} → Some (p ∷ r) ≡ Some v → HaveTrees v u → ((t : P) (s : List P) → u ≡ t ∷ s → p.tree ≡ Some t → HaveTrees r s → Q) → Q
put_has p r v u h j k = let is : p ∷ r ≡ v = cc in on_first p r u (equal_have (p ∷ r) v u is j) k

-- what is made of a tree that is as high
pub same_has : {A P : Type 0} (f : A → P) (p : Built A) (r v : List (Built P)) (u : List P) {Q : Type 0} → Some (over f p ∷ r) ≡ Some v → HaveTrees v u
    → ((a : A) (s : List P) → p.tree ≡ Some a → HaveTrees r s → f a ∷ s ≡ u → Q) → Q
same_has f p r v u h j k =
    put_has (over f p) r v u h j (λ t s i l m. on_mapped f p.tree t l (λ a n o. k a s n m (ap (λ d. d ∷ s) o ∙ sym i)))

-- what is made of a tree, one higher
pub higher_has : {A P : Type 0} (f : A → P) (p : Built A) (r v : List (Built P)) (u : List P) {Q : Type 0} → Some (over f (raised p) ∷ r) ≡ Some v → HaveTrees v u
    → ((a : A) (s : List P) → p.tree ≡ Some a → HaveTrees r s → f a ∷ s ≡ u → Q) → Q
higher_has f p r v u h j k = same_has f (raised p) r v u h j (λ a s i m o. k a s (kept_has (above p.height) p.tree a i) m o)

-- what begins
pub begun_has : {P : Type 0} (p : Built P) (t : P) (r v : List (Built P)) (u : List P) → p.tree ≡ Some t → Some (p ∷ r) ≡ Some v → HaveTrees v u
    → (s : List P) × HaveTrees r s × (Some (t ∷ s) ≡ Some u)
begun_has p t r v u e h j = put_has p r v u h j (λ d s i l m. let is : t ≡ d = cc in (s, m, ap Some (ap (λ q. q ∷ s) is ∙ sym i)))

-- ---- actions

pub trees_come : (seen : ℕ) (a : Action) (t v : Stack) → applied seen a t ≡ Some v → TreesCome a t v
trees_come seen (action.Operand k x) t v h u j = begun_has _ (Done (exp x.at (leaf_node k x.kind))) t v u refl h j
trees_come seen (action.Label x) t v h u j = begun_has _ (Label (name_of x.kind)) t v u refl h j
trees_come seen (action.Here b) t v h u j = begun_has _ (Here b) t v u refl h j
trees_come seen (action.Open b) t v h u j = begun_has _ (Parts b []) t v u refl h j
trees_come seen (action.OpenFields b) t v h u j = begun_has _ (Fields b []) t v u refl h j
trees_come seen action.OpenPath t v h u j = begun_has _ (Path []) t v u refl h j
trees_come seen (action.Dot x) t v h u j = on_some (top_done t) v _ h (λ p i h.
    same_has (λ e. Done (dotted e x)) (behind x p.0) p.1 v u h j (λ e s k l o.
    (Done e ∷ s, done_has t p e s i (either_has (goes_on x p.0.tree) p.0 e k) l, ap Some o)))
trees_come seen (action.Mark m) t v h u j = on_some (top_done t) v _ h (λ p i h.
    higher_has (λ e. Done (iterated e (mark_count m))) p.0 p.1 v u h j (λ e s k l o.
    (Done e ∷ s, done_has t p e s i k l, ap Some o)))
trees_come seen action.First t v h u j = on_some (top_done t) v _ h (λ p i h.
    same_has (λ e. Parts (place e) (e ∷ [])) p.0 p.1 v u h j (λ e s k l o.
    (Done e ∷ s, done_has t p e s i k l, ap Some o)))
trees_come seen (action.Prefix m) t v h u j = on_some (top_done t) v _ h (λ p i h. on_some (top_place p.1) v _ h (λ b n h.
    higher_has (λ e. Done (prefixed m b.0 e)) p.0 b.1 v u h j (λ e s k l o.
    (Done e ∷ Here b.0 ∷ s, done_has t p e (Here b.0 ∷ s) i k (place_has p.1 b s n l), ap Some o))))
trees_come seen (action.Enclose c) t v h u j = on_some (top_done t) v _ h (λ p i h. on_some (top_place p.1) v _ h (λ b n h.
    higher_has (λ e. Done (exp b.0 (enclosed c e))) p.0 b.1 v u h j (λ e s k l o.
    (Done e ∷ Here b.0 ∷ s, done_has t p e (Here b.0 ∷ s) i k (place_has p.1 b s n l), ap Some o))))
trees_come seen action.Length t v h u j = on_some (top_done t) v _ h (λ p i h. on_some (top_place p.1) v _ h (λ b n h.
    higher_has (λ e. Done (exp b.0 (node.Len e))) p.0 b.1 v u h j (λ e s k l o.
    (Done e ∷ Here b.0 ∷ s, done_has t p e (Here b.0 ∷ s) i k (place_has p.1 b s n l), ap Some o))))
trees_come seen action.Times t v h u j = on_some (top_pair t) v _ h (λ p i h.
    higher_has (λ x. Done (iterated x.0 (count.Times x.1))) p.0 p.1 v u h j (λ x s k l o.
    (Done x.1 ∷ Done x.0 ∷ s, pair_has t p x s i k l, ap Some o)))
trees_come seen (action.Join m) t v h u j = on_some (top_pair t) v _ h (λ p i h.
    higher_has (λ x. Done (joined x.0 m x.1)) p.0 p.1 v u h j (λ x s k l o.
    (Done x.1 ∷ Done x.0 ∷ s, pair_has t p x s i k l, ap Some o)))
trees_come seen action.EndParens t v h u j = on_some (top_parts t) v _ h (λ p i h.
    higher_has (λ x. Done (exp x.0 (in_parens x.1))) p.0 p.1 v u h j (λ x s k l o.
    (Parts x.0 x.1 ∷ s, parts_has t p x s i k l, ap Some o)))
trees_come seen action.EndSequence t v h u j = on_some (top_parts t) v _ h (λ p i h.
    higher_has (λ x. Done (exp x.0 (node.Seq x.1))) p.0 p.1 v u h j (λ x s k l o.
    (Parts x.0 x.1 ∷ s, parts_has t p x s i k l, ap Some o)))
trees_come seen action.EndFields t v h u j = on_some (top_fields t) v _ h (λ p i h.
    higher_has (λ x. Done (exp x.0 (node.Fields x.1))) p.0 p.1 v u h j (λ x s k l o.
    (Fields x.0 x.1 ∷ s, fields_has t p x s i k l, ap Some o)))
trees_come seen (action.StepField x) t v h u j = on_some (top_path t) v _ h (λ p i h.
    same_has (λ ps. Path (ps ++ seg.Field (name_of x.kind) ∷ [])) p.0 p.1 v u h j (λ ps s k l o.
    (Path ps ∷ s, path_has t p ps s i k l, ap Some o)))
trees_come seen action.Part t v h u j = on_some (top_done t) v _ h (λ p i h. on_some (top_parts p.1) v _ h (λ q n h.
    same_has (λ x. Parts x.0.0 (x.0.1 ++ x.1 ∷ [])) (both q.0 p.0) q.1 v u h j (λ x s k l o.
    let two : (q.0.tree ≡ Some x.0) × (p.0.tree ≡ Some x.1) = both_has q.0.tree p.0.tree x k in
    (Done x.1 ∷ Parts x.0.0 x.0.1 ∷ s, done_has t p x.1 (Parts x.0.0 x.0.1 ∷ s) i two.1 (parts_has p.1 q x.0 s n two.0 l), ap Some o))))
trees_come seen action.StepAt t v h u j = on_some (top_done t) v _ h (λ p i h. on_some (top_path p.1) v _ h (λ q n h.
    same_has (λ x. Path (x.0 ++ seg.At x.1 ∷ [])) (both q.0 p.0) q.1 v u h j (λ x s k l o.
    let two : (q.0.tree ≡ Some x.0) × (p.0.tree ≡ Some x.1) = both_has q.0.tree p.0.tree x k in
    (Done x.1 ∷ Path x.0 ∷ s, done_has t p x.1 (Path x.0 ∷ s) i two.1 (path_has p.1 q x.0 s n two.0 l), ap Some o))))
trees_come seen action.StepSlice t v h u j = on_some (top_pair t) v _ h (λ p i h. on_some (top_path p.1) v _ h (λ q n h.
    same_has (λ x. Path (x.0 ++ seg.Slice x.1.0 x.1.1 ∷ [])) (both q.0 p.0) q.1 v u h j (λ x s k l o.
    let two : (q.0.tree ≡ Some x.0) × (p.0.tree ≡ Some x.1) = both_has q.0.tree p.0.tree x k in
    (Done x.1.1 ∷ Done x.1.0 ∷ Path x.0 ∷ s, pair_has t p x.1 (Path x.0 ∷ s) i two.1 (path_has p.1 q x.0 s n two.0 l), ap Some o))))
trees_come seen action.EndCall t v h u j = on_some (top_parts t) v _ h (λ p i h. on_some (top_done p.1) v _ h (λ q n h. on_some q.0.tree v _ h (λ e f h.
    on_mapped (λ c. c ∷ q.1) (call_of e q.0.from p.0) v h (λ c g made.
    on_mapped _ (pieces.call_name (opened e)) c g (λ name called w.
    higher_has (λ x. Done (exp (place e) (node.Call name x.1))) (part q.0.from p.0.tree p.0.height) q.1 v u (ap Some (ap (λ d. d ∷ q.1) w ∙ made)) j (λ x s k l o.
    (Parts x.0 x.1 ∷ Done e ∷ s, parts_has t p x (Done e ∷ s) i k (done_has p.1 q e s n f l), ap (option_and_then (λ y. pieces.put (Done (exp (place e) (node.Call y x.1))) s)) called ∙ ap Some o)))))))
trees_come seen action.Field t v h u j = on_some (top_done t) v _ h (λ p i h. on_some (top_label p.1) v _ h (λ b m h. on_some (top_fields b.1) v _ h (λ q n h.
    same_has (λ x. Fields x.0.0 (x.0.1 ++ (b.0, x.1) ∷ [])) (both q.0 p.0) q.1 v u h j (λ x s k l o.
    let two : (q.0.tree ≡ Some x.0) × (p.0.tree ≡ Some x.1) = both_has q.0.tree p.0.tree x k in
    (Done x.1 ∷ Label b.0 ∷ Fields x.0.0 x.0.1 ∷ s, done_has t p x.1 (Label b.0 ∷ Fields x.0.0 x.0.1 ∷ s) i two.1 (label_has p.1 b (Fields x.0.0 x.0.1 ∷ s) m (fields_has b.1 q x.0 s n two.0 l)), ap Some o)))))
trees_come seen action.Below t v h u j = on_some (top_done t) v _ h (λ p i h. on_some (top_label p.1) v _ h (λ b m h. on_some (top_done b.1) v _ h (λ q n h.
    higher_has (λ x. Done (iterated x.0 (count.Below b.0 x.1))) (both q.0 p.0) q.1 v u h j (λ x s k l o.
    let two : (q.0.tree ≡ Some x.0) × (p.0.tree ≡ Some x.1) = both_has q.0.tree p.0.tree x k in
    (Done x.1 ∷ Label b.0 ∷ Done x.0 ∷ s, done_has t p x.1 (Label b.0 ∷ Done x.0 ∷ s) i two.1 (label_has p.1 b (Done x.0 ∷ s) m (done_has b.1 q x.0 s n two.0 l)), ap Some o)))))
trees_come seen action.At t v h u j = on_some (top_done t) v _ h (λ p i h. on_some (top_whole p.1) v _ h (λ q n h.
    higher_has (λ x. Done (exp (place x.0) (node.At x.0 x.1))) (both q.0 p.0) q.1 v u h j (λ x s k l o.
    let two : (q.0.tree ≡ Some x.0) × (p.0.tree ≡ Some x.1) = both_has q.0.tree p.0.tree x k in
    (Done x.1 ∷ Path [] ∷ Done x.0 ∷ s, done_has t p x.1 (Path [] ∷ Done x.0 ∷ s) i two.1 (whole_has p.1 q x.0 s n two.0 l), ap Some o))))
trees_come seen action.Slice t v h u j = on_some (top_pair t) v _ h (λ p i h. on_some (top_whole p.1) v _ h (λ q n h.
    higher_has (λ x. Done (exp (place x.0) (node.Slice x.0 x.1.0 x.1.1))) (both q.0 p.0) q.1 v u h j (λ x s k l o.
    let two : (q.0.tree ≡ Some x.0) × (p.0.tree ≡ Some x.1) = both_has q.0.tree p.0.tree x k in
    (Done x.1.1 ∷ Done x.1.0 ∷ Path [] ∷ Done x.0 ∷ s, pair_has t p x.1 (Path [] ∷ Done x.0 ∷ s) i two.1 (whole_has p.1 q x.0 s n two.0 l), ap Some o))))
trees_come seen (action.Change m) t v h u j = on_some (top_done t) v _ h (λ p i h. on_some (top_path p.1) v _ h (λ q n h. on_some (top_done q.1) v _ h (λ r z h.
    higher_has (λ x. Done (changed m x.0 x.1.0 x.1.1)) (both r.0 (both q.0 p.0)) r.1 v u h j (λ x s k l o.
    let two : (r.0.tree ≡ Some x.0) × ((both q.0 p.0).tree ≡ Some x.1) = both_has r.0.tree (both q.0 p.0).tree x k in
    let more : (q.0.tree ≡ Some x.1.0) × (p.0.tree ≡ Some x.1.1) = both_has q.0.tree p.0.tree x.1 two.1 in
    (Done x.1.1 ∷ Path x.1.0 ∷ Done x.0 ∷ s, done_has t p x.1.1 (Path x.1.0 ∷ Done x.0 ∷ s) i more.1 (path_has p.1 q x.1.0 (Done x.0 ∷ s) n more.0 (done_has q.1 r x.0 s z two.0 l)), ap Some o)))))

-- ---- one action after another

-- what is made goes on the stack, and else a part without a tree
pub trees_made : {P : Type 0} (o : Option (List (Built P))) (rest new : List (Built P)) (made : Option (Built P)) (from : ℕ) (u : List P) {Q : Type 0} → Makes o rest made → new ≡ made_or made (untold from) ∷ rest → HaveTrees new u
    → ((v : List (Built P)) → o ≡ Some v → HaveTrees v u → Q) → Q
trees_made o rest new None from u m e j k = on_first (untold from) rest u (equal_have (untold from ∷ rest) new u (sym e) j) (λ t s i none r. absurd (cc))
trees_made o rest new (Some p) from u m e j k = k (p ∷ rest) m (equal_have (p ∷ rest) new u (sym e) j)

-- where something else would be built, or nothing, there is no tree
pub no_tree : {A : Type 0} (tree built : Option A) → ((a : A) → tree ≡ Some a → built ≡ Some a) → built ≡ None → tree ≡ None
no_tree None built h none = refl
no_tree (Some a) built h none = let some : built ≡ Some a = h a refl in absurd (cc)

-- the one expression on the stack, where it has a tree
pub exp_has : (s : Stack) (p : Built Exp) (e : Exp) (from : ℕ) → p ≡ made_or (the_exp s) (untold from) → p.tree ≡ Some e → HaveTrees s (Done e ∷ [])
exp_has s p e from h i = by (the_exp s) refl h
  where
    by : (o : Option (Built Exp)) → the_exp s ≡ o → p ≡ made_or o (untold from) → HaveTrees s (Done e ∷ [])
    by None j h = let none : None ≡ Some e = sym (ap (λ q. q.tree) h) ∙ i in absurd (cc)
    by (Some q) j h = on_some (top_done s) q (λ u. alone u.0 u.1) j (λ t k l. lone t k t.1 refl l)
      where
        lone : (t : Built Exp × Stack) → top_done s ≡ Some t → (r : Stack) → t.1 ≡ r → alone t.0 r ≡ Some q → HaveTrees s (Done e ∷ [])
        lone t k [] is l =
            let same : t.0 ≡ q = cc in
            done_has s t e [] k (ap (λ d. d.tree) same ∙ sym (ap (λ d. d.tree) h) ∙ i) (equal_have t.1 [] [] is tt)
        lone t k (x ∷ r) is l = absurd (cc)
