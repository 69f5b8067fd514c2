-- What an action takes off the pieces on top.
use Rattle.std.proofs.Common.{◌≡◌, ℕ, List, [], ◌∷◌, Bool, true, false, Option, Some, None, option_and_then, ◌&&◌, refl, sym, ap, ◌∙◌}
use Rattle.st_num.specs.declared.span.Span.{Span}
use Rattle.st_el.specs.declared.expression.Exp.{Exp, out-Exp, roll-out-Exp}
use Rattle.st_el.specs.declared.expression.Node.{Node, roll-Node, roll-out-Node}
use Rattle.st_el.specs.declared.expression.Node.TheVariants as node
use Rattle.st_el.specs.declared.expression.Count.{Count}
use Rattle.st_el.specs.declared.expression.Count.TheOpen.{Node-F}
use Rattle.st_el.specs.declared.expression.Seg.{Seg}
use Rattle.st_parse_builder.specs.declared.piece.Piece.TheVariants.{Done, Parts, Fields, Path, Label, Here}
use Rattle.st_parse_builder.specs.Meaning.{exp, place, opened, is_atom, atom_name}
use Rattle.st_parse_builder.specs.inner.Building.{Stack, top_done, top_parts, top_fields, top_path, top_pair, top_whole, top_label, top_place, call_name}

-- ---- what is on top

pub on_done : (s u : Stack) (g : Exp × Stack → Option Stack) {P : Type 0} → option_and_then g (top_done s) ≡ Some u
    → ((e : Exp) (r : Stack) → s ≡ Done e ∷ r → g (e, r) ≡ Some u → P) → P
on_done (Done e ∷ s) u g h k = k e s refl h
on_done s u g h k = absurd (cc)

pub on_parts : (s u : Stack) (g : Span × List Exp × Stack → Option Stack) {P : Type 0} → option_and_then g (top_parts s) ≡ Some u
    → ((at : Span) (es : List Exp) (r : Stack) → s ≡ Parts at es ∷ r → g (at, es, r) ≡ Some u → P) → P
on_parts (Parts at es ∷ s) u g h k = k at es s refl h
on_parts s u g h k = absurd (cc)

pub on_fields : (s u : Stack) (g : Span × List (List ℕ × Exp) × Stack → Option Stack) {P : Type 0} → option_and_then g (top_fields s) ≡ Some u
    → ((at : Span) (fs : List (List ℕ × Exp)) (r : Stack) → s ≡ Fields at fs ∷ r → g (at, fs, r) ≡ Some u → P) → P
on_fields (Fields at fs ∷ s) u g h k = k at fs s refl h
on_fields s u g h k = absurd (cc)

pub on_path : (s u : Stack) (g : List Seg × Stack → Option Stack) {P : Type 0} → option_and_then g (top_path s) ≡ Some u
    → ((ps : List Seg) (r : Stack) → s ≡ Path ps ∷ r → g (ps, r) ≡ Some u → P) → P
on_path (Path ps ∷ s) u g h k = k ps s refl h
on_path s u g h k = absurd (cc)

pub on_label : (s u : Stack) (g : List ℕ × Stack → Option Stack) {P : Type 0} → option_and_then g (top_label s) ≡ Some u
    → ((name : List ℕ) (r : Stack) → s ≡ Label name ∷ r → g (name, r) ≡ Some u → P) → P
on_label (Label name ∷ s) u g h k = k name s refl h
on_label s u g h k = absurd (cc)

pub on_place : (s u : Stack) (g : Span × Stack → Option Stack) {P : Type 0} → option_and_then g (top_place s) ≡ Some u
    → ((at : Span) (r : Stack) → s ≡ Here at ∷ r → g (at, r) ≡ Some u → P) → P
on_place (Here at ∷ s) u g h k = k at s refl h
on_place s u g h k = absurd (cc)

behind_done : (r : Exp) (s u : Stack) (g : Exp × Exp × Stack → Option Stack) {P : Type 0} → option_and_then g (top_pair (Done r ∷ s)) ≡ Some u
    → ((l : Exp) (q : Stack) → s ≡ Done l ∷ q → g (l, r, q) ≡ Some u → P) → P
behind_done r (Done e ∷ s) u g h k = k e s refl h
behind_done r s u g h k = absurd (cc)

pub on_pair : (s u : Stack) (g : Exp × Exp × Stack → Option Stack) {P : Type 0} → option_and_then g (top_pair s) ≡ Some u
    → ((l r : Exp) (q : Stack) → s ≡ Done r ∷ Done l ∷ q → g (l, r, q) ≡ Some u → P) → P
on_pair (Done e ∷ s) u g h k = behind_done e s u g h (λ l q i h. k l e q (ap (λ v. Done e ∷ v) i) h)
on_pair s u g h k = absurd (cc)

behind_start : (s u : Stack) (g : Exp × Stack → Option Stack) {P : Type 0} → option_and_then g (top_whole (Path [] ∷ s)) ≡ Some u
    → ((e : Exp) (q : Stack) → s ≡ Done e ∷ q → g (e, q) ≡ Some u → P) → P
behind_start (Done e ∷ s) u g h k = k e s refl h
behind_start s u g h k = absurd (cc)

pub on_whole : (s u : Stack) (g : Exp × Stack → Option Stack) {P : Type 0} → option_and_then g (top_whole s) ≡ Some u
    → ((e : Exp) (q : Stack) → s ≡ Path [] ∷ Done e ∷ q → g (e, q) ≡ Some u → P) → P
on_whole (Path [] ∷ s) u g h k = behind_start s u g h (λ e q i h. k e q (ap (λ v. Path [] ∷ v) i) h)
on_whole s u g h k = absurd (cc)

pub on_some : {A B : Type 0} (o : Option A) (u : B) (g : A → Option B) {P : Type 0} → option_and_then g o ≡ Some u → ((x : A) → o ≡ Some x → g x ≡ Some u → P) → P
on_some None u g h k = absurd (cc)
on_some (Some x) u g h k = k x refl h

-- ---- a function alone, and an atom

rolled : (e : Exp) (n : Node-F Count Node Seg Exp) → opened e ≡ n → e ≡ exp (place e) (roll-Node n)
rolled e n h = sym (roll-out-Exp e) ∙ ap (λ m. exp (place e) m) (sym (roll-out-Node (out-Exp e).node) ∙ ap roll-Node h)

call_is : (n : Node-F Count Node Seg Exp) (name : List ℕ) → call_name n ≡ Some name → n ≡ Node-F.Call name []
call_is (Node-F.Call x []) name h = let is : x ≡ name = cc in ap (λ y. Node-F.Call y []) is
call_is n name h = absurd (cc)

pub call_alone : (e : Exp) (name : List ℕ) → call_name (opened e) ≡ Some name → e ≡ exp (place e) (node.Call name [])
call_alone e name h = rolled e (Node-F.Call name []) (call_is (opened e) name h) ∙ ap (exp (place e)) (node.rolls-Call name [])

atom_is : (n : Node-F Count Node Seg Exp) → is_atom n ≡ true → n ≡ Node-F.Atom (atom_name n)
atom_is (Node-F.Atom x) h = refl
atom_is n h = absurd (cc)

pub atom_alone : (e : Exp) → is_atom (opened e) ≡ true → e ≡ exp (place e) (node.Atom (atom_name (opened e)))
atom_alone e h = rolled e (Node-F.Atom (atom_name (opened e))) (atom_is (opened e) h) ∙ ap (exp (place e)) (node.rolls-Atom (atom_name (opened e)))

pub second : (a b : Bool) → (a && b) ≡ true → b ≡ true
second true b h = h
second false b h = absurd (cc)
