-- What fits a template is written back as it was.
use Rattle.std.proofs.Common.{◌≡◌, refl, sym, ◌∙◌, ap, subst, ℕ, List, [], ◌∷◌, ◌++◌, map, length, take, drop, Bool, true, false}
use Rattle.std.proofs.lemmas.List.{map-append, take-append-drop}
use Rattle.std.proofs.lemmas.Slice.Eq.{bytes_eq-Decides}
use Rattle.std.specs.Prelude.{IsTrue, Some, if◌then◌else◌, nat_eq}
use Rattle.st_el.specs.declared.expression.Exp.{Exp}
use Rattle.st_el.specs.declared.expression.Node.{Node, roll-Node}
use Rattle.st_el.specs.declared.expression.Node.TheVariants as node
use Rattle.st_el.specs.declared.expression.Count.{Count}
use Rattle.st_el.specs.declared.expression.Count.TheOpen.{Node-F}
use Rattle.st_el.specs.declared.expression.Seg.{Seg}
use Rattle.st_el.specs.Plain.{plain_exp}
use Rattle.st_il.specs.declared.template.Template.{Template, out-Template, map-Template, fold_out-Template}
use Rattle.st_il.specs.declared.template.Template.TheOpen.{Template-F}
use Rattle.st_notation.specs.declared.filled.Shape.{Shape}
use Rattle.st_notation.specs.declared.filled.Shape.TheVariants as shape
use Rattle.st_notation.specs.Elements.{opened, bare, elements_at, elements, is_atom_at, is_atom, before}
use Rattle.st_notation.specs.Fits.{Filling, one, missing, Take, one_element, shared_run, run_up_to, takes, Fits, hole, atom, bracket, sides, sequence as in_sequence, FitInOrder, end, next_atom, next_bracket, next_hole}
use Rattle.st_erase.specs.declared.erased.Erased.{Erased}
use Rattle.st_erase.specs.Places.{exp, run_by}
use Rattle.st_erase.specs.Filling.{Written, Part, sequence, takes_run, write_hole, write_run, alone, write_parts, part_at, part_of}
use Rattle.st_elab_law.proofs.Claims.{IsFilledBy}
use Rattle.st_elab_law.proofs.Plainness.{plain-bare}
use Rattle.st_elab_law.proofs.Writing.{whole_source, single_run, levels_alike}

-- ---- what fills the holes of a part

abbrev pub IsOther : Shape → Type 0
IsOther s = s ≡ shape.List → ⊥

-- the first of these operands fill the holes
abbrev pub AreFilled : List Shape → List Filling → List Erased → Type 0
AreFilled ss [] xs = Unit {0}
AreFilled [] (f ∷ fs) xs = ⊥
AreFilled (s ∷ ss) (f ∷ fs) [] = ⊥
AreFilled (s ∷ ss) (f ∷ fs) (x ∷ xs) = IsFilledBy (IsOther s) f x × AreFilled ss fs xs

split : (ss : List Shape) (fs gs : List Filling) (xs : List Erased) → AreFilled ss (fs ++ gs) xs → AreFilled ss fs xs × AreFilled (drop (length fs) ss) gs (drop (length fs) xs)
split ss [] gs xs a = (tt, a)
split [] (f ∷ fs) gs xs a = absurd a
split (s ∷ ss) (f ∷ fs) gs [] a = absurd a
split (s ∷ ss) (f ∷ fs) gs (x ∷ xs) a = let rest = split ss fs gs xs a.1 in ((a.0, rest.0), rest.1)

drop-both : (fs gs : List Filling) (xs : List Erased) → drop (length gs) (drop (length fs) xs) ≡ drop (length (fs ++ gs)) xs
drop-both [] gs xs = refl
drop-both (f ∷ fs) [] [] = refl
drop-both (f ∷ fs) (g ∷ gs) [] = refl
drop-both (f ∷ fs) gs (x ∷ xs) = drop-both fs gs xs

-- ---- what is written

pub record Writes (w : Written Exp) (e : Exp) (left : List Erased) : Type 0 where
  pub out : plain_exp w.out ≡ plain_exp e
  pub rest : w.rest ≡ left

pub record WritesAll (w : Written (List Exp)) (es : List Exp) (left : List Erased) : Type 0 where
  pub out : map plain_exp w.out ≡ map plain_exp es
  pub rest : w.rest ≡ left

part-is : (t : Template) (y : Template-F Template) → out-Template t ≡ y → part_of t ≡ part_at (map-Template Template Part part_of y)
part-is t y is = fold_out-Template Part part_at t ∙ ap (λ z. part_at (map-Template Template Part part_of z)) is

-- ---- atoms and sequences

atom_written : (name : List ℕ) (e : Exp) → IsTrue (is_atom name e) → plain_exp (exp (node.Atom name)) ≡ plain_exp e
atom_written name e h = by (opened e) refl h
  where
    by : (y : Node-F Count Node Seg Exp) → opened e ≡ y → IsTrue (is_atom_at name y) → plain_exp (exp (node.Atom name)) ≡ plain_exp e
    by (Node-F.Atom other) is k =
        let same : name ≡ other = (bytes_eq-Decides name other).0 k in
        levels_alike (node.Atom name) e _ _ (node.outs-Atom name) is (λ i. exp (roll-Node (Node-F.Atom (same i))))
    by y is k = absurd (cc)

only : (es : List Exp) (e : Exp) → map plain_exp es ≡ plain_exp e ∷ [] → plain_exp (sequence es) ≡ plain_exp e
only [] e h = absurd (cc)
only (x ∷ []) e h = cc
only (x ∷ y ∷ es) e h = absurd (cc)

several : (es parts : List Exp) (e : Exp) → opened e ≡ Node-F.Seq parts → nat_eq (length parts) 1 ≡ false → map plain_exp es ≡ map plain_exp parts → plain_exp (sequence es) ≡ plain_exp e
several [] parts e is n h = levels_alike (node.Seq []) e _ _ (node.outs-Seq []) is (λ i. exp (roll-Node (Node-F.Seq (h i))))
several (x ∷ []) [] e is n h = absurd (cc)
several (x ∷ []) (p ∷ []) e is n h = absurd (cc)
several (x ∷ []) (p ∷ q ∷ parts) e is n h = absurd (cc)
several (x ∷ y ∷ es) parts e is n h = levels_alike (node.Seq (x ∷ y ∷ es)) e _ _ (node.outs-Seq (x ∷ y ∷ es)) is (λ i. exp (roll-Node (Node-F.Seq (h i))))

sequence_written : (es : List Exp) (e : Exp) → map plain_exp es ≡ map plain_exp (elements e) → plain_exp (sequence es) ≡ plain_exp e
sequence_written es e h = by (opened e) refl h
  where
    by : (y : Node-F Count Node Seg Exp) → opened e ≡ y → map plain_exp es ≡ map plain_exp (elements_at e y) → plain_exp (sequence es) ≡ plain_exp e
    by (Node-F.Seq parts) is k = counted (nat_eq (length parts) 1) refl k
      where
        counted : (b : Bool) → nat_eq (length parts) 1 ≡ b → map plain_exp es ≡ map plain_exp (if b then e ∷ [] else parts) → plain_exp (sequence es) ≡ plain_exp e
        counted true n g = only es e g
        counted false n g = several es parts e is n g
    by y is k = only es e k

-- ---- holes

-- a hole is written as a run, or as one element
abbrev writes_hole : Bool → List Erased → Written (List Exp)
writes_hole b xs = if b then write_run xs else alone (write_hole xs)

one_written : (b : Bool) (Alone : Type 0) (x : Erased) (xs : List Erased) (es : List Exp) (taken : Take) → one_element es ≡ Some taken → IsFilledBy Alone taken.filling x → (b ≡ true → Alone)
    → WritesAll (writes_hole b (x ∷ xs)) (take taken.count es) xs
one_written b Alone x xs [] taken is h stands = absurd (cc)
one_written b Alone x xs (e ∷ es) taken is h stands =
    let same : record { filling = one e; count = 1 } ≡ taken = cc in
    subst (λ (z : Take). IsFilledBy Alone z.filling x → WritesAll (writes_hole b (x ∷ xs)) (take z.count (e ∷ es)) xs) same (λ k. by b stands k) h
  where
    by : (b : Bool) → (b ≡ true → Alone) → IsFilledBy Alone (one e) x → WritesAll (writes_hole b (x ∷ xs)) (e ∷ []) xs
    by true s k = record { out = single_run x e (k.single (s refl)) k.same; rest = refl }
    by false s k = record { out = ap (λ z. z ∷ []) (whole_source x e k.same); rest = refl }

run_written : (Alone : Type 0) (x : Erased) (xs : List Erased) (es : List Exp) (n : ℕ) (taken : Take) → Some (shared_run es n) ≡ Some taken → IsFilledBy Alone taken.filling x
    → WritesAll (write_run (x ∷ xs)) (take taken.count es) xs
run_written Alone x xs es n taken is h =
    let same : shared_run es n ≡ taken = cc in
    subst (λ (z : Take). IsFilledBy Alone z.filling x → WritesAll (write_run (x ∷ xs)) (take z.count es) xs) same (λ k. record { out = k; rest = refl }) h

missing_written : (Alone : Type 0) (x : Erased) (xs : List Erased) (taken : Take) → Some (record { filling = missing; count = 0 }) ≡ Some taken → IsFilledBy Alone taken.filling x
    → WritesAll (write_run (x ∷ xs)) (take taken.count []) xs
missing_written Alone x xs taken is h =
    let same : record { filling = missing; count = 0 } ≡ taken = cc in
    subst (λ (z : Take). IsFilledBy Alone z.filling x → WritesAll (write_run (x ∷ xs)) (take z.count []) xs) same
    (λ k. record { out = ap (λ z. map plain_exp (run_by z x.exp)) k; rest = refl }) h

before_written : (x : Erased) (xs : List Erased) (next : Template) (y : Template-F Template) (es : List Exp) (taken : Take) → out-Template next ≡ y → run_up_to y es ≡ Some taken
    → IsFilledBy (IsOther shape.List) taken.filling x → WritesAll (writes_hole (part_of next).is_atom (x ∷ xs)) (take taken.count es) xs
before_written x xs next (Template-F.Atom name) es taken p is h =
    subst (λ z. WritesAll (writes_hole z.is_atom (x ∷ xs)) (take taken.count es) xs) (sym (part-is next _ p)) (run_written (IsOther shape.List) x xs es (before name es) taken is h)
before_written x xs next y es taken p is h =
    subst (λ z. WritesAll (writes_hole z.is_atom (x ∷ xs)) (take taken.count es) xs) (sym (part-is next _ p)) (one_written false (IsOther shape.List) x xs es taken is h (λ q. absurd (cc)))

hole_written : (s : Shape) (ts : List Template) (es : List Exp) (taken : Take) (x : Erased) (xs : List Erased) → takes s ts es ≡ Some taken → IsFilledBy (IsOther s) taken.filling x
    → WritesAll (writes_hole (takes_run (map part_of ts)) (x ∷ xs)) (take taken.count es) xs
hole_written shape.Plain ts es taken x xs is h = one_written (takes_run (map part_of ts)) (IsOther shape.Plain) x xs es taken is h (λ q. λ r. absurd (cc))
hole_written shape.List [] es taken x xs is h = run_written (IsOther shape.List) x xs es (length es) taken is h
hole_written shape.List (next ∷ ts) es taken x xs is h = before_written x xs next (out-Template next) es taken refl is h
hole_written shape.Opt [] [] taken x xs is h = missing_written (IsOther shape.Opt) x xs taken is h
hole_written shape.Opt [] (e ∷ es) taken x xs is h = one_written true (IsOther shape.Opt) x xs (e ∷ es) taken is h (λ q. λ r. absurd (cc))
hole_written shape.Opt (next ∷ ts) es taken x xs is h = one_written (takes_run (map part_of (next ∷ ts))) (IsOther shape.Opt) x xs es taken is h (λ q. λ r. absurd (cc))

hole_alone : (s : Shape) (ss : List Shape) (e : Exp) (xs : List Erased) → AreFilled (s ∷ ss) (one e ∷ []) xs → Writes (write_hole xs) e (drop 1 xs)
hole_alone s ss e [] a = absurd a
hole_alone s ss e (x ∷ xs) a = record { out = whole_source x e a.0.same; rest = refl }

-- ---- all parts

-- what is written behind a hole
behind_hole : (w : Written (List Exp)) (es : List Exp) (n : ℕ) (xs left : List Erased) (next : List Erased → Written (List Exp)) → WritesAll w (take n es) xs → WritesAll (next xs) (drop n es) left
    → WritesAll (record { out = w.out ++ (next w.rest).out; rest = (next w.rest).rest }) es left
behind_hole w es n xs left next h k =
    subst (λ z. WritesAll (record { out = w.out ++ (next z).out; rest = (next z).rest }) es left) (sym h.rest)
    (record {
      out = map-append plain_exp w.out (next xs).out ∙ (λ i. h.out i ++ k.out i) ∙ sym (map-append plain_exp (take n es) (drop n es)) ∙ ap (map plain_exp) (take-append-drop n es);
      rest = k.rest;
    })

mutual
  pub Fits-writes : (t : Template) (ss : List Shape) (e : Exp) (fs : List Filling) (xs : List Erased) → Fits t ss e fs → AreFilled ss fs xs → Writes ((part_of t).write xs) e (drop (length fs) xs)
  Fits-writes t [] e fs xs (hole p) a = absurd a
  Fits-writes t (s ∷ ss) e fs xs (hole p) a =
      subst (λ z. Writes (z.write xs) e (drop 1 xs)) (sym (part-is t _ p)) (hole_alone s ss e xs a)
  Fits-writes t ss e fs xs (atom name p h) a =
      subst (λ z. Writes (z.write xs) e xs) (sym (part-is t _ p)) (record { out = atom_written name (bare e) h ∙ plain-bare e; rest = refl })
  Fits-writes t ss e fs xs (bracket opening inside inner p is h) a =
      let rec = Fits-writes inside ss inner fs xs h a in
      subst (λ z. Writes (z.write xs) e (drop (length fs) xs)) (sym (part-is t _ p)) (record {
        out = levels_alike (node.Bracket opening ((part_of inside).write xs).out) (bare e) _ _ (node.outs-Bracket opening ((part_of inside).write xs).out) is (λ i. exp (roll-Node (Node-F.Bracket opening (rec.out i)))) ∙ plain-bare e;
        rest = rec.rest;
      })
  Fits-writes t ss e all xs (sides {fs = fs} {gs = gs} left sign right front behind p is h k) a =
      let two = split ss fs gs xs a in
      let first = Fits-writes left ss front fs xs h two.0 in
      let second = subst (λ z. Writes ((part_of right).write z) behind (drop (length gs) (drop (length fs) xs))) (sym first.rest)
      (Fits-writes right (drop (length fs) ss) behind gs (drop (length fs) xs) k two.1) in
      subst (λ z. Writes (z.write xs) e (drop (length (fs ++ gs)) xs)) (sym (part-is t _ p)) (record {
        out = levels_alike (node.Infix ((part_of left).write xs).out sign ((part_of right).write ((part_of left).write xs).rest).out) (bare e) _ _
            (node.outs-Infix ((part_of left).write xs).out sign ((part_of right).write ((part_of left).write xs).rest).out) is (λ i. exp (roll-Node (Node-F.Infix (first.out i) sign (second.out i)))) ∙ plain-bare e;
        rest = second.rest ∙ drop-both fs gs xs;
      })
  Fits-writes t ss e fs xs (in_sequence parts p h) a =
      let rec = InOrder-writes parts ss (elements (bare e)) fs xs h a in
      subst (λ z. Writes (z.write xs) e (drop (length fs) xs)) (sym (part-is t _ p)) (record {
        out = sequence_written (write_parts (map part_of parts) xs).out (bare e) rec.out ∙ plain-bare e;
        rest = rec.rest;
      })

  pub InOrder-writes : (ts : List Template) (ss : List Shape) (es : List Exp) (fs : List Filling) (xs : List Erased) → FitInOrder ts ss es fs → AreFilled ss fs xs
      → WritesAll (write_parts (map part_of ts) xs) es (drop (length fs) xs)
  InOrder-writes ts ss es fs xs end a = record { out = refl; rest = refl }
  InOrder-writes (t ∷ ts) ss es fs xs (next_atom {e = e} {es = rest} name p is h) a =
      let first = atom_written name e is in
      let others = InOrder-writes ts ss rest fs xs h a in
      subst (λ z. WritesAll (write_parts (z ∷ map part_of ts) xs) (e ∷ rest) (drop (length fs) xs)) (sym (part-is t _ p)) (record { out = λ i. first i ∷ others.out i; rest = others.rest })
  InOrder-writes (t ∷ ts) ss es all xs (next_bracket {e = e} {es = rest} {fs = fs} {gs = gs} opening inside inner p is h k) a =
      let two = split ss fs gs xs a in
      let first = Fits-writes inside ss inner fs xs h two.0 in
      let others = subst (λ z. WritesAll (write_parts (map part_of ts) z) rest (drop (length gs) (drop (length fs) xs))) (sym first.rest)
      (InOrder-writes ts (drop (length fs) ss) rest gs (drop (length fs) xs) k two.1) in
      let same : plain_exp (exp (node.Bracket opening ((part_of inside).write xs).out)) ≡ plain_exp e =
      levels_alike (node.Bracket opening ((part_of inside).write xs).out) e _ _ (node.outs-Bracket opening ((part_of inside).write xs).out) is (λ i. exp (roll-Node (Node-F.Bracket opening (first.out i)))) in
      subst (λ z. WritesAll (write_parts (z ∷ map part_of ts) xs) (e ∷ rest) (drop (length (fs ++ gs)) xs)) (sym (part-is t _ p)) (record {
        out = λ i. same i ∷ others.out i;
        rest = others.rest ∙ drop-both fs gs xs;
      })
  InOrder-writes (t ∷ ts) (s ∷ ss) es all [] (next_hole {fs = fs} taken p is h) a = absurd a
  InOrder-writes (t ∷ ts) (s ∷ ss) es all (x ∷ xs) (next_hole {fs = fs} taken p is h) a =
      subst (λ z. WritesAll (write_parts (z ∷ map part_of ts) (x ∷ xs)) es (drop (length fs) xs)) (sym (part-is t _ p))
      (behind_hole (writes_hole (takes_run (map part_of ts)) (x ∷ xs)) es taken.count xs (drop (length fs) xs) (write_parts (map part_of ts))
      (hole_written s ts es taken x xs is a.0) (InOrder-writes ts ss (drop taken.count es) fs xs h a.1))
