-- Lines and their texts: from trees to bytes, and the laws.
use Rattle.std.proofs.Common.{◌≡◌, ℕ, suc, List, [], ◌∷◌, ◌++◌, length, length-append, refl, sym, ap, ap₂, subst, ◌∙◌, append_assoc, arith, inr}
use Rattle.std.specs.List.{All}
use Rattle.std.specs.Prelude.{Result, Ok, Err}
use Rattle.st_deriv.specs.declared.line.Ending.{Ending}
use Rattle.st_deriv.specs.declared.line.Ending.TheVariants.{Stuck, Fuel, Depth}
use Rattle.st_deriv.specs.declared.line.Line.{Line}
use Rattle.st_deriv.specs.declared.line.Line.TheVariants.{Head, From, Node, Step, End}
use Rattle.st_deriv.specs.declared.line.NodeLine.{NodeLine}
use Rattle.st_text.specs.Text.{TextTrees, row_text, HaveTexts, RowText}
use Rattle.st_text.proofs.NumberWords.{decimal-unique}
use Rattle.st_text.proofs.Unique.{one_row, unique_row}
use Rattle.st_text.specs.Reading.{Answers, IsNoRow}
use Rattle.st_text.specs.declared.fault.TextFault.{TextFault}
use Rattle.st_text.specs.declared.fault.TextFault.TheVariants.{Malformed, Memory}
use Rattle.st_deriv.specs.LineText.{IsPlainNode, IsPlainLine, node_trees, line_trees, ending_word, HasText, line_text, LineText, lines_text}
use Rattle.st_deriv.specs.inner.Reading.{LineTrees, AreNoLine, AnswersLine}
use Rattle.st_deriv.specs.LineText.{IsNoLine}
use Rattle.st_deriv.specs.Laws.{OneText, OneLine, PrintedIsRead}
use Rattle.st_deriv.proofs.Parts.{words, quotes, lists, firsts, rests, first_byte}
use Rattle.st_deriv.proofs.Values.{values_unique}

-- ---- from trees to bytes

line_whole : (line : Line) (trees : TextTrees) (bytes : List ℕ) → RowText trees bytes → LineTrees line trees → LineText line bytes
line_whole line trees bytes r l = record { has = record { plain = l.plain; spelled = subst HaveTexts l.is r.have }; is = r.is ∙ ap row_text l.is }

row_of_line : (line : Line) (bytes : List ℕ) → LineText line bytes → RowText (line_trees line) bytes
row_of_line line bytes t = record { have = t.has.spelled; is = t.is }

line_none : (trees : TextTrees) (bytes : List ℕ) → RowText trees bytes → AreNoLine trees → IsNoLine bytes
line_none trees bytes r n = record {
  never = λ line t.
      n.never line (record { plain = t.has.plain; is = one_row trees (line_trees line) bytes r (row_of_line line bytes t) });
}

pub no_row : (bytes : List ℕ) → IsNoRow bytes → IsNoLine bytes
no_row bytes n = record { never = λ line t. n.never (line_trees line) (row_of_line line bytes t) }

pub line_answer : (trees : TextTrees) (bytes : List ℕ) (result : Result Line TextFault) → RowText trees bytes → AnswersLine trees result
    → Answers result (λ line. LineText line bytes) (IsNoLine bytes)
line_answer trees bytes (Ok line) r a = line_whole line trees bytes r a
line_answer trees bytes (Err (Malformed line)) r a = (a.0, line_none trees bytes r a.1)
line_answer trees bytes (Err Memory) r a = tt

-- ---- the laws

-- the first byte of a word
heads : {a b : ℕ} {v w : List ℕ} → a ∷ v ≡ b ∷ w → a ≡ b
heads e = cc

tails : {a b : ℕ} {v w : List ℕ} → a ∷ v ≡ b ∷ w → v ≡ w
tails e = cc

ending-unique : (a b : Ending) → ending_word a ≡ ending_word b → a ≡ b
ending-unique Stuck Stuck e = refl
ending-unique Fuel Fuel e = refl
ending-unique Depth Depth e = refl
ending-unique Stuck Fuel e = absurd (omega (arith, heads e))
ending-unique Stuck Depth e = absurd (omega (arith, heads e))
ending-unique Fuel Stuck e = absurd (omega (arith, heads e))
ending-unique Fuel Depth e = absurd (omega (arith, heads e))
ending-unique Depth Stuck e = absurd (omega (arith, heads e))
ending-unique Depth Fuel e = absurd (omega (arith, heads e))

node-unique : (n m : NodeLine) → IsPlainNode n → IsPlainNode m → node_trees n ≡ node_trees m → n ≡ m
node-unique n m p q e =
    ap (λ v. record n { relation = v }) (quotes (firsts e))
    ∙ ap (λ v. record n { relation = m.relation; rule = v }) (quotes (firsts (rests e)))
    ∙ ap (λ v. record n { relation = m.relation; rule = m.rule; env = record { entries = v } }) (p.env ∙ sym q.env)
    ∙ ap (λ v. record n { relation = m.relation; rule = m.rule; env = m.env; children = v }) (p.children ∙ sym q.children)
    ∙ ap (λ v. record n { relation = m.relation; rule = m.rule; env = m.env; children = m.children; values = v })
    (values_unique n.values m.values p.values q.values (lists (firsts (rests (rests (rests (rests e)))))))
    ∙ ap (λ v. record m { evidence = v }) (p.evidence ∙ sym q.evidence)

trees-unique : (line other : Line) → IsPlainLine line → IsPlainLine other → line_trees line ≡ line_trees other → line ≡ other
trees-unique (Head f r) (Head g s) p q e = ap₂ Head (p.0 ∙ sym q.0) (words (firsts (rests (rests e))))
trees-unique (From vs) (From ws) p q e = ap From (values_unique vs ws p q (rests e))
trees-unique (Node n) (Node m) p q e = ap Node (node-unique n m p q (rests e))
trees-unique (Step n) (Step m) p q e = ap Step (decimal-unique n m p q (words (firsts (rests e))))
trees-unique (End a) (End b) p q e = ap End (ending-unique a b (words (firsts (rests e))))
trees-unique (Head f r) (From ws) p q e = absurd (omega (arith, first_byte e))
trees-unique (Head f r) (Node m) p q e = absurd (omega (arith, first_byte e))
trees-unique (Head f r) (Step m) p q e = absurd (omega (arith, first_byte e))
trees-unique (Head f r) (End b) p q e = absurd (omega (arith, first_byte e))
trees-unique (From vs) (Head g s) p q e = absurd (omega (arith, first_byte e))
trees-unique (From vs) (Node m) p q e = absurd (omega (arith, first_byte e))
trees-unique (From vs) (Step m) p q e = absurd (omega (arith, first_byte e))
trees-unique (From vs) (End b) p q e = absurd (omega (arith, first_byte e))
trees-unique (Node n) (Head g s) p q e = absurd (omega (arith, first_byte e))
trees-unique (Node n) (From ws) p q e = absurd (omega (arith, first_byte e))
trees-unique (Node n) (Step m) p q e = absurd (omega (arith, first_byte e))
trees-unique (Node n) (End b) p q e = absurd (omega (arith, first_byte e))
trees-unique (Step n) (Head g s) p q e = absurd (omega (arith, first_byte e))
trees-unique (Step n) (From ws) p q e = absurd (omega (arith, first_byte e))
trees-unique (Step n) (Node m) p q e = absurd (omega (arith, first_byte e))
trees-unique (Step n) (End b) p q e = absurd (omega (arith, first_byte e))
trees-unique (End a) (Head g s) p q e = absurd (omega (arith, first_byte e))
trees-unique (End a) (From ws) p q e = absurd (omega (arith, first_byte e))
trees-unique (End a) (Node m) p q e = absurd (omega (arith, first_byte e))
trees-unique (End a) (Step m) p q e = absurd (omega (arith, first_byte e))

pub one_text : OneText
one_text line bytes others p q = p.is ∙ sym q.is

pub one_line : OneLine
one_line line other bytes p q =
    let e = one_row (line_trees line) (line_trees other) bytes (row_of_line line bytes p) (row_of_line other bytes q) in
    trees-unique line other p.has.plain q.has.plain e

lines_unique : (lines others : List Line) → All HasText lines → All HasText others → lines_text lines ≡ lines_text others → lines ≡ others
lines_unique [] [] p q e = refl
lines_unique [] (m ∷ others) p q e = absurd (omega (arith, ap length e, length-append (line_text m ++ 10 ∷ []) (lines_text others), length-append (line_text m) (10 ∷ [])))
lines_unique (l ∷ lines) [] p q e = absurd (omega (arith, ap length e, length-append (line_text l ++ 10 ∷ []) (lines_text lines), length-append (line_text l) (10 ∷ [])))
lines_unique (l ∷ lines) (m ∷ others) p q e =
    let has = p 0 l (omega arith) in
    let had = q 0 m (omega arith) in
    let whole : line_text l ++ (10 ∷ lines_text lines) ≡ line_text m ++ (10 ∷ lines_text others) =
    sym (append_assoc (line_text l) (10 ∷ []) (lines_text lines)) ∙ e ∙ append_assoc (line_text m) (10 ∷ []) (lines_text others) in
    let k = unique_row (line_trees l) (line_trees m) (10 ∷ lines_text lines) (10 ∷ lines_text others) has.spelled.spelled had.spelled.spelled whole (inr refl) (inr refl) in
    ap₂ ◌∷◌ (trees-unique l m has.plain had.plain k.0)
    (lines_unique lines others (λ i d h. p (suc i) d (omega arith)) (λ i d h. q (suc i) d (omega arith)) (tails k.1))

pub printed_is_read : PrintedIsRead
printed_is_read lines all = (record { have = all; is = refl }, λ others t. lines_unique lines others all t.have t.is)
