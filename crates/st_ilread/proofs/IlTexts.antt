-- The text of an internal language, line by line.
use Rattle.std.proofs.Common.{◌≡◌, ◌≢◌, ℕ, suc, ◌+◌, ◌≤◌, List, [], ◌∷◌, ◌++◌, length, flat_map, Result, Ok, Err, MatchResult, refl, sym, ap, subst, ◌∙◌, append_assoc, append-nil, arith}
use Rattle.std.specs.List.{All}
use Rattle.std.proofs.lemmas.List.{length-append}
use Rattle.std.proofs.lemmas.List.Elements.{All-push}
use Rattle.std.proofs.lemmas.Grind.{flat_map-append}
use Rattle.st_il.specs.declared.definition.Il.{Il}
use Rattle.st_il.specs.declared.definition.IlDef.{IlDef}
use Rattle.st_text.specs.declared.fault.TextFault.{TextFault}
use Rattle.st_text.specs.declared.fault.TextFault.TheVariants.{Malformed, Memory}
use Rattle.st_text.specs.Reading.{Answers, IsNoTree}
use Rattle.st_text.specs.Text.{TextTree, text, TreeText, HasText}
use Rattle.st_text.proofs.Unique.{one_tree}
use Rattle.st_iltext.specs.Definitions.{definition_tree}
use Rattle.st_iltext.specs.IlText.{HasDefinitionText, definition_line, IlText}
use Rattle.st_iltext.specs.Written.{written}
use Rattle.st_iltext.specs.inner.Reading.{IsOf, IsOfNone, Reads}
use Rattle.st_iltext.proofs.Feeds.{text-line}
use Rattle.st_iltext.proofs.Lines.{IsLine, line_unique, no_line}
use Rattle.st_iltext.proofs.IlSame.{one_il}
use Rattle.st_ilread.specs.IlReading.{IsLineOf, IsNoLine, BeginWithNone, ReadsIl}

-- ---- one line

pub line_no_tree : (line : List ℕ) → IsNoTree line → IsNoLine line
line_no_tree line n = record { never = λ d l. n.never (definition_tree d) (record { has = l.has.tree; is = l.is }) }

pub line_none : (line : List ℕ) (t : TextTree) → TreeText t line → IsOfNone definition_tree written t → IsNoLine line
line_none line t r n = record { never = λ d l. n.never d l.has.fits (one_tree t (definition_tree d) line r (record { has = l.has.tree; is = l.is })) }

pub line_is : (line : List ℕ) (t : TextTree) (d : IlDef) → TreeText t line → IsOf definition_tree written t d → IsLineOf line d
line_is line t d r i = record {
  has = record { fits = i.fits; tree = subst HasText i.is r.has };
  is = r.is ∙ ap text i.is;
}

pub line_read : (line : List ℕ) (t : TextTree) (result : Result IlDef TextFault) → TreeText t line → Reads definition_tree written t result → Answers result (IsLineOf line) (IsNoLine line)
line_read line t (Ok d) r i = line_is line t d r i
line_read line t (Err (Malformed n)) r i = (i.0, line_none line t r i.1)
line_read line t (Err Memory) r i = tt

-- ---- lines of definitions

line_behind : (d : IlDef) (w : List ℕ) → definition_line d ++ w ≡ text (definition_tree d) ++ 10 ∷ w
line_behind d w = append_assoc (text (definition_tree d)) (10 ∷ []) w

no_text : (d : IlDef) (w : List ℕ) → definition_line d ++ w ≡ [] → ⊥
no_text d w e = omega (arith, ap length (sym (line_behind d w) ∙ e), length-append (text (definition_tree d)) (10 ∷ w))

-- the first lines, and what stands behind them
pub record LinesSoFar (defs : List IlDef) (bytes rest : List ℕ) : Type 0 where
  pub have : All HasDefinitionText defs
  pub is : bytes ≡ flat_map definition_line defs ++ rest
  pub few : length defs + length rest ≤ length bytes

pub lines_start : (defs : List IlDef) (bytes : List ℕ) → defs ≡ [] → LinesSoFar defs bytes bytes
lines_start defs bytes e = subst (λ (ds : List IlDef). LinesSoFar ds bytes bytes) (sym e) (record { have = λ k d h. absurd (omega (arith, h)); is = refl; few = omega arith })

pub lines_step : (defs longer : List IlDef) (bytes rest line behind : List ℕ) (d : IlDef) → LinesSoFar defs bytes rest → rest ≡ line ++ 10 ∷ behind → IsLineOf line d → longer ≡ defs ++ d ∷ []
    → LinesSoFar longer bytes behind
lines_step defs longer bytes rest line behind d so e l f = subst (λ (ds : List IlDef). LinesSoFar ds bytes behind) (sym f) (record {
  have = All-push HasDefinitionText defs d so.have l.has;
  is = so.is ∙ ap (λ w. flat_map definition_line defs ++ w) (e ∙ ap (λ w. w ++ 10 ∷ behind) l.is ∙ sym (line_behind d behind))
      ∙ sym (append_assoc (flat_map definition_line defs) (definition_line d) behind)
      ∙ ap (λ w. w ++ behind) (sym (flat_map-append definition_line defs (d ∷ []) ∙ ap (λ w. flat_map definition_line defs ++ w) (append-nil (definition_line d))));
  few = omega (arith, so.few, ap length e, length-append line (10 ∷ behind), length-append defs (d ∷ []));
})

pub lines_end : (defs : List IlDef) (bytes rest : List ℕ) → LinesSoFar defs bytes rest → rest ≡ [] → ReadsIl bytes (Ok (record { defs = defs }))
lines_end defs bytes rest so e = record { has = so.have; is = so.is ∙ ap (λ w. flat_map definition_line defs ++ w) e ∙ append-nil (flat_map definition_line defs) }

-- ---- where the lines stop

-- lines that stop are those of no internal language
no_il : (ds es : List IlDef) (rest : List ℕ) → All HasDefinitionText ds → All HasDefinitionText es → BeginWithNone rest → flat_map definition_line ds ++ rest ≡ flat_map definition_line es → ⊥
no_il [] [] rest p q b h = b.some h
no_il [] (e ∷ es) rest p q b h = b.never e (flat_map definition_line es) (q 0 e (omega arith)) h
no_il (d ∷ ds) [] rest p q b h = no_text d (flat_map definition_line ds ++ rest) (sym (append_assoc (definition_line d) (flat_map definition_line ds) rest) ∙ h)
no_il (d ∷ ds) (e ∷ es) rest p q b h =
    let here = p 0 d (omega arith) in
    let there = q 0 e (omega arith) in
    let first = line_unique (text (definition_tree d)) (text (definition_tree e)) (flat_map definition_line ds ++ rest) (flat_map definition_line es) (text-line _ here.tree) (text-line _ there.tree)
    (sym (line_behind d (flat_map definition_line ds ++ rest)) ∙ sym (append_assoc (definition_line d) (flat_map definition_line ds) rest) ∙ h ∙ line_behind e (flat_map definition_line es)) in
    no_il ds es rest (λ k x g. p (suc k) x (omega arith)) (λ k x g. q (suc k) x (omega arith)) b first.1

pub stops : (defs : List IlDef) (bytes rest : List ℕ) (fault : TextFault) → LinesSoFar defs bytes rest → BeginWithNone rest → fault ≡ Malformed (length defs + 1) → ReadsIl bytes (Err fault)
stops defs bytes rest fault so b e = subst (λ f. ReadsIl bytes (Err f)) (sym e) (
  record { never = λ il w. no_il defs il.defs rest so.have w.has b (sym so.is ∙ w.is) },
  record { before = defs; rest = rest; have = so.have; is = so.is; stops = b; behind = refl },
)

pub no_line_left : (rest : List ℕ) → rest ≢ [] → IsLine rest → BeginWithNone rest
no_line_left rest some is = record { some = some; never = λ d others has e. no_line rest (text (definition_tree d)) others is (e ∙ line_behind d others) }

pub line_refused : (rest line behind : List ℕ) → rest ≢ [] → IsLine line → rest ≡ line ++ 10 ∷ behind → IsNoLine line → BeginWithNone rest
line_refused rest line behind some is e n = record {
  some = some;
  never = λ d others has f.
      let first = line_unique line (text (definition_tree d)) behind others is (text-line _ has.tree) (sym e ∙ f ∙ line_behind d others) in
      n.never d (record { has = has; is = first.0 });
}

-- ---- what is read is the one

pub il_back : (bytes : List ℕ) (result : Result Il TextFault) → ReadsIl bytes result → (il : Il) → IlText il bytes → MatchResult result (λ read. read ≡ il) (λ fault. fault ≡ Memory)
il_back bytes (Ok read) r il w = one_il read il bytes r w
il_back bytes (Err (Malformed line)) r il w = absurd (r.0.never il w)
il_back bytes (Err Memory) r il w = refl
