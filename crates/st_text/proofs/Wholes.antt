-- From what stands at the front of bytes to the whole of them.
use Rattle.std.proofs.Common.{◌≡◌, ℕ, zero, suc, Bool, false, ◌==◌, ◌<◌, List, [], ◌∷◌, length, sym, ap, ◌∙◌, append-nil, arith}
use Rattle.st_text.specs.Text.{TextTree, TextTrees, text, row_text, TreeText, RowText, FrontText}
use Rattle.st_text.specs.Reading.{IsNoTree, IsNoRow, IsNoFront}
use Rattle.st_text.specs.inner.Fronts.{Reads, ReadsRow, ReadsNoTree, ReadsNoRow}
use Rattle.st_text.proofs.Unique.{unique, unique_row}

-- ---- one tree

pub tree_whole : (bytes rest : List ℕ) (t : TextTree) → Reads 2000 bytes t rest → length rest ≡ 0 → TreeText t bytes
tree_whole bytes (x ∷ rest) t r e = absurd (omega arith)
tree_whole bytes [] t r e = record { has = record { spelled = r.spelled; shallow = r.shallow }; is = r.is ∙ append-nil (text t) }

tree_reads : (bytes : List ℕ) (t : TextTree) → TreeText t bytes → Reads 2000 bytes t []
tree_reads bytes t i = record { spelled = i.has.spelled; shallow = i.has.shallow; is = i.is ∙ sym (append-nil (text t)); ends = tt }

pub tree_none : (bytes : List ℕ) → ReadsNoTree 2000 bytes → IsNoTree bytes
tree_none bytes n = record { never = λ t i. n.never t [] (tree_reads bytes t i) }

pub tree_part : (bytes rest : List ℕ) (t : TextTree) → Reads 2000 bytes t rest → 0 < length rest → IsNoTree bytes
tree_part bytes rest t r p = record { never = λ u i. omega (arith, p, ap length (unique t u rest [] r.spelled i.has.spelled (sym r.is ∙ (tree_reads bytes u i).is) r.ends tt).1) }

-- ---- a tree at the front

pub front_some : (bytes rest : List ℕ) (t : TextTree) → Reads 2000 bytes t rest → FrontText t bytes rest
front_some bytes rest t r = record { has = record { spelled = r.spelled; shallow = r.shallow }; is = r.is; ends = r.ends }

pub front_none : (bytes : List ℕ) → ReadsNoTree 2000 bytes → IsNoFront bytes
front_none bytes n = record { never = λ t rest f. n.never t rest (record { spelled = f.has.spelled; shallow = f.has.shallow; is = f.is; ends = f.ends }) }

-- ---- a row

pub row_whole : (bytes rest : List ℕ) (ts : TextTrees) → ReadsRow 2000 bytes ts rest → length rest ≡ 0 → RowText ts bytes
row_whole bytes (x ∷ rest) ts r e = absurd (omega arith)
row_whole bytes [] ts r e = record { have = record { spelled = r.spelled; shallow = r.shallow }; is = r.is ∙ append-nil (row_text ts) }

row_reads : (bytes : List ℕ) (ts : TextTrees) → RowText ts bytes → ReadsRow 2000 bytes ts []
row_reads bytes ts i = record { spelled = i.have.spelled; shallow = i.have.shallow; is = i.is ∙ sym (append-nil (row_text ts)); closes = tt }

pub row_none : (bytes : List ℕ) → ReadsNoRow 2000 bytes → IsNoRow bytes
row_none bytes n = record { never = λ ts i. n.never ts [] (row_reads bytes ts i) }

pub row_part : (bytes rest : List ℕ) (ts : TextTrees) → ReadsRow 2000 bytes ts rest → 0 < length rest → IsNoRow bytes
row_part bytes rest ts r p = record { never = λ us i. omega (arith, p, ap length (unique_row ts us rest [] r.spelled i.have.spelled (sym r.is ∙ (row_reads bytes us i).is) r.closes tt).1) }

pub some_left : (n : ℕ) (b : Bool) → b ≡ (n == 0) → b ≡ false → 0 < n
some_left zero b e f = absurd (cc)
some_left (suc n) b e f = omega arith

-- ---- what each reader's goals need

pub ruleset tree_steps = (tree_whole, tree_part, tree_none)

pub ruleset whole_row_steps = (row_whole, row_part, row_none)
