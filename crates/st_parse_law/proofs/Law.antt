-- What is printed of an expression that was read is read as this expression.
use Rattle.std.proofs.Common.{ℕ, List, [], ◌∷◌, ◌++◌, false, true, All, Contains, refl, sym, ap, subst, arith}
use Rattle.std.proofs.lemmas.List.{append-nil}
use Rattle.std.proofs.lemmas.List.Elements.{All-nil, All-cons, All-head, All-tail, All-push, All-append, All-weaker, All-contains, All-contains_itself}
use Rattle.st_num.specs.declared.token.Token.{Token}
use Rattle.st_num.specs.declared.token.TokenKind.{TokenKind}
use Rattle.st_num.specs.declared.token.TokenKind.TheVariants.{Text}
use Rattle.st_scan.specs.Answers.{IsText, text_in, HaveTexts}
use Rattle.st_scan.specs.Tokens.{IsInRange, Run, Tokens}
use Rattle.st_scan.proofs.Answers.{tokens_texts}
use Rattle.st_scan.proofs.Runs.{tokens_unique}
use Rattle.st_grammar.specs.declared.sort.Style.TheVariants.{Parts as parts}
use Rattle.st_grammar.specs.declared.sort.Sort.TheVariants.{Expression as expression}
use Rattle.st_grammar.specs.Terminals.{terminal}
use Rattle.st_grammar.specs.Trees.{Trees, none, more, text, texts}
use Rattle.st_grammar.specs.Grammar.{EachFits}
use Rattle.st_el.specs.declared.expression.Exp.{Exp}
use Rattle.st_el.specs.declared.context.Around.TheVariants.{Brackets}
use Rattle.st_el.specs.Contexts.{whole}
use Rattle.st_el.specs.SourceText.{source_text}
use Rattle.st_parse_builder.specs.Meaning.{meaning, meanings}
use Rattle.st_parse.specs.Expressions.{terminals_of}
use Rattle.st_parse.specs.ExpressionSource.{ParseExps}
use Rattle.st_grammar.proofs.TerminalTokens.{terminal_token}
use Rattle.st_parse_law.specs.Written.{IsAllowed, AreApart}
use Rattle.st_parse_law.specs.ReadBack.{IsOfFile, AreOfFiles, MeanAgain, ReadBack}
use Rattle.st_parse_law.proofs.Ends.{at_end}
use Rattle.st_parse_law.proofs.Placed.{PartAt, Printable, placed}
use Rattle.st_parse_law.proofs.Leaves.{IsWritten}
use Rattle.st_parse_law.proofs.AtomTrees.{IsReal, AreReal, real_left, real_right}
use Rattle.st_parse_law.proofs.Printing.{expression_tree}
use Rattle.st_parse_law.proofs.Scanned.{written_tokens}

-- ---- tokens of files

pub file_tokens : (number : ℕ) (file : List ℕ) (xs : List Token) → Tokens number file xs → AreOfFiles xs
file_tokens number file xs t =
    All-weaker (Contains xs) IsOfFile (λ x among. record { number = number; file = file; tokens = xs; scanned = t; among = among }) xs (All-contains_itself xs)

pub more_tokens : (xs ys : List Token) → AreOfFiles xs → AreOfFiles ys → AreOfFiles (xs ++ ys)
more_tokens xs ys h k = All-append IsOfFile xs ys h k

-- ---- they are real

abbrev Written : Token → Type 0
Written x = IsWritten x.kind

allowed : (k : TokenKind) → IsInRange k → IsText (text_in k) → IsAllowed k
allowed (Text text) ranged t = t.utf8
allowed _ ranged t = ranged

run_written : (number : ℕ) (file rest : List ℕ) (xs : List Token) (left : List ℕ) → Run number file rest xs left → HaveTexts xs → All Written xs
run_written number file rest [] left r t = All-nil Written
run_written number file rest (x ∷ xs) left r t =
    let first = allowed x.kind r.1.in_range (All-head (λ y. IsText (text_in y.kind)) x xs t) in
    All-cons Written x xs (r.1.text, r.1.longest.spelled, first) (run_written number file r.0 xs left r.2 (All-tail (λ y. IsText (text_in y.kind)) x xs t))

file_written : (x : Token) → IsOfFile x → Written x
file_written x f =
    All-contains Written f.tokens x (run_written f.number f.file f.file f.tokens f.scanned.left f.scanned.run (tokens_texts f.number f.file f.tokens f.scanned)) f.among

real_terminal : (names : List (List ℕ)) (x : Token) → Written x → IsReal names (terminal names x)
real_terminal names x w = (ap (terminal names) (sym (terminal_token names x)), subst (λ y. IsWritten y.kind) (sym (terminal_token names x)) w)

pub files_real : (names : List (List ℕ)) (xs : List Token) → AreOfFiles xs → AreReal names (terminals_of names xs)
files_real names [] h = tt
files_real names (x ∷ xs) h = (real_terminal names x (file_written x (All-head IsOfFile x xs h)), files_real names xs (All-tail IsOfFile x xs h))

module _ (names : List (List ℕ)) where
  -- it is read back wherever an expression may stand
  abbrev pub IsPrinted : Exp → Type 0
  IsPrinted e = Printable names (expression false) e

  -- ---- one expression

  part_back : (number : ℕ) (e : Exp) → PartAt names (whole Brackets) e → ReadBack names number e
  part_back number e part =
      let apart : AreApart part.pieces = subst AreApart (append-nil part.pieces) (part.apart [] at_end tt) in
      let found = written_tokens number part.pieces apart in
      let r = part.reads true found.0 found.2 in
      let scanned : Tokens number (source_text e) found.0 = subst (λ w. Tokens number w found.0) part.same found.1 in
      let parsed : ParseExps names found.0 (meaning r.tree ∷ []) =
      record { trees = more none [] r.tree; grammar = record { fits = (tt, refl, r.fits, r.level, tt); some = omega arith; spelled = r.spelled }; meant = refl } in
      let again : MeanAgain names found.0 e = (meaning r.tree, parsed, r.plain) in
      record {
        tokens = found.0;
        scanned = scanned;
        means = λ xs w. subst (λ ys. MeanAgain names ys e) (tokens_unique number (source_text e) found.0 xs scanned w) again;
      }

  pub printed_back : (number : ℕ) (e : Exp) → IsPrinted e → ReadBack names number e
  printed_back number e p = part_back number e (placed names (expression false) e (whole Brackets) tt (omega arith) p)

  -- ---- lists of expressions

  pub trees_printed : (ts : Trees) → EachFits (expression false) parts 1 ts → AreReal names (texts ts) → All IsPrinted (meanings ts)
  trees_printed none f r = All-nil IsPrinted
  trees_printed (more ts pre t) f r =
      All-push IsPrinted (meanings ts) (meaning t)
      (trees_printed ts f.0 (real_left names (texts ts) (pre ++ text t) r))
      (expression_tree names false t f.2 (real_right names pre (text t) (real_right names (texts ts) (pre ++ text t) r)))

  pub list_back : (number : ℕ) (xs : List Token) (es : List Exp) (e : Exp) → AreOfFiles xs → ParseExps names xs es → Contains es e → ReadBack names number e
  list_back number xs es e h p among =
      let real : AreReal names (texts p.trees) = subst (AreReal names) p.grammar.spelled (files_real names xs h) in
      let all : All IsPrinted es = subst (All IsPrinted) p.meant (trees_printed p.trees p.grammar.fits real) in
      printed_back number e (All-contains IsPrinted es e all among)
