-- The notations of a source are templates.
use Rattle.std.proofs.Common.{rules, ◌≡◌, refl, sym, ◌∙◌, ap, subst, ℕ, suc, ◌+◌, ◌≤◌, max, List, [], ◌∷◌, ◌++◌, map, Bool, true, false, arith}
use Rattle.std.specs.Prelude.{Option, Some, None, nat_lt, if◌then◌else◌}
use Rattle.std.specs.Option.{option_or}
use Rattle.std.specs.List.{AllByRecursion}
use Rattle.std.proofs.lemmas.Bool.Decides.{nat_tests}
use Rattle.std.proofs.lemmas.List.{map-append}
use Rattle.st_num.specs.declared.mark.Mark.{Mark}
use Rattle.st_num.specs.declared.mark.Mark.TheVariants as mark
use Rattle.st_num.specs.declared.word.Word.{Word}
use Rattle.st_num.specs.declared.word.Word.TheVariants as word
use Rattle.st_num.specs.declared.span.Span.{Span}
use Rattle.st_num.specs.declared.limit.TheConstants.{HIGHEST_TREE}
use Rattle.st_scan.specs.Spelling.{Spells, has_lower}
use Rattle.st_scan.specs.Tokens.{Run}
use Rattle.st_num.specs.declared.token.Token.{Token}
use Rattle.st_num.specs.declared.token.TokenKind.{TokenKind}
use Rattle.st_num.specs.declared.token.TokenKind.TheVariants as kind
use Rattle.st_grammar.specs.Terminals.{Terminal, leaf, dot, other, is_variable, word_terminal, sign_terminal, kind_terminal, terminal, declared_names}
use Rattle.st_grammar.specs.declared.sort.Leaf.TheVariants.{Variable as variable, Atom as atom_leaf}
use Rattle.st_grammar.specs.Trees.{text}
use Rattle.st_grammar.specs.Grammar.{is_type}
use Rattle.st_grammar.specs.Definitions as grammar
use Rattle.st_grammar.specs.Definitions.{hints_text, Members, no_members, member, members_text, CasesFit, fields, cases, body_text, BodyFits, syntax_def, var_def, relation_def, rule_def, fun_def, clause_def, def_text, DefFits, Defs, no_defs, more_defs, defs_text, DefsFit}
use Rattle.st_el.specs.declared.notation.Notation.{Notation, the_lemmas}
use Rattle.st_el.specs.declared.notation.NotNode.{NotNode, roll-NotNode}
use Rattle.st_el.specs.declared.notation.NotNode.TheOpen.{NotNode-F}
use Rattle.st_el.specs.declared.notation.NotNode.TheVariants as node
use Rattle.st_el.specs.declared.definition.Body.{Body}
use Rattle.st_el.specs.declared.definition.Body.TheVariants as body
use Rattle.st_el.specs.declared.definition.Def.{Def}
use Rattle.st_el.specs.declared.definition.DefNode.{DefNode}
use Rattle.st_el.specs.declared.definition.DefNode.TheVariants as def
use Rattle.st_el.proofs.NotationInduction.{NotationParts, notation_induction}
use Rattle.st_il.specs.Height as parts
use Rattle.st_il.specs.Notation.{IsUpName, IsNotation}
use Rattle.st_il.specs.Template.{template_height}
use Rattle.st_il.proofs.TemplateForms.{height-Atom, height-Hole, height-Seq, height-Infix, height-Bracket}
use Rattle.st_parse.proofs.Standing.{both, front, behind}
use Rattle.st_parse.specs.Limits.{too_tall, tall_at, first_that}
use Rattle.st_parse.specs.Source.{IsSource}
use Rattle.st_parse_builder.specs.Names.{name_of}
use Rattle.st_parse_builder.specs.Notations.{typ_meaning, notation_at, notation_meaning}
use Rattle.st_parse_builder.specs.Definitions.{cases_meaning, variant, body_meaning, def_meaning, defs_meaning}
use Rattle.st_parse_builder.specs.Heights.{highest, notation_height}
use Rattle.st_parse_builder.proofs.NotationTallness.{tall_atom, tall_hole, tall_bracket}
use Rattle.st_parse_builder.specs.DefHeights.{def_node_height, def_height}
use Rattle.st_elab_sig.specs.Signatures.{template_of}
use Rattle.st_elab_def.specs.Answers.{HasTemplate, NodeHasTemplates, HasTemplates}
use Rattle.st_source.specs.Faults.{AllTokens}
use Rattle.st_source.proofs.IsNotation.{HasUpName, HaveUpNames, IsUpName-of, template_of-Atom, template_of-Hole, template_of-Seq, template_of-Infix, template_of-Bracket, IsNotation-meant, level-least}

-- ---- heights

-- the template of the notation is no higher
abbrev IsNoHigher : Notation → Type 0
IsNoHigher n = template_height (template_of n) ≤ notation_height n

-- so for a level, wherever it stands
abbrev LevelIsNoHigher : NotNode → Type 0
LevelIsNoHigher k = (at : Span) → IsNoHigher (notation_at at k)

tall_infix : (at : Span) (l : Notation) (m : Mark) (r : Notation) → notation_height (notation_at at (node.Infix l m r)) ≡ max (notation_height l) (notation_height r) + 1
tall_infix at l m r = search (rules, the_lemmas)

tall_seq : (at : Span) (ns : List Notation) → notation_height (notation_at at (node.Seq ns)) ≡ highest (map notation_height ns) + 1
tall_seq at ns = search (rules, the_lemmas)

parts-no_higher : (ns : List Notation) → AllByRecursion IsNoHigher ns → parts.highest (map template_height (map template_of ns)) ≤ highest (map notation_height ns)
parts-no_higher [] h = omega arith
parts-no_higher (n ∷ ns) h =
    let here : template_height (template_of n) ≤ notation_height n = h.0 in
    let rest = parts-no_higher ns h.1 in
    omega (arith, here, rest)

level-no_higher : (x : NotNode-F NotNode Notation) → NotationParts IsNoHigher x → LevelIsNoHigher (roll-NotNode x)
level-no_higher (NotNode-F.Atom name) h = subst LevelIsNoHigher (sym (node.rolls-Atom name)) of_atom
  where
    of_atom : LevelIsNoHigher (node.Atom name)
    of_atom at =
        let e = ap template_height (template_of-Atom at name) ∙ height-Atom name in
        let k = tall_atom at name in
        omega (arith, e, k)
level-no_higher (NotNode-F.Hole t) h = subst LevelIsNoHigher (sym (node.rolls-Hole t)) of_hole
  where
    of_hole : LevelIsNoHigher (node.Hole t)
    of_hole at =
        let e = ap template_height (template_of-Hole at t) ∙ height-Hole in
        let k = tall_hole at t in
        omega (arith, e, k)
level-no_higher (NotNode-F.Seq ns) h = subst LevelIsNoHigher (sym (node.rolls-Seq ns)) of_seq
  where
    of_seq : LevelIsNoHigher (node.Seq ns)
    of_seq at =
        let e = ap template_height (template_of-Seq at ns) ∙ height-Seq (map template_of ns) in
        let k = tall_seq at ns in
        let below = parts-no_higher ns h in
        omega (arith, e, k, below)
level-no_higher (NotNode-F.Infix l m r) h = subst LevelIsNoHigher (sym (node.rolls-Infix l m r)) of_infix
  where
    of_infix : LevelIsNoHigher (node.Infix l m r)
    of_infix at =
        let e = ap template_height (template_of-Infix at l m r) ∙ height-Infix (template_of l) m (template_of r) in
        let k = tall_infix at l m r in
        let first : template_height (template_of l) ≤ notation_height l = h.0 in
        let second : template_height (template_of r) ≤ notation_height r = h.1 in
        omega (arith, e, k, first, second)
level-no_higher (NotNode-F.Bracket m n) h = subst LevelIsNoHigher (sym (node.rolls-Bracket m n)) of_bracket
  where
    of_bracket : LevelIsNoHigher (node.Bracket m n)
    of_bracket at =
        let e = ap template_height (template_of-Bracket at m n) ∙ height-Bracket m (template_of n) in
        let k = tall_bracket at m n in
        let below : template_height (template_of n) ≤ notation_height n = h in
        omega (arith, e, k, below)

no_higher : (n : Notation) → IsNoHigher n
no_higher = notation_induction LevelIsNoHigher IsNoHigher level-no_higher (λ x h. h x.at)

-- ---- tokens

word-named : (w : Word) (x : Token) → HasUpName (word_terminal w x)
word-named word.Bool x = tt
word-named word.Nat x = tt
word-named word.Int x = tt
word-named word.Text x = tt
word-named word.True x = tt
word-named word.False x = tt
word-named word.Eps x = tt
word-named w x = tt

sign-named : (m : Mark) (x : Token) → HasUpName (sign_terminal m x)
sign-named mark.OpenParen x = tt
sign-named mark.OpenBracket x = tt
sign-named mark.OpenBrace x = tt
sign-named mark.TickParen x = tt
sign-named mark.TickBracket x = tt
sign-named mark.TickBrace x = tt
sign-named mark.OpenArith x = tt
sign-named mark.CloseParen x = tt
sign-named mark.CloseBracket x = tt
sign-named mark.CloseBrace x = tt
sign-named mark.Bar x = tt
sign-named m x = tt

-- the names that a token of a file can be in a notation are names of capitals
kind-named : (names : List (List ℕ)) (x : Token) (k : TokenKind) (bytes : List ℕ) → x.kind ≡ k → Spells bytes k → HasUpName (kind_terminal names k x)
kind-named names x (kind.Low name) bytes is h = tt
kind-named names x (kind.Up name) bytes is h = by (is_variable names name)
  where
    up : IsUpName (name_of x.kind)
    up = subst IsUpName (sym (ap name_of is)) (IsUpName-of name h.1 h.2)

    by : (b : Bool) → HasUpName (if b then leaf variable x else leaf atom_leaf x)
    by true = up
    by false = up
kind-named names x (kind.Mix name) bytes is h = tt
kind-named names x (kind.Reserved w) bytes is h = word-named w x
kind-named names x (kind.Number n) bytes is h = tt
kind-named names x (kind.Text text) bytes is h = tt
kind-named names x (kind.Dot name) bytes is h = by (has_lower name) refl
  where
    by : (b : Bool) → has_lower name ≡ b → HasUpName (if b then other x else dot x)
    by true e = tt
    by false e = subst IsUpName (sym (ap name_of is)) (IsUpName-of name h.1 e)
kind-named names x (kind.Fun name) bytes is h = tt
kind-named names x (kind.Sign m) bytes is h = sign-named m x

run-named : (names : List (List ℕ)) (number : ℕ) (file rest left : List ℕ) (tokens : List Token) → Run number file rest tokens left → HaveUpNames (map (terminal names) tokens)
run-named names number file rest left [] run = tt
run-named names number file rest left (x ∷ xs) (middle, next, more) = (kind-named names x x.kind next.text refl next.longest.spelled, run-named names number file middle left xs more)

tokens-named : (names : List (List ℕ)) (number : ℕ) (files : List (List ℕ)) (tokens : List Token) → AllTokens number files tokens → HaveUpNames (map (terminal names) tokens)
tokens-named names number [] tokens none = subst (λ xs. HaveUpNames (map (terminal names) xs)) (sym none) tt
tokens-named names number (file ∷ files) tokens (first, later, here, rest, is) =
    subst (λ xs. HaveUpNames (map (terminal names) xs)) (sym is)
    (subst HaveUpNames (sym (map-append (terminal names) first later))
    (both HasUpName (map (terminal names) first) (map (terminal names) later) (run-named names number file file here.left first here.run) (tokens-named names (suc number) files later rest)))

-- ---- definitions

-- the notations in a body
abbrev notations_in : Body → List Notation
notations_in (body.Cases before ns after) = ns
notations_in b = []

-- the notations in what is defined
abbrev notations_of : DefNode → List Notation
notations_of (def.Syntax name fragment b) = notations_in b
notations_of (def.Relation name n) = n ∷ []
notations_of d = []

-- the template of the notation is a notation, of any height
abbrev IsNotational : Notation → Type 0
IsNotational n = IsNotation 7 (template_of n)

cases-notational : (ms : Members) → CasesFit ms → HaveUpNames (members_text ms) → AllByRecursion IsNotational (cases_meaning ms)
cases-notational no_members h s = tt
cases-notational (member ms pre t hs) h s =
    let there = behind HasUpName (members_text ms) (pre ++ (text t ++ hints_text hs)) s in
    let tree = front HasUpName (text t) (hints_text hs) (behind HasUpName pre (text t ++ hints_text hs) there) in
    both IsNotational (cases_meaning ms) (notation_meaning t ∷ [])
    (cases-notational ms h.0 (front HasUpName (members_text ms) (pre ++ (text t ++ hints_text hs)) s))
    (IsNotation-meant t 7 tree h.2 (level-least t h.2), tt)

alias-or : (P : Notation → Type 0) (b : Bool) (a v : Body) → AllByRecursion P (notations_in a) → AllByRecursion P (notations_in v) → AllByRecursion P (notations_in (if b then a else v))
alias-or P true a v h k = h
alias-or P false a v h k = k

-- a body of alternatives has their notations, or is an alias
body-cases : (P : Notation → Type 0) (ms : Members) (ls : List Terminal) → AllByRecursion P (cases_meaning ms) → AllByRecursion P (notations_in (body_meaning (cases ms ls)))
body-cases P (member no_members (d ∷ b ∷ []) t hs) ls h = h
body-cases P (member no_members [] t hs) [] h = alias-or P (is_type t) (body.Alias (typ_meaning t)) (variant (member no_members [] t hs) []) tt h
body-cases P (member no_members (d ∷ []) t hs) [] h = alias-or P (is_type t) (body.Alias (typ_meaning t)) (variant (member no_members (d ∷ []) t hs) []) tt h
body-cases P (member no_members (d ∷ b ∷ c ∷ pre) t hs) [] h = alias-or P (is_type t) (body.Alias (typ_meaning t)) (variant (member no_members (d ∷ b ∷ c ∷ pre) t hs) []) tt h
body-cases P (member no_members [] t hs) (l ∷ ls) h = h
body-cases P (member no_members (d ∷ []) t hs) (l ∷ ls) h = h
body-cases P (member no_members (d ∷ b ∷ c ∷ pre) t hs) (l ∷ ls) h = h
body-cases P (member (member ms q u gs) pre t hs) ls h = h
body-cases P no_members ls h = h

body-notational : (b : grammar.Body) → BodyFits b → HaveUpNames (body_text b) → AllByRecursion IsNotational (notations_in (body_meaning b))
body-notational (fields o ms c) h s = tt
body-notational (cases ms ls) h s = body-cases IsNotational ms ls (cases-notational ms h.0 (front HasUpName (members_text ms) ls s))

def-notational : (d : grammar.Def) → DefFits d → HaveUpNames (def_text d) → AllByRecursion IsNotational (notations_of (def_meaning d).node)
def-notational (syntax_def w x ls hs e b) h s =
    body-notational b h.5 (behind HasUpName (hints_text hs) (e ∷ body_text b) (behind HasUpName ls (hints_text hs ++ (e ∷ body_text b)) s.1.1)).1
def-notational (var_def w x c t hs) h s = tt
def-notational (relation_def w r hs c t ks) h s =
    let tree = front HasUpName (text t) (hints_text ks) (behind HasUpName (hints_text hs) (c ∷ (text t ++ hints_text ks)) s.1.1).1 in
    (IsNotation-meant t 7 tree h.4 (level-least t h.4), tt)
def-notational (rule_def w r ls c t ps) h s = tt
def-notational (fun_def w f a c t hs) h s = tt
def-notational (clause_def w f a e t ps) h s = tt

defs-notational : (ds : Defs) → DefsFit ds → HaveUpNames (defs_text ds) → AllByRecursion (λ (d : Def). AllByRecursion IsNotational (notations_of d.node)) (defs_meaning ds)
defs-notational no_defs h s = tt
defs-notational (more_defs ds d) h s =
    both (λ (d : Def). AllByRecursion IsNotational (notations_of d.node)) (defs_meaning ds) (def_meaning d ∷ [])
    (defs-notational ds h.0 (front HasUpName (defs_text ds) (def_text d) s))
    (def-notational d h.1 (behind HasUpName (defs_text ds) (def_text d) s), tt)

-- ---- what is not too high

low-templates : (ns : List Notation) → highest (map notation_height ns) ≤ HIGHEST_TREE → AllByRecursion IsNotational ns → AllByRecursion HasTemplate ns
low-templates [] low h = tt
low-templates (n ∷ ns) low h =
    let same : template_height (template_of n) ≤ notation_height n = no_higher n in
    (record { notation = h.0; height = omega (arith, low, same) }, low-templates ns (omega (arith, low)) h.1)

body-low : (d : DefNode) → def_node_height d ≤ HIGHEST_TREE → AllByRecursion IsNotational (notations_of d) → NodeHasTemplates d
body-low (def.Syntax name fragment (body.Cases before ns after)) low h = low-templates ns low h
body-low (def.Syntax name fragment (body.Alias t)) low h = tt
body-low (def.Syntax name fragment (body.Fields fs)) low h = tt
body-low (def.Relation name n) low h = (low-templates (n ∷ []) (omega (arith, low)) h).0
body-low (def.Var name t) low h = tt
body-low (def.Rule r name e ps) low h = tt
body-low (def.Fun name ts t) low h = tt
body-low (def.Clause name es e ps) low h = tt

not-below : (a b : ℕ) → nat_lt a b ≡ false → b ≤ a
not-below a b h = grind (arith, nat_tests)

none-tall : (at : Span) (height : ℕ) → tall_at at height ≡ None → height ≤ HIGHEST_TREE
none-tall at height h = by (nat_lt HIGHEST_TREE height) refl h
  where
    by : (b : Bool) → nat_lt HIGHEST_TREE height ≡ b → (if b then Some at else None) ≡ None → height ≤ HIGHEST_TREE
    by true e k = absurd (cc)
    by false e k = not-below HIGHEST_TREE height e

or-none : (a b : Option Span) → option_or a b ≡ None → (a ≡ None) × (b ≡ None)
or-none None b h = (refl, h)
or-none (Some at) b h = absurd (cc)

all-low : (defs : List Def) → first_that too_tall defs ≡ None → AllByRecursion (λ (d : Def). AllByRecursion IsNotational (notations_of d.node)) defs → HasTemplates defs
all-low [] none h = tt
all-low (d ∷ ds) none h =
    let each = or-none (too_tall d) (first_that too_tall ds) none in
    (body-low d.node (none-tall d.at (def_height d) each.0) h.0, all-low ds each.1 h.1)

-- where the tokens of files are those of a source, its notations are templates
pub HasTemplates-source : (files : List (List ℕ)) (tokens : List Token) (defs : List Def) → AllTokens 0 files tokens → IsSource tokens defs → HasTemplates defs
HasTemplates-source files tokens defs all source =
    let parsed = source.0.1 in
    let names = declared_names tokens in
    let named = subst HaveUpNames parsed.grammar.spelled (tokens-named names 0 files tokens all) in
    all-low defs source.1.1 (subst (AllByRecursion (λ (d : Def). AllByRecursion IsNotational (notations_of d.node))) parsed.meant (defs-notational parsed.trees parsed.grammar.fits named))
