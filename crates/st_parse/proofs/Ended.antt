-- How high a definition is that ends, by what is told of its trees.
use Rattle.std.proofs.Common.{◌≡◌, ℕ, ◌≤◌, List, [], ◌∷◌, ◌++◌, map, max, Bool, true, false, not, ◌&&◌, nat_lt, if◌then◌else◌, inl, Option, Some, None, refl, sym, ap, subst, ◌∙◌, append-nil, arith}
use Rattle.std.specs.Option.{option_or}
use Rattle.std.proofs.Math.Nat.{max-zero}
use Rattle.std.proofs.lemmas.Bool.{le-ltb}
use Rattle.st_num.specs.declared.limit.TheConstants.{HIGHEST_TREE}
use Rattle.st_num.specs.declared.span.Span.{Span}
use Rattle.st_el.specs.declared.ty.Typ.{Typ}
use Rattle.st_el.specs.declared.notation.Notation.{Notation, out-Notation}
use Rattle.st_el.specs.declared.notation.NotNode.{NotNode, out-NotNode}
use Rattle.st_el.specs.declared.notation.NotNode.TheOpen.{NotNode-F}
use Rattle.st_el.specs.declared.expression.Exp.{Exp}
use Rattle.st_el.specs.declared.definition.Body.TheVariants as body
use Rattle.st_el.specs.declared.definition.Def.{Def}
use Rattle.st_el.specs.declared.definition.DefNode.{DefNode}
use Rattle.st_el.specs.declared.definition.DefNode.TheVariants as def
use Rattle.st_el.specs.declared.definition.Prem.{Prem, out-Prem}
use Rattle.st_parse_builder.specs.Definitions.{prem_at}
use Rattle.st_parse_builder.specs.Heights.{highest, height, typ_height, notation_height}
use Rattle.st_parse_builder.specs.DefHeights.{prem_height, def_node_height}
use Rattle.st_parse_builder.specs.inner.PieceHeights.{typ_in, height_or, open_height}
use Rattle.st_parse_builder.proofs.Tallness.{highest_behind}
use Rattle.st_draft.specs.declared.change.DefinitionEnd.{DefinitionEnd}
use Rattle.st_draft.specs.declared.change.DefinitionEnd.TheVariants as ending
use Rattle.st_draft.specs.declared.draft.Draft.{Draft}
use Rattle.st_draft.specs.declared.draft.Head.{Head}
use Rattle.st_draft.specs.declared.draft.Members.{Members}
use Rattle.st_draft.specs.declared.draft.Premises.{Premises}
use Rattle.st_draft.specs.declared.draft.Sides.{Sides}
use Rattle.st_draft.specs.inner.Drafts.{whole_prem, prem_whole, alias_or, body_of, or_empty, var_of, relation_of, fun_of, rule_of, node_of, def_put, ended, begun}
use Rattle.st_draft.specs.inner.Heights.{height_of, MembersLow, SidesLow, PremisesLow}
use Rattle.st_draft.specs.inner.Ready.{Ends, MayEnd}
use Rattle.st_draft.proofs.Low.{left_of, height_at}
use Rattle.st_draft.proofs.Endings.{begun_clear}
use Rattle.st_parse.specs.declared.kept.Heights.{Heights}
use Rattle.st_parse.specs.Limits.{too_tall, first_that}
use Rattle.st_parse.specs.inner.Kept.{no_heights, Told, alias_in, is_alias, has_notations, high_at, last_high, Stands}
use Rattle.st_parse.proofs.Notes.{some_is, first_behind}

-- ---- premises

-- All premises are low where the open one is.
pub whole_low : (at : Span) (ps : List Prem) (o : Option Prem) → highest (map prem_height ps) ≤ 100 → height_of prem_height o ≤ 100 → highest (map prem_height (ps ++ whole_prem at o)) ≤ 100
whole_low at ps None h l = subst (λ qs. highest (map prem_height qs) ≤ 100) (sym (append-nil ps)) h
whole_low at ps (Some p) h l =
    let low : prem_height p ≤ 100 = l in
    let behind = highest_behind prem_height ps (prem_at at (out-Prem p).node) in
    let same = height_at at p in
    omega (arith, h, low, behind, same)

-- ---- definitions

-- whether a definition is too high
abbrev is_tall : DefNode → Bool
is_tall n = nat_lt HIGHEST_TREE (def_node_height n)

-- whether it is no alias, and these alternatives are too high
abbrev has_high : Bool → DefNode → Bool
has_high high n = not (alias_in n) && high

-- whether an alternative is too high
abbrev notes_high : List Notation → Bool
notes_high ns = nat_lt HIGHEST_TREE (highest (map notation_height ns))

and_false : (b : Bool) → (b && false) ≡ false
and_false true = refl
and_false false = refl

-- a definition without alternatives that are too high
none_tall : (n : DefNode) → def_node_height n ≤ 100 → is_tall n ≡ has_high false n
none_tall n l = le-ltb HIGHEST_TREE (def_node_height n) l ∙ sym (and_false (not (alias_in n)))

alias_tall : (name : List ℕ) (id : Option (List ℕ)) (k : NotNode-F NotNode Notation) (n : Notation) → height_or (notation_height n) (typ_in k) ≤ 100
    → is_tall (def.Syntax name id (alias_or k n)) ≡ has_high (notes_high (n ∷ [])) (def.Syntax name id (alias_or k n))
alias_tall name id (NotNode-F.Hole t) n l = le-ltb HIGHEST_TREE (typ_height t) l
alias_tall name id (NotNode-F.Seq ns) n l = refl
alias_tall name id (NotNode-F.Infix i m r) n l = refl
alias_tall name id (NotNode-F.Bracket m k) n l = refl
alias_tall name id (NotNode-F.Atom a) n l = refl

cases_tall : (name : List ℕ) (id : Option (List ℕ)) (b : Bool) (ns : List Notation) (c : Bool) → highest (map open_height ns) ≤ 100
    → is_tall (def.Syntax name id (body_of b ns c)) ≡ has_high (notes_high ns) (def.Syntax name id (body_of b ns c))
cases_tall name id false (n ∷ []) false l = alias_tall name id (out-NotNode (out-Notation n).node) n (left_of 100 _ _ l)
cases_tall name id false (n ∷ []) true l = refl
cases_tall name id false [] c l = refl
cases_tall name id false (n ∷ m ∷ ns) c l = refl
cases_tall name id true ns c l = refl

relation_tall : (name : List ℕ) (ns : List Notation) (n : DefNode) → relation_of name ns ≡ Some n → is_tall n ≡ has_high (notes_high ns) n
relation_tall name [] n i = absurd (cc)
relation_tall name (k ∷ []) n i =
    let is : def.Relation name k ≡ n = some_is i in
    subst (λ m. is_tall m ≡ has_high (notes_high (k ∷ [])) m) is (ap (nat_lt HIGHEST_TREE) (sym (max-zero (notation_height k))))
relation_tall name (k ∷ m ∷ ks) n i = absurd (cc)

var_low : (name : List ℕ) (o : Option Typ) (n : DefNode) → var_of name o ≡ Some n → height_of typ_height o ≤ 100 → def_node_height n ≤ 100
var_low name None n i l = absurd (cc)
var_low name (Some t) n i l = let is : def.Var name t ≡ n = some_is i in subst (λ m. def_node_height m ≤ 100) is l

fun_low : (name : List ℕ) (ts : List Typ) (o : Option Typ) (n : DefNode) → fun_of name ts o ≡ Some n → highest (map typ_height ts) ≤ 100 → height_of typ_height o ≤ 100 → def_node_height n ≤ 100
fun_low name ts None n i p l = absurd (cc)
fun_low name ts (Some t) n i p l =
    let is : def.Fun name ts t ≡ n = some_is i in
    let low : typ_height t ≤ 100 = l in
    let both : max (highest (map typ_height ts)) (typ_height t) ≤ 100 = omega (arith, p, low) in
    subst (λ m. def_node_height m ≤ 100) is both

rule_low : (h : Head) (s : Sides) (o : Option Exp) (ps : List Prem) (n : DefNode) → rule_of h s o ps ≡ Some n → highest (map height s.args) ≤ 100 → height_of height o ≤ 100 → highest (map prem_height ps) ≤ 100 → def_node_height n ≤ 100
rule_low h s None ps n i a l w = absurd (cc)
rule_low h s (Some e) ps n i a l w = go s.clause refl
  where
    low : height e ≤ 100
    low = l

    go : (b : Bool) → s.clause ≡ b → def_node_height n ≤ 100
    go true j =
        let made : Some (def.Clause h.name s.args e ps) ≡ Some n = ap (λ (c : Bool). if c then Some (def.Clause h.name s.args e ps) else Some (def.Rule h.name (or_empty h.id) e ps)) (sym j) ∙ i in
        let all : max (highest (map height s.args)) (max (height e) (highest (map prem_height ps))) ≤ 100 = omega (arith, a, low, w) in
        let is : def.Clause h.name s.args e ps ≡ n = some_is made in
        subst (λ m. def_node_height m ≤ 100) is all
    go false j =
        let made : Some (def.Rule h.name (or_empty h.id) e ps) ≡ Some n = ap (λ (c : Bool). if c then Some (def.Clause h.name s.args e ps) else Some (def.Rule h.name (or_empty h.id) e ps)) (sym j) ∙ i in
        let all : max (height e) (highest (map prem_height ps)) ≤ 100 = omega (arith, low, w) in
        let is : def.Rule h.name (or_empty h.id) e ps ≡ n = some_is made in
        subst (λ m. def_node_height m ≤ 100) is all

-- A definition that ends is too high exactly where it is no alias and an alternative of it is too high.
ended_tall : (e : DefinitionEnd) (h : Head) (ms : Members) (s : Sides) (p : Premises) (n : DefNode) → node_of e h ms s p ≡ Some n → MembersLow ms → SidesLow s → PremisesLow p
    → is_tall n ≡ has_high (has_notations e && notes_high ms.notations) n
ended_tall ending.Nothing h ms s p n i lm ls lp = absurd (cc)
ended_tall ending.Fields h ms s p n i lm ls lp =
    let is : def.Syntax h.name h.id (body.Fields ms.fields) ≡ n = some_is i in
    none_tall n (subst (λ m. def_node_height m ≤ 100) is lm.fields)
ended_tall (ending.Cases b) h ms s p n i lm ls lp =
    let is : def.Syntax h.name h.id (body_of ms.dots ms.notations b) ≡ n = some_is i in
    subst (λ m. is_tall m ≡ has_high (notes_high ms.notations) m) is (cases_tall h.name h.id ms.dots ms.notations b lm.notations)
ended_tall ending.Var h ms s p n i lm ls lp = none_tall n (var_low h.name s.typ n i ls.typ)
ended_tall ending.Relation h ms s p n i lm ls lp = relation_tall h.name ms.notations n i
ended_tall ending.Fun h ms s p n i lm ls lp = none_tall n (fun_low h.name s.params s.typ n i ls.params ls.typ)
ended_tall ending.Rule h ms s p n i lm ls lp = none_tall n (rule_low h s s.exp (prem_whole false p) n i ls.args ls.exp lp.whole)
ended_tall ending.Condition h ms s p n i lm ls lp =
    none_tall n (rule_low h s s.exp (prem_whole true p) n i ls.args ls.exp (whole_low p.at p.whole p.prem lp.whole lp.prem))

-- ---- the last definition

pub last_behind : (b : Bool) (ds : List Def) (d : Def) → last_high b (ds ++ d ∷ []) ≡ high_at b d
last_behind b [] d = refl
last_behind b (e ∷ []) d = refl
last_behind b (e ∷ f ∷ ds) d = last_behind b (f ∷ ds) d

none_behind : (ds : List Def) → last_high false ds ≡ None
none_behind [] = refl
none_behind (d ∷ []) = ap (λ b. if b then Some d.at else None) (and_false (not (is_alias d)))
none_behind (d ∷ e ∷ ds) = none_behind (e ∷ ds)

ends_high : (f : DefinitionEnd) (h : Heights) (d : Draft) → first_that too_tall d.defs ≡ None → Told h d → Ends f d → first_that too_tall (ended f d) ≡ last_high (has_notations f && h.high) (ended f d)
ends_high f h d i t m =
    let high : Bool = has_notations f && h.high in
    let last : Def = record { at = d.head.at; hints = d.hints; node = m.node } in
    let tall : is_tall m.node ≡ has_high high m.node =
    ended_tall f d.head d.members d.sides d.premises m.node m.is t.low.members t.low.sides t.low.premises ∙ ap (λ b. has_high (has_notations f && b) m.node) (sym t.high) in
    ap (λ o. first_that too_tall (def_put d o)) m.is
    ∙ first_behind too_tall d.defs last ∙ ap (λ o. option_or o (too_tall last)) i
    ∙ ap (λ b. if b then Some d.head.at else None) tall
    ∙ sym (last_behind high d.defs last) ∙ sym (ap (λ o. last_high high (def_put d o)) m.is)

-- Where none was too high, the first one that is can only be the last.
last_ended : (f : DefinitionEnd) (h : Heights) (d : Draft) → first_that too_tall d.defs ≡ None → Told h d → MayEnd f d → first_that too_tall (ended f d) ≡ last_high (has_notations f && h.high) (ended f d)
last_ended ending.Nothing h d i t m = i ∙ sym (none_behind d.defs)
last_ended ending.Fields h d i t m = ends_high ending.Fields h d i t m
last_ended (ending.Cases b) h d i t m = ends_high (ending.Cases b) h d i t m
last_ended ending.Var h d i t m = ends_high ending.Var h d i t m
last_ended ending.Relation h d i t m = ends_high ending.Relation h d i t m
last_ended ending.Fun h d i t m = ends_high ending.Fun h d i t m
last_ended ending.Rule h d i t m = ends_high ending.Rule h d i t m
last_ended ending.Condition h d i t m = ends_high ending.Condition h d i t m

-- ---- a definition that begins

pub begun_told : (defs : List Def) (at : Span) → Told no_heights (begun defs at)
begun_told defs at = record { low = (begun_clear defs at).low; premise = refl; high = refl }

first_stands : (o : Option Span) (defs : List Def) (e : Draft) → e.defs ≡ defs → first_that too_tall defs ≡ o → Told no_heights e → Stands o no_heights e e
first_stands None defs e f h t = (refl, ap (first_that too_tall) f ∙ h, t)
first_stands (Some at) defs e f h t = inl (ap (first_that too_tall) f ∙ h)

-- what is kept of the trees where a definition ends and another one begins, and none was too high
pub turned_stands : (f : DefinitionEnd) (h : Heights) (d e : Draft) (at : Span) → begun (ended f d) at ≡ e → first_that too_tall d.defs ≡ None → Told h d → MayEnd f d
    → Stands (last_high (has_notations f && h.high) e.defs) no_heights e e
turned_stands f h d e at i n t m =
    let high : Bool = has_notations f && h.high in
    first_stands (last_high high e.defs) (ended f d) e (ap (λ (q : Draft). q.defs) (sym i))
    (last_ended f h d n t m ∙ ap (λ (q : Draft). last_high high q.defs) i)
    (subst (Told no_heights) i (begun_told (ended f d) at))
