-- What is elaborated is erased to its source.
use Rattle.std.proofs.Common.{rules, ◌≡◌, refl, sym, ap, ◌∙◌, subst, ℕ, Bool, true, false, true≢false, List, [], ◌∷◌, ◌++◌, map, filter, flat_map, codes}
use Rattle.std.specs.Prelude.{Some, None, if◌then◌else◌, not, ◌&&◌, Result, Ok, Err, IfOk}
use Rattle.std.specs.List.{AllByRecursion, list_any}
use Rattle.st_num.specs.declared.span.Span.{Span}
use Rattle.st_num.specs.Names.{same_name}
use Rattle.st_num.specs.declared.token.Token.{Token}
use Rattle.st_el.specs.declared.ty.Typ.{Typ, out-Typ, roll-Typ, roll-out-Typ, the_lemmas}
use Rattle.st_el.specs.declared.ty.TypNode.{TypNode, roll-TypNode, roll-out-TypNode}
use Rattle.st_el.specs.declared.ty.TypNode.TheOpen.{TypNode-F}
use Rattle.st_el.specs.declared.ty.TypNode.TheVariants as typ_node
use Rattle.st_el.specs.declared.notation.Notation.{Notation, out-Notation, roll-Notation, roll-out-Notation}
use Rattle.st_el.specs.declared.notation.NotNode.{NotNode, roll-NotNode, roll-out-NotNode}
use Rattle.st_el.specs.declared.notation.NotNode.TheOpen.{NotNode-F}
use Rattle.st_el.specs.declared.notation.NotNode.TheVariants as not_node_is
use Rattle.st_el.specs.declared.definition.Body.{Body}
use Rattle.st_el.specs.declared.definition.Body.TheVariants.{Alias, Cases, Fields}
use Rattle.st_el.specs.declared.definition.Def.{Def}
use Rattle.st_el.specs.declared.definition.DefNode.{DefNode}
use Rattle.st_el.specs.declared.definition.DefNode.TheVariants.{Syntax, Var, Relation, Rule, Fun, Clause}
use Rattle.st_el.specs.declared.definition.Hint.{Hint}
use Rattle.st_el.specs.declared.definition.Prem.{Prem}
use Rattle.st_el.specs.declared.expression.Exp.{Exp}
use Rattle.st_el.specs.Plain.{nowhere, plain_typ, plain_typ_node, plain_notation, plain_not_node}
use Rattle.st_el.specs.Erasure.{plain_token, plain_hint, is_mode, kept_hints, plain_body, plain_def_node, plain_def, is_fragment, is_fragment_node, alternatives_in, alternatives_of, alternatives, joined as joined_body, joined_node, joined_at, joined_behind}
use Rattle.st_el.proofs.NotationInduction.{plain-Hole}
use Rattle.st_il.specs.declared.definition.Alternative.{Alternative}
use Rattle.st_il.specs.declared.definition.Alternative.TheVariants as alternative
use Rattle.st_il.specs.declared.definition.ClauseDef.{ClauseDef}
use Rattle.st_il.specs.declared.definition.FunDef.{FunDef}
use Rattle.st_il.specs.declared.definition.Il.{Il}
use Rattle.st_il.specs.declared.definition.IlDef.{IlDef}
use Rattle.st_il.specs.declared.definition.IlDef.TheVariants as il
use Rattle.st_il.specs.declared.definition.RelationDef.{RelationDef}
use Rattle.st_il.specs.declared.definition.RuleDef.{RuleDef}
use Rattle.st_il.specs.Template.{tag_of}
use Rattle.st_erase.specs.Notations.{typ, erased_ty, notation, notation_of}
use Rattle.st_erase.specs.Definitions.{erased_field, erased_alternative, erased_body, mode_word, mode_hints, erased_node, erased_def}
use Rattle.st_elab_sig.specs.Types.{ty_of}
use Rattle.st_elab_sig.specs.Modes.{mode_kind, IsMode, none, one}
use Rattle.st_elab_sig.specs.Signatures.{template_of, holes_of}
use Rattle.st_elab_sig.proofs.TypesErase.{types_back, each_type_back}
use Rattle.st_elab_sig.proofs.NotationsErase.{signature_back}
use Rattle.st_elab_sig.proofs.ModesErase.{mode_back}
use Rattle.st_elab_table.specs.declared.decls.Decls.{Decls}
use Rattle.st_elab_table.specs.Inferred.{fun_named}
use Rattle.st_elab_law.specs.Agreement.{Declares}
use Rattle.st_elab_table.specs.Judgements.{relation_named}
use Rattle.st_elab_table.specs.Clauses.{parts_of}
use Rattle.st_elab_exp.proofs.Erasing.{rule_erases, clause_erases}
use Rattle.st_elab_def.specs.declared.breach.DefFault.{DefFault}
use Rattle.st_elab_def.specs.declared.elaborated.Elaborated.{Elaborated}
use Rattle.st_elab_def.specs.Definitions.{Definition, definitions_from, definitions}
use Rattle.st_elab_def.specs.Fragments.{joined}
use Rattle.st_elab_def.specs.DeclsOf.{type_node, not_node, alternative_of, alternative_at, bare_alternative, field_of, body_of, is_input_kind, mode_of, mode_by, declared_at, decls_of}
use Rattle.st_elab_def.specs.Contents.{ElabRuleOf, ElabClauseOf}
use Rattle.st_elab_def.specs.Phases.{alternatives_before, on_body_at, on_body, on_signature_at, on_signature, on_declaration, on_content, phase}
use Rattle.st_elab_def.specs.Breaches.{AllPass}
use Rattle.st_elab_def.specs.Elaboration.{ElabDef, declaration, rule, clause, ElabDefs, IsElaborated}
use Rattle.st_elab_def.specs.Answers.{HasTemplate, BodyHasTemplates, NodeHasTemplates, HasTemplates, Answers}
use Rattle.st_elab_def.specs.Erasing.{ErasesTo}
use Rattle.st_elab_def.specs.inner.Places.{IsAlternative}
use Rattle.st_elab_def.specs.inner.Walk.{standing, AllPassAt, asked_of}
use Rattle.st_type_table.proofs.InsertionLemmas.{same-equal, same-refl}
use Rattle.st_elab_def.proofs.Same.{AreAlternatives}
use Rattle.st_elab_def.proofs.AllHold.{all-alone, fragments-pass}
use Rattle.st_elab_def.proofs.Declares.{declares_own}
use Rattle.st_elab_def.proofs.AllPass.{AllPass-front, AllPass-back, AllPass-at}
use Rattle.st_elab_def.proofs.PlainTwice.{plain-roll, plain_typ-twice, plain_typs-twice, plain_not-roll, plain_notation-twice}

-- ---- what is erased has no fragments

alone : (all : List IlDef) (before behind : List Def) (x : IlDef) → joined_at before (erased_def all x) behind ≡ erased_def all x ∷ []
alone all before behind (il.Syntax d) = refl
alone all before behind (il.Var name t) = refl
alone all before behind (il.Relation d) = refl
alone all before behind (il.Rule d) = refl
alone all before behind (il.Fun d) = refl
alone all before behind (il.Clause d) = refl

unjoined : (all : List IlDef) (before : List Def) (xs : List IlDef) → joined_behind before (map (erased_def all) xs) ≡ map (erased_def all) xs
unjoined all before [] = refl
unjoined all before (x ∷ xs) = λ i. alone all before (map (erased_def all) xs) x i ++ unjoined all (before ++ erased_def all x ∷ []) xs i

-- ---- types

type-back : (t : Typ) → plain_typ (erased_ty (ty_of t)) ≡ plain_typ t
type-back t = ap plain_typ (types_back t) ∙ plain_typ-twice t

types-back : (ts : List Typ) → map plain_typ (map erased_ty (map ty_of ts)) ≡ map plain_typ ts
types-back ts = ap (map plain_typ) (each_type_back ts) ∙ plain_typs-twice ts

abbrev plain_field : List ℕ × Typ → List ℕ × Typ
plain_field field = (field.0, plain_typ field.1)

fields-back : (fields : List (List ℕ × Typ)) → map plain_field (map erased_field (map field_of fields)) ≡ map plain_field fields
fields-back [] = refl
fields-back (f ∷ fs) = λ i. (f.0, type-back f.1 i) ∷ fields-back fs i

-- ---- notations

notation-back : (n : Notation) → HasTemplate n → plain_notation (notation_of (tag_of (template_of n)) (map ty_of (holes_of n))) ≡ plain_notation n
notation-back n h = ap plain_notation (signature_back n h) ∙ plain_notation-twice n

name-plain : (name : List ℕ) → plain_typ_node (roll-TypNode (TypNode-F.Name name)) ≡ typ_node.Name name
name-plain name = search (rules, the_lemmas)

-- a name that stands alone is plain but for its place
name-is : (name : List ℕ) (t : Typ) → type_node t ≡ TypNode-F.Name name → plain_typ t ≡ typ (typ_node.Name name)
name-is name t is =
    ap plain_typ (sym (roll-out-Typ t) ∙ ap (λ k. roll-Typ (record { at = (out-Typ t).at; node = k })) (sym (roll-out-TypNode (out-Typ t).node) ∙ ap roll-TypNode is))
    ∙ level (out-Typ t).at
  where
    level : (at : Span) → plain_typ (roll-Typ (record { at = at; node = roll-TypNode (TypNode-F.Name name) })) ≡ typ (typ_node.Name name)
    level at = plain-roll (record { at = at; node = roll-TypNode (TypNode-F.Name name) }) ∙ ap typ (name-plain name)

-- so is a hole
hole-is : (n : Notation) (t : Typ) → not_node n ≡ NotNode-F.Hole t → plain_notation n ≡ notation (not_node_is.Hole (plain_typ t))
hole-is n t is =
    ap plain_notation (sym (roll-out-Notation n) ∙ ap (λ k. roll-Notation (record { at = (out-Notation n).at; node = k })) (sym (roll-out-NotNode (out-Notation n).node) ∙ ap roll-NotNode is))
    ∙ level (out-Notation n).at
  where
    level : (at : Span) → plain_notation (roll-Notation (record { at = at; node = roll-NotNode (NotNode-F.Hole t) })) ≡ notation (not_node_is.Hole (plain_typ t))
    level at = plain_not-roll (record { at = at; node = roll-NotNode (NotNode-F.Hole t) }) ∙ ap notation (ap plain_not_node (not_node_is.rolls-Hole t) ∙ plain-Hole t)

plain-included : (name : List ℕ) → plain_notation (erased_alternative (alternative.Incl name)) ≡ notation (not_node_is.Hole (typ (typ_node.Name name)))
plain-included name =
    plain_not-roll (record { at = nowhere; node = not_node_is.Hole (typ (typ_node.Name name)) })
    ∙ ap notation (plain-Hole (typ (typ_node.Name name)) ∙ ap not_node_is.Hole
    (plain-roll (record { at = nowhere; node = typ_node.Name name }) ∙ ap typ (ap plain_typ_node (sym (typ_node.rolls-Name name)) ∙ name-plain name)))

-- the alternative that a notation is, erased
abbrev ErasesBack : Notation → List Alternative → Type 0
ErasesBack n xs = map plain_notation (map erased_alternative xs) ≡ plain_notation n ∷ []

included-back : (n : Notation) (t : Typ) (y : TypNode-F TypNode Typ) → not_node n ≡ NotNode-F.Hole t → type_node t ≡ y → (a : Alternative) × (bare_alternative y ≡ a ∷ []) → ErasesBack n (bare_alternative y)
included-back n t (TypNode-F.Name name) is named alone =
    ap (λ m. m ∷ []) (plain-included name ∙ ap (λ k. notation (not_node_is.Hole k)) (sym (name-is name t named)) ∙ sym (hole-is n t is))
included-back n t TypNode-F.Bool is named alone = let e : [] ≡ alone.0 ∷ [] = alone.1 in cc
included-back n t TypNode-F.Nat is named alone = let e : [] ≡ alone.0 ∷ [] = alone.1 in cc
included-back n t TypNode-F.Int is named alone = let e : [] ≡ alone.0 ∷ [] = alone.1 in cc
included-back n t TypNode-F.Text is named alone = let e : [] ≡ alone.0 ∷ [] = alone.1 in cc
included-back n t (TypNode-F.Star u) is named alone = let e : [] ≡ alone.0 ∷ [] = alone.1 in cc
included-back n t (TypNode-F.Quest u) is named alone = let e : [] ≡ alone.0 ∷ [] = alone.1 in cc
included-back n t (TypNode-F.Tuple us) is named alone = let e : [] ≡ alone.0 ∷ [] = alone.1 in cc

alternative-back : (n : Notation) (y : NotNode-F NotNode Notation) → not_node n ≡ y → HasTemplate n → (a : Alternative) × (alternative_at n y ≡ a ∷ []) → ErasesBack n (alternative_at n y)
alternative-back n (NotNode-F.Hole t) is h alone = included-back n t (type_node t) is refl alone
alternative-back n (NotNode-F.Atom name) is h alone = ap (λ m. m ∷ []) (notation-back n h)
alternative-back n (NotNode-F.Seq ns) is h alone = ap (λ m. m ∷ []) (notation-back n h)
alternative-back n (NotNode-F.Infix left sign right) is h alone = ap (λ m. m ∷ []) (notation-back n h)
alternative-back n (NotNode-F.Bracket opening inside) is h alone = ap (λ m. m ∷ []) (notation-back n h)

-- a notation that is one alternative, and has a template
abbrev IsReadyCase : Notation → Type 0
IsReadyCase n = HasTemplate n × IsAlternative n

maps-append : (xs ys : List Alternative) → map plain_notation (map erased_alternative (xs ++ ys)) ≡ map plain_notation (map erased_alternative xs) ++ map plain_notation (map erased_alternative ys)
maps-append [] ys = refl
maps-append (x ∷ xs) ys = ap (λ ns. plain_notation (erased_alternative x) ∷ ns) (maps-append xs ys)

cases-back : (ns : List Notation) → AllByRecursion IsReadyCase ns → map plain_notation (map erased_alternative (flat_map alternative_of ns)) ≡ map plain_notation ns
cases-back [] h = refl
cases-back (n ∷ ns) h =
    maps-append (alternative_of n) (flat_map alternative_of ns)
    ∙ (λ i. alternative-back n (not_node n) refl h.0.0 h.0.1 i ++ cases-back ns h.1 i)

-- ---- modes

kind-said : (input : Bool) → is_input_kind (mode_kind input) ≡ input
kind-said true = refl
kind-said false = refl

words-said : (words : List Token) (mode : List Bool) → map (λ word. word.kind) words ≡ map mode_kind mode → map (λ (word : Token). is_input_kind word.kind) words ≡ mode
words-said [] [] e = refl
words-said [] (input ∷ mode) e = absurd (cc)
words-said (word ∷ words) [] e = absurd (cc)
words-said (word ∷ words) (input ∷ mode) e =
    let first : word.kind ≡ mode_kind input = cc in
    let others : map (λ w. w.kind) words ≡ map mode_kind mode = cc in
    λ i. (ap is_input_kind first ∙ kind-said input) i ∷ words-said words mode others i

mode-said : (hints : List Hint) (holes : ℕ) (mode : List Bool) → IsMode hints holes mode → mode_of hints ≡ mode
mode-said hints holes mode (none e f) = ap mode_by e ∙ sym f
mode-said hints holes mode (one hint e h) = ap mode_by e ∙ words-said hint.words mode h.spelled

plain_words : (mode : List Bool) → map plain_token (map mode_word mode) ≡ map mode_word mode
plain_words [] = refl
plain_words (input ∷ mode) = ap (λ words. mode_word input ∷ words) (plain_words mode)

abbrev mode_hint : List Bool → Hint
mode_hint mode = record { name = codes "mode"; words = map mode_word mode }

kept-mode : (mode : List Bool) → map plain_hint (filter is_mode (mode_hints mode)) ≡ mode_hints mode
kept-mode [] = refl
kept-mode (input ∷ mode) =
    ap (λ b. map plain_hint (if b then mode_hint (input ∷ mode) ∷ [] else [])) (same-refl (codes "mode"))
    ∙ ap (λ words. record { name = codes "mode"; words = words } ∷ []) (plain_words (input ∷ mode))

-- the hints of a relation, once they are plain
modes-back : (hints : List Hint) (holes : ℕ) (mode : List Bool) → IsMode hints holes mode → map plain_hint (filter is_mode (mode_hints (mode_of hints))) ≡ map plain_hint (filter is_mode hints)
modes-back hints holes mode h =
    kept-mode (mode_of hints) ∙ ap mode_hints (mode-said hints holes mode h) ∙ mode_back hints holes mode h

-- ---- definitions whose fragments are joined

-- the dots of a body are gone, and its cases are alternatives and have templates
abbrev IsReadyBody : Body → Type 0
IsReadyBody (Cases before cases after) = (before ≡ false) × (after ≡ false) × AllByRecursion IsReadyCase cases
IsReadyBody (Alias t) = Unit {0}
IsReadyBody (Fields fields) = Unit {0}

-- what is defined can be erased back, with these hints
abbrev IsReadyAt : List Hint → DefNode → Type 0
IsReadyAt hints (Syntax name fragment b) = IsReadyBody b
IsReadyAt hints (Relation name n) = HasTemplate n × ((holes : ℕ) × (mode : List Bool) × IsMode hints holes mode)
IsReadyAt hints (Var name t) = Unit {0}
IsReadyAt hints (Rule r name e ps) = Unit {0}
IsReadyAt hints (Fun name params result) = Unit {0}
IsReadyAt hints (Clause name args result ps) = Unit {0}

abbrev IsReady : Def → Type 0
IsReady def = IsReadyAt def.hints def.node

body-back : (b : Body) → IsReadyBody b → plain_body (erased_body (body_of b)) ≡ plain_body b
body-back (Alias t) h = ap Alias (type-back t)
body-back (Cases before cases after) h = λ i. Cases (sym h.0 i) (cases-back cases h.2 i) (sym h.1 i)
body-back (Fields fields) h = ap Fields (fields-back fields)

-- a definition of these hints, once it is plain
abbrev plain_at : List Hint → DefNode → Def
plain_at hints node = record { at = nowhere; hints = kept_hints node hints; node = plain_def_node node }

declared-back : (all : List IlDef) (hints : List Hint) (node : DefNode) (x : IlDef) → IsReadyAt hints node → declared_at hints node ≡ x ∷ [] → plain_def (erased_def all x) ≡ plain_at hints node
declared-back all hints (Syntax name fragment b) x h is =
    let same : il.Syntax (record { name = name; body = body_of b }) ≡ x = cc in
    ap (λ z. plain_def (erased_def all z)) (sym same) ∙ (λ i. record { at = nowhere; hints = []; node = Syntax name None (body-back b h i) })
declared-back all hints (Var name t) x h is =
    let same : il.Var name (ty_of t) ≡ x = cc in
    ap (λ z. plain_def (erased_def all z)) (sym same) ∙ (λ i. record { at = nowhere; hints = []; node = Var name (type-back t i) })
declared-back all hints (Relation name n) x h is =
    let same : il.Relation (record { name = name; tag = tag_of (template_of n); holes = map ty_of (holes_of n); mode = mode_of hints }) ≡ x = cc in
    ap (λ z. plain_def (erased_def all z)) (sym same)
    ∙ (λ i. record { at = nowhere; hints = modes-back hints h.1.0 h.1.1 h.1.2 i; node = Relation name (notation-back n h.0 i) })
declared-back all hints (Fun name params result) x h is =
    let same : il.Fun (record { name = name; params = map ty_of params; result = ty_of result }) ≡ x = cc in
    ap (λ z. plain_def (erased_def all z)) (sym same)
    ∙ (λ i. record { at = nowhere; hints = []; node = Fun name (types-back params i) (type-back result i) })
declared-back all hints (Rule r name e ps) x h is = absurd (cc)
declared-back all hints (Clause name args result ps) x h is = absurd (cc)

-- what is no relation, with its parts plain
abbrev unhinted : DefNode → Def
unhinted node = record { at = nowhere; hints = []; node = node }

-- ---- rules and clauses

relation-name : (Rs : List RelationDef) (name : List ℕ) (R : RelationDef) → relation_named Rs name ≡ Some R → name ≡ R.name
relation-name [] name R h = absurd (cc)
relation-name (r ∷ Rs) name R h = by (same_name name r.name) refl h (relation-name Rs name R)
  where
    by : (b : Bool) → same_name name r.name ≡ b → (if b then Some r else relation_named Rs name) ≡ Some R → (relation_named Rs name ≡ Some R → name ≡ R.name) → name ≡ R.name
    by true is k later = let same : r ≡ R = cc in same-equal name r.name is ∙ ap (λ (z : RelationDef). z.name) same
    by false is k later = later k

fun-name : (fs : List FunDef) (name : List ℕ) (f : FunDef) → fun_named fs name ≡ Some f → name ≡ f.name
fun-name [] name f h = absurd (cc)
fun-name (g ∷ fs) name f h = by (same_name name g.name) refl h (fun-name fs name f)
  where
    by : (b : Bool) → same_name name g.name ≡ b → (if b then Some g else fun_named fs name) ≡ Some f → (fun_named fs name ≡ Some f → name ≡ f.name) → name ≡ f.name
    by true is k later = let same : g ≡ f = cc in same-equal name g.name is ∙ ap (λ (z : FunDef). z.name) same
    by false is k later = later k

module _ (whole : Il) (D : Decls) (declares : Declares whole D) where
  rule-back : (r name : List ℕ) (e : Exp) (ps : List Prem) (y : RuleDef) → ElabRuleOf D r name e ps y → plain_def_node (erased_node whole.defs (il.Rule y)) ≡ plain_def_node (Rule r name e ps)
  rule-back r name e ps y h =
      let same : r ≡ h.relation.name = relation-name D.relations r h.relation h.declared in
      rule_erases whole D declares h.relation name e ps y (ap (relation_named D.relations) (sym same) ∙ h.declared) h.elaborated
      ∙ ap (λ z. plain_def_node (Rule z name e ps)) (sym same)

  clause-back : (name : List ℕ) (args : List Exp) (result : Exp) (ps : List Prem) (y : ClauseDef) → ElabClauseOf D name (parts_of args result ps) y
      → plain_def_node (erased_node whole.defs (il.Clause y)) ≡ plain_def_node (Clause name args result ps)
  clause-back name args result ps y h =
      let same : name ≡ h.fun.name = fun-name D.funs name h.fun h.declared in
      clause_erases whole D declares h.fun (parts_of args result ps) y h.elaborated
      ∙ ap (λ z. plain_def_node (Clause z args result ps)) (sym same)

  -- a definition that is ready is what its elaboration is erased to
  def-back : (def : Def) (x : IlDef) → IsReady def → ElabDef D def x → plain_def (erased_def whole.defs x) ≡ plain_def def
  def-back def x h (declaration is) = declared-back whole.defs def.hints def.node x h is
  def-back def x h (rule r name e ps y is elaborated same) =
      ap (λ z. plain_def (erased_def whole.defs z)) same
      ∙ ap unhinted (rule-back r name e ps y elaborated)
      ∙ ap (plain_at def.hints) (sym is)
  def-back def x h (clause name args result ps y is elaborated same) =
      ap (λ z. plain_def (erased_def whole.defs z)) same
      ∙ ap unhinted (clause-back name args result ps y elaborated)
      ∙ ap (plain_at def.hints) (sym is)

  defs-back : (ds : List Def) (xs : List IlDef) → AllByRecursion IsReady ds → ElabDefs D ds xs → map plain_def (map (erased_def whole.defs) xs) ≡ map plain_def ds
  defs-back [] [] h k = refl
  defs-back [] (x ∷ xs) h k = absurd k
  defs-back (def ∷ ds) [] h k = absurd k
  defs-back (def ∷ ds) (x ∷ xs) h k = λ i. def-back def x h.0 k.0 i ∷ defs-back ds xs h.1 k.1 i

-- ---- templates

all_append : {A : Type 0} (P : A → Type 0) (xs ys : List A) → AllByRecursion P xs → AllByRecursion P ys → AllByRecursion P (xs ++ ys)
all_append P [] ys h k = k
all_append P (x ∷ xs) ys h k = (h.0, all_append P xs ys h.1 k)

body_templates : (b : Body) → BodyHasTemplates b → AllByRecursion HasTemplate (alternatives_in b)
body_templates (Alias t) h = tt
body_templates (Cases before cases after) h = h
body_templates (Fields fields) h = tt

node_templates : (node : DefNode) → NodeHasTemplates node → AllByRecursion HasTemplate (alternatives_of node)
node_templates (Syntax name fragment b) h = body_templates b h
node_templates (Var name t) h = tt
node_templates (Relation name n) h = tt
node_templates (Rule r name e ps) h = tt
node_templates (Fun name params result) h = tt
node_templates (Clause name args result ps) h = tt

-- the alternatives of the fragments of a syntax have templates
later_templates : (name : List ℕ) (ds : List Def) → HasTemplates ds → AllByRecursion HasTemplate (alternatives name ds)
later_templates name [] h = tt
later_templates name (def ∷ ds) h = by (is_fragment name def) (later_templates name ds h.1)
  where
    by : (b : Bool) → AllByRecursion HasTemplate (alternatives name ds)
        → AllByRecursion HasTemplate (flat_map (λ (d : Def). alternatives_of d.node) (if b then def ∷ filter (is_fragment name) ds else filter (is_fragment name) ds))
    by true k = all_append HasTemplate (alternatives_of def.node) (alternatives name ds) (node_templates def.node h.0) k
    by false k = k

-- ---- what is joined is ready

no-dots : (before after : Bool) → (not before && not after) ≡ true → (before ≡ false) × (after ≡ false)
no-dots true after h = absurd (true≢false (sym h))
no-dots false true h = absurd (true≢false (sym h))
no-dots false false h = (refl, refl)

ready-cases : (ns : List Notation) → AllByRecursion HasTemplate ns → AreAlternatives ns → AllByRecursion IsReadyCase ns
ready-cases [] h k = tt
ready-cases (n ∷ ns) h k = ((h.0, k.0), ready-cases ns h.1 k.1)

ready-joined : (b : Body) (later : List Notation) → BodyHasTemplates b → AllByRecursion HasTemplate later → AreAlternatives (alternatives_in b ++ later) → IsReadyBody (joined_body b later)
ready-joined (Alias t) later h k a = tt
ready-joined (Cases before cases after) later h k a = (refl, refl, ready-cases (cases ++ later) (all_append HasTemplate cases later h k) a)
ready-joined (Fields fields) later h k a = tt

module _ (D : Decls) where
  ready-whole : (d : Definition) (name : List ℕ) (b : Body) → BodyHasTemplates b → AllPassAt D (on_body_at d (Syntax name None b)) → IsReadyBody b
  ready-whole d name (Alias t) h own = tt
  ready-whole d name (Cases before cases after) h own =
      let dots = no-dots before after own.0 in
      (dots.0, dots.1, ready-cases cases h (all-alone D name (alternatives_before name d.before) cases own.1))
  ready-whole d name (Fields fields) h own = tt

  -- what the definitions stand for, each at the place of one
  abbrev standing_for : Def → List DefNode → List Def
  standing_for def nodes = map (λ (node : DefNode). record def { node = node }) nodes

  ready-fragment : (d : Definition) (name piece : List ℕ) (b : Body) (c : Bool) → d.def.node ≡ Syntax name (Some piece) b → BodyHasTemplates b → HasTemplates d.behind
      → AllPass D (phase on_body (definitions_from d.before (d.def ∷ d.behind)))
      → AllByRecursion IsReady (standing_for d.def (if c then [] else Syntax name None (joined_body b (alternatives name d.behind)) ∷ []))
  ready-fragment d name piece b true is h later all = tt
  ready-fragment d name piece b false is h later all = (
    ready-joined b (alternatives name d.behind) h (later_templates name d.behind later)
        (subst AreAlternatives here (all-alone D name (alternatives_before name d.before) (alternatives name (d.def ∷ d.behind)) (fragments-pass D name d.before (d.def ∷ d.behind) all))),
    tt,
  )
    where
      here : alternatives name (d.def ∷ d.behind) ≡ alternatives_in b ++ alternatives name d.behind
      here =
          ap (λ c. flat_map (λ (def : Def). alternatives_of def.node) (if c then d.def ∷ filter (is_fragment name) d.behind else filter (is_fragment name) d.behind))
          (ap (is_fragment_node name) is ∙ same-refl name)
          ∙ ap (λ node. alternatives_of node ++ alternatives name d.behind) is

  ready-at : (d : Definition) (node : DefNode) → d.def.node ≡ node → NodeHasTemplates node → HasTemplates d.behind → AllPassAt D (on_body_at d node) → AllPassAt D (on_signature_at d node)
      → AllPass D (phase on_body (definitions_from d.before (d.def ∷ d.behind))) → AllByRecursion IsReady (standing_for d.def (joined_node d.before node d.behind))
  ready-at d (Syntax name None b) is h later own signed all = (ready-whole d name b h own, tt)
  ready-at d (Syntax name (Some piece) b) is h later own signed all = ready-fragment d name piece b (list_any (is_fragment name) d.before) is h later all
  ready-at d (Var name t) is h later own signed all = (tt, tt)
  ready-at d (Relation name n) is h later own signed all = ((h, (_, signed.0.0, signed.0.1)), tt)
  ready-at d (Rule r name e ps) is h later own signed all = (tt, tt)
  ready-at d (Fun name params result) is h later own signed all = (tt, tt)
  ready-at d (Clause name args result ps) is h later own signed all = (tt, tt)

  ready-from : (before ds : List Def) → HasTemplates ds → AllPass D (phase on_body (definitions_from before ds)) → AllPass D (phase on_signature (definitions_from before ds))
      → AllByRecursion IsReady (joined_behind before ds)
  ready-from before [] h bodied signed = tt
  ready-from before (def ∷ ds) h bodied signed =
      all_append IsReady (joined_at before def ds) (joined_behind (before ++ def ∷ []) ds)
      (ready-at here def.node refl h.0 h.1 (AllPass-at D here (on_body here) (AllPass-front D (asked_of on_body here) (phase on_body behind) bodied))
      (AllPass-at D here (on_signature here) (AllPass-front D (asked_of on_signature here) (phase on_signature behind) signed)) bodied)
      (ready-from (before ++ def ∷ []) ds h.1 (AllPass-back D (asked_of on_body here) (phase on_body behind) bodied) (AllPass-back D (asked_of on_signature here) (phase on_signature behind) signed))
    where
      here : Definition
      here = standing before def ds

      behind : List Definition
      behind = definitions_from (before ++ def ∷ []) ds

-- ---- the whole

pub ErasesTo-elaborated : (defs : List Def) (e : Elaborated) → HasTemplates defs → IsElaborated defs e → ErasesTo defs e
ErasesTo-elaborated defs e h is =
    ap (map plain_def) (unjoined e.il.defs [] e.il.defs) ∙ defs-back e.il (decls_of defs) (declares_own defs e is) (joined defs) e.il.defs (ready-from (decls_of defs) [] defs h bodied signed) is.definitions
  where
    behind : AllPass (decls_of defs) (phase on_body (definitions defs) ++ (phase on_signature (definitions defs) ++ (phase on_content (definitions defs) ++ [])))
    behind = AllPass-back (decls_of defs) (phase on_declaration (definitions defs)) _ is.sound

    bodied : AllPass (decls_of defs) (phase on_body (definitions defs))
    bodied = AllPass-front (decls_of defs) (phase on_body (definitions defs)) _ behind

    signed : AllPass (decls_of defs) (phase on_signature (definitions defs))
    signed = AllPass-front (decls_of defs) (phase on_signature (definitions defs)) _ (AllPass-back (decls_of defs) (phase on_body (definitions defs)) _ behind)

-- so is what a source is answered with
pub ErasesTo-answered : (defs : List Def) (r : Result Elaborated DefFault) → HasTemplates defs → Answers defs r → IfOk r (ErasesTo defs)
ErasesTo-answered defs (Ok e) h k = ErasesTo-elaborated defs e h k
ErasesTo-answered defs (Err fault) h k = tt
