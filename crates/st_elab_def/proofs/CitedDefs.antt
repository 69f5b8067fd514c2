-- What the definitions of an elaborated source cite is declared, and their tags are templates.
use Rattle.std.proofs.Common.{◌≡◌, refl, sym, ap, ◌∙◌, subst, ℕ, suc, List, [], ◌∷◌, ◌++◌, map, filter, flat_map, length, Bool, true, false, cond, Some, None}
use Rattle.std.specs.Prelude.{if◌then◌else◌, slice_get}
use Rattle.std.specs.List.{AllByRecursion}
use Rattle.std.proofs.lemmas.List.{length-map}
use Rattle.std.proofs.lemmas.List.Elements.{All-from_recursion}
use Rattle.st_num.specs.Names.{same_name}
use Rattle.st_el.specs.declared.definition.Body.{Body}
use Rattle.st_el.specs.declared.definition.Body.TheVariants as el_body
use Rattle.st_el.specs.declared.definition.Def.{Def}
use Rattle.st_el.specs.declared.definition.DefNode.{DefNode}
use Rattle.st_el.specs.declared.definition.DefNode.TheVariants.{Syntax, Var, Relation, Rule, Fun, Clause}
use Rattle.st_el.specs.declared.definition.Hint.{Hint}
use Rattle.st_el.specs.declared.notation.Notation.{Notation}
use Rattle.st_el.specs.declared.notation.NotNode.{NotNode}
use Rattle.st_el.specs.declared.notation.NotNode.TheOpen.{NotNode-F}
use Rattle.st_el.specs.declared.ty.Typ.{Typ}
use Rattle.st_el.specs.declared.ty.TypNode.{TypNode}
use Rattle.st_el.specs.declared.ty.TypNode.TheOpen.{TypNode-F}
use Rattle.st_el.specs.Erasure.{is_fragment, alternatives_of, alternatives, joined as joined_body}
use Rattle.st_il.specs.declared.definition.Alternative.{Alternative}
use Rattle.st_il.specs.declared.definition.Alternative.TheVariants as alternative
use Rattle.st_il.specs.declared.definition.IlDef.{IlDef}
use Rattle.st_il.specs.declared.definition.IlDef.TheVariants as il
use Rattle.st_il.specs.declared.definition.RelationDef.{RelationDef}
use Rattle.st_il.specs.declared.definition.SyntaxBody.{SyntaxBody}
use Rattle.st_il.specs.declared.definition.SyntaxBody.TheVariants as body
use Rattle.st_il.specs.declared.ty.Ty.{Ty}
use Rattle.st_il.specs.Template.{tag_of}
use Rattle.st_type_table.specs.Breach as types
use Rattle.st_type_table.specs.Leads.{names_in}
use Rattle.st_il.specs.Definitions.{syntaxes}
use Rattle.st_ilcheck.specs.Declarations.{Tagged, IsTag, types_cited, alternative_cited, alternative_tags, body_cited, body_tags, cited}
use Rattle.st_elab_sig.specs.Types.{ty_of}
use Rattle.st_elab_sig.specs.Signatures.{template_of, holes_of}
use Rattle.st_elab_table.specs.declared.decls.Decls.{Decls}
use Rattle.st_elab_table.specs.Judgements.{relation_named}
use Rattle.st_elab_def.specs.declared.elaborated.Elaborated.{Elaborated}
use Rattle.st_elab_def.specs.Answers.{HasTemplate, BodyHasTemplates, NodeHasTemplates, HasTemplates}
use Rattle.st_elab_def.specs.DeclsOf.{type_node, not_node, bare_alternative, alternative_at, alternative_of, body_of, declared_at, decls_of}
use Rattle.st_elab_def.specs.Elaboration.{declaration, rule, clause, ElabDefs, IsElaborated}
use Rattle.st_elab_def.specs.Fragments.{joined}
use Rattle.st_elab_def.proofs.Declares.{declares_own}
use Rattle.st_elab_typed.specs.Citations.{IsSyntax, IsKnown, AlternativeKnown, BodyKnown, AreKnown, CitesKnown}
use Rattle.st_elab_typed.proofs.CitesKnown.{rule_cites, clause_cites}
use Rattle.st_elab_typed.proofs.Members.{Each-append, same_path}
use Rattle.st_elab_typed.proofs.KnownTypes.{fun_itself}
use Rattle.st_elab_def.proofs.AreKnown.{SignatureKnown, all_signatures, map_split, body_known, are_known}
use Rattle.st_elab_def.proofs.EachDefinition.{first_is, none_is}
use Rattle.st_elab_def.proofs.HolesCounted.{holes_counted}
use Rattle.st_elab_def.proofs.Joined.{joined_each}
use Rattle.st_elab_def.proofs.SyntaxesDeclared.{signatures_pass, syntaxes_declared, same_syntaxes}

-- ---- templates of joined fragments

fragment_alternatives : (name : List ℕ) (ds : List Def) → HasTemplates ds → AllByRecursion HasTemplate (alternatives name ds)
fragment_alternatives name [] h = tt
fragment_alternatives name (def ∷ ds) h = by (is_fragment name def) (fragment_alternatives name ds h.1)
  where
    own : (node : DefNode) → NodeHasTemplates node → AllByRecursion HasTemplate (alternatives_of node)
    own (Syntax other fragment (el_body.Cases before cases after)) k = k
    own (Syntax other fragment (el_body.Alias t)) k = tt
    own (Syntax other fragment (el_body.Fields fields)) k = tt
    own (Var other t) k = tt
    own (Relation other n) k = tt
    own (Rule r other e ps) k = tt
    own (Fun other ts t) k = tt
    own (Clause other as' e ps) k = tt

    by : (b : Bool) → AllByRecursion HasTemplate (flat_map (λ (d : Def). alternatives_of d.node) (filter (is_fragment name) ds))
        → AllByRecursion HasTemplate (flat_map (λ (d : Def). alternatives_of d.node) (cond b (def ∷ filter (is_fragment name) ds) (filter (is_fragment name) ds)))
    by true rest = Each-append HasTemplate (alternatives_of def.node) (flat_map (λ (d : Def). alternatives_of d.node) (filter (is_fragment name) ds)) (own def.node h.0) rest
    by false rest = rest

joined_templates : (name piece : List ℕ) (b : Body) (behind : List Def) → BodyHasTemplates b → HasTemplates behind → BodyHasTemplates (joined_body b (alternatives name behind))
joined_templates name piece (el_body.Cases before cases after) behind h k = Each-append HasTemplate cases (alternatives name behind) h (fragment_alternatives name behind k)
joined_templates name piece (el_body.Alias t) behind h k = tt
joined_templates name piece (el_body.Fields fields) behind h k = tt

-- ---- tags

notation_tag : (n : Notation) → HasTemplate n → IsTag (tag_of (template_of n), length (map ty_of (holes_of n)))
notation_tag n h = record { template = template_of n; tag = record { template = h; spelled = refl }; filled = holes_counted n ∙ sym (length-map (holes_of n) ty_of) }

alternative_tagged : (n : Notation) (y : NotNode-F NotNode Notation) → HasTemplate n → AllByRecursion IsTag (flat_map alternative_tags (alternative_at n y))
alternative_tagged n (NotNode-F.Hole t) h = bare (type_node t)
  where
    bare : (y : TypNode-F TypNode Typ) → AllByRecursion IsTag (flat_map alternative_tags (bare_alternative y))
    bare (TypNode-F.Name name) = tt
    bare TypNode-F.Bool = tt
    bare TypNode-F.Nat = tt
    bare TypNode-F.Int = tt
    bare TypNode-F.Text = tt
    bare (TypNode-F.Star u) = tt
    bare (TypNode-F.Quest u) = tt
    bare (TypNode-F.Tuple us) = tt
alternative_tagged n (NotNode-F.Atom name) h = (notation_tag n h, tt)
alternative_tagged n (NotNode-F.Seq ns) h = (notation_tag n h, tt)
alternative_tagged n (NotNode-F.Infix l sign r) h = (notation_tag n h, tt)
alternative_tagged n (NotNode-F.Bracket opening inside) h = (notation_tag n h, tt)

flat_tags : (xs ys : List Alternative) → AllByRecursion IsTag (flat_map alternative_tags xs) → AllByRecursion IsTag (flat_map alternative_tags ys) → AllByRecursion IsTag (flat_map alternative_tags (xs ++ ys))
flat_tags [] ys h k = k
flat_tags (alternative.Case tag operands ∷ xs) ys h k = (h.0, flat_tags xs ys h.1 k)
flat_tags (alternative.Incl name ∷ xs) ys h k = flat_tags xs ys h k

cases_tagged : (ns : List Notation) → AllByRecursion HasTemplate ns → AllByRecursion IsTag (flat_map alternative_tags (flat_map alternative_of ns))
cases_tagged [] h = tt
cases_tagged (n ∷ ns) h = flat_tags (alternative_of n) (flat_map alternative_of ns) (alternative_tagged n (not_node n) h.0) (cases_tagged ns h.1)

body_tagged : (b : Body) → BodyHasTemplates b → AllByRecursion IsTag (body_tags (body_of b))
body_tagged (el_body.Alias t) h = tt
body_tagged (el_body.Cases before cases after) h = cases_tagged cases h
body_tagged (el_body.Fields fields) h = tt

module _ (D : Decls) where
  -- ---- names

  types_known : (ts : List Ty) → AllByRecursion (IsKnown D) ts → AllByRecursion (IsSyntax D) (types_cited ts)
  types_known [] h = tt
  types_known (t ∷ ts) h = Each-append (IsSyntax D) (names_in t) (types_cited ts) h.0 (types_known ts h.1)

  alternative_known : (a : Alternative) → AlternativeKnown D a → AllByRecursion (IsSyntax D) (alternative_cited a)
  alternative_known (alternative.Case tag operands) h = types_known operands h
  alternative_known (alternative.Incl name) h = (h, tt)

  alternatives_known : (as' : List Alternative) → AllByRecursion (AlternativeKnown D) as' → AllByRecursion (IsSyntax D) (flat_map alternative_cited as')
  alternatives_known [] h = tt
  alternatives_known (a ∷ as') h = Each-append (IsSyntax D) (alternative_cited a) (flat_map alternative_cited as') (alternative_known a h.0) (alternatives_known as' h.1)

  fields_known : (fs : List (List ℕ × Ty)) → AllByRecursion (λ (f : List ℕ × Ty). IsKnown D f.1) fs → AllByRecursion (IsSyntax D) (types_cited (map (λ (f : List ℕ × Ty). f.1) fs))
  fields_known [] h = tt
  fields_known (f ∷ fs) h = Each-append (IsSyntax D) (names_in f.1) (types_cited (map (λ (f : List ℕ × Ty). f.1) fs)) h.0 (fields_known fs h.1)

  body_names : (b : SyntaxBody) → BodyKnown D b → AllByRecursion (IsSyntax D) (body_cited b)
  body_names (body.Alias t) h = h
  body_names (body.Variant as') h = alternatives_known as' h
  body_names (body.Fields fs) h = fields_known fs h

  -- ---- definitions

  -- what a definition cites is declared, but for the names in the body of a syntax
  abbrev DefKnown : IlDef → Type 0
  DefKnown (il.Syntax s) = AllByRecursion IsTag (body_tags s.body)
  DefKnown d = CitesKnown D (cited d)

  -- the names in the body of a syntax are declared
  abbrev NamesKnown : IlDef → Type 0
  NamesKnown (il.Syntax s) = BodyKnown D s.body
  NamesKnown d = Unit {0}

  together : (x : IlDef) → DefKnown x → NamesKnown x → CitesKnown D (cited x)
  together (il.Syntax s) h k = record {
    syntaxes = All-from_recursion (IsSyntax D) (body_cited s.body) (body_names s.body k);
    relations = All-from_recursion _ [] tt;
    functions = All-from_recursion _ [] tt;
    tagged = All-from_recursion IsTag (body_tags s.body) h;
  }
  together (il.Var x t) h k = h
  together (il.Relation r) h k = h
  together (il.Rule r) h k = h
  together (il.Fun f) h k = h
  together (il.Clause c) h k = h

  all_together : (xs : List IlDef) → AllByRecursion DefKnown xs → AllByRecursion NamesKnown xs → AllByRecursion (λ (d : IlDef). CitesKnown D (cited d)) xs
  all_together [] h k = tt
  all_together (x ∷ xs) h k = (together x h.0 k.0, all_together xs h.1 k.1)

  names_alone : (names : List (List ℕ)) (tagged : List Tagged) → AllByRecursion (IsSyntax D) names → AllByRecursion IsTag tagged
      → CitesKnown D (record { syntaxes = names; relations = []; functions = []; tags = tagged })
  names_alone names tagged h k = record {
    syntaxes = All-from_recursion (IsSyntax D) names h;
    relations = All-from_recursion _ [] tt;
    functions = All-from_recursion _ [] tt;
    tagged = All-from_recursion IsTag tagged k;
  }

  declared_known : (hints : List Hint) (node : DefNode) (x : IlDef) → SignatureKnown D node → NodeHasTemplates node → declared_at hints node ≡ x ∷ [] → DefKnown x
  declared_known hints (Syntax name fragment b) x h k is = subst DefKnown (first_is _ x is) (body_tagged b k)
  declared_known hints (Var name t) x h k is = subst DefKnown (first_is _ x is) (names_alone (names_in (ty_of t)) [] h tt)
  declared_known hints (Relation name n) x h k is =
      subst DefKnown (first_is _ x is) (names_alone (types_cited (map ty_of (holes_of n))) ((tag_of (template_of n), length (map ty_of (holes_of n))) ∷ []) (types_known (map ty_of (holes_of n)) h) (notation_tag n k, tt))
  declared_known hints (Rule r name e ps) x h k is = absurd (none_is x is)
  declared_known hints (Fun name ts t) x h k is =
      let s = map_split D ts t h in
      subst DefKnown (first_is _ x is) (names_alone (types_cited (ty_of t ∷ map ty_of ts)) [] (types_known (ty_of t ∷ map ty_of ts) (s.1, s.0)) tt)
  declared_known hints (Clause name as' e ps) x h k is = absurd (none_is x is)

  relation_name : (Rs : List RelationDef) (name : List ℕ) (R : RelationDef) → relation_named Rs name ≡ Some R → R.name ≡ name
  relation_name [] name R s = let bad : None ≡ Some R = s in cc
  relation_name (g ∷ gs) name R s = by (same_name name g.name) refl s (relation_name gs name R)
    where
      by : (b : Bool) → same_name name g.name ≡ b → (if b then Some g else relation_named gs name) ≡ Some R → (relation_named gs name ≡ Some R → R.name ≡ name) → R.name ≡ name
      by true e k rest = let same : g ≡ R = cc in ap (λ (z : RelationDef). z.name) (sym same) ∙ sym (same_path name g.name e)
      by false e k rest = rest k

  all_defs : AreKnown D → (ds : List Def) (xs : List IlDef) → AllByRecursion (λ (def : Def). SignatureKnown D def.node) ds → HasTemplates ds → ElabDefs D ds xs → AllByRecursion DefKnown xs
  all_defs known [] [] h k e = tt
  all_defs known [] (x ∷ xs) h k e = absurd e
  all_defs known (def ∷ ds) [] h k e = absurd e
  all_defs known (def ∷ ds) (x ∷ xs) h k (declaration is, es) = (declared_known def.hints def.node x h.0 k.0 is, all_defs known ds xs h.1 k.1 es)
  all_defs known (def ∷ ds) (x ∷ xs) h k (rule r name e ps y is el of, es) =
      let found : relation_named D.relations el.relation.name ≡ Some el.relation = ap (relation_named D.relations) (relation_name D.relations r el.relation el.declared) ∙ el.declared in
      (subst DefKnown (sym of) (rule_cites D el.relation name e ps y known found el.elaborated), all_defs known ds xs h.1 k.1 es)
  all_defs known (def ∷ ds) (x ∷ xs) h k (clause name args result ps y is el of, es) =
      (subst DefKnown (sym of) (clause_cites D el.fun _ y known (fun_itself D.funs name el.fun el.declared) el.elaborated), all_defs known ds xs h.1 k.1 es)

  pub each_at : (P : IlDef → Type 0) (xs : List IlDef) → ((i : ℕ) (x : IlDef) → slice_get xs i ≡ Some x → P x) → AllByRecursion P xs
  each_at P [] h = tt
  each_at P (x ∷ xs) h = (h 0 x refl, each_at P xs (λ i y there. h (suc i) y there))

-- what each definition of an elaborated source cites is declared
pub all_cite_known : (defs : List Def) (e : Elaborated) → HasTemplates defs → IsElaborated defs e → AllByRecursion (λ (d : IlDef). CitesKnown (decls_of defs) (cited d)) e.il.defs
all_cite_known defs e templates is =
    let D : Decls = decls_of defs in
    let signatures = joined_each (λ hints node. SignatureKnown D node) (λ hints name piece b behind h k. tt) [] defs (all_signatures D [] defs (signatures_pass defs is.sound)) in
    let tagged = joined_each (λ hints node. NodeHasTemplates node) (λ hints name piece b behind h k. joined_templates name piece b behind h k) [] defs templates in
    all_together D e.il.defs (all_defs D (are_known defs is.sound) (joined defs) e.il.defs signatures tagged is.definitions) (each_at D (NamesKnown D) e.il.defs names)
  where
    same : (decls_of defs).types ≡ syntaxes e.il
    same = ap (λ (d : Decls). d.types) (declares_own defs e is) ∙ same_syntaxes e.il.defs

    names : (i : ℕ) (x : IlDef) → slice_get e.il.defs i ≡ Some x → NamesKnown (decls_of defs) x
    names i (il.Syntax s) there =
        body_known (decls_of defs) s.name s.body
        (subst (λ ts. types.AllHold ts (types.on_body s.name s.body)) (sym same) (syntaxes_declared defs e is i s there).1)
    names i (il.Var x t) there = tt
    names i (il.Relation r) there = tt
    names i (il.Rule r) there = tt
    names i (il.Fun f) there = tt
    names i (il.Clause c) there = tt
