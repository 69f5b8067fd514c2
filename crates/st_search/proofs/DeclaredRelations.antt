-- What typing says of declared relations, and what a proper language has of its records: a hole for each place of a mask, and names of fields that are texts.
use Rattle.std.proofs.Common.{◌≡◌, refl, sym, ap, ap₂, ◌∙◌, subst, ℕ, ◌+◌, List, [], ◌∷◌, ◌++◌, length, replicate, Bool, true, false, inl, inr, Option, Some, None, option_and_then, unwrap_or, bytes_eq, nat_eq, All}
use Rattle.std.specs.Prelude.{find, if◌then◌else◌}
use Rattle.std.specs.Cmp.Lexicographic.{pointwise}
use Rattle.std.specs.List.{AllByRecursion}
use Rattle.std.proofs.lemmas.List.{length-append, length-replicate}
use Rattle.std.proofs.lemmas.List.Elements.{All-from_recursion, All-head}
use Rattle.st_num.specs.Texts.{IsText}
use Rattle.st_il.specs.declared.definition.Il.{Il}
use Rattle.st_il.specs.declared.definition.IlDef.{IlDef}
use Rattle.st_il.specs.declared.definition.IlDef.TheVariants.{Syntax, Var, Relation, Rule, Fun, Clause}
use Rattle.st_il.specs.declared.definition.RelationDef.{RelationDef}
use Rattle.st_il.specs.declared.definition.SyntaxBody.{SyntaxBody}
use Rattle.st_il.specs.declared.definition.SyntaxBody.TheVariants as body
use Rattle.st_il.specs.declared.definition.SyntaxDef.{SyntaxDef}
use Rattle.st_il.specs.declared.template.Template.{Template, out-Template, map-Template, fold_out-Template}
use Rattle.st_il.specs.declared.template.Template.TheOpen.{Template-F}
use Rattle.st_il.specs.declared.ty.Ty.{Ty, out-Ty}
use Rattle.st_il.specs.declared.ty.Ty.TheOpen.{Ty-F}
use Rattle.st_il.specs.Tags.{template_of, IsTemplateOf}
use Rattle.st_il.specs.Template.{holes, holes_at}
use Rattle.st_il.proofs.TagTemplates.{is_template}
use Rattle.st_il.proofs.Tags.{one_template}
use Rattle.st_type_table.specs.Cases.{HasFields}
use Rattle.st_type_table.specs.Meaning.{body_of, recorded, named_at}
use Rattle.st_il.specs.Names.{Name}
use Rattle.st_il.specs.Definitions.{syntaxes, syntaxes_in, relations_in, relation_named, rules_in, clauses_in}
use Rattle.st_semantics.specs.Directions.{is_arrow, direction_at, direction_by, inputs_or_all, mask}
use Rattle.st_ilcheck.specs.Declarations.{IsTag, IsMode}
use Rattle.st_ilcheck.specs.Typed.{Typed, AllKeep, Breaks}
use Rattle.st_eval.proofs.IsFormedLemmas.{Told-holds, none-left}
use Rattle.st_search.specs.Proper.{IsProperBody, IsProperRule, IsProperClause, IsProperDef, IsProper, AreProperFields}

-- ---- a mask has a place for each hole

arrow_long : (left : ℕ) (right : ℕ) (b : Bool) (inputs : List Bool) → (if b then Some (replicate left true ++ replicate right false) else None) ≡ Some inputs → length inputs ≡ left + right
arrow_long left right true inputs e =
    let same : replicate left true ++ replicate right false ≡ inputs = cc in
    ap length (sym same) ∙ (length-append (replicate left true) (replicate right false) ∙ ap₂ (λ a c. a + c) (length-replicate left true) (length-replicate right false))
arrow_long left right false inputs e = absurd (cc)

direction_long : (t : Template) (y : Template-F Template) → out-Template t ≡ y → (inputs : List Bool) → direction_at y ≡ Some inputs → length inputs ≡ holes t
direction_long t (Template-F.Infix left sign right) is inputs e =
    arrow_long (holes left) (holes right) (is_arrow sign) inputs e ∙ sym (fold_out-Template ℕ holes_at t ∙ ap (λ z. holes_at (map-Template Template ℕ holes z)) is)
direction_long t y is inputs e = absurd (cc)

-- what typing says of a declared relation
pub record RelationTyped (r : RelationDef) : Type 0 where
  pub tag : IsTag (r.tag, length r.holes)
  pub mode : IsMode r

tag_long : (r : RelationDef) → IsTag (r.tag, length r.holes) → (o : Option Template) → IsTemplateOf r.tag o → length (unwrap_or (option_and_then (λ (t : Template). direction_at (out-Template t)) o) (replicate (length r.holes) true)) ≡ length r.holes
tag_long r tagged None none = length-replicate (length r.holes) true
tag_long r tagged (Some t) has = by (direction_at (out-Template t)) refl
  where
    by : (o : Option (List Bool)) → direction_at (out-Template t) ≡ o → length (unwrap_or o (replicate (length r.holes) true)) ≡ length r.holes
    by None e = length-replicate (length r.holes) true
    by (Some inputs) e = direction_long t (out-Template t) refl inputs e ∙ (ap holes (one_template r.tag t tagged.template has tagged.tag) ∙ tagged.filled)

told_long : (r : RelationDef) → RelationTyped r → (words : List Bool) → r.mode ≡ words → length (unwrap_or (direction_by words r.tag) (replicate (length r.holes) true)) ≡ length r.holes
told_long r typed [] e = tag_long r typed.tag (template_of r.tag) (is_template r.tag)
told_long r typed (word ∷ words) e = by typed.mode
  where
    by : IsMode r → length (word ∷ words) ≡ length r.holes
    by (inl none) = let bad : word ∷ words ≡ [] = sym e ∙ none in absurd (cc)
    by (inr long) = ap length (sym e) ∙ long

found_holds : (P : RelationDef → Type 0) (name : Name) (rs : List RelationDef) → AllByRecursion P rs → (r : RelationDef) → find (λ (r : RelationDef). bytes_eq name r.name) rs ≡ Some r → P r
found_holds P name [] h r e = absurd (cc)
found_holds P name (x ∷ xs) h r e = by (bytes_eq name x.name) e (found_holds P name xs h.1 r)
  where
    by : (b : Bool) → (if b then Some x else find (λ (r : RelationDef). bytes_eq name r.name) xs) ≡ Some r → (find (λ (r : RelationDef). bytes_eq name r.name) xs ≡ Some r → P r) → P r
    by true k later = let same : x ≡ r = cc in subst P same h.0
    by false k later = later k

relation_typed : (il : Il) (before : List IlDef) (r : RelationDef) → Breaks il before (Relation r) [] → RelationTyped r
relation_typed il before r h =
    let named = Told-holds _ _ h.by_names h.names (none-left h.by_names (h.by_variables ++ (h.by_indices ++ h.by_types)) [] h.whole refl) in
    record { tag = All-head IsTag (r.tag, length r.holes) [] named.tagged; mode = named.declared.1 }

relations_typed : (il : Il) (before ds : List IlDef) → AllKeep il before ds → AllByRecursion RelationTyped (relations_in ds)
relations_typed il before [] h = tt
relations_typed il before (Syntax s ∷ ds) h = relations_typed il (before ++ Syntax s ∷ []) ds h.1
relations_typed il before (Var x t ∷ ds) h = relations_typed il (before ++ Var x t ∷ []) ds h.1
relations_typed il before (Relation r ∷ ds) h = (relation_typed il before r h.0, relations_typed il (before ++ Relation r ∷ []) ds h.1)
relations_typed il before (Rule r ∷ ds) h = relations_typed il (before ++ Rule r ∷ []) ds h.1
relations_typed il before (Fun f ∷ ds) h = relations_typed il (before ++ Fun f ∷ []) ds h.1
relations_typed il before (Clause c ∷ ds) h = relations_typed il (before ++ Clause c ∷ []) ds h.1

-- the mask of a declared relation has a place for each of its holes
abbrev pub HasLongMasks : Il → Type 0
HasLongMasks il = (name : Name) (r : RelationDef) → relation_named il name ≡ Some r → length (mask il name) ≡ length r.holes

pub masks_long : (il : Il) → Typed il → HasLongMasks il
masks_long il typed name r found =
    ap (λ z. length (inputs_or_all z)) found ∙ told_long r (found_holds RelationTyped name (relations_in il.defs) (relations_typed il [] il.defs typed) r found) r.mode refl

-- ---- definitions of a proper language

pub record AreProper (ds : List IlDef) : Type 0 where
  pub syntaxes : AllByRecursion (λ (s : SyntaxDef). IsProperBody s.body) (syntaxes_in ds)
  pub rules : AllByRecursion IsProperRule (rules_in ds)
  pub clauses : AllByRecursion IsProperClause (clauses_in ds)

pub proper_parts : (ds : List IlDef) → AllByRecursion IsProperDef ds → AreProper ds
proper_parts [] h = record { syntaxes = tt; rules = tt; clauses = tt }
proper_parts (Syntax s ∷ ds) h = let p = proper_parts ds h.1 in record { syntaxes = (h.0, p.syntaxes); rules = p.rules; clauses = p.clauses }
proper_parts (Var x t ∷ ds) h = let p = proper_parts ds h.1 in record { syntaxes = p.syntaxes; rules = p.rules; clauses = p.clauses }
proper_parts (Relation r ∷ ds) h = let p = proper_parts ds h.1 in record { syntaxes = p.syntaxes; rules = p.rules; clauses = p.clauses }
proper_parts (Rule r ∷ ds) h = let p = proper_parts ds h.1 in record { syntaxes = p.syntaxes; rules = (h.0, p.rules); clauses = p.clauses }
proper_parts (Fun f ∷ ds) h = let p = proper_parts ds h.1 in record { syntaxes = p.syntaxes; rules = p.rules; clauses = p.clauses }
proper_parts (Clause c ∷ ds) h = let p = proper_parts ds h.1 in record { syntaxes = p.syntaxes; rules = p.rules; clauses = (h.0, p.clauses) }

body_proper : (ds : List SyntaxDef) → AllByRecursion (λ (s : SyntaxDef). IsProperBody s.body) ds → (name : Name) (b : SyntaxBody) → body_of ds name ≡ Some b → IsProperBody b
body_proper [] h name b e = absurd (cc)
body_proper (d ∷ ds) h name b e = by (pointwise nat_eq name d.name) e (body_proper ds h.1 name b)
  where
    by : (test : Bool) → (if test then Some d.body else body_of ds name) ≡ Some b → (body_of ds name ≡ Some b → IsProperBody b) → IsProperBody b
    by true k later = let same : d.body ≡ b = cc in subst IsProperBody same h.0
    by false k later = later k

recorded_proper : (ds : List SyntaxDef) → AllByRecursion (λ (s : SyntaxDef). IsProperBody s.body) ds → (name : Name) (o : Option SyntaxBody) → body_of ds name ≡ o → (fields : List (Name × Ty)) → recorded o ≡ Some fields → AreProperFields fields
recorded_proper ds h name None e fields k = absurd (cc)
recorded_proper ds h name (Some (body.Alias t)) e fields k = absurd (cc)
recorded_proper ds h name (Some (body.Variant alternatives)) e fields k = absurd (cc)
recorded_proper ds h name (Some (body.Fields found)) e fields k = let same : found ≡ fields = cc in subst AreProperFields same (body_proper ds h name (body.Fields found) e)

level_proper : (ds : List SyntaxDef) → AllByRecursion (λ (s : SyntaxDef). IsProperBody s.body) ds → (y : Ty-F Ty) (fields : List (Name × Ty)) → recorded (named_at ds y) ≡ Some fields → AreProperFields fields
level_proper ds h (Ty-F.Name name) fields k = recorded_proper ds h name (body_of ds name) refl fields k
level_proper ds h y fields k = absurd (cc)

pub fields_proper : (il : Il) → IsProper il → (t : Ty) (fields : List (Name × Ty)) → HasFields (syntaxes il) t fields → All (λ (d : Name × Ty). IsText d.0) fields
fields_proper il proper t fields has =
    All-from_recursion (λ (d : Name × Ty). IsText d.0) fields (level_proper (syntaxes il) (proper_parts il.defs proper).syntaxes (out-Ty has.structure) fields has.declared)
