-- The internal language of an elaborated source is typed.
use Rattle.std.proofs.Common.{◌≡◌, inl, refl, sym, ap, ◌∙◌, subst, ℕ, suc, List, [], ◌∷◌, ◌++◌, take, append_assoc, append-nil, Some}
use Rattle.std.specs.Prelude.{slice_get, Result, Ok, Err, IfOk}
use Rattle.std.specs.List.{AllByRecursion}
use Rattle.st_el.specs.declared.definition.Def.{Def}
use Rattle.st_il.specs.declared.definition.ClauseDef.{ClauseDef}
use Rattle.st_il.specs.declared.definition.Il.{Il}
use Rattle.st_il.specs.declared.definition.IlDef.{IlDef}
use Rattle.st_il.specs.declared.definition.IlDef.TheVariants as il
use Rattle.st_il.specs.declared.definition.RuleDef.{RuleDef}
use Rattle.st_type_table.specs.Breach as types
use Rattle.st_ilcheck.specs.Declarations.{AreNamed}
use Rattle.st_ilcheck.specs.Typed.{BreaksByTypes, KeepsVariables, KeepsIndices, AllKeep, Typed}
use Rattle.st_elab_table.specs.declared.decls.Decls.{Decls}
use Rattle.st_elab_table.specs.Judgements.{relation_named}
use Rattle.st_elab_typed.specs.RuleNames.{RuleKeepsNames, ClauseKeepsNames, DefKeepsNames}
use Rattle.st_elab_typed.specs.RuleLaw.{AreDeclaredIn}
use Rattle.st_elab_typed.proofs.Declared.{AreDeclaredIn-declares}
use Rattle.st_elab_typed.proofs.RuleTyping.{RuleIsTyped-holds, ClauseIsTyped-holds}
use Rattle.st_elab_def.specs.declared.elaborated.Elaborated.{Elaborated}
use Rattle.st_elab_def.specs.declared.breach.DefFault.{DefFault}
use Rattle.st_elab_def.specs.Answers.{Answers, HasTemplates}
use Rattle.st_elab_def.specs.DeclsOf.{decls_of}
use Rattle.st_elab_def.specs.Elaboration.{declaration, rule, clause, ElabDefs, IsElaborated}
use Rattle.st_elab_def.specs.Fragments.{joined}
use Rattle.st_elab_def.proofs.Declares.{declares_own}
use Rattle.st_elab_typed.proofs.KnownTypes.{fun_itself}
use Rattle.st_elab_def.specs.Sources.{RepeatNoOtherwise}
use Rattle.st_elab_def.proofs.AreNamed.{relation_name, all_are_named}
use Rattle.st_elab_def.proofs.EachDefinition.{IsDeclaration, declaration_form, elaborated_variables, elaborated_indices, elaborated_names}
use Rattle.st_elab_def.proofs.SyntaxesDeclared.{types_sound}

-- ---- no definition breaks a rule

module _ (l : Il) where
  abbrev BreaksNone : IlDef → Type 0
  BreaksNone d = BreaksByTypes l d []

  all_keep : (before ds : List IlDef) → ((at : ℕ) (d : IlDef) → slice_get ds at ≡ Some d → AreNamed l (before ++ take at ds) d)
      → AllByRecursion KeepsVariables ds → AllByRecursion KeepsIndices ds → AllByRecursion BreaksNone ds → AllKeep l before ds
  all_keep before [] names vs is ts = tt
  all_keep before (d ∷ ds) names vs is ts = (
    record {
      by_names = [];
      by_variables = [];
      by_indices = [];
      by_types = [];
      names = inl (subst (λ z. AreNamed l z d) (append-nil before) (names 0 d refl), refl);
      variables = inl (vs.0, refl);
      indices = inl (is.0, refl);
      types = ts.0;
      whole = refl;
    },
    all_keep (before ++ d ∷ []) ds (λ at e there. subst (λ z. AreNamed l z e) (sym (append_assoc before (d ∷ []) (take at ds))) (names (suc at) e there)) vs.1 is.1 ts.1,
  )

  -- ---- by types

  declaration_breaks_none : (x : IlDef) → IsDeclaration x → BreaksNone x
  declaration_breaks_none (il.Rule r) h = absurd h
  declaration_breaks_none (il.Clause c) h = absurd h
  declaration_breaks_none d h = refl

  rule_kept : (r : RuleDef) → KeepsVariables (il.Rule r) → DefKeepsNames (il.Rule r) → RuleKeepsNames r
  rule_kept r v n = record { variables = v; conclusion = n.0; premises = n.1 }

  clause_kept : (c : ClauseDef) → KeepsVariables (il.Clause c) → DefKeepsNames (il.Clause c) → ClauseKeepsNames c
  clause_kept c v n = record { variables = v; arguments = n.0; premises = n.1 }

  module _ (D : Decls) (declared : AreDeclaredIn l D) (sound : types.IsSound D.types) where
    all_types : (ds : List Def) (xs : List IlDef) → AllByRecursion KeepsVariables xs → AllByRecursion DefKeepsNames xs → ElabDefs D ds xs → AllByRecursion BreaksNone xs
    all_types [] [] vs ns h = tt
    all_types [] (x ∷ xs) vs ns h = absurd h
    all_types (def ∷ ds) [] vs ns h = absurd h
    all_types (def ∷ ds) (x ∷ xs) (v, vs) (n, ns) (declaration is, hs) = (declaration_breaks_none x (declaration_form def.hints def.node x is), all_types ds xs vs ns hs)
    all_types (def ∷ ds) (x ∷ xs) (v, vs) (n, ns) (rule r name e ps y is el of, hs) =
        let found : relation_named D.relations el.relation.name ≡ Some el.relation = ap (relation_named D.relations) (relation_name D.relations r el.relation el.declared) ∙ el.declared in
        let kept : RuleKeepsNames y = rule_kept y (subst KeepsVariables of v) (subst DefKeepsNames of n) in
        (subst BreaksNone (sym of) (RuleIsTyped-holds l D declared sound el.relation found name e ps y el.elaborated kept), all_types ds xs vs ns hs)
    all_types (def ∷ ds) (x ∷ xs) (v, vs) (n, ns) (clause name args result ps y is el of, hs) =
        let kept : ClauseKeepsNames y = clause_kept y (subst KeepsVariables of v) (subst DefKeepsNames of n) in
        (subst BreaksNone (sym of) (ClauseIsTyped-holds l D declared sound el.fun (fun_itself D.funs name el.fun el.declared) _ y el.elaborated kept), all_types ds xs vs ns hs)

-- no definition of an elaborated source breaks one of the rules T1 to T14
pub elaborated_typed : (defs : List Def) (e : Elaborated) → HasTemplates defs → RepeatNoOtherwise defs → IsElaborated defs e → Typed e.il
elaborated_typed defs e templates repeats is =
    let variables = elaborated_variables defs e is in
    let names = elaborated_names defs e repeats is in
    let declared = AreDeclaredIn-declares e.il (decls_of defs) (declares_own defs e is) in
    all_keep e.il [] e.il.defs (all_are_named defs e templates is) variables (elaborated_indices defs e is)
    (all_types e.il (decls_of defs) declared (types_sound defs is.sound) (joined defs) e.il.defs variables names is.definitions)

-- what the elaboration of a source gives is typed
pub Typed-answered : (defs : List Def) (r : Result Elaborated DefFault) → HasTemplates defs → RepeatNoOtherwise defs → Answers defs r → IfOk r (λ (e : Elaborated). Typed e.il)
Typed-answered defs (Ok e) templates repeats is = elaborated_typed defs e templates repeats is
Typed-answered defs (Err fault) templates repeats is = tt
