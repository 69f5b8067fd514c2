use Rattle.std.proofs.Common.{◌≡◌, sym, ◌∙◌, ap, ap₂, subst, List, [], ◌∷◌, map}
use Rattle.st_il.specs.declared.expression.IlExp.TheVariants as exp
use Rattle.st_il.specs.declared.expression.ListItem.{ListItem}
use Rattle.st_il.specs.declared.ty.Ty.TheVariants as ty
use Rattle.st_match_tests.specs.Open.{part_of, IsOpen}
use Rattle.st_match_tests.proofs.OpenLists.{list_open}
use Rattle.st_match_tests.proofs.splitting.pattern.Goals as goal

pub returns : goal.returns
returns c =
    let parts : c.in_ok-parts.parts ≡ map part_of (c.args.front.now ∷ c.args.middle.now ∷ c.args.back.now ∷ []) =
    c.in_ok-parts.ensures ∙ (ap₂ (λ (x y : ListItem). x ∷ y ∷ c.in_ok-back.back ∷ []) c.in_ok-front.ensures c.in_ok-middle.ensures
    ∙ ap (λ (z : ListItem). part_of c.args.front.now ∷ part_of c.args.middle.now ∷ z ∷ []) c.in_ok-back.ensures) in
    subst (λ (z : List ListItem). IsOpen (exp.List ty.Nat z)) (sym parts) (list_open (c.args.front.now ∷ c.args.middle.now ∷ c.args.back.now ∷ []))
