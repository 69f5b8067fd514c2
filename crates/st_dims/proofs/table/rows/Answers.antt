use Rattle.std.proofs.Common.{◌≡◌, ◌<◌, ◌++◌, List, [], ◌∷◌, length, true, false, sym, ◌∙◌, subst, arith}
use Rattle.std.proofs.lemmas.List.{append-nil}
use Rattle.st_dims.specs.Dimensions.{Table, IsOrdered}
use Rattle.st_dims.proofs.table.rows.Goals as goal

-- nothing is left where nothing can be taken
all_taken : {A : Type 0} (table rest whole : List A) → (0 < length rest → false ≡ true) → table ++ rest ≡ whole → table ≡ whole
all_taken table [] whole h e = sym (append-nil table) ∙ e
all_taken table (x ∷ rest) whole h e = let no : false ≡ true = h (omega arith) in cc

pub returns : goal.returns
returns c =
    let all = c.from_vec.ensures ∙ all_taken _ c.loop-entry.shortest.entries _ c.in_default.ensures.variant.1 c.loop-entry.invariant in
    record { entries = all; ordered = subst (λ (table : Table). IsOrdered table) (sym all) c.len.ensures.ordered }
