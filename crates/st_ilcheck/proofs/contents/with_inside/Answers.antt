use Rattle.std.proofs.Common.{sym, ap, ap₂, ◌∙◌, ◌∷◌, ◌++◌, [], ℕ, List, append-nil}
use Rattle.st_num.specs.declared.dim.Kind.{Kind}
use Rattle.st_semantics.specs.Iterations.{index_of, kind_of}
use Rattle.st_ilcheck.proofs.InsideLemmas.{inside-skipped, inside-kept}
use Rattle.st_ilcheck.proofs.contents.with_inside.Goals as goal

pub returns-then-is_index : goal.returns-then-is_index
returns-then-is_index c =
    sym (ap (λ z. c.args.found ++ z) (inside-skipped (index_of c.args.how.now) (kind_of c.args.how.now) c.args.occurrence.now (sym c.if-is_index.ensures)) ∙ append-nil c.args.found)

pub returns : goal.returns
returns c =
    c.in_ok-push.ensures.ok
    ∙ ap (λ z. c.args.found ++ z)
    (ap₂ (λ (n : List ℕ) (k : List Kind). (n, k) ∷ []) c.in_ok-name.ensures (c.in_ok-kinds.ensures ∙ ap₂ (λ (k : Kind) (ks : List Kind). k ∷ ks) c.kind_of.ensures c.as_slice.ensures)
    ∙ sym (inside-kept (index_of c.args.how.now) (kind_of c.args.how.now) c.args.occurrence.now (sym c.if-is_index.ensures)))
