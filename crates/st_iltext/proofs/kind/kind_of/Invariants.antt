use Rattle.std.proofs.Common.{◌≡◌, ◌<◌, ℕ, get_or}
use Rattle.st_text.specs.Text.{word}
use Rattle.st_text.specs.Trees.{tree_of}
use Rattle.st_iltext.specs.declared.kind.Kind.TheVariants as kind
use Rattle.st_iltext.specs.declared.kind.TheConstants.Kind.{ALL as KINDS}
use Rattle.st_iltext.specs.inner.KindWords.{kind_word}
use Rattle.st_iltext.proofs.kind.kind_of.Given as goal

-- no kind so far has the word
abbrev pub invariant-loop-kind : goal.invariant-loop-kind
invariant-loop-kind l = (k : ℕ) → k < l.kind-index → ¬ (tree_of l.tree ≡ word (kind_word (get_or KINDS k kind.Var)))
