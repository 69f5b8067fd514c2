-- What is built of parts: a tree only where it is at most 100 high.
use Rattle.std.specs.Prelude.{◌≡◌, ℕ, ◌+◌, min, max, nat_le, List, ◌∷◌, Option, Some, None, if◌then◌else◌}
use Rattle.std.specs.Option.{option_map}
use Rattle.st_parse_builder.specs.declared.built.Built.{Built}

-- ---- heights

-- Every height above 100 is told as 101.
abbrev pub capped : ℕ → ℕ
capped height = min height 101

-- the height of what has parts of this height
unfoldable pub above : ℕ → ℕ
above parts = min (parts + 1) 101

-- the tree, where it is so high
unfoldable pub kept : {A : Type 0} → ℕ → Option A → Option A
kept height tree = if nat_le height 100 then tree else None

-- ---- parts

-- what is built of a tree of this height, before whose variables so many are seen
unfoldable pub built : {A : Type 0} → ℕ → ℕ → A → Built A
built from height a = record { tree = kept height (Some a); height = capped height; from = from }

-- a part without a tree
abbrev pub untold : {A : Type 0} → ℕ → Built A
untold from = record { tree = None; height = 101; from = from }

-- the part that is made of a part
abbrev pub over : {A B : Type 0} → (A → B) → Built A → Built B
over f p = record { tree = option_map f p.tree; height = p.height; from = p.from }

-- the parts of what is one higher
abbrev pub raised : {A : Type 0} → Built A → Built A
raised p = record { tree = kept (above p.height) p.tree; height = above p.height; from = p.from }

-- both trees, where both are there
abbrev pub both_trees : {A B : Type 0} → Option A → Option B → Option (A × B)
both_trees (Some a) (Some b) = Some (a, b)
both_trees a b = None

-- two parts, of which the first begins first
abbrev pub both : {A B : Type 0} → Built A → Built B → Built (A × B)
both p q = record {
  tree = both_trees p.tree q.tree;
  height = max p.height q.height;
  from = p.from;
}

-- ---- what a part is

-- the part with this tree as one of another sort, where it may be one
abbrev pub read_tree : {A P : Type 0} → (P → Option A) → Option P → ℕ → ℕ → Option (Built A)
read_tree g None height from = Some (record { tree = None; height = height; from = from })
read_tree g (Some p) height from =
    option_map (λ a. record { tree = Some a; height = height; from = from }) (g p)

-- what stands for this, where it is known and of this sort
abbrev pub read_known : {A P : Type 0} → (P → Option A) → Option P → Option A
read_known g None = None
read_known g (Some p) = g p

-- ---- answers

-- what is taken off a stack, and what is left of it
abbrev pub Takes : {A P : Type 0} → Option (A × List P) → List P → Option A → Type 0
Takes o s None = o ≡ None
Takes o s (Some a) = o ≡ Some (a, s)

-- what is made, above what is left
abbrev pub Makes : {P : Type 0} → Option (List P) → List P → Option P → Type 0
Makes o s None = o ≡ None
Makes o s (Some p) = o ≡ Some (p ∷ s)

-- what is made, and else this
abbrev pub made_or : {A : Type 0} → Option A → A → A
made_or None other = other
made_or (Some a) other = a
