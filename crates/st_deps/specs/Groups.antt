-- Groups of mutual citation, in the order in which they are listed.
use Rattle.std.specs.Prelude.{◌≡◌, ◌↔◌, Bool, true, List, ◌∷◌, ◌++◌, filter, Contains}
use Rattle.st_graph.specs.Reaches.{Reaches}
use Rattle.std.specs.List.{flat_map}

-- what is given: what cites what, and all that is declared, in the order of declaration
module _ {A : Type 0} (Cites : A → A → Type 0) (all : List A) where
  -- the group of x: all that x reaches and that reach x, in the order of declaration
  pub record IsGroup (x : A) (group : List A) : Type 0 where
    pub among : A → Bool
    pub mutual_ones : (y : A) → (among y ≡ true) ↔ (Reaches Cites x y × Reaches Cites y x)
    pub in_order : group ≡ filter among all

  -- all that a group cites is listed, or in the group itself
  abbrev pub IsReady : List A → List A → Type 0
  IsReady listed group =
      (x y : A) → Contains group x → Cites x y → Contains (listed ++ group) y

  -- Behind those that are listed this group is the next: it is not listed yet, it is ready, and no
  -- group that begins before it is both.
  pub record IsNext (listed group : List A) : Type 0 where
    pub early : List A
    pub first : A
    pub others : List A
    pub splits : all ≡ early ++ first ∷ others
    pub is_group : IsGroup first group
    pub is_new : Contains listed first → ⊥
    pub is_ready : IsReady listed group
    pub no_earlier : (x : A) (other : List A) → Contains early x → (Contains listed x → ⊥)
        → IsGroup x other → IsReady listed other → ⊥

  -- all that is in several groups, one behind another
  abbrev pub in_groups : List (List A) → List A
  in_groups groups = flat_map (λ (group : List A). group) groups

  -- Each group is the next behind those before it, and all that is declared is in one.
  pub record AreGroups (groups : List (List A)) : Type 0 where
    pub each : (before after : List (List A)) (group : List A)
        → groups ≡ before ++ group ∷ after → IsNext (in_groups before) group
    pub whole : (x : A) → Contains all x → Contains (in_groups groups) x
