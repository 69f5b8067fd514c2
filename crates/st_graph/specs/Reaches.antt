-- What leads to what by steps.

-- The first leads to the second: it is the second, or steps to it, directly or through others.
pub data Reaches {A : Type 0} (Steps : A → A → Type 0) : A → A → Type 0 where
  itself : {x : A} → Reaches Steps x x
  through : {x z : A} (y : A) → Steps x y → Reaches Steps y z → Reaches Steps x z
