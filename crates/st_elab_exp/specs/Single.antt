-- What has one outcome at most.
use Rattle.std.specs.Prelude.{◌≡◌}
use Rattle.st_elab_table.specs.Questions.{Breach}

-- There is at most one elaboration or one breach, and not both.
pub record HasOneOutcome {A : Type 0} (P : A → Type 0) (F : Breach → Type 0) : Type 0 where
  pub one : (x y : A) → P x → P y → x ≡ y
  pub one_breach : (b c : Breach) → F b → F c → b ≡ c
  pub not_both : (x : A) (b : Breach) → P x → F b → ⊥
