-- What is told exactly.
use Rattle.std.specs.Prelude.{◌≡◌, Result}
use Rattle.st_num.specs.declared.fault.Fault.{Fault as ExpFault}
use Rattle.st_elab_table.specs.Questions.{Breach}
use Rattle.st_elab_rows.specs.Told.{Told}

-- the result is this, but for want of memory
abbrev pub IsGiven : {A : Type 0} → A → Result A ExpFault → Type 0
IsGiven x r = Told (λ y. y ≡ x) (λ b. ⊥) r

-- the result is this breach, but for want of memory
abbrev pub IsRefused : {A : Type 0} → Breach → Result A ExpFault → Type 0
IsRefused b r = Told (λ y. ⊥) (λ c. c ≡ b) r
