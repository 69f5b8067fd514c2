-- The words that begin the texts of values in parentheses.
use Rattle.std.specs.Prelude.{ℕ, List, codes}
use Rattle.st_iltext.specs.declared.value_form.ValueForm.{ValueForm}
use Rattle.st_iltext.specs.declared.value_form.ValueForm.TheVariants as form

-- the word of a form
abbrev pub form_word : ValueForm → List ℕ
form_word form.Case = codes "c"
form_word form.Fields = codes "r"
form_word form.Tuple = codes "t"
form_word form.List = codes "l"
form_word form.Opt = codes "o"
