mod FieldTexts
pub mod TypInduction
pub mod NotationInduction
