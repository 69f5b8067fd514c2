-- What must be believed of what is printed and of what is read, in reading order.

-- tokens that are written one behind another, and which of them are apart
pub mod Written
-- the text of an expression means this expression again
pub mod ReadBack
-- the expressions that definitions hold
pub mod DefExps
-- the texts and names in tokens and in what they mean
pub mod SourceTexts
