-- What must be believed of terms, in reading order.

-- the text of values
pub mod TermText
-- which parts of terms and queries are no value forms
pub mod Foreign
-- the value of a term is that of evaluation
pub mod TermValue
-- how the text of a term or a query is read, and the first rule that it breaks
pub mod Reading
-- ---- what only proofs need
pub mod inner
