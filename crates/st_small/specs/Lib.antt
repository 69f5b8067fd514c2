-- What must be believed of small specifications: which they are is told by `Small.antt` of `st_il`.

-- the bytes are the text of this small specification
pub mod SmallText
-- ---- what only proofs need
pub mod inner
