-- What is believed of typing and subtyping is told by `HasType`, `Sub` and `GoesUp` of
-- `st_type_table`.

-- ---- what only proofs need
pub mod inner
