-- What a table of any syntaxes promises is said by the definitions of `st_type_table`; here stands
-- only what contracts inside the crate and proofs need.

pub mod inner
