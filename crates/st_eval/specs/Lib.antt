-- What must be believed of how a call is run, in reading order. What calls and expressions come to is
-- told by st_semantics.

-- a clause is tried from its arguments on, premise by premise
pub mod Steps
-- an iterated premise is tried element by element
pub mod Elements
-- the language and what answers calls, where a premise is met
pub mod Setting
-- what a premise comes to that is met
pub mod Meeting
-- which premises can be met
pub mod CanBeMet
-- of which languages calls can be run
pub mod Evaluable
-- ---- what only contracts inside the crate need
pub mod inner
