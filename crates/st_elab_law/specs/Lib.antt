-- What must be believed of the laws of elaboration, in reading order.

-- elaboration and erasure look in the same definitions
pub mod Agreement
-- what is elaborated is erased to what it came from
pub mod Law
-- the variables, indices and iterations in a source, each under the iterations round it
pub mod Notes
-- those in the internal language
pub mod Noted
-- what is elaborated has those of what it came from, in their order
pub mod KeepsNotes
-- no question is without an answer
pub mod Totality
