-- What must be believed of the checker of derivations, in reading order. What the lines and their
-- verdicts are, and what accepted lines vouch for, is told by the meaning of rules.

-- ---- small specifications
-- an expression has as its value a case without operands
pub mod SmallValues
-- the first of the rules of derivations that a line breaks, as the code asks them
pub mod SmallVerdict
-- what the code notes of a line
pub mod SmallNotes
-- what the meaning of rules comes to on a small specification, and that it comes to all this
pub mod SmallMeaning
-- ---- the checker
-- a verifier answers so, and is so then
pub mod Verifier
-- an internal language is refused by a typing rule, and the typing rule behind a refusal
pub mod Typing
