-- What must be believed of answers, in reading order.

-- the number of each status
pub mod Status
-- it is said that nothing of a kind is built
pub mod Unbuilt
-- the printed texts of refusals: a place, the definition and the rule
pub mod RefusalTexts
-- the printed text of groups of definitions
pub mod GroupTexts
-- the printed text of the orders of all rules
pub mod OrderTexts
-- the printed text of the mark of a relation, and which one it has
pub mod MarkTexts
-- the lines of a derivation are accepted, or this line is refused by this rule
pub mod Verification
-- the printed texts of these verdicts
pub mod VerdictTexts
-- ---- what only proofs need
pub mod inner
