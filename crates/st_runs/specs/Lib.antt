-- What must be believed of runs, in reading order.

-- the transcript of a run, with its first term
pub mod Transcript
-- a run goes from term to term; all outputs; or a chain begins
pub mod Runs
-- the printed texts of these
pub mod RunTexts
-- ---- what only proofs need
pub mod inner
