-- What must be believed of values and of matching. What expressions come to, and what it is that an
-- environment matches, is told by `Evaluation.antt` and `Matching.antt` of st_semantics.

-- a closure may answer a call as its contract says
pub mod Answering
-- these are exactly the environments that match, or match all of several patterns, each once
pub mod Matches
-- ---- what only proofs and contracts inside this part need
pub mod inner
