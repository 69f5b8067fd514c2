-- What must be believed of the prose of algorithms, in reading order.

-- a step is a sentence
pub mod Sentences
-- headings, steps with their numbers, and the whole text
pub mod ProseText
