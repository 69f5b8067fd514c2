mod AnswerLemmas
mod Loading
mod Outcomes
mod WrittenLemmas
mod DerivedAccepted
mod ReadBack
