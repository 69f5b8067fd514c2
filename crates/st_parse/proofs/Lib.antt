pub mod DraftOf
pub mod Low
pub mod Endings
pub mod DraftSteps
pub mod DraftEnds
pub mod DraftFills
pub mod Built
pub mod Arguments
pub mod WorkSteps
pub mod WorkEnds
pub mod WorkPositions
pub mod BeforeLemmas
pub mod Notes
mod PremiseHeights
mod Ended
mod Told
pub mod Trees
pub mod TakenTrees
pub mod Works
pub mod Cut
mod Opens
pub mod Runs
pub mod Taking
mod Sources
pub mod Fronts
mod OneAnswer
pub mod Standing
pub mod StandingDefs
mod StandingOpen
pub mod StandingFaults
pub mod ExpressionReadings
pub mod ExpressionSeenView
pub mod ExpressionVerdicts
pub mod ExpressionExact
pub mod ExpressionNumbers
pub mod ExpressionBroken
pub mod ExpressionLoop
pub mod ExpressionDrafted
pub mod ExpressionParsing
mod OneExpressionAnswer
