mod Collecting
mod Turning
mod Recording
mod Checking
mod Inferring
mod Pairing
mod Typing
mod Public
mod Outcomes
mod Premising
mod Scoping
pub mod Defining
mod Building
mod Naming
mod Judging
mod Clausing
pub mod Erasing
