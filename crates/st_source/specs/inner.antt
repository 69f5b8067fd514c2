-- What the steps of reading keep, and what is known of a specification that was read.
pub mod Placing
pub mod Specifying
