-- What is kept of names, directions and premises.
pub mod Index
pub mod Masks
pub mod Arrow
pub mod Inputs
pub mod Parts
pub mod HolesOf
pub mod Classes
pub mod Selections
pub mod Endings
