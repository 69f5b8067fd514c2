-- the patterns of the tests
pub mod Open
