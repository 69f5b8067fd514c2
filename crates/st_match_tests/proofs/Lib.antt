pub mod OpenLists
