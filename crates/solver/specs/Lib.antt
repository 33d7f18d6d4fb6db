-- What is right in the datatype solver: what it marks and records, and the rules of a full check (lib.rs of shinri-dt).
pub mod State
pub mod Records
pub mod Rules
pub mod Ring
pub mod Check
pub mod Examples
-- How lent tables hold it, and what the functions on them promise one another.
pub mod Memory
