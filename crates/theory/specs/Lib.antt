-- What is right in equality: which terms are in one class, why, and which variable stands for which atom.
pub mod Types
pub mod EqEngine
pub mod Atom
-- All these definitions by one name, for proofs by computation.
pub mod Unfolding
pub mod Examples
-- How lent tables hold it, and what the functions on them promise one another.
pub mod Memory
