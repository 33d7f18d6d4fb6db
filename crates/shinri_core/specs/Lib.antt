-- What is right in the lowest layer: numbers of sorts, symbols, terms and literals, and the table of declarations and terms.
pub mod Limits
pub mod Lists
pub mod Ids
pub mod Sort
pub mod Term
pub mod Context
pub mod Formed
pub mod Reading
pub mod Inhabited
-- All these definitions by one name, for proofs by computation.
pub mod Unfolding
-- How a lent table holds it, and what the functions on it promise one another.
pub mod Memory
