-- Laws of the definition. Members: lists; Classes: equality in the list of merges; Forest: ways and paths; Sizes: how large classes
-- are and how many merges there can be; Explain: what an explanation cites and forces; UnionFind: parents and roots; Ages: why
-- explaining ends.
pub mod Members
pub mod Classes
pub mod Forest
pub mod Sizes
pub mod Explain
pub mod UnionFind
pub mod Ages
-- Lemmas about the lent tables.
pub mod Memory
