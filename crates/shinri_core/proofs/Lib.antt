-- Laws of the definition. Lists: the list functions; Symbols: the symbols of a constructor and of a datatype; Inhabited: question 10 finds
-- the datatypes that have a finite tree; Readings: every signature that `close` accepts has a reading.
pub mod Lists
pub mod Symbols
pub mod Inhabited
pub mod Readings
-- Memory: lemmas about the lent table; Kit: the library names that proofs of core and theory use.
pub mod Memory
pub mod Kit
