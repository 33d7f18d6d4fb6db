-- Laws of the solver's definitions. Basics: options and the shared list functions; Compared: ids; Terms: term tables and what `mk_app`
-- makes; Signature: a constructor's tester and selectors; Values: the value of a term in a reading; Apps: terms by their role, and
-- their values; Walk: the ring walk; Clash: conflicts; NoApps: a check where no constructor application is marked; Clear: clashes are
-- found first; Moves: what a rule does to a state, and what an answer owes; Lemmas: splits; Answers: a whole check; Collection: marks;
-- Repeats: rules that are tried once for a class; Marking: what the rules mark and hand out.
pub mod Basics
pub mod Compared
pub mod Terms
pub mod Signature
pub mod Values
pub mod Apps
pub mod Walk
pub mod Clash
pub mod NoApps
pub mod Clear
pub mod Moves
pub mod Lemmas
pub mod Answers
pub mod Collection
pub mod Repeats
pub mod Marking
-- Memory: lemmas about the lent tables.
pub mod Memory
