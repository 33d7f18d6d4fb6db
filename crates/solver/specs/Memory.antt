-- Kinds: the kinds of marks; Table: the solver's table, the state that the three tables mean, and when they fit together; Work: the work table of a check;
-- Answer: the answers of a check, and what a rule promises; Making: what making a term and handing out a lemma promise; Checks: what a
-- check promises.
pub mod Kinds
pub mod Table
pub mod Work
pub mod Answer
pub mod Making
pub mod Checks
-- What the functions promise one another: Recording: an empty table, the registry, collection; Levels: the records by levels;
-- Testing, Asserting: testers and `assert`; Disequalities: unequal terms; ConstructorClash, Injecting, Collapse, Instantiation,
-- Splitting, Walking: the rules.
pub mod Recording
pub mod Levels
pub mod Testing
pub mod Disequalities
pub mod Asserting
pub mod ConstructorClash
pub mod Injecting
pub mod Collapse
pub mod Instantiation
pub mod Splitting
pub mod Walking
