-- Laws of sessions. Forces: lines in force; Invariant: what ties a session to its accepted lines; Asserted: asserted testers, unequal terms
-- and their records; Truth: merges in a reading; Rings: the claim's ring is the walk's; Causes: why the solver answers so; Steps: the
-- invariant kept; Accepting and Joins: what each kind of accepted line owes the claim; Tables: what each line makes of the table of terms
-- and of the marks; Complete: the records and the marks kept; Claim: demand 3; RunClaim: demand 3 about the run.
pub mod Forces
pub mod Invariant
pub mod Asserted
pub mod Truth
pub mod Rings
pub mod Causes
pub mod Steps
pub mod Accepting
pub mod Joins
pub mod Tables
pub mod Complete
pub mod Claim
pub mod RunClaim
-- Memory: lemmas about the lent tables.
pub mod Memory
-- KeptRuns: calls one after another are answered as by the run, and demand 3 about them. It rests on Memory.
pub mod KeptRuns
