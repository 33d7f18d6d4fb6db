-- Memory: lemmas about the lent tables.
pub mod Memory
-- KeptRuns: calls one after another are answered as by the run, and demand 3 about them. It rests on Memory.
pub mod KeptRuns
