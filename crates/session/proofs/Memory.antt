-- Lemmas about the lent tables. Splitting: what a text is before and after the first of a byte; Parsing: numbers; Keys: what a key
-- asks of its numbers; Digits: numbers in decimal; Backward: their digits written from the last on; Printing: texts side by side in a
-- table of bytes; Lengths: how long an answer line is; Questions: what the loops and tests of the questions say; Answering: how a line
-- is refused and accepted; Declaring: the lines before `close`; Making: the lines that make terms; Merging: the lines that merge;
-- Solving: the lines of the solver; Levels: `close`, `push`, `pop`; Lent: the mark counts in memory that is lent; Performing: any
-- line; Running: the run; Keeping: a session kept open.
pub mod Splitting
pub mod Parsing
pub mod Keys
pub mod Digits
pub mod Backward
pub mod Printing
pub mod Lengths
pub mod Questions
pub mod Answering
pub mod Declaring
pub mod Making
pub mod Merging
pub mod Solving
pub mod Levels
pub mod Lent
pub mod Performing
pub mod Running
pub mod Keeping
