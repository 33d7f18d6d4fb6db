-- What is right in the session: reading a line, the questions, the answers, the run and what it promises; and the claim over whole
-- scripts and about the run; a session kept open, and what the library says of itself.
pub mod Text
pub mod Line
pub mod Answer
pub mod Session
pub mod Run
pub mod Promise
pub mod Examples
pub mod History
pub mod Claim
pub mod RunClaim
pub mod Kept
pub mod Library
-- How lent tables hold it, and what the functions on them promise one another.
pub mod Memory
