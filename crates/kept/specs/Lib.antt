-- What is right in a session kept open, with the theorems about calls one after another; and what the library says of itself.
pub mod Kept
pub mod Library
-- How lent tables hold a session between calls.
pub mod Memory
