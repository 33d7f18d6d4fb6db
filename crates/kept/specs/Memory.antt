-- Kept: how four tables hold a session between calls, and what the functions of a call promise.
pub mod Kept
