-- Keeping: a session kept open.
pub mod Keeping
