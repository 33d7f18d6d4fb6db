-- Replay: what the list of merges says of each node; Table: the engine's table; Answer: the answer table; Registry: the registry's table;
-- Steps, Explaining: what the engine's private functions promise one another.
pub mod Replay
pub mod Table
pub mod Answer
pub mod Steps
pub mod Explaining
pub mod Registry
