-- The engine's table. EngineStores: the laws of stores at its regions; Log: merges and argument pairs; Walks: up the classes and up the
-- forest; PairIndex: the index of argument pairs; SoundTables: when another table is sound; Clearing: an empty table; Turning: a way
-- turned; Merging: the steps of one merge; Joining: labels; Undoing: merges taken back.
pub mod EngineStores
pub mod Log
pub mod Walks
pub mod PairIndex
pub mod SoundTables
pub mod Clearing
pub mod Turning
pub mod Merging
pub mod Joining
pub mod Undoing
-- Explanations. Leaves: the answer table; Marks: pairs expanded; Explaining: the steps of an explanation.
pub mod Filling
pub mod Leaves
pub mod Marks
pub mod Explaining
-- The registry's table. RegistryWords: what its words say of the registrations; RegistryStores: an empty registry, one more registration.
pub mod RegistryWords
pub mod RegistryStores
