-- Lemmas about the lent tables. TableStores, WorkStores, SplitStores, RingStores: the laws of stores at each table; Flags: sets of terms
-- as flags; Signs: the three records in one list; Frames: what stores in some regions leave; Announcing: a mark and its block;
-- Roles: the kind of a term's mark, and the applications of the definition; Parts: a part of a table at once.
pub mod TableStores
pub mod WorkStores
pub mod SplitStores
pub mod RingStores
pub mod Flags
pub mod Signs
pub mod Frames
pub mod Announcing
pub mod Roles
pub mod Parts
-- Registering: an empty table, the registry; Collecting: collection; Entries: the entries of the records; Recording: one more;
-- Levels: push and pop.
pub mod Registering
pub mod Collecting
pub mod Entries
pub mod Recording
pub mod Levels
-- Working: the work table of a check; Beginning: a check begins; AppNumbers: the marked applications by their numbers; Blocks: a short
-- work table, and the constructor of a class by either; MarksOnly: the solver's marks without a work table.
pub mod Working
pub mod Beginning
pub mod AppNumbers
pub mod Blocks
pub mod MarksOnly
-- NoRooms: what the exit of a `?` returns; Growing: what a table that grows at its end keeps; Unfitting: what does not fit does not fit
-- later; Minting: terms made and marked, lemmas handed out; Splits: the answer table of a split; Trying: a rule that is tried for each of a list.
pub mod NoRooms
pub mod Growing
pub mod Unfitting
pub mod Minting
pub mod Splits
pub mod Trying
-- The rules. Asking: the loop over the list of entries; ConstructorClash, Clashing, Owning: the three clashes; Disequalities: unequal
-- terms; Asserting: assert; Selected, Injecting: injectivity; Chains, Collapsing, TesterLemmas, Once, TestsOnce: collapse and the tester
-- lemma; Instantiating: guarded instantiation; LowestAsking, Splitting: exhaustiveness and unknown.
pub mod Asking
pub mod ConstructorClash
pub mod Clashing
pub mod Owning
pub mod Disequalities
pub mod Asserting
pub mod Selected
pub mod Injecting
pub mod Chains
pub mod Collapsing
pub mod TesterLemmas
pub mod Once
pub mod TestsOnce
pub mod Instantiating
pub mod LowestAsking
pub mod Splitting
-- The ring. Resuming: the definition's walk step by step; Rings: the walk's table; RingSteps, RingWalks: its steps and loops; RingLeaves:
-- the conflict.
pub mod Resuming
pub mod Rings
pub mod RingSteps
pub mod RingWalks
pub mod RingLeaves
-- Checking: a whole check; Watching: one where no constructor application is marked and no tester was asserted.
pub mod Checking
pub mod Watching
