-- Lemmas about the lent table. Stores: what stands in a table after words of a region were written; Counted: lists of n entries;
-- Searching: loops that stop at the first number that passes a test.
pub mod Stores
pub mod Counted
pub mod Searching
-- Regions: the laws of stores at this layer's table; Codes: numbers for operations, roles and packed sorts; Views: what a table means,
-- by its words; Index: the newest term of a bucket; Keeping: what stores leave of sorts, symbols and terms, and when the table stays
-- sound.
pub mod Regions
pub mod Codes
pub mod Views
pub mod Index
pub mod Keeping
-- Terms: an application looked up, one more term, and making a term; Declarations: an empty table, terms given back, one more sort, one
-- more symbol, a function, a constructor; Constructors: a datatype's constructors, and the tests of question 10; Rounds: its rounds.
pub mod Terms
pub mod Declarations
pub mod Constructors
pub mod Rounds
