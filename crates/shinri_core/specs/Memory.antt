-- Words: a lent table by its regions; Table: where each part stands and what a table means; Codes: what the code's enums mean.
pub mod Words
pub mod Table
pub mod Codes
