-- Lines: where a line of the script ends; Numbers: what reading numbers promises; Commands: what the code's commands mean; Answers: what
-- its answers mean, and what printing one promises; Questions: what the questions ask of what a line names; Sessions: the session that
-- the three tables mean, when they fit together, and what answering a line promises; Running: what the functions of the run promise;
-- Kept: how four tables hold a session between calls, and what the functions of a call promise.
pub mod Lines
pub mod Numbers
pub mod Commands
pub mod Answers
pub mod Questions
pub mod Sessions
pub mod Running
pub mod Kept
