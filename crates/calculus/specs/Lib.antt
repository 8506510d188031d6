-- The calculus, to be read in this order: what there is, what has a type, and what the steps of a run are;
pub mod Syntax
pub mod Rules
pub mod Steps
-- the laws of types;
pub mod Typing
-- the steps that a term needs, and the handles that are live while it runs;
pub mod Need
pub mod Room
-- the laws of single steps, and of whole runs on a machine;
pub mod Laws
pub mod Runs
-- net and peak as the language words them, what they say of a run, and how they are found from the pieces;
pub mod Peak
pub mod Bounds
pub mod Pieces
-- worked listings.
pub mod Examples
