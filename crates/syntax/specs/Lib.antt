pub mod Trees
pub mod Grammar
pub mod Machine
