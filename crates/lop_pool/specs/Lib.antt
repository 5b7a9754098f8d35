pub mod Events
pub mod Judged
pub mod Holding
pub mod Workers
pub mod Ends
pub mod Marks
