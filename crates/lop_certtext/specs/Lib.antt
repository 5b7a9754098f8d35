pub mod Line
pub mod CutLine
pub mod RecordLine
pub mod Tree
pub mod Certificate
pub mod Answer
pub mod Reading
