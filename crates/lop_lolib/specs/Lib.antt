pub mod Words
pub mod Number
pub mod Units
pub mod Numbers
pub mod Title
pub mod Reading
pub mod OrderReading
pub mod ClampedObject
