pub mod Parameter
pub mod Alarm
pub mod Field
pub mod Valid
pub mod Event
