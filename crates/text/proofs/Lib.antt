pub mod RoundTrip
pub mod Printed
pub mod Answered
pub mod One
