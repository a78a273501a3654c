pub mod Childing
