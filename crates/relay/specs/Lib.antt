pub mod Record
pub mod Calls
pub mod CallInput
pub mod Page
pub mod Lists
