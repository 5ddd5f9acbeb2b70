pub mod Test
pub mod Lists
pub mod Text
