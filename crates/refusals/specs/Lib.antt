pub mod HostRefusal
pub mod Texts
