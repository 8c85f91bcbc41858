pub mod Check
pub mod Held
pub mod Rules
pub mod Laws
