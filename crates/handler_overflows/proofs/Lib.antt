pub mod Above
pub mod Called
pub mod Origins
pub mod Raising
pub mod Unwinding
