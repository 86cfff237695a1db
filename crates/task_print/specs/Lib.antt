pub mod Printed
pub mod Unplaced
