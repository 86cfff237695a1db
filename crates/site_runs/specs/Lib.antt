pub mod Bodies
pub mod Calls
pub mod Copies
pub mod InAttempts
pub mod Programs
pub mod Told
