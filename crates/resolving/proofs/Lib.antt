pub mod Noting
pub mod Classes
pub mod Bodies
pub mod ItemLoop
pub mod WithoutBlocks
