-- The reader tells the messages of a stream, however it is cut; what is sent is told; damage stays between its flags; the reader
-- of before refuted.
pub mod Midst
pub mod Split
pub mod Cut
pub mod Held
pub mod Open
pub mod Parts
pub mod Sent
pub mod One
pub mod Before
pub mod Damage
pub mod Example
pub mod Damaged
