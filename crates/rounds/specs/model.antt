-- A model of the code: how a round's table is kept. No public contract speaks of it.
pub mod Field
pub mod KeptEntrants
pub mod KeptRows
pub mod Order
pub mod PackedKeys
pub mod Slots
pub mod TableKept
pub mod UpToDate
pub mod ValueRows
