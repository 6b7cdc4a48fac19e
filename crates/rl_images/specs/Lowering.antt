-- An image that lowering adds records to: what holds of what a computation gives (Gives), that the image keeps what it had (Grows,
-- and GrowsTo for whole computations), the record that was added last (NewRecords); that each step of lowering only adds, and stops for a
-- limit alone (Adds, AddsLower); that the lowered image is the original's records and then the new ones (Followed), and the last
-- statement of a transformed body (LastBare).
pub mod Gives
pub mod Grows
pub mod GrowsTo
pub mod NewRecords
pub mod Adds
pub mod AddsLower
pub mod Followed
pub mod LastBare
