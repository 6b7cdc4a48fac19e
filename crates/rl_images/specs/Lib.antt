-- Laws of images that the proofs of the code cite. Each part has a head that says what it holds.
-- ---- what reading comes to, on any bytes
pub mod Reading
-- ---- what a well-formed image keeps to
pub mod Images
-- ---- the bytes of a well-formed image are accepted, and no others
pub mod Encoding
-- ---- an image that lowering adds records to
pub mod Lowering
