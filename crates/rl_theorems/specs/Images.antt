-- The image that lowering makes is well formed. What was there goes on fitting (KeptFields, KeptHeights); an image is sound where it is
-- well formed but for the number of its bytes (SoundImages); what new records may refer to and hold (NewReferences, NewFields,
-- ProperTexts); computations under which an image stays sound (KeepsSound), and that each part of lowering is one (SoundCopies,
-- SoundGuards, SoundTransforms, SoundBodies) on a function of a well-formed image (Refinements, FunctionReady); the whole (LoweredWellFormed).
pub mod KeptFields
pub mod KeptHeights
pub mod SoundImages
pub mod NewReferences
pub mod NewFields
pub mod ProperTexts
pub mod KeepsSound
pub mod SoundCopies
pub mod SoundGuards
pub mod SoundTransforms
pub mod SoundBodies
pub mod Refinements
pub mod FunctionReady
pub mod LoweredWellFormed
pub mod LoweredWellFormedExample
