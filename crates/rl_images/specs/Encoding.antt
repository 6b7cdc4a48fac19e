-- The reader accepts the bytes of a well-formed image and no others. From the fields up: bytes at a place (BytesAt), the bytes that a
-- field takes (FieldWidths), the reader's checks of a field (FieldChecks) and of a record (RecordChecks), and that what it goes past
-- fits (CheckedFits); the loop over a section (SectionLoop), what the reader knows at each record (ReaderKnows), the header and the
-- sections; then both ways: Encoded, and Accepted with AcceptedParts.
pub mod BytesAt
pub mod FieldWidths
pub mod FieldChecks
pub mod RecordChecks
pub mod CheckedFits
pub mod SectionLoop
pub mod ReaderKnows
pub mod Header
pub mod Sections
pub mod Encoded
pub mod AcceptedParts
pub mod Accepted
