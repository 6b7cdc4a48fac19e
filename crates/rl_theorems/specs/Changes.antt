-- What change requests keep of what was there before them. Small constants: the image as it was taken before (SmallConstants), what folded
-- (KeptFolds) and what was reported (KeptReports), and closed examples (SmallConstantsExamples). And what they bring: reports on printed
-- pages (PrintedPages, PageNumbers, PageRoom).
pub mod SmallConstants
pub mod KeptFolds
pub mod KeptReports
pub mod SmallConstantsExamples
pub mod PrintedPages
pub mod PageNumbers
pub mod PageRoom
