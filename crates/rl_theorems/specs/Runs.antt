-- A run is spent exactly when the next charge would pass the budget (Budget); another account of the texts that keeps their bytes changes
-- no fold (FoldsTexts), no report (ProvesTexts), no report's text (MessageTexts) and no run (Texts, TextRuns).
pub mod Budget
pub mod Texts
pub mod TextRuns
pub mod FoldsTexts
pub mod ProvesTexts
pub mod MessageTexts
