-- Lowering on trees (LowerTrees): a guard runs as its check (LowerGuard), a wrapped return as a checked one (LowerFrame, LowerWrap,
-- LowerBodies), so a lowered function runs as it is read, whatever its temporaries are called (LoweredTo, LoweredRuns).
-- From records to trees: what is made stands for what is meant (MadeTrees; Copied, Guarded, Wrapped, Transformed, Trailing, Desugared),
-- so the function of the lowered image (FinishedImage) is the lowered function (LoweredFunctions), its arguments are still arguments
-- (LoweredArguments), the other functions are as they were (LoweredOthers), and any may be lowered one after another (LoweredInTurn).
pub mod LowerTrees
pub mod LowerGuard
pub mod LowerFrame
pub mod LowerWrap
pub mod LowerBodies
pub mod LoweredTo
pub mod LoweredRuns
pub mod LoweredRunExamples
pub mod MadeTrees
pub mod Copied
pub mod Guarded
pub mod Wrapped
pub mod Transformed
pub mod Trailing
pub mod Desugared
pub mod FinishedImage
pub mod LimitPassed
pub mod LoweredFunctions
pub mod LoweredFunctionsExample
pub mod LoweredArguments
pub mod LoweredOthers
pub mod LoweredInTurn
