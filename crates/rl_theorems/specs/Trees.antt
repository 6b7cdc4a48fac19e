-- Records and the trees that they stand for: the relation (Denotes), that it is the tree of the definitions (DenotedTrees), that each
-- expression and each statement of a well-formed image is in it (DenotingExpressions, DenotingStatements), and what a function leads to
-- (FunctionTrees); what the trees of an image depend on (SameTrees); the names in a tree (NamesIn); items with their texts mapped
-- (MappedItems); an index or none (Optionals).
pub mod MappedItems
pub mod Denotes
pub mod DenotedTrees
pub mod DenotingExpressions
pub mod DenotingStatements
pub mod FunctionTrees
pub mod SameTrees
pub mod NamesIn
