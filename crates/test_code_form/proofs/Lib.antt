pub mod PlainTrees
