pub mod Strides
pub mod MadeTexts
pub mod MadeLines
pub mod MadeVertices
pub mod MadeEdges
pub mod MadeGraphs
