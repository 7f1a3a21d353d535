pub mod EndLine
