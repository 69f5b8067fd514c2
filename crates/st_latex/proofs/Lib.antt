mod FieldTexts
mod Nodes
