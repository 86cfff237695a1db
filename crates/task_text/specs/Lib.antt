pub mod Forms
pub mod Grammar
pub mod Reading
pub mod ReadingDecl
pub mod ReadingExpr
pub mod ReadingProgram
pub mod ReadingStmt
pub mod Reads
