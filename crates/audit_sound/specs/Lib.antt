pub mod RightJournal
