pub mod EntryImage
