pub mod NamesHanded
pub mod TextsRead
pub mod FilesCreated
pub mod CutNames
pub mod FilesInTurn
