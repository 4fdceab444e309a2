mod Common
pub mod Valid
pub mod Digits
pub mod FileCounts
pub mod ItemLists
pub mod OneList
pub mod Reading
pub mod RecordsLeft
pub mod RowsThere
pub mod ShimsValid
pub mod RowsValid
