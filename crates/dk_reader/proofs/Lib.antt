pub mod Places
pub mod First
pub mod Within
pub mod Spread
pub mod Copies
pub mod Sizes
mod Wholes
mod Stars
mod Printed
mod Readable
pub mod Says
mod TextReads
pub mod TableEntries
pub mod SoundLists
pub mod SoundSteps
pub mod SoundKeywords
pub mod SoundUnits
pub mod SoundReading
pub mod SoundPoints
pub mod SoundValues
pub mod SoundLabels
pub mod SoundInterface
pub mod SoundFiles
pub mod SoundMethod
pub mod SoundLengths
pub mod SoundCases
pub mod SoundMethods
pub mod Sound
pub mod Checking
mod WorkedStudies
