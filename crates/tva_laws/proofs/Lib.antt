mod Common
pub mod Packets
pub mod Transfers
pub mod Made
pub mod Charging
pub mod Only
pub mod Fates
pub mod Entries
pub mod Along
pub mod Kept
pub mod Runs
pub mod Joining
pub mod Nexts
pub mod There
pub mod Whole
pub mod PathWalks
pub mod Origins
pub mod Passing
pub mod Apart
pub mod Bytes
pub mod Ranges
pub mod Counting
pub mod Above
pub mod Earlier
pub mod FilesKept
pub mod Shown
pub mod Charges
pub mod Seconds
pub mod Pushes
pub mod Stages
pub mod EachMile
pub mod Authorised
pub mod RisingLists
pub mod Dealt
pub mod Hosts
pub mod Given
pub mod Returns
pub mod Counts
pub mod Matching
pub mod Asks
pub mod Comings
pub mod Boots
pub mod Beside
pub mod DealtMiles
pub mod Regular
pub mod ShimsKept
pub mod Falls
pub mod Passage
pub mod Charged
pub mod Steady
pub mod Narrower
pub mod Wholly
pub mod Walkable
pub mod WorkedRuns
pub mod Walking
pub mod Walked
mod Networks
mod Nodes
mod NewRun
mod NewPath
mod Ended
mod SameRun
mod SamePaths
mod DetourNet
mod DetourRun
mod DetourPath
mod LossRun
mod LossPath
