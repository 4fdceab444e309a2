mod Common
pub mod ConfigValid
pub mod Lasts
pub mod Longer
pub mod Numbered
pub mod PlanValid
pub mod Positions
pub mod ReadValid
pub mod Rising
pub mod Staged
pub mod StepsChanges
pub mod StepsKeep
pub mod StepsLinks
pub mod StepsRoutes
