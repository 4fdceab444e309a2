mod Common
mod Found
