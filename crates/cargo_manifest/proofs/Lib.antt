mod Enabling
mod Entries
mod Lists
mod Names
mod Settling
