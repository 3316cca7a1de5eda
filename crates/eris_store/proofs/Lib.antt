mod AsIfAlone
mod Entries
mod Noted
