mod Looks
mod Among
mod Appended
mod Tested
