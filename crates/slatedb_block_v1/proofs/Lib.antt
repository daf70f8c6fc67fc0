mod Laws
mod Rows
mod Steps
