mod Gathering
mod Lists
