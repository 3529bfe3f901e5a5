mod Numbers
mod Places
