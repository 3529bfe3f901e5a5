mod Refills
