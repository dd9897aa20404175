-- What the contracts of an object of words on one thread cite: the machine and its steps.
pub mod Machines
