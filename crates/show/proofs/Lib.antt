-- Laws of the definitions that the contracts of the test programs' library cite.
mod Laws
