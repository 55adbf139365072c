-- The address answer and the count answer are what `unwrap_or` makes of an answer.
use Rattle.std.specs.Prelude.{ℕ, ◌≡◌, Result, Ok, Err, refl}
use Rattle.std.specs.Result.{result_unwrap_or}
use Rattle.refusals.specs.AnswerNumbers.{no_address, address_of, count_of}
use Rattle.refusals.specs.declared.AllocateRefusal.{AllocateRefusal}
use Rattle.refusals.specs.declared.ListRefusal.{ListRefusal}

pub address_given : (r : Result ℕ AllocateRefusal) → result_unwrap_or r no_address ≡ address_of r
address_given (Ok a) = refl
address_given (Err e) = refl

pub count_given : (r : Result ℕ ListRefusal) → result_unwrap_or r 0 ≡ count_of r
count_given (Ok k) = refl
count_given (Err e) = refl
