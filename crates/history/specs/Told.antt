-- What a call's answer tells.
use Rattle.std.specs.Prelude.{ℕ, Ok, Err, Result}
use Rattle.faults.specs.declared.StationFault.{StationFault}
use Rattle.history.specs.Events.{Told, done, number, refused}

-- a number, or the fault
abbrev pub number_told : Result ℕ StationFault → Told
number_told (Ok n) = number n
number_told (Err f) = refused f

-- that it was done, or the fault
abbrev pub done_told : Result (Unit {0}) StationFault → Told
done_told (Ok u) = done
done_told (Err f) = refused f
