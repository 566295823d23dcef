-- Exit statuses. The numbers are this project's own rule.
use Rattle.std.specs.Prelude.{ℕ, ◌≡◌}
use Rattle.statuses.specs.declared.status.Status.{Status}
use Rattle.statuses.specs.declared.status.Status.TheVariants.{Done, Usage, NoFile, Refused, ReadFault, WriteFault, NoMemory}

-- the number of each status
abbrev pub number_of_status : Status → ℕ
number_of_status Done = 0
number_of_status Usage = 2
number_of_status (NoFile name) = 3
number_of_status (Refused why) = 4
number_of_status ReadFault = 5
number_of_status WriteFault = 6
number_of_status NoMemory = 7

-- an exit status is the number of a status of which this holds
abbrev pub Exits : (exit : ℕ) → (Status → Type 0) → Type 0
Exits exit holds = (status : Status) × holds status × (exit ≡ number_of_status status)
