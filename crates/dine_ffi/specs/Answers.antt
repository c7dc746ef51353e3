-- What calls return: a number from 0 on is an answer, and a number below 0 says why there is none.
use Rattle.std.specs.Prelude.{◌≡◌, ◌+◌, ◌<◌, ◌≤◌, ◌^◌, ℕ, ℤ, pos, negsuc}
use Rattle.dine_rules.specs.Breach as rule
use Rattle.dine_rules.specs.declared.breach.Breach.{Breach}
use Rattle.dine_rules.specs.declared.phase.Phase.{Phase}
use Rattle.dine_wire.specs.declared.wire_fault.WireFault.{WireFault}
use Rattle.dine_wire.specs.declared.wire_fault.WireFault.TheVariants as fault
use Rattle.dine_rules.specs.declared.phase.Phase.TheVariants.{Thinking, Hungry, Eating}

-- done, with nothing to report
abbrev pub done : ℤ
done = pos 0

-- the handle is closed
abbrev pub closed : ℤ
closed = negsuc 0

-- the handle is open, and what it holds is of another kind
abbrev pub other_kind : ℤ
other_kind = negsuc 1

-- the rules do not allow it now
abbrev pub not_now : ℤ
not_now = negsuc 2

-- there is no such site, edge, place or kind
abbrev pub no_such : ℤ
no_such = negsuc 3

-- an allocation failed
abbrev pub memory : ℤ
memory = negsuc 4

-- the memory for the answer is too small
abbrev pub small : ℤ
small = negsuc 5

-- the site eats
abbrev pub eating : ℤ
eating = negsuc 6

-- the handle is open already
abbrev pub open_already : ℤ
open_already = negsuc 7

-- the letter is of an edge that the site does not have
abbrev pub other_edge : ℤ
other_edge = negsuc 13

-- the site can do nothing before a letter arrives
abbrev pub waits : ℤ
waits = negsuc 15

-- the site has done all, and put and taken all letters
abbrev pub finished : ℤ
finished = negsuc 16

-- what is returned of bytes that are refused
abbrev pub wire_status : WireFault → ℤ
wire_status fault.Length = negsuc 10
wire_status fault.Kind = negsuc 11
wire_status fault.Unlawful = negsuc 12
wire_status fault.Memory = memory
wire_status fault.OtherRun = negsuc 14

-- the rules do not allow the letter: -20, less the number of its first breach
abbrev pub breach_status : Breach → ℤ
breach_status breach = negsuc (19 + rule.number_of breach)

-- the call refused: it returned a number below 0
abbrev pub IsRefused : ℤ → Type 0
IsRefused (pos n) = ⊥
IsRefused (negsuc n) = Unit {0}

-- the call is done and then `Done` holds, or it refused and then `Refused` holds
abbrev pub IsDoneOr : ℤ → Type 0 → Type 0 → Type 0
IsDoneOr (pos n) Done Refused = Done
IsDoneOr (negsuc n) Done Refused = Refused

-- the call returns 0 and then `Done` holds, or it refused and then `Refused` holds
abbrev pub IsOkOr : ℤ → Type 0 → Type 0 → Type 0
IsOkOr result Done Refused = IsDoneOr result ((result ≡ done) × Done) Refused

-- the call returns this number, if an answer can be so large
abbrev pub Reports : ℤ → ℕ → Type 0
Reports result n = n < 2 ^ 63 → result ≡ pos n

-- the number of a phase
abbrev pub number_of : Phase → ℕ
number_of Thinking = 0
number_of Hungry = 1
number_of Eating = 2

-- if the number is below the limit then P; else what it names is not there
abbrev pub IsWithin : ℕ → ℕ → ℤ → Type 0 → Type 0
IsWithin n limit result P = (n < limit → P) × (limit ≤ n → result ≡ no_such)
