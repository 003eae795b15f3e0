use Rattle.std.proofs.Common.{◌≡◌, drop}
use Rattle.limits.specs.First.{first_of}
use Rattle.limits.proofs.first_of.Given as goal

abbrev pub invariant-loop-number : goal.invariant-loop-number
invariant-loop-number l = first_of (drop l.number-index l.found) ≡ first_of l.found
