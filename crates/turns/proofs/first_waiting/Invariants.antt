-- From station to station the search stays the same search.
use Rattle.std.proofs.Common.{◌≡◌, ◌<◌, ◌-◌}
use Rattle.turns.specs.States.{stations, first_waiting}
use Rattle.turns.proofs.first_waiting.Given as goal

-- whoever is found from here on is the one to be found
abbrev pub invariant-loop-looked : goal.invariant-loop-looked
invariant-loop-looked l =
    record { inside : l.station < stations; same : first_waiting l.marks l.station (stations - l._looked) ≡ first_waiting l.marks l.from stations }
