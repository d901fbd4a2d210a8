-- What the fields of `Slots` stand for.
use Rattle.gq_slots.specs.declared.slots.Slots.TheInside.{Inside}
use Rattle.gq_slots.specs.Slots.{Slots}

abbrev pub slots_of : Inside → Slots
slots_of i = record { trades = i.trades; own = i.own.items; heaps = i.heaps.items }
