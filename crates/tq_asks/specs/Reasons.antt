-- What contracts see of a reason that a reply keeps.
use Rattle.tq_asks.specs.declared.{ask.NodeRefusal.NodeRefusal, reason.Kept.Kept}
use Rattle.tq_asks.specs.declared.reason.Kept.TheVariants.{Down, AlreadyUp, AlreadyDown, Held, Prepared, NotLocked, BadWrites, NotNewer, NothingHere}
use Rattle.tq_asks.specs.declared.ask.NodeRefusal.TheVariants as refusals

-- the reason that is kept, as the reply tells it
abbrev pub reason_of : Kept → NodeRefusal
reason_of Down = refusals.Down
reason_of AlreadyUp = refusals.AlreadyUp
reason_of AlreadyDown = refusals.AlreadyDown
reason_of (Held by) = refusals.Held by
reason_of Prepared = refusals.Prepared
reason_of (NotLocked file) = refusals.NotLocked file
reason_of BadWrites = refusals.BadWrites
reason_of NotNewer = refusals.NotNewer
reason_of NothingHere = refusals.NothingHere
