-- What contracts see of a list that is owned or shared.
use Rattle.std.specs.Prelude.{List}
use Rattle.tq_evidence.specs.declared.shareable.{Form.Form, Form.TheVariants.{Owned, Shared}}

-- the items, wherever they stand
abbrev pub items_of : {T : Type 0} → Form T → List T
items_of (Owned items) = items.items
items_of (Shared items) = items
