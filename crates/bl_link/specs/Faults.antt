-- What a fault of linking names.
use Rattle.std.specs.Prelude.{ℕ, ◌<◌}
use Rattle.bl_link.specs.declared.error.LinkError.{LinkError}
use Rattle.bl_link.specs.declared.error.LinkError.TheVariants.{Unknown, Mismatch, ElementRange, DataRange, Limit, Memory}

-- the part that a fault names is one of so many
abbrev pub NamesPart : ℕ → LinkError → Type 0
NamesPart count (Unknown part import) = part < count
NamesPart count (Mismatch part import) = part < count
NamesPart count (ElementRange part) = part < count
NamesPart count (DataRange part) = part < count
NamesPart count (Limit which value) = Unit {0}
NamesPart count Memory = Unit {0}
