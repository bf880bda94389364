-- The exports of a part by their own names.
use Rattle.std.specs.Prelude.{ℕ, List}
use Rattle.bl_wasm.specs.declared.module.Export.{Export}
use Rattle.bl_link.specs.IndexSpaces.{External, Spaces, number, space}

-- an export by its own name
abbrev pub own : Spaces → Export → List ℕ × External
own spaces entry = (entry.name, record { kind = entry.kind; number = number (space spaces entry.kind) entry.index })
