-- Bytes of memories: what is written over them, and numbers that are loaded from them and stored in them.
use Rattle.std.specs.Prelude.{ℕ, ◌+◌, List, ◌++◌, length, take, drop}
use Rattle.bl_base.specs.Bytes.{number_of, bytes_of}
use Rattle.bl_ops.specs.Access.{extended, narrowed, width_of}
use Rattle.bl_ops.specs.declared.access.AccessKind.{AccessKind}

-- bytes written over others from a place on; past their end they are dropped
abbrev pub overlay : ℕ → List ℕ → List ℕ → List ℕ
overlay from new space = take (length space) (take from space ++ new ++ drop (from + length new) space)

-- what a load takes from a place on; bytes past the space are 0
abbrev pub loaded : AccessKind → List ℕ → ℕ → ℕ
loaded kind space from = extended kind (number_of (take (width_of kind) (drop from space)))

-- the space with a value stored from a place on
abbrev pub stored : AccessKind → ℕ → ℕ → List ℕ → List ℕ
stored kind from value space = overlay from (bytes_of (width_of kind) (narrowed kind value)) space
