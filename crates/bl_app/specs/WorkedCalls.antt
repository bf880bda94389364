-- Files of a stub, of its user and of the library that the stub stands for, with an interface and three images: all that the law on joined images asks for is so, and
-- the joined image answers as the library does.
use Rattle.std.specs.Prelude.{◌≡◌, ℕ, List, [], ◌∷◌, ◌++◌, Some, codes}
use Rattle.bl_base.specs.Runs.{MemoryState, returned}
use Rattle.bl_base.specs.declared.start.Start.{Start}
use Rattle.bl_wasm.specs.Exports.{value_named}
use Rattle.bl_reduce.specs.Outcomes.{source}
use Rattle.bl_program.specs.Outcomes.{plain}
use Rattle.bl_program.specs.declared.definitions.ProgramParts.{ProgramParts as Program}
use Rattle.bl_iface.specs.declared.iface.Iface.{Iface}
use Rattle.bl_format.specs.Image.{Image}
use Rattle.bl_apart.specs.LinkedApart.{IsOwn}
use Rattle.bl_build.specs.EntryStages.{function_named}
use Rattle.bl_build.specs.InterfaceStages.{IsFileOf}
use Rattle.bl_app.specs.JoinedModules.{AreKept, AreLoaded, Calls, File, KeepTo, Trees}

-- ---- modules

-- (module (func (export "f") (result i32) i32.const 0))
abbrev pub stub_file : File
stub_file = record {
  word = codes "stub/lib.wasm";
  bytes = 0x00 ∷ 0x61 ∷ 0x73 ∷ 0x6D ∷ 0x01 ∷ 0x00 ∷ 0x00 ∷ 0x00
      ∷ 0x01 ∷ 0x05 ∷ 0x01 ∷ 0x60 ∷ 0x00 ∷ 0x01 ∷ 0x7F
      ∷ 0x03 ∷ 0x02 ∷ 0x01 ∷ 0x00
      ∷ 0x07 ∷ 0x05 ∷ 0x01 ∷ 0x01 ∷ 0x66 ∷ 0x00 ∷ 0x00
      ∷ 0x0A ∷ 0x06 ∷ 0x01 ∷ 0x04 ∷ 0x00 ∷ 0x41 ∷ 0x00 ∷ 0x0B ∷ [];
}

-- (module (memory 0 1) (func (export "f") (result i32) i32.const 7))
abbrev pub library_module : File
library_module = record {
  word = codes "lib.wasm";
  bytes = 0x00 ∷ 0x61 ∷ 0x73 ∷ 0x6D ∷ 0x01 ∷ 0x00 ∷ 0x00 ∷ 0x00
      ∷ 0x01 ∷ 0x05 ∷ 0x01 ∷ 0x60 ∷ 0x00 ∷ 0x01 ∷ 0x7F
      ∷ 0x03 ∷ 0x02 ∷ 0x01 ∷ 0x00
      ∷ 0x05 ∷ 0x04 ∷ 0x01 ∷ 0x01 ∷ 0x00 ∷ 0x01
      ∷ 0x07 ∷ 0x05 ∷ 0x01 ∷ 0x01 ∷ 0x66 ∷ 0x00 ∷ 0x00
      ∷ 0x0A ∷ 0x06 ∷ 0x01 ∷ 0x04 ∷ 0x00 ∷ 0x41 ∷ 0x07 ∷ 0x0B ∷ [];
}

-- (module (import "lib" "f" (func (result i32))) (func (export "g") (result i32) call 0))
abbrev pub user_file : File
user_file = record {
  word = codes "main.wasm";
  bytes = 0x00 ∷ 0x61 ∷ 0x73 ∷ 0x6D ∷ 0x01 ∷ 0x00 ∷ 0x00 ∷ 0x00
      ∷ 0x01 ∷ 0x05 ∷ 0x01 ∷ 0x60 ∷ 0x00 ∷ 0x01 ∷ 0x7F
      ∷ 0x02 ∷ 0x09 ∷ 0x01 ∷ 0x03 ∷ 0x6C ∷ 0x69 ∷ 0x62 ∷ 0x01 ∷ 0x66 ∷ 0x00 ∷ 0x00
      ∷ 0x03 ∷ 0x02 ∷ 0x01 ∷ 0x00
      ∷ 0x07 ∷ 0x05 ∷ 0x01 ∷ 0x01 ∷ 0x67 ∷ 0x00 ∷ 0x01
      ∷ 0x0A ∷ 0x06 ∷ 0x01 ∷ 0x04 ∷ 0x00 ∷ 0x10 ∷ 0x00 ∷ 0x0B ∷ [];
}

-- ---- the interface, and images

abbrev pub interface_file : File
interface_file = record { word = codes "lib.iface"; bytes = codes "function - s lib/f" ++ 10 ∷ [] }

-- of the user over the stub: f, whose body is a move of 0, and g, which calls f
abbrev pub client_image : File
client_image = record {
  word = codes "client.img";
  bytes = 0x42 ∷ 0x4C ∷ 0x49 ∷ 0x4D ∷ 0x01 ∷ 0x00 ∷ 0x00
      ∷ 0x02 ∷ 0x00 ∷ 0x01 ∷ 0x7F ∷ 0x02 ∷ 0x04 ∷ 0x00 ∷ 0x01 ∷ 0x7F ∷ 0x02 ∷ 0x05
      ∷ 0x02 ∷ 0x05 ∷ 0x6C ∷ 0x69 ∷ 0x62 ∷ 0x2F ∷ 0x66 ∷ 0x00 ∷ 0x06 ∷ 0x6D ∷ 0x61 ∷ 0x69 ∷ 0x6E ∷ 0x2F ∷ 0x67 ∷ 0x01
      ∷ 0x04 ∷ 0x08 ∷ 0x00 ∷ 0x00 ∷ 0x00 ∷ 0x01 ∷ 0x01 ∷ 0x00 ∷ 0x07 ∷ 0x00 ∷ 0x00 ∷ 0x00 ∷ 0x01 ∷ 0x08
      ∷ 0x04 ∷ 0x0C ∷ 0x06 ∷ 0x00 ∷ 0x00 ∷ 0x00 ∷ 0x00 ∷ 0x03 ∷ 0x00 ∷ 0x00 ∷ 0x07 ∷ 0x00 ∷ 0x00 ∷ 0x00 ∷ 0x03 ∷ 0x08 ∷ [];
}

-- of the library: a memory, and f, whose body is a move of 7
abbrev pub library_image : File
library_image = record {
  word = codes "library.img";
  bytes = 0x42 ∷ 0x4C ∷ 0x49 ∷ 0x4D ∷ 0x01 ∷ 0x00 ∷ 0x01 ∷ 0x00 ∷ 0x01 ∷ 0x00 ∷ 0x00
      ∷ 0x01 ∷ 0x00 ∷ 0x01 ∷ 0x7F ∷ 0x02 ∷ 0x04
      ∷ 0x01 ∷ 0x05 ∷ 0x6C ∷ 0x69 ∷ 0x62 ∷ 0x2F ∷ 0x66 ∷ 0x00
      ∷ 0x04 ∷ 0x08 ∷ 0x00 ∷ 0x00 ∷ 0x00 ∷ 0x02 ∷ 0x01 ∷ 0x07 ∷ 0x07 ∷ 0x00 ∷ 0x00 ∷ 0x00 ∷ 0x02 ∷ 0x08 ∷ [];
}

-- of both: g calls the library's f
abbrev pub joined_image : File
joined_image = record {
  word = codes "joined.img";
  bytes = 0x42 ∷ 0x4C ∷ 0x49 ∷ 0x4D ∷ 0x01 ∷ 0x00 ∷ 0x01 ∷ 0x00 ∷ 0x01 ∷ 0x00 ∷ 0x00
      ∷ 0x03 ∷ 0x00 ∷ 0x01 ∷ 0x7F ∷ 0x02 ∷ 0x04 ∷ 0x00 ∷ 0x01 ∷ 0x7F ∷ 0x02 ∷ 0x05 ∷ 0x00 ∷ 0x01 ∷ 0x7F ∷ 0x02 ∷ 0x04
      ∷ 0x02 ∷ 0x06 ∷ 0x6D ∷ 0x61 ∷ 0x69 ∷ 0x6E ∷ 0x2F ∷ 0x67 ∷ 0x01 ∷ 0x05 ∷ 0x6C ∷ 0x69 ∷ 0x62 ∷ 0x2F ∷ 0x66 ∷ 0x02
      ∷ 0x04 ∷ 0x08 ∷ 0x00 ∷ 0x00 ∷ 0x00 ∷ 0x02 ∷ 0x01 ∷ 0x00 ∷ 0x07 ∷ 0x00 ∷ 0x00 ∷ 0x00 ∷ 0x02 ∷ 0x08
      ∷ 0x04 ∷ 0x0C ∷ 0x06 ∷ 0x02 ∷ 0x00 ∷ 0x00 ∷ 0x00 ∷ 0x04 ∷ 0x00 ∷ 0x05 ∷ 0x07 ∷ 0x00 ∷ 0x00 ∷ 0x00 ∷ 0x04 ∷ 0x08
      ∷ 0x04 ∷ 0x11 ∷ 0x00 ∷ 0x00 ∷ 0x00 ∷ 0x06 ∷ 0x01 ∷ 0x07 ∷ 0x07 ∷ 0x00 ∷ 0x00 ∷ 0x00 ∷ 0x06 ∷ 0x08 ∷ [];
}

abbrev pub worked_calls : Calls
worked_calls = record {
  client_iface = interface_file;
  library_iface = interface_file;
  iface = interface_file;
  stubs = stub_file ∷ [];
  users = user_file ∷ [];
  libraries = library_module ∷ [];
  client = client_image;
  library = library_image;
  joined = joined_image;
}

-- ---- what is said

-- without arguments, and with the memories as they are
abbrev pub plain_start : Start
plain_start = record { args = []; patches = [] }

-- what is exported under a name returns these values, with no arguments: in the linked modules, and in the program
pub record Returns (trees : Trees) (program : Program) (name values : List ℕ) : Type 0 where
  pub function : ℕ
  pub number : ℕ
  pub steps : ℕ
  pub commands : ℕ
  pub memories : List MemoryState
  pub states : List MemoryState
  pub stands : value_named name trees.whole.exports ≡ Some function
  pub exported : function_named name program.exports ≡ Some number
  pub linked : source trees.whole function plain_start steps (returned values memories)
  pub joined : plain program number plain_start commands (returned values states)

-- all that the law on joined images asks of calls is so, for an interface, linked trees and a program; and what is exported under a name, which is the users' own,
-- returns these values
pub record AreMet (calls : Calls) (name values : List ℕ) : Type 0 where
  pub iface : Iface
  pub trees : Trees
  pub program : Program
  pub kept : AreKept calls
  pub file : IsFileOf calls.iface.bytes iface
  pub loaded : AreLoaded calls trees
  pub keep : KeepTo calls iface trees
  pub image : Image program calls.joined.bytes
  pub own : IsOwn trees.stub trees.client name
  pub returns : Returns trees program name values
