-- Modules that were linked over a stub, and the same modules linked over the library that the stub stands for (after WebAssembly
-- 1.0, section 4.5.4).
use Rattle.std.specs.Prelude.{◌≡◌, ℕ, ◌+◌, ◌-◌, ◌<◌, false, nat_lt, if◌then◌else◌, List, ◌++◌, length, Some, Ok, ◌⊎◌}
use Rattle.std.specs.List.{All, Contains}
use Rattle.bl_wasm.specs.Exports.{value_named}
use Rattle.bl_wasm.specs.declared.module.Import.{Import}
use Rattle.bl_wasm.specs.declared.linked.Tree.{Tree}
use Rattle.bl_link.specs.ExportNames.{qualified}
use Rattle.bl_link.specs.Linkable.{AreParts, IsSound}
use Rattle.bl_link.specs.Links.{links}
use Rattle.bl_link.specs.declared.part.Part.{Part}
use Rattle.bl_iface.specs.JoinedProgram.{is_named}
use Rattle.bl_iface.specs.declared.iface.FnIface.{FnIface}
use Rattle.bl_iface.specs.declared.iface.Iface.{Iface}
use Rattle.bl_rename.specs.Renamings.{Numbers}
use Rattle.bl_whole.specs.JoinedTree.{client_numbers, goes_among}
use Rattle.bl_apart.specs.BesideStores.{Exports, Setting}

-- ---- numbers

-- of what the library has, behind the client's; of what the users have, where they stand in the client, behind the stub's
abbrev pub behind : ℕ → ℕ → ℕ → ℕ → ℕ
behind library client stub i = if nat_lt i library then client + i else stub + (i - library)

-- the numbers in the joined tree of what stands in the whole tree
abbrev pub whole_numbers : Tree → Tree → Tree → Numbers
whole_numbers stub client library = record {
  names = record {
    type = behind (length library.types) (length client.types) (length stub.types);
    function = behind (length library.functions) (length client.functions) (length stub.functions);
    global = behind (length library.globals) (length client.globals) (length stub.globals);
  };
  memory = behind (length library.memories) (length client.memories) (length stub.memories);
  table = behind (length library.tables) (length client.tables) (length stub.tables);
}

-- the stub and the library, with the numbers in the joined tree of what stands behind them
abbrev pub setting : Iface → Tree → Tree → Tree → Setting
setting iface stub client library = record { ours = client_numbers iface client library; theirs = whole_numbers stub client library; stub = stub; library = library }

-- ---- what is linked

-- users, a stub of theirs and the library that it stands for, linked in both ways
pub record AreLinked (stubs libraries users : List Part) (stub library client whole : Tree) : Type 0 where
  pub stub_parts : AreParts stubs
  pub library_parts : AreParts libraries
  pub client_parts : AreParts (stubs ++ users)
  pub whole_parts : AreParts (libraries ++ users)
  pub stub_sound : All IsSound stubs
  pub library_sound : All IsSound libraries
  pub users_sound : All IsSound users
  pub stub_is : links stubs ≡ Ok stub
  pub library_is : links libraries ≡ Ok library
  pub client_is : links (stubs ++ users) ≡ Ok client
  pub whole_is : links (libraries ++ users) ≡ Ok whole

-- ---- what users may import and export

-- a function of the stub goes to the library's of the same name
pub record IsRedirected (iface : Iface) (stub client library : Tree) (name : List ℕ) : Type 0 where
  pub function : ℕ
  pub callee : ℕ
  pub stands : value_named name stub.exports ≡ Some function
  pub exported : value_named name library.exports ≡ Some callee
  pub goes : goes_among iface.functions client library function ≡ Some callee

-- an import names a user, or a function of the stub, which goes to the library's of that name
abbrev pub IsGiven : Iface → Tree → Tree → Tree → List Part → Import → Type 0
IsGiven iface stub client library users wanted =
    ((user : Part) × Contains users user × (user.name ≡ wanted.from)) ⊎ IsRedirected iface stub client library (qualified wanted.from wanted.name)

-- what users import of the stub are functions, each of which goes to the library's of the same name
abbrev pub AreUsers : Iface → Tree → Tree → Tree → List Part → Type 0
AreUsers iface stub client library users = All (λ user. All (IsGiven iface stub client library users) user.wasm.imports) users

-- under that name no user exports a function of the stub's
abbrev pub IsOwn : Tree → Tree → List ℕ → Type 0
IsOwn stub client name = (function : ℕ) → Exports client name function → function < length stub.functions → Exports stub name function

-- the library exports a function under the interface's name
abbrev pub IsExported : Tree → FnIface → Type 0
IsExported library one = (function : ℕ) × Exports library one.name function

-- where an export of the joined tree comes from: the whole tree exports a function under its name, or it is the stub's export, and the interface doesn't have its
-- name
abbrev pub HasOrigin : Iface → Tree → Tree → List ℕ → ℕ → Type 0
HasOrigin iface stub whole name number = ((function : ℕ) × Exports whole name function) ⊎ (Exports stub name number × (is_named iface.functions name ≡ false))
