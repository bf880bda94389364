-- The source of a joined program: one tree of a client's and a library's, in which the client's functions of the interface's names are
-- the library's (after WebAssembly 1.0, section 4.5.4).
use Rattle.std.specs.Prelude.{ℕ, ◌+◌, false, not, nat_eq, if◌then◌else◌, List, [], ◌∷◌, ◌++◌, length, map, Option, None, option_map, unwrap_or}
use Rattle.std.specs.List.{filter}
use Rattle.bl_wasm.specs.Exports.{Pairs, value_named}
use Rattle.bl_wasm.specs.IndexMaps.{Names}
use Rattle.bl_wasm.specs.declared.linked.Tree.{Tree}
use Rattle.bl_rename.specs.Renamings.{Numbers, function_by, slots_by}
use Rattle.bl_iface.specs.JoinedProgram.{is_named}
use Rattle.bl_iface.specs.declared.iface.FnIface.{FnIface}
use Rattle.bl_iface.specs.declared.iface.Iface.{Iface}

-- a client's function goes to the library's of the first name that stands for it
abbrev pub goes_among : List FnIface → Tree → Tree → ℕ → Option ℕ
goes_among [] client library function = None
goes_among (one ∷ others) client library function =
    if unwrap_or (option_map (nat_eq function) (value_named one.name client.exports)) false
    then value_named one.name library.exports
    else goes_among others client library function

-- ---- new numbers

-- names, and the numbers of memories and tables behind so many
abbrev pub behind : Names → ℕ → ℕ → Numbers
behind names memories tables = record { names = names; memory = λ m. memories + m; table = λ t. tables + t }

-- a client keeps its numbers, but for the functions that go to the library
abbrev pub client_names : Iface → Tree → Tree → Names
client_names iface client library = record {
  type = λ i. i;
  function = λ f. unwrap_or (option_map (λ g. length client.functions + g) (goes_among iface.functions client library f)) f;
  global = λ x. x;
}

abbrev pub client_numbers : Iface → Tree → Tree → Numbers
client_numbers iface client library = behind (client_names iface client library) 0 0

-- a library stands behind the client
abbrev pub library_names : Tree → Names
library_names client = record {
  type = λ i. length client.types + i;
  function = λ f. length client.functions + f;
  global = λ x. length client.globals + x;
}

abbrev pub library_numbers : Tree → Numbers
library_numbers client = behind (library_names client) (length client.memories) (length client.tables)

-- ---- the whole

-- the client's exports that the interface doesn't name
abbrev pub kept_in : Iface → Pairs → Pairs
kept_in iface exports = filter (λ pair. not (is_named iface.functions pair.0)) exports

-- an export that is kept names the client's own function, also where that one's calls go to the library
abbrev pub joined_tree : Tree → Tree → Iface → Tree
joined_tree client library iface =
    let ours = client_numbers iface client library in
    let theirs = library_numbers client in
    record {
      types = client.types ++ library.types;
      functions = map (function_by ours) client.functions ++ map (function_by theirs) library.functions;
      globals = client.globals ++ library.globals;
      memories = client.memories ++ library.memories;
      tables = map (slots_by ours) client.tables ++ map (slots_by theirs) library.tables;
      exports = kept_in iface client.exports ++ map (λ pair. (pair.0, length client.functions + pair.1)) library.exports;
    }
