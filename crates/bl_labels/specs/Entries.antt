-- How a section of labels is spelled behind its name.
use Rattle.std.specs.Prelude.{ℕ, nat_eq, ◌&&◌, ◌||◌, Bool, true, false, List, IsTrue}
use Rattle.std.specs.List.{list_all}
use Rattle.bl_leb.specs.Grammar.{Spellings, ◌⨾◌, byte}
use Rattle.bl_wasm.specs.Values.{u32, vec}
use Rattle.bl_labels.specs.declared.entry.Entry.{Entry}
use Rattle.bl_labels.specs.declared.entry.Entry.TheVariants.{SecretParam, SecretGlobal, SecretMemory, PublicResult, PublicGlobal}
use Rattle.bl_labels.specs.declared.labels.Place.{Place}

-- the byte that an entry begins with
abbrev pub entry_code : Entry → ℕ
entry_code (SecretParam param) = 0x00
entry_code (SecretGlobal global) = 0x01
entry_code (SecretMemory memory) = 0x02
entry_code (PublicResult found) = 0x03
entry_code (PublicGlobal global) = 0x04

-- a function, and one of its parameters or results
abbrev pub place : Place → Spellings
place these = u32 these.function ⨾ u32 these.index

-- what it names
abbrev pub named : Entry → Spellings
named (SecretParam param) = place param
named (SecretGlobal global) = u32 global
named (SecretMemory memory) = u32 memory
named (PublicResult found) = place found
named (PublicGlobal global) = u32 global

abbrev pub entry : Entry → Spellings
entry one = byte (entry_code one) ⨾ named one

-- whether an entry declares something secret; the others demand that it stays public
abbrev pub is_secret : Entry → Bool
is_secret (SecretParam param) = true
is_secret (SecretGlobal global) = true
is_secret (SecretMemory memory) = true
is_secret (PublicResult found) = false
is_secret (PublicGlobal global) = false

-- whether a version has those entries: version 1 has no demands, and version 2 has all entries
abbrev pub has : ℕ → List Entry → Bool
has version entries = nat_eq version 2 || (nat_eq version 1 && list_all is_secret entries)

-- a section: the byte of a version that has the entries, and a vector of them
pub record section (entries : List Entry) (bytes : List ℕ) : Type 0 where
  pub version : ℕ
  pub known : IsTrue (has version entries)
  pub spelled : (byte version ⨾ vec entry entries) bytes
