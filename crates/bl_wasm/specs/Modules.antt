-- Modules in the binary format (WebAssembly 1.0, section 5.5.15).
use Rattle.std.specs.Prelude.{◌≡◌, ℕ, ◌++◌, List, [], ◌∷◌, length}
use Rattle.bl_leb.specs.Grammar.{Spellings, ◌⨾◌, exactly}
use Rattle.bl_wasm.specs.Values.{each}
use Rattle.bl_wasm.specs.Sections.{custom_section, type_section, import_section, function_section, table_section, memory_section, global_section, export_section, start_section, element_section, code_section, data_section}
use Rattle.bl_wasm.specs.declared.module.CustomSection.{CustomSection}
use Rattle.bl_wasm.specs.declared.module.Module.{Module}

infixr 50 ◌▷◌
-- magic
abbrev pub magic : Spellings
magic = exactly (0x00 ∷ 0x61 ∷ 0x73 ∷ 0x6D ∷ [])

-- version
abbrev pub version : Spellings
version = exactly (0x01 ∷ 0x00 ∷ 0x00 ∷ 0x00 ∷ [])

-- customsec*, a section, and then what follows it; the custom sections are those before the section and those behind it
pub record ◌▷◌ (Section : Spellings) (Behind : List CustomSection → Spellings) (customs : List CustomSection)
    (bytes : List ℕ) : Type 0 where
  pub before : List CustomSection
  pub after : List CustomSection
  pub all : customs ≡ before ++ after
  pub spelled : (each custom_section before ⨾ Section ⨾ Behind after) bytes

-- the sections in their order, with those custom sections among them
abbrev pub sections : Module → List CustomSection → Spellings
sections tree =
    type_section tree.types
    ▷ import_section tree.imports
    ▷ function_section tree.functions
    ▷ table_section tree.tables
    ▷ memory_section tree.memories
    ▷ global_section tree.globals
    ▷ export_section tree.exports
    ▷ start_section tree.start
    ▷ element_section tree.elements
    ▷ code_section tree.bodies
    ▷ data_section tree.segments
    ▷ each custom_section

-- module: the bytes spell the tree; each function has its code
abbrev pub Spells : List ℕ → Module → Type 0
Spells bytes tree = (length tree.functions ≡ length tree.bodies) × (magic ⨾ version ⨾ sections tree tree.customs) bytes
