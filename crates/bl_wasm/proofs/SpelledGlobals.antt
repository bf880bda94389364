-- What the spelling of a module says of its globals.
use Rattle.std.proofs.Common.{ℕ, ◌≤◌, inl, inr, List, [], ◌∷◌, length, length-append, ap, arith}
use Rattle.bl_leb.specs.Grammar.{Spellings}
use Rattle.bl_wasm.specs.Values.{each}
use Rattle.bl_wasm.specs.Sections.{global_entry, vec_section}
use Rattle.bl_wasm.specs.Modules.{◌▷◌}
use Rattle.bl_wasm.specs.declared.module.CustomSection.{CustomSection}
use Rattle.bl_wasm.specs.declared.module.DefinedGlobal.{DefinedGlobal}

-- ---- spellings of several, one after another

each_length : {A : Type 0} (B : A → Spellings) → ((x : A) (bytes : List ℕ) → B x bytes → 1 ≤ length bytes) → (xs : List A) (bytes : List ℕ) → each B xs bytes → length xs ≤ length bytes
each_length B some [] bytes h = omega arith
each_length B some (x ∷ xs) bytes h = omega (arith, some x h.front h.first, each_length B some xs h.rest h.second, ap length h.whole, length-append h.front h.rest)

-- ---- a section of several

pub section_length : {A : Type 0} (id : ℕ) (B : A → Spellings) → ((x : A) (bytes : List ℕ) → B x bytes → 1 ≤ length bytes) → (xs : List A) (bytes : List ℕ) → vec_section id B xs bytes → length xs ≤ length bytes
section_length id B some xs bytes (inl h) =
    let contents = h.second.spelled in
    omega (
      arith,
      each_length B some xs contents.rest contents.second,
      ap length contents.whole,
      length-append contents.front contents.rest,
      ap length h.second.whole,
      length-append h.second.size h.second.contents,
      ap length h.whole,
      length-append h.front h.rest,
    )
section_length id B some xs bytes (inr none) = omega (arith, ap length none.0)

-- ---- the sections of a module

-- a section, and what is behind it
pub record Stands (Section : Spellings) (Behind : List CustomSection → Spellings) (whole : ℕ) : Type 0 where
  pub section : List ℕ
  pub spelled : Section section
  pub within : length section ≤ whole
  pub customs : List CustomSection
  pub rest : List ℕ
  pub behind : Behind customs rest
  pub left : length rest ≤ whole

pub stands : {Section : Spellings} {Behind : List CustomSection → Spellings} (customs : List CustomSection) (bytes : List ℕ) (whole : ℕ) → length bytes ≤ whole → (Section ▷ Behind) customs bytes → Stands Section Behind whole
stands customs bytes whole most h =
    let s = h.spelled in
    let lengths : (length s.second.front ≤ whole) × (length s.second.rest ≤ whole) = (
      omega (arith, most, ap length s.whole, length-append s.front s.rest, ap length s.second.whole, length-append s.second.front s.second.rest),
      omega (arith, most, ap length s.whole, length-append s.front s.rest, ap length s.second.whole, length-append s.second.front s.second.rest),
    ) in
    record {
      section = s.second.front;
      spelled = s.second.first;
      within = lengths.0;
      customs = h.after;
      rest = s.second.rest;
      behind = s.second.second;
      left = lengths.1;
    }

-- ---- globals

pub global_spelled : (global : DefinedGlobal) (bytes : List ℕ) → global_entry global bytes → 1 ≤ length bytes
global_spelled global bytes h =
    let last = h.second.1 in
    omega (arith, ap length h.whole, length-append h.front h.rest, ap length last.whole, length-append last.front last.rest, ap length last.second)
