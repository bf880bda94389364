-- A code section that was read before.
use Rattle.std.specs.Prelude.{ℕ, ◌+◌, List, Option, Some, None}
use Rattle.bl_wasm.specs.Values.{sized, vec}
use Rattle.bl_wasm.specs.Sections.{code_entry}
use Rattle.bl_code.specs.ReaderAnswers.{IsAt}
use Rattle.bl_decode.specs.declared.chain.CodeRead.{CodeRead}

-- what was read is there, behind its id
abbrev pub IsReadOf : List ℕ → Option CodeRead → Type 0
IsReadOf bytes (Some code) = IsAt (λ bodies. sized (vec code_entry bodies)) bytes (code.from + 1) code.end code.bodies
IsReadOf bytes None = Unit {0}
