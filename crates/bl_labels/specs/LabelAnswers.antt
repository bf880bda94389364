-- What is answered of a module's labels.
use Rattle.std.specs.Prelude.{◌≡◌, ◌⊎◌, ℕ, List, [], ◌∷◌, Result, Ok, Err}
use Rattle.bl_wasm.specs.declared.module.Module.{Module}
use Rattle.bl_labels.specs.Entries.{section}
use Rattle.bl_labels.specs.Faults.{judged}
use Rattle.bl_labels.specs.LabelledPlaces.{unlabelled}
use Rattle.bl_labels.specs.declared.entry.Entry.{Entry}
use Rattle.bl_labels.specs.declared.error.LabelError.{LabelError}
use Rattle.bl_labels.specs.declared.error.LabelError.TheVariants.{Malformed, Twice, Memory}
use Rattle.bl_labels.specs.declared.labels.Labels.{Labels}

-- the entries that a section's bytes spell
abbrev pub ReadsSection : List ℕ → Result (List Entry) LabelError → Type 0
ReadsSection bytes (Ok entries) = section entries bytes
ReadsSection bytes (Err Malformed) = (entries : List Entry) → section entries bytes → ⊥
ReadsSection bytes (Err Memory) = Unit {0}
ReadsSection bytes (Err other) = ⊥

-- the labels of entries, or what is wrong with them, but where there is no memory
abbrev pub Judges : Module → List Entry → Result Labels LabelError → Type 0
Judges tree entries (Err Memory) = Unit {0}
Judges tree entries answer = answer ≡ judged tree entries

-- the labels of a section by its bytes: those of the entries that they spell, where they spell any
abbrev pub Answers : Module → List ℕ → Result Labels LabelError → Type 0
Answers tree bytes answer =
    ((entries : List Entry) × section entries bytes × (answer ≡ judged tree entries))
    ⊎ ((answer ≡ Err Malformed) × ((entries : List Entry) → section entries bytes → ⊥))

-- they are given, but where there is no memory
abbrev pub InSection : Module → List ℕ → Result Labels LabelError → Type 0
InSection tree bytes (Err Memory) = Unit {0}
InSection tree bytes answer = Answers tree bytes answer

-- the labels of a module by the bytes of its sections of labels: without one, none; two are one too many
abbrev pub Tells : Module → List (List ℕ) → Result Labels LabelError → Type 0
Tells tree [] answer = answer ≡ Ok unlabelled
Tells tree (bytes ∷ []) answer = InSection tree bytes answer
Tells tree (first ∷ second ∷ more) answer = answer ≡ Err Twice
