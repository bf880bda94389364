-- What is observed: when two are the same, and the line of one.
use Rattle.std.specs.Prelude.{ℕ, ◌==◌, ◌&&◌, Bool, false, List, [], ◌∷◌, ◌++◌, codes}
use Rattle.std.specs.Fmt.{decimal}
use Rattle.bl_base.specs.declared.start.Start.{Start}
use Rattle.bl_program.specs.declared.definitions.ProgramParts.{ProgramParts as Program}
use Rattle.bl_rob.specs.declared.directive.Directive.{Directive}
use Rattle.bl_trace.specs.Observations.{guards_text, observation_text}
use Rattle.bl_twin.specs.TwinComparisons.{is_same}
use Rattle.bl_twin.specs.Runs.{IsSideBySideBy}
use Rattle.bl_twin.specs.declared.text.Compared.{Compared}
use Rattle.bl_forward.specs.ForwardMachines.{forward_step}
use Rattle.bl_forward.specs.declared.seen.Seen.{Seen}
use Rattle.bl_forward.specs.declared.seen.Seen.TheVariants.{Plain, Forward}

abbrev pub are_same : Seen → Seen → Bool
are_same (Plain one) (Plain other) = is_same one other
are_same (Plain one) (Forward address guards) = false
are_same (Forward address guards) (Plain other) = false
are_same (Forward address guards) (Forward there others) = (address == there) && (guards == others)

abbrev pub seen_text : Seen → List ℕ
seen_text (Plain observation) = observation_text observation
seen_text (Forward address guards) = codes "forward " ++ decimal address ++ guards_text guards ++ 10 ∷ []

-- whether two starts agree in public, and how what is observed from them compares, where the buffer has room for 32 entries
abbrev pub AreForwardedSideBySide : Program → ℕ → Start → Start → List Directive → Compared → Type 0
AreForwardedSideBySide = IsSideBySideBy are_same seen_text (forward_step 32)
