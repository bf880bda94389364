-- What entries do when they are retired.
use Rattle.std.specs.Prelude.{List, [], ◌∷◌, Option, Some, None}
use Rattle.bl_rob.specs.declared.entry.Entry.{Entry}
use Rattle.bl_rob.specs.declared.entry.Work.{Work}
use Rattle.bl_rob.specs.declared.entry.Work.TheVariants as work
use Rattle.bl_rob.specs.declared.steps.Effect.{Effect}
use Rattle.bl_rob.specs.declared.steps.Effect.TheVariants.{Nothing, Write, Store, Fail}

-- what an entry does when it is retired, where it can be
abbrev pub effect_of : Work → Option Effect
effect_of work.Nop = Some Nothing
effect_of (work.Done to value) = Some (Write to value)
effect_of (work.Ready kind memory offset address value) = Some (Store kind memory offset address value)
effect_of (work.Fail kind) = Some (Fail kind)
effect_of _ = None

-- what the oldest entry does
abbrev pub first_effect : List Entry → Option Effect
first_effect [] = None
first_effect (entry ∷ entries) = effect_of entry.work
