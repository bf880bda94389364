use Rattle.std.proofs.Common.{◌≡◌, ◌∙◌, ap, ap₂, map, List, Result, Ok, Err, IfOk}
use Rattle.bl_base.specs.Runs.{MemoryState, memory_of}
use Rattle.bl_memory.specs.Spaces.{patched_all}
use Rattle.bl_memory.proofs.PatchLemmas.{patches_are}
use Rattle.bl_reduce.specs.Outcomes.{first_memory}
use Rattle.bl_machine.proofs.interpreter.first_memories.Goals as goal

told_as : {X E : Type 0} (f : X → List MemoryState) (r : Result X E) (a b : List MemoryState) → IfOk r (λ x. f x ≡ a) → a ≡ b → IfOk r (λ x. f x ≡ b)
told_as f (Ok x) a b e same = e ∙ same
told_as f (Err y) a b e same = tt

pub returns : goal.returns
returns c =
    told_as (map memory_of) c.into_pages.result _ _ c.into_pages.ensures
    (c.patch.ensures ∙ ap₂ patched_all (c.in_ok-memories.ensures ∙ ap (map first_memory) (c.as_slice.ensures ∙ ap (λ tree. tree.memories) c.tree.ensures.same)) c.as_slice-2.ensures
    ∙ patches_are c.args.tree.now.memories c.args.start.now.patches c.tree.ensures.facts.memories c.requires)
