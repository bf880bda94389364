use Rattle.std.proofs.Common.{◌≡◌, ◌<◌, ◌+◌, ◌∙◌, ap, sym, subst, map, drop, length, get_or, arith}
use Rattle.std.specs.List.{fold}
use Rattle.bl_base.specs.Bytes.{patched}
use Rattle.bl_base.proofs.Lists.{zip_length}
use Rattle.bl_program.specs.Outcomes.{first_memory}
use Rattle.bl_seq.specs.InitialMemories.{IsSized, AreSized}
use Rattle.bl_seq.proofs.InitialMachine.{sized_first, inside_at, sized_patched, patch_next}
use Rattle.bl_seq.proofs.opening.first_contents.Goals as goal

pub loop-patch-init : goal.loop-patch-init
loop-patch-init c =
    let are = c.in_ok-memories.ensures ∙ ap (λ memories. map first_memory memories) c.as_slice.ensures in
    record {
      all = ap (λ states. fold patched states c.args.start.now.patches) are;
      sized = subst (AreSized c.args.parts.now.memories) (sym are) (sized_first c.args.parts.now.memories);
    }

pub patch_memory-requires : goal.patch_memory-requires
patch_memory-requires c =
    let is : c.patch-item.result ≡ get_or c.args.start.now.patches c.loop-patch.patch-index c.patch-item.result = cc in
    let lt : c.loop-patch.patch-index < length c.args.start.now.patches = omega (arith, ap length c.as_slice-patch-items.ensures) in
    inside_at c.args.parts.now.memories c.loop-patch.memories.items c.args.start.now.patches c.loop-patch.patch-index c.patch-item.result
    c.loop-patch.invariant.sized c.requires lt is

pub loop-patch-preserved : goal.loop-patch-preserved
loop-patch-preserved c =
    let is : c.patch-item.result ≡ get_or c.args.start.now.patches c.loop-patch.patch-index c.patch-item.result = cc in
    let lt : c.loop-patch.patch-index < length c.args.start.now.patches = omega (arith, ap length c.as_slice-patch-items.ensures) in
    record {
      all = ap (λ states. fold patched states (drop (c.loop-patch.patch-index + 1) c.args.start.now.patches)) c.patch_memory.ensures
          ∙ patch_next c.loop-patch.memories.items c.args.start.now.patches c.loop-patch.patch-index c.patch-item.result lt is ∙ c.loop-patch.invariant.all;
      sized = subst (AreSized c.args.parts.now.memories) (sym c.patch_memory.ensures)
          (sized_patched c.args.parts.now.memories c.loop-patch.memories.items c.patch-item.result c.loop-patch.invariant.sized
          (inside_at c.args.parts.now.memories c.loop-patch.memories.items c.args.start.now.patches c.loop-patch.patch-index c.patch-item.result
          c.loop-patch.invariant.sized c.requires lt is));
    }

pub returns-clause-count : goal.returns-clause-count
returns-clause-count c = zip_length IsSized c.args.parts.now.memories c.loop-patch.memories.items c.loop-patch.invariant.sized
