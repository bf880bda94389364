use Rattle.std.proofs.Common.{◌≡◌, ◌∙◌, sym, ap, subst, List}
use Rattle.bl_wasm.specs.declared.module.Module.{Module}
use Rattle.bl_link.specs.HasRoom.{HasRoom}
use Rattle.bl_link.specs.Links.{part_of, with_part}
use Rattle.bl_link.specs.IndexSpaces.{External, Spaces, Store, spaces_of}
use Rattle.bl_link.proofs.PartLemmas.{apart_at, given_back, makes_next, makes_segments, room_at}
use Rattle.bl_link.proofs.all_parts.link_module.Goals as goal

-- the spaces by what was given
spaces_are : (store : Store) (wasm : Module) (given read : List External) (spaces : Spaces) → read ≡ given → spaces ≡ spaces_of store wasm read → spaces ≡ spaces_of store wasm given
spaces_are store wasm given read spaces r s = s ∙ ap (spaces_of store wasm) r

pub with_part-requires-clause-room : goal.with_part-requires-clause-room
with_part-requires-clause-room c =
    subst (λ (wasm : Module). HasRoom c.args.store.now.tree (part_of c.args.name.now wasm c.args.marks.now) c.in-Ok-spaces_of.spaces)
    (sym (given_back c.args.wasm.now c.replace-bodies.new.dest c.replace-bodies.result c.replace-bodies.ensures.value))
    (room_at c.args.store.now (part_of c.args.name.now c.args.wasm.now c.args.marks.now) c.args.number c.in-Ok.given c.in-Ok-spaces_of.spaces c.requires c.in-Ok.ensures
    (spaces_are c.args.store.now c.args.wasm.now c.in-Ok.given c.as_slice.result.now c.in-Ok-spaces_of.spaces c.as_slice.ensures c.in-Ok-spaces_of.ensures))

pub with_part-requires-clause-apart : goal.with_part-requires-clause-apart
with_part-requires-clause-apart c =
    apart_at c.args.store.now (part_of c.args.name.now c.args.wasm.now c.args.marks.now) c.args.number c.in-Ok.given c.in-Ok-spaces_of.spaces c.requires c.in-Ok.ensures
    (spaces_are c.args.store.now c.args.wasm.now c.in-Ok.given c.as_slice.result.now c.in-Ok-spaces_of.spaces c.as_slice.ensures c.in-Ok-spaces_of.ensures)

pub returns-in-Ok-with_part : goal.returns-in-Ok-with_part
returns-in-Ok-with_part c =
    let part = part_of c.args.name.now c.args.wasm.now c.args.marks.now in
    let made = makes_segments c.args.store.now c.with_part.new.store c.with_segments.new.store part c.args.number c.in-Ok-spaces_of.spaces c.with_segments.result
    c.as_slice-in-Ok-with_part.result.now c.as_slice-in-Ok-with_part-2.result.now c.as_slice-in-Ok-with_part.ensures c.as_slice-in-Ok-with_part-2.ensures
    (c.in-Ok-with_part.ensures
    ∙ ap (λ (wasm : Module). with_part c.args.store.now (part_of c.args.name.now wasm c.args.marks.now) c.in-Ok-spaces_of.spaces)
    (given_back c.args.wasm.now c.replace-bodies.new.dest c.replace-bodies.result c.replace-bodies.ensures.value))
    c.with_segments.ensures in
    makes_next c.args.store.now part c.args.number c.in-Ok.given c.in-Ok-spaces_of.spaces c.requires c.in-Ok.ensures
    (spaces_are c.args.store.now c.args.wasm.now c.in-Ok.given c.as_slice.result.now c.in-Ok-spaces_of.spaces c.as_slice.ensures c.in-Ok-spaces_of.ensures)
    c.with_segments.new.store c.with_segments.result made
