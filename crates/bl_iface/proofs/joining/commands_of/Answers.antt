use Rattle.std.proofs.Common.{ap, append_assoc, refl, ◌++◌, ◌≡◌, ◌∙◌, drop, map, take}
use Rattle.bl_iface.specs.JoinedProgram.{client_numbers, client_shift, library_numbers, library_shift, renamed}
use Rattle.bl_iface.proofs.MovableLemmas.{all_movable, behind, client_room, library_room}
use Rattle.bl_iface.proofs.NumbersLemmas.{client_are, client_numbered, library_are, library_numbered}
use Rattle.bl_iface.proofs.joining.commands_of.Goals as goal

pub push-requires-clause-numbers : goal.push-requires-clause-numbers
push-requires-clause-numbers c =
    let ours = c.parts-ours.ensures.same ∙ c.program.ensures.same in
    client_are c.args.client.now c.args.library.now c.args.iface.now (rw c.program.ensures.same at c.parts-ours.ensures.facts) (rw c.program-2.ensures.same at c.parts-theirs.ensures.facts)
    c.program.ensures.rules c.program-2.ensures.rules c.requires.can _ ours (c.parts-theirs.ensures.same ∙ c.program-2.ensures.same) (c.library_shift.ensures ∙ ap library_shift ours)
    (rw c.as_slice.ensures (rw (c.parts-ours.ensures.same, c.program.ensures.same) at c.in_ok-our_firsts.ensures))
    (rw c.as_slice-2.ensures (rw (c.parts-theirs.ensures.same, c.program-2.ensures.same) at c.in_ok-their_firsts.ensures)) c.requires.goals

pub push-requires-clause-small : goal.push-requires-clause-small
push-requires-clause-small c =
    let ours = rw c.program.ensures.same at c.parts-ours.ensures.facts in
    let theirs = rw c.program-2.ensures.same at c.parts-theirs.ensures.facts in
    rw (behind c.as_slice-4.result.now, c.as_slice-4.ensures, c.client_shift.ensures, c.parts-ours.ensures.same, c.program.ensures.same, c.parts-theirs.ensures.same, c.program-2.ensures.same)
    (all_movable c.args.client.now (client_shift c.args.library.now) ours c.program.ensures.rules
    (client_room c.args.client.now c.args.library.now c.args.iface.now ours theirs c.program.ensures.rules c.program-2.ensures.rules c.requires.can))

pub push-requires-2-clause-numbers : goal.push-requires-2-clause-numbers
push-requires-2-clause-numbers c =
    let theirs = c.parts-theirs.ensures.same ∙ c.program-2.ensures.same in
    library_are c.args.client.now c.args.library.now c.args.iface.now (rw c.program.ensures.same at c.parts-ours.ensures.facts) (rw c.program-2.ensures.same at c.parts-theirs.ensures.facts)
    c.program.ensures.rules c.program-2.ensures.rules c.requires.can _ theirs (c.parts-ours.ensures.same ∙ c.program.ensures.same) (c.client_shift.ensures ∙ ap client_shift theirs)
    (rw c.as_slice-2.ensures (rw (c.parts-theirs.ensures.same, c.program-2.ensures.same) at c.in_ok-their_firsts.ensures))
    (rw c.as_slice.ensures (rw (c.parts-ours.ensures.same, c.program.ensures.same) at c.in_ok-our_firsts.ensures)) refl

pub push-requires-2-clause-small : goal.push-requires-2-clause-small
push-requires-2-clause-small c =
    let ours = rw c.program.ensures.same at c.parts-ours.ensures.facts in
    let theirs = rw c.program-2.ensures.same at c.parts-theirs.ensures.facts in
    rw (behind c.as_slice-5.result.now, c.as_slice-5.ensures, c.library_shift.ensures, c.parts-theirs.ensures.same, c.program-2.ensures.same, c.parts-ours.ensures.same, c.program.ensures.same)
    (all_movable c.args.library.now (library_shift c.args.client.now) theirs c.program-2.ensures.rules
    (library_room c.args.client.now c.args.library.now c.args.iface.now ours theirs c.program.ensures.rules c.program-2.ensures.rules c.requires.can))

pub returns : goal.returns
returns c =
    let ours = map (renamed (client_numbers c.args.iface.now c.args.client.now c.args.library.now)) (drop 7 c.args.client.now.commands) in
    let theirs = map (renamed (library_numbers c.args.client.now c.args.library.now)) (drop 7 c.args.library.now.commands) in
    let first : c.in_ok-commands.commands ≡ take 7 c.args.client.now.commands =
    rw (c.as_slice-3.ensures, c.parts-ours.ensures.same, c.program.ensures.same) at c.in_ok-commands.ensures in
    let second : c.push.new.to ≡ c.in_ok-commands.commands ++ ours =
    rw (
      behind c.as_slice-4.result.now,
      c.as_slice-4.ensures,
      c.client_shift.ensures,
      c.library_shift.ensures,
      c.parts-ours.ensures.same,
      c.program.ensures.same,
      c.parts-theirs.ensures.same,
      c.program-2.ensures.same,
      client_numbered c.args.client.now c.args.library.now c.args.iface.now c.args.goals.now c.requires.goals,
    ) at c.in_ok-push.ensures in
    let third : c.push-2.new.to ≡ c.push.new.to ++ theirs =
    rw (
      behind c.as_slice-5.result.now,
      c.as_slice-5.ensures,
      c.library_shift.ensures,
      c.client_shift.ensures,
      c.parts-theirs.ensures.same,
      c.program-2.ensures.same,
      c.parts-ours.ensures.same,
      c.program.ensures.same,
      library_numbered c.args.client.now c.args.library.now c.args.iface.now,
    ) at c.in_ok-push-2.ensures in
    third ∙ ap (λ l. l ++ theirs) (second ∙ ap (λ l. l ++ ours) first) ∙ append_assoc (take 7 c.args.client.now.commands) ours theirs
