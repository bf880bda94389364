use Rattle.std.proofs.Common.{◌≡◌, ◌≤◌, ◌∙◌, ap, arith, length, sym}
use Rattle.std.specs.List.{fold}
use Rattle.std.proofs.lemmas.List.{at_drop_all}
use Rattle.bl_program.specs.Outcomes.{first_memory, with_row}
use Rattle.bl_seq.proofs.InitialMachine.{first_length}
use Rattle.bl_seq.proofs.opening.first_memory.Goals as goal

pub of-requires : goal.of-requires
of-requires c =
    let rows = c.args.memory.now.rows in
    let le : length rows ≤ c.loop-row.row-index = omega (arith, ap length c.as_slice-row-items.ensures) in
    let whole : c.loop-row.space ≡ (first_memory c.args.memory.now).bytes = sym (at_drop_all (λ l. fold with_row c.loop-row.space l) rows c.loop-row.row-index le) ∙ c.loop-row.invariant in
    ap length whole ∙ first_length c.args.memory.now
