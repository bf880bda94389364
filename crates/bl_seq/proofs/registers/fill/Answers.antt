use Rattle.std.proofs.Common.{◌≤◌, ◌∙◌, ◌-◌, ◌%◌, ap, arith, length, sym}
use Rattle.std.specs.Prelude.{◌+◌}
use Rattle.std.proofs.lemmas.List.{length-append}
use Rattle.bl_seq.specs.RegisterTrees.{cell_of, number_at, register_at}
use Rattle.bl_seq.specs.Windows.{seen}
use Rattle.bl_seq.specs.declared.registers.Window.{Window}
use Rattle.bl_seq.proofs.WindowLemmas.{filled_more}
use Rattle.bl_seq.proofs.registers.fill.Goals as goal

pub loop-cell-preserved : goal.loop-cell-preserved
loop-cell-preserved c =
    let w : Window = c.loop-cell.window in
    let low : length w.leaf ≤ cell_of c.args.x = omega (arith, c.loop-cell.invariant.1) in
    let number_is = c.at-number.ensures in
    let next = c.in_ok-push.ensures.ok in (
      c.loop-cell.invariant.0,
      (ap length next ∙ length-append w.leaf _ ∙ ap (λ n. n + 1) c.loop-cell.invariant.1),
      (λ d v.
          ap (λ l. register_at (seen c.args.pages.now (record { depth = w.depth; page = w.page; leaf = l })) d v) next
          ∙ filled_more c.args.pages.now w c.args.x c.at-number.result d v c.loop-cell.invariant.0 low
          (number_is ∙ ap (λ n. number_at c.args.pages.now w.depth (c.args.x - c.args.x % 512 + n)) (sym c.loop-cell.invariant.1)) ∙ c.loop-cell.invariant.2 d v),
    )
