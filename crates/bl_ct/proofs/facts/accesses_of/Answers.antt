use Rattle.std.proofs.Common.{[], length, sym, ap, subst, arith}
use Rattle.std.specs.Prelude.{option_map}
use Rattle.bl_base.specs.declared.number.Var.{Var}
use Rattle.bl_program.specs.declared.command.Command.{Command}
use Rattle.bl_ct.specs.Facts.{Gathers, LoadFits, StoreFits}
use Rattle.bl_ct.proofs.DeclaredLists.{load_step, store_step}
use Rattle.bl_ct.proofs.GatheredLists.{Below, gathers_begin, gathers_end}
use Rattle.bl_ct.proofs.facts.accesses_of.Goals as goal

pub loop-at-init : goal.loop-at-init
loop-at-init c =
    let program = c.args.parts.now in
    record {
      loads = subst (Gathers (Below program.commands (LoadFits program) 0) []) (sym c.new-loads.ensures) (gathers_begin program.commands (LoadFits program) []);
      stores = subst (Gathers (Below program.commands (StoreFits program) 0) []) (sym c.new-stores.ensures) (gathers_begin program.commands (StoreFits program) []);
    }

pub loop-at-preserved : goal.loop-at-preserved
loop-at-preserved c =
    let program = c.args.parts.now in
    let loop = c.loop-at in
    let items = c.as_slice-command-items in
    record {
      loads = load_step program items.result.now items.ensures loop.at _ c.loop-at-test.true
          c.taken.result loop.loads c.push_load.new.loads c.taken.ensures c.in_ok-push_load.ensures loop.invariant.loads;
      stores = store_step program items.result.now items.ensures loop.at _ c.loop-at-test.true
          (option_map (λ (var : Var). var.0) c.given.result) loop.stores c.push_store.new.stores c.given.ensures c.in_ok-push_store.ensures
          loop.invariant.stores;
    }

pub returns-clause-loads : goal.returns-clause-loads
returns-clause-loads c =
    let low = c.loop-at-test.false in
    let all = ap (length {A = Command}) c.as_slice-command-items.ensures in
    gathers_end c.args.parts.now.commands (LoadFits c.args.parts.now) c.loop-at.at [] c.loop-at.loads (omega arith) c.loop-at.invariant.loads

pub returns-clause-stores : goal.returns-clause-stores
returns-clause-stores c =
    let low = c.loop-at-test.false in
    let all = ap (length {A = Command}) c.as_slice-command-items.ensures in
    gathers_end c.args.parts.now.commands (StoreFits c.args.parts.now) c.loop-at.at [] c.loop-at.stores (omega arith) c.loop-at.invariant.stores
