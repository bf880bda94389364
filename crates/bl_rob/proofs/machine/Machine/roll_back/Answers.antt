use Rattle.std.proofs.Common.{◌≡◌, ◌+◌, ◌∙◌, List, ap, arith, get_or, refl, set, slice_get, suc, sym, take}
use Rattle.bl_rob.specs.CallResults.{shown}
use Rattle.bl_rob.specs.Machines.{State, at_position}
use Rattle.bl_rob.specs.declared.entry.Entry.{Entry}
use Rattle.bl_rob.specs.declared.entry.Work.{Work}
use Rattle.bl_rob.specs.declared.entry.Work.TheVariants.{Guard}
use Rattle.bl_rob.proofs.StepLemmas.{cut_back, guard_at, not_guard, read_cut}
use Rattle.bl_rob.proofs.machine.Machine.roll_back.Goals as goal

pub returns-in-Guard : goal.returns-in-Guard
returns-in-Guard c =
    let s = shown c.args.self.now in
    let n = c.args.n in
    let x = c.index_mut.result.now in
    let next : n + 1 ≡ suc n = omega arith in
    let cut : c.truncate.new.self.items ≡ take (suc n) s.buffer = c.truncate.ensures.items ∙ ap (λ k. take k s.buffer) next in
    let is : x ≡ get_or s.buffer n x = c.index_mut.ensures.value ∙ ap (λ l. get_or l n x) cut ∙ read_cut s.buffer n x c.requires.within in
    let w : x.work ≡ Guard c.in-Guard.cond c.in-Guard.predicted c.in-Guard.other c.in-Guard.chain = sym c.replace-guard.ensures.value ∙ c.in-Guard.is in
    let front = at_position c.in-Guard.other c.in-Guard.chain in
    let put : (List Entry → Work → State) = λ l y. record s { buffer = set l n (record { position = x.position; work = y }); front = front } in
    ap (λ l. put l c.replace-guard.new.dest) cut
    ∙ ap (λ y. put (take (suc n) s.buffer) y) c.replace-guard.ensures.after
    ∙ cut_back n s (slice_get s.buffer n) x c.in-Guard.cond c.in-Guard.predicted c.in-Guard.other c.in-Guard.chain refl c.requires.within is w

pub returns-in_default : goal.returns-in_default
returns-in_default c =
    let s = shown c.args.self.now in
    let n = c.args.n in
    let x = c.index_mut.result.now in
    let next : n + 1 ≡ suc n = omega arith in
    let cut : c.truncate.new.self.items ≡ take (suc n) s.buffer = c.truncate.ensures.items ∙ ap (λ k. take k s.buffer) next in
    let is : x ≡ get_or s.buffer n x = c.index_mut.ensures.value ∙ ap (λ l. get_or l n x) cut ∙ read_cut s.buffer n x c.requires.within in
    absurd (not_guard x.work (guard_at s n (slice_get s.buffer n) x refl c.requires.within is c.requires.guard)
    (λ cond predicted other chain e. c.in_default.not-Guard cond predicted other chain (c.replace-guard.ensures.value ∙ e)))
