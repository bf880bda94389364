use Rattle.std.proofs.Common.{◌≡◌, Option, Some, ℕ, subst, sym}
use Rattle.bl_ct.specs.SecretSearch.{IsFoundBy, Visits}
use Rattle.bl_ct.proofs.SearchVisits.{visits_written}
use Rattle.bl_ct.proofs.search.find_written.Goals as goal

pub find-requires-clause-named : goal.find-requires-clause-named
find-requires-clause-named c = c.requires.named c.in-Some.var c.in-Some.is

pub returns-in_ok-find : goal.returns-in_ok-find
returns-in_ok-find c =
    subst (λ (o : Option ℕ). Visits c.args.names.now (IsFoundBy o c.args.cause) (λ v. o ≡ Some v) c.args.marks.now.items c.find.new.marks.items c.args.queue.now.items c.find.new.queue.items) (sym c.in-Some.is)
    (visits_written c.args.names.now c.in-Some.var c.args.cause c.args.marks.now.items c.find.new.marks.items c.args.queue.now.items c.find.new.queue.items c.in_ok-find.ensures)
