use Rattle.std.proofs.Common.{ℕ, length, sym, subst, ap, ◌∙◌, map}
use Rattle.std.specs.Prelude.{◌↔◌, IsTrue}
use Rattle.std.specs.List.{slice_index_or}
use Rattle.bl_graph.specs.SecretChains.{IsSecretChain}
use Rattle.bl_graph.specs.Secrets.{Demands}
use Rattle.bl_graph.proofs.ChainExclusion.{chain_not}
use Rattle.bl_ct.specs.declared.search.Step.{Step}
use Rattle.bl_ct.specs.SecretSearch.{AreEnds, Searched, AreJustified, mark_of}
use Rattle.bl_ct.proofs.CtVerdicts.{are_secrets, demanded_exact, leaks, steps_small}
use Rattle.bl_ct.proofs.KnownRanges.{demanded_in, names_few, names_rise, secret_in, secrets_in_range}
use Rattle.bl_ct.proofs.ReadRows.{elem}
use Rattle.bl_ct.proofs.SearchVisits.{step_found}
use Rattle.bl_ct.proofs.verdict.judge.Goals as goal
use Rattle.bl_ct.proofs.verdict.judge.Goals.{In_ok-demanded}

pub marked-requires-clause-rise : goal.marked-requires-clause-rise
marked-requires-clause-rise c = names_rise c.args.known.now c.requires

pub marked-requires-clause-few : goal.marked-requires-clause-few
marked-requires-clause-few c = names_few c.args.known.now c.requires

pub marked-requires-clause-named : goal.marked-requires-clause-named
marked-requires-clause-named c = λ k d lt.
    demanded_in c.args.known.now c.requires (slice_index_or c.as_slice.result.now k d)
    (elem c.as_slice.result.now c.args.known.now.facts.now.demanded c.as_slice.ensures k d lt)

pub ends_of-requires-clause-is : goal.ends_of-requires-clause-is
ends_of-requires-clause-is c = c.requires

exact : (c : In_ok-demanded) → (x : ℕ) → IsTrue (mark_of c.args.known.now.names.now c.in_ok-demanded.demanded.items x) ↔ Demands c.args.known.now.program.now x
exact c =
    demanded_exact c.args.known.now.program.now c.args.known.now.facts.now c.requires.facts c.args.known.now.names.now c.in_ok-demanded.demanded.items c.as_slice.result.now c.as_slice.ensures c.in_ok-demanded.ensures.exact

pub ends_of-requires-clause-exact : goal.ends_of-requires-clause-exact
ends_of-requires-clause-exact c = rw c.deref.ensures.value (exact (goal.at.ends_of-requires-clause-exact c).In_ok-demanded)

pub secret_variables-requires : goal.secret_variables-requires
secret_variables-requires c = c.requires

pub first_leak-requires-clause-named : goal.first_leak-requires-clause-named
first_leak-requires-clause-named c = λ k d lt.
    let step : Step = slice_index_or c.deref-2.result.now k d in
    let searched : Searched c.args.known.now.program.now c.in_ok-queue.queue.items = c.in_ok-queue.ensures in
    secret_in c.args.known.now c.requires step.var
    ((searched.exact step.var).0 (step_found c.in_ok-queue.queue.items step (elem c.deref-2.result.now c.in_ok-queue.queue.items c.deref-2.ensures.value k d lt)))

pub first_leak-requires-clause-ends : goal.first_leak-requires-clause-ends
first_leak-requires-clause-ends c =
    let table : AreEnds c.args.known.now.program.now c.args.known.now.names.now c.in_ok-ends.ends.items = c.in_ok-ends.ensures in
    record { rise = names_rise c.args.known.now c.requires; places = ap length c.deref-3.ensures.value ∙ table.places }

pub first_leak-requires-clause-demanded : goal.first_leak-requires-clause-demanded
first_leak-requires-clause-demanded c =
    record { rise = names_rise c.args.known.now c.requires; places = ap length c.deref-4.ensures.value ∙ c.in_ok-demanded.ensures.places }

pub chain_to-requires-clause-stands : goal.chain_to-requires-clause-stands
chain_to-requires-clause-stands c =
    let searched : Searched c.args.known.now.program.now c.in_ok-queue.queue.items = c.in_ok-queue.ensures in
    subst (AreJustified c.args.known.now.program.now) (sym c.deref-in-Some.ensures.value) searched.sound

pub chain_to-requires-clause-leak : goal.chain_to-requires-clause-leak
chain_to-requires-clause-leak c =
    rw c.deref-in-Some.ensures.value
    (leaks c.args.known.now.program.now (secrets_in_range c.args.known.now.program.now c.requires.is_program c.requires.rules) c.args.known.now.names.now c.in_ok-demanded.demanded.items
    c.in_ok-queue.queue.items c.in_ok-ends.ends.items c.in_ok-queue.ensures c.in_ok-ends.ensures (exact (goal.at.chain_to-requires-clause-leak c).In_ok-demanded) c.in-Some.leak
    (rw (c.deref-2.ensures.value, c.deref-3.ensures.value, c.deref-4.ensures.value, c.in-Some.is) at c.first_leak.ensures))

pub returns-in-Some : goal.returns-in-Some
returns-in-Some c =
    let chain = c.in_ok-chain-in-Some.chain in
    let is : IsSecretChain c.args.known.now.program.now chain = c.in_ok-chain-in-Some.ensures in
    (is, λ constant. chain_not c.args.known.now.program.now constant.0 constant.1 chain.origin (map (λ s. s.0) chain.through) chain.end.0 is)

pub returns : goal.returns
returns c =
    are_secrets c.args.known.now.program.now (secrets_in_range c.args.known.now.program.now c.requires.is_program c.requires.rules) c.args.known.now.names.now c.in_ok-demanded.demanded.items
    c.in_ok-queue.queue.items c.in_ok-ends.ends.items c.in_ok-queue.ensures c.in_ok-ends.ensures (exact (goal.at.returns c).In_ok-demanded)
    (rw (c.deref-2.ensures.value, c.deref-3.ensures.value, c.deref-4.ensures.value, c.in-None.is) at c.first_leak.ensures) (steps_small c.args.known.now c.requires c.in_ok-queue.queue.items c.in_ok-queue.ensures)
