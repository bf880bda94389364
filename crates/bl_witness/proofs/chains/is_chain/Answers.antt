use Rattle.std.proofs.Common.{ℕ, List, map, slice_get, subst, sym}
use Rattle.std.specs.Prelude.{IsSomeAnd}
use Rattle.bl_base.specs.declared.number.Pos.{Pos}
use Rattle.bl_program.specs.Sites.{IsLoad, Loads}
use Rattle.bl_graph.specs.Chains.{IsChain}
use Rattle.bl_witness.proofs.ChainLinks.{leads_on, ordered}
use Rattle.bl_witness.proofs.chains.is_chain.Goals as goal

pub leads-requires : goal.leads-requires
leads-requires c = ordered c.args.parts.now c.args.graph.now c.requires

pub returns-then-is_load : goal.returns-then-is_load
returns-then-is_load c =
    let first : ℕ = c.in-Some.first.now.0 in
    let split = c.in-Some.ensures.cases.0 in
    let on = leads_on c.args.parts.now c.args.graph.now c.requires first (map (λ (s : Pos). s.0) c.in-Some.rest.now) c.args.sink.0 in
    let load : IsLoad c.args.parts.now first = subst (λ l. IsSomeAnd (slice_get l first) Loads) c.as_slice.ensures (c.is_load.ensures.0 c.if-is_load.true) in
    let on_chain : List Pos → Type 0 = λ l. IsChain c.args.parts.now (map (λ (s : Pos). s.0) l) c.args.sink.0 in (
      λ h. subst on_chain (sym split) (load, on.0 (c.leads.ensures.0 h)),
      λ chain. c.leads.ensures.1 (on.1 (subst on_chain split chain).1),
    )
