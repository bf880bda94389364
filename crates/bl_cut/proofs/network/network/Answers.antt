use Rattle.std.proofs.Common.{◌+◌, ◌++◌, ◌<◌, ◌^◌, ◌∙◌, ℕ, ap, arith, sym, subst, length, map}
use Rattle.std.specs.List.{All, Contains}
use Rattle.std.specs.Prelude.{◌↔◌}
use Rattle.bl_program.specs.Sites.{IsSite}
use Rattle.bl_program.specs.declared.definitions.ProgramParts.{ProgramParts}
use Rattle.bl_graph.specs.Graphs.{use_of}
use Rattle.bl_graph.specs.Names.{place_of}
use Rattle.bl_graph.specs.Ranges.{commands}
use Rattle.bl_graph.proofs.NameLemmas.{few_names}
use Rattle.bl_cut.specs.Network.{Begins, write_arc, read_arc, sink_node, var_node}
use Rattle.bl_cut.proofs.NetworkLemmas.{made_network, write_nodes, read_names, read_nodes, sink_numbers, var_nodes, write_sites, write_places, each_writes}
use Rattle.bl_cut.proofs.network.network.Goals as goal

pub len-requires : goal.len-requires
len-requires c = let few = few_names c.args.program.now c.args.names.now c.ranges-2.ensures c.requires.names in omega arith

pub overflow_add-nodes : goal.overflow_add-nodes
overflow_add-nodes c =
    let few = few_names c.args.program.now c.args.names.now c.ranges-2.ensures c.requires.names in
    let count = c.len-commands.ensures ∙ ap (λ (p : ProgramParts). commands p) (c.parts.ensures.same ∙ c.program.ensures.same) in
    let long = c.len.ensures in
    omega arith

pub push_writes-requires-clause-has : goal.push_writes-requires-clause-has
push_writes-requires-clause-has c =
    let count = c.len-commands.ensures ∙ ap (λ (p : ProgramParts). commands p) (c.parts.ensures.same ∙ c.program.ensures.same) in
    subst (λ l. All (λ w. Contains c.args.names.now w.var.0 × (c.len-commands.result + place_of c.args.names.now w.var.0 < 2 ^ 32)) l) (sym c.as_slice.ensures)
    (write_nodes c.args.program.now c.args.graph.now c.requires.graph c.args.names.now c.requires.names c.ranges-2.ensures c.len-commands.result count)

pub push_reads-requires-clause-has : goal.push_reads-requires-clause-has
push_reads-requires-clause-has c =
    let count = c.len-commands.ensures ∙ ap (λ (p : ProgramParts). commands p) (c.parts.ensures.same ∙ c.program.ensures.same) in
    subst (λ l. All (λ w. Contains c.args.names.now w.var.0 × (c.len-commands.result + place_of c.args.names.now w.var.0 < 2 ^ 32)) l) (sym c.as_slice-2.ensures)
    (read_nodes c.args.program.now c.args.graph.now c.requires.graph c.args.names.now c.requires.names c.ranges-2.ensures c.len-commands.result count)

pub node_weights-requires-clause-sites : goal.node_weights-requires-clause-sites
node_weights-requires-clause-sites c =
    let count = c.len-commands.ensures ∙ ap (λ (p : ProgramParts). commands p) (c.parts.ensures.same ∙ c.program.ensures.same) in
    subst (λ l. All (λ w. IsSite c.args.program.now w.at.0) l) (sym c.as_slice-3.ensures)
    (write_sites c.args.program.now c.args.graph.now c.requires.graph c.args.names.now c.requires.names c.ranges-2.ensures c.len-commands.result count)

pub node_weights-requires-clause-within : goal.node_weights-requires-clause-within
node_weights-requires-clause-within c =
    let count = c.len-commands.ensures ∙ ap (λ (p : ProgramParts). commands p) (c.parts.ensures.same ∙ c.program.ensures.same) in
    let nodes = ap (λ n. c.len-commands.result + n) c.len.ensures in
    subst (λ l. All (λ w. w.at.0 < c.len-commands.result + c.len.result) l) (sym c.as_slice-3.ensures)
    (write_places c.args.program.now c.args.graph.now c.requires.graph c.args.names.now c.requires.names c.ranges-2.ensures c.len-commands.result count
    (c.len-commands.result + c.len.result) nodes)

pub node_weights-requires-clause-all : goal.node_weights-requires-clause-all
node_weights-requires-clause-all c =
    subst (λ l. (s : ℕ) → IsSite c.args.program.now s → (x : ℕ) × Contains l (use_of s x)) (sym c.as_slice-3.ensures)
    (each_writes c.args.program.now c.args.graph.now c.requires.graph c.args.names.now c.requires.names)

pub start_nodes-requires-clause-has : goal.start_nodes-requires-clause-has
start_nodes-requires-clause-has c =
    let count = c.len-commands.ensures ∙ ap (λ (p : ProgramParts). commands p) (c.parts.ensures.same ∙ c.program.ensures.same) in
    var_nodes c.args.program.now c.args.graph.now c.requires.graph c.args.names.now c.requires.names c.ranges-2.ensures c.len-commands.result count c.args.transient.now c.requires.transient

pub end_nodes-requires-clause-has : goal.end_nodes-requires-clause-has
end_nodes-requires-clause-has c =
    let count = c.len-commands.ensures ∙ ap (λ (p : ProgramParts). commands p) (c.parts.ensures.same ∙ c.program.ensures.same) in
    subst (λ l. All (λ w. Contains c.args.names.now w.var.0 × (c.len-commands.result + place_of c.args.names.now w.var.0 < 2 ^ 32)) l) (sym c.as_slice-4.ensures)
    (sink_numbers c.args.program.now c.args.graph.now c.requires.graph c.args.names.now c.requires.names c.ranges-2.ensures c.len-commands.result count)

pub end_nodes-requires-clause-more : goal.end_nodes-requires-clause-more
end_nodes-requires-clause-more c =
    let count = c.len-commands.ensures ∙ ap (λ (p : ProgramParts). commands p) (c.parts.ensures.same ∙ c.program.ensures.same) in
    var_nodes c.args.program.now c.args.graph.now c.requires.graph c.args.names.now c.requires.names c.ranges-2.ensures c.len-commands.result count c.args.stable.now c.requires.stable

pub returns : goal.returns
returns c =
    let n : ℕ = c.len-commands.result in
    let count = c.len-commands.ensures ∙ ap (λ (p : ProgramParts). commands p) (c.parts.ensures.same ∙ c.program.ensures.same) in
    let reads = ap (map (read_arc c.args.names.now n)) c.as_slice-2.ensures in
    let writes = ap (map (write_arc c.args.names.now n)) c.as_slice.ensures in
    made_network c.args.program.now c.args.graph.now c.requires.graph c.args.names.now c.requires.names c.args.transient.now c.args.stable.now c.requires.transient c.requires.stable
    n c.of.result c.of-2.result c.of-3.result c.of-4.result count
    (ap length c.of.ensures ∙ c.in_ok-weights.ensures.places ∙ ap (λ k. n + k) c.len.ensures)
    (λ v. ap (λ l. Rattle.bl_cut.specs.Network.noted l v) c.of.ensures ∙ c.in_ok-weights.ensures.weights v)
    (c.of-2.ensures ∙ (c.in_ok-push_reads.ensures ∙ (ap (λ l. l ++ map (read_arc c.args.names.now n) c.as_slice-2.result.now) (c.in_ok-push_writes.ensures ∙ ap (λ l. l ++ map (write_arc c.args.names.now n) c.as_slice.result.now) c.in_ok-arcs.ensures.items)
    ∙ (ap (λ l. map (write_arc c.args.names.now n) c.as_slice.result.now ++ l) reads ∙ ap (λ l. l ++ map (read_arc c.args.names.now n) c.args.graph.now.reads) writes))))
    (subst (λ l. (s : ℕ) → Contains l s ↔ Begins c.args.names.now n c.args.graph.now c.args.transient.now s) (sym c.of-3.ensures) c.in_ok-starts.ensures)
    (c.of-4.ensures ∙ (c.in_ok-ends.ensures ∙ ap (λ l. map (sink_node c.args.names.now n) l ++ map (var_node c.args.names.now n) c.args.stable.now) c.as_slice-4.ensures))

pub start_nodes-requires-clause-reads : goal.start_nodes-requires-clause-reads
start_nodes-requires-clause-reads c = read_names c.args.program.now c.args.graph.now c.requires.graph c.args.names.now c.requires.names

pub start_nodes-requires-clause-few : goal.start_nodes-requires-clause-few
start_nodes-requires-clause-few c = let few = few_names c.args.program.now c.args.names.now c.ranges-2.ensures c.requires.names in omega arith
