-- What a maximum flow in a program's network says, and how its walks are read back.
use Rattle.std.specs.Prelude.{◌-◌, ◌<◌, ◌≤◌, ℕ, List, length, filter, map, nat_lt, slice_index}
use Rattle.std.specs.List.{Contains}
use Rattle.bl_base.specs.declared.number.Pos.{Pos}
use Rattle.bl_program.specs.Sites.{SinkReads}
use Rattle.bl_program.specs.declared.definitions.ProgramParts.{ProgramParts as Program}
use Rattle.bl_flow.specs.MaxFlow.{IsMaxFlow}
use Rattle.bl_flow.specs.declared.network.FlowResult.{FlowResult}
use Rattle.bl_flow.specs.declared.network.Network.{Network}
use Rattle.bl_flow.specs.declared.network.NodePath.{NodePath}
use Rattle.bl_graph.specs.Graphs.{use_of}
use Rattle.bl_graph.specs.Names.{place_of}
use Rattle.bl_graph.specs.declared.certificate.FlowPath.{FlowPath}
use Rattle.bl_graph.specs.declared.facts.Use.{Use}
use Rattle.bl_cut.specs.Network.{IsNetwork}

-- for each variable that a sink reads the position of such a sink
pub record KnowsSinks (program : Program) (names sink_of : List ℕ) : Type 0 where
  pub each : (position x : ℕ) → SinkReads program position x → SinkReads program (slice_index sink_of (place_of names x)) x

-- the sites among the nodes of a walk
abbrev pub sites_in : ℕ → List ℕ → List ℕ
sites_in n nodes = filter (λ v. nat_lt v n) nodes

-- positions by their numbers
abbrev pub positions : List ℕ → List Pos
positions numbers = map (λ s. record { 0 = s }) numbers

-- the variable at the end of a walk
abbrev pub last_var : ℕ → List ℕ → ℕ
last_var n nodes = slice_index nodes (length nodes - 1) - n

-- a walk read back, where a sink is known for each variable at an end
abbrev pub path_of : ℕ → List ℕ → NodePath → FlowPath
path_of n sink_of path = record {
  sites = positions (sites_in n path.nodes);
  sink = record { 0 = slice_index sink_of (last_var n path.nodes) };
  amount = path.amount;
}

-- a walk's last node is that of a variable
pub record EndsAtVar (n vars : ℕ) (nodes : List ℕ) : Type 0 where
  pub some : 0 < length nodes
  pub behind : n ≤ slice_index nodes (length nodes - 1)
  pub within : last_var n nodes < vars

-- for each variable that one of the sinks reads the position of such a one
abbrev pub KnowsIn : List ℕ → List Use → List ℕ → Type 0
KnowsIn names sinks sink_of = (position x : ℕ) → Contains sinks (use_of position x) → Contains sinks (use_of (slice_index sink_of (place_of names x)) x)

-- a maximum flow in the program's network
pub record IsFlowOf (program : Program) (names : List ℕ) (r : FlowResult) : Type 0 where
  pub network : Network
  pub is : IsNetwork program names network
  pub flow : IsMaxFlow network r
