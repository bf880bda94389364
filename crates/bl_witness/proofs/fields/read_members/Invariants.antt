use Rattle.std.proofs.Common.{◌≡◌, ◌≤◌, ℕ, length}
use Rattle.json.specs.Json.{members, value}
use Rattle.serde_json.specs.Data.{Members, no_members}
use Rattle.serde_json.specs.Read.{converted, of_members}
use Rattle.bl_witness.proofs.fields.read_members.Given as goal

abbrev pub invariant-members : goal.invariant-members
invariant-members g l =
    (n : ℕ) × (length l.reader ≤ n) × (ms : Members)
    × (converted (λ found. of_members found no_members) (members (value l.depth) (length l.initial.reader) l.initial.reader) ≡ converted (λ found. of_members found ms) (members (value l.depth) n l.reader))
    × (length l.reader ≤ length l.initial.reader) × g.F.Fields.are ms l.fields

abbrev pub decreases-members : goal.decreases-members
decreases-members g l = length l.reader
