use Rattle.std.proofs.Common.{◌≡◌, ◌+◌, ◌*◌, ◌≤◌, ℕ, length}
use Rattle.std.specs.Prelude.{⊤}
use Rattle.json.specs.Json.{members, value}
use Rattle.serde_json.specs.Data.{Members, no_members}
use Rattle.serde_json.specs.Read.{converted, of_members}
use Rattle.bl_witness.proofs.Arrays.{ItemsLeft}
use Rattle.bl_witness.proofs.pass.+pass.Given as goal

abbrev pub decreases-pass : goal.decreases-pass
decreases-pass l = 3 * l.depth + 1

abbrev pub decreases-pass_items : goal.decreases-pass_items
decreases-pass_items l = 3 * l.depth + 2

abbrev pub decreases-pass_members : goal.decreases-pass_members
decreases-pass_members l = 3 * l.depth + 2

abbrev pub decreases-pass_rest : goal.decreases-pass_rest
decreases-pass_rest l = 3 * l.depth

abbrev pub invariant-pass_items-items : goal.invariant-pass_items-items
invariant-pass_items-items l =
    ItemsLeft {B = ⊤} (λ _. tt) (λ _. tt) (value l.depth) l.initial.reader l.reader × (length l.reader ≤ length l.initial.reader)

abbrev pub decreases-pass_items-items : goal.decreases-pass_items-items
decreases-pass_items-items l = length l.reader

abbrev pub invariant-pass_members-members : goal.invariant-pass_members-members
invariant-pass_members-members l =
    (n : ℕ) × (length l.reader ≤ n) × (ms : Members)
    × (converted (λ found. of_members found no_members) (members (value l.depth) (length l.initial.reader) l.initial.reader) ≡ converted (λ found. of_members found ms) (members (value l.depth) n l.reader))
    × (length l.reader ≤ length l.initial.reader)

abbrev pub decreases-pass_members-members : goal.decreases-pass_members-members
decreases-pass_members-members l = length l.reader
