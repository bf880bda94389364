-- The pieces of a function keep the rules as far as they go themselves.
use Rattle.std.proofs.Common.{◌≡◌, ◌≢◌, ℕ, zero, suc, ◌+◌, ◌*◌, ◌<◌, ◌≤◌, List, [], ◌∷◌, ◌++◌, length, reverse, Option, Some, None, slice_get, refl, arith, length-append, inl, inr}
use Rattle.std.specs.Prelude.{option_map}
use Rattle.bl_ops.specs.declared.op.Op.TheVariants as op
use Rattle.bl_wasm.specs.Linked.{IsLinked}
use Rattle.bl_wasm.specs.declared.linked.Tree.{Tree}
use Rattle.bl_program.specs.Layout.{size_of as size_variable}
use Rattle.bl_program.specs.Rules.{IsLocal, Rule8, reach_of}
use Rattle.bl_program.specs.declared.command.Command.{Command}
use Rattle.bl_program.specs.declared.command.Operand.{Operand}
use Rattle.bl_program.specs.declared.command.Operand.TheVariants.{Var, Const}
use Rattle.bl_access.specs.Templates.{shift, variable, jump_to, bounds, growth, chain_from, missed}
use Rattle.bl_emit.specs.Shapes.{Shape, bottom}
use Rattle.bl_emit.specs.Constructs.{reads, pad, moves, Target, taken, first_to, start_of, branched}
use Rattle.bl_lower.specs.Trees.{low_tree}
use Rattle.bl_emit.specs.Numbers.{blocks, shape}
use Rattle.bl_lower.proofs.ConstructExits.{moves_length}
use Rattle.bl_lower.proofs.LawfulCommands.{new_local, Readable, reads_const, reads_own, AllReadable, Goes, Lawful, Simple, set_simple, two_padded, test_simple, jump_simple, moves_simple, outs_simple}
use Rattle.bl_lower.proofs.Pieces.{EachAt, each_map, each_both}
use Rattle.bl_lower.proofs.OperandRanges.{Ranged, AllRanged, ranged_pad}
use Rattle.bl_lower.proofs.Sizes.{padded_length, branch_length}

module _ (tree : Tree) (linked : IsLinked tree) (number : ℕ) (B : ℕ → Type 0) where
  abbrev Mine : Shape
  Mine = shape tree number

  -- ---- pieces

  -- an access behind its test
  pub record Access (start : ℕ) (commands : List Command) : Type 0 where
    pub depth : ℕ
    pub t : ℕ
    pub address : Operand
    pub memory : ℕ
    pub size : ℕ
    pub size_is : size ≡ size_variable (low_tree tree) memory
    pub bytes : ℕ
    pub last : Command
    pub are : commands ≡ bounds size address bytes t start depth ++ last ∷ []
    pub reaches : reach_of last ≡ Some (record { address = address; memory = memory; bytes = bytes })
    pub own : IsLocal (low_tree tree) number t
    pub apart : address ≢ variable t
    pub quiet : Rule8 (low_tree tree) number (suc (suc start)) last

  -- a growth
  pub record Growing (start : ℕ) (commands : List Command) : Type 0 where
    pub depth : ℕ
    pub next : ℕ
    pub delta : Operand
    pub memory : ℕ
    pub size : ℕ
    pub size_is : size ≡ size_variable (low_tree tree) memory
    pub reserve : ℕ
    pub reserved : option_map (λ defined. defined.reserve) (slice_get (low_tree tree).memories memory) ≡ Some reserve
    pub are : commands ≡ growth size reserve delta next (shift 1 next) (shift 2 next) start depth
    pub own_r : IsLocal (low_tree tree) number next
    pub own_t : IsLocal (low_tree tree) number (shift 1 next)
    pub own_v : IsLocal (low_tree tree) number (shift 2 next)
    pub apart_r : delta ≢ variable next
    pub apart_t : delta ≢ variable (shift 1 next)
    pub apart_v : delta ≢ variable (shift 2 next)

  abbrev pub Quiet : ℕ → Command → Type 0
  Quiet position c = (reach_of c ≡ None) × Rule8 (low_tree tree) number position c

  pub data Sort (start : ℕ) (commands : List Command) : Type 0 where
    quiet : EachAt Quiet start commands → Sort start commands
    accesses : Access start commands → Sort start commands
    grows : Growing start commands → Sort start commands

  pub record LawfulPiece (start : ℕ) (commands : List Command) : Type 0 where
    pub each : EachAt (Lawful tree linked number B start (length commands)) start commands
    pub some : 1 ≤ length commands
    pub sort : Sort start commands

  pub simple_piece : (start : ℕ) (commands : List Command) → 1 ≤ length commands → EachAt (Simple tree linked number B start (length commands)) start commands → LawfulPiece start commands
  simple_piece start commands some h = record {
    each = each_map (Simple tree linked number B start (length commands)) (Lawful tree linked number B start (length commands)) (λ position c s. s.lawful) start commands h;
    some = some;
    sort = quiet (each_map (Simple tree linked number B start (length commands)) Quiet (λ position c s. (s.reach, s.rule8)) start commands h);
  }

  -- ---- operands

  abbrev Ops : ℕ → List Operand → Type 0
  Ops next stack = AllRanged (bottom Mine) next stack

  pub readable : (next : ℕ) (a : Operand) → next ≤ Mine.limit → Ranged (bottom Mine) next a → Readable tree linked number B a
  readable next (Var x) le h = reads_own tree linked number B x.0 (omega (arith, h.0)) (omega (arith, h.1, le))
  readable next (Const c) le h = reads_const tree linked number B c

  pub readables : (next : ℕ) (operands : List Operand) → next ≤ Mine.limit → Ops next operands → AllReadable tree linked number B operands
  readables next [] le h = tt
  readables next (a ∷ operands) le h = (readable next a le h.0, readables next operands le h.1)

  locals_between : (low : ℕ) (count : ℕ) → bottom Mine ≤ low → low + count ≤ Mine.limit → (x : ℕ) → low ≤ x → x < low + count → IsLocal (low_tree tree) number x
  locals_between low count le most x above below = new_local tree linked number B x (omega (arith, le, above)) (omega (arith, most, below))

  -- ---- constructs that are open

  pub record Ready (t : Target) : Type 0 where
    pub lands : B (start_of t.kind t.end)
    pub ends : B t.end
    pub low_to : bottom Mine ≤ first_to t
    pub high_to : first_to t + taken t ≤ Mine.limit
    pub low : bottom Mine ≤ t.first
    pub high : t.first + t.arity ≤ Mine.limit

  abbrev pub AllReady : List Target → Type 0
  AllReady [] = Unit {0}
  AllReady (t ∷ open_ones) = Ready t × AllReady open_ones

  abbrev pub ReadyFor : Option Target → Type 0
  ReadyFor None = Unit {0}
  ReadyFor (Some t) = Ready t

  pub ready_get : (open_ones : List Target) (l : ℕ) → AllReady open_ones → ReadyFor (slice_get open_ones l)
  ready_get [] l h = tt
  ready_get (t ∷ open_ones) zero h = h.0
  ready_get (t ∷ open_ones) (suc l) h = ready_get open_ones l h.1

  -- ---- lists of commands within a piece

  module _ (start size stop : ℕ) (goes : (q : ℕ) → start < q → q ≤ stop → Goes tree linked number B start size q) where
    abbrev SimpleAt : ℕ → List Command → Type 0
    SimpleAt position commands = EachAt (Simple tree linked number B start size) position commands

    abbrev Into : ℕ → Type 0
    Into t = Goes tree linked number B start size t

    -- moves, and then a jump
    pub moved_simple : (position depth first count next to : ℕ) (stack : List Operand) → depth ≤ 6 → start ≤ position → position + count ≤ stop → bottom Mine ≤ first → first + count ≤ Mine.limit → next ≤ Mine.limit
        → Ops next stack → Into to → SimpleAt position (moves depth first (reverse (pad count stack)) ++ jump_to to ∷ [])
    moved_simple position depth first count next to stack small low high above most le ranged into =
        let ops = reverse (pad count stack) in
        let long = padded_length count stack in
        each_both (Simple tree linked number B start size) position (position + count) (moves depth first ops) (jump_to to ∷ []) (omega (arith, moves_length depth first ops, long))
        (moves_simple tree linked number B start size stop goes position depth first ops small low (omega (arith, high, long)) (λ x a b. locals_between first count above most x a (omega (arith, b, long)))
        (readables next ops le (ranged_pad (bottom Mine) next count stack ranged)))
        (jump_simple tree linked number B start size (position + count) to into, tt)

    pub branched_simple : (position depth next : ℕ) (o : Option Target) (stack : List Operand) → depth ≤ 6 → start ≤ position → position + length (branched depth Mine.results o stack) ≤ suc stop → next ≤ Mine.limit
        → ReadyFor o → Ops next stack → SimpleAt position (branched depth Mine.results o stack)
    branched_simple position depth next None stack small low high le ready ranged =
        let ops = reverse (pad Mine.results stack) in
        let long = padded_length Mine.results stack in
        outs_simple tree linked number B start size stop goes position depth 0 ops small low (omega (arith, high, branch_length (blocks tree) (shape tree) number depth None stack, long)) (omega (arith, long))
        (readables next ops le (ranged_pad (bottom Mine) next Mine.results stack ranged))
    branched_simple position depth next (Some t) stack small low high le ready ranged =
        moved_simple position depth (first_to t) (taken t) next (start_of t.kind t.end) stack small low
        (omega (arith, high, length-append (moves depth (first_to t) (reverse (pad (taken t) stack))) (jump_to (start_of t.kind t.end) ∷ []), moves_length depth (first_to t) (reverse (pad (taken t) stack)), padded_length (taken t) stack))
        ready.low_to ready.high_to le ranged (inr (inl ready.lands))

    -- tests of an index
    abbrev pub AllInto : List ℕ → Type 0
    AllInto [] = Unit {0}
    AllInto (t ∷ ts) = Into t × AllInto ts

    pub chain_simple : (position depth x number_ last : ℕ) (index : Operand) (those : List ℕ) → depth ≤ 6 → start ≤ position → position + 2 * length those ≤ suc stop → bottom Mine ≤ x → x + length those ≤ Mine.limit
        → Readable tree linked number B index → AllInto those → (1 ≤ length those → Into last) → SimpleAt position (chain_from index x number_ those last position depth)
    chain_simple position depth x number_ last index [] small low high above most reads into ends = tt
    chain_simple position depth x number_ last index (arm ∷ those) small low high above most reads into ends = (
      set_simple tree linked number B start size position depth op.I32Eq x index (Const number_) (Const 0) small (two_padded tree linked number B start size op.I32Eq (Const number_) refl) reads
          (reads_const tree linked number B number_) (reads_const tree linked number B 0) (inl (new_local tree linked number B x above (omega (arith, most)))) (goes (suc position) (omega (arith, low)) (omega (arith, high))),
      (
        test_simple tree linked number B start size (suc position) (variable x) arm (missed those last (suc (suc position))) (reads_own tree linked number B x (omega (arith, above)) (omega (arith, most))) into.0
            (otherwise those (omega (arith, high))),
        chain_simple (suc (suc position)) depth (suc x) (suc number_) last index those small (omega (arith, low)) (omega (arith, high)) (omega (arith, above)) (omega (arith, most)) reads into.1 (λ some. ends (omega arith)),
      ),
    )
      where
        otherwise : (those : List ℕ) → position + 2 * suc (length those) ≤ suc stop → Into (missed those last (suc (suc position)))
        otherwise [] high = ends (omega arith)
        otherwise (t ∷ ts) high = goes (suc (suc position)) (omega (arith, low)) (omega (arith, high))
