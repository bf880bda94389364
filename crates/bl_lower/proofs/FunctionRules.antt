-- The pieces of a whole function keep the rules as far as they go themselves.
use Rattle.std.proofs.Common.{◌≡◌, ℕ, zero, suc, ◌+◌, ◌-◌, ◌≤◌, List, [], ◌∷◌, ◌++◌, length, reverse, replicate, Some, slice_get, refl, sym, ap, ap₂, ◌∙◌, subst, arith, inl, inr}
use Rattle.std.proofs.lemmas.List.{length-replicate, append-nil}
use Rattle.bl_wasm.specs.Linked.{IsLinked, IsFunction, context}
use Rattle.bl_wasm.specs.Typing.{Context}
use Rattle.bl_wasm.specs.declared.linked.Function.{Function}
use Rattle.bl_wasm.specs.declared.linked.Tree.{Tree}
use Rattle.bl_wasm.proofs.OpenConstructLemmas.{closes}
use Rattle.bl_wasm.proofs.LeadsLemmas.{typing_nests}
use Rattle.bl_program.specs.declared.command.Command.{Command}
use Rattle.bl_program.specs.declared.command.Operand.{Operand}
use Rattle.bl_program.specs.declared.command.Operand.TheVariants.{Const}
use Rattle.bl_access.specs.Templates.{jump_to}
use Rattle.bl_emit.specs.Shapes.{Shape, bottom}
use Rattle.bl_emit.specs.Constructs.{pad, moves, outs, Point}
use Rattle.bl_emit.specs.LoweredBodies.{Extent, Reached, on, off, next_in}
use Rattle.bl_lower.specs.Trees.{last, low_body, low_function}
use Rattle.bl_emit.specs.Numbers.{blocks, shape, start_at, body_of, function_variables}
use Rattle.bl_lower.proofs.BodyRules.{bodies, begins, EndsIn, StackIn}
use Rattle.bl_lower.proofs.PiecePositions.{Starts, all_start}
use Rattle.bl_lower.proofs.PieceRules.{LawfulPiece, simple_piece, readables}
use Rattle.bl_lower.proofs.LawfulCommands.{Simple, own_local, reads_const, AllReadable, moves_simple, outs_simple, jump_simple}
use Rattle.bl_lower.proofs.ConstructExits.{moves_length}
use Rattle.bl_lower.proofs.NestedItems.{nested_is}
use Rattle.bl_lower.proofs.Pieces.{all_append, all_of, AllAt, each_both, all_at_front, all_at_back, all_at_both, pieces, whole_is}
use Rattle.bl_lower.proofs.FunctionPlaces.{first_point, opens, opens_length, room_of, extent_is, results_are, counts_are, locals_are, total_some}
use Rattle.bl_lower.proofs.OperandRanges.{ranged_pad}
use Rattle.bl_lower.proofs.Sizes.{Size, Sized, ReachedAs, sizes, padded_length, outs_length}
use Rattle.bl_lower.proofs.TypedItems.{Sound, Each, EachIn, all_sound, each_in}
use Rattle.bl_lower.proofs.Templates.{within}
use Rattle.bl_lower.proofs.Typings.{nested_body}
use Rattle.bl_emit.proofs.Lists.{shift_is}

-- the end of a function, where it is reached
abbrev last_pieces : ℕ → Reached → List (List Command)
last_pieces results (on q) = last results (on q) ∷ []
last_pieces results (off next) = []

last_same : (results : ℕ) (reached : Reached) → all_of (last_pieces results reached) ≡ last results reached
last_same results (on q) = append-nil (last results (on q))
last_same results (off next) = refl

module _ (tree : Tree) (linked : IsLinked tree) (number : ℕ) (function : Function) (exists : slice_get tree.functions number ≡ Some function) (is : IsFunction tree function) where
  abbrev Mine : Shape
  Mine = shape tree number

  abbrev at_first : Point
  at_first = first_point tree number function exists

  abbrev body_pieces : List (List Command)
  body_pieces = pieces (blocks tree) (shape tree) number [] (body_of tree function) at_first

  abbrev reached : Reached
  reached = (low_body tree number function).reached

  abbrev prologue : List Command
  prologue = opens tree number function exists

  abbrev pub function_pieces : List (List Command)
  function_pieces = prologue ∷ (body_pieces ++ last_pieces Mine.results reached)

  pub function_whole : all_of function_pieces ≡ low_function tree number function
  function_whole = ap (λ l. prologue ++ l) (all_append body_pieces (last_pieces Mine.results reached)
      ∙ ap₂ (λ a b. a ++ b) (whole_is (blocks tree) (shape tree) number [] (body_of tree function) at_first) (last_same Mine.results reached))

  abbrev pub B : ℕ → Type 0
  B x = Starts Mine.entry function_pieces x

  abbrev pub LawfulPieceAt : ℕ → List Command → Type 0
  LawfulPieceAt start commands = LawfulPiece tree linked number B start commands

  abbrev Begins : ℕ → List Command → Type 0
  Begins start commands = B start

  abbrev e : Extent
  e = Size (blocks tree) (shape tree) number [] (body_of tree function)

  sized : Sized (blocks tree) (shape tree) number e at_first (low_body tree number function)
  sized = sizes (blocks tree) (shape tree) number [] (body_of tree function) at_first

  body_long : length (all_of body_pieces) ≡ e.size
  body_long = ap length (whole_is (blocks tree) (shape tree) number [] (body_of tree function) at_first) ∙ sized.size

  all_begin : AllAt Begins Mine.entry function_pieces
  all_begin = all_start Mine.entry function_pieces B (λ x h. h)

  start_there : Mine.entry + length prologue ≡ start_at tree number
  start_there = omega (arith, opens_length tree number function exists, shift_is Mine.locals Mine.entry)

  behind_prologue : AllAt Begins (start_at tree number) (body_pieces ++ last_pieces Mine.results reached)
  behind_prologue = subst (λ n. AllAt Begins n (body_pieces ++ last_pieces Mine.results reached)) start_there all_begin.1

  body_begins : AllAt Begins (start_at tree number) body_pieces
  body_begins = all_at_front Begins (start_at tree number) body_pieces (last_pieces Mine.results reached) behind_prologue

  last_begins : AllAt Begins (start_at tree number + e.size) (last_pieces Mine.results reached)
  last_begins = all_at_back Begins (start_at tree number) (start_at tree number + e.size) body_pieces (last_pieces Mine.results reached) (omega (arith, body_long)) behind_prologue

  ends_of : (r : Reached) → ReachedAs (blocks tree) (shape tree) number e (start_at tree number) r → AllAt Begins (start_at tree number + e.size) (last_pieces Mine.results r) → EndsIn tree linked number B function exists is r
  ends_of (on q) reaches h = subst B (sym reaches.1) h.0
  ends_of (off next) reaches h = tt

  ends_begin : EndsIn tree linked number B function exists is reached
  ends_begin = ends_of reached sized.reached last_begins

  abbrev c : Context
  c = context tree is.type function

  sound : EachIn (Sound c) (body_of tree function)
  sound = (each_in (Sound c) (body_of tree function) [] (nested_body function.code.items)
      (subst (Each (Sound c)) (sym (nested_is function.code.items (closes function.code.items (typing_nests c function.code.items is.places is.typing)))) (all_sound c function.code.items [] is.places is.immediates is.typing.1))).0

  room : at_first.next + e.new ≤ Mine.limit
  room = omega (
    arith,
    total_some (function_variables tree) tree.functions number function exists,
    ap (λ e. e.new) (extent_is tree number function exists),
    ap (λ c. c.params) (counts_are tree number function exists),
    results_are tree number function exists,
    locals_are tree number function exists,
  )

  body_good : AllAt LawfulPieceAt (start_at tree number) body_pieces × StackIn tree linked number B function exists is reached
  body_good = bodies tree linked number B function exists is (body_of tree function) [] at_first sound tt tt (omega arith) room body_begins ends_begin

  body_starts : B (start_at tree number)
  body_starts = begins tree linked number B function exists is [] (body_of tree function) at_first body_begins ends_begin

  zeros_readable : (n : ℕ) → AllReadable tree linked number B (replicate n (Const 0))
  zeros_readable zero = tt
  zeros_readable (suc n) = (reads_const tree linked number B 0, zeros_readable n)

  prologue_good : LawfulPieceAt Mine.entry prologue
  prologue_good =
      let first = Mine.first + Mine.params + Mine.results in
      let zeros = replicate Mine.locals (Const 0) in
      let many = length-replicate {A = Operand} Mine.locals (Const 0) in
      let ms = moves 0 first zeros in
      let n = length prologue in
      let long = opens_length tree number function exists in
      let some : 1 ≤ n = omega (arith, long) in
      let high = room_of tree number in
      simple_piece tree linked number B Mine.entry prologue some
      (each_both (Simple tree linked number B Mine.entry n) Mine.entry (Mine.entry + Mine.locals) ms (jump_to (start_at tree number) ∷ []) (omega (arith, moves_length 0 first zeros, many))
      (moves_simple tree linked number B Mine.entry n (Mine.entry + n - 1) (within tree linked number B function exists is Mine.entry n some) Mine.entry 0 first zeros (omega arith) (omega arith) (omega (arith, long, many))
      (λ x above below. own_local tree linked number B x (omega (arith, above)) (omega (arith, below, many, high)) (λ up. above)) (zeros_readable Mine.locals))
      (jump_simple tree linked number B Mine.entry n (Mine.entry + Mine.locals) (start_at tree number) (inr (inl body_starts)), tt))

  last_good : (r : Reached) → ReachedAs (blocks tree) (shape tree) number e (start_at tree number) r → StackIn tree linked number B function exists is r → next_in r ≤ Mine.limit → AllAt LawfulPieceAt (start_at tree number + e.size) (last_pieces Mine.results r)
  last_good (off next) reaches ranged le = tt
  last_good (on q) reaches ranged le =
      let ops = reverse (pad Mine.results q.stack) in
      let long = padded_length Mine.results q.stack in
      let n = length (outs 0 0 ops) in
      let all = outs_length 0 0 ops in
      let some : 1 ≤ n = omega (arith, all) in (
        subst (λ k. LawfulPieceAt k (outs 0 0 ops)) reaches.1
            (simple_piece tree linked number B q.position (outs 0 0 ops) some
            (outs_simple tree linked number B q.position n (q.position + n - 1) (within tree linked number B function exists is q.position n some) q.position 0 0 ops (omega arith) (omega arith) (omega (arith, all)) (omega (arith, long))
            (readables tree linked number B q.next ops le (ranged_pad (bottom Mine) q.next Mine.results q.stack ranged)))),
        tt,
      )

  pub all_good : AllAt LawfulPieceAt Mine.entry function_pieces
  all_good = (
    prologue_good,
    subst (λ n. AllAt LawfulPieceAt n (body_pieces ++ last_pieces Mine.results reached)) (sym start_there)
        (all_at_both LawfulPieceAt (start_at tree number) (start_at tree number + e.size) body_pieces (last_pieces Mine.results reached) (omega (arith, body_long)) body_good.0
        (last_good reached sized.reached body_good.1 (omega (arith, sized.new, room)))),
  )
