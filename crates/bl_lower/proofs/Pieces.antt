-- The commands of a body in pieces: what each item becomes, and what opens and ends a construct. A loop's moves are a piece each,
-- since a branch comes to its Jump.
use Rattle.std.proofs.Common.{◌≡◌, ℕ, suc, ◌+◌, ◌≤◌, ◌<◌, List, [], ◌∷◌, ◌++◌, length, reverse, Some, slice_get, refl, sym, ap, ap₂, ◌∙◌, subst, arith, length-append, append_assoc, inl, inr}
use Rattle.std.proofs.lemmas.Bool.{cases_lt}
use Rattle.std.proofs.lemmas.Option.{same_Some}
use Rattle.std.proofs.lemmas.List.{append-nil}
use Rattle.bl_wasm.specs.declared.types.BlockType.{BlockType}
use Rattle.bl_program.specs.declared.command.Command.{Command}
use Rattle.bl_access.specs.Templates.{test_of, jump_to}
use Rattle.bl_emit.specs.Shapes.{Counts, Shape}
use Rattle.bl_emit.specs.Constructs.{top, pad, moves, Target, as_whole, mark_of, Point, behind}
use Rattle.bl_emit.specs.Items.{after, template, leaving}
use Rattle.bl_emit.specs.LoweredBodies.{Body, done, step, leave, block, loop, choice, Reached, on, off, next_in, closed, low}
use Rattle.bl_lower.proofs.CodeLayout.{HasAt, block_target, block_point, loop_target, loop_point, if_target, then_point, else_point}

-- ---- lists of pieces

abbrev pub all_of : List (List Command) → List Command
all_of [] = []
all_of (piece ∷ pieces) = piece ++ all_of pieces

abbrev pub singles : List Command → List (List Command)
singles [] = []
singles (command ∷ commands) = (command ∷ []) ∷ singles commands

pub all_append : (a b : List (List Command)) → all_of (a ++ b) ≡ all_of a ++ all_of b
all_append [] b = refl
all_append (piece ∷ a) b = ap (λ l. piece ++ l) (all_append a b) ∙ sym (append_assoc piece (all_of a) (all_of b))

all_singles : (commands : List Command) → all_of (singles commands) ≡ commands
all_singles [] = refl
all_singles (command ∷ commands) = ap (λ l. command ∷ l) (all_singles commands)

-- what holds of each piece at its position
abbrev pub AllAt : (ℕ → List Command → Type 0) → ℕ → List (List Command) → Type 0
AllAt P position [] = Unit {0}
AllAt P position (piece ∷ pieces) = P position piece × AllAt P (position + length piece) pieces

-- what holds of each command at its position
abbrev pub EachAt : (ℕ → Command → Type 0) → ℕ → List Command → Type 0
EachAt K position [] = Unit {0}
EachAt K position (command ∷ commands) = K position command × EachAt K (suc position) commands

module _ (P : ℕ → List Command → Type 0) where
  pub all_at_front : (position : ℕ) (a b : List (List Command)) → AllAt P position (a ++ b) → AllAt P position a
  all_at_front position [] b h = tt
  all_at_front position (piece ∷ a) b h = (h.0, all_at_front (position + length piece) a b h.1)

  pub all_at_back : (position to : ℕ) (a b : List (List Command)) → to ≡ position + length (all_of a) → AllAt P position (a ++ b) → AllAt P to b
  all_at_back position to [] b e h = let same : position ≡ to = omega (arith, e) in subst (λ n. AllAt P n b) same h
  all_at_back position to (piece ∷ a) b e h =
      all_at_back (position + length piece) to a b (omega (arith, e, length-append piece (all_of a))) h.1

  pub all_at_both : (position to : ℕ) (a b : List (List Command)) → to ≡ position + length (all_of a) → AllAt P position a → AllAt P to b → AllAt P position (a ++ b)
  all_at_both position to [] b e h i = let same : to ≡ position = omega (arith, e) in subst (λ n. AllAt P n b) same i
  all_at_both position to (piece ∷ a) b e h i =
      (h.0, all_at_both (position + length piece) to a b (omega (arith, e, length-append piece (all_of a))) h.1 i)

pub all_at_map : (P Q : ℕ → List Command → Type 0) → ((position : ℕ) (piece : List Command) → P position piece → Q position piece) → (position : ℕ) (pieces : List (List Command)) → AllAt P position pieces → AllAt Q position pieces
all_at_map P Q f position [] h = tt
all_at_map P Q f position (piece ∷ pieces) h = (f position piece h.0, all_at_map P Q f (position + length piece) pieces h.1)

pub each_map : (K L : ℕ → Command → Type 0) → ((position : ℕ) (command : Command) → K position command → L position command) → (position : ℕ) (commands : List Command) → EachAt K position commands → EachAt L position commands
each_map K L f position [] h = tt
each_map K L f position (command ∷ commands) h = (f position command h.0, each_map K L f (suc position) commands h.1)

pub each_both : (K : ℕ → Command → Type 0) (position to : ℕ) (a b : List Command) → to ≡ position + length a → EachAt K position a → EachAt K to b → EachAt K position (a ++ b)
each_both K position to [] b e h i = let same : to ≡ position = omega (arith, e) in subst (λ n. EachAt K n b) same i
each_both K position to (command ∷ a) b e h i = (h.0, each_both K (suc position) to a b (omega (arith, e)) h.1 i)

-- the one at a place
pub each_got : (K : ℕ → Command → Type 0) (code : List Command) (position place : ℕ) (commands : List Command) (command : Command) → EachAt K position commands → HasAt code position commands
    → position ≤ place → place < position + length commands → slice_get code place ≡ Some command → K place command
each_got K code position place [] command h has low high e = absurd (omega (arith, low, high))
each_got K code position place (first ∷ commands) command h has low high e = elim (cases_lt position place) [
  | inl lt ↦ each_got K code (suc position) place commands command h.1 has.1 (omega (arith, lt)) (omega (arith, high)) e
  | inr le ↦
      let same : position ≡ place = omega (arith, low, le) in
      subst (λ n. K n command) same (subst (K position) (same_Some first command (sym has.0 ∙ ap (slice_get code) same ∙ e)) h.0)
]

-- ---- the pieces of a body

-- the end of a construct or part, where it is reached
abbrev pub closed_pieces : ℕ → Target → Reached → List (List Command)
closed_pieces depth t (on p) = closed depth t (on p) ∷ []
closed_pieces depth t (off next) = []

closed_same : (depth : ℕ) (t : Target) (reached : Reached) → all_of (closed_pieces depth t reached) ≡ closed depth t reached
closed_same depth t (on p) = append-nil (closed depth t (on p))
closed_same depth t (off next) = refl

module _ (blocks : BlockType → Counts) (shapes : ℕ → Shape) (number : ℕ) where
  abbrev pub pieces : List Target → Body → Point → List (List Command)
  pieces open_ones done p = []
  pieces open_ones (leave item body) p = leaving shapes number open_ones item p ∷ []
  pieces open_ones (step item body) p = template shapes number open_ones item p ∷ pieces open_ones body (after shapes number open_ones item p)
  pieces open_ones (block r inner body) p =
      let t = block_target blocks shapes number open_ones r p inner in
      let q = block_point blocks shapes number open_ones r p in
      let within = low blocks shapes number (t ∷ open_ones) inner q in
      (jump_to q.position ∷ []) ∷ (pieces (t ∷ open_ones) inner q
      ++ (closed_pieces (mark_of (t ∷ open_ones)) t within.reached ++ pieces open_ones body (behind t (next_in within.reached))))
  pieces open_ones (loop r inner body) p =
      let n = (blocks r).params in
      let t = loop_target blocks shapes number open_ones r p inner in
      let q = loop_point blocks shapes number open_ones r p in
      let within = low blocks shapes number (t ∷ open_ones) inner q in
      singles (moves (mark_of open_ones) p.next (reverse (pad n p.stack))) ++ ((jump_to q.position ∷ []) ∷ (pieces (t ∷ open_ones) inner q
      ++ (closed_pieces (mark_of (t ∷ open_ones)) t within.reached ++ pieces open_ones body (behind t (next_in within.reached)))))
  pieces open_ones (choice r first other second body) p =
      let t = if_target blocks shapes number open_ones r p first second in
      let q = then_point blocks shapes number open_ones r p in
      let within = low blocks shapes number (t ∷ open_ones) first q in
      let q' = else_point blocks shapes number open_ones r p first within.reached in
      let others = low blocks shapes number (as_whole t ∷ open_ones) second q' in
      (test_of (top p.stack) q.position q'.position ∷ []) ∷ (pieces (t ∷ open_ones) first q ++ (closed_pieces (mark_of open_ones) t within.reached
      ++ (pieces (as_whole t ∷ open_ones) second q' ++ (closed_pieces (mark_of open_ones) (as_whole t) others.reached
      ++ pieces open_ones body (behind t (next_in others.reached))))))

  abbrev Lows : List Target → Body → Point → List Command
  Lows open_ones body p = (low blocks shapes number open_ones body p).commands

  four : (a b c d : List Command) → a ++ (b ++ (c ++ d)) ≡ ((a ++ b) ++ c) ++ d
  four a b c d = sym (append_assoc (a ++ b) c d ∙ append_assoc a b (c ++ d))

  -- a construct with one part
  around : (prologue : List (List Command)) (code : List Command) (inner ends body : List (List Command)) (a b c : List Command) → all_of prologue ≡ code → all_of inner ≡ a → all_of ends ≡ b → all_of body ≡ c
      → all_of (prologue ++ (inner ++ (ends ++ body))) ≡ ((code ++ a) ++ b) ++ c
  around prologue code inner ends body a b c o e f g =
      all_append prologue (inner ++ (ends ++ body)) ∙ ap (λ l. all_of prologue ++ l) (all_append inner (ends ++ body) ∙ ap (λ l. all_of inner ++ l) (all_append ends body))
      ∙ ap₂ (λ w x. w ++ (all_of inner ++ x)) o (ap₂ (λ y z. y ++ z) f g) ∙ ap (λ x. code ++ (x ++ (b ++ c))) e ∙ four code a b c

  -- one after another they are the commands
  pub whole_is : (open_ones : List Target) (body : Body) (p : Point) → all_of (pieces open_ones body p) ≡ Lows open_ones body p
  whole_is open_ones done p = refl
  whole_is open_ones (leave item body) p = append-nil (leaving shapes number open_ones item p)
  whole_is open_ones (step item body) p = ap (λ l. template shapes number open_ones item p ++ l) (whole_is open_ones body (after shapes number open_ones item p))
  whole_is open_ones (block r inner body) p =
      let t = block_target blocks shapes number open_ones r p inner in
      let q = block_point blocks shapes number open_ones r p in
      let within = low blocks shapes number (t ∷ open_ones) inner q in
      let later = behind t (next_in within.reached) in
      around ((jump_to q.position ∷ []) ∷ []) (jump_to q.position ∷ []) (pieces (t ∷ open_ones) inner q) (closed_pieces (mark_of (t ∷ open_ones)) t within.reached) (pieces open_ones body later)
      within.commands (closed (mark_of (t ∷ open_ones)) t within.reached) (Lows open_ones body later) refl (whole_is (t ∷ open_ones) inner q) (closed_same (mark_of (t ∷ open_ones)) t within.reached) (whole_is open_ones body later)
  whole_is open_ones (loop r inner body) p =
      let n = (blocks r).params in
      let t = loop_target blocks shapes number open_ones r p inner in
      let q = loop_point blocks shapes number open_ones r p in
      let within = low blocks shapes number (t ∷ open_ones) inner q in
      let later = behind t (next_in within.reached) in
      let ms = moves (mark_of open_ones) p.next (reverse (pad n p.stack)) in
      let rest = pieces (t ∷ open_ones) inner q ++ (closed_pieces (mark_of (t ∷ open_ones)) t within.reached ++ pieces open_ones body later) in
      ap all_of (sym (append_assoc (singles ms) ((jump_to q.position ∷ []) ∷ []) rest))
      ∙ around (singles ms ++ (jump_to q.position ∷ []) ∷ []) (ms ++ jump_to q.position ∷ []) (pieces (t ∷ open_ones) inner q) (closed_pieces (mark_of (t ∷ open_ones)) t within.reached) (pieces open_ones body later)
      within.commands (closed (mark_of (t ∷ open_ones)) t within.reached) (Lows open_ones body later)
      (all_append (singles ms) ((jump_to q.position ∷ []) ∷ []) ∙ ap (λ l. l ++ jump_to q.position ∷ []) (all_singles ms))
      (whole_is (t ∷ open_ones) inner q) (closed_same (mark_of (t ∷ open_ones)) t within.reached) (whole_is open_ones body later)
  whole_is open_ones (choice r first other second body) p =
      let t = if_target blocks shapes number open_ones r p first second in
      let q = then_point blocks shapes number open_ones r p in
      let within = low blocks shapes number (t ∷ open_ones) first q in
      let q' = else_point blocks shapes number open_ones r p first within.reached in
      let others = low blocks shapes number (as_whole t ∷ open_ones) second q' in
      let later = behind t (next_in others.reached) in
      let test = test_of (top p.stack) q.position q'.position ∷ [] in
      let ends = closed (mark_of open_ones) t within.reached in
      let second_ends = closed (mark_of open_ones) (as_whole t) others.reached in
      let back = pieces (as_whole t ∷ open_ones) second q' ++ (closed_pieces (mark_of open_ones) (as_whole t) others.reached ++ pieces open_ones body later) in
      around (test ∷ []) test (pieces (t ∷ open_ones) first q) (closed_pieces (mark_of open_ones) t within.reached) back within.commands ends (others.commands ++ (second_ends ++ Lows open_ones body later)) refl
      (whole_is (t ∷ open_ones) first q) (closed_same (mark_of open_ones) t within.reached)
      (all_append (pieces (as_whole t ∷ open_ones) second q') (closed_pieces (mark_of open_ones) (as_whole t) others.reached ++ pieces open_ones body later)
      ∙ ap₂ (λ x y. x ++ y) (whole_is (as_whole t ∷ open_ones) second q')
      (all_append (closed_pieces (mark_of open_ones) (as_whole t) others.reached) (pieces open_ones body later)
      ∙ ap₂ (λ x y. x ++ y) (closed_same (mark_of open_ones) (as_whole t) others.reached) (whole_is open_ones body later)))
      ∙ ap (λ l. ((test ++ within.commands) ++ ends) ++ l) (sym (append_assoc others.commands second_ends (Lows open_ones body later)))
      ∙ sym (append_assoc ((test ++ within.commands) ++ ends) (others.commands ++ second_ends) (Lows open_ones body later))
