-- Rules 4 to 8 at each position of the program of a linked tree.
use Rattle.std.proofs.Common.{◌≡◌, ℕ, suc, ◌+◌, ◌<◌, ◌≤◌, List, length, Some, slice_get, sym, ap, ◌∙◌, subst, arith, ◌⊎◌, inl, inr}
use Rattle.std.proofs.lemmas.Bool.{cases_lt}
use Rattle.std.proofs.lemmas.List.{length-map}
use Rattle.std.proofs.lemmas.Option.{none-some, slice_get_within, same_Some}
use Rattle.bl_base.proofs.Lists.{all_get, within_get}
use Rattle.bl_wasm.specs.Linked.{IsLinked, IsFunction}
use Rattle.bl_wasm.specs.declared.linked.Function.{Function}
use Rattle.bl_wasm.specs.declared.linked.Tree.{Tree}
use Rattle.bl_program.specs.Layout.{entry_of, command_at, Holds}
use Rattle.bl_program.specs.Programs.{IsCommand, IsProgram}
use Rattle.bl_program.specs.Rules.{Rule4, Rule5, Rule6, GoesTo, Reach, reach_of}
use Rattle.bl_program.specs.declared.command.Command.{Command}
use Rattle.bl_program.specs.declared.command.Command.TheVariants.{Test, Jump, Trap}
use Rattle.bl_program.proofs.Layouts.{holds_apart, held_by}
use Rattle.bl_lower.specs.Trees.{low_tree, low_function, function_def, step_bound}
use Rattle.bl_emit.specs.Numbers.{shape, function_size}
use Rattle.bl_lower.proofs.PiecePositions.{Found, Bounds, bounds_of, found_same, found_other, found_at, find, starts_found, found_stands}
use Rattle.bl_lower.proofs.FunctionRules.{function_pieces, function_whole, B, all_good}
use Rattle.bl_lower.proofs.PieceRules.{LawfulPiece}
use Rattle.bl_lower.proofs.CodeLayout.{HasAt}
use Rattle.bl_lower.proofs.LawfulCommands.{Lawful, Goes}
use Rattle.bl_lower.proofs.BodyLayout.{has}
use Rattle.bl_lower.proofs.TreeLayout.{entry_is}
use Rattle.bl_lower.proofs.Pieces.{all_of, AllAt, EachAt, all_at_map, each_got}
use Rattle.bl_lower.proofs.FunctionPlaces.{shaped, stands_at, low_length, total_some}

-- an access goes nowhere
pub access_stays : (last : Command) (r : Reach) (y : ℕ) → reach_of last ≡ Some r → GoesTo last y → ⊥
access_stays (Test condition one other) r y e h = absurd (none-some r e)
access_stays (Jump to) r y e h = absurd (none-some r e)
access_stays _ r y e h = h

module _ (tree : Tree) (linked : IsLinked tree) where
  -- ---- one function

  module _ (number : ℕ) (function : Function) (exists : slice_get tree.functions number ≡ Some function) (is : IsFunction tree function) where
    abbrev pub entry : ℕ
    entry = (shape tree number).entry

    abbrev pub those : List (List Command)
    those = function_pieces tree linked number function exists is

    abbrev pub Begin : ℕ → Type 0
    Begin = B tree linked number function exists is

    pieces_lawful : AllAt (LawfulPiece tree linked number Begin) entry those
    pieces_lawful = all_good tree linked number function exists is

    pub whole_length : length (all_of those) ≡ function_size tree function
    whole_length = ap length (function_whole tree linked number function exists is) ∙ low_length tree number function exists

    pub next_entry : entry_of (low_tree tree) (suc number) ≡ entry + length (all_of those)
    next_entry = omega (arith, entry_is tree (suc number), total_some (function_size tree) tree.functions number function exists, whole_length)

    pub holds_of : (x : ℕ) → entry ≤ x → x < entry + length (all_of those) → Holds (low_tree tree) number x
    holds_of x low high = record {
      exists = omega (arith, slice_get_within tree.functions number function exists, length-map tree.functions (function_def tree));
      from = omega (arith, low, entry_is tree number);
      below = omega (arith, high, next_entry);
    }

    pub stand : HasAt (low_tree tree).commands entry (all_of those)
    stand = subst (HasAt (low_tree tree).commands entry) (sym (function_whole tree linked number function exists is))
        (has (shaped tree) (step_bound tree) number entry (low_function tree number function) (stands_at tree number function exists))

    pub record Place (x : ℕ) : Type 0 where
      pub start : ℕ
      pub piece : List Command
      pub found : Found entry those x start piece
      pub bounds_ : Bounds entry those x start piece
      pub good : LawfulPiece tree linked number Begin start piece
      pub stands : HasAt (low_tree tree).commands start piece

    pub place_at : (x : ℕ) → Holds (low_tree tree) number x → Place x
    place_at x holds =
        let f = find entry those x (omega (arith, holds.from, entry_is tree number)) (omega (arith, holds.below, next_entry)) in record {
          start = f.0;
          piece = f.1;
          found = f.2;
          bounds_ = bounds_of entry those x f.0 f.1 f.2;
          good = found_at (LawfulPiece tree linked number Begin) entry those x f.0 f.1 pieces_lawful f.2;
          stands = found_stands (low_tree tree).commands entry those x f.0 f.1 stand f.2;
        }

    -- what holds of each command of the piece holds of the one there
    pub there : (K : ℕ → Command → Type 0) (x : ℕ) (p : Place x) (command : Command) → EachAt K p.start p.piece → command_at (low_tree tree) x ≡ Some command → K x command
    there K x p command each e = each_got K (low_tree tree).commands p.start x p.piece command each p.stands p.bounds_.from p.bounds_.below e

    lawful_at : (x : ℕ) (p : Place x) (command : Command) → command_at (low_tree tree) x ≡ Some command → Lawful tree linked number Begin p.start (length p.piece) x command
    lawful_at x p command e = there (Lawful tree linked number Begin p.start (length p.piece)) x p command p.good.each e

    -- where a command may go lies in the function
    starts_hold : (x : ℕ) → Begin x → (piece : List Command) × Found entry those x x piece
    starts_hold x h = starts_found entry those x (all_at_map (LawfulPiece tree linked number Begin) (λ start piece. 1 ≤ length piece) (λ start piece g. g.some) entry those pieces_lawful) h

    goes_hold : (x : ℕ) (p : Place x) (t : ℕ) → Goes tree linked number Begin p.start (length p.piece) t → (t < 7) ⊎ Holds (low_tree tree) number t
    goes_hold x p t (inl small) = inl small
    goes_hold x p t (inr (inl begin)) =
        let f = starts_hold t begin in
        let b = bounds_of entry those t t f.0 f.1 in
        inr (holds_of t b.low (omega (arith, b.below, b.high)))
    goes_hold x p t (inr (inr inside)) = let b = p.bounds_ in inr (holds_of t (omega (arith, inside.0, b.low)) (omega (arith, inside.1, b.high)))

    pub rule5 : (x : ℕ) (command : Command) → Holds (low_tree tree) number x → command_at (low_tree tree) x ≡ Some command → Rule5 (low_tree tree) number x command
    rule5 x command holds e =
        let p = place_at x holds in
        let l = lawful_at x p command e in
        record {
          targets = λ t h. goes_hold x p t (l.targets t h);
          last = λ ends. elim l.falls [
            | inl leaves ↦ leaves
            | inr goes ↦ elim (goes_hold x p (suc x) goes) [ inl small ↦ absurd (omega (arith, small, holds.from)) | inr next ↦ absurd (omega (arith, next.below, ends)) ]
          ];
        }

    pub rule4 : (x : ℕ) (command : Command) → Holds (low_tree tree) number x → command_at (low_tree tree) x ≡ Some command → Rule4 (low_tree tree) number command
    rule4 x command holds e = (lawful_at x (place_at x holds) command e).rule4

    pub rule6 : (x : ℕ) (command : Command) → Holds (low_tree tree) number x → command_at (low_tree tree) x ≡ Some command → Rule6 (low_tree tree) number command
    rule6 x command holds e = (lawful_at x (place_at x holds) command e).rule6

    pub is_command : (x : ℕ) (command : Command) → Holds (low_tree tree) number x → command_at (low_tree tree) x ≡ Some command → IsCommand command
    is_command x command holds e = (lawful_at x (place_at x holds) command e).is

    -- a command of the function that goes inside a piece is one of the piece
    inner : (y start : ℕ) (piece : List Command) → Found entry those y start piece → start < y → (K : ℕ → Command → Type 0) → EachAt K start piece → (from : ℕ) (command : Command) → Holds (low_tree tree) number from
        → command_at (low_tree tree) from ≡ Some command → GoesTo command y → K from command
    inner y start piece found above K each from command holds e goes =
        let p = place_at from holds in
        elim ((lawful_at from p command e).targets y goes) [
          | inl small ↦ absurd (let b = bounds_of entry those y start piece found in omega (arith, small, b.low, above))
          | inr more ↦ elim more [
            | inl begin ↦ let f = starts_hold y begin in absurd (let same = found_same entry those y start y piece f.0 found f.1 in omega (arith, same.0, above))
            | inr inside ↦
                let f = found_other entry those from y p.start p.piece p.found (omega (arith, inside.0)) inside.1 in
                let same = found_same entry those y start p.start piece p.piece found f in
                there K from p command (subst (λ n. EachAt K n p.piece) same.0 (subst (EachAt K start) same.1 each)) e
          ]
        ]

  -- ---- all functions

  trap_stays : (facts : IsProgram (low_tree tree)) (from : ℕ) (command : Command) (y : ℕ) → from < 7 → command_at (low_tree tree) from ≡ Some command → GoesTo command y → ⊥
  trap_stays facts from command y small e goes =
      let t = facts.traps from small in
      subst (λ k. GoesTo k y) (sym (same_Some (Trap t.0) command (sym t.2 ∙ e))) goes

  module _ (facts : IsProgram (low_tree tree)) (number : ℕ) (function : Function) (exists : slice_get tree.functions number ≡ Some function) (is : IsFunction tree function) where
    -- what goes inside a piece is in the piece, whatever its function
    pub inside_only : (y start : ℕ) (piece : List Command) → Found (entry number function exists is) (those number function exists is) y start piece → Holds (low_tree tree) number y → start < y
        → (K : ℕ → Command → Type 0) → EachAt K start piece → (from : ℕ) (command : Command) → command_at (low_tree tree) from ≡ Some command → GoesTo command y → K from command
    inside_only y start piece found holds above K each from command e goes = elim (cases_lt from 7) [
      | inl small ↦ absurd (trap_stays facts from command y small e goes)
      | inr le ↦ by_function (held_by (low_tree tree) from facts le (slice_get_within (low_tree tree).commands from command e))
    ]
      where
        by_function : ((f : ℕ) × Holds (low_tree tree) f from) → K from command
        by_function h =
            let lt : h.0 < length tree.functions = omega (arith, h.1.exists, length-map tree.functions (function_def tree)) in
            let g = within_get tree.functions h.0 lt in
            let g_is = all_get (IsFunction tree) tree.functions h.0 g.0 linked.functions g.1 in
            let rule = rule5 h.0 g.0 g.1 g_is from command h.1 e in
            elim (rule.targets y goes) [
              | inl small ↦ absurd (omega (arith, small, holds.from))
              | inr there_ ↦
                  inner number function exists is y start piece found above K each from command (subst (λ n. Holds (low_tree tree) n from) (holds_apart (low_tree tree) h.0 number y there_ holds) h.1) e goes
            ]
