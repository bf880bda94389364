-- Rules 7 and 8 at each position of the program of a linked tree.
use Rattle.std.proofs.Common.{◌≡◌, ◌≢◌, ℕ, suc, ◌+◌, ◌<◌, ◌≤◌, List, [], ◌∷◌, ◌++◌, length, Some, slice_get, refl, sym, ap, ◌∙◌, subst, arith, inl, inr}
use Rattle.std.specs.Prelude.{IfSome, option_map}
use Rattle.bl_ops.specs.declared.op.Op.TheVariants as op
use Rattle.bl_wasm.specs.Linked.{IsLinked, IsFunction}
use Rattle.bl_wasm.specs.declared.linked.Function.{Function}
use Rattle.bl_wasm.specs.declared.linked.Tree.{Tree}
use Rattle.bl_program.specs.Layout.{size_of as size_variable, entry_of, command_at, Holds}
use Rattle.bl_program.specs.Programs.{IsProgram}
use Rattle.bl_program.specs.Rules.{IsLocal, Rule7, Rule8, GoesTo, Reach, variable, assign, IsPassed, IsGuarded, IsTested, IsGrowth}
use Rattle.bl_program.specs.declared.command.Command.{Command}
use Rattle.bl_program.specs.declared.command.Operand.TheVariants.{Const}
use Rattle.bl_program.proofs.Layouts.{no_entry}
use Rattle.bl_access.specs.Templates.{shift, mark_at, bounds, growth}
use Rattle.bl_lower.specs.Trees.{low_tree}
use Rattle.bl_lower.proofs.PiecePositions.{Found, bounds_of, found_other}
use Rattle.bl_lower.proofs.PieceRules.{Access, Growing, quiet, accesses, grows, Quiet}
use Rattle.bl_lower.proofs.CodeLayout.{HasAt}
use Rattle.bl_lower.proofs.LawfulCommands.{no_size}
use Rattle.bl_lower.proofs.TreeLayout.{entry_is}
use Rattle.bl_lower.proofs.Pieces.{EachAt}
use Rattle.bl_lower.proofs.Rules.{entry, those, Begin, Place, place_at, there, holds_of, inside_only, access_stays}

module _ (tree : Tree) (linked : IsLinked tree) (facts : IsProgram (low_tree tree)) (number : ℕ) (function : Function) (exists : slice_get tree.functions number ≡ Some function) (is : IsFunction tree function) where
  abbrev Entry : ℕ
  Entry = entry tree linked number function exists is

  abbrev Those : List (List Command)
  Those = those tree linked number function exists is

  -- a place strictly inside a piece
  record Inside (y start : ℕ) (piece : List Command) : Type 0 where
    found : Found Entry Those y start piece
    holds : Holds (low_tree tree) number y
    above : start < y

  inside_at : (x : ℕ) (p : Place tree linked number function exists is x) (y : ℕ) → p.start < y → y < p.start + length p.piece → Inside y p.start p.piece
  inside_at x p y above below =
      let f = found_other Entry Those x y p.start p.piece p.found (omega (arith, above)) below in
      let b = bounds_of Entry Those y p.start p.piece f in
      record { found = f; holds = holds_of tree linked number function exists is y (omega (arith, b.low, above)) (omega (arith, below, b.high)); above = above }

  -- no function begins there
  not_entry : (y start : ℕ) (piece : List Command) → Inside y start piece → (f : ℕ) → f < length (low_tree tree).functions → entry_of (low_tree tree) f ≢ y
  not_entry y start piece i f lt =
      let b = bounds_of Entry Those y start piece i.found in
      no_entry (low_tree tree) number y f i.holds (omega (arith, i.above, b.low, entry_is tree number))

  passed : (y start : ℕ) (piece : List Command) → Inside y start piece → EachAt (λ from command. GoesTo command y → ⊥) start piece → IsPassed (low_tree tree) y
  passed y start piece i each = record {
    entries = not_entry y start piece i;
    others = λ from command e goes. inside_only tree linked facts number function exists is y start piece i.found i.holds i.above (λ from command. GoesTo command y → ⊥) each from command e goes goes;
  }

  guarded : (before y start : ℕ) (piece : List Command) → Inside y start piece → EachAt (λ from command. GoesTo command y → from ≡ before) start piece → IsGuarded (low_tree tree) before y
  guarded before y start piece i each = record {
    entries = not_entry y start piece i;
    others = λ from command e goes. inside_only tree linked facts number function exists is y start piece i.found i.holds i.above (λ from command. GoesTo command y → from ≡ before) each from command e goes goes;
  }

  module _ (x : ℕ) (p : Place tree linked number function exists is x) where
    behind_traps : 7 ≤ p.start
    behind_traps = let b = p.bounds_ in omega (arith, b.low)

    -- ---- accesses

    module _ (a : Access tree linked number (Begin tree linked number function exists is) p.start p.piece) where
      abbrev Three : List Command
      Three = bounds a.size a.address a.bytes a.t p.start a.depth ++ a.last ∷ []

      three : length p.piece ≡ 3
      three = ap length a.are

      stands_three : HasAt (low_tree tree).commands p.start Three
      stands_three = subst (HasAt (low_tree tree).commands p.start) a.are p.stands

      as_piece : (K : ℕ → Command → Type 0) → EachAt K p.start Three → EachAt K p.start p.piece
      as_piece K h = subst (EachAt K p.start) (sym a.are) h

      one : Inside (suc p.start) p.start p.piece
      one = inside_at x p (suc p.start) (omega arith) (omega (arith, three))

      two : Inside (suc (suc p.start)) p.start p.piece
      two = inside_at x p (suc (suc p.start)) (omega arith) (omega (arith, three))

      abbrev reach : Reach
      reach = record { address = a.address; memory = a.memory; bytes = a.bytes }

      tested : IsTested (low_tree tree) number (suc (suc p.start)) reach
      tested = record {
        first = p.start;
        mark = mark_at a.depth;
        t = a.t;
        yes = 3;
        place = refl;
        within = holds_of tree linked number function exists is p.start (let b = p.bounds_ in b.low) (let b = p.bounds_ in omega (arith, b.high, three));
        set = stands_three.0 ∙ ap (λ s. assign (mark_at a.depth) op.Outside a.t a.address (variable s) (Const a.bytes)) a.size_is;
        test = stands_three.1.0;
        own = a.own;
        apart = a.apart;
        away = λ e. omega (arith, e, behind_traps);
        test_passed = passed (suc p.start) p.start p.piece one (as_piece (λ from command. GoesTo command (suc p.start) → ⊥) (
          (λ h. h),
          (
            (λ h. elim h [ inl e ↦ omega (arith, e, behind_traps) | inr e ↦ omega (arith, e) ]),
            ((λ h. access_stays a.last reach (suc p.start) a.reaches h), tt),
          ),
        ));
        guarded = guarded (suc p.start) (suc (suc p.start)) p.start p.piece two (as_piece (λ from command. GoesTo command (suc (suc p.start)) → from ≡ suc p.start) (
          (λ h. absurd h),
          ((λ h. refl), ((λ h. absurd (access_stays a.last reach (suc (suc p.start)) a.reaches h)), tt)),
        ));
      }

      access_rule7 : EachAt (λ position command. Rule7 (low_tree tree) number position command) p.start p.piece
      access_rule7 = as_piece (λ position command. Rule7 (low_tree tree) number position command)
          (tt, (tt, (subst (λ o. IfSome o (IsTested (low_tree tree) number (suc (suc p.start)))) (sym a.reaches) tested, tt)))

      access_rule8 : EachAt (λ position command. Rule8 (low_tree tree) number position command) p.start p.piece
      access_rule8 = as_piece (λ position command. Rule8 (low_tree tree) number position command)
          ((λ m lt e. absurd (no_size tree linked number (Begin tree linked number function exists is) a.t (inl a.own) m lt e)), (tt, (a.quiet, tt)))

    -- ---- growth

    module _ (g : Growing tree linked number (Begin tree linked number function exists is) p.start p.piece) where
      abbrev Seven : List Command
      Seven = growth g.size g.reserve g.delta g.next (shift 1 g.next) (shift 2 g.next) p.start g.depth

      seven : length p.piece ≡ 7
      seven = ap length g.are

      stands_seven : HasAt (low_tree tree).commands p.start Seven
      stands_seven = subst (HasAt (low_tree tree).commands p.start) g.are p.stands

      as_growth : (K : ℕ → Command → Type 0) → EachAt K p.start Seven → EachAt K p.start p.piece
      as_growth K h = subst (EachAt K p.start) (sym g.are) h

      at_more : (k : ℕ) → 1 ≤ k → k < 7 → Inside (p.start + k) p.start p.piece
      at_more k some lt = inside_at x p (p.start + k) (omega (arith, some)) (omega (arith, lt, seven))

      -- no command of it goes there
      still : (k : ℕ) → k < 7 → (k ≡ 3 → ⊥) → (k ≡ 6 → ⊥) → EachAt (λ from command. GoesTo command (p.start + k) → ⊥) p.start Seven
      still k lt three six = (
        (λ h. h),
        (
          (λ h. h),
          (
            (λ h. elim h [ inl e ↦ six (omega (arith, e)) | inr e ↦ three (omega (arith, e)) ]),
            ((λ h. h), ((λ h. h), ((λ e. omega (arith, e, lt)), ((λ h. h), tt)))),
          ),
        ),
      )

      passed_at : (k y : ℕ) → y ≡ p.start + k → 1 ≤ k → k < 7 → (k ≡ 3 → ⊥) → (k ≡ 6 → ⊥) → IsPassed (low_tree tree) y
      passed_at k y e some lt three six =
          subst (IsPassed (low_tree tree)) (sym e) (passed (p.start + k) p.start p.piece (at_more k some lt) (as_growth (λ from command. GoesTo command (p.start + k) → ⊥) (still k lt three six)))

      guarded_third : IsGuarded (low_tree tree) (suc (suc p.start)) (suc (suc (suc p.start)))
      guarded_third = guarded (suc (suc p.start)) (suc (suc (suc p.start))) p.start p.piece (inside_at x p (suc (suc (suc p.start))) (omega arith) (omega (arith, seven)))
          (as_growth (λ from command. GoesTo command (suc (suc (suc p.start))) → from ≡ suc (suc p.start)) (
            (λ h. absurd h),
            ((λ h. absurd h), ((λ h. refl), ((λ h. absurd h), ((λ h. absurd h), ((λ e. absurd (omega (arith, e))), ((λ h. absurd h), tt)))))),
          ))

      growing : (m : ℕ) → g.memory ≡ m → IsGrowth (low_tree tree) number (suc (suc (suc (suc p.start)))) m g.delta
      growing m same =
          let size : g.size ≡ size_variable (low_tree tree) m = omega (arith, g.size_is, same) in
          record {
            first = p.start;
            mark_r = mark_at g.depth;
            mark_t = mark_at g.depth;
            mark_v = mark_at g.depth;
            r = g.next;
            t = suc g.next;
            v = suc (suc g.next);
            yes = shift 6 p.start;
            reserve = g.reserve;
            place = refl;
            reserved = subst (λ k. option_map (λ defined. defined.reserve) (slice_get (low_tree tree).memories k) ≡ Some g.reserve) same g.reserved;
            room = stands_seven.0 ∙ ap (λ s. assign (mark_at g.depth) op.I32Sub g.next (Const g.reserve) (variable s) (Const 0)) size;
            exceeds = stands_seven.1.0;
            test = stands_seven.1.1.0;
            old = stands_seven.1.1.1.0 ∙ ap (λ s. assign (mark_at g.depth) op.Move (suc (suc g.next)) (variable s) (Const 0) (Const 0)) size;
            own_r = g.own_r;
            own_t = g.own_t;
            own_v = g.own_v;
            apart_r = g.apart_r;
            apart_t = g.apart_t;
            apart_v = g.apart_v;
            away = λ e. omega (arith, e);
            passed_t = passed_at 1 (suc p.start) (omega arith) (omega arith) (omega arith) (λ e. omega (arith, e)) (λ e. omega (arith, e));
            passed_test = passed_at 2 (suc (suc p.start)) (omega arith) (omega arith) (omega arith) (λ e. omega (arith, e)) (λ e. omega (arith, e));
            guarded = guarded_third;
            passed_size = passed_at 4 (suc (suc (suc (suc p.start)))) (omega arith) (omega arith) (omega arith) (λ e. omega (arith, e)) (λ e. omega (arith, e));
          }

      no_size_of : (y : ℕ) → IsLocal (low_tree tree) number y → (m : ℕ) → m < length (low_tree tree).memories → y ≡ size_variable (low_tree tree) m → ⊥
      no_size_of y own m lt e = no_size tree linked number (Begin tree linked number function exists is) y (inl own) m lt e

      growth_rule7 : EachAt (λ position command. Rule7 (low_tree tree) number position command) p.start p.piece
      growth_rule7 = as_growth (λ position command. Rule7 (low_tree tree) number position command) (tt, (tt, (tt, (tt, (tt, (tt, (tt, tt)))))))

      growth_rule8 : EachAt (λ position command. Rule8 (low_tree tree) number position command) p.start p.piece
      growth_rule8 = as_growth (λ position command. Rule8 (low_tree tree) number position command) (
        (λ m lt e. absurd (no_size_of g.next g.own_r m lt e)),
        (
          (λ m lt e. absurd (no_size_of (suc g.next) g.own_t m lt e)),
          (
            tt,
            (
              (λ m lt e. absurd (no_size_of (suc (suc g.next)) g.own_v m lt e)),
              (
                (λ m lt e.
                    let same : g.memory ≡ m = omega (arith, e, g.size_is) in
                    (record { sum = refl; from_size = ap (λ s. variable s) e; no_third = refl }, growing m same)),
                (tt, ((λ m lt e. absurd (no_size_of (suc (suc g.next)) g.own_v m lt e)), tt)),
              ),
            ),
          ),
        ),
      )

  pub rule7 : (x : ℕ) (command : Command) → Holds (low_tree tree) number x → command_at (low_tree tree) x ≡ Some command → Rule7 (low_tree tree) number x command
  rule7 x command holds e =
      let p = place_at tree linked number function exists is x holds in
      elim p.good.sort [
        | quiet each ↦
            let q = there tree linked number function exists is (Quiet tree linked number (Begin tree linked number function exists is)) x p command each e in
            subst (λ o. IfSome o (IsTested (low_tree tree) number x)) (sym q.0) tt
        | accesses a ↦ there tree linked number function exists is (λ position command. Rule7 (low_tree tree) number position command) x p command (access_rule7 x p a) e
        | grows g ↦ there tree linked number function exists is (λ position command. Rule7 (low_tree tree) number position command) x p command (growth_rule7 x p g) e
      ]

  pub rule8 : (x : ℕ) (command : Command) → Holds (low_tree tree) number x → command_at (low_tree tree) x ≡ Some command → Rule8 (low_tree tree) number x command
  rule8 x command holds e =
      let p = place_at tree linked number function exists is x holds in
      elim p.good.sort [
        | quiet each ↦ (there tree linked number function exists is (Quiet tree linked number (Begin tree linked number function exists is)) x p command each e).1
        | accesses a ↦ there tree linked number function exists is (λ position command. Rule8 (low_tree tree) number position command) x p command (access_rule8 x p a) e
        | grows g ↦ there tree linked number function exists is (λ position command. Rule8 (low_tree tree) number position command) x p command (growth_rule8 x p g) e
      ]
