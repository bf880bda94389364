-- A part whose typing agrees with the whole's: its commands keep the transient rules there.
use Rattle.std.proofs.Common.{◌≡◌, ℕ, ◌+◌, ◌<◌, ◌≤◌, Bool, true, false, List, [], ◌∷◌, length, map, Option, Some, IsTrue, refl, sym, ap, ◌∙◌, subst, arith}
use Rattle.std.specs.Prelude.{IsSomeAnd, if◌then◌else◌, not}
use Rattle.std.proofs.lemmas.Bool.{false≢true}
use Rattle.std.proofs.lemmas.Option.{none-some, same_Some, slice_get_within}
use Rattle.bl_base.specs.declared.trap.Trap.{Trap as TrapKind}
use Rattle.bl_base.proofs.OptionLemmas.{some_with}
use Rattle.bl_ops.specs.OperatorTable.{is_division}
use Rattle.bl_program.specs.Layout.{first_of, param, params_of, result, results_of, running, command_at, Holds}
use Rattle.bl_program.specs.Programs.{IsProgram}
use Rattle.bl_program.specs.Rules.{IsOwn, IsReadable, IsWellFormed, Rule4, Rule6, operands_of}
use Rattle.bl_program.specs.Sites.{Among, Loads, moved_by, sunk_by, written_by}
use Rattle.bl_program.specs.declared.command.Command.{Command}
use Rattle.bl_program.specs.declared.command.Command.TheVariants.{Set, Load, Arg, Out, Trap}
use Rattle.bl_program.specs.declared.command.Operand.{Operand}
use Rattle.bl_program.specs.declared.definitions.ProgramParts.{ProgramParts as Program}
use Rattle.bl_program.proofs.SiteOperands.{moved_in, sunk_in}
use Rattle.bl_program.proofs.Layouts.{held_by, result_own, running_is}
use Rattle.bl_program.proofs.VariableBounds.{own_small, writable_small}
use Rattle.bl_transient.specs.Transient.{Flows}
use Rattle.bl_iface.specs.JoinedProgram.{Renaming, moved_var, operand_by, renamed}
use Rattle.bl_iface.specs.declared.shift.Shift.{Shift}
use Rattle.bl_iface.proofs.EmbedLemmas.{Embeds, among_renamed}
use Rattle.bl_iface.proofs.ShiftedPart.{IsFrom, Shifted, moved_own, result_moved}

-- a typing of the part agrees with one of the whole: what is transient where it is read was so, and what was so where it is written is
pub record Typed (part whole : Program) (shift : Shift) (n : Renaming) (typing joint : ℕ → Bool) : Type 0 where
  pub same : (x : ℕ) → x < first_of part (length part.functions) → joint (moved_var shift part x) ≡ typing x
  pub reads : (f x : ℕ) → f < length part.functions → IsReadable part f x → IsTrue (joint (n.read x)) → IsTrue (typing x)
  pub args : (g i : ℕ) → g < length part.functions → i < params_of part g → IsTrue (typing (param part g i)) → IsTrue (joint (param whole (n.callee g) i))

pub contra : (a b : Bool) → (IsTrue a → IsTrue b) → IsTrue (not b) → IsTrue (not a)
contra true true h e = e
contra true false h e = absurd (false≢true (h refl))
contra false b h e = refl

-- the transient rules at one command
pub record AtSite (program : Program) (typing set : ℕ → Bool) (s : ℕ) (c : Command) : Type 0 where
  pub loads : (x : ℕ) → Loads c → written_by program s c ≡ Some x → IsTrue (not (set s)) → IsTrue (typing x)
  pub moves : (x y : ℕ) → Among (moved_by c) x → written_by program s c ≡ Some y → IsTrue (not (set s)) → IsTrue (typing x) → IsTrue (typing y)
  pub sinks : (x : ℕ) → Among (sunk_by c) x → IsTrue (not (typing x))

-- a trap keeps them
pub trap_keeps : (program : Program) (typing set : ℕ → Bool) (s : ℕ) (kind : TrapKind) → AtSite program typing set s (Trap kind)
trap_keeps program typing set s kind = record { loads = λ x h is bare. absurd h; moves = λ x y h is bare t. absurd h; sinks = λ x h. absurd h }

-- what is so of what is there
pub known : {X : Type 0} (o : Option X) (x : X) (P : X → Type 0) → IsSomeAnd o P → o ≡ Some x → P x
known o x P h e = subst (λ k. IsSomeAnd k P) e h

-- a typing that keeps them at each command keeps them all
pub flows_from : (program : Program) (typing set : ℕ → Bool) → ((s : ℕ) (c : Command) → command_at program s ≡ Some c → AtSite program typing set s c) → Flows program typing set
flows_from program typing set each = record {
  assigns = record {
    loads = λ s x load writes bare.
        let c = some_with (command_at program s) Loads load in
        (each s c.0 c.1).loads x c.2 (known (command_at program s) c.0 (λ k. written_by program s k ≡ Some x) writes c.1) bare;
    moves = λ s x y reads writes bare t.
        let c = some_with (command_at program s) (λ k. Among (moved_by k) x) reads in
        (each s c.0 c.1).moves x y c.2 (known (command_at program s) c.0 (λ k. written_by program s k ≡ Some y) writes c.1) bare t;
    given = λ x h. cc;
  };
  sinks = λ s x reads.
      let c = some_with (command_at program s) (λ k. Among (sunk_by k) x) reads in
      (each s c.0 c.1).sinks x c.2;
  stable = λ x h. cc;
}

-- ---- renamed commands

module _ (n : Renaming) where
  moved_renamed : (c : Command) → moved_by (renamed n c) ≡ map (operand_by n.read) (moved_by c)
  moved_renamed c = elim c as (λ c. moved_by (renamed n c) ≡ map (operand_by n.read) (moved_by c)) [ Set mark op to a b d ↦ refl | _ ↦ refl ]

  sunk_set : (b : Bool) (x y : Operand) → (if b then operand_by n.read x ∷ operand_by n.read y ∷ [] else []) ≡ map (operand_by n.read) (if b then x ∷ y ∷ [] else [])
  sunk_set true x y = refl
  sunk_set false x y = refl

  sunk_renamed : (c : Command) → sunk_by (renamed n c) ≡ map (operand_by n.read) (sunk_by c)
  sunk_renamed (Set mark op to a b c) = sunk_set (is_division op) a b
  sunk_renamed _ = refl

  loads_renamed : (c : Command) → Loads (renamed n c) → Loads c
  loads_renamed c = elim c as (λ c. Loads (renamed n c) → Loads c) [ Set mark op to a b d ↦ λ h. h | _ ↦ λ h. h ]

-- ---- variables are fewer than all

module _ (part whole : Program) (shift : Shift) (n : Renaming) (typing joint set : ℕ → Bool) (s : Shifted part whole shift n) (e : Embeds part whole n (λ f. shift.functions + f))
    (write_is : (x : ℕ) → n.write x ≡ moved_var shift part x) (typed : Typed part whole shift n typing joint) (well : IsWellFormed part) (flows : Flows part typing set) where
  -- a variable that is written where it is moved to
  assigned : (x y : ℕ) → x < first_of part (length part.functions) → Some (n.write x) ≡ Some y → IsTrue (typing x) → IsTrue (joint y)
  assigned x y lt is t = ap joint (sym (same_Some (n.write x) y is) ∙ write_is x) ∙ typed.same x lt ∙ t

  handed : (f p i y : ℕ) → Holds part f p → i < results_of part f → Some (result whole (running whole (n.position p)) i) ≡ Some y
      → IsTrue (typing (result part (running part p) i)) → IsTrue (joint y)
  handed f p i y holds lt is t =
      let here : running part p ≡ f = running_is part f p holds in
      let there : running whole (n.position p) ≡ shift.functions + f = running_is whole (shift.functions + f) (n.position p) (e.holds f p holds) in
      let own : IsOwn part f (result part f i) = result_own part f (result part f i) well.rule2 (omega arith, omega arith) in
      let at : y ≡ moved_var shift part (result part f i) =
      sym (same_Some _ y is) ∙ ap (λ k. result whole k i) there ∙ result_moved part whole shift n s f i holds.exists ∙ sym (moved_own shift part (result part f i) (omega arith)) in
      ap joint at ∙ typed.same (result part f i) (own_small part well.rule2 f (result part f i) own) ∙ ap (λ k. typing (result part k i)) (sym here) ∙ t

  written : (f p : ℕ) (c : Command) (y : ℕ) → Holds part f p → Rule4 part f c → Rule6 part f c → written_by whole (n.position p) (renamed n c) ≡ Some y
      → (was : ℕ) × (written_by part p c ≡ Some was) × (IsTrue (typing was) → IsTrue (joint y))
  written f p (Set mark op to a b c) y holds four six is = (to.0, refl, assigned to.0 y (writable_small part well.rule2 f to.0 four.writes) is)
  written f p (Load mark kind memory to offset address) y holds four six is = (to.0, refl, assigned to.0 y (writable_small part well.rule2 f to.0 four.writes) is)
  written f p (Arg mark function index value) y holds four six is =
      (param part function index, refl, λ t. subst (λ k. IsTrue (joint k)) (same_Some _ y is) (typed.args function index six.1 six.2 t))
  written f p (Out mark index value) y holds four six is = (result part (running part p) index, refl, handed f p index y holds six.1 is)
  written f p _ y holds four six is = absurd (none-some y is)

  -- a read of the part, and what its variable was
  was_read : (f : ℕ) (c : Command) (x : ℕ) (operands : List Operand) → f < length part.functions → Rule4 part f c → ((y : ℕ) → Among operands y → Among (operands_of c) y)
      → Among (map (operand_by n.read) operands) x → (was : ℕ) × Among operands was × (IsTrue (joint x) → IsTrue (typing was))
  was_read f c x operands lt four among h =
      let found = among_renamed n operands x h in
      (found.0, found.1, λ t. typed.reads f found.0 lt (four.reads found.0 (among found.0 found.1)) (subst (λ k. IsTrue (joint k)) (sym found.2) t))

  module _ (f p : ℕ) (c : Command) (holds : Holds part f p) (stands : command_at part p ≡ Some c) where
    here : (P : Command → Type 0) → P c → IsSomeAnd (command_at part p) P
    here P h = subst (λ o. IsSomeAnd o P) (sym stands) h

    loads_at : (y : ℕ) → Loads (renamed n c) → written_by whole (n.position p) (renamed n c) ≡ Some y → IsTrue (not (set p)) → IsTrue (joint y)
    loads_at y loads is bare =
        let site = written f p c y holds (well.rule4 p f c holds stands) (well.rule6 p f c holds stands) is in
        site.2 (flows.assigns.loads p site.0 (here Loads (loads_renamed n c loads)) (here (λ k. written_by part p k ≡ Some site.0) site.1) bare)

    moves_at : (x y : ℕ) → Among (moved_by (renamed n c)) x → written_by whole (n.position p) (renamed n c) ≡ Some y → IsTrue (not (set p)) → IsTrue (joint x) → IsTrue (joint y)
    moves_at x y reads is bare t =
        let four = well.rule4 p f c holds stands in
        let site = written f p c y holds four (well.rule6 p f c holds stands) is in
        let read = was_read f c x (moved_by c) holds.exists four (moved_in c) (subst (λ l. Among l x) (moved_renamed n c) reads) in
        site.2 (flows.assigns.moves p read.0 site.0 (here (λ k. Among (moved_by k) read.0) read.1) (here (λ k. written_by part p k ≡ Some site.0) site.1) bare (read.2 t))

    sinks_at : (x : ℕ) → Among (sunk_by (renamed n c)) x → IsTrue (not (joint x))
    sinks_at x reads =
        let four = well.rule4 p f c holds stands in
        let read = was_read f c x (sunk_by c) holds.exists four (sunk_in c) (subst (λ l. Among l x) (sunk_renamed n c) reads) in
        contra (joint x) (typing read.0) read.2 (flows.sinks p read.0 (here (λ k. Among (sunk_by k) read.0) read.1))

  -- a command of the part keeps the transient rules in the whole, where the same sites are protected
  pub from_part : IsProgram part → (marks : ℕ → Bool) → ((p : ℕ) → 7 ≤ p → p < length part.commands → (n.position p ≡ p + shift.commands) × (marks (p + shift.commands) ≡ set p))
      → (p : ℕ) (c : Command) → IsFrom part shift n p c → AtSite whole joint marks p c
  from_part facts marks same p c from =
      let within = slice_get_within part.commands from.start from.command from.stands in
      let held = held_by part from.start facts from.behind within in
      let at = same from.start from.behind within in
      let there : n.position from.start ≡ p = at.0 ∙ sym from.moved in
      let mark : marks (n.position from.start) ≡ set from.start = ap marks at.0 ∙ at.1 in
      let kept : AtSite whole joint marks (n.position from.start) (renamed n from.command) = record {
        loads = λ x loads is bare. loads_at held.0 from.start from.command held.1 from.stands x loads is (ap not (sym mark) ∙ bare);
        moves = λ x y reads is bare t. moves_at held.0 from.start from.command held.1 from.stands x y reads is (ap not (sym mark) ∙ bare) t;
        sinks = λ x reads. sinks_at held.0 from.start from.command held.1 from.stands x reads;
      } in
      subst (λ k. AtSite whole joint marks k c) there (subst (AtSite whole joint marks (n.position from.start)) (sym from.is) kept)
