-- The label rules and the transient rules at a command, said of what it becomes when it is fetched.
use Rattle.std.proofs.Common.{◌≡◌, ◌⊎◌, inl, inr, ℕ, suc, Bool, true, false, List, [], ◌∷◌, length, Option, Some, None, refl, sym, ap, ◌∙◌, subst, cond}
use Rattle.std.specs.Prelude.{◌&&◌, not, nat_lt, if◌then◌else◌, slice_get, IsSomeAnd, IsTrue, option_map, option_and_then, unwrap_or}
use Rattle.bl_base.specs.Quantity.{most_calls}
use Rattle.bl_base.specs.declared.names.Label.{Label}
use Rattle.bl_base.specs.declared.names.Label.TheVariants.{Public, Secret}
use Rattle.bl_base.proofs.BoolLemmas.{each_true}
use Rattle.bl_base.proofs.OptionLemmas.{with_some}
use Rattle.bl_ops.specs.OperatorTable.{is_division}
use Rattle.bl_ops.specs.declared.op.Op.TheVariants.{Move}
use Rattle.bl_program.specs.Layout.{param, result, running, command_at}
use Rattle.bl_program.specs.Sites.{Names, Among, mark_of, Loads, written_by, moved_by, sunk_by, is_protected}
use Rattle.bl_program.specs.declared.command.Command.{Command}
use Rattle.bl_program.specs.declared.command.Command.TheVariants as command
use Rattle.bl_program.specs.declared.command.Mark.{Mark}
use Rattle.bl_program.specs.declared.command.Operand.{Operand}
use Rattle.bl_program.specs.declared.command.Operand.TheVariants as operand
use Rattle.bl_program.specs.declared.definitions.MemoryDef.{MemoryDef}
use Rattle.bl_program.specs.declared.definitions.ProgramParts.{ProgramParts as Program}
use Rattle.bl_graph.specs.Labels.{KeepsLabelRules}
use Rattle.bl_graph.specs.Secrets.{TakesSecret, GivesPublic}
use Rattle.bl_transient.specs.Transient.{Flows}
use Rattle.bl_rob.specs.Machines.{Fetched, Straight, Branch, Nowhere, fetched, fetched_from, before, source_of}
use Rattle.bl_rob.specs.declared.directive.End.{End}
use Rattle.bl_rob.specs.declared.entry.Source.{Source}
use Rattle.bl_rob.specs.declared.entry.Source.TheVariants.{Const, Holds}
use Rattle.bl_rob.specs.declared.entry.Work.{Work}
use Rattle.bl_rob.specs.declared.entry.Work.TheVariants.{Nop, Assign, Load, Held, Done, Store, Ready, Guard, Fail}
use Rattle.bl_rob.specs.declared.front.Front.{Front}

-- ---- tests of variables

-- a source is a number, or a variable that is clear
abbrev pub IsClear : (ℕ → Bool) → Source → Type 0
IsClear clear (Const number) = Unit {0}
IsClear clear (Holds x) = IsTrue (clear x.var)

both_is : (a b : Bool) → a ≡ true → b ≡ true → (a && b) ≡ true
both_is a b h k = rw (h, k) refl

-- what is true of one is true of the other; so what isn't true of that isn't true of this
rolled_back : (a b : Bool) → (IsTrue a → IsTrue b) → IsTrue (not b) → IsTrue (not a)
rolled_back false b h k = refl
rolled_back true false h k = let f = h refl in cc
rolled_back true true h k = k

fine : (clear : ℕ → Bool) (program : Program) (depth : ℕ) (a : Operand) → ((x : ℕ) → Names a x → IsTrue (clear x)) → IsClear clear (source_of program depth a)
fine clear program depth (operand.Var x) h = h x.0 refl
fine clear program depth (operand.Const number) h = tt

-- ---- at a command

-- what is read of a site that isn't protected
free : (program : Program) (p : ℕ) (k : Command) → command_at program p ≡ Some k → unwrap_or (option_map (λ (mark : Mark). mark.protect) (mark_of k)) false ≡ false
    → IsTrue (not (is_protected program p))
free program p k e q =
    ap (λ o. not (unwrap_or (option_map (λ (mark : Mark). mark.protect) (option_and_then mark_of o)) false)) e ∙ ap not q

-- the operands of a quotient
divided : (b : Bool) (a c : Operand) (x : ℕ) → b ≡ true → Names a x ⊎ Among (c ∷ []) x → Among (if b then a ∷ c ∷ [] else []) x
divided b a c x e h = subst (λ t. Among (if t then a ∷ c ∷ [] else []) x) (sym e) h

-- ---- the label rules

module _ (program : Program) (labelling : ℕ → Bool) (ok : KeepsLabelRules program labelling) where
  abbrev public : ℕ → Bool
  public x = not (labelling x)

  -- a memory is declared public, where there is one
  abbrev pub IsPublicMemory : ℕ → Type 0
  IsPublicMemory memory = (defined : MemoryDef) → slice_get program.memories memory ≡ Some defined → defined.label ≡ Public

  -- the rules at what is fetched; nothing else is fetched
  abbrev pub Labels : Work → Type 0
  Labels Nop = Unit {0}
  Labels (Assign protect op to a b c) = IsTrue (public to.var) → IsClear public a × IsClear public b × IsClear public c
  Labels (Load protect kind memory to offset address) = IsClear public address × (IsTrue (public to.var) → IsPublicMemory memory)
  Labels (Held to value) = ⊥
  Labels (Done to value) = ⊥
  Labels (Store kind memory offset address value) =
      IsClear public address × ((defined : MemoryDef) → slice_get program.memories memory ≡ Some defined → defined.label ≡ Public → IsClear public value)
  Labels (Ready kind memory offset address value) = ⊥
  Labels (Guard cond predicted other chain) = ⊥
  Labels (Fail kind) = Unit {0}

  abbrev pub LabelsOf : Fetched → Type 0
  LabelsOf (Straight work front) = Labels work
  LabelsOf (Branch cond one other) = IsClear public cond
  LabelsOf Nowhere = Unit {0}

  module _ (p : ℕ) (k : Command) (e : command_at program p ≡ Some k) where
    public_sink : (x : ℕ) → Among (sunk_by k) x → IsTrue (public x)
    public_sink x h = ok.sinks p x (with_some (command_at program p) (λ c. Among (sunk_by c) x) k e h)

    public_move : (x y : ℕ) → Among (moved_by k) x → written_by program p k ≡ Some y → IsTrue (public y) → IsTrue (public x)
    public_move x y h w =
        rolled_back (labelling x) (labelling y)
        (ok.assigns.moves p x y (with_some (command_at program p) (λ c. Among (moved_by c) x) k e h) (with_some (command_at program p) (λ c. written_by program p c ≡ Some y) k e w))

    public_store : (x : ℕ) → GivesPublic program k x → IsTrue (public x)
    public_store x h = ok.stores p x (with_some (command_at program p) (λ c. GivesPublic program c x) k e h)

    public_load : (memory y : ℕ) → TakesSecret program k memory → written_by program p k ≡ Some y → IsTrue (public y) → ⊥
    public_load memory y h w q =
        let secret = ok.assigns.loads p memory y (with_some (command_at program p) (λ c. TakesSecret program c memory) k e h) (with_some (command_at program p) (λ c. written_by program p c ≡ Some y) k e w) in
        opposite (labelling y) secret q
      where
        opposite : (b : Bool) → IsTrue b → IsTrue (not b) → ⊥
        opposite true h q = cc
        opposite false h q = cc

  public_or : (memory : ℕ) (defined : MemoryDef) (l : Label) → defined.label ≡ l → (l ≡ Secret → ⊥) → l ≡ Public
  public_or memory defined Public e h = refl
  public_or memory defined Secret e h = absurd (h refl)

  call_labels : (few : Bool) (one other : Fetched) → LabelsOf one → LabelsOf other → LabelsOf (if few then one else other)
  call_labels true one other h k = h
  call_labels false one other h k = k

  labels_at : (p : ℕ) (chain : List ℕ) (o : Option Command) → command_at program p ≡ o → LabelsOf (fetched program p chain o)
  labels_at p chain None e = tt
  labels_at p chain (Some (command.Set mark op to a b c)) e = λ q.
      let k : Command = command.Set mark op to a b c in
      let depth = suc (length chain) in (
        fine public program depth a (λ x n. public_move p k e x to.0 (inl n) refl q),
        fine public program depth b (λ x n. public_move p k e x to.0 (inr (inl n)) refl q),
        fine public program depth c (λ x n. public_move p k e x to.0 (inr (inr (inl n))) refl q),
      )
  labels_at p chain (Some (command.Load mark kind memory to offset address)) e =
      let k : Command = command.Load mark kind memory to offset address in (
        fine public program (suc (length chain)) address (λ x n. public_sink p k e x (inl n)),
        λ q defined is. public_or memory defined defined.label refl
            (λ s. public_load p k e memory to.0 (refl, subst (λ o. IsSomeAnd o (λ (m : MemoryDef). m.label ≡ Secret)) (sym is) s) refl q),
      )
  labels_at p chain (Some (command.Store kind memory offset address value)) e =
      let k : Command = command.Store kind memory offset address value in (
        fine public program (suc (length chain)) address (λ x n. public_sink p k e x (inl n)),
        λ defined is s. fine public program (suc (length chain)) value
            (λ x n. public_store p k e x (subst (λ o. IsSomeAnd o (λ (m : MemoryDef). m.label ≡ Public)) (sym is) s, n)),
      )
  labels_at p chain (Some (command.Test cond one other)) e =
      fine public program (suc (length chain)) cond (λ x n. public_sink p (command.Test cond one other) e x (inl n))
  labels_at p chain (Some (command.Arg mark function index value)) e = λ q.
      let k : Command = command.Arg mark function index value in
      (fine public program (suc (length chain)) value (λ x n. public_move p k e x (param program function index) (inl n) refl q), tt, tt)
  labels_at p chain (Some (command.Call function)) e = call_labels (nat_lt (suc (length chain)) most_calls) _ _ tt tt
  labels_at p chain (Some (command.Out mark index value)) e = λ q.
      let k : Command = command.Out mark index value in
      (fine public program (suc (length chain)) value (λ x n. public_move p k e x (result program (running program p) index) (inl n) refl q), tt, tt)
  labels_at p chain (Some _) e = tt

  labels_from : (front : Front) (end : Option End) → LabelsOf (fetched_from program front end)
  labels_from front None = labels_at front.position front.chain (command_at program front.position) refl
  labels_from front (Some end) = tt

  pub labels_before : (front : Front) → LabelsOf (before program front)
  labels_before front = labels_from front front.end

-- ---- both together, where the program's own marks are the protects

-- the rules at an entry of the buffer: what is clear comes of a protected site, or of what is clear
abbrev pub Keeps : (ℕ → Bool) → Work → Type 0
Keeps clear Nop = Unit {0}
Keeps clear (Assign protect op to a b c) =
    (is_division op ≡ true → IsClear clear a × IsClear clear b) × (protect ≡ false → IsTrue (clear to.var) → IsClear clear a × IsClear clear b × IsClear clear c)
Keeps clear (Load protect kind memory to offset address) = IsClear clear address × (protect ≡ false → IsTrue (clear to.var) → ⊥)
Keeps clear (Held to value) = Unit {0}
Keeps clear (Done to value) = Unit {0}
Keeps clear (Store kind memory offset address value) = IsClear clear address
Keeps clear (Ready kind memory offset address value) = Unit {0}
Keeps clear (Guard cond predicted other chain) = IsClear clear cond
Keeps clear (Fail kind) = Unit {0}

abbrev pub KeepsOf : (ℕ → Bool) → Fetched → Type 0
KeepsOf clear (Straight work front) = Keeps clear work
KeepsOf clear (Branch cond one other) = IsClear clear cond
KeepsOf clear Nowhere = Unit {0}

no_move : is_division Move ≡ true → ⊥
no_move h = cc

module _ (program : Program) (typing labelling : ℕ → Bool) (flows : Flows program typing (is_protected program)) (ok : KeepsLabelRules program labelling) where
  -- stable and public
  abbrev pub clear : ℕ → Bool
  clear x = not (typing x) && not (labelling x)

  module _ (p : ℕ) (k : Command) (e : command_at program p ≡ Some k) where
    clear_sink : (x : ℕ) → Among (sunk_by k) x → IsTrue (clear x)
    clear_sink x h = both_is _ _ (flows.sinks p x (with_some (command_at program p) (λ c. Among (sunk_by c) x) k e h)) (public_sink program labelling ok p k e x h)

    clear_move : (x y : ℕ) → Among (moved_by k) x → written_by program p k ≡ Some y → IsTrue (not (is_protected program p)) → IsTrue (clear y) → IsTrue (clear x)
    clear_move x y h w open_ q =
        let parts = each_true (not (typing y)) (not (labelling y)) q in
        both_is _ _
        (rolled_back (typing x) (typing y)
        (flows.assigns.moves p x y (with_some (command_at program p) (λ c. Among (moved_by c) x) k e h) (with_some (command_at program p) (λ c. written_by program p c ≡ Some y) k e w) open_) parts.0)
        (public_move program labelling ok p k e x y h w parts.1)

  call_keeps : (few : Bool) (one other : Fetched) → KeepsOf clear one → KeepsOf clear other → KeepsOf clear (if few then one else other)
  call_keeps true one other h k = h
  call_keeps false one other h k = k

  -- a Load that isn't protected writes what isn't stable
  unstable : (b : Bool) (d : Bool) → IsTrue b → IsTrue (not b && d) → ⊥
  unstable true d h q = cc
  unstable false d h q = cc

  keeps_at : (p : ℕ) (chain : List ℕ) (o : Option Command) → command_at program p ≡ o → KeepsOf clear (fetched program p chain o)
  keeps_at p chain None e = tt
  keeps_at p chain (Some (command.Set mark op to a b c)) e =
      let k : Command = command.Set mark op to a b c in
      let depth = suc (length chain) in (
        λ d. (
          fine clear program depth a (λ x n. clear_sink p k e x (divided (is_division op) a b x d (inl n))),
          fine clear program depth b (λ x n. clear_sink p k e x (divided (is_division op) a b x d (inr (inl n)))),
        ),
        λ f q. (
          fine clear program depth a (λ x n. clear_move p k e x to.0 (inl n) refl (free program p k e f) q),
          fine clear program depth b (λ x n. clear_move p k e x to.0 (inr (inl n)) refl (free program p k e f) q),
          fine clear program depth c (λ x n. clear_move p k e x to.0 (inr (inr (inl n))) refl (free program p k e f) q),
        ),
      )
  keeps_at p chain (Some (command.Load mark kind memory to offset address)) e =
      let k : Command = command.Load mark kind memory to offset address in (
        fine clear program (suc (length chain)) address (λ x n. clear_sink p k e x (inl n)),
        λ f q. unstable (typing to.0) (not (labelling to.0))
            (flows.assigns.loads p to.0 (with_some (command_at program p) Loads k e tt) (with_some (command_at program p) (λ c. written_by program p c ≡ Some to.0) k e refl) (free program p k e f)) q,
      )
  keeps_at p chain (Some (command.Store kind memory offset address value)) e =
      fine clear program (suc (length chain)) address (λ x n. clear_sink p (command.Store kind memory offset address value) e x (inl n))
  keeps_at p chain (Some (command.Test cond one other)) e =
      fine clear program (suc (length chain)) cond (λ x n. clear_sink p (command.Test cond one other) e x (inl n))
  keeps_at p chain (Some (command.Jump to)) e = tt
  keeps_at p chain (Some (command.Arg mark function index value)) e =
      let k : Command = command.Arg mark function index value in (
        λ d. absurd (no_move d),
        λ f q. (
          fine clear program (suc (length chain)) value (λ x n. clear_move p k e x (param program function index) (inl n) refl (free program p k e f) q),
          tt,
          tt,
        ),
      )
  keeps_at p chain (Some (command.Call function)) e = call_keeps (nat_lt (suc (length chain)) most_calls) _ _ tt tt
  keeps_at p chain (Some (command.Out mark index value)) e =
      let k : Command = command.Out mark index value in (
        λ d. absurd (no_move d),
        λ f q. (
          fine clear program (suc (length chain)) value
              (λ x n. clear_move p k e x (result program (running program p) index) (inl n) refl (free program p k e f) q),
          tt,
          tt,
        ),
      )
  keeps_at p chain (Some command.Ret) e = tt
  keeps_at p chain (Some (command.Trap kind)) e = tt

  keeps_from : (front : Front) (end : Option End) → KeepsOf clear (fetched_from program front end)
  keeps_from front None = keeps_at front.position front.chain (command_at program front.position) refl
  keeps_from front (Some end) = tt

  pub keeps_before : (front : Front) → KeepsOf clear (before program front)
  keeps_before front = keeps_from front front.end
